use Rattle.std.proofs.Common.{◌+◌, ◌<◌, ◌^◌, arith}
use Rattle.nesl_types.specs.declared.bindings.Top.TheVariants as kind
use Rattle.nesl_syntax_tree.specs.Views.{pattern_tree, tree_of}
use Rattle.nesl_builtins.specs.FunctionTypes.{function_type}
use Rattle.nesl_eval_top_level.specs.declared.env.Payload.TheVariants as payload
use Rattle.nesl_eval_top_level.specs.Stored.{top_of}
use Rattle.nesl_session_bindings.specs.Meanings.{function, nodes_in}
use Rattle.nesl_session_bindings.specs.Stored.{bindings_of}
use Rattle.nesl_session_bindings.proofs.Counts.{put_elements}
use Rattle.nesl_session_bindings.proofs.Kept.{set_is, few_enough, function_set}
use Rattle.nesl_session_bindings.proofs.bindings.Bindings.set_function.Goals as goal

pub nodes-requires : goal.nodes-requires
nodes-requires c =
    let body : nodes_in (tree_of c.args.body) < 2 ^ 64 =
    omega (arith, c.requires.room, put_elements c.args.name.now (function (function_type c.args.scheme) (pattern_tree c.args.pattern) (tree_of c.args.body)) (bindings_of c.args.self.now)) in
    body

pub overflow_add-elements : goal.overflow_add-elements
overflow_add-elements c =
    let few : c.other_elements-others.result + c.nodes.result < 2 ^ 64 =
    few_enough c.self.inside.env c.args.self.now c.self.inside.env c.args.name.now c.self.view_is (function (function_type c.args.scheme) (pattern_tree c.args.pattern) (tree_of c.args.body)) (2 ^ 64)
    c.other_elements-others.result c.nodes.result c.other_elements-others.ensures c.nodes.ensures c.requires.room in
    omega (arith, few)

pub invariant_of-self-2 : goal.invariant_of-self-2
invariant_of-self-2 c =
    function_set c.self.inside.env c.args.self.now c.set.new.self c.args.name.now c.self.view_is c.self.inside.elements c.other_elements-others.result c.nodes.result c.self.invariant c.other_elements-others.ensures
    (c.inferred_lines_keep_types.ensures.functions top_of) c.args.scheme c.args.pattern c.args.body c.requires.typed c.requires.free c.in_ok-set.ensures.ok c.nodes.ensures

pub returns-clause-ok : goal.returns-clause-ok
returns-clause-ok c =
    set_is c.self.inside.env c.args.self.now c.set.new.self c.args.name.now c.self.view_is (kind.Function c.args.scheme) (payload.Function c.args.pattern c.args.body) c.in_ok-set.ensures.ok
