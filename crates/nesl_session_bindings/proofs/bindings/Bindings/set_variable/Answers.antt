use Rattle.std.proofs.Common.{◌+◌, ◌<◌, ◌^◌, arith}
use Rattle.nesl_types.specs.declared.bindings.Top.TheVariants as kind
use Rattle.nesl_values.specs.View.{tree_of}
use Rattle.nesl_eval_top_level.specs.declared.env.Payload.TheVariants as payload
use Rattle.nesl_eval_top_level.specs.Stored.{top_of}
use Rattle.nesl_session_bindings.specs.Meanings.{variable}
use Rattle.nesl_session_bindings.proofs.Kept.{set_is, few_enough, variable_set}
use Rattle.nesl_session_bindings.proofs.bindings.Bindings.set_variable.Goals as goal

pub overflow_add-elements : goal.overflow_add-elements
overflow_add-elements c =
    let few : c.other_elements-others.result + c.nodes.result < 2 ^ 64 =
    few_enough c.self.inside.env c.args.self.now c.self.inside.env c.args.name.now c.self.view_is (variable c.args.ty (tree_of c.args.value)) (2 ^ 64)
    c.other_elements-others.result c.nodes.result c.other_elements-others.ensures c.nodes.ensures c.requires.room in
    omega (arith, few)

pub invariant_of-self-2 : goal.invariant_of-self-2
invariant_of-self-2 c =
    variable_set c.self.inside.env c.args.self.now c.set.new.self c.args.name.now c.self.view_is c.self.inside.elements c.other_elements-others.result c.nodes.result c.self.invariant c.other_elements-others.ensures
    (c.inferred_lines_keep_types.ensures.variables top_of) c.args.ty c.args.value c.requires.computed c.requires.free c.in_ok-set.ensures.ok c.nodes.ensures

pub returns-clause-ok : goal.returns-clause-ok
returns-clause-ok c =
    set_is c.self.inside.env c.args.self.now c.set.new.self c.args.name.now c.self.view_is (kind.Variable c.args.ty) (payload.Variable c.args.value) c.in_ok-set.ensures.ok
