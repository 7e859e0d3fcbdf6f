use Rattle.std.proofs.Common.{ℕ, ◌+◌, ◌<◌, ◌^◌, ◌∙◌, ap, arith}
use Rattle.nesl_types.specs.declared.bindings.Top.TheVariants as kind
use Rattle.nesl_eval_top_level.specs.declared.env.Payload.TheVariants as payload
use Rattle.nesl_eval_top_level.specs.Stored.{top_of}
use Rattle.nesl_session_bindings.specs.Known.{datatype_count, put_binding}
use Rattle.nesl_session_bindings.specs.Meanings.{datatype}
use Rattle.nesl_session_bindings.specs.Stored.{bindings_of}
use Rattle.nesl_session_bindings.proofs.Kept.{set_is, few_enough, datatype_set, tag_is_next}
use Rattle.nesl_session_bindings.proofs.bindings.Bindings.set_datatype.Goals as goal

pub overflow_add-elements : goal.overflow_add-elements
overflow_add-elements c =
    let few : c.other_elements-others.result + c.nodes_of.result < 2 ^ 64 =
    few_enough c.self.inside.env c.args.self.now c.self.inside.env c.args.name.now c.self.view_is (datatype (datatype_count (bindings_of c.args.self.now)) c.args.content) (2 ^ 64)
    c.other_elements-others.result c.nodes_of.result c.other_elements-others.ensures c.nodes_of.ensures c.requires.room in
    omega (arith, few)

pub invariant_of-self-2 : goal.invariant_of-self-2
invariant_of-self-2 c =
    datatype_set c.self.inside.env c.args.self.now c.set.new.self c.args.name.now c.self.view_is c.self.inside.elements c.other_elements-others.result c.nodes_of.result c.self.invariant c.other_elements-others.ensures
    (c.inferred_lines_keep_types.ensures.datatypes top_of) c.datatypes-tag.result c.datatypes-tag.ensures c.args.content c.requires.written c.requires.free c.in_ok-set.ensures.ok c.nodes_of.ensures

pub returns-clause-ok : goal.returns-clause-ok
returns-clause-ok c =
    set_is c.self.inside.env c.args.self.now c.set.new.self c.args.name.now c.self.view_is (kind.Datatype c.datatypes-tag.result c.args.content) payload.Datatype c.in_ok-set.ensures.ok
    ∙ ap (λ (k : ℕ). put_binding c.args.name.now (datatype k c.args.content) (bindings_of c.args.self.now))
    (tag_is_next c.self.inside.env c.args.self.now c.set.new.self c.args.name.now c.self.view_is c.self.inside.elements c.other_elements-others.result c.nodes_of.result c.self.invariant c.other_elements-others.ensures
    c.datatypes-tag.result c.datatypes-tag.ensures)
