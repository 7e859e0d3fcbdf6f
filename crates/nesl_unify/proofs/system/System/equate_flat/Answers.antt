use Rattle.std.proofs.Common.{◌∙◌, ap, length}
use Rattle.nesl_unify_graph.specs.Graph.{node_type}
use Rattle.nesl_unify.specs.declared.fact.Fact.{Fact}
use Rattle.nesl_types_shared.specs.Substitution.{substitute}
use Rattle.nesl_unify.specs.Flat.{flat_type}
use Rattle.nesl_unify.proofs.Facts.{true_push, kept_none, flat_same}
use Rattle.nesl_unify.proofs.system.System.equate_flat.Goals as goal

pub returns-clause-holds : goal.returns-clause-holds
returns-clause-holds c = λ s.
    let a = c.args.self.now in
    let i = a.instances in
    let v = c.args.variable in
    let f : Fact = record { variable = v; node = c.flat_node-node.result } in
    true_push i i (length a.members.items) a.facts.items c.push_with_room.new.items.items f s (substitute s (flat_type c.args.flat)) c.requires.system.facts (kept_none i)
    c.in_ok-push_with_room.ensures (ap (node_type i s (s v)) c.flat_node-node.ensures ∙ flat_same i s (s v) c.args.flat)
