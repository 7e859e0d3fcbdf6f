use Rattle.std.proofs.Common.{◌<◌, ℕ, List, length, subst, rules}
use Rattle.nesl_types_shared.specs.Term.{Term, nodes}
use Rattle.nesl_unify_graph.specs.declared.node.Node.{Node}
use Rattle.nesl_unify_graph.specs.Graph.{Fits}
use Rattle.nesl_unify_graph.specs.Readings.{AreReadWithin}
use Rattle.nesl_unify.proofs.Starts.{start_table, start_pairs}
use Rattle.nesl_unify.proofs.Solves.{none_joined, joined_holds, joined_general, joined_none, joined_solved}
use Rattle.nesl_unify.proofs.solve.solve_graph.Goals as goal

pub unify-requires-clause-table : goal.unify-requires-clause-table
unify-requires-clause-table c =
    start_table c.args.instances.now c.args.count c.args.facts.now c.in_ok-nodes.field-0.nodes.items c.in_ok-nodes.field-0.pairs.items c.requires c.in_ok-nodes.ensures

pub unify-requires-clause-pending : goal.unify-requires-clause-pending
unify-requires-clause-pending c =
    start_pairs c.args.instances.now c.args.count c.args.facts.now c.in_ok-nodes.field-0.nodes.items c.in_ok-nodes.field-0.pairs.items c.requires c.in_ok-nodes.ensures

pub returns-in_err-unify-clause-none : goal.returns-in_err-unify-clause-none
returns-in_err-unify-clause-none c = λ e s b t.
    none_joined c.args.instances.now c.args.count c.args.facts.now c.in_ok-nodes.field-0.nodes.items c.in_ok-nodes.field-0.pairs.items c.requires c.in_ok-nodes.ensures
    (c.in_err-unify.ensures.none (search rules)) s t

pub returns-then-not-branch-clause-none : goal.returns-then-not-branch-clause-none
returns-then-not-branch-clause-none c = λ e s b t.
    let i = c.args.instances.now in
    let large = subst (λ (l : List Node). (w : ℕ → Term) → Fits i w l → (p : ℕ) × ((p < length l) × (4096 < nodes (w p)))) c.as_slice.ensures.value (c.in_ok-are_within.ensures.no c.if-not-branch.true) in
    joined_none i c.args.count c.args.facts.now c.in_ok-nodes.field-0.nodes.items c.in_ok-nodes.field-0.pairs.items c.requires c.in_ok-nodes.ensures
    c.unify.new.nodes.items c.in_ok-unify.ensures.joined large s b t

pub returns-clause-solved : goal.returns-clause-solved
returns-clause-solved c =
    let i = c.args.instances.now in
    joined_solved i c.args.count c.args.facts.now c.in_ok-nodes.field-0.nodes.items c.in_ok-nodes.field-0.pairs.items c.requires c.in_ok-nodes.ensures
    c.unify.new.nodes.items c.in_ok-unify.ensures.joined c.in_ok-unify.ensures.table c.in_ok-unify.ensures.flat
    (subst (λ (l : List Node). AreReadWithin i l 4096) c.as_slice.ensures.value (c.in_ok-are_within.ensures.yes c.if-not-branch.false))

pub returns-clause-holds : goal.returns-clause-holds
returns-clause-holds c =
    joined_holds c.args.instances.now c.args.count c.args.facts.now c.in_ok-nodes.field-0.nodes.items c.in_ok-nodes.field-0.pairs.items c.requires c.in_ok-nodes.ensures
    c.unify.new.nodes.items c.in_ok-unify.ensures.joined

pub returns-clause-general : goal.returns-clause-general
returns-clause-general c =
    joined_general c.args.instances.now c.args.count c.args.facts.now c.in_ok-nodes.field-0.nodes.items c.in_ok-nodes.field-0.pairs.items c.requires c.in_ok-nodes.ensures
    c.unify.new.nodes.items c.in_ok-unify.ensures.joined
