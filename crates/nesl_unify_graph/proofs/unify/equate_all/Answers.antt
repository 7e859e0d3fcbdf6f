use Rattle.std.proofs.Common.{◌≡◌, ◌+◌, List, [], length, sym, ap, ◌∙◌, subst, rules, arith}
use Rattle.std.proofs.lemmas.List.{nil_from_length, length_push}
use Rattle.nesl_unify_graph.specs.declared.unify.Pair.{Pair}
use Rattle.nesl_unify_graph.specs.Steps.{Moves}
use Rattle.nesl_unify_graph.proofs.Steps.{moves_more, none_after, popped_below, popped_equal, graph_after}
use Rattle.nesl_unify_graph.proofs.unify.equate_all.Goals as goal

pub equate-requires-clause-graph : goal.equate-requires-clause-graph
equate-requires-clause-graph c =
    graph_after c.args.instances.now c.args.nodes.now.items c.pairs.nodes.items c.pairs.invariant.moves.longer c.pairs.invariant.table c.requires.graph

pub equate-requires-clause-pending : goal.equate-requires-clause-pending
equate-requires-clause-pending c =
    (popped_below (length c.pairs.nodes.items) c.pairs.pending.items c.pop.new.self.items c.in-Some.pair c.in-Some.ensures.items c.pairs.invariant.pending).0

pub equate-requires-clause-pair : goal.equate-requires-clause-pair
equate-requires-clause-pair c =
    (popped_below (length c.pairs.nodes.items) c.pairs.pending.items c.pop.new.self.items c.in-Some.pair c.in-Some.ensures.items c.pairs.invariant.pending).1

pub pairs-preserved : goal.pairs-preserved
pairs-preserved c =
    let v = c.pairs.invariant in
    let e = c.in_ok-equate.ensures in
    let i = c.args.instances.now in
    let step = subst (λ (ps : List Pair). Moves i c.pairs.nodes.items ps c.equate.new.nodes.items c.equate.new.pending.items) (sym c.in-Some.ensures.items) e.moves in
    record {
      moves = moves_more i c.args.nodes.now.items c.pairs.nodes.items c.equate.new.nodes.items c.args.pending.items c.pairs.pending.items c.equate.new.pending.items v.moves step;
      table = λ count t. e.table count (v.table count t);
      pending = e.pending;
    }

pub pairs-smaller : goal.pairs-smaller
pairs-smaller c =
    let l : length c.pairs.pending.items ≡ length c.pop.new.self.items + 1 = ap length c.in-Some.ensures.items ∙ length_push c.pop.new.self.items c.in-Some.pair in
    omega (arith, l, c.in_ok-equate.ensures.fewer)

pub returns-in_err-equate-clause-none : goal.returns-in_err-equate-clause-none
returns-in_err-equate-clause-none c = λ e.
    none_after c.args.instances.now c.args.nodes.now.items c.pairs.nodes.items c.args.pending.items c.pairs.pending.items c.pairs.invariant.moves
    (λ w f h. c.in_err-equate.ensures.none (search rules) w f ((popped_equal w c.pairs.pending.items c.pop.new.self.items c.in-Some.pair c.in-Some.ensures.items).0 h).1)

pub returns-clause-moves : goal.returns-clause-moves
returns-clause-moves c =
    let e : c.pairs.pending.items ≡ [] = nil_from_length c.pairs.pending.items (omega (arith, c.in_default.ensures.cases.0, c.pairs.pending.ok.0)) in
    subst (λ (ps : List Pair). Moves c.args.instances.now c.args.nodes.now.items c.args.pending.items c.pairs.nodes.items ps) e c.pairs.invariant.moves
