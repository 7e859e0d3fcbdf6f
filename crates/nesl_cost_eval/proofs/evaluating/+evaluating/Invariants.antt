use Rattle.std.proofs.Common.{◌+◌, ◌*◌, map, drop}
use Rattle.nesl_lex.specs.declared.token.Span.{Span}
use Rattle.nesl_values.specs.View.{tree_of as value_tree}
use Rattle.nesl_values_builder.specs.Elements.{elements_of}
use Rattle.nesl_syntax_tree.specs.Views.{tree_of, trees_in, binders_in}
use Rattle.nesl_eval_meaning.specs.Outcome.{sources, place_if_true, body_value}
use Rattle.nesl_eval_nodes.specs.Sides.{places_of}
use Rattle.nesl_cost_meaning.specs.Traced.{and_then, charged, all_beside, all_parts, let_of, at_place, kept_places}
use Rattle.nesl_cost_eval.specs.Scopes.{scope_of, scope_in, parts_of}
use Rattle.nesl_cost_eval.specs.Writes.{book}
use Rattle.nesl_cost_eval.proofs.Running.{LeadsTo}
use Rattle.nesl_cost_eval.proofs.Lists.{LeadsAll}
use Rattle.nesl_cost_eval.proofs.Turns.{LeadsTurns}
use Rattle.nesl_cost_eval.proofs.evaluating.+evaluating.Given as goal

abbrev pub decreases-eval : goal.decreases-eval
decreases-eval l = 8 * l.at.now.levels

abbrev pub decreases-eval_in : goal.decreases-eval_in
decreases-eval_in l = 8 * l.at.now.levels + 1

abbrev pub decreases-eval_at : goal.decreases-eval_at
decreases-eval_at l = 8 * l.at.now.levels + 2

abbrev pub decreases-body_of : goal.decreases-body_of
decreases-body_of l = 8 * l.at.now.levels + 2

abbrev pub decreases-body_at : goal.decreases-body_at
decreases-body_at l = 8 * l.at.now.levels + 3

abbrev pub decreases-holds_at : goal.decreases-holds_at
decreases-holds_at l = 8 * l.at.now.levels + 3

abbrev pub decreases-part_values : goal.decreases-part_values
decreases-part_values l = 8 * l.at.now.levels + 4

abbrev pub decreases-values_drawn : goal.decreases-values_drawn
decreases-values_drawn l = 8 * l.at.now.levels + 4

abbrev pub decreases-places_kept : goal.decreases-places_kept
decreases-places_kept l = 8 * l.at.now.levels + 4

abbrev pub decreases-bodies : goal.decreases-bodies
decreases-bodies l = 8 * l.at.now.levels + 4

abbrev pub decreases-one : goal.decreases-one
decreases-one l = 8 * l.at.now.levels + 5

abbrev pub decreases-two : goal.decreases-two
decreases-two l = 8 * l.at.now.levels + 5

abbrev pub decreases-three : goal.decreases-three
decreases-three l = 8 * l.at.now.levels + 5

abbrev pub decreases-choice : goal.decreases-choice
decreases-choice l = 8 * l.at.now.levels + 5

abbrev pub decreases-sequence : goal.decreases-sequence
decreases-sequence l = 8 * l.at.now.levels + 5

abbrev pub decreases-let_in : goal.decreases-let_in
decreases-let_in l = 8 * l.at.now.levels + 5

abbrev pub decreases-call : goal.decreases-call
decreases-call l = 8 * l.at.now.levels + 5

abbrev pub decreases-each : goal.decreases-each
decreases-each l = 8 * l.at.now.levels + 5

abbrev pub decreases-filtered : goal.decreases-filtered
decreases-filtered l = 8 * l.at.now.levels + 5

abbrev pub decreases-node : goal.decreases-node
decreases-node l = 8 * l.at.now.levels + 6

abbrev pub invariant-part_values-loop-item : goal.invariant-part_values-loop-item
invariant-part_values-loop-item l =
    LeadsAll (book l.run) (map value_tree l.found.items)
    (all_parts (parts_of l.at) (scope_in l.at) (trees_in (drop l.item-index l.items)))
    (book l.fn.run) (all_parts (parts_of l.at) (scope_in l.at) (trees_in l.items))

abbrev pub invariant-values_drawn-loop-binding : goal.invariant-values_drawn-loop-binding
invariant-values_drawn-loop-binding l =
    LeadsAll (book l.run) (map value_tree l.found.items)
    (all_parts (parts_of l.at) (scope_in l.at) (sources (binders_in (drop l.binding-index l.bindings))))
    (book l.fn.run) (all_parts (parts_of l.at) (scope_in l.at) (sources (binders_in l.bindings)))

abbrev pub invariant-let_in-loop-binding : goal.invariant-let_in-loop-binding
invariant-let_in-loop-binding l =
    LeadsTo (book l.run)
    (let_of (parts_of l.at) (binders_in (drop l.binding-index l.bindings)) (tree_of l.body) (scope_of l.scope))
    (book l.fn.run) (let_of (parts_of l.at) (binders_in l.bindings) (tree_of l.body) (scope_in l.at))

abbrev pub invariant-places_kept-loop-turn : goal.invariant-places_kept-loop-turn
invariant-places_kept-loop-turn l =
    (s : Span) → LeadsTurns l.turn (book l.run) l.kept.items
    (all_beside l.filter.span (λ i. and_then (at_place (parts_of l.at) (binders_in l.drawn.bindings.now)
    (map value_tree l.drawn.sequences.now) (scope_in l.at) (tree_of l.filter) i) (λ v. charged s (place_if_true i v)))
    (drop l.turn (places_of l.places)))
    (book l.fn.run)
    (kept_places (parts_of l.at) s (binders_in l.drawn.bindings.now) (map value_tree l.drawn.sequences.now)
    (scope_in l.at) (tree_of l.filter) (places_of l.places))

abbrev pub invariant-bodies-loop-turn : goal.invariant-bodies-loop-turn
invariant-bodies-loop-turn l =
    LeadsTurns l.turn (book l.run) (elements_of l.made)
    (all_beside l.each.span (λ i. and_then (at_place (parts_of l.at) (binders_in l.drawn.bindings.now)
    (map value_tree l.drawn.sequences.now) (scope_in l.at) (tree_of l.each.body.now) i)
    (λ v. charged l.each.span (body_value v))) (drop l.turn (places_of l.places)))
    (book l.fn.run)
    (all_beside l.each.span (λ i. and_then (at_place (parts_of l.at) (binders_in l.drawn.bindings.now)
    (map value_tree l.drawn.sequences.now) (scope_in l.at) (tree_of l.each.body.now) i)
    (λ v. charged l.each.span (body_value v))) (places_of l.places))
