-- What rounds evaluate to.
use Rattle.std.specs.Prelude.{ℕ, suc, List, [], ◌∷◌, ◌++◌, map, drop, Option, Some, None}
use Rattle.std.proofs.Common.{Bor}
use Rattle.std.specs.List.{range_with_len}
use Rattle.nesl_values.specs.Tree as values
use Rattle.nesl_values.specs.View.{tree_of}
use Rattle.nesl_values_builder.specs.Elements.{elements_of}
use Rattle.nesl_eval_meaning.specs.Names.{Value}
use Rattle.nesl_eval_meaning.specs.Out.{Out, value, after_cost, and_then, beside, all_beside}
use Rattle.nesl_eval_meaning.specs.Outcome.{place_if_true, body_value}
use Rattle.nesl_eval_code.specs.Frames.{row}
use Rattle.nesl_eval_code.specs.Run.{Table}
use Rattle.nesl_eval_code.specs.Block.{Block}
use Rattle.nesl_eval_code.specs.Exec.{Places, exec, kept_of, values_of}
use Rattle.nesl_eval_ops.specs.declared.ops.Body.{Body}
use Rattle.nesl_eval_ops.specs.View.{body_block}
use Rattle.nesl_eval_rounds.specs.declared.state.Chosen.{Chosen}
use Rattle.nesl_eval_rounds.specs.declared.state.Chosen.TheVariants.{All, These}
use Rattle.nesl_eval_rounds.specs.declared.state.Round.{Round}

-- the places of a round
abbrev pub chosen_places : {A : Type 0} → Chosen A → List ℕ
chosen_places (All n) = range_with_len 0 n
chosen_places (These is) = is.items

-- a block at a place of these sequences
abbrev pub at_place : Table → ℕ → Places → List Value → Block → ℕ → Out Value
at_place t n env vs c i = exec t n (env ++ row i vs) c []

-- a round that began after so much depth, whose turns so far gave these, the deepest so deep; then its later turns come
-- beside them, and what depends on them all
abbrev pub gathering : {X : Type 0} → ℕ → ℕ → List X → Out (List X) → (List X → Out Value) → Out Value
gathering start most done later k = after_cost 0 start (and_then (beside (value done 0 most) later) k)

-- what the turns of a filter gave are the places of the body that comes after it; what those of a body gave is a
-- sequence, which goes on the stack
abbrev pub gathered_as :
    Table → ℕ → Block → Places → List Value → List Value → ℕ → ℕ → Option (Bor Body) → List ℕ → List Value
    → Out (List ℕ) → Out (List Value) → Out Value
gathered_as t n b env st vs start most (Some c) kept made places later =
    gathering start most kept places
    (λ ks. and_then (values_of (at_place t n env vs (body_block c.now)) ks) (λ v. exec t n env b (v ∷ st)))
gathered_as t n b env st vs start most None kept made places later =
    gathering start most made later (λ us. exec t n env b (values.sequence us ∷ st))

-- the values of a block at places, one beside the other
abbrev pub all_values : (ℕ → Out Value) → List ℕ → Out (List Value)
all_values f = all_beside (λ i. and_then (f i) body_value)

-- a round's block at a place, and the places that are left after a number of turns
abbrev pub turn_of : {A : Type 0} → Table → ℕ → Places → Round A → ℕ → Out Value
turn_of t n env r = at_place t n env (map tree_of r.sources.items) (body_block r.block.now)

abbrev pub places_left : {A : Type 0} → Round A → ℕ → List ℕ
places_left r k = drop k (chosen_places r.chosen)

-- what a round evaluates to between two turns, and in a turn of which this is the outcome
abbrev pub between : {A : Type 0} → Table → ℕ → Block → Places → List Value → Round A → Out Value
between t n b env st r =
    gathered_as t n b env st (map tree_of r.sources.items) r.start r.most r.body r.kept.items
    (elements_of r.values)
    (kept_of (turn_of t n env r) (places_left r r.turns)) (all_values (turn_of t n env r) (places_left r r.turns))

abbrev pub in_turn : {A : Type 0} → Table → ℕ → Block → Places → List Value → Round A → Out Value → Out Value
in_turn t n b env st r o =
    gathered_as t n b env st (map tree_of r.sources.items) r.start r.most r.body r.kept.items
    (elements_of r.values)
    (beside (and_then o (place_if_true r.place)) (kept_of (turn_of t n env r) (places_left r (suc r.turns))))
    (beside (and_then o body_value) (all_values (turn_of t n env r) (places_left r (suc r.turns))))
