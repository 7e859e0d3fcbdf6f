-- What is found for one of two parts, by a test at each turn.
use Rattle.std.proofs.Common.{◌≡◌, ℕ, ◌+◌, Bool, true, false, List, [], map, Option, Some, sym, ap, ◌∙◌}
use Rattle.std.specs.Prelude.{slice_get, option_and_then}
use Rattle.std.proofs.lemmas.Option.{slice_get-map, none-some}
use Rattle.nesl_values.specs.Tree.{boolean}
use Rattle.nesl_values.specs.Parts.{as_bool}
use Rattle.nesl_eval_meaning.specs.Names.{Value}
use Rattle.nesl_eval_meaning.specs.Out.{Out, after_cost, and_then}
use Rattle.nesl_eval_meaning.specs.Outcome.{branch}
use Rattle.nesl_eval_code.specs.declared.code.Code.{Code}
use Rattle.nesl_eval_code.specs.Frames.{Frames}
use Rattle.nesl_eval_code.specs.Run.{Runs}
use Rattle.nesl_eval_columns.specs.Sides.{Ranks}
use Rattle.nesl_eval_column_results.specs.Costs.{Sums, Merges}
use Rattle.nesl_eval_column_results.specs.Frames.{IsAt, AreAt}
use Rattle.nesl_eval_plain.specs.Found.{Chooses}
use Rattle.nesl_eval_column_results.proofs.Framed.{mapped_some}

-- the test, and then the side that it chooses
pub choice_finds : (f : Runs) (at : ℕ → Option Frames) (a b c : Code) (bs : List Bool) (xs : List Value) (vs : ℕ → Option Value) (ms ns os : ℕ → Option ℕ) → AreAt (λ fs. f fs a) at (slice_get xs) ms → map boolean bs ≡ xs → Chooses (slice_get bs) (λ fs. f fs b) (λ fs. f fs c) at vs ns → Sums ms ns os → AreAt (λ fs. and_then (f fs a) (λ x. branch (as_bool x) (f fs b) (f fs c))) at vs os
choice_finds f at a b c bs xs vs ms ns os h is so sums = λ k fs q.
    let x = h k fs q in
    let w = mapped_some boolean (slice_get bs k) x.0 (sym (slice_get-map boolean bs k) ∙ ap (λ us. slice_get us k) is ∙ x.2) in
    let y = so k fs w.0 q w.1 in (
      y.0,
      x.1 + y.1,
      y.2,
      sums k x.1 y.1 x.3 y.3,
      ap (λ o. and_then o (λ x. branch (as_bool x) (f fs b) (f fs c))) x.4
          ∙ ap (λ u. after_cost x.1 x.1 (branch (as_bool u) (f fs b) (f fs c))) (sym w.2)
          ∙ ap (after_cost x.1 x.1) y.4,
    )

module _ (bs : List Bool) (ys ns is : List ℕ) (p q : Frames → Out Value) (at : ℕ → Option Frames) (vs : ℕ → Option Value) (os : ℕ → Option ℕ) where
  -- it is true at all turns, or at none
  pub all_yes : Ranks bs ys ns is → ns ≡ [] → AreAt p at vs os → Chooses (slice_get bs) p q at vs os
  all_yes ranks none h = λ k fs b e t. by k fs b e t
    where
      by : (k : ℕ) (fs : Frames) (b : Bool) → at k ≡ Some fs → slice_get bs k ≡ Some b → IsAt vs os k (branch (Some b) (p fs) (q fs))
      by k fs true e t = h k fs e
      by k fs false e t = let w = ranks k false t in absurd (none-some k (ap (λ us. slice_get us w.0) (sym none) ∙ w.2))

  pub all_no : Ranks bs ys ns is → ys ≡ [] → AreAt q at vs os → Chooses (slice_get bs) p q at vs os
  all_no ranks none h = λ k fs b e t. by k fs b e t
    where
      by : (k : ℕ) (fs : Frames) (b : Bool) → at k ≡ Some fs → slice_get bs k ≡ Some b → IsAt vs os k (branch (Some b) (p fs) (q fs))
      by k fs true e t = let w = ranks k true t in absurd (none-some k (ap (λ us. slice_get us w.0) (sym none) ∙ w.2))
      by k fs false e t = h k fs e

-- each side at its own turns
pub both_sides : (bs : List Bool) (ys ns is : List ℕ) (p q : Frames → Out Value) (at yat nat : ℕ → Option Frames) (us vs ws : ℕ → Option Value) (ms os rs : ℕ → Option ℕ) → Ranks bs ys ns is → ((k : ℕ) → yat k ≡ option_and_then at (slice_get ys k)) → ((k : ℕ) → nat k ≡ option_and_then at (slice_get ns k)) → AreAt p yat us ms → AreAt q nat vs os → Merges bs is us vs ws → Merges bs is ms os rs → Chooses (slice_get bs) p q at ws rs
both_sides bs ys ns is p q at yat nat us vs ws ms os rs ranks yunder nunder h j leaves costs = λ k fs b e t. by k fs b e t
  where
    by : (k : ℕ) (fs : Frames) (b : Bool) → at k ≡ Some fs → slice_get bs k ≡ Some b → IsAt ws rs k (branch (Some b) (p fs) (q fs))
    by k fs true e t =
        let w = ranks k true t in
        let x = h w.0 fs (yunder w.0 ∙ ap (option_and_then at) w.2 ∙ e) in
        (x.0, x.1, leaves k true w.0 t w.1 ∙ x.2, costs k true w.0 t w.1 ∙ x.3, x.4)
    by k fs false e t =
        let w = ranks k false t in
        let x = j w.0 fs (nunder w.0 ∙ ap (option_and_then at) w.2 ∙ e) in
        (x.0, x.1, leaves k false w.0 t w.1 ∙ x.2, costs k false w.0 t w.1 ∙ x.3, x.4)
