-- What nodes do with runs of their parts.
use Rattle.std.proofs.Common.{◌≡◌, ℕ, ◌+◌, Ok, Err, refl, ◌∙◌, arith, add-one, List, [], ◌∷◌, drop, drop-cons, length, Some, None, Bool}
use Rattle.std.specs.Prelude.{slice_get}
use Rattle.std.specs.List.{range_with_len}
use Rattle.std.proofs.lemmas.Option.{slice_get_within, get_or_from_slice_get}
use Rattle.nesl_values.specs.Parts.{as_bool}
use Rattle.nesl_values.specs.View.{tree_of}
use Rattle.nesl_values.specs.declared.value.Value as code
use Rattle.nesl_eval_nodes.specs.declared.meter.Meter.{Meter}
use Rattle.nesl_eval_nodes.specs.declared.meter.Stop.TheVariants.{Stuck}
use Rattle.nesl_eval_meaning.specs.Names.{Value}
use Rattle.nesl_eval_meaning.specs.Out.{Out, and_then}
use Rattle.nesl_eval_meaning.specs.Outcome.{place_if_true}
use Rattle.nesl_eval_nodes.specs.Sides.{IsKeptPlace}
use Rattle.nesl_eval_nodes.specs.Meets.{Meets, Is}
use Rattle.nesl_eval_nodes.proofs.Runs.{meets_then}

pub keeps_value : {A : Type 0} (m0 m1 : Meter) (v : code.Value A) (b : Bool) (i : ℕ) (o : Out Value) → Meets Is m0 (Ok v) m1 o → Some b ≡ as_bool (tree_of v) → Meets (IsKeptPlace i) m0 (Ok b) m1 (and_then o (place_if_true i))
keeps_value m0 m1 v b i o h holds = meets_then Is (IsKeptPlace i) m0 m1 m1 v (Ok b) o (place_if_true i) h (λ x e. rw (← e, ← holds) (refl, omega arith, omega arith))

pub keeps_none : {A : Type 0} (m0 m1 : Meter) (v : code.Value A) (i : ℕ) (o : Out Value) → Meets Is m0 (Ok v) m1 o → None ≡ as_bool (tree_of v) → Meets (IsKeptPlace i) m0 (Err Stuck) m1 (and_then o (place_if_true i))
keeps_none m0 m1 v i o h lacks = meets_then Is (IsKeptPlace i) m0 m1 m1 v (Err Stuck) o (place_if_true i) h (λ x e. rw (← e, ← lacks) tt)

pub drop_next : {X : Type 0} (xs : List X) (i : ℕ) (x : X) → slice_get xs i ≡ Some x → drop i xs ≡ x ∷ drop (i + 1) xs
drop_next xs i x h = drop-cons xs i x (slice_get_within xs i x h) ∙ rw (get_or_from_slice_get xs i x x h, add-one) refl

pub drop_past : {X : Type 0} (xs : List X) (i : ℕ) → length xs ≡ i → drop i xs ≡ []
drop_past xs i h = rw (← h) (drop_all xs)
  where
    drop_all : {X : Type 0} (xs : List X) → drop (length xs) xs ≡ []
    drop_all [] = refl
    drop_all (x ∷ xs) = drop_all xs

abbrev pub LenIs : ℕ → List ℕ → Type 0
LenIs n is = range_with_len 0 n ≡ is
