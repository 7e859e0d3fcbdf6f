-- The places of local names.
use Rattle.std.proofs.Common.{◌≡◌, ℕ, zero, suc, ◌+◌, ◌<◌, ◌≤◌, Bool, true, false, refl, sym, ◌∙◌, ap, arith, List, [], ◌∷◌, ◌++◌, length, take, Option, Some, None}
use Rattle.std.specs.Prelude.{nat_lt, slice_get, option_and_then, if◌then◌else◌}
use Rattle.std.proofs.lemmas.Bool.Decides.{nat_tests}
use Rattle.std.proofs.lemmas.Option.{slice_get_past}
use Rattle.std.proofs.Math.ListN.{length-append}
use Rattle.std.proofs.Math.Seq.{take-append_seam}
use Rattle.nesl_eval_meaning.specs.Names.{Value}
use Rattle.nesl_eval_meaning.specs.Out.{value, given}
use Rattle.nesl_eval_code.specs.declared.code.Step.{Step}
use Rattle.nesl_eval_code.specs.Frames.{Frames, followed, place_in, local_at}
use Rattle.nesl_eval_code.specs.Run.{Table}
use Rattle.nesl_eval_code.specs.Exec.{Places, laid, value_at, leaf_value}
use Rattle.nesl_eval_code.specs.Flat.{room, place_of, local_what}
use Rattle.nesl_eval_code.specs.BlockLaws.{sizes}

front : {X : Type 0} (xs ys : List X) (i : ℕ) → i < length xs → slice_get (xs ++ ys) i ≡ slice_get xs i
front [] ys i h = absurd (omega arith)
front (x ∷ xs) ys zero h = refl
front (x ∷ xs) ys (suc i) h = front xs ys i (omega arith)

back : {X : Type 0} (xs ys : List X) (i k : ℕ) → k ≡ length xs + i → slice_get (xs ++ ys) k ≡ slice_get ys i
back [] ys i k e = let same : k ≡ i = omega arith in ap (slice_get ys) same
back (x ∷ xs) ys i zero e = absurd (omega arith)
back (x ∷ xs) ys i (suc k) e = back xs ys i k (omega arith)

pub room_is : (fs : Frames) → room (sizes fs) ≡ length (laid fs)
room_is [] = refl
room_is (f ∷ fs) = ap (λ k. k + length f) (room_is fs) ∙ sym (length-append (laid fs) f)

pub laid_alone : (fs : Frames) (f : List (Option Value)) → take (room (sizes fs)) (laid fs ++ f) ≡ laid fs
laid_alone fs f = ap (λ k. take k (laid fs ++ f)) (room_is fs) ∙ take-append_seam (laid fs) f

within : (ks : List ℕ) (up i k : ℕ) → place_of ks up i ≡ Some k → k < room ks
within [] up i k e = absurd cc
within (j ∷ js) zero i k e = by (nat_lt i j) refl e
  where
    by : (b : Bool) → nat_lt i j ≡ b → (if b then Some (room js + i) else None) ≡ Some k → k < room js + j
    by true q r = let lt : i < j = grind (arith, nat_tests) in let same : room js + i ≡ k = cc r in omega arith
    by false q r = absurd (cc r)
within (j ∷ js) (suc up) i k e = let less : k < room js = within js up i k e in omega arith

-- the value there, if there is a place
abbrev at_place : Places → Option ℕ → Option Value
at_place env None = None
at_place env (Some k) = value_at env k

deeper : (fs : Frames) (f : List (Option Value)) (p : Option ℕ) → ((k : ℕ) → p ≡ Some k → k < length (laid fs)) →
    at_place (laid fs ++ f) p ≡ at_place (laid fs) p
deeper fs f None h = refl
deeper fs f (Some k) h = ap (option_and_then (λ o. o)) (front (laid fs) f k (h k refl))

place_is : (fs : Frames) (up i : ℕ) → at_place (laid fs) (place_of (sizes fs) up i) ≡ place_in fs up i
place_is [] up i = refl
place_is (f ∷ fs) zero i = by (nat_lt i (length f)) refl
  where
    by : (b : Bool) → nat_lt i (length f) ≡ b →
        at_place (laid fs ++ f) (if b then Some (room (sizes fs) + i) else None) ≡ option_and_then (λ o. o) (slice_get f i)
    by true q = ap (option_and_then (λ o. o)) (back (laid fs) f i (room (sizes fs) + i) (ap (λ k. k + i) (room_is fs)))
    by false q =
        let past : length f ≤ i = grind (arith, nat_tests) in
        ap (option_and_then (λ o. o)) (sym (slice_get_past f i past))
place_is (f ∷ fs) (suc up) i =
    deeper fs f (place_of (sizes fs) up i)
    (λ k e. let less : k < room (sizes fs) = within (sizes fs) up i k e in let same = room_is fs in omega arith)
    ∙ place_is fs up i

local_value : (t : Table) (env : Places) (p : Option ℕ) (steps : List Step) →
    leaf_value t env (local_what p steps) ≡ given (option_and_then (followed steps) (at_place env p)) (λ v. value v 0 0)
local_value t env None steps = refl
local_value t env (Some k) steps = refl

pub local_is : (t : Table) (fs : Frames) (up i : ℕ) (steps : List Step) →
    given (local_at fs up i steps) (λ v. value v 0 0) ≡ leaf_value t (laid fs) (local_what (place_of (sizes fs) up i) steps)
local_is t fs up i steps =
    ap (λ o. given (option_and_then (followed steps) o) (λ v. value v 0 0)) (sym (place_is fs up i))
    ∙ sym (local_value t (laid fs) (place_of (sizes fs) up i) steps)
