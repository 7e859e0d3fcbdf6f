-- Where the tokens of a line are.
use Rattle.std.proofs.Common.{◌≡◌, ℕ, ◌+◌, ◌-◌, ◌≤◌, List, [], ◌++◌, length, length-append, append_assoc, take, drop, refl, ap, sym, subst, ◌∙◌, arith}
use Rattle.std.proofs.Math.Seq.{take-append_seam, drop-append_seam}
use Rattle.std.proofs.lemmas.List.Elements.{All-from_recursion}
use Rattle.std.specs.List.{slice_range, AllByRecursion, All}
use Rattle.nesl_lex.specs.Tokens.{Placed}
use Rattle.nesl_lex.specs.Lexemes.{Spells, Reads, finished, halted, passed, took, Ending, HasTokens}
use Rattle.nesl_lex.specs.Places.{InOrder, none_left, more_left, StandsIn}
use Rattle.nesl_lex.proofs.Reading.{text_long}

from_place : {i j : ℕ} {ts : List Placed} (k : ℕ) → k ≤ i → InOrder i ts j → InOrder k ts j
from_place k h (none_left g) = none_left (omega arith)
from_place k h (more_left a b r) = more_left (omega arith) b r

to_place : {i j : ℕ} {ts : List Placed} (k : ℕ) → j ≡ k → InOrder i ts j → InOrder i ts k
to_place {i = i} {ts = ts} k h r = subst (λ (m : ℕ). InOrder i ts m) h r

-- what is read is where the bytes are
in_order_by : {at : ℕ} {bytes : List ℕ} {ts : List Placed} {e : Ending} → Reads at bytes ts e → InOrder at ts (at + length bytes)
in_order_by finished = none_left (omega arith)
in_order_by (halted s) = none_left (omega arith)
in_order_by {at = at} {bytes = bytes} (passed gap rest h g r) =
    from_place at (omega arith) (to_place (at + length bytes) (omega (arith, ap length h, length-append gap rest)) (in_order_by r))
in_order_by {at = at} {bytes = bytes} (took text rest x h s l r) =
    more_left (omega arith) (omega (arith, text_long text x s)) (to_place (at + length bytes) (omega (arith, ap length h, length-append text rest)) (in_order_by r))

pub in_order : (line : List ℕ) (ts : List Placed) → HasTokens line ts → InOrder 0 ts (length line)
in_order line ts r = to_place (length line) (omega arith) (in_order_by r)

slice_of : (at : ℕ) (line front text rest : List ℕ) → line ≡ front ++ (text ++ rest) → length front ≡ at → slice_range line at (at + length text) ≡ text
slice_of at line front text rest h k =
    let m : (at + length text) - at ≡ length text = omega arith in
    let d : drop at line ≡ text ++ rest = ap (λ (n : ℕ). drop n line) (sym k) ∙ ap (drop (length front)) h ∙ drop-append_seam front (text ++ rest) in
    ap (λ (n : ℕ). take n (drop at line)) m ∙ ap (take (length text)) d ∙ take-append_seam text rest

-- and each token has its text there
stands_by : {at : ℕ} {bytes : List ℕ} {ts : List Placed} {e : Ending} → Reads at bytes ts e → (line front : List ℕ) → line ≡ front ++ bytes → length front ≡ at → AllByRecursion (StandsIn line) ts
stands_by finished line front h k = tt
stands_by (halted s) line front h k = tt
stands_by (passed gap rest w g r) line front h k =
    stands_by r line (front ++ gap) (h ∙ ap (λ (bs : List ℕ). front ++ bs) w ∙ sym (append_assoc front gap rest)) (omega (arith, k, length-append front gap))
stands_by {at = at} (took text rest x w s l r) line front h k =
    let e : line ≡ front ++ (text ++ rest) = h ∙ ap (λ (bs : List ℕ). front ++ bs) w in (
      subst (λ (bs : List ℕ). Spells bs x) (sym (slice_of at line front text rest e k)) s,
      stands_by r line (front ++ text) (e ∙ sym (append_assoc front text rest)) (omega (arith, k, length-append front text)),
    )

pub stands_in : (line : List ℕ) (ts : List Placed) → HasTokens line ts → All (StandsIn line) ts
stands_in line ts r = All-from_recursion (StandsIn line) ts (stands_by r line [] refl refl)
