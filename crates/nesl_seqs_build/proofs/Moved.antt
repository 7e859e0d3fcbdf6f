-- Results and prices of sequences that are moved as wholes.
use Rattle.std.proofs.Common.{◌≡◌, ◌∙◌, ℕ, ℤ, ◌+◌, ◌-◌, ◌/◌, ◌≤◌, ◌++◌, ◌∷◌, [], List, length, take, drop, slice_range, refl, ap, sym, arith}
use Rattle.std.proofs.lemmas.List.{length-drop, length-append, take_all, take-append-drop}
use Rattle.nesl_values.specs.Tree.{ValueTree, size, sequence}
use Rattle.nesl_seqs_base.specs.Pieces.{places_on}
use Rattle.nesl_seqs_base.specs.Prices.{price}
use Rattle.nesl_seqs_base.specs.declared.price.Price.{Price}
use Rattle.nesl_seqs_base.proofs.Sizes.{size_positive}
use Rattle.nesl_seqs_base.proofs.Totals.{front_range}

pub back_range : (s n : ℕ) (ts : List ValueTree) → n ≡ length ts → slice_range ts s n ≡ drop s ts
back_range s n ts len = take_all (n - s) (drop s ts) (omega (arith, length-drop s ts, len))

-- the parts that change places where a sequence is turned
pub turned : (ts : List ValueTree) (k : ℤ) (n m : ℕ) (a b : List ValueTree) → n ≡ length ts → m ≡ places_on n k → a ≡ slice_range ts (n - m) n → b ≡ slice_range ts 0 (n - m)
    → a ++ b ≡ drop (length ts - places_on (length ts) k) ts ++ take (length ts - places_on (length ts) k) ts
turned ts k n m a b len turn back front =
    let start : n - m ≡ length ts - places_on (length ts) k = rw (turn, len) refl in
    ap (λ us. us ++ b) (back ∙ back_range (n - m) n ts len) ∙ ap (λ us. drop (n - m) ts ++ us) (front ∙ front_range (n - m) ts) ∙ ap (λ s. drop s ts ++ take s ts) start

-- the sequences of both halves
pub halved : (ts : List ValueTree) (n h : ℕ) (a b : List ValueTree) (x y : ValueTree) → n ≡ length ts → h ≡ (n + 1) / 2 → a ≡ slice_range ts 0 h → b ≡ slice_range ts h n → x ≡ sequence a → y ≡ sequence b
    → x ∷ y ∷ [] ≡ sequence (take ((length ts + 1) / 2) ts) ∷ sequence (drop ((length ts + 1) / 2) ts) ∷ []
halved ts n h a b x y len half front back first second =
    let middle : h ≡ (length ts + 1) / 2 = rw (half, len) refl in
    ap (λ t. t ∷ y ∷ []) (first ∙ ap sequence (front ∙ front_range h ts)) ∙ ap (λ t. sequence (take h ts) ∷ t ∷ []) (second ∙ ap sequence (back ∙ back_range h n ts len)) ∙ ap (λ k. sequence (take k ts) ∷ sequence (drop k ts) ∷ []) middle

-- the price of a tree of `nodes` nodes
pub priced_within : (t : ValueTree) (n work nodes limit : ℕ) → size t ≡ nodes → work + 1 ≡ 1 + n + nodes → work ≤ limit → (1 + n + (size t - 1) ≤ limit) × ◌≡◌ {A = Price} (record { work = work; depth = 1; nodes = nodes }) (price n 1 t)
priced_within t n work nodes limit is paid within =
    (omega (arith, size_positive t), same (1 + n + (size t - 1)) (size t) (omega (arith, size_positive t)) (sym is))
  where
    same : (w m : ℕ) → work ≡ w → nodes ≡ m → ◌≡◌ {A = Price} (record { work = work; depth = 1; nodes = nodes }) (record { work = w; depth = 1; nodes = m })
    same w m p q = cc

-- both parts have as many elements as the whole
pub turned_len : (ts a b : List ValueTree) (s : ℕ) → a ++ b ≡ drop s ts ++ take s ts → length a + length b ≡ length ts
turned_len ts a b s is =
    omega (arith, length-append a b, ap length is, length-append (drop s ts) (take s ts), ap length (take-append-drop s ts), length-append (take s ts) (drop s ts))

pub halved_len : (ts : List ValueTree) (n h : ℕ) (a b : List ValueTree) → n ≡ length ts → a ≡ slice_range ts 0 h → b ≡ slice_range ts h n → length a + length b ≡ length ts
halved_len ts n h a b len front back =
    omega (arith, ap length (front ∙ front_range h ts), ap length (back ∙ back_range h n ts len), ap length (take-append-drop h ts), length-append (take h ts) (drop h ts))
