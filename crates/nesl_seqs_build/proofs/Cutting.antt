-- Pieces of given lengths.
use Rattle.nesl_scalars.specs.declared.trap.Trap.TheVariants.{Count}
use Rattle.nesl_values.specs.Parts.{as_int}
use Rattle.nesl_seqs_base.specs.Reductions.{all_of}
use Rattle.std.proofs.Common.{◌≡◌, IsSome, Option, Some, None, option_map, option_and_then, get_or, Err, Ok, ◌<ℤ◌, ◌⊎◌, inl, inr, ℕ, ℤ, pos, negsuc, ◌+◌, ◌-◌, ◌<◌, ◌≤◌, ◌+ℤ◌, ◌≤ℤ◌, Bool, true, false, ◌&&◌, List, [], ◌∷◌, ◌++◌, length, map, take, drop, unsigned_abs, refl, ap, sym, ◌∙◌, subst, arith}
use Rattle.std.specs.List.{flat_map, list_all}
use Rattle.std.specs.Ordering.{int_eq}
use Rattle.std.proofs.lemmas.Bool.{cases_lt}
use Rattle.std.proofs.lemmas.Bool.Decides.{Decides-int_eq, Decides-like, same_from_decides}
use Rattle.std.proofs.lemmas.Int.{ints}
use Rattle.std.proofs.lemmas.List.{drop_more, append_assoc, append-nil, drop_all, length-drop, length-take-le, take-append-drop, nil_from_length}
use Rattle.nesl_values.specs.Tree.{ValueTree, sequence, size, sizes, trees_of}
use Rattle.nesl_seqs_base.specs.Reductions.{total}
use Rattle.nesl_seqs_base.specs.Levels.{is_natural, are_lengths, pieces, Checks}
use Rattle.nesl_seqs_base.proofs.Totals.{sizes_append}
use Rattle.nesl_seqs_base.proofs.Shapes.{and_left, and_right, false_if_not}

-- the sum of numbers that are 0 or more
total_up : (zs : List ℤ) → list_all is_natural zs ≡ true → pos 0 ≤ℤ total zs
total_up [] h = omega (arith, ints)
total_up (pos k ∷ zs) h = omega (arith, ints, total_up zs h)
total_up (negsuc k ∷ zs) h = absurd (cc h)

-- the first length and the others
pub lengths_more : (n k : ℕ) (zs : List ℤ) → k ≤ n → are_lengths n (pos k ∷ zs) ≡ are_lengths (n - k) zs
lengths_more n k zs h =
    ap (λ b. list_all is_natural zs && b) (same_from_decides (int_eq (pos k +ℤ total zs) (pos n)) (int_eq (total zs) (pos (n - k))) (Decides-int_eq (pos k +ℤ total zs) (pos n)) (Decides-like (int_eq (total zs) (pos (n - k))) (λ e. omega (arith, ints, e)) (λ e. omega (arith, ints, e)) (Decides-int_eq (total zs) (pos (n - k)))))

pub lengths_over : (n k : ℕ) (zs : List ℤ) → n < k → are_lengths n (pos k ∷ zs) ≡ false
lengths_over n k zs h =
    false_if_not (are_lengths n (pos k ∷ zs)) (λ e.
    let up = total_up zs (and_left (list_all is_natural zs) (int_eq (pos k +ℤ total zs) (pos n)) e) in
    let is = (Decides-int_eq (pos k +ℤ total zs) (pos n)).0 (and_right (list_all is_natural zs) (int_eq (pos k +ℤ total zs) (pos n)) e) in
    absurd (omega (arith, ints, up, is, h)))

within : (n k : ℕ) (zs : List ℤ) → are_lengths n (pos k ∷ zs) ≡ true → (k ≤ n) × (are_lengths (n - k) zs ≡ true)
within n k zs h = one (cases_lt n k)
  where
    one : (n < k) ⊎ (k ≤ n) → (k ≤ n) × (are_lengths (n - k) zs ≡ true)
    one (inl over) = let no : false ≡ true = sym (lengths_over n k zs over) ∙ h in absurd (cc no)
    one (inr fits) = (fits, sym (lengths_more n k zs fits) ∙ h)

-- no lengths are those of no elements
pub no_lengths : (n : ℕ) → are_lengths n [] ≡ true → n ≡ 0
no_lengths n h = let is = (Decides-int_eq (pos 0) (pos n)).0 h in omega (arith, ints, is)

pub lengths_end : (n : ℕ) → 0 < n → are_lengths n [] ≡ false
lengths_end n h = false_if_not (are_lengths n []) (λ e. absurd (omega (arith, no_lengths n e)))

rest_lengths : (ts : List ValueTree) (k : ℕ) (zs : List ℤ) → are_lengths (length ts - k) zs ≡ true → are_lengths (length (drop k ts)) zs ≡ true
rest_lengths ts k zs h = ap (λ n. are_lengths n zs) (length-drop k ts) ∙ h

pub pieces_joined : (ts : List ValueTree) (zs : List ℤ) → are_lengths (length ts) zs ≡ true → flat_map (λ us. us) (pieces ts zs) ≡ ts
pieces_joined ts [] h = sym (nil_from_length ts (no_lengths (length ts) h))
pieces_joined ts (pos k ∷ zs) h =
    let p = within (length ts) k zs h in
    ap (λ us. take k ts ++ us) (pieces_joined (drop k ts) zs (rest_lengths ts k zs p.1)) ∙ take-append-drop k ts
pieces_joined ts (negsuc k ∷ zs) h = absurd (cc h)

pub pieces_lengths : (ts : List ValueTree) (zs : List ℤ) → are_lengths (length ts) zs ≡ true → map (λ us. pos (length us)) (pieces ts zs) ≡ zs
pieces_lengths ts [] h = refl
pieces_lengths ts (pos k ∷ zs) h =
    let p = within (length ts) k zs h in
    ap (λ n. pos n ∷ map (λ (us : List ValueTree). pos (length us)) (pieces (drop k ts) zs)) (length-take-le k ts p.0) ∙ ap (λ ys. pos k ∷ ys) (pieces_lengths (drop k ts) zs (rest_lengths ts k zs p.1))
pieces_lengths ts (negsuc k ∷ zs) h = absurd (cc h)

sizes_pieces : (ts : List ValueTree) (zs : List ℤ) → are_lengths (length ts) zs ≡ true → sizes (trees_of (map sequence (pieces ts zs))) ≡ length zs + sizes (trees_of ts)
sizes_pieces ts [] h = ap (λ us. sizes (trees_of us)) (sym (nil_from_length ts (no_lengths (length ts) h))) ∙ omega arith
sizes_pieces ts (pos k ∷ zs) h =
    let p = within (length ts) k zs h in
    let whole : sizes (trees_of (take k ts ++ drop k ts)) ≡ sizes (trees_of ts) = ap (λ us. sizes (trees_of us)) (take-append-drop k ts) in
    omega (arith, sizes_pieces (drop k ts) zs (rest_lengths ts k zs p.1), sizes_append (take k ts) (drop k ts), whole)
sizes_pieces ts (negsuc k ∷ zs) h = absurd (cc h)

pub size_pieces : (ts : List ValueTree) (zs : List ℤ) → are_lengths (length ts) zs ≡ true → size (sequence (map sequence (pieces ts zs))) ≡ 1 + length zs + sizes (trees_of ts)
size_pieces ts zs h = omega (arith, sizes_pieces ts zs h)

-- the verdict on the counts that are left, and on those after the next
pub next_count : {I : Type 0} (f : I → ValueTree) (is : List I) (k : ℕ) (i : I) (z : ℤ) (n : ℕ) → k < length is → i ≡ get_or is k i → Some z ≡ as_int (f i)
    → option_map (are_lengths n) (all_of as_int (map f (drop k is))) ≡ option_map (λ zs. are_lengths n (z ∷ zs)) (all_of as_int (map f (drop (k + 1) is)))
next_count f is k i z n h at here =
    ap (λ js. option_map (are_lengths n) (all_of as_int (map f js))) (drop_more is k i h ∙ ap (λ j. j ∷ drop (k + 1) is) (sym at)) ∙ ap (λ o. option_map (are_lengths n) (option_and_then (λ y. option_map (λ ys. y ∷ ys) (all_of as_int (map f (drop (k + 1) is)))) o)) (sym here) ∙ twice (all_of as_int (map f (drop (k + 1) is)))
  where
    twice : (o : Option (List ℤ)) → option_map (are_lengths n) (option_map (λ ys. z ∷ ys) o) ≡ option_map (λ ys. are_lengths n (z ∷ ys)) o
    twice None = refl
    twice (Some ys) = refl

pub no_count : {I : Type 0} (f : I → ValueTree) (is : List I) (k : ℕ) (i : I) (n : ℕ) → k < length is → i ≡ get_or is k i → None ≡ as_int (f i) → option_map (are_lengths n) (all_of as_int (map f (drop k is))) ≡ None
no_count f is k i n h at here =
    ap (λ js. option_map (are_lengths n) (all_of as_int (map f js))) (drop_more is k i h ∙ ap (λ j. j ∷ drop (k + 1) is) (sym at)) ∙ ap (λ o. option_map (are_lengths n) (option_and_then (λ y. option_map (λ ys. y ∷ ys) (all_of as_int (map f (drop (k + 1) is)))) o)) (sym here)

same_verdict : (g h : List ℤ → Bool) → ((zs : List ℤ) → g zs ≡ h zs) → (o : Option (List ℤ)) → option_map g o ≡ option_map h o
same_verdict g h same None = refl
same_verdict g h same (Some zs) = ap Some (same zs)

refused : (g : List ℤ → Bool) → ((zs : List ℤ) → g zs ≡ false) → (o : Option (List ℤ)) (v : Option Bool) → option_map g o ≡ v → Checks v (Err Count)
refused g never None v is = subst (λ w. Checks w (Err Count)) is tt
refused g never (Some zs) v is = subst (λ w. Checks w (Err Count)) (ap Some (sym (never zs)) ∙ is) refl

pub refused_below : (z : ℤ) (n : ℕ) (o : Option (List ℤ)) (v : Option Bool) → z <ℤ pos 0 → option_map (λ zs. are_lengths n (z ∷ zs)) o ≡ v → Checks v (Err Count)
refused_below (pos k) n o v h is = absurd (omega (arith, ints, h))
refused_below (negsuc k) n o v h is = refused (λ zs. are_lengths n (negsuc k ∷ zs)) (λ zs. refl) o v is

pub refused_above : (z : ℤ) (n : ℕ) (o : Option (List ℤ)) (v : Option Bool) → pos n <ℤ z → option_map (λ zs. are_lengths n (z ∷ zs)) o ≡ v → Checks v (Err Count)
refused_above (pos k) n o v h is = refused (λ zs. are_lengths n (pos k ∷ zs)) (λ zs. lengths_over n k zs (omega (arith, ints, h))) o v is
refused_above (negsuc k) n o v h is = absurd (omega (arith, ints, h))

pub taken_off : (z : ℤ) (n m : ℕ) (o : Option (List ℤ)) → pos 0 ≤ℤ z → z ≤ℤ pos n → z +ℤ pos m ≡ pos n → option_map (are_lengths m) o ≡ option_map (λ zs. are_lengths n (z ∷ zs)) o
taken_off (negsuc k) n m o h l e = absurd (omega (arith, ints, h))
taken_off (pos k) n m o h l e =
    let less : m ≡ n - k = omega (arith, ints, l, e) in
    same_verdict (are_lengths m) (λ zs. are_lengths n (pos k ∷ zs)) (λ zs. ap (λ j. are_lengths j zs) less ∙ sym (lengths_more n k zs (omega (arith, ints, l)))) o

pub none_counted : {I : Type 0} (f : I → ValueTree) (is : List I) (k n : ℕ) → length is ≤ k → option_map (are_lengths n) (all_of as_int (map f (drop k is))) ≡ Some (are_lengths n [])
none_counted f is k n h = ap (λ js. option_map (are_lengths n) (all_of as_int (map f js))) (drop_all k is h)

pub pieces_end : (made whole : List ValueTree) (ts : List ValueTree) (zs : List ℤ) (i : ℕ) → length zs ≤ i → made ++ map sequence (pieces ts (drop i zs)) ≡ whole → made ≡ whole
pieces_end made whole ts zs i h so_far =
    sym (append-nil made) ∙ ap (λ ys. made ++ map sequence (pieces ts ys)) (sym (drop_all i zs h)) ∙ so_far

-- one more turn of a loop that adds the next piece
pub piece_pushed : (made now whole ts : List ValueTree) (zs : List ℤ) (i start end : ℕ) (z d : ℤ) (part : List ValueTree) → i < length zs → z ≡ get_or zs i d → part ≡ take (unsigned_abs z) (drop start ts) → drop end ts ≡ drop (unsigned_abs z) (drop start ts) → now ≡ made ++ sequence part ∷ []
    → made ++ map sequence (pieces (drop start ts) (drop i zs)) ≡ whole → now ++ map sequence (pieces (drop end ts) (drop (i + 1) zs)) ≡ whole
piece_pushed made now whole ts zs i start end z d part h at is rest push so_far =
    let us = drop start ts in
    let others = map sequence (pieces (drop (unsigned_abs z) us) (drop (i + 1) zs)) in
    let first : drop i zs ≡ z ∷ drop (i + 1) zs = drop_more zs i d h ∙ ap (λ y. y ∷ drop (i + 1) zs) (sym at) in
    ap (λ vs. now ++ map sequence (pieces vs (drop (i + 1) zs))) rest ∙ ap (λ vs. vs ++ others) push ∙ append_assoc made (sequence part ∷ []) others ∙ ap (λ vs. made ++ sequence vs ∷ others) is ∙ ap (λ ys. made ++ map sequence (pieces us ys)) (sym first) ∙ so_far

passed : (b : Bool) (u : Unit {0}) → Checks (Some b) (Ok u) → b ≡ true
passed true u h = refl
passed false u h = absurd h

pub checked : (o : Option (List ℤ)) (n : ℕ) (zs : List ℤ) (u : Unit {0}) → Checks (option_map (are_lengths n) o) (Ok u) → o ≡ Some zs → are_lengths n zs ≡ true
checked o n zs u h is = passed (are_lengths n zs) u (subst (λ p. Checks (option_map (are_lengths n) p) (Ok u)) is h)

pub checked_read : (o : Option (List ℤ)) (n : ℕ) (u : Unit {0}) → Checks (option_map (are_lengths n) o) (Ok u) → IsSome o
checked_read (Some zs) n u h = refl
checked_read None n u h = absurd h
