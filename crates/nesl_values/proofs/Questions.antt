-- Questions that are added to others, and taken from them.
use Rattle.std.proofs.Common.{◌≡◌, ◌↔◌, ℕ, Bool, true, false, IsTrue, ◌+◌, ◌-◌, ◌≤◌, ◌<◌, List, [], ◌∷◌, ◌++◌, length, take, drop, refl, ap, sym, ◌∙◌, arith, subst, Some, slice_get, slice_range}
use Rattle.std.proofs.lemmas.List.{take_all, take-append-drop, drop_more, length-drop, nil_from_length}
use Rattle.std.proofs.lemmas.Option.{get_or_from_slice_get}
use Rattle.nesl_values.specs.Tree.{ValueTree, trees_of, size, sizes}
use Rattle.nesl_values.specs.Comparing.{QuestionHolds, AllMeet, work_of, work_of_all, Asks, IsNext, Reduces}
use Rattle.nesl_values.proofs.Trees.{sizes-append}
use Rattle.nesl_values.specs.declared.listed.Question.{Question}

all_meet-push : {A B : Type 0} → (qs : List (Question A B)) (q : Question A B) → AllMeet (qs ++ q ∷ []) ↔ (QuestionHolds q × AllMeet qs)
all_meet-push [] q = (λ h. h, λ h. h)
all_meet-push (p ∷ qs) q =
    (λ h. (let inner : QuestionHolds q × AllMeet qs = (all_meet-push qs q).0 h.1 in (inner.0, (h.0, inner.1))), λ h. (h.1.0, (all_meet-push qs q).1 (h.0, h.1.1)))

work-push : {A B : Type 0} → (qs : List (Question A B)) (q : Question A B) → work_of_all (qs ++ q ∷ []) ≡ work_of q + work_of_all qs
work-push [] q = omega arith
work-push (p ∷ qs) q = omega (arith, work-push qs q)

pub asks : {A B : Type 0} → (q : Question A B) (qs more : List (Question A B)) → more ≡ qs ++ q ∷ [] → Asks (QuestionHolds q) (work_of q) qs more
asks q qs more push =
    record {
      meets = subst (λ us. AllMeet us ↔ (QuestionHolds q × AllMeet qs)) (sym push) (all_meet-push qs q);
      work = omega (arith, ap work_of_all push, work-push qs q);
    }

pub is_next : {A B : Type 0} → (q : Question A B) (qs rest : List (Question A B)) → qs ≡ rest ++ q ∷ [] → IsNext q qs rest
is_next q qs rest push =
    record {
      meets = subst (λ us. AllMeet us ↔ (QuestionHolds q × AllMeet rest)) (sym push) (all_meet-push rest q);
      work = ap work_of_all push ∙ work-push rest q;
    }

-- a list is the elements before one of its elements, that element, and the rest
split : (xs : List ValueTree) (i n : ℕ) (x : ValueTree) → length xs ≡ n → i < n → slice_get xs i ≡ Some x → xs ≡ take i xs ++ x ∷ slice_range xs (i + 1) n
split xs i n x len h at =
    let rest : slice_range xs (i + 1) n ≡ drop (i + 1) xs = take_all (n - (i + 1)) (drop (i + 1) xs) (omega (arith, length-drop (i + 1) xs)) in
    let next : drop i xs ≡ x ∷ drop (i + 1) xs = drop_more xs i x (omega arith) ∙ ap (λ y. y ∷ drop (i + 1) xs) (get_or_from_slice_get xs i x x at) in
    sym (take-append-drop i xs) ∙ ap (λ ts. take i xs ++ ts) (next ∙ ap (λ ts. x ∷ ts) (sym rest))

-- two lists that begin alike are the same where their next elements and the rests are
pub same_from : (xs ys : List ValueTree) (i n : ℕ) (x y : ValueTree) → length xs ≡ n → length ys ≡ n → i < n → take i xs ≡ take i ys → slice_get xs i ≡ Some x → slice_get ys i ≡ Some y
    → (xs ≡ ys) ↔ ((x ≡ y) × (slice_range xs (i + 1) n ≡ slice_range ys (i + 1) n))
same_from xs ys i n x y len_xs len_ys h front at_xs at_ys = (
  λ same. (let both : Some x ≡ Some y = sym at_xs ∙ ap (λ zs. slice_get zs i) same ∙ at_ys in cc, ap (λ zs. slice_range zs (i + 1) n) same),
  λ parts. split xs i n x len_xs h at_xs ∙ ap (λ ts. ts ++ x ∷ slice_range xs (i + 1) n) front ∙ ap (λ t. take i ys ++ t ∷ slice_range xs (i + 1) n) parts.0 ∙ ap (λ ts. take i ys ++ y ∷ ts) parts.1 ∙ sym (split ys i n y len_ys h at_ys),
)

-- an element and the rest have at most the nodes of the list
pub sizes_from : (xs : List ValueTree) (i n : ℕ) (x : ValueTree) → length xs ≡ n → i < n → slice_get xs i ≡ Some x → sizes (trees_of (slice_range xs (i + 1) n)) + size x ≤ sizes (trees_of xs)
sizes_from xs i n x len h at =
    omega (arith, ap (λ ts. sizes (trees_of ts)) (split xs i n x len h at), sizes-append (take i xs) (x ∷ slice_range xs (i + 1) n))

-- answers, by the questions that they add
pub settled : {A B : Type 0} → (b : Bool) (P : Type 0) (n : ℕ) (qs more : List (Question A B)) → more ≡ qs → 0 < n → (IsTrue b ↔ P) → Reduces b P n qs more
settled true P n qs more same h is =
    let steps : work_of_all more ≡ work_of_all qs = ap work_of_all same in
    ((λ all. (is.0 refl, subst AllMeet same all), λ all. subst AllMeet (sym same) all.1), omega arith)
settled false P n qs more same h is = λ p. absurd (cc (is.1 p))

pub one_asked : {A B : Type 0} → (P Q : Type 0) (m n : ℕ) (qs more : List (Question A B)) → Asks P m qs more → (Q ↔ P) → m < n → Reduces true Q n qs more
one_asked P Q m n qs more asked is h =
    ((λ all. (let both : P × AllMeet qs = asked.meets.0 all in (is.1 both.0, both.1)), λ all. asked.meets.1 (is.0 all.0, all.1)), omega (arith, asked.work))

pub two_asked : {A B : Type 0} → (P Q R : Type 0) (k m n : ℕ) (qs mid more : List (Question A B)) → Asks P k qs mid → Asks Q m mid more → (R ↔ (Q × P)) → k + m < n → Reduces true R n qs more
two_asked P Q R k m n qs mid more first second is h = (
  (
    λ all. (let one : Q × AllMeet mid = second.meets.0 all in let other : P × AllMeet qs = first.meets.0 one.1 in (is.1 (one.0, other.0), other.1)),
    λ all. (let both : Q × P = is.0 all.0 in second.meets.1 (both.0, first.meets.1 (both.1, all.1))),
  ),
  omega (arith, first.work, second.work),
)

-- an answer to what holds where another does
pub reduces_as : {A B : Type 0} → (b : Bool) (P Q : Type 0) (m n : ℕ) (qs more : List (Question A B)) → (Q ↔ P) → m ≤ n → Reduces b P m qs more → Reduces b Q n qs more
reduces_as true P Q m n qs more is h r =
    ((λ all. (let both : P × AllMeet qs = r.0.0 all in (is.1 both.0, both.1)), λ all. r.0.1 (is.0 all.0, all.1)), omega (arith, r.1))
reduces_as false P Q m n qs more is h r = λ q. r (is.0 q)

-- nothing need be asked of lists with no element
pub none_asked : {A B : Type 0} → (xs ys : List ValueTree) (n : ℕ) (qs : List (Question A B)) → length xs ≡ 0 → length xs ≡ length ys → Asks (xs ≡ ys) n qs qs
none_asked xs ys n qs none len =
    let one : xs ≡ [] = nil_from_length xs none in
    let other : ys ≡ [] = nil_from_length ys (sym len ∙ none) in
    record {
      meets = (λ all. (one ∙ sym other, all), λ all. all.1);
      work = omega arith;
    }
