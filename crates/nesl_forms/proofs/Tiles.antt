-- The stretches of a text follow one another, and are what their kinds say.
use Rattle.std.proofs.Common.{◌≡◌, ℕ, zero, suc, ◌+◌, ◌-◌, ◌<◌, ◌≤◌, ◌==◌, Bool, true, false, List, [], ◌∷◌, ◌++◌, length, take, drop, refl, ◌∙◌, sym, ap, subst, arith, eqb-true, length-drop, zero-add, ◌≢◌}
use Rattle.std.proofs.lemmas.Bool.{eqb-false}
use Rattle.std.proofs.Math.Nat.{suc-add}
use Rattle.std.specs.Prelude.{All, slice_range, if◌then◌else◌}
use Rattle.std.specs.List.{flat_map}
use Rattle.std.proofs.lemmas.List.{drop-drop}
use Rattle.std.proofs.lemmas.List.Elements.{All-nil, All-push}
use Rattle.nesl_forms.specs.declared.scan.StretchKind.{StretchKind}
use Rattle.nesl_forms.specs.declared.scan.Edge.{Edge}
use Rattle.nesl_forms.specs.declared.scan.Edge.TheVariants.{Inside, Before, After}
use Rattle.nesl_forms.specs.declared.scan.Within.{Within}
use Rattle.nesl_forms.specs.declared.scan.Within.TheVariants as within
use Rattle.nesl_forms.specs.Steps.{step, changed, ends_name, takes_semicolon}
use Rattle.nesl_forms.specs.declared.text.Stretch.{Stretch}
use Rattle.nesl_forms.specs.Bytes.{kind_of}
use Rattle.nesl_forms.specs.Cuts.{Reached, with_stretch, with_edge, stepped, after_byte, after_bytes, last_kind, at_first, cut}
use Rattle.nesl_forms.specs.Stretches.{Follow, bytes_of, IsRight, IsOfKind, IsLeftOut, nothing}
use Rattle.nesl_forms.proofs.Edges.{SoFar, Goes, step_goes, kind_is}

-- where a byte comes, there is one
there : (text : List ℕ) (i b : ℕ) (rest : List ℕ) → drop i text ≡ b ∷ rest → i < length text
there text i b rest h = omega (arith, length-drop i text, ap length h)

take_none : (m : ℕ) → take m (let none : List ℕ = [] in none) ≡ []
take_none zero = refl
take_none (suc m) = refl

-- two ranges that meet
ranges : (xs : List ℕ) (n m : ℕ) → take (n + m) xs ≡ take n xs ++ take m (drop n xs)
ranges xs zero m = ap (λ (n : ℕ). take n xs) (zero-add m)
ranges [] (suc n) m = rw (suc-add n m) (sym (take_none m))
ranges (x ∷ xs) (suc n) m = rw (suc-add n m) (ap (λ (ys : List ℕ). x ∷ ys) (ranges xs n m))

range_meets : (text : List ℕ) (a i j : ℕ) → a ≤ i → i ≤ j → slice_range text a j ≡ slice_range text a i ++ slice_range text i j
range_meets text a i j h k =
    let e : (i - a) + (j - i) ≡ j - a = omega arith in
    let f : a + (i - a) ≡ i = omega arith in
    ap (λ (n : ℕ). take n (drop a text)) (sym e)
    ∙ ranges (drop a text) (i - a) (j - i)
    ∙ ap (λ (ys : List ℕ). take (i - a) (drop a text) ++ take (j - i) ys)
    (drop-drop (i - a) a text ∙ ap (λ (n : ℕ). drop n text) f)

-- a range with one more byte
range_more : (text : List ℕ) (a i b : ℕ) (rest : List ℕ) → a ≤ i → drop i text ≡ b ∷ rest → slice_range text a (i + 1) ≡ slice_range text a i ++ b ∷ []
range_more text a i b rest le h =
    let e : (i + 1) - i ≡ 1 = omega arith in
    range_meets text a i (i + 1) le (omega arith)
    ∙ ap (λ (ys : List ℕ). slice_range text a i ++ ys)
    (ap (λ (n : ℕ). take n (drop i text)) e ∙ ap (λ (ys : List ℕ). take 1 ys) h)

range_one : (text : List ℕ) (i b : ℕ) (rest : List ℕ) → drop i text ≡ b ∷ rest → slice_range text i (i + 1) ≡ b ∷ []
range_one text i b rest h =
    let e : i - i ≡ 0 = omega arith in
    range_more text i i b rest (omega arith) h
    ∙ ap (λ (n : ℕ). take n (drop i text) ++ b ∷ []) e

range_none : (text : List ℕ) (i : ℕ) → slice_range text i i ≡ []
range_none text i = let e : i - i ≡ 0 = omega arith in ap (λ (n : ℕ). take n (drop i text)) e

-- one more stretch
follow_more : (i : ℕ) (ss : List Stretch) (j : ℕ) (s : Stretch) → Follow i ss j → s.start ≡ j → j < s.end → Follow i (ss ++ s ∷ []) s.end
follow_more i [] j s h e lt = let same : s.start ≡ i = e ∙ sym h in let less : i < s.end = omega arith in (same, less, refl)
follow_more i (x ∷ ss) j s h e lt = (h.0, h.1, follow_more x.end ss j s h.2 e lt)

-- how far a text is cut, and rightly
pub record Sound (text : List ℕ) (place : ℕ) (r : Reached) : Type 0 where
  pub before : r.start ≤ place
  pub follow : Follow 0 r.stretches r.start
  pub right : All (IsRight text) r.stretches
  pub so_far : SoFar r.within (slice_range text r.start place)

-- a stretch of its kind ends
ended : (text : List ℕ) (k : StretchKind) (place : ℕ) (r : Reached)
    → r.start ≤ place → Follow 0 r.stretches r.start → All (IsRight text) r.stretches → IsOfKind k (slice_range text r.start place)
    → let s = with_stretch k place r in
    (s.start ≡ place) × (s.within ≡ r.within) × Follow 0 s.stretches place × All (IsRight text) s.stretches
ended text k place r le f a h = by_case (r.start == place) refl
  where
    s : Reached
    s = record r { start = place; stretches = r.stretches ++ record { kind = k; start = r.start; end = place } ∷ [] }

    by_case : (t : Bool) → (r.start == place) ≡ t
        → let x = (if t then r else s) in
        (x.start ≡ place) × (x.within ≡ r.within) × Follow 0 x.stretches place × All (IsRight text) x.stretches
    by_case true e =
        let same : r.start ≡ place = eqb-true r.start place e in
        (same, refl, subst (λ (n : ℕ). Follow 0 r.stretches n) same f, a)
    by_case false e =
        let ne : r.start ≢ place = eqb-false r.start place e in
        let less : r.start < place = omega arith in (
          refl,
          refl,
          follow_more 0 r.stretches r.start (record { kind = k; start = r.start; end = place }) f refl less,
          All-push (IsRight text) r.stretches (record { kind = k; start = r.start; end = place }) a h,
        )

-- after a byte
edged : (text : List ℕ) (place b : ℕ) (rest : List ℕ) (e : Edge) (r : Reached)
    → drop place text ≡ b ∷ rest → r.start ≤ place → Follow 0 r.stretches r.start → All (IsRight text) r.stretches
    → Goes e r.within (slice_range text r.start place) b
    → Sound text (place + 1) (with_edge e place r)
edged text place b rest Inside r d le f a h = record {
  before = omega arith;
  follow = f;
  right = a;
  so_far = subst (SoFar r.within) (sym (range_more text r.start place b rest le d)) h;
}
edged text place b rest (Before k) r d le f a h =
    let x = ended text k place r le f a h.0 in
    let s : Reached = with_stretch k place r in
    record {
      before = let e : s.start ≡ place = x.0 in omega arith;
      follow = subst (λ (n : ℕ). Follow 0 s.stretches n) (sym x.0) x.2;
      right = x.3;
      so_far =
          subst (λ (w : Within). SoFar w (slice_range text s.start (place + 1))) (sym x.1)
          (subst (λ (n : ℕ). SoFar r.within (slice_range text n (place + 1))) (sym x.0)
          (subst (SoFar r.within) (sym (range_one text place b rest d)) h.1));
    }
edged text place b rest (After k) r d le f a h =
    let kind : IsOfKind k (slice_range text r.start (place + 1)) = subst (IsOfKind k) (sym (range_more text r.start place b rest le d)) h.0 in
    let x = ended text k (place + 1) r (omega arith) f a kind in
    let s : Reached = with_stretch k (place + 1) r in
    record {
      before = let e : s.start ≡ place + 1 = x.0 in omega arith;
      follow = subst (λ (n : ℕ). Follow 0 s.stretches n) (sym x.0) x.2;
      right = x.3;
      so_far =
          subst (λ (w : Within). SoFar w (slice_range text s.start (place + 1))) (sym x.1)
          (subst (λ (n : ℕ). SoFar r.within (slice_range text n (place + 1))) (sym x.0)
          (subst (SoFar r.within) (sym (range_none text (place + 1))) h.1));
    }

byte_sound : (text : List ℕ) (place b : ℕ) (rest : List ℕ) (r : Reached)
    → drop place text ≡ b ∷ rest → Sound text place r → Sound text (place + 1) (after_byte r place b)
byte_sound text place b rest r d h =
    let now = changed (ends_name r.within (kind_of b)) r.opened in
    let s = step r.within (takes_semicolon now) (kind_of b) in
    edged text place b rest s.edge (record r { within = s.within; opened = changed s.change now }) d h.before h.follow h.right
    (step_goes r.within (takes_semicolon now) (kind_of b) (slice_range text r.start place) b (kind_is b) h.so_far)

bytes_sound : (text rest : List ℕ) (place : ℕ) (r : Reached)
    → drop place text ≡ rest → Sound text place r → Sound text (place + length rest) (after_bytes r place rest)
bytes_sound text [] place r d h = subst (λ (n : ℕ). Sound text n r) (omega arith) h
bytes_sound text (b ∷ rest) place r d h =
    let next : drop (place + 1) text ≡ rest = sym (drop-drop 1 place text) ∙ ap (λ (ys : List ℕ). drop 1 ys) d in
    subst (λ (n : ℕ). Sound text n (after_bytes r place (b ∷ rest))) (omega arith)
    (bytes_sound text rest (place + 1) (after_byte r place b) next (byte_sound text place b rest r d h))

first_sound : (text : List ℕ) → Sound text 0 at_first
first_sound text = record { before = omega arith; follow = refl; right = All-nil (IsRight text); so_far = nothing }

last_goes : (w : Within) (bs : List ℕ) → SoFar w bs → IsOfKind (last_kind w) bs
last_goes within.Between bs h = h
last_goes within.Form bs h = tt
last_goes (within.Name s) bs h = tt
last_goes within.Colon bs h = tt
last_goes within.Members bs h = tt
last_goes within.Text bs h = tt
last_goes within.Character bs h = tt
last_goes (within.Comment a) bs h = tt
last_goes within.Command bs h = tt
last_goes within.Continued bs h = tt

whole : (text : List ℕ)
    → Follow 0 (cut text) (length text) × All (IsRight text) (cut text)
whole text =
    let r : Reached = after_bytes at_first 0 text in
    let h : Sound text (length text) r =
    subst (λ (n : ℕ). Sound text n r) (zero-add (length text)) (bytes_sound text text 0 at_first refl (first_sound text)) in
    let x = ended text (last_kind r.within) (length text) r h.before h.follow h.right (last_goes r.within _ h.so_far) in
    (x.2, x.3)

pub cut_follows : (text : List ℕ) → Follow 0 (cut text) (length text)
cut_follows text = (whole text).0

pub cut_right : (text : List ℕ) → All (IsRight text) (cut text)
cut_right text = (whole text).1

pub follow_le : (i : ℕ) (ss : List Stretch) (j : ℕ) → Follow i ss j → i ≤ j
follow_le i [] j h = omega arith
follow_le i (s ∷ ss) j h = let later : s.end ≤ j = follow_le s.end ss j h.2 in omega (arith, h.1)

joined_range : (text : List ℕ) (i : ℕ) (ss : List Stretch) (j : ℕ) → Follow i ss j → flat_map (bytes_of text) ss ≡ slice_range text i j
joined_range text i [] j h = subst (λ (n : ℕ). [] ≡ slice_range text i n) h (sym (range_none text i))
joined_range text i (s ∷ ss) j h =
    let lt : i < s.end = h.1 in
    ap (λ (ys : List ℕ). bytes_of text s ++ ys) (joined_range text s.end ss j h.2)
    ∙ ap (λ (n : ℕ). slice_range text n s.end ++ slice_range text s.end j) h.0
    ∙ sym (range_meets text i s.end j (omega arith) (follow_le s.end ss j h.2))

pub cut_joins : (text : List ℕ) → flat_map (bytes_of text) (cut text) ≡ text
cut_joins text = joined_range text 0 (cut text) (length text) (cut_follows text)
    ∙ ap (λ (n : ℕ). take n text) (let e : length text - 0 ≡ length text = omega arith in e) ∙ take_all text
  where
    take_all : (xs : List ℕ) → take (length xs) xs ≡ xs
    take_all [] = refl
    take_all (x ∷ xs) = ap (λ (ys : List ℕ). x ∷ ys) (take_all xs)
