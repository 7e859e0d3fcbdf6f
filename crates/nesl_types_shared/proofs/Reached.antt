-- A type in a bank, and all that it is made of.
use Rattle.std.proofs.Common.{◌≡◌, ◌≢◌, inl, inr, ℕ, zero, suc, ◌+◌, ◌<◌, ◌≤◌, Bool, true, false, true≢false, replicate, List, [], ◌∷◌, ◌++◌, All, Option, None, Some, slice_get, length, get_or, set, refl, sym, ap, subst, ◌∙◌, arith}
use Rattle.std.proofs.lemmas.Bool.{cases_lt}
use Rattle.std.proofs.lemmas.List.{get_or_append_left, get_or_push, length_push, get_or_read, get_or-set_same, get_or-set_other, get_or_past, get_or-replicate, length-set, length-replicate}
use Rattle.std.proofs.lemmas.List.Elements.{All-nil, All-cons, All-head, All-tail, All-push, All-weaker, All-get_or}
use Rattle.std.proofs.lemmas.Option.{get_or_from_slice_get, slice_get_within}
use Rattle.std.specs.Option.{option_map_or}
use Rattle.nesl_types_shared.specs.Term.{Term, seq_of, variable}
use Rattle.nesl_types_shared.specs.Substitution.{substitute}
use Rattle.nesl_types_shared.specs.Numbering.{IsBelow}
use Rattle.nesl_types_shared.specs.declared.shape.Shape.{Shape}
use Rattle.nesl_types_shared.specs.declared.shape.Shape.TheVariants.{Int, Bool as Bool', Char, Var, Named, SeqOf, Both}
use Rattle.nesl_types_shared.specs.Shapes.{shape_type, IsShapeBelow}
use Rattle.nesl_types_shared.specs.Types.{type_at, AreDistinct, Extends, IsPut}
use Rattle.nesl_types_shared.specs.Visits.{parts, with_marks, HaveItsVariables, AreReached}
use Rattle.nesl_types_shared.specs.Renames.{renamed, replacement, HaveVariablesOf}
use Rattle.nesl_types_shared.proofs.Made.{below_wider}
use Rattle.nesl_types_shared.proofs.Once.{one_shape}
use Rattle.nesl_types_shared.proofs.Visited.{cases_eq, parts_below}

abbrev pub IsMarked : List Bool → ℕ → Type 0
IsMarked marks p = get_or marks p false ≡ true

marked_inside : (ms : List Bool) (p : ℕ) → IsMarked ms p → p < length ms
marked_inside [] p h = cc
marked_inside (m ∷ ms) zero h = omega arith
marked_inside (m ∷ ms) (suc p) h = omega (arith, marked_inside ms p h)

set_stays : (ms : List Bool) (p q : ℕ) → IsMarked ms q → IsMarked (set ms p true) q
set_stays ms p q h = elim (cases_eq q p) [
  | inl e ↦ subst (λ k. IsMarked (set ms k true) q) e (get_or-set_same ms q true false (marked_inside ms q h))
  | inr d ↦ get_or-set_other ms p q true false d ∙ h
]

length-marked : (ms : List Bool) (ps : List ℕ) → length (with_marks ms ps) ≡ length ms
length-marked ms [] = refl
length-marked ms (p ∷ ps) = length-marked (set ms p true) ps ∙ length-set ms p true

stays_marked : (ms : List Bool) (ps : List ℕ) (q : ℕ) → IsMarked ms q → IsMarked (with_marks ms ps) q
stays_marked ms [] q h = h
stays_marked ms (p ∷ ps) q h = stays_marked (set ms p true) ps q (set_stays ms p q h)

-- the parts of a shape are marked
parts_marked : (ms : List Bool) (s : Shape) → IsShapeBelow (length ms) s → All (IsMarked (with_marks ms (parts s))) (parts s)
parts_marked ms Int b = All-nil (IsMarked ms)
parts_marked ms Bool' b = All-nil (IsMarked ms)
parts_marked ms Char b = All-nil (IsMarked ms)
parts_marked ms (Var v) b = All-nil (IsMarked ms)
parts_marked ms (Named n) b = All-nil (IsMarked ms)
parts_marked ms (SeqOf p) b = All-cons (IsMarked (set ms p true)) p [] (get_or-set_same ms p true false b) (All-nil (IsMarked (set ms p true)))
parts_marked ms (Both p q) b =
    let ns = set ms q true in
    let os = set ns p true in
    let x : IsMarked os p = get_or-set_same ns p true false (omega (arith, length-set ms q true, b.0)) in
    let y : IsMarked os q = set_stays ns p q (get_or-set_same ms q true false b.1) in
    All-cons (IsMarked os) q (p ∷ []) y (All-cons (IsMarked os) p [] x (All-nil (IsMarked os)))

-- marks above the parts stay
above_parts : (ms : List Bool) (s : Shape) (n q : ℕ) → IsShapeBelow n s → n ≤ q → get_or (with_marks ms (parts s)) q false ≡ get_or ms q false
above_parts ms Int n q b l = refl
above_parts ms Bool' n q b l = refl
above_parts ms Char n q b l = refl
above_parts ms (Var v) n q b l = refl
above_parts ms (Named t) n q b l = refl
above_parts ms (SeqOf p) n q b l = let d : q ≢ p = omega arith in get_or-set_other ms p q true false d
above_parts ms (Both p r) n q b l =
    let d : q ≢ p = omega (arith, b.0) in
    let c : q ≢ r = omega (arith, b.1) in
    get_or-set_other (set ms r true) p q true false d ∙ get_or-set_other ms r q true false c

-- what holds of the marked places, and of those that are marked besides
with_marked : (P : ℕ → Type 0) (ms : List Bool) (ps : List ℕ) → ((p : ℕ) → IsMarked ms p → P p) → All P ps → (p : ℕ) → IsMarked (with_marks ms ps) p → P p
with_marked P ms [] h a p m = h p m
with_marked P ms (q ∷ ps) h a p m =
    with_marked P (set ms q true) ps
    (λ r i. elim (cases_eq r q) [
      | inl e ↦ subst P (sym e) (All-head P q ps a)
      | inr d ↦ h r (sym (get_or-set_other ms q r true false d) ∙ i)
    ]) (All-tail P q ps a) p m

-- the parts of a type have no variables but its own
parts_variables : (n : ℕ) (s f : ℕ → Term) (x : Shape) → IsBelow n (substitute s (shape_type f x)) → All (λ q. IsBelow n (substitute s (f q))) (parts x)
parts_variables n s f Int h = All-nil (λ q. IsBelow n (substitute s (f q)))
parts_variables n s f Bool' h = All-nil (λ q. IsBelow n (substitute s (f q)))
parts_variables n s f Char h = All-nil (λ q. IsBelow n (substitute s (f q)))
parts_variables n s f (Var v) h = All-nil (λ q. IsBelow n (substitute s (f q)))
parts_variables n s f (Named m) h = All-nil (λ q. IsBelow n (substitute s (f q)))
parts_variables n s f (SeqOf p) h = let P : ℕ → Type 0 = λ q. IsBelow n (substitute s (f q)) in All-cons P p [] h (All-nil P)
parts_variables n s f (Both p q) h = let P : ℕ → Type 0 = λ r. IsBelow n (substitute s (f r)) in All-cons P q (p ∷ []) h.1 (All-cons P p [] h.0 (All-nil P))

unmarked : (n p : ℕ) → get_or (replicate n false) p false ≡ true → ⊥
unmarked n p m = elim (cases_lt p n) [
  | inl l ↦ true≢false (sym m ∙ get_or-replicate n p false false l)
  | inr g ↦ true≢false (sym m ∙ get_or_past (replicate n false) p false (omega (arith, length-replicate n false)))
]

-- where only the place itself is marked
pub only_itself : (ts : List Term) (place k : ℕ) (marks : List Bool) → marks ≡ set (replicate k false) place true → HaveItsVariables ts place marks
only_itself ts place k marks e n s h p m = elim (cases_eq p place) [
  | inl i ↦ subst (λ q. IsBelow n (substitute s (type_at ts q))) (sym i) h
  | inr d ↦ absurd (unmarked k p (sym (get_or-set_other (replicate k false) place p true false d) ∙ ap (λ ms. get_or ms p false) (sym e) ∙ m))
]

-- the places from `next` on were looked at
pub record IsReaching (ts : List Term) (place next : ℕ) (marks : List Bool) : Type 0 where
  pub inside : next ≤ length ts
  pub len : length marks ≡ length ts
  pub top : IsMarked marks place
  pub parts : (p : ℕ) (s : Shape) → next ≤ p → IsMarked marks p → p < length ts → IsShapeBelow p s → type_at ts p ≡ shape_type (type_at ts) s → All (IsMarked marks) (parts s)
  pub only : HaveItsVariables ts place marks

pub reaching_enter : (ts : List Term) (place n k : ℕ) (marks wider : List Bool) (x : Shape) → k + 1 ≡ n → IsMarked marks k → AreDistinct ts → IsShapeBelow k x → type_at ts k ≡ shape_type (type_at ts) x → wider ≡ with_marks marks (parts x) → IsReaching ts place n marks → IsReaching ts place k wider
reaching_enter ts place n k marks wider x e m d b t w i =
    let more = with_marks marks (parts x) in
    let l : k < length ts = omega (arith, i.inside) in
    let here : All (IsMarked more) (parts x) = parts_marked marks x (below_wider k (length marks) x (omega (arith, i.len)) b) in
    rw w (record {
      inside = omega arith;
      len = length-marked marks (parts x) ∙ i.len;
      top = stays_marked marks (parts x) place i.top;
      parts = λ p s r h v c u. elim (cases_lt k p) [
        | inl above ↦
            let a = i.parts p s (omega arith) (sym (above_parts marks x k p b r) ∙ h) v c u in
            λ j z y. stays_marked marks (parts x) (get_or (parts s) j z) (a j z y)
        | inr g ↦
            let same : p ≡ k = omega arith in
            let one : x ≡ s = one_shape (type_at ts) k p x s b c (λ q o y z f. d q o (omega arith) (omega arith) f) (sym t ∙ ap (type_at ts) (sym same) ∙ u) in
            subst (λ y. All (IsMarked more) (parts y)) one here
      ];
      only = λ c s h.
          let P : ℕ → Type 0 = λ q. IsBelow c (substitute s (type_at ts q)) in
          with_marked P marks (parts x) (i.only c s h) (parts_variables c s (type_at ts) x (subst (λ u. IsBelow c (substitute s u)) t (i.only c s h k m)));
    })

-- what holds of a marked place, by its mark
pub mark_read : (marks : List Bool) (p : ℕ) (mark : Bool) → p < length marks → mark ≡ get_or marks p mark → mark ≡ true → IsMarked marks p
mark_read marks p mark l m e = sym (get_or_read marks p mark l m false) ∙ e

extends_more : (old mid new : List Term) → Extends old mid → Extends mid new → Extends old new
extends_more old mid new a b = record {
  longer = omega (arith, a.longer, b.longer);
  kept = λ p l. b.kept p (omega (arith, a.longer)) ∙ a.kept p l;
}

-- the type given for a variable stays
replacement_kept : (old new : List Term) (of : List ℕ) → Extends old new → All (λ p. p < length old) of → (v : ℕ) → replacement new of v ≡ replacement old of v
replacement_kept old new of e a v = by (slice_get of v) refl
  where
    by : (o : Option ℕ) → slice_get of v ≡ o → option_map_or (type_at new) o (variable v) ≡ option_map_or (type_at old) o (variable v)
    by None g = refl
    by (Some p) g = e.kept p (subst (λ k. k < length old) (get_or_from_slice_get of v p 0 g) (a v 0 (slice_get_within of v p g)))

-- a shape is renamed where its parts are
same_renamed : (r s f g : ℕ → Term) (x : Shape) → ((v : ℕ) → r v ≡ s v) → All (λ q. f q ≡ substitute s (g q)) (parts x) → renamed r f x ≡ substitute s (shape_type g x)
same_renamed r s f g Int h k = refl
same_renamed r s f g Bool' h k = refl
same_renamed r s f g Char h k = refl
same_renamed r s f g (Var v) h k = h v
same_renamed r s f g (Named i) h k = refl
same_renamed r s f g (SeqOf p) h k = ap seq_of (All-head (λ q. f q ≡ substitute s (g q)) p [] k)
same_renamed r s f g (Both p q) h k =
    let i = All-head (λ q. f q ≡ substitute s (g q)) p [] (All-tail (λ q. f q ≡ substitute s (g q)) q (p ∷ []) k) in
    let j = All-head (λ q. f q ≡ substitute s (g q)) q (p ∷ []) k in
    cc

-- the marked places below `next` were renamed
pub record IsRenaming (of : List ℕ) (old new from : List Term) (marks : List Bool) (places : List ℕ) (next : ℕ) : Type 0 where
  pub extends : Extends old new
  pub len : length places ≡ length from
  pub within : (q : ℕ) → q < next → IsMarked marks q → get_or places q 0 < length new
  pub types : (q : ℕ) → q < next → IsMarked marks q → type_at new (get_or places q 0) ≡ substitute (replacement old of) (type_at from q)

module _ (of : List ℕ) (old mid from : List Term) (marks : List Bool) (place next : ℕ) (places : List ℕ) (x : Shape) (reached : AreReached from place marks) (mark : IsMarked marks next) (inside : next < length from)
    (below : IsShapeBelow next x) (shape : type_at from next ≡ shape_type (type_at from) x) (i : IsRenaming of old mid from marks places next) where
  -- the parts of the next shape
  parts_inside : All (λ q. q < next) (parts x)
  parts_inside = parts_below next x below

  marked_parts : All (IsMarked marks) (parts x)
  marked_parts = reached.closed next x mark inside below shape

  -- no variables but those of the type and of what was there
  pub renaming_below : (new : List Term) (p : ℕ) → All (λ q. q < length old) of → IsPut mid new (renamed (replacement mid of) (λ q. type_at mid (get_or places q 0)) x) p → HaveVariablesOf old mid (substitute (replacement old of) (type_at from place)) → HaveVariablesOf old new (substitute (replacement old of) (type_at from place))
  renaming_below new p o w a n b h =
      let s : ℕ → Term = replacement old of in
      let t = renamed (replacement mid of) (λ q. type_at mid (get_or places q 0)) x in
      let here : t ≡ substitute s (type_at from next) =
      same_renamed (replacement mid of) s (λ q. type_at mid (get_or places q 0)) (type_at from) x (replacement_kept old mid of i.extends o) (λ k d l. i.types (get_or (parts x) k d) (parts_inside k d l) (marked_parts k d l))
      ∙ ap (substitute s) (sym shape) in
      elim w.rest [
        | inl e ↦ subst (All (IsBelow n)) (sym e) (a n b h)
        | inr e ↦ subst (All (IsBelow n)) (sym e) (All-push (IsBelow n) mid t (a n b h) (subst (IsBelow n) (sym here) (reached.only n s h next mark)))
      ]

  pub renaming_more : (new : List Term) (p : ℕ) → All (λ q. q < length old) of → Extends mid new → p < length new → type_at new p ≡ renamed (replacement mid of) (λ q. type_at mid (get_or places q 0)) x → IsRenaming of old new from marks (set places next p) (next + 1)
  renaming_more new p o e w t =
      let in_places : next < length places = omega (arith, i.len) in
      let s : ℕ → Term = replacement old of in
      let here =
      t ∙ same_renamed (replacement mid of) s (λ q. type_at mid (get_or places q 0)) (type_at from) x (replacement_kept old mid of i.extends o) (λ k d l. i.types (get_or (parts x) k d) (parts_inside k d l) (marked_parts k d l))
      ∙ ap (substitute s) (sym shape) in
      record {
        extends = extends_more old mid new i.extends e;
        len = length-set places next p ∙ i.len;
        within = λ q l m. elim (cases_eq q next) [
          | inl same ↦ subst (λ k. get_or (set places next p) k 0 < length new) (sym same) (subst (λ k. k < length new) (sym (get_or-set_same places next p 0 in_places)) w)
          | inr other ↦ subst (λ k. k < length new) (sym (get_or-set_other places next q p 0 other)) (let b : q < next = omega arith in omega (arith, i.within q b m, e.longer))
        ];
        types = λ q l m. elim (cases_eq q next) [
          | inl same ↦ subst (λ k. type_at new (get_or (set places next p) k 0) ≡ substitute s (type_at from k)) (sym same) (ap (type_at new) (get_or-set_same places next p 0 in_places) ∙ here)
          | inr other ↦
              let b : q < next = omega arith in
              ap (type_at new) (get_or-set_other places next q p 0 other) ∙ e.kept (get_or places q 0) (i.within q b m) ∙ i.types q b m
        ];
      }

-- the types at the first places were renamed
pub record AreRenamedBelow (of : List ℕ) (old new from : List Term) (places : List ℕ) (next : ℕ) : Type 0 where
  pub extends : Extends old new
  pub len : length places ≡ next
  pub within : All (λ p. p < length new) places
  pub types : (q : ℕ) → q < next → type_at new (get_or places q 0) ≡ substitute (replacement old of) (type_at from q)

pub renamed_push : (of : List ℕ) (old mid new from : List Term) (places : List ℕ) (next p : ℕ) (x : Shape) → All (λ q. q < length old) of → Extends mid new → IsShapeBelow next x → type_at from next ≡ shape_type (type_at from) x →
    p < length new → type_at new p ≡ renamed (replacement mid of) (λ q. type_at mid (get_or places q 0)) x → AreRenamedBelow of old mid from places next → AreRenamedBelow of old new from (places ++ p ∷ []) (next + 1)
renamed_push of old mid new from places next p x o e b shape w t i =
    let s : ℕ → Term = replacement old of in
    let here =
    t ∙ same_renamed (replacement mid of) s (λ q. type_at mid (get_or places q 0)) (type_at from) x (replacement_kept old mid of i.extends o) (λ k d l. i.types (get_or (parts x) k d) (parts_below next x b k d l))
    ∙ ap (substitute s) (sym shape) in
    record {
      extends = extends_more old mid new i.extends e;
      len = omega (arith, length_push places p, i.len);
      within = All-push (λ q. q < length new) places p (All-weaker (λ q. q < length mid) (λ q. q < length new) (λ q l. omega (arith, e.longer)) places i.within) w;
      types = λ q l. elim (cases_lt q next) [
        | inl m ↦
            let inside : q < length places = omega (arith, i.len) in
            ap (type_at new) (get_or_append_left places (p ∷ []) 0 q inside) ∙ e.kept (get_or places q 0) (All-get_or (λ j. j < length mid) places q 0 inside i.within) ∙ i.types q m
        | inr g ↦
            let same : next ≡ q = omega arith in
            ap (type_at new) (get_or_push places p 0 q (i.len ∙ same)) ∙ here ∙ ap (λ j. substitute s (type_at from j)) same
      ];
    }
