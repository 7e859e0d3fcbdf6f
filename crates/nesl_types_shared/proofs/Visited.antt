-- The variables of a type, whose parts are each looked at once.
use Rattle.std.proofs.Common.{◌≡◌, ◌≢◌, ◌⊎◌, inl, inr, ℕ, zero, suc, ◌+◌, ◌-◌, ◌*◌, ◌<◌, ◌≤◌, Bool, true, false, ◌||◌, cond, nat_eq, List, [], ◌∷◌, ◌++◌, All, length, get_or, set, fold, Some, refl, sym, ap, subst, ◌∙◌, append_assoc, append-nil, length-append, arith}
use Rattle.std.proofs.lemmas.Bool.{cases_lt}
use Rattle.std.proofs.lemmas.Bool.Decides.{nat_tests}
use Rattle.std.proofs.lemmas.List.{get_or_append_left, get_or-append-add, get_or-append_right, get_or_read, get_or_push, length_push, get_or-set_other, length-set}
use Rattle.std.proofs.lemmas.List.Elements.{All-pop, All-nil, All-cons, All-append, All-weaker, All-get_or}
use Rattle.std.proofs.lemmas.List.Folds.{list_any-append}
use Rattle.std.proofs.lemmas.List.Sums.{fold-append}
use Rattle.std.specs.List.{list_any}
use Rattle.nesl_types_shared.specs.Term.{Term}
use Rattle.nesl_types_shared.specs.Numbering.{variables, with_number}
use Rattle.nesl_types_shared.specs.declared.shape.Shape.{Shape}
use Rattle.nesl_types_shared.specs.declared.shape.Shape.TheVariants.{Int, Bool as Bool', Char, Var, Named, SeqOf, Both}
use Rattle.nesl_types_shared.specs.Shapes.{shape_type, IsShapeBelow}
use Rattle.nesl_types_shared.specs.Visits.{parts, own_variables}

pub cases_eq : (a b : ℕ) → (a ≡ b) ⊎ (a ≢ b)
cases_eq a b = elim (cases_lt a b) [
  | inl l ↦ inr (λ e. omega arith)
  | inr g ↦ elim (cases_lt b a) [
    | inl l ↦ inr (λ e. omega arith)
    | inr h ↦ inl (omega arith)
  ]
]

-- a number is in a list
abbrev pub Has : List ℕ → ℕ → Type 0
Has xs v = list_any (nat_eq v) xs ≡ true

pub or_cases : (a b : Bool) → (a || b) ≡ true → (a ≡ true) ⊎ (b ≡ true)
or_cases true b h = inl refl
or_cases false b h = inr h

pub or_left : (a b : Bool) → a ≡ true → (a || b) ≡ true
or_left true b h = refl
or_left false b h = cc

pub or_right : (a b : Bool) → b ≡ true → (a || b) ≡ true
or_right true b h = refl
or_right false b h = h

has_left : (xs ys : List ℕ) (v : ℕ) → Has xs v → Has (xs ++ ys) v
has_left xs ys v h = list_any-append (nat_eq v) xs ys ∙ or_left (list_any (nat_eq v) xs) (list_any (nat_eq v) ys) h

has_right : (xs ys : List ℕ) (v : ℕ) → Has ys v → Has (xs ++ ys) v
has_right xs ys v h = list_any-append (nat_eq v) xs ys ∙ or_right (list_any (nat_eq v) xs) (list_any (nat_eq v) ys) h

has_either : (xs ys : List ℕ) (v : ℕ) → Has (xs ++ ys) v → Has xs v ⊎ Has ys v
has_either xs ys v h = or_cases (list_any (nat_eq v) xs) (list_any (nat_eq v) ys) (sym (list_any-append (nat_eq v) xs ys) ∙ h)

has_itself : (v : ℕ) (xs : List ℕ) → Has (v ∷ xs) v
has_itself v xs = or_left (nat_eq v v) (list_any (nat_eq v) xs) (grind (arith, nat_tests))

-- what is noted stays so
noted_stays : (seen vs : List ℕ) (v : ℕ) → Has seen v → Has (fold with_number seen vs) v
noted_stays seen [] v h = h
noted_stays seen (w ∷ vs) v h = noted_stays (with_number seen w) vs v (by (list_any (nat_eq w) seen))
  where
    by : (b : Bool) → Has (cond b seen (seen ++ w ∷ [])) v
    by true = h
    by false = has_left seen (w ∷ []) v h

-- all are noted
is_noted : (seen vs : List ℕ) (v : ℕ) → Has vs v → Has (fold with_number seen vs) v
is_noted seen [] v h = cc
is_noted seen (w ∷ vs) v h = elim (or_cases (nat_eq v w) (list_any (nat_eq v) vs) h) [
  | inl e ↦ noted_stays (with_number seen w) vs v (by (list_any (nat_eq w) seen) refl (grind (arith, nat_tests)))
  | inr i ↦ is_noted (with_number seen w) vs v i
]
  where
    by : (b : Bool) → list_any (nat_eq w) seen ≡ b → w ≡ v → Has (cond b seen (seen ++ w ∷ [])) v
    by true e i = subst (Has seen) i e
    by false e i = has_right seen (w ∷ []) v (subst (Has (w ∷ [])) i (has_itself w []))

-- nothing is added where all are noted
none_added : (seen vs : List ℕ) → ((v : ℕ) → Has vs v → Has seen v) → fold with_number seen vs ≡ seen
none_added seen [] h = refl
none_added seen (v ∷ vs) h =
    let e : with_number seen v ≡ seen = ap (λ b. cond b seen (seen ++ v ∷ [])) (h v (has_itself v vs)) in
    ap (λ s. fold with_number s vs) e ∙ none_added seen vs (λ w i. h w (or_right (nat_eq w v) (list_any (nat_eq w) vs) i))

-- the variables of the types at places, the last one's first
abbrev pub rest_variables : (ℕ → Term) → List ℕ → List ℕ
rest_variables f [] = []
rest_variables f (p ∷ ps) = rest_variables f ps ++ variables (f p)

rest-append : (f : ℕ → Term) (ps qs : List ℕ) → rest_variables f (ps ++ qs) ≡ rest_variables f qs ++ rest_variables f ps
rest-append f [] qs = sym (append-nil (rest_variables f qs))
rest-append f (p ∷ ps) qs = ap (λ vs. vs ++ variables (f p)) (rest-append f ps qs) ∙ append_assoc (rest_variables f qs) (rest_variables f ps) (variables (f p))

-- a variable of one of the types at places
record Waits (f : ℕ → Term) (ps : List ℕ) (v : ℕ) : Type 0 where
  index : ℕ
  within : index < length ps
  has : Has (variables (f (get_or ps index 0))) v

waits_among : (f : ℕ → Term) (ps : List ℕ) (v : ℕ) → Has (rest_variables f ps) v → Waits f ps v
waits_among f [] v h = cc
waits_among f (p ∷ ps) v h = elim (has_either (rest_variables f ps) (variables (f p)) v h) [
  | inl i ↦ let w = waits_among f ps v i in record { index = suc w.index; within = omega (arith, w.within); has = w.has }
  | inr j ↦ record { index = 0; within = omega arith; has = j }
]

-- a variable of the type at place c waits at a place of a stack, and from there on all types are below c
pub record WaitsBelow (f : ℕ → Term) (ps : List ℕ) (c v : ℕ) : Type 0 where
  pub index : ℕ
  pub within : index < length ps
  pub has : Has (variables (f (get_or ps index 0))) v
  pub below : (j : ℕ) → index ≤ j → j < length ps → get_or ps j 0 < c

-- each variable of the type at place c is noted, or waits on the stack
abbrev pub IsCovered : (ℕ → Term) → List ℕ → List ℕ → ℕ → Type 0
IsCovered f seen ps c = (v : ℕ) → Has (variables (f c)) v → Has seen v ⊎ WaitsBelow f ps c v

-- the marks of the places that were looked at, the variables that are noted, and the stack: in the end all are noted
pub record IsVisiting (f : ℕ → Term) (marks : List Bool) (seen ps all : List ℕ) : Type 0 where
  pub order : fold with_number seen (rest_variables f ps) ≡ all
  pub covered : (c : ℕ) → get_or marks c false ≡ true → IsCovered f seen ps c
  pub below : All (λ p. p < length marks) ps

-- a place that was looked at, on top: all its variables are noted
all_noted : (f : ℕ → Term) (marks : List Bool) (seen ps qs all : List ℕ) (p : ℕ) → qs ≡ ps ++ p ∷ [] → get_or marks p false ≡ true → IsVisiting f marks seen qs all → (v : ℕ) → Has (variables (f p)) v → Has seen v
all_noted f marks seen ps qs all p q m i v h = elim (i.covered p m v h) [
  | inl n ↦ n
  | inr w ↦
      let size = ap length q in
      let len = length_push ps p in
      let top : get_or qs (length ps) 0 ≡ p = ap (λ l. get_or l (length ps) 0) q ∙ get_or_push ps p 0 (length ps) refl in
      let l = w.below (length ps) (omega (arith, w.within)) (omega arith) in
      absurd (omega arith)
]

rest-push : (f : ℕ → Term) (ps : List ℕ) (p : ℕ) → rest_variables f (ps ++ p ∷ []) ≡ variables (f p) ++ rest_variables f ps
rest-push f ps p = rest-append f ps (p ∷ [])

pub skip : (f : ℕ → Term) (marks : List Bool) (seen ps qs all : List ℕ) (p : ℕ) → qs ≡ ps ++ p ∷ [] → get_or marks p false ≡ true → IsVisiting f marks seen qs all → IsVisiting f marks seen ps all
skip f marks seen ps qs all p q m i =
    let noted = all_noted f marks seen ps qs all p q m i in
    record {
      order = ap (λ s. fold with_number s (rest_variables f ps)) (sym (none_added seen (variables (f p)) noted))
          ∙ sym (fold-append with_number seen (variables (f p)) (rest_variables f ps))
          ∙ ap (fold with_number seen) (sym (ap (rest_variables f) q ∙ rest-push f ps p))
          ∙ i.order;
      covered = λ c k v h. elim (i.covered c k v h) [
        | inl n ↦ inl n
        | inr w ↦ elim (cases_lt w.index (length ps)) [
          | inl l ↦ inr (record {
            index = w.index;
            within = l;
            has = subst (λ x. Has (variables (f x)) v) (ap (λ x. get_or x w.index 0) q ∙ get_or_append_left ps (p ∷ []) 0 w.index l) w.has;
            below = λ j a b. subst (λ x. x < c) (ap (λ x. get_or x j 0) q ∙ get_or_append_left ps (p ∷ []) 0 j b) (w.below j a (let e = ap length q in omega (arith, length_push ps p)));
          })
          | inr g ↦
              let e = ap length q in
              let here : length ps ≡ w.index = omega (arith, length_push ps p, w.within) in
              inl (noted v (subst (λ x. Has (variables (f x)) v) (ap (λ x. get_or x w.index 0) q ∙ get_or_push ps p 0 w.index here) w.has))
        ]
      ];
      below = (All-pop (λ x. x < length marks) qs ps (Some p) q i.below).0;
    }

-- a shape's variables are its own and those of its parts
of_shape : (f : ℕ → Term) (s : Shape) → variables (shape_type f s) ≡ own_variables s ++ rest_variables f (parts s)
of_shape f Int = refl
of_shape f Bool' = refl
of_shape f Char = refl
of_shape f (Var v) = refl
of_shape f (Named n) = refl
of_shape f (SeqOf p) = refl
of_shape f (Both p q) = refl

pub parts_below : (n : ℕ) (s : Shape) → IsShapeBelow n s → All (λ q. q < n) (parts s)
parts_below n Int b = All-nil (λ q. q < n)
parts_below n Bool' b = All-nil (λ q. q < n)
parts_below n Char b = All-nil (λ q. q < n)
parts_below n (Var v) b = All-nil (λ q. q < n)
parts_below n (Named t) b = All-nil (λ q. q < n)
parts_below n (SeqOf p) b = All-cons (λ q. q < n) p [] b (All-nil (λ q. q < n))
parts_below n (Both p q) b = All-cons (λ q. q < n) q (p ∷ []) b.1 (All-cons (λ q. q < n) p [] b.0 (All-nil (λ q. q < n)))

-- one of its variables is noted, or waits among its parts
noted_or_waits : (f : ℕ → Term) (seen : List ℕ) (p : ℕ) (s : Shape) (v : ℕ) → f p ≡ shape_type f s → Has (variables (f p)) v → Has (fold with_number seen (own_variables s)) v ⊎ Waits f (parts s) v
noted_or_waits f seen p s v e h = elim (has_either (own_variables s) (rest_variables f (parts s)) v (subst (λ vs. Has vs v) (ap variables e ∙ of_shape f s) h)) [
  | inl o ↦ inl (is_noted seen (own_variables s) v o)
  | inr r ↦ inr (waits_among f (parts s) v r)
]

-- what comes after a stack
behind : (ps xs : List ℕ) (n j : ℕ) → All (λ q. q < n) xs → length ps ≤ j → j < length (ps ++ xs) → get_or (ps ++ xs) j 0 < n
behind ps xs n j a l m = rw (get_or-append_right ps xs (length ps) j 0 refl l) (All-get_or (λ q. q < n) xs (j - length ps) 0 (omega (arith, length-append ps xs)) a)

waits_behind : (f : ℕ → Term) (ps xs : List ℕ) (n c v : ℕ) → All (λ q. q < n) xs → n ≤ c → Waits f xs v → WaitsBelow f (ps ++ xs) c v
waits_behind f ps xs n c v a l w = record {
  index = length ps + w.index;
  within = omega (arith, length-append ps xs, w.within);
  has = subst (λ x. Has (variables (f x)) v) (sym (get_or-append-add ps xs w.index 0)) w.has;
  below = λ j i m. omega (arith, behind ps xs n j a (omega arith) m);
}

-- a variable that waits still waits, or is one of the shape on top
still_covered : (f : ℕ → Term) (seen ps qs : List ℕ) (p c v : ℕ) (s : Shape) → qs ≡ ps ++ p ∷ [] → f p ≡ shape_type f s → IsShapeBelow p s → WaitsBelow f qs c v →
    Has (fold with_number seen (own_variables s)) v ⊎ WaitsBelow f (ps ++ parts s) c v
still_covered f seen ps qs p c v s q e b w =
    let size = ap length q in
    let len = length_push ps p in
    let xs = parts s in
    let a = parts_below p s b in
    let top : get_or qs (length ps) 0 ≡ p = ap (λ l. get_or l (length ps) 0) q ∙ get_or_push ps p 0 (length ps) refl in
    let above = w.below (length ps) (omega (arith, w.within)) (omega arith) in
    let p_below : p < c = omega arith in
    elim (cases_lt w.index (length ps)) [
      | inl l ↦ inr (record {
        index = w.index;
        within = omega (arith, length-append ps xs);
        has = subst (λ x. Has (variables (f x)) v) (ap (λ x. get_or x w.index 0) q ∙ get_or_append_left ps (p ∷ []) 0 w.index l ∙ sym (get_or_append_left ps xs 0 w.index l)) w.has;
        below = λ j i m. elim (cases_lt j (length ps)) [
          | inl k ↦ subst (λ x. x < c) (ap (λ x. get_or x j 0) q ∙ get_or_append_left ps (p ∷ []) 0 j k ∙ sym (get_or_append_left ps xs 0 j k)) (w.below j i (omega arith))
          | inr k ↦ omega (arith, behind ps xs p j a k m)
        ];
      })
      | inr g ↦
          let here : length ps ≡ w.index = omega (arith, w.within) in
          let h = subst (λ x. Has (variables (f x)) v) (ap (λ x. get_or x w.index 0) q ∙ get_or_push ps p 0 w.index here) w.has in
          elim (noted_or_waits f seen p s v e h) [
            | inl n ↦ inl n
            | inr i ↦ inr (waits_behind f ps xs p c v a (omega arith) i)
          ]
    ]

-- a place that is looked at, with the shape that it has
pub enter : (f : ℕ → Term) (marks wider : List Bool) (seen noted ps qs rs all : List ℕ) (p : ℕ) (s : Shape) → qs ≡ ps ++ p ∷ [] → wider ≡ set marks p true → noted ≡ fold with_number seen (own_variables s) → rs ≡ ps ++ parts s → f p ≡ shape_type f s → IsShapeBelow p s →
    IsVisiting f marks seen qs all → IsVisiting f wider noted rs all
enter f marks wider seen noted ps qs rs all p s q m n r e b i =
    let popped = All-pop (λ x. x < length marks) qs ps (Some p) q i.below in
    let inside : p < length marks = popped.1 in
    let xs = parts s in
    let own = own_variables s in
    let a = parts_below p s b in
    rw (m, n, r) (record {
      order = ap (fold with_number (fold with_number seen own)) (rest-append f ps xs)
          ∙ sym (fold-append with_number seen own (rest_variables f xs ++ rest_variables f ps))
          ∙ ap (fold with_number seen) (sym (append_assoc own (rest_variables f xs) (rest_variables f ps)) ∙ ap (λ vs. vs ++ rest_variables f ps) (sym (of_shape f s) ∙ ap variables (sym e)) ∙ sym (ap (rest_variables f) q ∙ rest-push f ps p))
          ∙ i.order;
      covered = λ c k v h. elim (cases_eq c p) [
        | inl same ↦ elim (noted_or_waits f seen p s v e (subst (λ x. Has (variables (f x)) v) same h)) [
          | inl o ↦ inl o
          | inr w ↦ inr (waits_behind f ps xs p c v a (omega arith) w)
        ]
        | inr other ↦ elim (i.covered c (sym (get_or-set_other marks p c true false other) ∙ k) v h) [
          | inl o ↦ inl (noted_stays seen own v o)
          | inr w ↦ still_covered f seen ps qs p c v s q e b w
        ]
      ];
      below = subst (λ j. All (λ x. x < j) (ps ++ xs)) (sym (length-set marks p true)) (All-append (λ x. x < length marks) ps xs popped.0 (All-weaker (λ x. x < p) (λ x. x < length marks) (λ x l. omega arith) xs a));
    })

-- the marks that are left
abbrev pub unmarked : List Bool → ℕ
unmarked [] = 0
unmarked (b ∷ bs) = cond b 0 1 + unmarked bs

pub unmarked-set : (bs : List Bool) (i : ℕ) → i < length bs → get_or bs i false ≡ false → unmarked (set bs i true) + 1 ≡ unmarked bs
unmarked-set [] i l h = absurd (omega arith)
unmarked-set (true ∷ bs) zero l h = cc
unmarked-set (false ∷ bs) zero l h = omega arith
unmarked-set (b ∷ bs) (suc i) l h = omega (arith, unmarked-set bs i (omega arith) h)

parts_few : (s : Shape) → length (parts s) ≤ 2
parts_few Int = omega arith
parts_few Bool' = omega arith
parts_few Char = omega arith
parts_few (Var v) = omega arith
parts_few (Named n) = omega arith
parts_few (SeqOf p) = omega arith
parts_few (Both p q) = omega arith

-- one mark less is worth more than two places
pub less_left : (marks : List Bool) (ps qs rs : List ℕ) (p : ℕ) (s : Shape) → p < length marks → get_or marks p false ≡ false → qs ≡ ps ++ p ∷ [] → rs ≡ ps ++ parts s → 3 * unmarked (set marks p true) + length rs < 3 * unmarked marks + length qs
less_left marks ps qs rs p s l m q r =
    let e = ap length q in
    let d = ap length r in
    omega (arith, unmarked-set marks p l m, length_push ps p, length-append ps (parts s), parts_few s)

-- the place on top has a mark
pub top_inside : (f : ℕ → Term) (marks : List Bool) (seen ps qs all : List ℕ) (p : ℕ) → qs ≡ ps ++ p ∷ [] → IsVisiting f marks seen qs all → p < length marks
top_inside f marks seen ps qs all p q i = (All-pop (λ x. x < length marks) qs ps (Some p) q i.below).1

pub top_mark : (f : ℕ → Term) (marks : List Bool) (seen ps qs all : List ℕ) (p : ℕ) (mark : Bool) → qs ≡ ps ++ p ∷ [] → IsVisiting f marks seen qs all → mark ≡ get_or marks p mark → get_or marks p false ≡ mark
top_mark f marks seen ps qs all p mark q i m = sym (get_or_read marks p mark (top_inside f marks seen ps qs all p q i) m false)
