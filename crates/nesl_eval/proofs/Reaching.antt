-- What is marked of the places that code reaches.
use Rattle.std.proofs.Common.{◌≡◌, ℕ, zero, suc, ◌+◌, ◌<◌, ◌≤◌, ◌==◌, ◌||◌, List, [], ◌∷◌, ◌++◌, length, Bool, true, false, cond, Option, Some, None, refl, sym, ap, ◌∙◌, subst, get_or, set, arith, slice_get, append_assoc, append-nil, length-append, length-set, take, ◌⊎◌, inl, inr, ◌*◌, Vec, Box, Global, rules, replicate}
use Rattle.std.specs.Prelude.{All, Contains, sum_by}
use Rattle.std.specs.List.{AllByRecursion, list_any}
use Rattle.std.proofs.lemmas.List.{take_more}
use Rattle.std.proofs.lemmas.List.Elements.{All-from_recursion}
use Rattle.std.proofs.lemmas.List.Folds.{list_any-append}
use Rattle.std.proofs.lemmas.List.Sums.{sum_by-set, sum_by-le, sum_by-cons}
use Rattle.std.proofs.lemmas.Option.{slice_get_within, slice_get-get_or}
use Rattle.std.proofs.lemmas.Bool.{eq-eqb, eqb-true, cases_lt}
use Rattle.std.specs.Prelude.{Result, Ok, Err, OnOk}
use Rattle.nesl_eval_code.specs.declared.code.Code.{Code}
use Rattle.nesl_eval_code.specs.declared.code.Code as nodes
use Rattle.nesl_lex.specs.declared.token.Span.{Span}
use Rattle.nesl_eval_code.specs.Run.{Table, Slot, function_slot, nothing_slot, slot_at}
use Rattle.nesl_eval.specs.Reached.{own_place, parts_of, Refers, Reaches, IsMarked, Marks, count_of, AreQueued, Grows, by_itself, in_part, directly, in_body}

-- marks that are kept
pub marks_kept : (t : Table) (old new : List Bool) (q r : List ℕ) (c : Code) → Grows old new q r → Marks t old c → Marks t new c
marks_kept t old new q r c g m k refers h = g.kept k (m k refers (omega (arith, h, g.places)))

pub all_kept : (t : Table) (old new : List Bool) (q r : List ℕ) (cs : List Code) → Grows old new q r → AllByRecursion (Marks t old) cs → AllByRecursion (Marks t new) cs
all_kept t old new q r [] g m = tt
all_kept t old new q r (c ∷ cs) g m = (marks_kept t old new q r c g m.0, all_kept t old new q r cs g m.1)

pub all_both : {X : Type 0} (P : X → Type 0) (xs ys : List X) → AllByRecursion P xs → AllByRecursion P ys → AllByRecursion P (xs ++ ys)
all_both P [] ys a b = b
all_both P (x ∷ xs) ys a b = (a.0, all_both P xs ys a.1 b)

-- one after the other
pub grows_none : (marks : List Bool) (queue : List ℕ) → Grows marks marks queue queue
grows_none marks queue = record { places = refl; kept = λ k h. h; added = ([], sym (append-nil queue)) }

pub grows_then : (a b c : List Bool) (p q r : List ℕ) → Grows a b p q → Grows b c q r → Grows a c p r
grows_then a b c p q r g h = record {
  places = h.places ∙ g.places;
  kept = λ k m. h.kept k (g.kept k m);
  added = (g.added.0 ++ h.added.0, h.added.1 ∙ ap (λ x. x ++ h.added.0) g.added.1 ∙ append_assoc p g.added.0 h.added.0);
}

-- a node's own place is marked, and the places to which its parts refer
pub node_marked : (t : Table) (c : Code) (marks : List Bool) → ((k : ℕ) → own_place t c ≡ Some k → k < length marks → IsMarked marks k) → AllByRecursion (Marks t marks) (parts_of c) → Marks t marks c
node_marked t c marks own parts k (by_itself e) h = own k e h
node_marked t c marks own parts k (in_part part i r) h =
    let all = All-from_recursion (Marks t marks) (parts_of c) parts in
    let here : Marks t marks part = subst (Marks t marks) i.2 (all i.0 part i.1) in
    here k r h

slot_inside : (t : Table) (k : ℕ) (s : Slot) → slot_at t k ≡ Some s → k < length t
slot_inside [] k s e = absurd (cc)
slot_inside (b ∷ t) zero s e = omega arith
slot_inside (b ∷ t) (suc k) s e = let h = slot_inside t k s e in omega (arith, h)

-- all that code reaches is marked, once what it refers to is, and what each marked function's body refers to
pub reached_marked : (t : Table) (c : Code) (marks : List Bool) → length t ≡ length marks → Marks t marks c
    → ((j : ℕ) (body : Code) → IsMarked marks j → slot_at t j ≡ Some (function_slot body) → Marks t marks body)
    → (k : ℕ) → Reaches t c k → k < length marks → IsMarked marks k
reached_marked t c marks n own bodies k (directly r) h = own k r h
reached_marked t c marks n own bodies k (in_body j body r e refers) h =
    bodies j body (reached_marked t c marks n own bodies j r (omega (arith, n, slot_inside t j (function_slot body) e))) e k refers h

-- what is read after a write
set_read : {X : Type 0} (xs : List X) (k j : ℕ) (x y : X) → slice_get (set xs k x) j ≡ Some y → (j ≡ k) ⊎ (slice_get xs j ≡ Some y)
set_read [] k j x y e = inr e
set_read (z ∷ xs) zero zero x y e = inl refl
set_read (z ∷ xs) zero (suc j) x y e = inr e
set_read (z ∷ xs) (suc k) zero x y e = inr e
set_read (z ∷ xs) (suc k) (suc j) x y e = elim (set_read xs k j x y e) [ inl p ↦ inl (ap suc p) | inr q ↦ inr q ]

set_reads : {X : Type 0} (xs : List X) (k j : ℕ) (x y : X) → slice_get xs j ≡ Some x → slice_get (set xs k x) j ≡ Some x
set_reads [] k j x y e = e
set_reads (z ∷ xs) zero zero x y e = refl
set_reads (z ∷ xs) zero (suc j) x y e = e
set_reads (z ∷ xs) (suc k) zero x y e = e
set_reads (z ∷ xs) (suc k) (suc j) x y e = set_reads xs k j x y e

pub set_there : {X : Type 0} (xs : List X) (k : ℕ) (x : X) → k < length xs → slice_get (set xs k x) k ≡ Some x
set_there [] k x h = absurd (omega (arith, h))
set_there (z ∷ xs) zero x h = refl
set_there (z ∷ xs) (suc k) x h = set_there xs k x (omega arith)

same_place : (k : ℕ) → (k == k) ≡ true
same_place k = eq-eqb k k refl

or_first : (a b : Bool) → a ≡ true → (a || b) ≡ true
or_first true b e = refl
or_first false b e = absurd (cc)

or_second : (a b : Bool) → b ≡ true → (a || b) ≡ true
or_second true b e = refl
or_second false b e = e

-- a place that is marked, and is last in the queue
pub queued_more : (marks : List Bool) (queue : List ℕ) (place : ℕ) → AreQueued marks queue → AreQueued (set marks place true) (queue ++ place ∷ [])
queued_more marks queue place q k m =
    let both = list_any-append (λ (p : ℕ). p == k) queue (place ∷ []) in
    elim (set_read marks place k true true m) [
      | inl e ↦ both ∙ or_second (list_any (λ (p : ℕ). p == k) queue) (list_any (λ (p : ℕ). p == k) (place ∷ [])) (or_first (place == k) false (ap (λ (x : ℕ). x == k) (sym e) ∙ same_place k))
      | inr h ↦ both ∙ or_first (list_any (λ (p : ℕ). p == k) queue) (list_any (λ (p : ℕ). p == k) (place ∷ [])) (q k h)
    ]

abbrev one : Bool → ℕ
one m = cond m 1 0

pub once_more : (marks : List Bool) (queue : List ℕ) (place : ℕ) (d : Bool) → place < length marks → d ≡ get_or marks place d → d ≡ false → length queue ≡ count_of marks → length (queue ++ place ∷ []) ≡ count_of (set marks place true)
once_more marks queue place d h there un e =
    let s : sum_by one (set marks place true) + one (get_or marks place d) ≡ sum_by one marks + 1 = sum_by-set one marks place true d h in
    let z : one (get_or marks place d) ≡ 0 = ap one (sym there ∙ un) in
    let l = length-append queue (place ∷ []) in
    omega (arith, s, z, e, l)

pub grows_more : (marks : List Bool) (queue : List ℕ) (place : ℕ) → Grows marks (set marks place true) queue (queue ++ place ∷ [])
grows_more marks queue place = record {
  places = length-set marks place true;
  kept = λ k m. set_reads marks place k true true m;
  added = (place ∷ [], refl);
}

-- no more are in the queue than there are places
pub few_queued : (marks : List Bool) (queue : List ℕ) → length queue ≡ count_of marks → length queue ≤ length marks
few_queued marks queue e = let most : sum_by one marks ≤ length marks * 1 = sum_by-le one 1 marks (λ k d h. at_most (get_or marks k d)) in omega (arith, most, e)
  where
    at_most : (b : Bool) → one b ≤ 1
    at_most true = omega arith
    at_most false = omega arith

-- where a place is in the queue
equal : (a b : ℕ) → (a == b) ≡ true → a ≡ b
equal a b e = eqb-true a b e

place_here : (p k : ℕ) (queue : List ℕ) (b : Bool) → (p == k) ≡ b → (list_any (λ (q : ℕ). q == k) queue ≡ true → (i : ℕ) × (i < length queue) × (slice_get queue i ≡ Some k)) → (b || list_any (λ (q : ℕ). q == k) queue) ≡ true
    → (i : ℕ) × (i < suc (length queue)) × (slice_get (p ∷ queue) i ≡ Some k)
place_here p k queue true e more f = (zero, omega arith, ap (λ x. Some x) (equal p k e))
place_here p k queue false e more f = let rest = more f in (suc rest.0, omega (arith, rest.1), rest.2)

pub place_in : (queue : List ℕ) (k : ℕ) → list_any (λ (p : ℕ). p == k) queue ≡ true → (i : ℕ) × (i < length queue) × (slice_get queue i ≡ Some k)
place_in [] k e = absurd (cc)
place_in (p ∷ queue) k e = place_here p k queue (p == k) refl (place_in queue k) e

-- the parts of nodes with lists of parts
pub parts-Sequence : (s : Span) (codes : Vec Code Global) → parts_of (nodes.Sequence s codes) ≡ codes.items
parts-Sequence s codes = search (rules, nodes.the_lemmas)

pub parts-Let : (s : Span) (codes : Vec Code Global) (body : Box Code Global) → parts_of (nodes.Let s codes body) ≡ codes.items ++ body.value ∷ []
parts-Let s codes body = search (rules, nodes.the_lemmas)

pub parts-Each : (s : Span) (codes : Vec Code Global) (body : Box Code Global) → parts_of (nodes.Each s codes body) ≡ codes.items ++ body.value ∷ []
parts-Each s codes body = search (rules, nodes.the_lemmas)

pub parts-FilteredEach : (s : Span) (codes : Vec Code Global) (body filter : Box Code Global) → parts_of (nodes.FilteredEach s codes body filter) ≡ codes.items ++ body.value ∷ filter.value ∷ []
parts-FilteredEach s codes body filter = search (rules, nodes.the_lemmas)

-- a place that a node doesn't name itself
pub names_none : (t : Table) (c : Code) (marks : List Bool) → own_place t c ≡ None → (k : ℕ) → own_place t c ≡ Some k → k < length marks → IsMarked marks k
names_none t c marks none k e h = let no' : None ≡ Some k = sym none ∙ e in absurd (cc)

pub names_place : (t : Table) (c : Code) (marks : List Bool) (place : ℕ) → own_place t c ≡ Some place → (place < length marks → IsMarked marks place) → (k : ℕ) → own_place t c ≡ Some k → k < length marks → IsMarked marks k
names_place t c marks place some m k e h = let both : Some place ≡ Some k = sym some ∙ e in let same : place ≡ k = cc in subst (IsMarked marks) same (m (subst (λ x. x < length marks) (sym same) h))

-- the last part of a node, after the place that it names and its other parts
module _ {E : Type 0} (t : Table) (c : Code) (front : List Code) (old new : List Bool) (q r : List ℕ) (result : Result (Unit {0}) E) where
  then_last :
      (b there : Code) → parts_of c ≡ front ++ b ∷ [] → there ≡ b
      → ((k : ℕ) → own_place t c ≡ Some k → k < length old → IsMarked old k) → AllByRecursion (Marks t old) front
      → Grows old new q r → Marks t new there → Marks t new c
  then_last b there parts same own marks g m =
      let last : AllByRecursion (Marks t new) (b ∷ []) = (subst (Marks t new) same m, tt) in
      node_marked t c new (λ k e h. g.kept k (own k e (omega (arith, h, g.places)))) (subst (AllByRecursion (Marks t new)) (sym parts) (all_both (Marks t new) front (b ∷ []) (all_kept t old new q r front g marks) last))

  pub last_part :
      (b there : Code) → parts_of c ≡ front ++ b ∷ [] → there ≡ b
      → ((k : ℕ) → own_place t c ≡ Some k → k < length old → IsMarked old k) → AllByRecursion (Marks t old) front
      → OnOk result (Grows old new q r) → OnOk result (Marks t new there) → OnOk result (Marks t new c)
  last_part b there parts same own marks = both result
    where
      both : (x : Result (Unit {0}) E) → OnOk x (Grows old new q r) → OnOk x (Marks t new there) → OnOk x (Marks t new c)
      both (Ok v) g m = then_last b there parts same own marks g m
      both (Err e) g m = tt

pub all_parts : {E : Type 0} (t : Table) (c : Code) (parts : List Code) (marks : List Bool) (result : Result (Unit {0}) E) → own_place t c ≡ None → parts ≡ parts_of c → OnOk result (AllByRecursion (Marks t marks) parts) → OnOk result (Marks t marks c)
all_parts t c parts marks (Ok v) none same m = node_marked t c marks (names_none t c marks none) (subst (AllByRecursion (Marks t marks)) same m)
all_parts t c parts marks (Err e) none same m = tt

-- one code more of a list that is gone through
pub one_more : (t : Table) (codes : List Code) (i : ℕ) (c : Code) (old new : List Bool) (q r : List ℕ) → i < length codes → c ≡ get_or codes i c → Grows old new q r → Marks t new c → AllByRecursion (Marks t old) (take i codes) → AllByRecursion (Marks t new) (take (i + 1) codes)
one_more t codes i c old new q r h is g m all =
    let last : AllByRecursion (Marks t new) (c ∷ []) = (m, tt) in
    subst (AllByRecursion (Marks t new)) (sym (take_more codes i c h ∙ ap (λ x. take i codes ++ x ∷ []) (sym is))) (all_both (Marks t new) (take i codes) (c ∷ []) (all_kept t old new q r (take i codes) g all) last)

-- none is marked
none_at : (n k : ℕ) → IsMarked (replicate n false) k → ⊥
none_at zero k m = absurd (cc)
none_at (suc n) zero m = absurd (cc)
none_at (suc n) (suc k) m = none_at n k m

none_count : (n : ℕ) → count_of (replicate n false) ≡ 0
none_count zero = refl
none_count (suc n) = let rest = none_count n in omega (arith, rest, sum_by-cons one false (replicate n false))

pub none_queued : (n : ℕ) (marks : List Bool) (queue : List ℕ) → marks ≡ replicate n false → queue ≡ [] → AreQueued marks queue
none_queued n marks queue e f k m = absurd (none_at n k (subst (λ x. IsMarked x k) e m))

pub none_once : (n : ℕ) (marks : List Bool) (queue : List ℕ) → marks ≡ replicate n false → queue ≡ [] → length queue ≡ count_of marks
none_once n marks queue e f = ap length f ∙ sym (ap count_of e ∙ none_count n)

-- what is before what is added
front_read : (queue more : List ℕ) (i : ℕ) → i < length queue → slice_get (queue ++ more) i ≡ slice_get queue i
front_read [] more i h = absurd (omega (arith, h))
front_read (p ∷ queue) more zero h = refl
front_read (p ∷ queue) more (suc i) h = front_read queue more i (omega arith)

-- the bodies of the functions that are in the queue, with one more that was gone into
module _ (t : Table) (old new : List Bool) (q r : List ℕ) (next place : ℕ) where
  pub bodies_more :
      next < length q → place ≡ get_or q next place → Grows old new q r
      → ((body : Code) → slot_at t place ≡ Some (function_slot body) → Marks t new body)
      → ((i j : ℕ) (body : Code) → i < next → slice_get q i ≡ Some j → slot_at t j ≡ Some (function_slot body) → Marks t old body)
      → (i j : ℕ) (body : Code) → i < next + 1 → slice_get r i ≡ Some j → slot_at t j ≡ Some (function_slot body) → Marks t new body
  bodies_more inside here g into before i j body h there stands =
      let front : slice_get r i ≡ slice_get q i = ap (λ x. slice_get x i) g.added.1 ∙ front_read q g.added.0 i (omega (arith, h, inside)) in
      elim (cases_lt i next) [
        | inl less ↦ marks_kept t old new q r body g (before i j body less (sym front ∙ there) stands)
        | inr most ↦
            let same : i ≡ next = omega (arith, h, most) in
            let read : Some place ≡ Some j = ap (λ x. Some x) here ∙ sym (slice_get-get_or q next place inside) ∙ ap (slice_get q) (sym same) ∙ sym front ∙ there in
            let at : place ≡ j = cc in
            into body (ap (slot_at t) at ∙ stands)
      ]

-- once all that are in the queue were gone into
pub all_reached : (t : Table) (c : Code) (marks : List Bool) (queue : List ℕ) (next places : ℕ) → places ≡ length t → length marks ≡ length t → length queue ≤ next → AreQueued marks queue → Marks t marks c
    → ((i j : ℕ) (body : Code) → i < next → slice_get queue i ≡ Some j → slot_at t j ≡ Some (function_slot body) → Marks t marks body)
    → (k : ℕ) → Reaches t c k → k < places → IsMarked marks k
all_reached t c marks queue next places p n past queued own bodies k r h =
    reached_marked t c marks (sym n) own (λ j body m stands. let i = place_in queue j (queued j m) in bodies i.0 j body (omega (arith, past, i.1)) i.2 stands) k r (omega (arith, h, p, n))
