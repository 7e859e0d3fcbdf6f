-- The best of numbers.
use Rattle.std.proofs.Common.{◌≡◌, ℕ, zero, suc, ◌+◌, ◌<◌, ℤ, Bool, true, false, not, cond, List, [], ◌∷◌, ◌++◌, length, Option, Some, None, option_map, refl, ap, sym, ◌∙◌, arith, nat_lt, slice_get, append_assoc, subst, option_and_then, Err}
use Rattle.std.specs.List.{list_all, position, position_or_len, fold}
use Rattle.std.proofs.lemmas.Int.{ints}
use Rattle.std.proofs.lemmas.List.{append-nil, length-append}
use Rattle.std.proofs.lemmas.Bool.{and_from, and_parts}
use Rattle.std.proofs.lemmas.Bool.Decides.{Decides-ltb}
use Rattle.nesl_values.specs.Tree.{ValueTree}
use Rattle.nesl_seqs_base.specs.Reductions.{all_of}
use Rattle.nesl_seqs_base.specs.Extremes.{leads, element_with, best}
use Rattle.nesl_seqs.specs.Better.{better}
use Rattle.nesl_seqs.specs.Scalar.{ScalarIs, ResultIs}
use Rattle.nesl_seqs_base.specs.Outcome.{Outcome, gives, traps, undefined}
use Rattle.nesl_scalars.specs.declared.trap.Trap.{Trap}
use Rattle.nesl_seqs_base.specs.declared.order.Best.{Best}
use Rattle.nesl_seqs_base.specs.declared.order.Order.{Order}
use Rattle.nesl_seqs_base.specs.declared.order.Order.TheVariants.{Greatest, Least}
use Rattle.nesl_seqs.proofs.Folds.{folded, folded_is}

leads_itself : (o : Order) (z : ℤ) → leads o z z ≡ true
leads_itself Greatest z = grind (arith, ints)
leads_itself Least z = grind (arith, ints)

leads_through : (o : Order) (x y z : ℤ) → leads o x y ≡ true → leads o y z ≡ true → leads o x z ≡ true
leads_through Greatest x y z h k = grind (arith, ints)
leads_through Least x y z h k = grind (arith, ints)

leads_back : (o : Order) (x y : ℤ) → leads o x y ≡ false → leads o y x ≡ true
leads_back Greatest x y h = grind (arith, ints)
leads_back Least x y h = grind (arith, ints)

is_within : {X : Type 0} (xs : List X) (i : ℕ) (x : X) → slice_get xs i ≡ Some x → i < length xs
is_within [] i x at = absurd (cc at)
is_within (y ∷ ys) zero x at = omega arith
is_within (y ∷ ys) (suc i) x at = omega (arith, is_within ys i x at)

stops_at : {X : Type 0} (p : X → Bool) (xs : List X) (i : ℕ) (x : X) → slice_get xs i ≡ Some x → p x ≡ true → ((k : ℕ) (c : X) → k < i → slice_get xs k ≡ Some c → p c ≡ false) → position_or_len p xs ≡ i
stops_at p [] i x at passes fails = absurd (cc at)
stops_at p (y ∷ ys) zero x at passes fails =
    let same : x ≡ y = cc at in
    ap (λ b. cond (not b) (1 + position_or_len p ys) 0) (sym (ap p same) ∙ passes)
stops_at p (y ∷ ys) (suc i) x at passes fails =
    let rest : position_or_len p ys ≡ i = stops_at p ys i x at passes (λ k c h is. fails (suc k) c (omega arith) is) in
    ap (λ b. cond (not b) (1 + position_or_len p ys) 0) (fails 0 y (omega arith) refl) ∙ omega (arith, rest)

position_at : {X : Type 0} (p : X → Bool) (xs : List X) (i : ℕ) (x : X) → slice_get xs i ≡ Some x → p x ≡ true → ((k : ℕ) (c : X) → k < i → slice_get xs k ≡ Some c → p c ≡ false) → position p xs ≡ Some i
position_at p xs i x at passes fails =
    ap (λ n. cond (nat_lt n (length xs)) (Some n) None) (stops_at p xs i x at passes fails) ∙ ap (λ b. cond b (Some i) None) ((Decides-ltb i (length xs)).1 (is_within xs i x at))

all_through : (o : Order) (x y : ℤ) → leads o x y ≡ true → (zs : List ℤ) → list_all (leads o y) zs ≡ true → list_all (leads o x) zs ≡ true
all_through o x y h [] all = refl
all_through o x y h (z ∷ zs) all =
    and_from (leads o x z) (list_all (leads o x) zs) (leads_through o x y z h (and_parts (leads o y z) (list_all (leads o y) zs) all).0) (all_through o x y h zs (and_parts (leads o y z) (list_all (leads o y) zs) all).1)

all_at : (p : ℤ → Bool) (zs : List ℤ) (k : ℕ) (c : ℤ) → list_all p zs ≡ true → slice_get zs k ≡ Some c → p c ≡ true
all_at p [] k c all at = absurd (cc at)
all_at p (z ∷ zs) zero c all at =
    let same : z ≡ c = cc at in
    ap p (sym same) ∙ (and_parts (p z) (list_all p zs) all).0
all_at p (z ∷ zs) (suc k) c all at = all_at p zs k c (and_parts (p z) (list_all p zs) all).1 at

all_pushed : (p : ℤ → Bool) (zs : List ℤ) (z : ℤ) → list_all p zs ≡ true → p z ≡ true → list_all p (zs ++ z ∷ []) ≡ true
all_pushed p [] z all is = and_from (p z) true is refl
all_pushed p (y ∷ ys) z all is =
    and_from (p y) (list_all p (ys ++ z ∷ [])) (and_parts (p y) (list_all p ys) all).0 (all_pushed p ys z (and_parts (p y) (list_all p ys) all).1 is)

pub get_front : {X : Type 0} (zs us : List X) (k : ℕ) → k < length zs → slice_get (zs ++ us) k ≡ slice_get zs k
get_front [] us k h = absurd (omega arith)
get_front (z ∷ zs) us zero h = refl
get_front (z ∷ zs) us (suc k) h = get_front zs us k (omega arith)

get_end : (zs : List ℤ) (z : ℤ) → slice_get (zs ++ z ∷ []) (length zs) ≡ Some z
get_end [] z = refl
get_end (y ∷ ys) z = get_end ys z

-- the best of a list: none is better, and none before it is as good
abbrev IsBest : Order → List ℤ → Option Best → Type 0
IsBest o zs None = zs ≡ []
IsBest o zs (Some b) = (slice_get zs b.place ≡ Some b.key) × (list_all (leads o b.key) zs ≡ true) × ((k : ℕ) (c : ℤ) → k < b.place → slice_get zs k ≡ Some c → leads o c b.key ≡ false)

contrary : (t : Bool) → (t ≡ true → ⊥) → t ≡ false
contrary true h = absurd (h refl)
contrary false h = refl

differ : (t : Bool) → t ≡ true → t ≡ false → ⊥
differ t h k = cc (sym h ∙ k)

best_kept : (o : Order) (zs : List ℤ) (b : Option Best) (z : ℤ) → IsBest o zs b → IsBest o (zs ++ z ∷ []) (Some (better o b (element_with (length zs) z)))
best_kept o [] None z h = (refl, all_pushed (leads o z) [] z refl (leads_itself o z), λ k c l at. absurd (omega arith))
best_kept o (y ∷ ys) None z h = absurd (cc h)
best_kept o zs (Some it) z h = by (leads o it.key z) refl
  where
    by : (t : Bool) → leads o it.key z ≡ t → IsBest o (zs ++ z ∷ []) (Some (cond t it (element_with (length zs) z)))
    by true is =
        let within : it.place < length zs = is_within zs it.place it.key h.0 in (
          get_front zs (z ∷ []) it.place within ∙ h.0,
          all_pushed (leads o it.key) zs z h.1 is,
          λ k c l at. h.2 k c l (sym (get_front zs (z ∷ []) k (omega arith)) ∙ at),
        )
    by false is =
        let back : leads o z it.key ≡ true = leads_back o it.key z is in (
          get_end zs z,
          all_pushed (leads o z) zs z (all_through o z it.key back zs h.1) (leads_itself o z),
          λ k c l at. contrary (leads o c z) (λ passes. differ (leads o it.key z) (leads_through o it.key c z (all_at (leads o it.key) zs k c h.1 (sym (get_front zs (z ∷ []) k l) ∙ at)) passes) is),
        )

-- one turn of the loop
abbrev pub turn : Order → Option Best × ℕ → ℤ → Option Best × ℕ
turn o s z = (Some (better o s.0 (element_with s.1 z)), s.1 + 1)

best_so_far : (o : Order) (zs us : List ℤ) (b : Option Best) → IsBest o zs b → IsBest o (zs ++ us) (fold (turn o) (b, length zs) us).0
best_so_far o zs [] b h = rw (append-nil zs) h
best_so_far o zs (u ∷ us) b h =
    let next = Some (better o b (element_with (length zs) u)) in
    subst (λ vs. IsBest o vs (fold (turn o) (next, length zs + 1) us).0) (append_assoc zs (u ∷ []) us) (subst (λ n. IsBest o ((zs ++ u ∷ []) ++ us) (fold (turn o) (next, n) us).0) (length-append zs (u ∷ [])) (best_so_far o (zs ++ u ∷ []) us next (best_kept o zs b u h)))

best_is : (o : Order) (zs : List ℤ) (b : Option Best) → IsBest o zs b → b ≡ best o zs
best_is o [] None h = refl
best_is o (z ∷ zs) None h = absurd (cc h)
best_is o zs (Some it) h =
    let place : position (λ z. list_all (leads o z) zs) zs ≡ Some it.place = position_at (λ z. list_all (leads o z) zs) zs it.place it.key h.0 h.1 (λ k c l at. contrary (list_all (leads o c) zs) (λ all. differ (leads o c it.key) (all_at (leads o c) zs it.place it.key all h.0) (h.2 k c l at))) in
    sym (ap (λ p. option_and_then (λ j. option_map (element_with j) (slice_get zs j)) p) place ∙ ap (option_map (element_with it.place)) h.0)

pub folded_best : (o : Order) (read : ValueTree → Option ℤ) (ts : List ValueTree) → option_map (λ s. s.0) (folded (turn o) read (None, 0) ts) ≡ option_map (best o) (all_of read ts)
folded_best o read ts =
    ap (option_map (λ s. s.0)) (folded_is (turn o) read (fold (turn o)) (λ s. refl) (λ s x xs. refl) (None, 0) ts) ∙ told (all_of read ts)
  where
    told : (a : Option (List ℤ)) → option_map (λ s. s.0) (option_map (fold (turn o) (None, 0)) a) ≡ option_map (best o) a
    told None = refl
    told (Some zs) = ap Some (best_is o zs (fold (turn o) (None, 0) zs).0 (best_so_far o [] zs None refl))

pub refused : {X : Type 0} (f : X → ValueTree) (o : Outcome) (e : Trap) → ResultIs f o (Err e) → ScalarIs o (Err e)
refused f (gives t) e h = h
refused f (traps d) e h = h
refused f undefined e h = h
