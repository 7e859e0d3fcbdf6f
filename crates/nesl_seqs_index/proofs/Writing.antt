-- Writes to places.
use Rattle.std.proofs.Common.{◌≡◌, ◌≢◌, ℕ, ℤ, zero, suc, ◌+◌, ◌-◌, ◌*◌, ◌/◌, ◌%◌, ◌<◌, ◌≤◌, Bool, true, false, ◌&&◌, cond, nat_eq, List, [], ◌∷◌, ◌++◌, length, map, zip, take, drop, reverse, set, get_or, min, refl, ap, sym, ◌∙◌, arith, Option, Some, None, is_some, option_map, option_and_then, unwrap_or, slice_get}
use Rattle.std.specs.List.{list_all, cons_option, enumerate_from}
use Rattle.std.proofs.lemmas.List.{append-nil, take_more, map-append, length-map, reverse-append, take-append-drop, drop-drop, drop_all, length-take, length-drop, get_or-set_same, get_or-set_other}
use Rattle.std.proofs.lemmas.Bool.Decides.{Decides-eqb}
use Rattle.std.proofs.lemmas.Option.{slice_get-map, slice_get_read}
use Rattle.std.proofs.lemmas.List.Elements.{filter_map-append}
use Rattle.nesl_scalars.specs.declared.trap.Trap.TheVariants.{Range}
use Rattle.nesl_values.specs.Tree.{ValueTree, int, pair, size, sizes, sequence, trees_of}
use Rattle.nesl_values.specs.Parts.{as_pair}
use Rattle.nesl_seqs_base.specs.Outcome.{gives, traps, if_there}
use Rattle.nesl_seqs_base.specs.Reductions.{all_of}
use Rattle.nesl_seqs_base.specs.Places.{place_in, place_of, all_name_places, places_named, arrival}
use Rattle.nesl_seqs_base.specs.Write.{int_and_tree, overwritten, written, write_of, writes_of, told_by}
use Rattle.nesl_seqs_base.proofs.Equality.{left_true, right_true}
use Rattle.nesl_seqs_index.proofs.Marking.{are_equal, are_apart, test_apart}
use Rattle.nesl_seqs_index.proofs.Picking.{IsRefused, list_all_map}
use Rattle.nesl_seqs_index.proofs.Permuting.{arrival_or, first_arrival}
use Rattle.nesl_seqs_base.proofs.Totals.{sizes_append}
use Rattle.nesl_seqs_base.proofs.Sizes.{sizes_set}

-- pairs of a number and a tree
abbrev tree_of_pair : ℤ × ValueTree → ValueTree
tree_of_pair p = pair (int p.0) p.1

by_rest : (p : ℤ × ValueTree) (ts : List ValueTree) (ps : List (ℤ × ValueTree)) (o : Option (List (ℤ × ValueTree))) → ((qs : List (ℤ × ValueTree)) → all_of int_and_tree ts ≡ Some qs → ts ≡ map tree_of_pair qs) → all_of int_and_tree ts ≡ o → option_map (λ xs. p ∷ xs) o ≡ Some ps → tree_of_pair p ∷ ts ≡ map tree_of_pair ps
by_rest p ts ps None rest e q = absurd (cc q)
by_rest p ts ps (Some qs) rest e q =
    let same : p ∷ qs ≡ ps = cc q in
    ap (λ us. tree_of_pair p ∷ us) (rest qs e) ∙ ap (map tree_of_pair) same

are_pairs : (ts : List ValueTree) (ps : List (ℤ × ValueTree)) → all_of int_and_tree ts ≡ Some ps → ts ≡ map tree_of_pair ps
are_pairs [] ps h =
    let none : [] ≡ ps = cc h in
    ap (map tree_of_pair) none
are_pairs (pair (int z) u ∷ ts) ps h = by_rest (z, u) ts ps (all_of int_and_tree ts) (λ qs e. are_pairs ts qs e) refl h
are_pairs (t ∷ ts) ps h = absurd (cc h)

some_place : (o : Option ℕ) (u : ValueTree) → is_some {T = ℕ × ValueTree} (option_map (λ k. (k, u)) o) ≡ is_some o
some_place None u = refl
some_place (Some k) u = refl

names_written : (n : ℕ) (ps : List (ℤ × ValueTree)) → list_all (λ t. is_some (write_of n t)) (map tree_of_pair ps) ≡ all_name_places n (map (λ p. p.0) ps)
names_written n [] = refl
names_written n (p ∷ ps) = ap (λ b. b && list_all (λ t. is_some (write_of n t)) (map tree_of_pair ps)) (some_place (place_in n p.0) p.1) ∙ ap (λ b. is_some (place_in n p.0) && b) (names_written n ps)

zipped_writes : (n : ℕ) (ps : List (ℤ × ValueTree)) → all_name_places n (map (λ p. p.0) ps) ≡ true → zip (places_named n (map (λ p. p.0) ps)) (map (λ p. p.1) ps) ≡ writes_of n (map tree_of_pair ps)
zipped_writes n [] h = refl
zipped_writes n (p ∷ ps) h = one_more (place_in n p.0) p.1 (places_named n (map (λ q. q.0) ps)) (map (λ q. q.1) ps) (writes_of n (map tree_of_pair ps)) (left_true (is_some (place_in n p.0)) _ h) (zipped_writes n ps (right_true (is_some (place_in n p.0)) _ h))
  where
    one_more : (o : Option ℕ) (u : ValueTree) (ks : List ℕ) (us : List ValueTree) (ws : List (ℕ × ValueTree)) → is_some o ≡ true → zip ks us ≡ ws → zip (cons_option o ks) (u ∷ us) ≡ cons_option (option_map (λ k. (k, u)) o) ws
    one_more None u ks us ws p e = absurd (cc p)
    one_more (Some k) u ks us ws p e = ap (λ vs. (k, u) ∷ vs) e

all_pairs : (n : ℕ) (ts : List ValueTree) → list_all (λ t. is_some (write_of n t)) ts ≡ true → (ps : List (ℤ × ValueTree)) × (all_of int_and_tree ts ≡ Some ps)
all_pairs n [] h = ([], refl)
all_pairs n (pair (int z) u ∷ ts) h =
    let rest = all_pairs n ts (right_true (is_some (write_of n (pair (int z) u))) _ h) in
    ((z, u) ∷ rest.0, ap (option_map (λ xs. (z, u) ∷ xs)) rest.1)
all_pairs n (t ∷ ts) h = absurd (cc h)

pub given_written : {P : Type 0} (f : P → ValueTree) (ps : List P) (ts : List ValueTree) → list_all (λ p. is_some (write_of (length ts) (f p))) ps ≡ true
    → if_there (all_of int_and_tree (map f ps)) (written ts) ≡ gives (sequence (overwritten ts (writes_of (length ts) (map f ps))))
given_written f ps ts named =
    let n = length ts in
    let us = map f ps in
    let seen : list_all (λ t. is_some (write_of (length ts) t)) (map f ps) ≡ true = list_all_map (λ t. is_some (write_of (length ts) t)) f ps ∙ named in
    let found = all_pairs (length ts) (map f ps) seen in
    let qs = found.0 in
    let same : map f ps ≡ map tree_of_pair qs = are_pairs (map f ps) qs found.1 in
    let all : all_name_places (length ts) (map (λ q. q.0) qs) ≡ true = sym (names_written (length ts) qs) ∙ ap (list_all (λ t. is_some (write_of (length ts) t))) (sym same) ∙ seen in
    let ws : zip (places_named (length ts) (map (λ q. q.0) qs)) (map (λ q. q.1) qs) ≡ writes_of (length ts) (map f ps) = zipped_writes (length ts) qs all ∙ ap (writes_of (length ts)) (sym same) in
    ap (λ o. if_there o (written ts)) found.1 ∙ ap (λ b. cond b (gives (sequence (overwritten ts (zip (places_named (length ts) (map (λ q. q.0) qs)) (map (λ q. q.1) qs))))) (traps Range)) all ∙ ap (λ vs. gives (sequence (overwritten ts vs))) ws

pub refused_write : {P : Type 0} (f : P → ValueTree) (ps : List P) (ts : List ValueTree) → list_all (λ p. is_some (write_of (length ts) (f p))) ps ≡ false → IsRefused (if_there (all_of int_and_tree (map f ps)) (written ts)) Range
refused_write f ps ts named = by_pairs (all_of int_and_tree (map f ps)) refl
  where
    by_pairs : (o : Option (List (ℤ × ValueTree))) → all_of int_and_tree (map f ps) ≡ o → IsRefused (if_there o (written ts)) Range
    by_pairs None e = tt
    by_pairs (Some qs) e =
        let some : all_name_places (length ts) (map (λ q. q.0) qs) ≡ false = sym (names_written (length ts) qs) ∙ ap (list_all (λ t. is_some (write_of (length ts) t))) (sym (are_pairs (map f ps) qs e)) ∙ list_all_map (λ t. is_some (write_of (length ts) t)) f ps ∙ named in
        rw some refl

-- one more pair
writes_more : {P : Type 0} (f : P → ValueTree) (n : ℕ) (ps : List P) (j : ℕ) (p : P) (o : Option (ℕ × ValueTree)) → j < length ps → p ≡ get_or ps j p → o ≡ write_of n (f p)
    → writes_of n (map f (take (j + 1) ps)) ≡ writes_of n (map f (take j ps)) ++ cons_option o []
writes_more f n ps j p o h at writes =
    ap (λ qs. writes_of n (map f qs)) (take_more ps j p h ∙ ap (λ x. take j ps ++ x ∷ []) (sym at)) ∙ ap (writes_of n) (map-append f (take j ps) (p ∷ [])) ∙ filter_map-append (write_of n) (map f (take j ps)) (f p ∷ []) ∙ ap (λ q. writes_of n (map f (take j ps)) ++ cons_option q []) (sym writes)

pub writes_same : {P : Type 0} (f : P → ValueTree) (n : ℕ) (ps : List P) (j : ℕ) (p : P) → j < length ps → p ≡ get_or ps j p → None ≡ write_of n (f p) → writes_of n (map f (take (j + 1) ps)) ≡ writes_of n (map f (take j ps))
writes_same f n ps j p h at writes = writes_more f n ps j p None h at writes ∙ append-nil (writes_of n (map f (take j ps)))

arrival_more : (ws : List (ℕ × ValueTree)) (c : ℕ) (u : ValueTree) (k : ℕ) → arrival (reverse (ws ++ (c, u) ∷ [])) k ≡ arrival_or c u (arrival (reverse ws)) k
arrival_more ws c u k = ap (λ vs. arrival vs k) (reverse-append ws ((c, u) ∷ [])) ∙ first_arrival c u (reverse ws) k

-- each element, or what comes there
abbrev come : ℕ → (ℕ → Option ValueTree) → List ValueTree → List ValueTree
come a g ts = map (λ e. unwrap_or (g e.0) e.1) (enumerate_from a ts)

come_same : (a : ℕ) (g h : ℕ → Option ValueTree) (ts : List ValueTree) → ((k : ℕ) → g k ≡ h k) → come a g ts ≡ come a h ts
come_same a g h [] same = refl
come_same a g h (t ∷ ts) same = ap (λ o. unwrap_or o t ∷ come (a + 1) g ts) (same a) ∙ ap (λ us. unwrap_or (h a) t ∷ us) (come_same (a + 1) g h ts same)

come_before : (a : ℕ) (g : ℕ → Option ValueTree) (c : ℕ) (u : ValueTree) (ts : List ValueTree) → c < a → come a (arrival_or c u g) ts ≡ come a g ts
come_before a g c u [] h = refl
come_before a g c u (t ∷ ts) h =
    ap (λ b. unwrap_or (cond b (Some u) (g a)) t ∷ come (a + 1) (arrival_or c u g) ts) (test_apart a c (λ e. absurd (omega (arith, e, h)))) ∙ ap (λ us. unwrap_or (g a) t ∷ us) (come_before (a + 1) g c u ts (omega (arith, h)))

come_set : (a d c : ℕ) (g : ℕ → Option ValueTree) (u : ValueTree) (ts : List ValueTree) → c ≡ a + d → come a (arrival_or c u g) ts ≡ set (come a g ts) d u
come_set a d c g u [] is = refl
come_set a zero c g u (t ∷ ts) is =
    let here : nat_eq a c ≡ true = (Decides-eqb a c).1 (omega (arith, is)) in
    ap (λ b. unwrap_or (cond b (Some u) (g a)) t ∷ come (a + 1) (arrival_or c u g) ts) here ∙ ap (λ us. u ∷ us) (come_before (a + 1) g c u ts (omega (arith, is)))
come_set a (suc d) c g u (t ∷ ts) is =
    let apart : nat_eq a c ≡ false = test_apart a c (λ e. absurd (omega (arith, e, is))) in
    ap (λ b. unwrap_or (cond b (Some u) (g a)) t ∷ come (a + 1) (arrival_or c u g) ts) apart ∙ ap (λ us. unwrap_or (g a) t ∷ us) (come_set (a + 1) d c g u ts (omega (arith, is)))

overwritten_more : (ts : List ValueTree) (ws : List (ℕ × ValueTree)) (c : ℕ) (u : ValueTree) → overwritten ts (ws ++ (c, u) ∷ []) ≡ set (overwritten ts ws) c u
overwritten_more ts ws c u = come_same 0 (arrival (reverse (ws ++ (c, u) ∷ []))) (arrival_or c u (arrival (reverse ws))) ts (arrival_more ws c u) ∙ come_set 0 c c (arrival (reverse ws)) u ts (omega arith)

pub overwritten_none : (ts : List ValueTree) → overwritten ts [] ≡ ts
overwritten_none ts = none_come 0 ts
  where
    none_come : (a : ℕ) (us : List ValueTree) → come a (arrival []) us ≡ us
    none_come a [] = refl
    none_come a (u ∷ us) = ap (λ vs. u ∷ vs) (none_come (a + 1) us)

pub overwritten_turn : {P : Type 0} (f : P → ValueTree) (ts : List ValueTree) (n : ℕ) (ps : List P) (j : ℕ) (p : P) (c : ℕ) (u : ValueTree) (old new : List ValueTree) → j < length ps → p ≡ get_or ps j p → Some (c, u) ≡ write_of n (f p)
    → old ≡ overwritten ts (writes_of n (map f (take j ps))) → new ≡ set old c u → new ≡ overwritten ts (writes_of n (map f (take (j + 1) ps)))
overwritten_turn f ts n ps j p c u old new h at writes before is =
    is ∙ ap (λ us. set us c u) before ∙ sym (ap (overwritten ts) (writes_more f n ps j p (Some (c, u)) h at writes) ∙ overwritten_more ts (writes_of n (map f (take j ps))) c u)

-- one more turn of the loop that finds the last writers
pub last_more : {P : Type 0} (f : P → ValueTree) (n : ℕ) (ps : List P) (j : ℕ) (p : P) (c : ℕ) (u : ValueTree) (k : ℕ) → j < length ps → p ≡ get_or ps j p → Some (c, u) ≡ write_of n (f p)
    → arrival (reverse (writes_of n (map f (take (j + 1) ps)))) k ≡ arrival_or c u (arrival (reverse (writes_of n (map f (take j ps))))) k
last_more f n ps j p c u k h at writes = ap (λ ws. arrival (reverse ws) k) (writes_more f n ps j p (Some (c, u)) h at writes) ∙ arrival_more (writes_of n (map f (take j ps))) c u k

wrote : (n : ℕ) (t : ValueTree) (c : ℕ) (u : ValueTree) → Some (c, u) ≡ write_of n t → option_map (λ p. p.1) (as_pair t) ≡ Some u
wrote n (pair l r) c u h = by_place (place_of n l) h
  where
    by_place : (o : Option ℕ) → ◌≡◌ {A = Option (ℕ × ValueTree)} (Some (c, u)) (option_map (λ k. (k, r)) o) → Some r ≡ Some u
    by_place None e = absurd (cc e)
    by_place (Some k) e =
        let same : ◌≡◌ {A = ℕ × ValueTree} (c, u) (k, r) = cc e in
        ap (λ w. Some w.1) (sym same)
wrote n t c u h = absurd (cc h)

pub told_pair : {P : Type 0} (f : P → ValueTree) (n : ℕ) (ps : List P) (j : ℕ) (p : P) (c : ℕ) (u : ValueTree) → j < length ps → p ≡ get_or ps j p → Some (c, u) ≡ write_of n (f p) → told_by (map f ps) (j + 1) ≡ Some u
told_pair f n ps j p c u h at writes =
    let next : j + 1 ≡ suc j = omega arith in
    ap (told_by (map f ps)) next ∙ ap (option_and_then (λ t. option_map (λ q. q.1) (as_pair t))) (slice_get-map f ps j ∙ ap (option_map f) (slice_get_read ps (length ps) j p refl h at)) ∙ wrote n (f p) c u writes

-- the element at a place in the end
come_at : (a : ℕ) (g : ℕ → Option ValueTree) (ts : List ValueTree) (k m : ℕ) (t : ValueTree) → m ≡ a + k → slice_get ts k ≡ Some t → slice_get (come a g ts) k ≡ Some (unwrap_or (g m) t)
come_at a g [] k m t is h = absurd (cc h)
come_at a g (x ∷ ts) zero m t is h =
    let same : x ≡ t = cc h in
    let here : a ≡ m = omega (arith, is) in
    ap (λ y. Some (unwrap_or (g a) y)) same ∙ ap (λ b. Some (unwrap_or (g b) t)) here
come_at a g (x ∷ ts) (suc k) m t is h = come_at (a + 1) g ts k m t (omega (arith, is)) h

length_come : (a : ℕ) (g : ℕ → Option ValueTree) (ts : List ValueTree) → length (come a g ts) ≡ length ts
length_come a g [] = refl
length_come a g (t ∷ ts) = ap suc (length_come (a + 1) g ts)

pub length_overwritten : (ts : List ValueTree) (ws : List (ℕ × ValueTree)) → length (overwritten ts ws) ≡ length ts
length_overwritten ts ws = length_come 0 (arrival (reverse ws)) ts

drop_get : (xs : List ValueTree) (k m : ℕ) (x : ValueTree) → m ≡ suc k → slice_get xs k ≡ Some x → drop k xs ≡ x ∷ drop m xs
drop_get [] k m x is h = absurd (cc h)
drop_get (y ∷ xs) k zero x is h = absurd (omega (arith, is))
drop_get (y ∷ xs) zero (suc m) x is h =
    let same : y ≡ x = cc h in
    let none : 0 ≡ m = omega (arith, is) in
    ap (λ z. z ∷ xs) same ∙ ap (λ n. x ∷ drop n xs) none
drop_get (y ∷ xs) (suc k) (suc m) x is h = drop_get xs k m x (omega (arith, is)) h

get_front : (ys : List ValueTree) (m i : ℕ) → i < m → slice_get (take m ys) i ≡ slice_get ys i
get_front ys zero i l = absurd (omega (arith, l))
get_front [] (suc m) i l = refl
get_front (y ∷ ys) (suc m) zero l = refl
get_front (y ∷ ys) (suc m) (suc i) l = get_front ys m i (omega (arith, l))

get_rest : (xs : List ValueTree) (start k m : ℕ) → m ≡ start + k → slice_get (drop start xs) k ≡ slice_get xs m
get_rest xs zero k m is =
    let same : k ≡ m = omega (arith, is) in
    ap (slice_get xs) same
get_rest [] (suc start) k m is = refl
get_rest (x ∷ xs) (suc start) k zero is = absurd (omega (arith, is))
get_rest (x ∷ xs) (suc start) k (suc m) is = get_rest xs start k m (omega (arith, is))

-- the nodes of a window from a place on
pub window_rest : (ts : List ValueTree) (ws : List (ℕ × ValueTree)) (start offset : ℕ) (t e : ValueTree) → offset < 4096 → slice_get ts (start + offset) ≡ Some t → e ≡ unwrap_or (arrival (reverse ws) (start + offset)) t
    → sizes (trees_of (drop offset (take 4096 (drop start (overwritten ts ws))))) ≡ size e + sizes (trees_of (drop (offset + 1) (take 4096 (drop start (overwritten ts ws)))))
window_rest ts ws start offset t e h at is =
    ap (λ us. sizes (trees_of us)) (drop_get (take 4096 (drop start (overwritten ts ws))) offset (offset + 1) e (omega arith) (get_front (drop start (overwritten ts ws)) 4096 offset h ∙ get_rest (overwritten ts ws) start offset (start + offset) refl ∙ come_at 0 (arrival (reverse ws)) ts (start + offset) (start + offset) t (omega arith) at ∙ ap Some (sym is)))

pub windows_rest : (us : List ValueTree) (window : ℕ) → sizes (trees_of (drop (window * 4096) us)) ≡ sizes (trees_of (take 4096 (drop (window * 4096) us))) + sizes (trees_of (drop ((window + 1) * 4096) us))
windows_rest us window =
    let all = drop (window * 4096) us in
    let next : window * 4096 + 4096 ≡ (window + 1) * 4096 = omega arith in
    ap (λ vs. sizes (trees_of vs)) (sym (take-append-drop 4096 (drop (window * 4096) us))) ∙ sizes_append (take 4096 (drop (window * 4096) us)) (drop 4096 (drop (window * 4096) us)) ∙ ap (λ vs. sizes (trees_of (take 4096 (drop (window * 4096) us))) + sizes (trees_of vs)) (drop-drop 4096 (window * 4096) us ∙ ap (λ k. drop k us) next)

pub no_pairs : {X : Type 0} (f : X → ValueTree) → ((x : X) → int_and_tree (f x) ≡ None) → (xs : List X) (ts : List ValueTree) → ts ≡ map f xs → length ts ≢ 0 → all_of int_and_tree ts ≡ None
no_pairs f none [] ts is some = absurd (some (ap length is))
no_pairs f none (x ∷ xs) ts is some = ap (all_of int_and_tree) is ∙ ap (λ o. option_and_then (λ p. option_map (λ ps. p ∷ ps) (all_of int_and_tree (map f xs))) o) (none x)

some_write : (o : Option (ℕ × ValueTree)) (c : ℕ) → Some c ≡ option_map (λ w. w.0) o → (u : ValueTree) × (Some (c, u) ≡ o)
some_write None c h = absurd (cc h)
some_write (Some w) c h =
    let same : c ≡ w.0 = cc h in
    (w.1, ap (λ k. Some (k, w.1)) same)

-- the last writers of the places of a window, as they are noted
abbrev pub TellsLast : List ValueTree → List ℕ → ℕ → List (ℕ × ValueTree) → Type 0
TellsLast us last window ws = (q : ℕ) → q < 4096 → told_by us (get_or last q 0) ≡ arrival (reverse ws) (window * 4096 + q)

pub last_inside : {P : Type 0} (f : P → ValueTree) (n : ℕ) (ps : List P) (j : ℕ) (p : P) (c window : ℕ) (last : List ℕ) → j < length ps → p ≡ get_or ps j p → Some c ≡ option_map (λ w. w.0) (write_of n (f p)) → length last ≡ 4096 → c / 4096 ≡ window
    → TellsLast (map f ps) last window (writes_of n (map f (take j ps))) → TellsLast (map f ps) (set last (c % 4096) (j + 1)) window (writes_of n (map f (take (j + 1) ps)))
last_inside f n ps j p c window last h at writes len inside before q l = by_test (nat_eq q (c % 4096)) refl
  where
    by_test : (b : Bool) → nat_eq q (c % 4096) ≡ b → told_by (map f ps) (get_or (set last (c % 4096) (j + 1)) q 0) ≡ arrival (reverse (writes_of n (map f (take (j + 1) ps)))) (window * 4096 + q)
    by_test true e =
        let wrote_it = some_write (write_of n (f p)) c writes in
        let here : q ≡ c % 4096 = are_equal q (c % 4096) e in
        let same : nat_eq (window * 4096 + q) c ≡ true = (Decides-eqb (window * 4096 + q) c).1 (omega (arith, here, inside)) in
        ap (λ i. told_by (map f ps) (get_or (set last (c % 4096) (j + 1)) i 0)) here ∙ ap (told_by (map f ps)) (get_or-set_same last (c % 4096) (j + 1) 0 (omega (arith, len))) ∙ told_pair f n ps j p c wrote_it.0 h at wrote_it.1
        ∙ ap (λ b. cond b (Some wrote_it.0) (arrival (reverse (writes_of n (map f (take j ps)))) (window * 4096 + q))) (sym same) ∙ sym (last_more f n ps j p c wrote_it.0 (window * 4096 + q) h at wrote_it.1)
    by_test false e =
        let wrote_it = some_write (write_of n (f p)) c writes in
        let apart : q ≢ c % 4096 = are_apart q (c % 4096) e in
        let other : nat_eq (window * 4096 + q) c ≡ false = test_apart (window * 4096 + q) c (λ same. apart (omega (arith, same, l))) in
        ap (told_by (map f ps)) (get_or-set_other last (c % 4096) q (j + 1) 0 apart) ∙ before q l ∙ ap (λ b. cond b (Some wrote_it.0) (arrival (reverse (writes_of n (map f (take j ps)))) (window * 4096 + q))) (sym other) ∙ sym (last_more f n ps j p c wrote_it.0 (window * 4096 + q) h at wrote_it.1)

pub last_outside : {P : Type 0} (f : P → ValueTree) (n : ℕ) (ps : List P) (j : ℕ) (p : P) (c window : ℕ) (last : List ℕ) → j < length ps → p ≡ get_or ps j p → Some c ≡ option_map (λ w. w.0) (write_of n (f p)) → c / 4096 ≢ window
    → TellsLast (map f ps) last window (writes_of n (map f (take j ps))) → TellsLast (map f ps) last window (writes_of n (map f (take (j + 1) ps)))
last_outside f n ps j p c window last h at writes outside before q l =
    let wrote_it = some_write (write_of n (f p)) c writes in
    let other : nat_eq (window * 4096 + q) c ≡ false = test_apart (window * 4096 + q) c (λ same. outside (omega (arith, same, l))) in
    before q l ∙ ap (λ b. cond b (Some wrote_it.0) (arrival (reverse (writes_of n (map f (take j ps)))) (window * 4096 + q))) (sym other) ∙ sym (last_more f n ps j p c wrote_it.0 (window * 4096 + q) h at wrote_it.1)

no_write : (o : Option (ℕ × ValueTree)) → None ≡ option_map (λ w. w.0) o → None ≡ o
no_write None h = refl
no_write (Some w) h = absurd (cc h)

pub last_same : {P : Type 0} (f : P → ValueTree) (n : ℕ) (ps : List P) (j : ℕ) (p : P) (window : ℕ) (last : List ℕ) → j < length ps → p ≡ get_or ps j p → None ≡ option_map (λ w. w.0) (write_of n (f p))
    → TellsLast (map f ps) last window (writes_of n (map f (take j ps))) → TellsLast (map f ps) last window (writes_of n (map f (take (j + 1) ps)))
last_same f n ps j p window last h at writes before q l = before q l ∙ ap (λ ws. arrival (reverse ws) (window * 4096 + q)) (sym (writes_same f n ps j p h at (no_write (write_of n (f p)) writes)))

pub told_at : {P : Type 0} (f : P → ValueTree) (ps : List P) (k : ℕ) (p : P) → k ≢ 0 → k ≤ length ps → p ≡ get_or ps (k - 1) p → told_by (map f ps) k ≡ option_map (λ q. q.1) (as_pair (f p))
told_at f ps zero p some h at = absurd (some refl)
told_at f ps (suc k) p some h at =
    let before : suc k - 1 ≡ k = omega arith in
    ap (option_and_then (λ t. option_map (λ q. q.1) (as_pair t))) (slice_get-map f ps k ∙ ap (option_map f) (slice_get_read ps (length ps) k p refl (omega (arith, h)) (at ∙ ap (λ i. get_or ps i p) before)))

take_get : (xs : List ValueTree) (i m : ℕ) (x : ValueTree) → m ≡ suc i → slice_get xs i ≡ Some x → take m xs ≡ take i xs ++ x ∷ []
take_get [] i m x is h = absurd (cc h)
take_get (z ∷ xs) i zero x is h = absurd (omega (arith, is))
take_get (z ∷ xs) zero (suc m) x is h =
    let same : z ≡ x = cc h in
    let none : m ≡ 0 = omega (arith, is) in
    ap (λ n. z ∷ take n xs) none ∙ ap (λ w. w ∷ []) same
take_get (z ∷ xs) (suc i) (suc m) x is h = ap (λ ws. z ∷ ws) (take_get xs i m x (omega (arith, is)) h)

-- one more item that is copied
pub copied_more : {Y : Type 0} (e : Y → ValueTree) (ts : List ValueTree) (k : ℕ) (t : ValueTree) (old new : List Y) (y : Y) → slice_get ts k ≡ Some t → map e old ≡ take k ts → new ≡ old ++ y ∷ [] → e y ≡ t → map e new ≡ take (k + 1) ts
copied_more e ts k t old new y at before push is =
    ap (map e) push ∙ map-append e old (y ∷ []) ∙ ap (λ us. us ++ e y ∷ []) before ∙ ap (λ u. take k ts ++ u ∷ []) is ∙ sym (take_get ts k (k + 1) t (omega arith) at)

-- the windows are all there is
pub windows_end : (us : List ValueTree) (window : ℕ) → length us / 4096 < window → sizes (trees_of (drop (window * 4096) us)) ≡ 0
windows_end us window h = ap (λ vs. sizes (trees_of vs)) (drop_all (window * 4096) us (omega (arith, h)))

pub window_end : (ts : List ValueTree) (ws : List (ℕ × ValueTree)) (start offset : ℕ) → min 4096 (length ts - start) ≤ offset → sizes (trees_of (drop offset (take 4096 (drop start (overwritten ts ws))))) ≡ 0
window_end ts ws start offset h =
    ap (λ vs. sizes (trees_of vs)) (drop_all offset (take 4096 (drop start (overwritten ts ws))) (omega (arith, h, length-take 4096 (drop start (overwritten ts ws)), length-drop start (overwritten ts ws), length_overwritten ts ws)))

pub packed_seen : {X : Type 0} (f : X → ValueTree) (xs : List X) (us made : List ValueTree) → made ≡ overwritten (map f xs) (writes_of (length xs) us) → made ≡ overwritten (map f xs) (writes_of (length (map f xs)) us)
packed_seen f xs us made is = is ∙ ap (λ n. overwritten (map f xs) (writes_of n us)) (sym (length-map xs f))

-- what is written, and no more, is added
abbrev weight : List (ℕ × ValueTree) → ℕ
weight [] = 0
weight (w ∷ ws) = size w.1 + weight ws

weight_append : (xs ys : List (ℕ × ValueTree)) → weight (xs ++ ys) ≡ weight xs + weight ys
weight_append [] ys = omega arith
weight_append (x ∷ xs) ys = omega (arith, weight_append xs ys)

weight_reverse : (xs : List (ℕ × ValueTree)) → weight (reverse xs) ≡ weight xs
weight_reverse [] = refl
weight_reverse (x ∷ xs) = ap weight (reverse-append (x ∷ []) xs) ∙ omega (arith, weight_append (reverse xs) (x ∷ []), weight_reverse xs)

sizes_come : (rs : List (ℕ × ValueTree)) (ts : List ValueTree) → sizes (trees_of (come 0 (arrival rs) ts)) ≤ sizes (trees_of ts) + weight rs
sizes_come [] ts = omega (arith, ap (λ us. sizes (trees_of us)) (overwritten_none ts))
sizes_come (w ∷ rs) ts =
    let is : come 0 (arrival (w ∷ rs)) ts ≡ set (come 0 (arrival rs) ts) w.0 w.1 = come_same 0 (arrival (w ∷ rs)) (arrival_or w.0 w.1 (arrival rs)) ts (first_arrival w.0 w.1 rs) ∙ come_set 0 w.0 w.0 (arrival rs) w.1 ts (omega arith) in
    omega (arith, ap (λ us. sizes (trees_of us)) is, sizes_set (come 0 (arrival rs) ts) w.0 w.1, sizes_come rs ts)

weight_writes : (n : ℕ) (us : List ValueTree) → weight (writes_of n us) ≤ sizes (trees_of us)
weight_writes n [] = omega arith
weight_writes n (u ∷ us) = one_more (write_of n u) (writes_of n us) (λ c x e. second_le n u c x e) (weight_writes n us) refl
  where
    one_more : (o : Option (ℕ × ValueTree)) (ws : List (ℕ × ValueTree)) → ((c : ℕ) (x : ValueTree) → Some (c, x) ≡ write_of n u → size x ≤ size u) → weight ws ≤ sizes (trees_of us) → o ≡ write_of n u → weight (cons_option o ws) ≤ size u + sizes (trees_of us)
    one_more None ws le h e = omega (arith, h)
    one_more (Some w) ws le h e = omega (arith, h, le w.0 w.1 e)

    second_le : (m : ℕ) (t : ValueTree) (c : ℕ) (x : ValueTree) → Some (c, x) ≡ write_of m t → size x ≤ size t
    second_le m (pair l r) c x e =
        let second : Some r ≡ Some x = wrote m (pair l r) c x e in
        let same : r ≡ x = cc second in
        omega (arith, ap size same)
    second_le m t c x e = absurd (cc e)

pub sizes_overwritten : (ts : List ValueTree) (n : ℕ) (us : List ValueTree) → sizes (trees_of (overwritten ts (writes_of n us))) ≤ sizes (trees_of ts) + sizes (trees_of us)
sizes_overwritten ts n us = omega (arith, sizes_come (reverse (writes_of n us)) ts, weight_reverse (writes_of n us), weight_writes n us)
