-- Places, what they count, and the seats that are at home.
use Rattle.std.proofs.Common.{◌≡◌, ℕ, ◌+◌, ◌*◌, ◌<◌, ◌≤◌, ◌^◌, List, [], ◌∷◌, ◌++◌, length, map, Bool, false, Option, Some, None, refl, sym, ap, ◌∙◌, subst, position, slice_index_or, arith, zero, suc, cond, slice_get, slice_set, ◌-◌, ◌⊎◌, inl, inr}
use Rattle.std.specs.Prelude.{All, IfSome, sum_by}
use Rattle.std.specs.Str.{bytes_eq}
use Rattle.std.proofs.lemmas.List.Quantifiers.{position-Some}
use Rattle.std.specs.List.{position_from, range_with_len, AllByRecursion}
use Rattle.std.proofs.lemmas.Iterator.Adapters.{position_from-zero}
use Rattle.std.proofs.lemmas.List.{append_assoc, append-nil, length-map}
use Rattle.std.proofs.lemmas.List.Elements.{All-set}
use Rattle.std.proofs.lemmas.List.FromFn.{length-map-range_with_len, map-range_with_len_more}
use Rattle.std.proofs.lemmas.List.Sums.{sum_by-le, sum_by-cons, sum_by-set, get_or-le-sum_by}
use Rattle.nesl_session_meaning.specs.declared.limits.Limits.{Limits}
use Rattle.nesl_session_meaning.specs.State.{State, recorded_lines, empty_log}
use Rattle.nesl_session_meaning.specs.Solo.{Replays}
use Rattle.nesl_house.specs.declared.slots.Slot.{Slot}
use Rattle.nesl_house.specs.declared.slots.Slot.TheVariants.{Home, Away}
use Rattle.nesl_house.specs.Register.{Seat}
use Rattle.nesl_house.specs.Slots.{counted, is_away, opened_at, at_home, AreHome, AreInPlace}
use Rattle.nesl_house.specs.Runs.{Account, roster_of, AllReplay}
use Rattle.nesl_house.specs.Table.{seated, AreReplays, IsClosed}
use Rattle.nesl_house.specs.Roster.{place_of}

-- 64 places count no more than this
pub few_counted : (slots : List Slot) → length slots ≡ 64 → All (λ s. counted s < 2 ^ 64) slots → sum_by counted slots ≤ 64 * 2 ^ 64
few_counted slots places small =
    let most : sum_by counted slots ≤ length slots * 2 ^ 64 = sum_by-le counted (2 ^ 64) slots (λ k d h. let lt : counted (slice_index_or slots k d) < 2 ^ 64 = small k d h in omega arith) in
    let same : length slots * 2 ^ 64 ≡ 64 * 2 ^ 64 = ap (λ n. n * 2 ^ 64) places in
    omega arith

-- a place that counts as much as before
pub same_count : (slots : List Slot) (place booked : ℕ) (x d : Slot) → place < length slots → booked ≡ sum_by counted slots → counted x ≡ counted (slice_index_or slots place d) → booked ≡ sum_by counted (slice_set slots place x)
same_count slots place booked x d h b e = let s = sum_by-set counted slots place x d h in omega (arith, s, b, e)

-- a place that counts other lines
pub other_count : (slots : List Slot) (place booked had has : ℕ) (x d : Slot) → place < length slots → booked ≡ sum_by counted slots → had ≡ counted (slice_index_or slots place d) → has ≡ counted x → booked - had + has ≡ sum_by counted (slice_set slots place x)
other_count slots place booked had has x d h b e f =
    let s = sum_by-set counted slots place x d h in
    let le = get_or-le-sum_by counted slots place d h in
    omega (arith, s, le, b, e, f)

pub small_set : (slots : List Slot) (place : ℕ) (x : Slot) → counted x < 2 ^ 64 → All (λ s. counted s < 2 ^ 64) slots → All (λ s. counted s < 2 ^ 64) (slice_set slots place x)
small_set slots place x h all = All-set (λ s. counted s < 2 ^ 64) slots place x h all

-- where no place is away, all sessions are at home
home_from : (slots : List Slot) (i : ℕ) → position_from is_away i slots ≡ None → AreHome slots
home_from [] i e = refl
home_from (Home s ∷ slots) i e = ap (λ x. Home s ∷ x) (home_from slots (i + 1) e)
home_from (Away n ∷ slots) i e = absurd (cc)

pub all_home : (slots : List Slot) → position is_away slots ≡ None → AreHome slots
all_home slots e = home_from slots 0 (sym (position_from-zero is_away slots) ∙ e)

-- the number of lines that the session of a seat has recorded
abbrev pub recorded_at : Seat → ℕ
recorded_at seat = recorded_lines seat.session

-- if all seats are at home, their sessions have recorded what the places count
sum_home : (seats : List Seat) → sum_by counted (map Home seats) ≡ sum_by recorded_at seats
sum_home [] = refl
sum_home (s ∷ seats) = let more = sum_home seats in omega (arith, more, sum_by-cons counted (Home s) (map Home seats), sum_by-cons recorded_at s seats)

pub recorded_at_home : (slots : List Slot) → AreHome slots → sum_by counted slots ≡ sum_by recorded_at (at_home slots)
recorded_at_home slots home = ap (sum_by counted) home ∙ sum_home (at_home slots)

pub length_at_home : (slots : List Slot) → AreHome slots → length slots ≡ length (at_home slots)
length_at_home slots home = ap length home ∙ length-map (at_home slots) Home

-- of places that are all home the first is, and so are the others
home_head : (x : Slot) (slots : List Slot) → AreHome (x ∷ slots) → is_away x ≡ false
home_head (Home s) slots home = refl
home_head (Away n) slots home = let few : suc (length slots) ≡ length (at_home slots) = ap length home ∙ length-map (at_home slots) Home in absurd (omega (arith, few, at_most slots))
  where
    at_most : (xs : List Slot) → length (at_home xs) ≤ length xs
    at_most [] = omega arith
    at_most (Home s ∷ xs) = let h = at_most xs in omega arith
    at_most (Away n ∷ xs) = let h = at_most xs in omega arith

home_rest : (x : Slot) (slots : List Slot) → AreHome (x ∷ slots) → AreHome slots
home_rest (Home s) slots home = cc
home_rest (Away n) slots home = let no' : is_away (Away n) ≡ false = home_head (Away n) slots home in absurd (cc)

-- what is left of places that are all home
pub first_home : (slots rest : List Slot) (x : Slot) → slots ≡ x ∷ rest → AreHome slots → is_away x ≡ false
first_home slots rest x e home = home_head x rest (subst (λ (s : List Slot). AreHome s) e home)

pub rest_home : (slots rest : List Slot) (x : Slot) → slots ≡ x ∷ rest → AreHome slots → AreHome rest
rest_home slots rest x e home = home_rest x rest (subst (λ (s : List Slot). AreHome s) e home)

-- the first of them is a seat
pub seats_left : (slots rest : List Slot) (x : Slot) (s : Seat) → slots ≡ x ∷ rest → x ≡ Home s → at_home slots ≡ s ∷ at_home rest
seats_left slots rest x s e h = ap at_home e ∙ ap (λ y. at_home (y ∷ rest)) h

pub held_more : (slots rest : List Slot) (x : Slot) (s : Seat) (P : Type 0) → slots ≡ x ∷ rest → x ≡ Home s → (state : State) × Replays s.session state → (AreReplays (at_home slots) → P) → AreReplays (at_home rest) → P
held_more slots rest x s P e h r f all = f (subst AreReplays (sym (seats_left slots rest x s e h)) (r, all))

-- a user more who is seated
pub seats_more : (users users' : List Account) (names rest : List (List ℕ)) (name : List ℕ) (slots others : List Slot) (x : Slot) (s : Seat) (account : Account) (all : List Account)
    → users' ≡ users ++ account ∷ [] → account ≡ record { name = name; session = s.session } → names ≡ name ∷ rest → slots ≡ x ∷ others → x ≡ Home s
    → users ++ seated names (at_home slots) ≡ all → users' ++ seated rest (at_home others) ≡ all
seats_more users users' names rest name slots others x s account all push is n e h so_far =
    let left : seated names (at_home slots) ≡ record { name = name; session = s.session } ∷ seated rest (at_home others) = λ i. seated (n i) (seats_left slots others x s e h i) in
    ap (λ u. u ++ seated rest (at_home others)) (push ∙ ap (λ y. users ++ y ∷ []) is) ∙ append_assoc users (record { name = name; session = s.session } ∷ []) (seated rest (at_home others)) ∙ ap (λ y. users ++ y) (sym left) ∙ so_far

seated_none : (seats : List Seat) → seated [] seats ≡ []
seated_none [] = refl
seated_none (s ∷ seats) = refl

-- no user is left, though a seat is
pub seats_past : (users : List Account) (names rest : List (List ℕ)) (slots others : List Slot) (all : List Account) → names ≡ [] → rest ≡ [] → users ++ seated names (at_home slots) ≡ all → users ++ seated rest (at_home others) ≡ all
seats_past users names rest slots others all n m so_far =
    ap (λ y. users ++ y) (ap (λ y. seated y (at_home others)) m ∙ seated_none (at_home others) ∙ sym (seated_none (at_home slots)) ∙ ap (λ y. seated y (at_home slots)) (sym n)) ∙ so_far

seated_no_seat : (names : List (List ℕ)) → seated names [] ≡ []
seated_no_seat [] = refl
seated_no_seat (n ∷ names) = refl

-- no seat is left
pub all_seated : (users : List Account) (names : List (List ℕ)) (slots : List Slot) (all : List Account) → slots ≡ [] → users ++ seated names (at_home slots) ≡ all → users ≡ all
all_seated users names slots all e so_far =
    sym (append-nil users) ∙ ap (λ y. users ++ y) (sym (ap (λ y. seated names (at_home y)) e ∙ seated_no_seat names)) ∙ so_far

all_push : {X : Type 0} (P : X → Type 0) (xs : List X) (x : X) → AllByRecursion P xs → P x → AllByRecursion P (xs ++ x ∷ [])
all_push P [] x all p = (p, tt)
all_push P (y ∷ ys) x all p = (all.0, all_push P ys x all.1 p)

pub replays_more : (users users' : List Account) (name : List ℕ) (s : Seat) (account : Account) → users' ≡ users ++ account ∷ [] → account ≡ record { name = name; session = s.session } → AllReplay users → (state : State) × Replays s.session state → AllReplay users'
replays_more users users' name s account push is all r =
    subst AllReplay (sym (push ∙ ap (λ y. users ++ y ∷ []) is)) (all_push (λ (u : Account). (state : State) × Replays u.session state) users (record { name = name; session = s.session }) all r)

place_from : {A B : Type 0} (f : A → B) (p : B → Bool) (xs : List A) (i : ℕ) → position_from p i (map f xs) ≡ position_from (λ x. p (f x)) i xs
place_from f p [] i = refl
place_from f p (x ∷ xs) i = ap (λ o. cond (p (f x)) (Some i) o) (place_from f p xs (i + 1))

-- the place in a list of what is made of another's elements
pub place_made : {A B : Type 0} (f : A → B) (p : B → Bool) (xs : List A) → position p (map f xs) ≡ position (λ x. p (f x)) xs
place_made f p xs = position_from-zero p (map f xs) ∙ place_from f p xs 0 ∙ sym (position_from-zero (λ x. p (f x)) xs)

-- the place of a user of a roster that is stored so
pub place_stored : {V : Type 0} (items : V → List ℕ) (stored names : List V) (roster : List (List ℕ)) (user : List ℕ) (o : Option ℕ) → o ≡ position (λ v. bytes_eq (items v) user) names → names ≡ stored → map items stored ≡ roster → o ≡ place_of roster user
place_stored items stored names roster user o e n r =
    e ∙ ap (position (λ v. bytes_eq (items v) user)) n ∙ sym (place_made items (λ name. bytes_eq name user) stored) ∙ ap (λ x. place_of x user) r

pub place_inside : {V : Type 0} (test : V → Bool) (stored names : List V) (o : Option ℕ) → o ≡ position test names → names ≡ stored → length stored ≤ 64 → IfSome o (λ place. place < 64)
place_inside test stored names None e n few = tt
place_inside {V} test [] names (Some place) e n few = let no' : Some place ≡ None = e ∙ ap (position test) n in absurd (cc)
place_inside test (v ∷ vs) names (Some place) e n few =
    let at = position-Some test (v ∷ vs) place v (sym (e ∙ ap (position test) n)) in
    let inside : place < length (v ∷ vs) = at.0 in
    omega (arith, inside, few)

names_seated : (names : List (List ℕ)) (seats : List Seat) → length names ≤ length seats → roster_of (seated names seats) ≡ names
names_seated [] seats h = ap roster_of (seated_none seats)
names_seated (name ∷ names) [] h = absurd (omega (arith, h))
names_seated (name ∷ names) (s ∷ seats) h = ap (λ x. name ∷ x) (names_seated names seats (omega (arith, h)))

-- what is read after a write
set_read : (slots : List Slot) (k j : ℕ) (x y : Slot) → slice_get (slice_set slots k x) j ≡ Some y → ((j ≡ k) × (x ≡ y)) ⊎ (slice_get slots j ≡ Some y)
set_read [] k j x y e = inr e
set_read (z ∷ slots) zero zero x y e = inl (refl, cc)
set_read (z ∷ slots) zero (suc j) x y e = inr e
set_read (z ∷ slots) (suc k) zero x y e = inr e
set_read (z ∷ slots) (suc k) (suc j) x y e = elim (set_read slots k j x y e) [ inl p ↦ inl (ap suc p.0, p.1) | inr q ↦ inr q ]

-- what is put to a place is a seat of that place, or none
pub in_place_set : (slots : List Slot) (k : ℕ) (x : Slot) → ((seat : Seat) → x ≡ Home seat → seat.place ≡ k) → AreInPlace slots → AreInPlace (slice_set slots k x)
in_place_set slots k x own all place seat e = elim (set_read slots k place x (Home seat) e) [ inl p ↦ own seat p.1 ∙ sym p.0 | inr q ↦ all place seat q ]

-- a table that is opened: each seat is in place, and nothing is counted
opened_read : (limits : Limits) (a n k : ℕ) (seat : Seat) → slice_get (map (opened_at limits) (range_with_len a n)) k ≡ Some (Home seat) → seat.place ≡ a + k
opened_read limits a zero k seat e = absurd (cc)
opened_read limits a (suc n) zero seat e =
    let first : Home (record { place = a; session = empty_log limits }) ≡ Home seat = cc in
    let same : record { place = a; session = empty_log limits } ≡ seat = cc in
    let place : seat.place ≡ a = sym (ap (λ (s : Seat). s.place) same) in
    omega (arith, place)
opened_read limits a (suc n) (suc k) seat e = let more : seat.place ≡ a + 1 + k = opened_read limits (a + 1) n k seat e in omega (arith, more)

pub opened_in_place : (limits : Limits) (n : ℕ) → AreInPlace (map (opened_at limits) (range_with_len 0 n))
opened_in_place limits n place seat e = let read = opened_read limits 0 n place seat e in omega (arith, read)

opened_from : (limits : Limits) (a n : ℕ) → sum_by counted (map (opened_at limits) (range_with_len a n)) ≡ 0
opened_from limits a zero = refl
opened_from limits a (suc n) = let more = opened_from limits (a + 1) n in omega (arith, more, sum_by-cons counted (opened_at limits a) (map (opened_at limits) (range_with_len (a + 1) n)))

pub opened_count : (limits : Limits) (n : ℕ) → sum_by counted (map (opened_at limits) (range_with_len 0 n)) ≡ 0
opened_count limits n = opened_from limits 0 n

pub opened_small : (limits : Limits) (n : ℕ) → All (λ s. counted s < 2 ^ 64) (map (opened_at limits) (range_with_len 0 n))
opened_small limits n k d h =
    let all = map (opened_at limits) (range_with_len 0 n) in
    let least : counted (slice_index_or all k d) ≤ sum_by counted all = get_or-le-sum_by counted all k d h in
    omega (arith, least, opened_count limits n)

-- this number of places, as they are opened
module _ (limits : Limits) (slots : List Slot) (n : ℕ) where
  pub opened_length : slots ≡ map (opened_at limits) (range_with_len 0 n) → length slots ≡ n
  opened_length e = ap length e ∙ length-map-range_with_len (opened_at limits) 0 n

  pub opened_places : slots ≡ map (opened_at limits) (range_with_len 0 n) → AreInPlace slots
  opened_places e = subst AreInPlace (sym e) (opened_in_place limits n)

  pub opened_nothing : slots ≡ map (opened_at limits) (range_with_len 0 n) → 0 ≡ sum_by counted slots
  opened_nothing e = sym (ap (sum_by counted) e ∙ opened_count limits n)

  pub opened_few : slots ≡ map (opened_at limits) (range_with_len 0 n) → All (λ s. counted s < 2 ^ 64) slots
  opened_few e = subst (λ (x : List Slot). All (λ s. counted s < 2 ^ 64) x) (sym e) (opened_small limits n)

pub opened_more : (limits : Limits) (slots slots' : List Slot) (seat : Seat) (place : ℕ) → slots ≡ map (opened_at limits) (range_with_len 0 place) → seat ≡ record { place = place; session = empty_log limits } → slots' ≡ slots ++ Home seat ∷ [] → slots' ≡ map (opened_at limits) (range_with_len 0 (place + 1))
opened_more limits slots slots' seat place e is push = push ∙ ap (λ x. x ++ Home seat ∷ []) e ∙ ap (λ y. map (opened_at limits) (range_with_len 0 place) ++ Home y ∷ []) is ∙ sym (map-range_with_len_more (opened_at limits) 0 place place (omega arith))

-- the seat that a place lends is its own
pub lent_place : (slots : List Slot) (place : ℕ) (seat : Seat) (user : Option ℕ) → AreInPlace slots → slice_get slots place ≡ Some (Home seat) → Some place ≡ user → user ≡ Some seat.place
lent_place slots place seat user own there at = sym at ∙ ap (λ p. Some p) (sym (own place seat there))

-- the seats that are at home are those of their places, in order
in_order : (slots : List Slot) (a : ℕ) → ((k : ℕ) (seat : Seat) → slice_get slots k ≡ Some (Home seat) → seat.place ≡ a + k) → AreHome slots
    → map (λ (seat : Seat). seat.place) (at_home slots) ≡ range_with_len a (length slots)
in_order [] a own home = refl
in_order (Home s ∷ slots) a own home =
    let here : s.place ≡ a + 0 = own 0 s refl in
    let first : s.place ≡ a = omega (arith, here) in
    λ i. first i ∷ in_order slots (a + 1) (λ k seat e. let next : seat.place ≡ a + suc k = own (suc k) seat e in omega (arith, next)) (home_rest (Home s) slots home) i
in_order (Away n ∷ slots) a own home = let no' : is_away (Away n) ≡ false = home_head (Away n) slots home in absurd (cc)

-- a table whose seats are all at home, and what it held
pub closed : (roster : List (List ℕ)) (names : List (List ℕ)) (house : List Account) (slots : List Slot) (lines booked : ℕ) → names ≡ roster → house ≡ seated names (at_home slots) → position is_away slots ≡ None → length slots ≡ 64 → AreInPlace slots → booked ≡ sum_by counted slots → lines ≡ booked → AreReplays (at_home slots) → length names ≤ 64
    → IsClosed roster house lines
closed roster names house slots lines booked n h home places own counted_all l r few = record {
  held = at_home slots;
  places = in_order slots 0 (λ k seat e. let there = own k seat e in omega (arith, there)) (all_home slots home) ∙ ap (range_with_len 0) places;
  replayed = r;
  names = ap roster_of h ∙ names_seated names (at_home slots) (let all : length slots ≡ length (at_home slots) = length_at_home slots (all_home slots home) in omega (arith, few, all, places)) ∙ n;
  users = h ∙ ap (λ x. seated x (at_home slots)) n;
  recorded = l ∙ counted_all ∙ recorded_at_home slots (all_home slots home);
}
