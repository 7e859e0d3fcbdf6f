-- Names that are looked at place by place.
use Rattle.std.proofs.Common.{◌≡◌, ◌≢◌, ℕ, ◌+◌, ◌<◌, ◌≤◌, List, [], ◌∷◌, ◌++◌, length, Bool, true, false, map, refl, sym, ap, ◌∙◌, subst, get_or, arith, zero, suc, take, drop, length-take, add-one, le-leb, Some, ◌||◌, ◌&&◌, nat_le}
use Rattle.std.specs.List.{Contains, list_any, list_all, slice_get}
use Rattle.std.specs.Str.{bytes_eq}
use Rattle.std.proofs.lemmas.List.{length-map}
use Rattle.std.proofs.lemmas.List.Elements.{All-push}
use Rattle.std.proofs.lemmas.List.Quantifiers.{all_pairs_push}
use Rattle.std.proofs.lemmas.Slice.Eq.{bytes_eq-Decides}
use Rattle.nesl_house.specs.declared.roster.NewFault.TheVariants.{Name, Twice}
use Rattle.nesl_house.specs.Roster.{is_small_letter, is_digit, is_user_name, AreUsers, IsCount, IsRefused, bad_name, stands_twice}

-- a list, cut at a place
pub cut_at : {A B : Type 0} (f : A → B) (xs : List A) (i : ℕ) (d : A) → i < length xs → map f xs ≡ map f (take i xs) ++ f (get_or xs i d) ∷ map f (drop (suc i) xs)
cut_at f [] i d h = absurd (omega (arith, h))
cut_at f (x ∷ xs) zero d h = refl
cut_at f (x ∷ xs) (suc i) d h = ap (λ ys. f x ∷ ys) (cut_at f xs i d (omega arith))

-- what stands before a place, and there
pub front_at : {A B : Type 0} (f : A → B) (xs : List A) (i : ℕ) (d : A) → i < length xs → map f (take (suc i) xs) ≡ map f (take i xs) ++ f (get_or xs i d) ∷ []
front_at f [] i d h = absurd (omega (arith, h))
front_at f (x ∷ xs) zero d h = refl
front_at f (x ∷ xs) (suc i) d h = ap (λ ys. f x ∷ ys) (front_at f xs i d (omega arith))

pub front_long : {A B : Type 0} (f : A → B) (xs : List A) (i : ℕ) → i < length xs → length (map f (take i xs)) ≡ i
front_long f xs i h = omega (arith, length-map (take i xs) f, length-take i xs)

-- a name that is found among these stands there
found_at : (b : Bool) (x name : List ℕ) (xs : List (List ℕ)) → bytes_eq x name ≡ b → (b ≡ false → Contains xs name) → Contains (x ∷ xs) name
found_at true x name xs e f = (0, omega arith, (bytes_eq-Decides x name).0 e)
found_at false x name xs e f = let there = f refl in (suc there.0, omega (arith, there.1), there.2)

or_right : (a b : Bool) → (a || b) ≡ true → a ≡ false → b ≡ true
or_right true b e f = absurd (cc)
or_right false b e f = e

or_none : (a b : Bool) → (a || b) ≡ false → (a ≡ false) × (b ≡ false)
or_none true b e = absurd (cc)
or_none false b e = (refl, e)

pub stands_among : {A : Type 0} (f : A → List ℕ) (name : List ℕ) (xs : List A) → list_any (λ v. bytes_eq (f v) name) xs ≡ true → Contains (map f xs) name
stands_among f name [] e = absurd (cc)
stands_among f name (x ∷ xs) e = found_at (bytes_eq (f x) name) (f x) name (map f xs) refl (λ other. stands_among f name xs (or_right (bytes_eq (f x) name) (list_any (λ v. bytes_eq (f v) name) xs) e other))

differs : (x name : List ℕ) → bytes_eq x name ≡ false → x ≢ name
differs x name e same = let yes' : bytes_eq x name ≡ true = (bytes_eq-Decides x name).1 same in let no' : true ≡ false = sym yes' ∙ e in absurd (cc)

-- one that is not found differs from each
pub stands_nowhere : {A : Type 0} (f : A → List ℕ) (name : List ℕ) (xs : List A) → list_any (λ v. bytes_eq (f v) name) xs ≡ false → (k : ℕ) (d : List ℕ) → k < length (map f xs) → get_or (map f xs) k d ≢ name
stands_nowhere f name [] e k d h = absurd (omega (arith, h))
stands_nowhere f name (x ∷ xs) e zero d h = differs (f x) name (or_none (bytes_eq (f x) name) (list_any (λ v. bytes_eq (f v) name) xs) e).0
stands_nowhere f name (x ∷ xs) e (suc k) d h = stands_nowhere f name xs (or_none (bytes_eq (f x) name) (list_any (λ v. bytes_eq (f v) name) xs) e).1 k d (omega arith)

counted : {A : Type 0} (f : A → List ℕ) (xs : List A) → (1 ≤ length xs) × (length xs ≤ 64) → IsCount (length (map f xs))
counted f xs n = (omega (arith, n.0, length-map xs f), omega (arith, n.1, length-map xs f))

-- At the place i stands `it`, and the names before are users.
module _ {A : Type 0} (f : A → List ℕ) (xs : List A) (i : ℕ) (d : A) (it : List ℕ) where
  pub refused_name : i < length xs → it ≡ f (get_or xs i d) → (1 ≤ length xs) × (length xs ≤ 64) → AreUsers (map f (take i xs)) → is_user_name it ≡ false → IsRefused (map f xs) (Name i)
  refused_name h s n u e =
      let P : ℕ → Type 0 = λ k. IsRefused (map f xs) (Name k) in
      let cut : map f xs ≡ map f (take i xs) ++ it ∷ map f (drop (suc i) xs) = cut_at f xs i d h ∙ ap (λ x. map f (take i xs) ++ x ∷ map f (drop (suc i) xs)) (sym s) in
      subst P (front_long f xs i h) (bad_name (map f (take i xs)) (map f (drop (suc i) xs)) it (counted f xs n) cut u e)

  pub refused_twice : i < length xs → it ≡ f (get_or xs i d) → (1 ≤ length xs) × (length xs ≤ 64) → AreUsers (map f (take i xs)) → is_user_name it ≡ true → list_any (λ v. bytes_eq (f v) it) (take i xs) ≡ true → IsRefused (map f xs) (Twice i)
  refused_twice h s n u e t =
      let P : ℕ → Type 0 = λ k. IsRefused (map f xs) (Twice k) in
      let cut : map f xs ≡ map f (take i xs) ++ it ∷ map f (drop (suc i) xs) = cut_at f xs i d h ∙ ap (λ x. map f (take i xs) ++ x ∷ map f (drop (suc i) xs)) (sym s) in
      subst P (front_long f xs i h) (stands_twice (map f (take i xs)) (map f (drop (suc i) xs)) it (counted f xs n) cut u e (stands_among f it (take i xs) t))

  pub users_more : i < length xs → it ≡ f (get_or xs i d) → AreUsers (map f (take i xs)) → is_user_name it ≡ true → list_any (λ v. bytes_eq (f v) it) (take i xs) ≡ false → AreUsers (map f (take (i + 1) xs))
  users_more h s u e t =
      let front : map f (take i xs) ++ it ∷ [] ≡ map f (take (i + 1) xs) = ap (λ x. map f (take i xs) ++ x ∷ []) s ∙ sym (front_at f xs i d h) ∙ ap (λ k. map f (take k xs)) (sym (add-one i)) in
      subst AreUsers front (record {
        named = All-push (λ name. is_user_name name ≡ true) (map f (take i xs)) it u.named e;
        apart = all_pairs_push (λ one other. one ≢ other) (map f (take i xs)) it u.apart (stands_nowhere f it (take i xs) t);
      })

pub named : (name : List ℕ) (first : ℕ) (spelled : Bool) → Some first ≡ slice_get name 0 → is_small_letter first ≡ true → length name ≤ 16 → spelled ≡ list_all (λ b. is_small_letter b || is_digit b) name → spelled ≡ is_user_name name
named [] first spelled e l n s = absurd (cc)
named (b ∷ bs) first spelled e l n s =
    let same : first ≡ b = cc in
    let letter : is_small_letter b ≡ true = ap is_small_letter (sym same) ∙ l in
    let short : nat_le (length (b ∷ bs)) 16 ≡ true = le-leb (length (b ∷ bs)) 16 n in
    let all = list_all (λ x. is_small_letter x || is_digit x) (b ∷ bs) in
    s ∙ sym (ap (λ t. t && (nat_le (length (b ∷ bs)) 16 && all)) letter ∙ ap (λ t. t && all) short)
