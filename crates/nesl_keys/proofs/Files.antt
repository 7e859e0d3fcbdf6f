-- What lines list, one after another.
use Rattle.std.proofs.Common.{◌≡◌, ◌≢◌, ℕ, ◌+◌, ◌<◌, List, [], ◌∷◌, ◌++◌, Some, Bool, true, false, ◌||◌, cond, length, map, take, drop, get_or, slice_index, ◌==◌, refl, sym, ap, ◌∙◌, arith, suc, zero, subst, append_assoc, length-take, add-one}
use Rattle.std.specs.List.{Contains, find, list_any, AllPairs}
use Rattle.std.specs.Option.{option_map}
use Rattle.std.specs.Str.{bytes_eq}
use Rattle.std.proofs.lemmas.List.{append-nil, map-append, length-map}
use Rattle.std.proofs.lemmas.List.Quantifiers.{all_pairs_push}
use Rattle.std.proofs.lemmas.List.Splits.{length-slice_split}
use mathlib.Core.Bool.{not}
use Rattle.std.proofs.lemmas.Slice.Eq.{bytes_eq-Decides}
use Rattle.nesl_keys.specs.Entries.{Listed, IsListed, entry_line, Says, SaysNothing, blank, comment, entry, Lists, ends, goes_on}
use Rattle.nesl_keys.specs.Entries.{names_of, AreApart, IsAdded, IsWrongAt, listed_before, IsWrong, wrong_at, lines_of}
use Rattle.nesl_keys.specs.declared.keys.KeysFault.{KeysFault}
use Rattle.nesl_keys.specs.declared.keys.KeysFault.TheVariants.{Twice}

-- the first that passes in a list that was mapped
pub find-map :
    {A B : Type 0} (f : A → B) (p : B → Bool) (xs : List A)
    → find p (map f xs) ≡ option_map f (find (λ x. p (f x)) xs)
find-map f p [] = refl
find-map f p (x ∷ xs) =
    elim (p (f x)) as (λ b. cond b (Some (f x)) (find p (map f xs)) ≡ option_map f (cond b (Some x) (find (λ y. p (f y)) xs)))
    [ true ↦ refl | false ↦ find-map f p xs ]

nothing_said :
    (line : List ℕ) (says : List Listed) → Says line says → 0 < length line → slice_index line 0 ≢ 35
    → ((listed : Listed) → IsListed listed → line ≢ entry_line listed) → ⊥
nothing_said line says blank some other none = absurd (omega (arith, some))
nothing_said line says (comment text) some other none = other refl
nothing_said line says (entry listed is) some other none = none listed is refl

-- a line that is neither blank, nor a comment, nor an entry
pub says_nothing :
    (line : List ℕ) → 0 < length line → slice_index line 0 ≢ 35
    → ((listed : Listed) → IsListed listed → line ≢ entry_line listed) → SaysNothing line
says_nothing line some other none = λ says said. nothing_said line says said some other none

-- more lines list what these list, and then what the further one says
pub lists_more :
    (lines : List (List ℕ)) (listed : List Listed) (line : List ℕ) (says : List Listed)
    → Lists lines listed → Says line says → Lists (lines ++ line ∷ []) (listed ++ says)
lists_more _ _ line says ends said =
    let P : List Listed → Type 0 = λ l. Lists (line ∷ []) l in
    subst P (append-nil says) (goes_on line [] says [] said ends)
lists_more _ _ line says (goes_on first rest one more is then') said =
    let P : List Listed → Type 0 = λ l. Lists (first ∷ (rest ++ line ∷ [])) l in
    subst P (sym (append_assoc one more says))
    (goes_on first (rest ++ line ∷ []) one (more ++ says) is (lists_more rest more line says then' said))

-- the users of the lines before, and one more who is not among them
pub apart_more :
    (listed : List Listed) (one : Listed) → AreApart listed
    → ((k : ℕ) (d : List ℕ) → k < length (names_of listed) → get_or (names_of listed) k d ≢ one.name)
    → AreApart (listed ++ one ∷ [])
apart_more listed one apart other =
    let P : List (List ℕ) → Type 0 = λ names. AllPairs (λ a b. a ≢ b) names in
    subst P (sym (map-append (λ x. x.name) listed (one ∷ [])))
    (all_pairs_push (λ a b. a ≢ b) (names_of listed) one.name apart other)

found_at : (b : Bool) (x name : List ℕ) (xs : List (List ℕ)) → bytes_eq x name ≡ b → (b ≡ false → Contains xs name) → Contains (x ∷ xs) name
found_at true x name xs e f = (0, omega arith, (bytes_eq-Decides x name).0 e)
found_at false x name xs e f = let there = f refl in (suc there.0, omega (arith, there.1), there.2)

or_right : (a b : Bool) → (a || b) ≡ true → a ≡ false → b ≡ true
or_right true b e f = absurd (cc)
or_right false b e f = e

or_none : (a b : Bool) → (a || b) ≡ false → (a ≡ false) × (b ≡ false)
or_none true b e = absurd (cc)
or_none false b e = (refl, e)

-- a name that is found is among the names
pub stands_among :
    {A : Type 0} (f : A → List ℕ) (name : List ℕ) (xs : List A)
    → list_any (λ v. bytes_eq (f v) name) xs ≡ true → Contains (map f xs) name
stands_among f name [] e = absurd (cc)
stands_among f name (x ∷ xs) e =
    found_at (bytes_eq (f x) name) (f x) name (map f xs) refl
    (λ other. stands_among f name xs
    (or_right (bytes_eq (f x) name) (list_any (λ v. bytes_eq (f v) name) xs) e other))

differs : (x name : List ℕ) → bytes_eq x name ≡ false → x ≢ name
differs x name e same =
    let yes' : bytes_eq x name ≡ true = (bytes_eq-Decides x name).1 same in
    let no' : true ≡ false = sym yes' ∙ e in
    absurd (cc)

-- one that is not found differs from each
pub stands_nowhere :
    {A : Type 0} (f : A → List ℕ) (name : List ℕ) (xs : List A)
    → list_any (λ v. bytes_eq (f v) name) xs ≡ false
    → (k : ℕ) (d : List ℕ) → k < length (map f xs) → get_or (map f xs) k d ≢ name
stands_nowhere f name [] e k d h = absurd (omega (arith, h))
stands_nowhere f name (x ∷ xs) e zero d h =
    differs (f x) name (or_none (bytes_eq (f x) name) (list_any (λ v. bytes_eq (f v) name) xs) e).0
stands_nowhere f name (x ∷ xs) e (suc k) d h =
    stands_nowhere f name xs (or_none (bytes_eq (f x) name) (list_any (λ v. bytes_eq (f v) name) xs) e).1
    k d (omega arith)

-- whether an element of a mapped list passes
pub any-map :
    {A B : Type 0} (f : A → B) (p : B → Bool) (xs : List A) → list_any p (map f xs) ≡ list_any (λ x. p (f x)) xs
any-map f p [] = refl
any-map f p (x ∷ xs) = ap (λ b. p (f x) || b) (any-map f p xs)

-- a blank line adds nobody
pub adds_nobody : (line : List ℕ) (listed : List Listed) → length line ≡ 0 → IsAdded line listed listed
adds_nobody [] listed none =
    record { says = []; said = blank; added = sym (append-nil listed); apart = λ a. a }
adds_nobody (b ∷ line) listed none = absurd (omega (arith, none))

-- nor does a comment
pub comment_adds_nobody :
    (line : List ℕ) (listed : List Listed) → slice_index line 0 ≡ 35 → IsAdded line listed listed
comment_adds_nobody [] listed hash = absurd (omega (arith, hash))
comment_adds_nobody (b ∷ line) listed hash =
    let P : ℕ → Type 0 = λ n. IsAdded (n ∷ line) listed listed in
    subst P (sym hash) (record { says = []; said = comment line; added = sym (append-nil listed); apart = λ a. a })

-- the line of an entry says who is listed
pub says_entry : (line : List ℕ) (one : Listed) → IsListed one → line ≡ entry_line one → Says line (one ∷ [])
says_entry line one is said =
    let P : List ℕ → Type 0 = λ l. Says l (one ∷ []) in
    subst P (sym said) (entry one is)

-- an entry adds a user who is not listed before
pub adds_one :
    (line : List ℕ) (old new : List Listed) (one : Listed) → IsListed one → line ≡ entry_line one
    → list_any (λ other. bytes_eq other.name one.name) old ≡ false → new ≡ old ++ one ∷ [] → IsAdded line old new
adds_one line old new one is said other more =
    record {
      says = one ∷ [];
      said = says_entry line one is said;
      added = more;
      apart = λ apart.
          let P : List Listed → Type 0 = λ l. AreApart l in
          subst P (sym more) (apart_more old one apart (stands_nowhere (λ x. x.name) one.name old other));
    }

-- and one who is listed before is refused
pub refused_twice :
    (line : List ℕ) (number : ℕ) (old : List Listed) (one : Listed) → IsListed one → line ≡ entry_line one
    → list_any (λ other. bytes_eq other.name one.name) old ≡ true → IsWrongAt number line old (Twice number)
refused_twice line number old one is said there =
    listed_before one (says_entry line one is said) (stands_among (λ x. x.name) one.name old there)

-- a list, cut at a place
cut_at :
    {A B : Type 0} (f : A → B) (xs : List A) (i : ℕ) (d : A) → i < length xs
    → map f xs ≡ map f (take i xs) ++ f (get_or xs i d) ∷ map f (drop (suc i) xs)
cut_at f [] i d h = absurd (omega (arith, h))
cut_at f (x ∷ xs) zero d h = refl
cut_at f (x ∷ xs) (suc i) d h = ap (λ ys. f x ∷ ys) (cut_at f xs i d (omega arith))

-- what is before a place, and there
front_at :
    {A B : Type 0} (f : A → B) (xs : List A) (i : ℕ) (d : A) → i < length xs
    → map f (take (suc i) xs) ≡ map f (take i xs) ++ f (get_or xs i d) ∷ []
front_at f [] i d h = absurd (omega (arith, h))
front_at f (x ∷ xs) zero d h = refl
front_at f (x ∷ xs) (suc i) d h = ap (λ ys. f x ∷ ys) (front_at f xs i d (omega arith))

front_long : {A B : Type 0} (f : A → B) (xs : List A) (i : ℕ) → i < length xs → length (map f (take i xs)) ≡ i
front_long f xs i h = omega (arith, length-map (take i xs) f, length-take i xs)

module _ {A : Type 0} (f : A → List ℕ) (xs : List A) (i : ℕ) (d : A) (line : List ℕ) (old : List Listed) where
  -- the lines up to a place list the users before it, and those whom its line adds
  pub lists_at :
      (new : List Listed) → i < length xs → line ≡ f (get_or xs i d) → Lists (map f (take i xs)) old
      → IsAdded line old new → Lists (map f (take (i + 1) xs)) new
  lists_at new h here before added =
      let P : List Listed → Type 0 = λ l. Lists (map f (take i xs) ++ line ∷ []) l in
      let front : map f (take i xs) ++ line ∷ [] ≡ map f (take (i + 1) xs) =
      ap (λ l. map f (take i xs) ++ l ∷ []) here ∙ sym (front_at f xs i d h)
      ∙ ap (λ k. map f (take k xs)) (sym (add-one i)) in
      let Q : List (List ℕ) → Type 0 = λ ls. Lists ls new in
      subst Q front (subst P (sym added.added) (lists_more (map f (take i xs)) old line added.says before added.said))

  -- a wrong line at a place
  pub wrong_there :
      (fault : KeysFault) → i < length xs → line ≡ f (get_or xs i d) → Lists (map f (take i xs)) old → AreApart old
      → IsWrongAt (i + 2) line old fault → IsWrong (map f xs) fault
  wrong_there fault h here before apart wrong =
      let P : ℕ → Type 0 = λ k. IsWrongAt (k + 2) line old fault in
      let cut : map f xs ≡ map f (take i xs) ++ line ∷ map f (drop (suc i) xs) =
      cut_at f xs i d h ∙ ap (λ l. map f (take i xs) ++ l ∷ map f (drop (suc i) xs)) (sym here) in
      wrong_at (map f (take i xs)) (map f (drop (suc i) xs)) line old fault cut before apart
      (subst P (sym (front_long f xs i h)) wrong)

-- a text has a line
pub no_line :
    {A : Type 0} (f : A → List ℕ) (xs ys : List A) (text : List ℕ) → map f xs ≡ lines_of text → ys ≡ xs
    → length ys ≡ 0 → ⊥
no_line f xs ys text are same none =
    let count = length-slice_split (λ b. b == 10) text in
    let mapped : length xs ≡ length (lines_of text) = sym (length-map xs f) ∙ ap (λ l. length l) are in
    absurd (omega (arith, count, mapped, ap (λ l. length l) same, none))

-- its first line and the others
pub first_line :
    {A : Type 0} (f : A → List ℕ) (xs ys rest : List A) (x : A) (text : List ℕ) → map f xs ≡ lines_of text → ys ≡ xs
    → ys ≡ x ∷ rest → lines_of text ≡ f x ∷ map f rest
first_line f xs ys rest x text are same cut = sym are ∙ ap (λ l. map f l) (sym same ∙ cut)

pub unlike : (x y : List ℕ) → true ≡ not (bytes_eq x y) → x ≢ y
unlike x y e same =
    let yes' : bytes_eq x y ≡ true = (bytes_eq-Decides x y).1 same in
    let no' : true ≡ false = e ∙ ap not yes' in
    absurd (cc)

alike_when : (b : Bool) (x y : List ℕ) → bytes_eq x y ≡ b → false ≡ not b → x ≡ y
alike_when true x y e n = (bytes_eq-Decides x y).0 e
alike_when false x y e n = absurd (cc)

pub alike : (x y : List ℕ) → false ≡ not (bytes_eq x y) → x ≡ y
alike x y e = alike_when (bytes_eq x y) x y refl e

pub none_of : {A B : Type 0} (f : A → B) (xs : List A) → length xs ≡ 0 → map f xs ≡ []
none_of f [] e = refl
none_of f (x ∷ xs) e = absurd (omega (arith, e))

pub some_of : {A B : Type 0} (f : A → B) (xs : List A) → 0 < length xs → map f xs ≢ []
some_of f xs some none =
    let l : length xs ≡ 0 = sym (length-map xs f) ∙ ap (λ l. length l) none in
    absurd (omega (arith, some, l))
