-- Whom a first line lets in, as a function and as a statement.
use Rattle.std.proofs.Common.{nat_lt, slice_index, suc, zero, ◌≡◌, ℕ, ◌+◌, ◌-◌, ◌<◌, ◌≤◌, ◌==◌, List, [], ◌∷◌, ◌++◌, Bool, true, false, ◌&&◌, Option, None, Some, codes, length, take, drop, refl, sym, ap, ◌∙◌, arith, append_assoc, length-append, map}
use Rattle.std.specs.Prelude.{◌≢◌, IsSomeAnd}
use Rattle.std.specs.Str.{bytes_eq}
use Rattle.std.specs.List.{list_all}
use Rattle.std.proofs.lemmas.List.{take_at, drop_at, take_all, length-take}
use Rattle.std.proofs.lemmas.Bool.{and_parts, eqb-true, leb-true, cond-true, cond-false, cond_both, false_from_ne_true}
use Rattle.std.proofs.lemmas.Slice.Eq.{bytes_eq-Decides}
use Rattle.nesl_keys.specs.Names.{is_user_name, begins_with_letter}
use Rattle.nesl_keys.specs.Secrets.{digest_text, is_secret}
use Rattle.nesl_keys.specs.Entries.{Listed, Opens, entry_of}
use Rattle.nesl_keys.specs.Shown.{listed_in}
use Rattle.nesl_keys.specs.Admission.{Admits, ByAddress, ByHeader, Came, IsKeyed, IsNamed, keyed_line, user_line}
use Rattle.nesl_keys.specs.Hearing.{has_key, heard_after, is_key_of, key_in, name_in, told, user_by, user_by_address, user_by_header, user_by_key, user_named, without_return}
use Rattle.nesl_keys.specs.declared.sign_in.SignIn.{SignIn}
use Rattle.nesl_keys.specs.declared.sign_in.SignIn.TheVariants.{Word, Keys, Header, Address}
use Rattle.nesl_keys.specs.declared.admitted.Door.{Door}
use Rattle.nesl_keys.proofs.Words.{hex_length}

both : (a b : Bool) → a ≡ true → b ≡ true → (a && b) ≡ true
both true b p q = q
both false b p q = p

-- a name has at most 16 bytes
name_length : (name : List ℕ) → is_user_name name ≡ true → length name ≤ 16
name_length name e =
    let rest = and_parts (begins_with_letter name) _ e in
    let bound = and_parts _ (list_all _ name) rest.1 in leb-true (length name) 16 bound.0

user_line_length : (name : List ℕ) → is_user_name name ≡ true → length (user_line name) < 22
user_line_length name e = omega (arith, name_length name e, length-append (codes "user ") name)

-- the digest of the key is the one in the list
is_key : (found : Option Listed) (key : List ℕ) → IsSomeAnd found (λ one. digest_text one.salt key ≡ one.digest) → is_key_of found key ≡ true
is_key None key h = absurd h
is_key (Some one) key h = (bytes_eq-Decides (digest_text one.salt key) one.digest).1 h

has_digest : (found : Option Listed) (key : List ℕ) → is_key_of found key ≡ true → IsSomeAnd found (λ one. digest_text one.salt key ≡ one.digest)
has_digest None key h = absurd (cc)
has_digest (Some one) key h = (bytes_eq-Decides (digest_text one.salt key) one.digest).0 h

-- the parts of a line with a key
record HasParts (listed : List Listed) (line name key : List ℕ) : Type 0 where
  named : is_user_name name ≡ true
  secret : is_secret key ≡ true
  said : line ≡ keyed_line name key
  opens : Opens listed name key

parts_of : (listed : List Listed) (line name key : List ℕ) → has_key listed line name key ≡ true → HasParts listed line name key
parts_of listed line name key e =
    let first = and_parts (is_user_name name && is_secret key && bytes_eq line (keyed_line name key)) (is_key_of (entry_of listed name) key) e in
    let second = and_parts (is_user_name name && is_secret key) (bytes_eq line (keyed_line name key)) first.0 in
    let third = and_parts (is_user_name name) (is_secret key) second.0 in
    record {
      named = third.0;
      secret = third.1;
      said = (bytes_eq-Decides line (keyed_line name key)).0 second.1;
      opens = has_digest (entry_of listed name) key first.1;
    }

has_parts : (listed : List Listed) (line name key : List ℕ) → HasParts listed line name key → has_key listed line name key ≡ true
has_parts listed line name key p =
    both (is_user_name name && is_secret key && bytes_eq line (keyed_line name key)) _
    (both (is_user_name name && is_secret key) _ (both (is_user_name name) _ p.named p.secret)
    ((bytes_eq-Decides line (keyed_line name key)).1 p.said))
    (is_key (entry_of listed name) key p.opens)

-- where the name and the key of a line stand
module _ (line name key : List ℕ) (said : line ≡ keyed_line name key) (long : length key ≡ 32) where
  whole : length line ≡ length (user_line name) + 33
  whole = ap (λ x. length x) said ∙ length-append (user_line name) (32 ∷ key) ∙ omega (arith, long)

  front : take (length line - 33) line ≡ user_line name
  front = ap (λ x. take (length line - 33) x) said ∙ take_at (user_line name) (32 ∷ key) (length line - 33) (omega (arith, whole))

  name_there : name_in line ≡ name
  name_there = ap (λ x. drop 5 x) front

  key_there : key_in line ≡ key
  key_there =
      ap (λ x. drop (length line - 32) x) (said ∙ sym (append_assoc (user_line name) (32 ∷ []) key)) ∙ drop_at (user_line name ++ 32 ∷ []) key (length line - 32) (length-append (user_line name) (32 ∷ []) ∙ omega (arith, whole))

-- who is let in, and the front of the line that names them
pub record LetsIn (found : Option (List ℕ)) (line heard : List ℕ) : Type 0 where
  pub name : List ℕ
  pub found_is : found ≡ Some name
  pub front_is : take (length heard) line ≡ user_line name
  pub fits : length heard ≤ length line
  pub few : length heard < 22

pub lets_in_by_key : (listed : List Listed) (line heard : List ℕ) → IsKeyed listed line heard → LetsIn (user_by_key listed line) line heard
lets_in_by_key listed line heard k =
    let long = hex_length 32 k.key k.are.key_is in
    let here = name_there line k.name k.key k.said long in
    let there = key_there line k.name k.key k.said long in
    let has : has_key listed line k.name k.key ≡ true =
    has_parts listed line k.name k.key (record { named = k.are.name_is; secret = k.are.key_is; said = k.said; opens = k.opens }) in
    let same : has_key listed line (name_in line) (key_in line) ≡ true =
    ap (λ n. has_key listed line n (key_in line)) here ∙ ap (λ w. has_key listed line k.name w) there ∙ has in
    record {
      name = k.name;
      found_is = cond-true _ (Some (name_in line)) None same ∙ ap (λ n. Some n) here;
      front_is = ap (λ h. take (length h) line) k.hears ∙ ap (λ l. take (length (user_line k.name)) l) k.said ∙ take_at (user_line k.name) (32 ∷ k.key) (length (user_line k.name)) refl;
      fits = omega (arith, whole line k.name k.key k.said long, ap (λ h. length h) k.hears);
      few = omega (arith, user_line_length k.name k.are.name_is, ap (λ h. length h) k.hears);
    }

pub nobody_by_key : (listed : List Listed) (line : List ℕ) → ((heard : List ℕ) → ¬ IsKeyed listed line heard) → user_by_key listed line ≡ None
nobody_by_key listed line nobody =
    cond-false _ (Some (name_in line)) None
    (false_from_ne_true _ (λ e.
    let p = parts_of listed line (name_in line) (key_in line) e in
    nobody (user_line (name_in line)) (record {
      name = name_in line;
      key = key_in line;
      are = record { name_is = p.named; key_is = p.secret };
      said = p.said;
      opens = p.opens;
      hears = refl;
    })))

-- by a name
named_there : (name line : List ℕ) → is_user_name name ≡ true → line ≡ user_line name → user_named name line ≡ Some name
named_there name line is said =
    cond-true _ (Some name) None (both (is_user_name name) _ is ((bytes_eq-Decides line (user_line name)).1 said))

not_named : (name line : List ℕ) → (is_user_name name ≡ true → line ≢ user_line name) → user_named name line ≡ None
not_named name line other =
    cond-false _ (Some name) None
    (false_from_ne_true _ (λ e.
    let parts = and_parts (is_user_name name) _ e in
    other parts.0 ((bytes_eq-Decides line (user_line name)).0 parts.1)))

lets_in_named :
    (Names : List ℕ → Type 0) (found : Option (List ℕ)) (line heard : List ℕ) (k : IsNamed Names line heard)
    → found ≡ user_named k.name line → LetsIn found line heard
lets_in_named Names found line heard k e = record {
  name = k.name;
  found_is = e ∙ named_there k.name line k.is k.said;
  front_is = ap (λ h. take (length h) line) (k.hears ∙ sym k.said) ∙ take_all (length line) line (omega arith) ∙ k.said;
  fits = omega (arith, ap (λ h. length h) (k.hears ∙ sym k.said));
  few = omega (arith, user_line_length k.name k.is, ap (λ h. length h) k.hears);
}

pub lets_in_by_header : (came : Came) (heard : List ℕ) → IsNamed (ByHeader came) came.first heard → LetsIn (user_by_header came.headers came.first) came.first heard
lets_in_by_header came heard k = lets_in_named (ByHeader came) _ came.first heard k (ap (λ h. user_by_header h came.first) k.named)

nobody_in : (headers : List (List ℕ)) (line : List ℕ) → ((name : List ℕ) → headers ≡ name ∷ [] → is_user_name name ≡ true → line ≢ user_line name) → user_by_header headers line ≡ None
nobody_in [] line other = refl
nobody_in (name ∷ []) line other = not_named name line (other name refl)
nobody_in (name ∷ second ∷ more) line other = refl

pub nobody_by_header : (came : Came) → ((heard : List ℕ) → ¬ IsNamed (ByHeader came) came.first heard) → user_by_header came.headers came.first ≡ None
nobody_by_header came nobody =
    nobody_in came.headers came.first (λ name named is said. nobody (user_line name) (record { name = name; is = is; named = named; said = said; hears = refl }))

by_query : (query line name : List ℕ) → query ≡ codes "user=" ++ name → user_by_address query line ≡ user_named name line
by_query query line name e =
    let there : drop 5 query ≡ name = ap (λ q. drop 5 q) e in
    cond-true _ (user_named (drop 5 query) line) None ((bytes_eq-Decides query (codes "user=" ++ drop 5 query)).1 (e ∙ ap (λ n. codes "user=" ++ n) (sym there))) ∙ ap (λ n. user_named n line) there

pub lets_in_by_address : (came : Came) (heard : List ℕ) → IsNamed (ByAddress came) came.first heard → LetsIn (user_by_address came.query came.first) came.first heard
lets_in_by_address came heard k = lets_in_named (ByAddress came) _ came.first heard k (by_query came.query came.first k.name k.named)

pub nobody_by_address : (came : Came) → ((heard : List ℕ) → ¬ IsNamed (ByAddress came) came.first heard) → user_by_address came.query came.first ≡ None
nobody_by_address came nobody =
    cond_both (bytes_eq came.query (codes "user=" ++ drop 5 came.query)) _ _ (λ x. x ≡ None)
    (λ e. not_named (drop 5 came.query) came.first (λ is said. nobody (user_line (drop 5 came.query)) (record {
      name = drop 5 came.query;
      is = is;
      named = (bytes_eq-Decides came.query (codes "user=" ++ drop 5 came.query)).0 e;
      said = said;
      hears = refl;
    })))
    (λ e. refl)

-- who is let in where users are not known by their word
pub lets_in :
    (sign_in : SignIn) (came : Came) (heard : List ℕ) → sign_in ≢ Word → Admits came sign_in heard
    → LetsIn (user_by sign_in came.headers came.query came.first) came.first heard
lets_in Word came heard other k = absurd (other refl)
lets_in (Keys keys) came heard other k = lets_in_by_key (listed_in keys.now) came.first heard k
lets_in Header came heard other k = lets_in_by_header came heard k
lets_in Address came heard other k = lets_in_by_address came heard k

pub nobody_let_in :
    (sign_in : SignIn) (came : Came) → sign_in ≢ Word → ((heard : List ℕ) → ¬ Admits came sign_in heard)
    → user_by sign_in came.headers came.query came.first ≡ None
nobody_let_in Word came other nobody = refl
nobody_let_in (Keys keys) came other nobody = nobody_by_key (listed_in keys.now) came.first nobody
nobody_let_in Header came other nobody = nobody_by_header came nobody
nobody_let_in Address came other nobody = nobody_by_address came nobody

take_shorter : (n m : ℕ) (xs : List ℕ) → n ≤ m → take n (take m xs) ≡ take n xs
take_shorter zero m xs h = refl
take_shorter (suc n) zero xs h = absurd (omega (arith, h))
take_shorter (suc n) (suc m) [] h = refl
take_shorter (suc n) (suc m) (x ∷ xs) h = ap (λ ys. x ∷ ys) (take_shorter n m xs (omega (arith, h)))

-- the front of a line without its CR
front_stays : (n : ℕ) (line : List ℕ) → n ≤ length (without_return line) → take n line ≡ take n (without_return line)
front_stays n line =
    cond_both (nat_lt 0 (length line) && slice_index line (length line - 1) == 13) (take (length line - 1) line) line (λ x. n ≤ length x → take n line ≡ take n x)
    (λ e h. sym (take_shorter n (length line - 1) line (omega (arith, h, length-take (length line - 1) line)))) (λ e h. refl)

pub front_of_line :
    (n : ℕ) (line kept named : List ℕ) → kept ≡ without_return line → n ≤ length kept → take n kept ≡ named → take n line ≡ named
front_of_line n line kept named e h t =
    front_stays n line (omega (arith, h, ap (λ x. length x) e)) ∙ ap (λ x. take n x) (sym e) ∙ t

-- a line that lets somebody in has fewer than 55 bytes
long_by_key : (listed : List Listed) (line : List ℕ) → 55 ≤ length line → user_by_key listed line ≡ None
long_by_key listed line h =
    nobody_by_key listed line (λ heard k. absurd (omega (arith, h, hex_length 32 k.key k.are.key_is, user_line_length k.name k.are.name_is, whole line k.name k.key k.said (hex_length 32 k.key k.are.key_is))))

long_named : (name line : List ℕ) → 55 ≤ length line → user_named name line ≡ None
long_named name line h = not_named name line (λ is said. absurd (omega (arith, h, user_line_length name is, ap (λ x. length x) said)))

long_by_header : (headers : List (List ℕ)) (line : List ℕ) → 55 ≤ length line → user_by_header headers line ≡ None
long_by_header [] line h = refl
long_by_header (name ∷ []) line h = long_named name line h
long_by_header (name ∷ second ∷ more) line h = refl

long_by : (sign_in : SignIn) (headers : List (List ℕ)) (query line : List ℕ) → 55 ≤ length line → user_by sign_in headers query line ≡ None
long_by Word headers query line h = refl
long_by (Keys keys) headers query line h = long_by_key (listed_in keys.now) line h
long_by Header headers query line h = long_by_header headers line h
long_by Address headers query line h =
    cond_both (bytes_eq query (codes "user=" ++ drop 5 query)) _ _ (λ x. x ≡ None) (λ e. long_named (drop 5 query) line h) (λ e. refl)

at_most_a_return : (line : List ℕ) → 56 ≤ length line → 55 ≤ length (without_return line)
at_most_a_return line h =
    cond_both (nat_lt 0 (length line) && slice_index line (length line - 1) == 13) (take (length line - 1) line) line (λ x. 55 ≤ length x) (λ e. omega (arith, h, length-take (length line - 1) line)) (λ e. omega (arith, h))

-- nobody is let in by a first line that is too long
pub overlong : (door : Door) (before bytes : List ℕ) → 56 ≤ length before → heard_after door before bytes ≡ 10 ∷ []
overlong door before [] h = cond-false (length before == 0) [] (10 ∷ []) (false_from_ne_true _ (λ e. absurd (omega (arith, h, eqb-true (length before) 0 e))))
overlong door before (b ∷ bs) h =
    cond_both (b == 10) _ _ (λ x. x ≡ 10 ∷ [])
    (λ e. ap (λ found. told found bs) (long_by door.sign_in (map (λ value. value.now) door.headers.now) door.query.now (without_return before) (at_most_a_return before h)))
    (λ e. overlong door (before ++ b ∷ []) bs (omega (arith, h, length-append before (b ∷ []))))
