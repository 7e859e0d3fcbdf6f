-- A form's line has no line end, and doesn't end in `\`.
use Rattle.std.proofs.Common.{◌≡◌, ℕ, ◌==◌, Bool, true, false, List, [], ◌∷◌, ◌++◌, refl, ◌∙◌, sym, ap, subst}
use Rattle.std.specs.Prelude.{◌||◌, ◌&&◌, if◌then◌else◌, reverse}
use Rattle.std.proofs.lemmas.List.{reverse-reverse, reverse-append}
use Rattle.nesl_lex.specs.Lexemes.{AllBytes, is_blank}
use Rattle.nesl_forms.specs.declared.scan.StretchKind.{StretchKind}
use Rattle.nesl_forms.specs.declared.scan.StretchKind.TheVariants as kind
use Rattle.nesl_forms.specs.Lines.{ends_soon, flat_byte, flat, trimmed, line_of, is_no_feed, is_part}

all_append : (p : ℕ → Bool) (xs ys : List ℕ) → AllBytes p xs → AllBytes p ys → AllBytes p (xs ++ ys)
all_append p [] ys h k = k
all_append p (x ∷ xs) ys h k = (h.0, all_append p xs ys h.1 k)

-- reversed, by taking the last byte first
reversed : List ℕ → List ℕ
reversed [] = []
reversed (x ∷ xs) = reversed xs ++ x ∷ []

reverse_is : (xs : List ℕ) → reverse xs ≡ reversed xs
unfolding reversed
reverse_is [] = refl
reverse_is (x ∷ xs) = reverse-append (x ∷ []) xs ∙ ap (λ (ys : List ℕ). ys ++ x ∷ []) (reverse_is xs)

all_reversed : (p : ℕ → Bool) (xs : List ℕ) → AllBytes p xs → AllBytes p (reversed xs)
unfolding reversed
all_reversed p [] h = tt
all_reversed p (x ∷ xs) h = all_append p (reversed xs) (x ∷ []) (all_reversed p xs h.1) (h.0, tt)

all_reverse : (p : ℕ → Bool) (xs : List ℕ) → AllBytes p xs → AllBytes p (reverse xs)
all_reverse p xs h = subst (AllBytes p) (sym (reverse_is xs)) (all_reversed p xs h)

all_trimmed : (p : ℕ → Bool) (xs : List ℕ) → AllBytes p xs → AllBytes p (trimmed xs)
all_trimmed p [] h = tt
all_trimmed p (x ∷ xs) h = by_case (is_blank x || (x == 92)) (all_trimmed p xs h.1)
  where
    by_case : (t : Bool) → AllBytes p (trimmed xs) → AllBytes p (if t then trimmed xs else x ∷ xs)
    by_case true k = k
    by_case false k = h

part_last : (xs : List ℕ) (x : ℕ) → is_part (xs ++ x ∷ []) ≡ (x == 92)
part_last [] x = refl
part_last (y ∷ []) x = refl
part_last (y ∷ z ∷ xs) x = part_last (z ∷ xs) x

-- the first byte is no `\`
abbrev NoSlash : List ℕ → Type 0
NoSlash [] = Unit {0}
NoSlash (x ∷ xs) = (x == 92) ≡ false

or_false : (a b : Bool) → (a || b) ≡ false → b ≡ false
or_false true b h = absurd (let e : true ≡ false = h in cc)
or_false false b h = h

or_false_left : (a b : Bool) → (a || b) ≡ false → a ≡ false
or_false_left true b h = h
or_false_left false b h = refl

trimmed_front : (xs : List ℕ) → NoSlash (trimmed xs)
trimmed_front [] = tt
trimmed_front (x ∷ xs) = by_case (is_blank x || (x == 92)) refl (trimmed_front xs)
  where
    by_case : (t : Bool) → (is_blank x || (x == 92)) ≡ t → NoSlash (trimmed xs) → NoSlash (if t then trimmed xs else x ∷ xs)
    by_case true e k = k
    by_case false e k = or_false (is_blank x) (x == 92) e

no_part_reverse : (xs : List ℕ) → NoSlash xs → is_part (reverse xs) ≡ false
no_part_reverse [] h = refl
no_part_reverse (x ∷ xs) h =
    ap (λ (ys : List ℕ). is_part ys) (reverse-append (x ∷ []) xs) ∙ part_last (reverse xs) x ∙ h

byte_no_feed : (b : ℕ) (rest : List ℕ) → is_no_feed (flat_byte b rest) ≡ true
byte_no_feed b rest = by_case ((b == 10) || ((b == 92) && ends_soon rest)) refl
  where
    by_case : (t : Bool) → ((b == 10) || ((b == 92) && ends_soon rest)) ≡ t → is_no_feed (if t then 32 else b) ≡ true
    by_case true e = refl
    by_case false e = rw (or_false_left (b == 10) ((b == 92) && ends_soon rest) e) refl

flat_no_feed : (form : List ℕ) → AllBytes is_no_feed (flat form)
flat_no_feed [] = tt
flat_no_feed (b ∷ bs) = (byte_no_feed b bs, flat_no_feed bs)

last_byte : (b : ℕ) → (flat_byte b [] == 92) ≡ false
last_byte b = by_case (b == 10) (b == 92) refl
  where
    by_case : (s t : Bool) → (b == 92) ≡ t → ((if s || (t && true) then 32 else b) == 92) ≡ false
    by_case true t e = refl
    by_case false true e = refl
    by_case false false e = e

flat_no_part : (form : List ℕ) → is_part (flat form) ≡ false
flat_no_part [] = refl
flat_no_part (b ∷ []) = last_byte b
flat_no_part (b ∷ c ∷ bs) = flat_no_part (c ∷ bs)

pub line_no_feed : (k : StretchKind) (form : List ℕ) → AllBytes is_no_feed (line_of k form)
line_no_feed kind.Unfinished form = all_append is_no_feed (flat form) (59 ∷ []) (flat_no_feed form) (refl, tt)
line_no_feed kind.Line form =
    all_reverse is_no_feed _ (all_trimmed is_no_feed _ (all_reverse is_no_feed _ (flat_no_feed form)))
line_no_feed kind.Whole form = flat_no_feed form
line_no_feed kind.LeftOut form = flat_no_feed form

pub line_no_part : (k : StretchKind) (form : List ℕ) → is_part (line_of k form) ≡ false
line_no_part kind.Unfinished form = part_last (flat form) 59
line_no_part kind.Line form = no_part_reverse (trimmed (reverse (flat form))) (trimmed_front (reverse (flat form)))
line_no_part kind.Whole form = flat_no_part form
line_no_part kind.LeftOut form = flat_no_part form
