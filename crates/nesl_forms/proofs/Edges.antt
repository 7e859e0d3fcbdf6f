-- What a byte's edge makes of the stretch so far.
use Rattle.std.proofs.Common.{◌≡◌, ℕ, ◌+◌, Bool, true, false, List, [], ◌∷◌, ◌++◌, refl, ◌∙◌, sym, ap, subst, append_assoc, eqb-true}
use Rattle.std.specs.Prelude.{◌==◌, ◌||◌, if◌then◌else◌}
use Rattle.nesl_lex.specs.Lexemes.{AllBytes, is_blank, is_digit, is_letter, is_comment_byte, small_letter}
use Rattle.nesl_forms.specs.declared.bytes.ByteKind.{ByteKind}
use Rattle.nesl_forms.specs.declared.bytes.ByteKind.TheVariants as kind
use Rattle.nesl_forms.specs.declared.scan.Spelled.{Spelled}
use Rattle.nesl_forms.specs.declared.scan.Around.{Around}
use Rattle.nesl_forms.specs.declared.scan.Around.TheVariants as around
use Rattle.nesl_forms.specs.declared.scan.Within.{Within}
use Rattle.nesl_forms.specs.declared.scan.Within.TheVariants as within
use Rattle.nesl_forms.specs.declared.scan.Edge.{Edge}
use Rattle.nesl_forms.specs.declared.scan.Edge.TheVariants.{Inside, Before, After}
use Rattle.nesl_forms.specs.Bytes.{kind_of}
use Rattle.nesl_forms.specs.Steps.{step, in_form, between, in_name, in_colon, in_members, in_text, in_character}
use Rattle.nesl_forms.specs.Steps.{in_comment, in_command, in_continued}
use Rattle.nesl_forms.specs.Stretches.{IsLeftOut, nothing, blank, comment, IsOfKind, is_between}

-- what is known of a byte of this kind
abbrev pub IsOf : ByteKind → ℕ → Type 0
IsOf kind.Percent b = b ≡ 37
IsOf kind.LineEnd b = (is_between b ≡ true) × (is_comment_byte b ≡ true)
IsOf kind.Blank b = (is_between b ≡ true) × (is_comment_byte b ≡ true)
IsOf kind.Semicolon b = (b ≡ 59) × (is_comment_byte b ≡ true)
IsOf k b = Unit {0} × (is_comment_byte b ≡ true)

-- the bytes of a stretch so far, by what the next byte is within
abbrev pub SoFar : Within → List ℕ → Type 0
SoFar within.Between bs = IsLeftOut bs
SoFar (within.Comment around.Between) bs = (inside : List ℕ) × (bs ≡ 37 ∷ inside) × AllBytes is_comment_byte inside
SoFar w bs = Unit {0}

-- what a step makes of the bytes so far
abbrev pub Goes : Edge → Within → List ℕ → ℕ → Type 0
Goes Inside w bs b = SoFar w (bs ++ b ∷ [])
Goes (Before k) w bs b = IsOfKind k bs × SoFar w (b ∷ [])
Goes (After k) w bs b = IsOfKind k (bs ++ b ∷ []) × SoFar w []

all_more : (p : ℕ → Bool) (bs : List ℕ) (b : ℕ) → AllBytes p bs → p b ≡ true → AllBytes p (bs ++ b ∷ [])
all_more p [] b h e = (e, tt)
all_more p (x ∷ bs) b h e = (h.0, all_more p bs b h.1 e)

left_more : (bs : List ℕ) (b : ℕ) → IsLeftOut bs → is_between b ≡ true → IsLeftOut (bs ++ b ∷ [])
left_more _ b nothing e = blank b [] e nothing
left_more _ b (blank x bs h r) e = blank x (bs ++ b ∷ []) h (left_more bs b r e)
left_more _ b (comment inside bs h r) e =
    subst IsLeftOut (sym (ap (λ (xs : List ℕ). 37 ∷ xs) (append_assoc inside (37 ∷ bs) (b ∷ []))))
    (comment inside (bs ++ b ∷ []) h (left_more bs b r e))

form_goes : (takes : Bool) (k : ByteKind) (bs : List ℕ) (b : ℕ) → IsOf k b → Goes (in_form takes k).edge (in_form takes k).within bs b
form_goes takes kind.LineEnd bs b h = tt
form_goes takes kind.Blank bs b h = tt
form_goes takes kind.Percent bs b h = tt
form_goes takes kind.Quote bs b h = tt
form_goes takes kind.Backquote bs b h = tt
form_goes takes kind.OpenBracket bs b h = tt
form_goes takes kind.OpenBrace bs b h = tt
form_goes takes kind.Close bs b h = tt
form_goes true kind.Semicolon bs b h = tt
form_goes false kind.Semicolon bs b h = ((bs, ap (λ (x : ℕ). bs ++ x ∷ []) h.0), nothing)
form_goes takes kind.Colon bs b h = tt
form_goes takes kind.Backslash bs b h = tt
form_goes takes (kind.Letter c) bs b h = tt
form_goes takes kind.Digit bs b h = tt
form_goes takes kind.Other bs b h = tt

between_goes : (k : ByteKind) (bs : List ℕ) (b : ℕ) → IsOf k b → IsLeftOut bs → Goes (between k).edge (between k).within bs b
between_goes kind.LineEnd bs b h l = left_more bs b l h.0
between_goes kind.Blank bs b h l = left_more bs b l h.0
between_goes kind.Percent bs b h l = (l, ([], ap (λ (x : ℕ). x ∷ []) h, tt))
between_goes kind.Quote bs b h l = (l, tt)
between_goes kind.Backquote bs b h l = (l, tt)
between_goes kind.OpenBracket bs b h l = (l, tt)
between_goes kind.OpenBrace bs b h l = (l, tt)
between_goes kind.Close bs b h l = (l, tt)
between_goes kind.Semicolon bs b h l = left_more bs b l (subst (λ (x : ℕ). is_between x ≡ true) (sym h.0) refl)
between_goes kind.Colon bs b h l = (l, tt)
between_goes kind.Backslash bs b h l = (l, tt)
between_goes (kind.Letter c) bs b h l = (l, tt)
between_goes kind.Digit bs b h l = (l, tt)
between_goes kind.Other bs b h l = (l, tt)

name_goes : (s : Spelled) (takes : Bool) (k : ByteKind) (bs : List ℕ) (b : ℕ) → IsOf k b → Goes (in_name s takes k).edge (in_name s takes k).within bs b
name_goes s takes kind.LineEnd bs b h = form_goes takes kind.LineEnd bs b h
name_goes s takes kind.Blank bs b h = form_goes takes kind.Blank bs b h
name_goes s takes kind.Percent bs b h = form_goes takes kind.Percent bs b h
name_goes s takes kind.Quote bs b h = form_goes takes kind.Quote bs b h
name_goes s takes kind.Backquote bs b h = form_goes takes kind.Backquote bs b h
name_goes s takes kind.OpenBracket bs b h = form_goes takes kind.OpenBracket bs b h
name_goes s takes kind.OpenBrace bs b h = form_goes takes kind.OpenBrace bs b h
name_goes s takes kind.Close bs b h = form_goes takes kind.Close bs b h
name_goes s takes kind.Semicolon bs b h = form_goes takes kind.Semicolon bs b h
name_goes s takes kind.Colon bs b h = form_goes takes kind.Colon bs b h
name_goes s takes kind.Backslash bs b h = form_goes takes kind.Backslash bs b h
name_goes s takes (kind.Letter c) bs b h = tt
name_goes s takes kind.Digit bs b h = tt
name_goes s takes kind.Other bs b h = form_goes takes kind.Other bs b h

colon_goes : (takes : Bool) (k : ByteKind) (bs : List ℕ) (b : ℕ) → IsOf k b → Goes (in_colon takes k).edge (in_colon takes k).within bs b
colon_goes takes kind.LineEnd bs b h = form_goes takes kind.LineEnd bs b h
colon_goes takes kind.Blank bs b h = form_goes takes kind.Blank bs b h
colon_goes takes kind.Percent bs b h = form_goes takes kind.Percent bs b h
colon_goes takes kind.Quote bs b h = form_goes takes kind.Quote bs b h
colon_goes takes kind.Backquote bs b h = form_goes takes kind.Backquote bs b h
colon_goes takes kind.OpenBracket bs b h = form_goes takes kind.OpenBracket bs b h
colon_goes takes kind.OpenBrace bs b h = form_goes takes kind.OpenBrace bs b h
colon_goes takes kind.Close bs b h = form_goes takes kind.Close bs b h
colon_goes takes kind.Semicolon bs b h = form_goes takes kind.Semicolon bs b h
colon_goes takes kind.Colon bs b h = tt
colon_goes takes kind.Backslash bs b h = form_goes takes kind.Backslash bs b h
colon_goes takes (kind.Letter c) bs b h = form_goes takes (kind.Letter c) bs b h
colon_goes takes kind.Digit bs b h = form_goes takes kind.Digit bs b h
colon_goes takes kind.Other bs b h = form_goes takes kind.Other bs b h

members_goes : (takes : Bool) (k : ByteKind) (bs : List ℕ) (b : ℕ) → IsOf k b → Goes (in_members takes k).edge (in_members takes k).within bs b
members_goes takes kind.LineEnd bs b h = tt
members_goes takes kind.Blank bs b h = tt
members_goes takes kind.Percent bs b h = tt
members_goes takes kind.Quote bs b h = form_goes takes kind.Quote bs b h
members_goes takes kind.Backquote bs b h = form_goes takes kind.Backquote bs b h
members_goes takes kind.OpenBracket bs b h = tt
members_goes takes kind.OpenBrace bs b h = form_goes takes kind.OpenBrace bs b h
members_goes takes kind.Close bs b h = form_goes takes kind.Close bs b h
members_goes takes kind.Semicolon bs b h = form_goes takes kind.Semicolon bs b h
members_goes takes kind.Colon bs b h = form_goes takes kind.Colon bs b h
members_goes takes kind.Backslash bs b h = form_goes takes kind.Backslash bs b h
members_goes takes (kind.Letter c) bs b h = form_goes takes (kind.Letter c) bs b h
members_goes takes kind.Digit bs b h = form_goes takes kind.Digit bs b h
members_goes takes kind.Other bs b h = form_goes takes kind.Other bs b h

text_goes : (k : ByteKind) (bs : List ℕ) (b : ℕ) → IsOf k b → Goes (in_text k).edge (in_text k).within bs b
text_goes kind.LineEnd bs b h = (tt, blank b [] h.0 nothing)
text_goes kind.Blank bs b h = tt
text_goes kind.Percent bs b h = tt
text_goes kind.Quote bs b h = tt
text_goes kind.Backquote bs b h = tt
text_goes kind.OpenBracket bs b h = tt
text_goes kind.OpenBrace bs b h = tt
text_goes kind.Close bs b h = tt
text_goes kind.Semicolon bs b h = tt
text_goes kind.Colon bs b h = tt
text_goes kind.Backslash bs b h = tt
text_goes (kind.Letter c) bs b h = tt
text_goes kind.Digit bs b h = tt
text_goes kind.Other bs b h = tt

character_goes : (k : ByteKind) (bs : List ℕ) (b : ℕ) → IsOf k b → Goes (in_character k).edge (in_character k).within bs b
character_goes kind.LineEnd bs b h = (tt, blank b [] h.0 nothing)
character_goes kind.Blank bs b h = tt
character_goes kind.Percent bs b h = tt
character_goes kind.Quote bs b h = tt
character_goes kind.Backquote bs b h = tt
character_goes kind.OpenBracket bs b h = tt
character_goes kind.OpenBrace bs b h = tt
character_goes kind.Close bs b h = tt
character_goes kind.Semicolon bs b h = tt
character_goes kind.Colon bs b h = tt
character_goes kind.Backslash bs b h = tt
character_goes (kind.Letter c) bs b h = tt
character_goes kind.Digit bs b h = tt
character_goes kind.Other bs b h = tt

command_goes : (k : ByteKind) (bs : List ℕ) (b : ℕ) → IsOf k b → Goes (in_command k).edge (in_command k).within bs b
command_goes kind.LineEnd bs b h = (tt, blank b [] h.0 nothing)
command_goes kind.Blank bs b h = tt
command_goes kind.Percent bs b h = tt
command_goes kind.Quote bs b h = tt
command_goes kind.Backquote bs b h = tt
command_goes kind.OpenBracket bs b h = tt
command_goes kind.OpenBrace bs b h = tt
command_goes kind.Close bs b h = tt
command_goes kind.Semicolon bs b h = tt
command_goes kind.Colon bs b h = tt
command_goes kind.Backslash bs b h = tt
command_goes (kind.Letter c) bs b h = tt
command_goes kind.Digit bs b h = tt
command_goes kind.Other bs b h = tt

continued_goes : (k : ByteKind) (bs : List ℕ) (b : ℕ) → IsOf k b → Goes (in_continued k).edge (in_continued k).within bs b
continued_goes kind.LineEnd bs b h = tt
continued_goes kind.Blank bs b h = tt
continued_goes kind.Percent bs b h = tt
continued_goes kind.Quote bs b h = tt
continued_goes kind.Backquote bs b h = tt
continued_goes kind.OpenBracket bs b h = tt
continued_goes kind.OpenBrace bs b h = tt
continued_goes kind.Close bs b h = tt
continued_goes kind.Semicolon bs b h = tt
continued_goes kind.Colon bs b h = tt
continued_goes kind.Backslash bs b h = tt
continued_goes (kind.Letter c) bs b h = tt
continued_goes kind.Digit bs b h = tt
continued_goes kind.Other bs b h = tt

closed_comment : (bs : List ℕ) (b : ℕ) → b ≡ 37 → SoFar (within.Comment around.Between) bs → IsLeftOut (bs ++ b ∷ [])
closed_comment bs b h l =
    subst IsLeftOut (ap (λ (x : ℕ). 37 ∷ l.0 ++ x ∷ []) (sym h) ∙ sym (ap (λ (xs : List ℕ). xs ++ b ∷ []) l.1))
    (comment l.0 [] l.2 nothing)

longer_comment : (bs : List ℕ) (b : ℕ) → is_comment_byte b ≡ true → SoFar (within.Comment around.Between) bs → SoFar (within.Comment around.Between) (bs ++ b ∷ [])
longer_comment bs b h l = (l.0 ++ b ∷ [], ap (λ (xs : List ℕ). xs ++ b ∷ []) l.1, all_more is_comment_byte l.0 b l.2 h)

comment_goes : (a : Around) (k : ByteKind) (bs : List ℕ) (b : ℕ) → IsOf k b → SoFar (within.Comment a) bs → Goes (in_comment a k).edge (in_comment a k).within bs b
comment_goes around.Between kind.LineEnd bs b h l = longer_comment bs b h.1 l
comment_goes around.Form kind.LineEnd bs b h l = tt
comment_goes around.Members kind.LineEnd bs b h l = tt
comment_goes around.Between kind.Blank bs b h l = longer_comment bs b h.1 l
comment_goes around.Form kind.Blank bs b h l = tt
comment_goes around.Members kind.Blank bs b h l = tt
comment_goes around.Between kind.Percent bs b h l = closed_comment bs b h l
comment_goes around.Form kind.Percent bs b h l = tt
comment_goes around.Members kind.Percent bs b h l = tt
comment_goes around.Between kind.Quote bs b h l = longer_comment bs b h.1 l
comment_goes around.Form kind.Quote bs b h l = tt
comment_goes around.Members kind.Quote bs b h l = tt
comment_goes around.Between kind.Backquote bs b h l = longer_comment bs b h.1 l
comment_goes around.Form kind.Backquote bs b h l = tt
comment_goes around.Members kind.Backquote bs b h l = tt
comment_goes around.Between kind.OpenBracket bs b h l = longer_comment bs b h.1 l
comment_goes around.Form kind.OpenBracket bs b h l = tt
comment_goes around.Members kind.OpenBracket bs b h l = tt
comment_goes around.Between kind.OpenBrace bs b h l = longer_comment bs b h.1 l
comment_goes around.Form kind.OpenBrace bs b h l = tt
comment_goes around.Members kind.OpenBrace bs b h l = tt
comment_goes around.Between kind.Close bs b h l = longer_comment bs b h.1 l
comment_goes around.Form kind.Close bs b h l = tt
comment_goes around.Members kind.Close bs b h l = tt
comment_goes around.Between kind.Semicolon bs b h l = longer_comment bs b h.1 l
comment_goes around.Form kind.Semicolon bs b h l = tt
comment_goes around.Members kind.Semicolon bs b h l = tt
comment_goes around.Between kind.Colon bs b h l = longer_comment bs b h.1 l
comment_goes around.Form kind.Colon bs b h l = tt
comment_goes around.Members kind.Colon bs b h l = tt
comment_goes around.Between kind.Backslash bs b h l = longer_comment bs b h.1 l
comment_goes around.Form kind.Backslash bs b h l = tt
comment_goes around.Members kind.Backslash bs b h l = tt
comment_goes around.Between (kind.Letter c) bs b h l = longer_comment bs b h.1 l
comment_goes around.Form (kind.Letter c) bs b h l = tt
comment_goes around.Members (kind.Letter c) bs b h l = tt
comment_goes around.Between kind.Digit bs b h l = longer_comment bs b h.1 l
comment_goes around.Form kind.Digit bs b h l = tt
comment_goes around.Members kind.Digit bs b h l = tt
comment_goes around.Between kind.Other bs b h l = longer_comment bs b h.1 l
comment_goes around.Form kind.Other bs b h l = tt
comment_goes around.Members kind.Other bs b h l = tt

-- what a byte makes of the bytes so far
pub step_goes : (w : Within) (takes : Bool) (k : ByteKind) (bs : List ℕ) (b : ℕ) → IsOf k b → SoFar w bs → Goes (step w takes k).edge (step w takes k).within bs b
step_goes within.Between takes k bs b h l = between_goes k bs b h l
step_goes within.Form takes k bs b h l = form_goes takes k bs b h
step_goes (within.Name s) takes k bs b h l = name_goes s takes k bs b h
step_goes within.Colon takes k bs b h l = colon_goes takes k bs b h
step_goes within.Members takes k bs b h l = members_goes takes k bs b h
step_goes within.Text takes k bs b h l = text_goes k bs b h
step_goes within.Character takes k bs b h l = character_goes k bs b h
step_goes (within.Comment a) takes k bs b h l = comment_goes a k bs b h l
step_goes within.Command takes k bs b h l = command_goes k bs b h
step_goes within.Continued takes k bs b h l = continued_goes k bs b h

-- by a test
tested : (P : ByteKind → Type 0) (t : Bool) (x y : ByteKind) → (t ≡ true → P x) → (t ≡ false → P y) → P (if t then x else y)
tested P true x y f g = f refl
tested P false x y f g = g refl

-- a byte that passes a test which % fails is no %
apart : (test : ℕ → Bool) (b : ℕ) → test 37 ≡ false → test b ≡ true → is_comment_byte b ≡ true
apart test b n h = by_case (b == 37) refl
  where
    by_case : (t : Bool) → (b == 37) ≡ t → is_comment_byte b ≡ true
    by_case true e =
        let same : b ≡ 37 = eqb-true b 37 e in
        let yes : test 37 ≡ true = subst (λ (x : ℕ). test x ≡ true) same h in
        let no : false ≡ true = sym n ∙ yes in
        cc
    by_case false e = rw e refl

or_left : (x y : Bool) → x ≡ true → (x || y) ≡ true
or_left true y h = refl
or_left false y h = cc

blank_between : (b : ℕ) → is_blank b ≡ true → is_between b ≡ true
blank_between b h = or_left (is_blank b || (b == 10)) (b == 59) (or_left (is_blank b) (b == 10) h)

line_end_is : (b : ℕ) → b ≡ 10 → IsOf kind.LineEnd b
line_end_is b e = subst (λ (x : ℕ). IsOf kind.LineEnd x) (sym e) (refl, refl)

-- what is known of each byte
pub kind_is : (b : ℕ) → IsOf (kind_of b) b
kind_is b =
    tested Q (is_letter b) _ _ (λ h. (tt, apart is_letter b refl h)) (λ h0.
    tested Q (b == 10) _ _ (λ h. line_end_is b (eqb-true b 10 h)) (λ h1.
    tested Q (is_blank b) _ _ (λ h. (blank_between b h, apart is_blank b refl h)) (λ h2.
    tested Q (b == 37) _ _ (λ h. eqb-true b 37 h) (λ no. after (rw no refl)))))
  where
    Q : ByteKind → Type 0
    Q k = IsOf k b

    after : is_comment_byte b ≡ true → Q (
        if b == 34 then kind.Quote else (
        if b == 96 then kind.Backquote else (
        if (b == 40) || (b == 91) then kind.OpenBracket else (
        if b == 123 then kind.OpenBrace else (
        if (b == 41) || (b == 93) || (b == 125) then kind.Close else (
        if b == 59 then kind.Semicolon else (
        if b == 58 then kind.Colon else (
        if b == 92 then kind.Backslash else (
        if is_digit b || (b == 95) then kind.Digit else kind.Other)))))))))
    after c =
        tested Q (b == 34) _ _ (λ h. (tt, c)) (λ h.
        tested Q (b == 96) _ _ (λ h. (tt, c)) (λ h.
        tested Q ((b == 40) || (b == 91)) _ _ (λ h. (tt, c)) (λ h.
        tested Q (b == 123) _ _ (λ h. (tt, c)) (λ h.
        tested Q ((b == 41) || (b == 93) || (b == 125)) _ _ (λ h. (tt, c)) (λ h.
        tested Q (b == 59) _ _ (λ h. (eqb-true b 59 h, c)) (λ h.
        tested Q (b == 58) _ _ (λ h. (tt, c)) (λ h.
        tested Q (b == 92) _ _ (λ h. (tt, c)) (λ h.
        tested Q (is_digit b || (b == 95)) _ _ (λ h. (tt, c)) (λ h. (tt, c))))))))))
