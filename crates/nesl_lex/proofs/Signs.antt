-- The longest sign at the front.
use Rattle.std.proofs.Common.{◌≡◌, ℕ, ◌≤◌, List, [], ◌∷◌, ◌++◌, length, Option, Some, None, refl, ap, sym, subst, ◌∙◌, arith}
use Rattle.std.proofs.lemmas.Bool.Decides.{nat_tests}
use Rattle.nesl_lex.specs.declared.token.Sign.{Sign}
use Rattle.nesl_lex.specs.declared.token.Sign.TheVariants as sign
use Rattle.nesl_lex.specs.declared.scan.Start.TheVariants as start
use Rattle.nesl_lex.specs.Lexemes.{sign_text}
use Rattle.nesl_lex.specs.Scan.{start_of, single, double, first_of, sign_in}

-- a sign's bytes, and that they are read as the sign
pub data SignBytes : Sign → Type 0 where
  one : {s : Sign} (b : ℕ) → sign_text s ≡ b ∷ [] → start_of b ≡ start.Other → single b ≡ Some s → SignBytes s
  two : {s : Sign} (b c : ℕ) → sign_text s ≡ b ∷ c ∷ [] → start_of b ≡ start.Other → double b c ≡ Some s → SignBytes s

pub bytes_of : (s : Sign) → SignBytes s
bytes_of sign.OpenParenthesis = one 40 refl refl refl
bytes_of sign.CloseParenthesis = one 41 refl refl refl
bytes_of sign.OpenBracket = one 91 refl refl refl
bytes_of sign.CloseBracket = one 93 refl refl refl
bytes_of sign.OpenBrace = one 123 refl refl refl
bytes_of sign.CloseBrace = one 125 refl refl refl
bytes_of sign.Comma = one 44 refl refl refl
bytes_of sign.Semicolon = one 59 refl refl refl
bytes_of sign.Colon = one 58 refl refl refl
bytes_of sign.DoubleColon = two 58 58 refl refl refl
bytes_of sign.Bar = one 124 refl refl refl
bytes_of sign.Equal = one 61 refl refl refl
bytes_of sign.DoubleEqual = two 61 61 refl refl refl
bytes_of sign.NotEqual = two 47 61 refl refl refl
bytes_of sign.Less = one 60 refl refl refl
bytes_of sign.Greater = one 62 refl refl refl
bytes_of sign.LessOrEqual = two 60 61 refl refl refl
bytes_of sign.GreaterOrEqual = two 62 61 refl refl refl
bytes_of sign.Plus = one 43 refl refl refl
bytes_of sign.DoublePlus = two 43 43 refl refl refl
bytes_of sign.Minus = one 45 refl refl refl
bytes_of sign.LeftArrow = two 60 45 refl refl refl
bytes_of sign.RightArrow = two 45 62 refl refl refl
bytes_of sign.Star = one 42 refl refl refl
bytes_of sign.Slash = one 47 refl refl refl
bytes_of sign.Hash = one 35 refl refl refl

pub single_text : (b : ℕ) (s : Sign) → single b ≡ Some s → sign_text s ≡ b ∷ []
single_text b s h = grind (arith, nat_tests)

pub double_text : (b c : ℕ) (s : Sign) → double b c ≡ Some s → sign_text s ≡ b ∷ c ∷ []
double_text b c s h = grind (arith, nat_tests)

read_of : (s : Sign) → SignBytes s → sign_in (sign_text s) ≡ Some s
read_of s (one b t k r) = ap sign_in t ∙ r
read_of s (two b c t k r) = ap sign_in t ∙ rw r refl

-- a sign's own text is read as the sign
pub sign_read : (s : Sign) → sign_in (sign_text s) ≡ Some s
sign_read s = read_of s (bytes_of s)

start_from : (s : Sign) → SignBytes s → (back : List ℕ) (b : ℕ) (bs : List ℕ) → sign_text s ++ back ≡ b ∷ bs → start_of b ≡ start.Other
start_from s (one c t k r) back b bs h = let f : c ∷ back ≡ b ∷ bs = ap (λ (us : List ℕ). us ++ back) (sym t) ∙ h in let e : c ≡ b = cc in subst (λ (x : ℕ). start_of x ≡ start.Other) e k
start_from s (two c d t k r) back b bs h = let f : c ∷ d ∷ back ≡ b ∷ bs = ap (λ (us : List ℕ). us ++ back) (sym t) ∙ h in let e : c ≡ b = cc in subst (λ (x : ℕ). start_of x ≡ start.Other) e k

-- a sign's first byte begins only signs
pub sign_start : (s : Sign) (back : List ℕ) (b : ℕ) (bs : List ℕ) → sign_text s ++ back ≡ b ∷ bs → start_of b ≡ start.Other
sign_start s = start_from s (bytes_of s)

-- a sign at the front of one byte, or of more
pub data Fronts (s : Sign) (b : ℕ) (bs : List ℕ) : Type 0 where
  by_one : sign_text s ≡ b ∷ [] → single b ≡ Some s → Fronts s b bs
  by_two : (c : ℕ) (cs : List ℕ) → bs ≡ c ∷ cs → sign_text s ≡ b ∷ c ∷ [] → double b c ≡ Some s → Fronts s b bs

fronts_from : (s : Sign) → SignBytes s → (back : List ℕ) (b : ℕ) (bs : List ℕ) → sign_text s ++ back ≡ b ∷ bs → Fronts s b bs
fronts_from s (one c t k r) back b bs h =
    let f : c ∷ back ≡ b ∷ bs = ap (λ (us : List ℕ). us ++ back) (sym t) ∙ h in
    let e : c ≡ b = cc in
    by_one (t ∙ ap (λ (x : ℕ). x ∷ []) e) (subst (λ (x : ℕ). single x ≡ Some s) e r)
fronts_from s (two c d t k r) back b bs h =
    let f : c ∷ d ∷ back ≡ b ∷ bs = ap (λ (us : List ℕ). us ++ back) (sym t) ∙ h in
    let e : c ≡ b = cc in
    let g : bs ≡ d ∷ back = cc in
    by_two d back g (t ∙ ap (λ (x : ℕ). x ∷ d ∷ []) e) (subst (λ (x : ℕ). double x d ≡ Some s) e r)

pub fronts_of : (s : Sign) (back : List ℕ) (b : ℕ) (bs : List ℕ) → sign_text s ++ back ≡ b ∷ bs → Fronts s b bs
fronts_of s = fronts_from s (bytes_of s)

-- the sign that is read is at the front, and no longer one is
pub record SignFront (bytes : List ℕ) (s : Sign) : Type 0 where
  pub rest : List ℕ
  pub whole : bytes ≡ sign_text s ++ rest
  pub longest : (g : Sign) (back : List ℕ) → sign_text g ++ back ≡ bytes → length (sign_text g) ≤ length (sign_text s)

le_one : (g s : Sign) (b : ℕ) (bs : List ℕ) → sign_text s ≡ b ∷ [] → ((c : ℕ) (cs : List ℕ) → bs ≡ c ∷ cs → double b c ≡ None) → Fronts g b bs → length (sign_text g) ≤ length (sign_text s)
le_one g s b bs t n (by_one h r) = omega (arith, ap length t, ap length h)
le_one g s b bs t n (by_two c cs e h r) = let f = n c cs e in absurd (some_none f r)
  where
    some_none : {x : Option Sign} → x ≡ None → x ≡ Some g → ⊥
    some_none p q = cc

single_front : (b : ℕ) (bs : List ℕ) (s : Sign) → single b ≡ Some s → ((c : ℕ) (cs : List ℕ) → bs ≡ c ∷ cs → double b c ≡ None) → SignFront (b ∷ bs) s
single_front b bs s h n =
    let t = single_text b s h in
    record {
      rest = bs;
      whole = ap (λ (us : List ℕ). us ++ bs) (sym t);
      longest = λ g back k. le_one g s b bs t n (fronts_of g back b bs k);
    }

le_two : (g : Sign) → SignBytes g → length (sign_text g) ≤ 2
le_two g (one b t k r) = omega (arith, ap length t)
le_two g (two b c t k r) = omega (arith, ap length t)

double_front : (b c : ℕ) (cs : List ℕ) (s : Sign) → double b c ≡ Some s → SignFront (b ∷ c ∷ cs) s
double_front b c cs s h =
    let t = double_text b c s h in
    record {
      rest = cs;
      whole = ap (λ (us : List ℕ). us ++ cs) (sym t);
      longest = λ g back k. omega (arith, le_two g (bytes_of g), ap length t);
    }

either_front : (b c : ℕ) (cs : List ℕ) (s : Sign) (r : Option Sign) → double b c ≡ r → first_of r (single b) ≡ Some s → SignFront (b ∷ c ∷ cs) s
either_front b c cs s (Some t) k h = let e : t ≡ s = cc in double_front b c cs s (k ∙ ap (λ (x : Sign). Some x) e)
either_front b c cs s None k h = single_front b (c ∷ cs) s h (λ d ds e. let f : c ≡ d = cc in subst (λ (x : ℕ). double b x ≡ None) f k)

pub sign_front : (bytes : List ℕ) (s : Sign) → sign_in bytes ≡ Some s → SignFront bytes s
sign_front [] s h = cc
sign_front (b ∷ []) s h = single_front b [] s h (λ c cs e. cc)
sign_front (b ∷ c ∷ cs) s h = either_front b c cs s (double b c) refl h

none_single : (b : ℕ) (bs : List ℕ) (s : Sign) → single b ≡ None → ((c : ℕ) (cs : List ℕ) → bs ≡ c ∷ cs → double b c ≡ None) → Fronts s b bs → ⊥
none_single b bs s h n (by_one t r) = cc
none_single b bs s h n (by_two c cs e t r) = let f = n c cs e in cc

none_either : (b c : ℕ) (cs : List ℕ) (s : Sign) (r : Option Sign) → double b c ≡ r → first_of r (single b) ≡ None → Fronts s b (c ∷ cs) → ⊥
none_either b c cs s (Some t) k h f = cc
none_either b c cs s None k h f = none_single b (c ∷ cs) s h (λ d ds e. let g : c ≡ d = cc in subst (λ (x : ℕ). double b x ≡ None) g k) f

-- where no sign is read there is none
pub sign_none : (b : ℕ) (bs : List ℕ) → sign_in (b ∷ bs) ≡ None → (s : Sign) (back : List ℕ) → sign_text s ++ back ≡ b ∷ bs → ⊥
sign_none b [] h s back e = none_single b [] s h (λ c cs k. cc) (fronts_of s back b [] e)
sign_none b (c ∷ cs) h s back e = none_either b c cs s (double b c) refl h (fronts_of s back b (c ∷ cs) e)
