-- The members of a signature, as they are read.
use Rattle.std.proofs.Common.{◌≡◌, ℕ, ◌<◌, length, arith, List, [], ◌∷◌, ◌++◌, Option, Some, None, refl, ap, subst, ◌∙◌}
use Rattle.std.specs.Option.{option_map}
use Rattle.nesl_lex.specs.Tokens.{Placed, Lexeme, reserved, symbol, placed}
use Rattle.nesl_lex.specs.declared.token.Token.{Token}
use Rattle.nesl_lex.specs.Tokens as tokens
use Rattle.nesl_lex.specs.declared.token.Span.{Span}
use Rattle.nesl_lex.specs.declared.token.Word.TheVariants as word
use Rattle.nesl_lex.specs.declared.token.Sign.TheVariants as sign
use Rattle.nesl_syntax.specs.declared.signature.MemberEnd.{MemberEnd}
use Rattle.nesl_syntax.specs.declared.signature.MemberEnd.TheVariants as end
use Rattle.nesl_syntax_tree.specs.Trees.{MemberTree}
use Rattle.nesl_syntax_tree.specs.Grammar.{sign_at}
use Rattle.nesl_syntax_tree.specs.Lines.{class_text, member_tokens, AreMembers, one_member, more_members}
use Rattle.nesl_syntax.specs.Reading.{with_both, class_of, member_with, member_named, member_of, behind_of, members_with, members_in}
use Rattle.nesl_syntax.proofs.Texts.{class_text_read, class_is}

-- the parts of a value that there is only where both parts are
pub record BothOf {A B C : Type 0} (f : A → B → C) (x : Option A) (y : Option B) (z : C) : Type 0 where
  pub left : A
  pub right : B
  pub is_left : x ≡ Some left
  pub is_right : y ≡ Some right
  pub is : f left right ≡ z

pub both_parts : {A B C : Type 0} (f : A → B → C) (x : Option A) (y : Option B) (z : C) → with_both f x y ≡ Some z → BothOf f x y z
both_parts f (Some a) (Some b) z h = record { left = a; right = b; is_left = refl; is_right = refl; is = cc }
both_parts f (Some a) None z h = cc
both_parts f None y z h = cc

pub mapped : {A B : Type 0} (f : A → B) (o : Option A) (y : B) → option_map f o ≡ Some y → (x : A) × (o ≡ Some x) × (f x ≡ y)
mapped f None y h = cc
mapped f (Some x) y h = (x, refl, cc)

-- the tokens of members, and a ) after them, are read as the members
pub members_read : {us : List Placed} {ms : List MemberTree} → AreMembers us ms → (t : Span) → members_in (us ++ sign_at sign.CloseParenthesis t ∷ []) ≡ Some ms
members_read (one_member m s i u) t = rw (class_text_read m.class) refl
members_read (more_members m s i u c p) t = rw (class_text_read m.class, members_read p t) refl

-- the tokens of a member
pub record MemberOf (x y z : Lexeme) (m : MemberTree) : Type 0 where
  pub names : x ≡ tokens.name m.name
  pub is_in : y ≡ reserved word.In
  pub classes : z ≡ tokens.name (class_text m.class)

named_is : (x z : Lexeme) (m : MemberTree) → member_named x z ≡ Some m → MemberOf x (reserved word.In) z m
named_is (tokens.name x) (tokens.name y) m h =
    let p = mapped (member_with x) (class_of y) m h in
    let e : x ≡ m.name = ap (λ (n : MemberTree). n.name) p.2 in
    let f : p.0 ≡ m.class = ap (λ (n : MemberTree). n.class) p.2 in
    record { names = ap (λ (n : List ℕ). tokens.name n) e; is_in = refl; classes = ap (λ (n : List ℕ). tokens.name n) (class_is y p.0 p.1 ∙ ap class_text f) }
named_is _ _ m h = cc

member_is : (x y z : Lexeme) (m : MemberTree) → member_of x y z ≡ Some m → MemberOf x y z m
member_is x (reserved word.In) z m h = named_is x z m h
member_is x _ z m h = cc

close_is : (x : Lexeme) (ts : List Placed) → behind_of x ts ≡ end.Close → (x ≡ symbol sign.CloseParenthesis) × (ts ≡ [])
close_is (symbol sign.CloseParenthesis) [] h = (refl, refl)
close_is (symbol sign.CloseParenthesis) (t ∷ ts) h = cc
close_is (symbol sign.Semicolon) ts h = cc
close_is _ ts h = cc

semicolon_is : (x : Lexeme) (ts : List Placed) → behind_of x ts ≡ end.Semicolon → x ≡ symbol sign.Semicolon
semicolon_is (symbol sign.CloseParenthesis) [] h = cc
semicolon_is (symbol sign.CloseParenthesis) (t ∷ ts) h = cc
semicolon_is (symbol sign.Semicolon) ts h = refl
semicolon_is _ ts h = cc

-- members and a )
pub record MembersOf (ts : List Placed) (ms : List MemberTree) : Type 0 where
  pub front : List Placed
  pub at : Span
  pub whole : ts ≡ front ++ sign_at sign.CloseParenthesis at ∷ []
  pub are : AreMembers front ms

token_is : (t : Placed) (x : Lexeme) → t.lexeme ≡ x → t ≡ record { lexeme = x; span = t.span }
token_is t x e = ap (λ (y : Lexeme). record { lexeme = y; span = t.span }) e

by_behind : (n i k e : Placed) (ts : List Placed) (ms : List MemberTree) (b : MemberEnd) (o : Option MemberTree) (os : Option (List MemberTree))
    → behind_of e.lexeme ts ≡ b → member_of n.lexeme i.lexeme k.lexeme ≡ o → ((xs : List MemberTree) → os ≡ Some xs → MembersOf ts xs) → members_with b o os ≡ Some ms → MembersOf (n ∷ i ∷ k ∷ e ∷ ts) ms
by_behind n i k e ts ms end.Close (Some m) os f g r h =
    let p = member_is n.lexeme i.lexeme k.lexeme m g in
    let z = close_is e.lexeme ts f in
    let a = token_is n _ p.names in
    let b = token_is i _ p.is_in in
    let c = token_is k _ p.classes in
    let d = token_is e _ z.0 in
    let y = z.1 in
    let q : m ∷ [] ≡ ms = cc in
    record { front = member_tokens m n.span i.span k.span; at = e.span; whole = cc; are = subst (λ (x : List MemberTree). AreMembers (member_tokens m n.span i.span k.span) x) q (one_member m n.span i.span k.span) }
by_behind n i k e ts ms end.Semicolon (Some m) (Some xs) f g r h =
    let p = member_is n.lexeme i.lexeme k.lexeme m g in
    let w = r xs refl in
    let a = token_is n _ p.names in
    let b = token_is i _ p.is_in in
    let c = token_is k _ p.classes in
    let d = token_is e _ (semicolon_is e.lexeme ts f) in
    let v = w.whole in
    let q : m ∷ xs ≡ ms = cc in
    record { front = member_tokens m n.span i.span k.span ++ sign_at sign.Semicolon e.span ∷ w.front; at = w.at; whole = cc; are = subst (λ (x : List MemberTree). AreMembers (member_tokens m n.span i.span k.span ++ sign_at sign.Semicolon e.span ∷ w.front) x) q (more_members m n.span i.span k.span e.span w.are) }
by_behind n i k e ts ms end.Close None os f g r h = cc
by_behind n i k e ts ms end.Semicolon None os f g r h = cc
by_behind n i k e ts ms end.Semicolon (Some m) None f g r h = cc
by_behind n i k e ts ms end.Other o os f g r h = cc

pub members_are : (ts : List Placed) (ms : List MemberTree) → members_in ts ≡ Some ms → MembersOf ts ms
members_are (n ∷ i ∷ k ∷ e ∷ ts) ms h = by_behind n i k e ts ms (behind_of e.lexeme ts) (member_of n.lexeme i.lexeme k.lexeme) (members_in ts) refl refl (λ xs j. members_are ts xs j) h
members_are _ ms h = cc

-- too few tokens
pub few_members : (ts : List Token) → length ts < 4 → members_in (placed ts) ≡ None
few_members [] h = refl
few_members (a ∷ []) h = refl
few_members (a ∷ b ∷ []) h = refl
few_members (a ∷ b ∷ c ∷ []) h = refl
few_members (a ∷ b ∷ c ∷ d ∷ ts) h = absurd (omega arith)
