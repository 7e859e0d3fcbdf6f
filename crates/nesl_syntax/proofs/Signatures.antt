-- A function's head, as it is read.
use Rattle.std.proofs.Common.{◌≡◌, List, [], ◌∷◌, ◌++◌, Option, Some, None, refl, ap, sym, subst, ◌∙◌}
use Rattle.nesl_lex.specs.Tokens.{Placed, Lexeme, symbol}
use Rattle.nesl_lex.specs.declared.token.Span.{Span}
use Rattle.nesl_lex.specs.declared.token.Word.TheVariants as word
use Rattle.nesl_lex.specs.declared.token.Sign.TheVariants as sign
use Rattle.nesl_syntax.specs.declared.cut.Divider.TheVariants as divider
use Rattle.nesl_syntax_tree.specs.Trees.{PatternTree, TypeTree, MemberTree, SignatureTree}
use Rattle.nesl_syntax_tree.specs.Grammar.{sign_at, word_at, name_at, IsType}
use Rattle.nesl_syntax_open.specs.Machine.{written_type}
use Rattle.nesl_syntax_tree.specs.Lines.{class_text, AreMembers, one_member, more_members, IsSignature, plain_signature, signature_of_members, IsHead, plain_head, signed_head}
use Rattle.nesl_syntax.specs.Reading.{Halves, cut, pattern_read, bracketed_with, bracketed_in, Targets, target, bare_target, target_with, target_in, signature_of, signature_with, signature_in, Heads, head, bare_head, head_with, head_in}
use Rattle.nesl_syntax_open.proofs.Complete.{reads_type, reads_pattern}
use Rattle.nesl_syntax.proofs.Sound.{is_type_read, is_pattern_read}
use Rattle.nesl_syntax.proofs.Cuts.{cut_here, uncut_both, uncut_next, cut_whole, pattern_uncut, type_uncut}
use Rattle.nesl_syntax.proofs.Members.{both_parts, mapped, members_read, members_are}

-- a type, and the members after it
pub data IsTarget : List Placed → Targets → Type 0 where
  plain_target : {vs : List Placed} {b : TypeTree} → IsType vs b → IsTarget vs (b, [])
  target_of_members : {vs ws : List Placed} {b : TypeTree} {ms : List MemberTree} (d t u : Span) → IsType vs b → AreMembers ws ms
      → IsTarget (vs ++ (sign_at sign.DoubleColon d ∷ (sign_at sign.OpenParenthesis t ∷ (ws ++ (sign_at sign.CloseParenthesis u ∷ []))))) (b, ms)

target_read : {vs : List Placed} {r : Targets} → IsTarget vs r → target_in vs ≡ Some r
target_read (plain_target i) = rw (type_uncut divider.DoubleColon i, reads_type i) refl
target_read (target_of_members {vs = vs} {ws = ws} d t u i p) =
    let e = cut_here divider.DoubleColon vs (sign_at sign.OpenParenthesis t ∷ (ws ++ sign_at sign.CloseParenthesis u ∷ [])) (sign_at sign.DoubleColon d) (type_uncut divider.DoubleColon i) refl in
    rw (e, reads_type i, members_read p u) refl

signature_read_with : {us vs : List Placed} {a : TypeTree} {r : Targets} (s : Span) → IsType us a → IsTarget vs r → signature_in (us ++ (sign_at sign.RightArrow s ∷ vs)) ≡ Some (signature_of a r)
signature_read_with {us = us} {vs = vs} s i t =
    let e = cut_here divider.RightArrow us vs (sign_at sign.RightArrow s) (type_uncut divider.RightArrow i) refl in
    rw (e, reads_type i, target_read t) refl

pub signature_read : {us : List Placed} {s : SignatureTree} → IsSignature us s → signature_in us ≡ Some s
signature_read (plain_signature s i j) = signature_read_with s i (plain_target j)
signature_read (signature_of_members s d t u i j p) = signature_read_with s i (target_of_members d t u j p)

pub head_read : {us : List Placed} {p : PatternTree} {s : Option SignatureTree} → IsHead us p s → head_in us ≡ Some (p, s)
head_read (plain_head i) = rw (pattern_uncut divider.Colon i, reads_pattern i) refl
head_read (signed_head {us = us} {vs = vs} c i q) =
    let e = cut_here divider.Colon us vs (sign_at sign.Colon c) (pattern_uncut divider.Colon i) refl in
    rw (e, reads_pattern i, signature_read q) refl

-- no head has a =
members_uncut : {us : List Placed} {ms : List MemberTree} → AreMembers us ms → cut divider.Equal us ≡ None
members_uncut (one_member m s t u) = refl
members_uncut (more_members {us = us} m s t u c p) = uncut_both divider.Equal (name_at m.name s ∷ (word_at word.In t ∷ (name_at (class_text m.class) u ∷ []))) (sign_at sign.Semicolon c ∷ us) refl (uncut_next divider.Equal (sign_at sign.Semicolon c) us refl (members_uncut p))

target_uncut : {us : List Placed} {r : Targets} → IsTarget us r → cut divider.Equal us ≡ None
target_uncut (plain_target i) = type_uncut divider.Equal i
target_uncut (target_of_members {vs = vs} {ws = ws} d t u i p) =
    let close : List Placed = sign_at sign.CloseParenthesis u ∷ [] in
    let inner : cut divider.Equal (ws ++ close) ≡ None = uncut_both divider.Equal ws close (members_uncut p) refl in
    uncut_both divider.Equal vs (sign_at sign.DoubleColon d ∷ (sign_at sign.OpenParenthesis t ∷ (ws ++ close))) (type_uncut divider.Equal i) (uncut_next divider.Equal (sign_at sign.DoubleColon d) (sign_at sign.OpenParenthesis t ∷ (ws ++ close)) refl (uncut_next divider.Equal (sign_at sign.OpenParenthesis t) (ws ++ close) refl inner))

signature_uncut_with : {us vs : List Placed} {a : TypeTree} {r : Targets} (s : Span) → IsType us a → IsTarget vs r → cut divider.Equal (us ++ (sign_at sign.RightArrow s ∷ vs)) ≡ None
signature_uncut_with {us = us} {vs = vs} s i t = uncut_both divider.Equal us (sign_at sign.RightArrow s ∷ vs) (type_uncut divider.Equal i) (uncut_next divider.Equal (sign_at sign.RightArrow s) vs refl (target_uncut t))

signature_uncut : {us : List Placed} {s : SignatureTree} → IsSignature us s → cut divider.Equal us ≡ None
signature_uncut (plain_signature s i j) = signature_uncut_with s i (plain_target j)
signature_uncut (signature_of_members s d t u i j p) = signature_uncut_with s i (target_of_members d t u j p)

pub head_uncut : {us : List Placed} {p : PatternTree} {s : Option SignatureTree} → IsHead us p s → cut divider.Equal us ≡ None
head_uncut (plain_head i) = pattern_uncut divider.Equal i
head_uncut (signed_head {us = us} {vs = vs} c i q) = uncut_both divider.Equal us (sign_at sign.Colon c ∷ vs) (pattern_uncut divider.Equal i) (uncut_next divider.Equal (sign_at sign.Colon c) vs refl (signature_uncut q))

-- what is read is so
pub record BracketsOf (ts : List Placed) (ms : List MemberTree) : Type 0 where
  pub opens : Span
  pub closes : Span
  pub front : List Placed
  pub whole : ts ≡ sign_at sign.OpenParenthesis opens ∷ (front ++ sign_at sign.CloseParenthesis closes ∷ [])
  pub are : AreMembers front ms

bracketed_as : (x : Lexeme) (s : Span) (ts : List Placed) (ms : List MemberTree) → bracketed_with x ts ≡ Some ms → BracketsOf (record { lexeme = x; span = s } ∷ ts) ms
bracketed_as (symbol sign.OpenParenthesis) s ts ms h =
    let m = members_are ts ms h in
    record { opens = s; closes = m.at; front = m.front; whole = ap (λ (us : List Placed). sign_at sign.OpenParenthesis s ∷ us) m.whole; are = m.are }
bracketed_as _ s ts ms h = cc

bracketed_is : (ts : List Placed) (ms : List MemberTree) → bracketed_in ts ≡ Some ms → BracketsOf ts ms
bracketed_is [] ms h = cc
bracketed_is (t ∷ ts) ms h = bracketed_as t.lexeme t.span ts ms h

target_as : (ts : List Placed) (r : Targets) (o : Option Halves) → cut divider.DoubleColon ts ≡ o → target_with ts o ≡ Some r → IsTarget ts r
target_as ts r None e h =
    let m = mapped bare_target (written_type ts) r h in
    subst (λ (x : Targets). IsTarget ts x) m.2 (plain_target (is_type_read ts m.0 m.1))
target_as ts r (Some c) e h =
    let b = both_parts target (written_type c.0) (bracketed_in c.1) r h in
    let w = cut_whole divider.DoubleColon ts c.0 c.1 e in
    let i = is_type_read c.0 b.left b.is_left in
    let k = bracketed_is c.1 b.right b.is_right in
    let whole : ts ≡ c.0 ++ sign_at sign.DoubleColon w.at ∷ (sign_at sign.OpenParenthesis k.opens ∷ (k.front ++ sign_at sign.CloseParenthesis k.closes ∷ [])) = w.whole ∙ ap (λ (us : List Placed). c.0 ++ sign_at sign.DoubleColon w.at ∷ us) k.whole in
    subst (λ (us : List Placed). IsTarget us r) (sym whole) (subst (λ (x : Targets). IsTarget (c.0 ++ sign_at sign.DoubleColon w.at ∷ (sign_at sign.OpenParenthesis k.opens ∷ (k.front ++ sign_at sign.CloseParenthesis k.closes ∷ []))) x) b.is (target_of_members w.at k.opens k.closes i k.are))

signed_with : {us vs : List Placed} {a : TypeTree} {r : Targets} (s : Span) → IsType us a → IsTarget vs r → IsSignature (us ++ (sign_at sign.RightArrow s ∷ vs)) (signature_of a r)
signed_with s i (plain_target j) = plain_signature s i j
signed_with s i (target_of_members d t u j p) = signature_of_members s d t u i j p

signature_as : (ts : List Placed) (s : SignatureTree) (o : Option Halves) → cut divider.RightArrow ts ≡ o → signature_with o ≡ Some s → IsSignature ts s
signature_as ts s None e h = cc
signature_as ts s (Some c) e h =
    let b = both_parts signature_of (written_type c.0) (target_in c.1) s h in
    let w = cut_whole divider.RightArrow ts c.0 c.1 e in
    let i = is_type_read c.0 b.left b.is_left in
    let t = target_as c.1 b.right (cut divider.DoubleColon c.1) refl b.is_right in
    subst (λ (us : List Placed). IsSignature us s) (sym w.whole) (subst (λ (x : SignatureTree). IsSignature (c.0 ++ (sign_at sign.RightArrow w.at ∷ c.1)) x) b.is (signed_with w.at i t))

head_as : (ts : List Placed) (h : Heads) (o : Option Halves) → cut divider.Colon ts ≡ o → head_with ts o ≡ Some h → IsHead ts h.0 h.1
head_as ts h None e k =
    let m = mapped bare_head (pattern_read ts) h k in
    subst (λ (x : Heads). IsHead ts x.0 x.1) m.2 (plain_head (is_pattern_read ts m.0 m.1))
head_as ts h (Some c) e k =
    let b = both_parts head (pattern_read c.0) (signature_in c.1) h k in
    let w = cut_whole divider.Colon ts c.0 c.1 e in
    let i = is_pattern_read c.0 b.left b.is_left in
    let q = signature_as c.1 b.right (cut divider.RightArrow c.1) refl b.is_right in
    subst (λ (us : List Placed). IsHead us h.0 h.1) (sym w.whole) (subst (λ (x : Heads). IsHead (c.0 ++ (sign_at sign.Colon w.at ∷ c.1)) x.0 x.1) b.is (signed_head w.at i q))

pub head_is : (ts : List Placed) (h : Heads) → head_in ts ≡ Some h → IsHead ts h.0 h.1
head_is ts h k = head_as ts h (cut divider.Colon ts) refl k
