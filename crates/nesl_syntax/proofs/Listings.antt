-- The turns of the loop that reads the members of a signature.
use Rattle.std.proofs.Common.{◌≡◌, ◌-◌, ◌≤◌, length, take, drop, get_or, List, [], ◌∷◌, ◌++◌, map, Option, Some, None, Ok, Err, Vec, Global, refl, ap, sym, ◌∙◌, arith}
use Rattle.std.specs.Option.{option_map}
use Rattle.std.proofs.lemmas.List.{map-append, append_assoc, take_rest}
use Rattle.nesl_lex.specs.Tokens.{Placed, placed, placed_of}
use Rattle.nesl_lex.specs.declared.token.Token.{Token}
use Rattle.nesl_syntax_open.specs.declared.fault.ParseFault.{ParseFault}
use Rattle.nesl_syntax_open.specs.declared.fault.ParseFault.TheVariants.{Syntax, Nested, Memory}
use Rattle.nesl_syntax.specs.declared.signature.MemberEnd.{MemberEnd}
use Rattle.nesl_syntax.specs.declared.signature.MemberEnd.TheVariants as end
use Rattle.nesl_syntax_tree.specs.declared.tree.Member.{Member}
use Rattle.nesl_syntax_tree.specs.Trees.{MemberTree}
use Rattle.nesl_syntax_tree.specs.Views.{member_tree}
use Rattle.nesl_syntax.specs.Reading.{with_both, more_of, member_of, behind_of, members_with, members_in}
use Rattle.nesl_syntax.specs.Given.{Given, SeesMember, SeesMembers, behind_members, Listing}

-- four tokens, and those after them
pub record Four (ts : List Token) (a b c d : Token) : Type 0 where
  pub is_a : a ≡ get_or ts 0 a
  pub is_b : b ≡ get_or ts 1 b
  pub is_c : c ≡ get_or ts 2 c
  pub is_d : d ≡ get_or ts 3 d
  pub enough : 4 ≤ length ts

abbrev pub behind_four : List Token → List Placed
behind_four ts = placed (take (length ts - 4) (drop 4 ts))

four_placed : (ts : List Token) (a b c d : Token) → Four ts a b c d → placed ts ≡ placed_of a ∷ placed_of b ∷ placed_of c ∷ placed_of d ∷ behind_four ts
four_placed [] a b c d f = absurd (omega (arith, f.enough))
four_placed (x ∷ []) a b c d f = absurd (omega (arith, f.enough))
four_placed (x ∷ y ∷ []) a b c d f = absurd (omega (arith, f.enough))
four_placed (x ∷ y ∷ z ∷ []) a b c d f = absurd (omega (arith, f.enough))
four_placed (x ∷ y ∷ z ∷ w ∷ ts) a b c d f =
    let p = f.is_a in
    let q = f.is_b in
    let r = f.is_c in
    let s = f.is_d in
    let e = ap placed (take_rest (x ∷ y ∷ z ∷ w ∷ ts) 4) in
    cc

-- what the members from here on are read as
four_read : (ts : List Token) (a b c d : Token) (k : MemberEnd) → Four ts a b c d → k ≡ behind_of (placed_of d).lexeme (behind_four ts) → members_in (placed ts) ≡ members_with k (member_of (placed_of a).lexeme (placed_of b).lexeme (placed_of c).lexeme) (members_in (behind_four ts))
four_read ts a b c d k f h = ap members_in (four_placed ts a b c d f) ∙ ap (λ (x : MemberEnd). members_with x (member_of (placed_of a).lexeme (placed_of b).lexeme (placed_of c).lexeme) (members_in (behind_four ts))) (sym h)

given_member : (m : Member) (o : Option MemberTree) → Given SeesMember (Ok m) o → o ≡ Some (member_tree m)
given_member m (Some t) h = ap (λ (x : MemberTree). Some x) (sym h)
given_member m None h = absurd h

behind_one : (ms : List Member) (m : Member) (o : Option (List MemberTree)) → option_map (behind_members (map member_tree ms)) (with_both more_of (Some (member_tree m)) o) ≡ option_map (behind_members (map member_tree (ms ++ m ∷ []))) o
behind_one ms m None = refl
behind_one ms m (Some xs) = ap (λ (x : List MemberTree). Some x) (simp (map-append, append_assoc))

-- one more member, and a ; after it
pub listed_more : (ms : List Member) (m : Member) (ts : List Token) (all : List Placed) (a b c d : Token) → Listing ms (placed ts) all → Four ts a b c d → Given SeesMember (Ok m) (member_of (placed_of a).lexeme (placed_of b).lexeme (placed_of c).lexeme)
    → end.Semicolon ≡ behind_of (placed_of d).lexeme (behind_four ts) → Listing (ms ++ m ∷ []) (behind_four ts) all
listed_more ms m ts all a b c d l f g h =
    let e = four_read ts a b c d end.Semicolon f h ∙ ap (λ (o : Option MemberTree). with_both more_of o (members_in (behind_four ts))) (given_member m _ g) in
    record { same = l.same ∙ ap (option_map (behind_members (map member_tree ms))) e ∙ behind_one ms m (members_in (behind_four ts)) }

-- the last one, and a ) after it
pub listed_last : (ms : List Member) (m : Member) (v : Vec Member Global) (ts : List Token) (all : List Placed) (a b c d : Token) → Listing ms (placed ts) all → Four ts a b c d → Given SeesMember (Ok m) (member_of (placed_of a).lexeme (placed_of b).lexeme (placed_of c).lexeme)
    → end.Close ≡ behind_of (placed_of d).lexeme (behind_four ts) → v.items ≡ ms ++ m ∷ [] → Given (λ (w : Vec Member Global). SeesMembers w.items) (Ok v) (members_in all)
listed_last ms m v ts all a b c d l f g h k =
    let e : members_in (placed ts) ≡ Some (member_tree m ∷ []) = four_read ts a b c d end.Close f h ∙ ap (λ (o : Option MemberTree). members_with end.Close o (members_in (behind_four ts))) (given_member m _ g) in
    let j : members_in all ≡ Some (map member_tree ms ++ member_tree m ∷ []) = l.same ∙ ap (option_map (behind_members (map member_tree ms))) e in
    rw j (ap (map member_tree) k ∙ map-append member_tree ms (m ∷ []))

-- something else after one
pub listed_wrong : (ms : List Member) (ts : List Token) (all : List Placed) (a b c d : Token) → Listing ms (placed ts) all → Four ts a b c d → end.Other ≡ behind_of (placed_of d).lexeme (behind_four ts) → members_in all ≡ None
listed_wrong ms ts all a b c d l f h = l.same ∙ ap (option_map (behind_members (map member_tree ms))) (four_read ts a b c d end.Other f h)

no_member : (k : MemberEnd) (o : Option (List MemberTree)) → members_with k None o ≡ None
no_member end.Close o = refl
no_member end.Semicolon o = refl
no_member end.Other o = refl

-- no member
pub listed_none : (ms : List Member) (e : ParseFault) (ts : List Token) (all : List Placed) (a b c d : Token) → Listing ms (placed ts) all → Four ts a b c d → Given SeesMember (Err e) (member_of (placed_of a).lexeme (placed_of b).lexeme (placed_of c).lexeme)
    → Given (λ (w : Vec Member Global). SeesMembers w.items) (Err e) (members_in all)
listed_none ms Syntax ts all a b c d l f g =
    let k = behind_of (placed_of d).lexeme (behind_four ts) in
    l.same ∙ ap (option_map (behind_members (map member_tree ms))) (four_read ts a b c d k f refl ∙ ap (λ (o : Option MemberTree). members_with k o (members_in (behind_four ts))) g ∙ no_member k (members_in (behind_four ts)))
listed_none ms Nested ts all a b c d l f g = absurd g
listed_none ms Memory ts all a b c d l f g = tt
