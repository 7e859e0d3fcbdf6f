-- The forms of lines: which tokens are which line, a case for each production. They are this profile's.
use Rattle.std.specs.Prelude.{ℕ, List, [], ◌∷◌, ◌++◌, Option, Some, None, codes}
use Rattle.nesl_lex.specs.Tokens.{Placed}
use Rattle.nesl_lex.specs.declared.token.Span.{Span}
use Rattle.nesl_lex.specs.declared.token.Word.TheVariants as word
use Rattle.nesl_lex.specs.declared.token.Sign.TheVariants as sign
use Rattle.nesl_syntax_tree.specs.declared.tree.Class.{Class}
use Rattle.nesl_syntax_tree.specs.declared.tree.Class.TheVariants as class
use Rattle.nesl_syntax_tree.specs.Trees.{Tree, PatternTree, TypeTree, MemberTree, SignatureTree, FormTree, nothing}
use Rattle.nesl_syntax_tree.specs.Trees.{function}
use Rattle.nesl_syntax_tree.specs.Trees.{datatype, bind, evaluate, show_names, show_budget, show_type}
use Rattle.nesl_syntax_tree.specs.Grammar.{sign_at, word_at, name_at, IsType, IsPattern, IsExpression}

-- the words of classes and of commands aren't reserved
abbrev pub class_text : Class → List ℕ
class_text class.Any = codes "any"
class_text class.Ordinal = codes "ordinal"
class_text class.Number = codes "number"
class_text class.Logical = codes "logical"

-- a name, in, and a class
abbrev pub member_tokens : MemberTree → Span → Span → Span → List Placed
member_tokens m s t u = name_at m.name s ∷ (word_at word.In t ∷ (name_at (class_text m.class) u ∷ []))

-- members, with ; between
pub data AreMembers : List Placed → List MemberTree → Type 0 where
  one_member : (m : MemberTree) (s t u : Span) → AreMembers (member_tokens m s t u) (m ∷ [])
  more_members : {us : List Placed} {ms : List MemberTree} (m : MemberTree) (s t u c : Span)
      → AreMembers us ms
      → AreMembers (member_tokens m s t u ++ (sign_at sign.Semicolon c ∷ us)) (m ∷ ms)

pub data IsSignature : List Placed → SignatureTree → Type 0 where
  plain_signature : {us vs : List Placed} {a b : TypeTree} (s : Span)
      → IsType us a → IsType vs b
      → IsSignature (us ++ (sign_at sign.RightArrow s ∷ vs)) (record { from = a; to = b; members = [] })
  signature_of_members : {us vs ws : List Placed} {a b : TypeTree} {ms : List MemberTree} (s d t u : Span)
      → IsType us a → IsType vs b → AreMembers ws ms
      → IsSignature
      (us ++ (sign_at sign.RightArrow s ∷ (vs ++ (sign_at sign.DoubleColon d
      ∷ (sign_at sign.OpenParenthesis t ∷ (ws ++ (sign_at sign.CloseParenthesis u ∷ [])))))))
      (record { from = a; to = b; members = ms })

-- a function's parameter, and its signature, if it has one
pub data IsHead : List Placed → PatternTree → Option SignatureTree → Type 0 where
  plain_head : {us : List Placed} {p : PatternTree} → IsPattern us p → IsHead us p None
  signed_head : {us vs : List Placed} {p : PatternTree} {s : SignatureTree} (c : Span)
      → IsPattern us p → IsSignature vs s
      → IsHead (us ++ (sign_at sign.Colon c ∷ vs)) p (Some s)

-- these tokens are this line
pub data IsForm : List Placed → FormTree → Type 0 where
  no_tokens : IsForm [] nothing
  functions : {us vs : List Placed} {p : PatternTree} {s : Option SignatureTree} {e : Tree} (x : List ℕ)
      (i j t u : Span)
      → IsHead us p s → IsExpression 2 vs e
      → IsForm
      (word_at word.Function i ∷ (name_at x j ∷ (us
      ++ (sign_at sign.Equal t ∷ (vs ++ (sign_at sign.Semicolon u ∷ []))))))
      (function x p s e)
  datatypes : {us : List Placed} {a : TypeTree} (x : List ℕ) (i j u : Span)
      → IsType us a
      → IsForm (word_at word.Datatype i ∷ (name_at x j ∷ (us ++ (sign_at sign.Semicolon u ∷ [])))) (datatype x a)
  binds : {us : List Placed} {e : Tree} (x : List ℕ) (s t u : Span)
      → IsExpression 2 us e
      → IsForm (name_at x s ∷ (sign_at sign.Equal t ∷ (us ++ (sign_at sign.Semicolon u ∷ [])))) (bind x e)
  evaluates : {us : List Placed} {e : Tree} (u : Span)
      → IsExpression 2 us e
      → IsForm (us ++ (sign_at sign.Semicolon u ∷ [])) (evaluate e)
  names_shown : (c s : Span) → IsForm (sign_at sign.Colon c ∷ (name_at (codes "names") s ∷ [])) show_names
  budget_shown : (c s : Span) → IsForm (sign_at sign.Colon c ∷ (name_at (codes "budget") s ∷ [])) show_budget
  type_shown : {us : List Placed} {e : Tree} (c s u : Span)
      → IsExpression 2 us e
      → IsForm (sign_at sign.Colon c ∷ (name_at (codes "type") s ∷ (us ++ (sign_at sign.Semicolon u ∷ []))))
      (show_type e)
