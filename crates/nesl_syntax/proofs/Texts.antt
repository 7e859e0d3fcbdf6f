-- The words of commands and classes.
use Rattle.std.proofs.Common.{◌≡◌, ℕ, Bool, true, false, ◌&&◌, nat_eq, cond, List, [], ◌∷◌, codes, Option, Some, None, refl, ap, sym, ◌∙◌}
use lib.Pointwise.{pointwise}
use Rattle.std.proofs.lemmas.Bool.{eqb-true, eq-eqb}
use Rattle.nesl_syntax_tree.specs.declared.tree.Class.{Class}
use Rattle.nesl_syntax_tree.specs.declared.tree.Class.TheVariants as class
use Rattle.nesl_syntax_tree.specs.Lines.{class_text}
use Rattle.nesl_syntax_tree.specs.Trees.{FormTree, show_names, show_budget}
use Rattle.nesl_syntax.specs.Given.{IsCommand, line_tree}
use Rattle.nesl_syntax.specs.declared.line.Line.{Line}
use Rattle.std.specs.Prelude.{IfSome, IfNone, IsTrue, ◌↔◌, ◌≢◌, option_map}
use Rattle.nesl_syntax.specs.Reading.{is_text, class_of, command_of, typed_named}
use Rattle.nesl_lex.specs.Tokens.{Placed}
use Rattle.nesl_lex.specs.Tokens as tokens

pub both_true : (a b : Bool) → (a && b) ≡ true → (a ≡ true) × (b ≡ true)
both_true true true h = (refl, refl)
both_true true false h = cc
both_true false b h = cc

pub text_same : (x y : List ℕ) → is_text x y ≡ true → x ≡ y
text_same [] [] h = refl
text_same [] (y ∷ ys) h = cc
text_same (x ∷ xs) [] h = cc
text_same (x ∷ xs) (y ∷ ys) h =
    let b = both_true (nat_eq x y) (is_text xs ys) h in
    let e : x ≡ y = eqb-true x y b.0 in
    let f : xs ≡ ys = text_same xs ys b.1 in
    cc

pub text_itself : (x : List ℕ) → is_text x x ≡ true
text_itself [] = refl
text_itself (x ∷ xs) = rw (eq-eqb x x refl, text_itself xs) refl

pub text_pointwise : (x y : List ℕ) → pointwise nat_eq x y ≡ is_text x y
text_pointwise [] [] = refl
text_pointwise [] (y ∷ ys) = refl
text_pointwise (x ∷ xs) [] = refl
text_pointwise (x ∷ xs) (y ∷ ys) = ap (λ (b : Bool). nat_eq x y && b) (text_pointwise xs ys)

-- whether two texts are the same
pub text_decides : (b : Bool) (x y : List ℕ) → b ≡ pointwise nat_eq x y → IsTrue b ↔ (x ≡ y)
text_decides b x y h =
    let e : b ≡ is_text x y = h ∙ text_pointwise x y in
    (λ t. text_same x y (sym e ∙ t), λ k. e ∙ ap (is_text x) (sym k) ∙ text_itself x)

pub text_other : (x y : List ℕ) → (x ≡ y → ⊥) → is_text x y ≡ false
text_other x y n = by_test (is_text x y) refl
  where
    by_test : (b : Bool) → is_text x y ≡ b → is_text x y ≡ false
    by_test true e = absurd (n (text_same x y e))
    by_test false e = e

pub class_text_read : (k : Class) → class_of (class_text k) ≡ Some k
class_text_read class.Any = refl
class_text_read class.Ordinal = refl
class_text_read class.Number = refl
class_text_read class.Logical = refl

pub class_is : (x : List ℕ) (k : Class) → class_of x ≡ Some k → x ≡ class_text k
class_is x k h = by_tests (is_text x (codes "any")) (is_text x (codes "ordinal")) (is_text x (codes "number")) (is_text x (codes "logical")) refl refl refl refl h
  where
    by_tests : (a b c d : Bool) → is_text x (codes "any") ≡ a → is_text x (codes "ordinal") ≡ b → is_text x (codes "number") ≡ c → is_text x (codes "logical") ≡ d
        → cond a (Some class.Any) (cond b (Some class.Ordinal) (cond c (Some class.Number) (cond d (Some class.Logical) None))) ≡ Some k → x ≡ class_text k
    by_tests true b c d e f g i h = let j : class.Any ≡ k = cc in text_same x _ e ∙ ap class_text j
    by_tests false true c d e f g i h = let j : class.Ordinal ≡ k = cc in text_same x _ f ∙ ap class_text j
    by_tests false false true d e f g i h = let j : class.Number ≡ k = cc in text_same x _ g ∙ ap class_text j
    by_tests false false false true e f g i h = let j : class.Logical ≡ k = cc in text_same x _ i ∙ ap class_text j
    by_tests false false false false e f g i h = cc

-- the class that is found, or that there is none
pub class_by : (x : List ℕ) (r : Option Class) → IfSome r (λ k. x ≡ class_text k) → IfNone r ((k : Class) → x ≢ class_text k) → r ≡ class_of x
class_by x (Some k) some none = sym (ap class_of some ∙ class_text_read k)
class_by x None some none = rw (text_other x (codes "any") (none class.Any), text_other x (codes "ordinal") (none class.Ordinal), text_other x (codes "number") (none class.Number), text_other x (codes "logical") (none class.Logical)) refl

-- the same of a command
command_found : (x : List ℕ) (l : FormTree) → IsCommand x l → Some l ≡ command_of x
command_found x show_names h = sym (ap command_of h)
command_found x show_budget h = sym (ap command_of h)
command_found x _ h = absurd h

pub command_by : (x : List ℕ) (r : Option Line) → IfSome r (λ f. IsCommand x (line_tree f)) → IfNone r ((l : FormTree) → IsCommand x l → ⊥) → option_map line_tree r ≡ command_of x
command_by x (Some f) some none = command_found x (line_tree f) some
command_by x None some none = rw (text_other x (codes "names") (none show_names), text_other x (codes "budget") (none show_budget)) refl

pub no_type_word : (x : List ℕ) (ts : List Placed) → (x ≡ codes "type" → ⊥) → typed_named (tokens.name x) ts ≡ None
no_type_word x ts n = rw (text_other x (codes "type") n) refl
