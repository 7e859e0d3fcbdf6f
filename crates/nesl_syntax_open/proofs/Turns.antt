-- What the code's turns are.
use Rattle.std.proofs.Common.{◌≡◌, true, false, Option, refl}
use Rattle.nesl_lex.specs.declared.token.Span.{Span}
use Rattle.nesl_syntax_open.specs.declared.mark.Mark.{Mark}
use Rattle.nesl_syntax_open.specs.declared.mark.Mark.TheVariants as mark
use Rattle.nesl_syntax_tree.specs.Trees.{Tree, Trees, Binders, PatternTree, none, more, no_binders, binder}
use Rattle.nesl_syntax_tree.specs.Trees.{with_last_binder}
use Rattle.nesl_syntax_open.specs.Machine.{turned, value, let_group, each_group}
use Rattle.nesl_syntax_open.specs.Stack.{some_elements, some_binders}
use Rattle.nesl_syntax_open.specs.Turns.{let_turned, each_turned}

pub no_elements : (xs : Trees) → some_elements xs ≡ false → xs ≡ none
no_elements none h = refl
no_elements (more x xs) h = cc

pub some_bound : (bs : Binders) (p : PatternTree) (x : Tree) → some_binders (with_last_binder bs p x) ≡ true
some_bound no_binders p x = refl
some_bound (binder q y bs) p x = refl

pub at_let : (m : Mark) (t s : Span) (bs : Binders) (p : PatternTree) (x : Tree) → turned m t (value (let_group s) bs p) x ≡ let_turned m s (with_last_binder bs p x)
at_let mark.CloseParenthesis t s bs p x = refl
at_let mark.CloseBracket t s bs p x = refl
at_let mark.CloseBrace t s bs p x = refl
at_let mark.Colon t s bs p x = refl
at_let mark.Semicolon t s bs p x = refl
at_let mark.Bar t s bs p x = refl
at_let mark.Equal t s bs p x = refl
at_let mark.Then t s bs p x = refl
at_let mark.Else t s bs p x = refl
at_let mark.In t s bs p x = refl

pub at_each : (m : Mark) (t s : Span) (b : Option Tree) (bs : Binders) (p : PatternTree) (x : Tree) → turned m t (value (each_group s b) bs p) x ≡ each_turned m t s b (with_last_binder bs p x)
at_each mark.CloseParenthesis t s b bs p x = refl
at_each mark.CloseBracket t s b bs p x = refl
at_each mark.CloseBrace t s b bs p x = refl
at_each mark.Colon t s b bs p x = refl
at_each mark.Semicolon t s b bs p x = refl
at_each mark.Bar t s b bs p x = refl
at_each mark.Equal t s b bs p x = refl
at_each mark.Then t s b bs p x = refl
at_each mark.Else t s b bs p x = refl
at_each mark.In t s b bs p x = refl
