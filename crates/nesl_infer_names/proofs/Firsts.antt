-- What is found first in one part, then in another.
use Rattle.std.proofs.Common.{◌≡◌, ℕ, List, [], ◌∷◌, ◌++◌, Option, Some, None, refl, ap, ◌∙◌}
use Rattle.nesl_lex.specs.declared.token.Span.{Span}
use Rattle.nesl_syntax_tree.specs.declared.tree.Exp.{Exp}
use Rattle.nesl_syntax_tree.specs.Views.{tree_of}
use Rattle.nesl_infer_names.specs.Firsts.{first, earlier}
use Rattle.nesl_infer_names.specs.Names.{Names, unknown_names}

seam : (f : Option Span) (a b : List Span) → earlier (earlier f (first a)) (first b) ≡ earlier f (first (a ++ b))
seam (Some s) a b = refl
seam None [] b = refl
seam None (s ∷ a) b = refl

pub joined : (f g h : Option Span) (a b : List Span) → g ≡ earlier f (first a) → h ≡ earlier g (first b) → h ≡ earlier f (first (a ++ b))
joined f g h a b p q = q ∙ ap (λ (o : Option Span). earlier o (first b)) p ∙ seam f a b

-- nothing is found where there is nothing
pub unchanged : (f : Option Span) → f ≡ earlier f (first [])
unchanged (Some s) = refl
unchanged None = refl

-- the same walk, for equal local names and an equal expression
pub moved : (ns : Names) (ls ms : List (List ℕ)) (e d : Exp) (f g : Option Span) → ms ≡ ls → d ≡ e
    → g ≡ earlier f (first (unknown_names ns ms (tree_of d))) → g ≡ earlier f (first (unknown_names ns ls (tree_of e)))
moved ns ls ms e d f g p q h =
    h ∙ ap (λ (x : List (List ℕ)). earlier f (first (unknown_names ns x (tree_of d)))) p ∙ ap (λ (x : Exp). earlier f (first (unknown_names ns ls (tree_of x)))) q

pub moved_two : (ns : Names) (ls ms : List (List ℕ)) (a b d e : Exp) (f g : Option Span) → ms ≡ ls → d ≡ a → e ≡ b
    → g ≡ earlier f (first (unknown_names ns ms (tree_of d) ++ unknown_names ns ms (tree_of e))) → g ≡ earlier f (first (unknown_names ns ls (tree_of a) ++ unknown_names ns ls (tree_of b)))
moved_two ns ls ms a b d e f g p q r h =
    h ∙ ap (λ (x : List (List ℕ)). earlier f (first (unknown_names ns x (tree_of d) ++ unknown_names ns x (tree_of e)))) p
    ∙ ap (λ (x : Exp). earlier f (first (unknown_names ns ls (tree_of x) ++ unknown_names ns ls (tree_of e)))) q
    ∙ ap (λ (x : Exp). earlier f (first (unknown_names ns ls (tree_of a) ++ unknown_names ns ls (tree_of x)))) r
