-- The names of a frame.
use Rattle.std.specs.Prelude.{◌≡◌, ℕ, suc, Bool, true, false, List, [], ◌∷◌, Option, Some, None, take, option_map}
use Rattle.std.proofs.Common.{Vec, Global}
use Rattle.nesl_syntax_tree.specs.declared.tree.Binding.{Binding}
use Rattle.nesl_syntax_tree.specs.Trees.{PatternTree}
use Rattle.nesl_syntax_tree.specs.Views.{binders_in}
use Rattle.nesl_eval_meaning.specs.Names.{Name}
use Rattle.nesl_eval_code.specs.declared.code.Step.{Step}
use Rattle.nesl_eval_code.specs.declared.names.NamePlace.{NamePlace}
use Rattle.nesl_eval_code.specs.Means.{binds, steps_to, patterns}
use Rattle.nesl_eval_code.specs.Noted.{noted_at}

-- where later patterns have the name, one place further on, or else where the first pattern has it
abbrev pub or_first : Bool → List Step → Option (ℕ × List Step) → Option (ℕ × List Step)
or_first b steps (Some e) = Some (suc e.0, e.1)
or_first true steps None = Some (0, steps)
or_first false steps None = None

-- the index of the last of these patterns that binds the name, and the steps from its value
abbrev pub spot_in : List PatternTree → Name → Option (ℕ × List Step)
spot_in [] x = None
spot_in (p ∷ ps) x = or_first (binds x p) (steps_to x p) (spot_in ps x)

abbrev pub FindsIn : List PatternTree → Name → Option NamePlace → Type 0
FindsIn ps x o = option_map (λ p. (p.index, p.steps.items)) o ≡ spot_in ps x

-- each name is noted where the patterns have it
abbrev pub AreNoted : List PatternTree → List (Vec ℕ Global × NamePlace) → Type 0
AreNoted ps es = (x : Name) → noted_at es x ≡ spot_in ps x

-- the patterns of the first bindings
abbrev pub patterns_before : List Binding → ℕ → List PatternTree
patterns_before bs n = patterns (binders_in (take n bs))
