use Rattle.std.proofs.Common.{◌≡◌, ℕ, List, Option, Some, None, sym, ap, ◌∙◌}
use Rattle.std.specs.Option.{option_map, IfSome}
use Rattle.nesl_types_shared.specs.Term.{Term}
use Rattle.nesl_syntax_tree.specs.Trees.{Shape, variable}
use Rattle.nesl_syntax_tree.specs.Views.{shape_of}
use Rattle.nesl_infer_rules.specs.Steps.{scope_at}
use Rattle.nesl_infer_rules.specs.Typing.{local_type}
use Rattle.nesl_infer.proofs.leaf.local_variable.Goals as goal

-- the name of the variable that was looked up
named : (k : Shape) (x : List ℕ) (t : List ℕ → (ℕ → Term) → Option Term) (r : Option ℕ) → k ≡ variable x → ((s : ℕ → Term) → option_map s r ≡ t x s) → IfSome r (λ v. (y : List ℕ) × (k ≡ variable y) × ((s : ℕ → Term) → t y s ≡ Some (s v)))
named k x t None e h = tt
named k x t (Some v) e h = (x, e, λ s. sym (h s))

pub returns-in-Variable-clause-found : goal.returns-in-Variable-clause-found
returns-in-Variable-clause-found c =
    named _ c.in-Variable.name.letters.items (λ y s. local_type y (scope_at s c.args.locals.now)) c.look_up.result
    (ap shape_of c.in-Variable.is)
    (λ s. c.look_up.ensures.found s ∙ ap (λ y. local_type y (scope_at s c.args.locals.now)) c.as_slice.ensures.value)
