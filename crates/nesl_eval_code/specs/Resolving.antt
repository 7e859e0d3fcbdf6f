-- What resolving a name gives.
use Rattle.std.specs.Prelude.{List, [], ◌∷◌, ◌++◌, Option, Some, None, option_map}
use Rattle.nesl_syntax_tree.specs.Views.{pattern_tree}
use Rattle.nesl_eval_code.specs.declared.layers.Layers.{Layers, fold-Layers}
use Rattle.nesl_eval_code.specs.declared.layers.Layers.TheOpen.{Layers-F}
use Rattle.nesl_eval_code.specs.declared.layers.LocalPlace.{LocalPlace}
use Rattle.nesl_eval_code.specs.declared.places.Places.{Places}
use Rattle.nesl_eval_meaning.specs.Names.{Name}
use Rattle.nesl_eval_code.specs.Frame.{patterns_before}
use Rattle.nesl_eval_code.specs.Means.{Layer, bindings, binders, spot, IsSpotOf}
use Rattle.nesl_eval_code.specs.Means.{IsNoLocal}

-- the layers that a value of the program means
abbrev pub layers_step : Layers-F (List Layer) → List Layer
layers_step Layers-F.Top = []
layers_step (Layers-F.Parameter p) = bindings (pattern_tree p.now.pattern.now ∷ []) ∷ []
layers_step (Layers-F.Let f outer) = bindings (patterns_before f.now.bound.now f.now.seen) ∷ outer.now
layers_step (Layers-F.Row f outer) = binders (patterns_before f.now.bound.now f.now.seen) ∷ outer.now

abbrev pub layers_of : Layers → List Layer
layers_of = fold-Layers (List Layer) layers_step

-- where the value of a name is, or that it is no local one
abbrev pub FindsLocal : List Layer → Name → Option LocalPlace → Type 0
FindsLocal ls x None = IsNoLocal ls x
FindsLocal ls x (Some p) = IsSpotOf ls x (spot p.up p.index p.steps.items)

-- the names that have a place
abbrev pub with_own : Option Name → List Name → List Name
with_own None names = names
with_own (Some x) names = names ++ x ∷ []

-- the same of a value of the program
abbrev pub known : Places → List Name
known p = with_own (option_map (λ x. x.now) p.own) p.names.now
