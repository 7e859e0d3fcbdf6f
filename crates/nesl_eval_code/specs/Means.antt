-- When code means a tree.
use Rattle.std.specs.Prelude.{◌≡◌, ◌<◌, ℕ, List, [], ◌∷◌, ◌++◌, map, Bool, true, false, ◌||◌, Option, Some, None, suc}
use Rattle.std.specs.Prelude.{option_map, option_and_then, slice_get, if◌then◌else◌}
use Rattle.std.specs.Str.{bytes_eq}
pub use Rattle.nesl_types.specs.Order.{place_of}
use Rattle.nesl_syntax_tree.specs.Trees.{PatternTree, Tree, Trees, Binders, pattern, name_pattern, pair_pattern}
use Rattle.nesl_syntax_tree.specs.Trees.{record_pattern, none, more, no_binders, binder}
use Rattle.nesl_eval_code.specs.declared.code.Code.{Code}
use Rattle.nesl_eval_code.specs.declared.code.Step.{Step}
use Rattle.nesl_eval_code.specs.declared.code.Step.TheVariants.{Left, Right, Inside}
use Rattle.nesl_eval_meaning.specs.Names.{Name, Value, Locals, Scope, outside, with_names, Environment, Top}
use Rattle.nesl_builtins.specs.Named.{look_up}
use Rattle.nesl_eval_meaning.specs.Names.{bound}
use Rattle.nesl_eval_meaning.specs.Names.{variable_of, function_of, datatype_of, nothing}
use Rattle.nesl_eval_meaning.specs.Out.{Out, stuck}
use Rattle.nesl_eval_meaning.specs.Outcome.{out, in_bound}
use Rattle.nesl_eval_code.specs.Frames.{Frames, frame, local_at}
use Rattle.nesl_eval_code.specs.Run.{Table, Slot, variable_slot, function_slot, datatype_slot, nothing_slot, run}

-- the code evaluates to what the tree does, where that isn't stuck
abbrev pub Agrees : {X : Type 0} → Out X → Out X → Type 0
Agrees r o = (o ≡ stuck → ⊥) → r ≡ o

-- the patterns whose names are in a frame: a parameter or the bindings of a `let`, or the binders of an
-- apply-to-each, whose first value is the element that has no name
pub data Layer : Type 0 where
  bindings : List PatternTree → Layer
  binders : List PatternTree → Layer

-- the names with those of each pattern besides; a later pattern's names hide those of an earlier one
abbrev pub bound_all : List PatternTree → List Value → Locals → Option Locals
bound_all [] [] names = Some names
bound_all (p ∷ ps) (v ∷ vs) names = option_and_then (bound_all ps vs) (bound p v names)
bound_all _ _ names = None

-- these names, and this element
abbrev pub with_element : Option Value → Locals → Scope
with_element v names = record { names = names; element = v }

-- the scope inside, where the layer's patterns are bound to these values
abbrev pub layered : Layer → List Value → Scope → Option Scope
layered (bindings ps) vs sc = option_map (with_names sc) (bound_all ps vs sc.names)
layered (binders ps) vs sc = option_map (with_element (slice_get vs 0)) (bound_all ps vs sc.names)

-- these frames, whose values are those of these layers, hold the names of this scope
abbrev pub FramesShow : List Layer → Frames → Scope → Type 0
FramesShow [] [] sc = sc ≡ outside []
FramesShow [] (f ∷ fs) sc = ⊥
FramesShow (l ∷ ls) [] sc = ⊥
FramesShow (l ∷ ls) (f ∷ fs) sc =
    (vs : List Value) × (outer : Scope) × (f ≡ frame vs) × FramesShow ls fs outer × (layered l vs outer ≡ Some sc)

-- what is at a place of the table is what the name means; a function's code agrees with its body on fewer than n
-- levels
abbrev pub StandsFor : ℕ → Table → Environment → Slot → Top → Type 0
StandsFor n t env (variable_slot v) (variable_of w) = v ≡ w
StandsFor n t env (function_slot c) (function_of p e) =
    (m : ℕ) → m < n → (v : Value) →
    Agrees (run m t (frame (v ∷ []) ∷ []) c) (in_bound (out m env) p v (outside []) e)
StandsFor n t env (datatype_slot j) (datatype_of k) = j ≡ k
StandsFor n t env nothing_slot nothing = Unit {0}
StandsFor n t env _ _ = ⊥

-- the same of each place in turn
abbrev pub AllStand : ℕ → Table → Environment → Table → Environment → Type 0
AllStand n t env [] [] = Unit {0}
AllStand n t env [] (b ∷ bs) = ⊥
AllStand n t env (s ∷ ss) [] = ⊥
AllStand n t env (s ∷ ss) (b ∷ bs) = (s.0 ≡ b.0) × StandsFor n t env s.1 b.1 × AllStand n t env ss bs

-- each place of the table has what its name means
abbrev pub IsTableOf : ℕ → Environment → Table → Type 0
IsTableOf n env t = AllStand n t env t env

-- names without what they mean
abbrev pub names_of : {X : Type 0} → List (Name × X) → List Name
names_of bs = map (λ b. b.0) bs

-- the table's names are these, and perhaps more after them
abbrev pub Begins : List Name → Table → Type 0
Begins names t = (more : List Name) × (names_of t ≡ names ++ more)

-- with any number of levels, at any table that begins with these names, code and tree evaluate to the same
abbrev pub Means : List Name → List Layer → Code → Tree → Type 0
Means names ls c e =
    (n : ℕ) (t : Table) (env : Environment) → Begins names t → IsTableOf n env t →
    (fs : Frames) (sc : Scope) → FramesShow ls fs sc → Agrees (run n t fs c) (out n env sc e)

-- whether a pattern binds a name
abbrev pub binds : Name → PatternTree → Bool
binds x (pattern s (name_pattern y)) = bytes_eq x y
binds x (pattern s (pair_pattern p q)) = binds x q || binds x p
binds x (pattern s (record_pattern y p)) = binds x p

-- the steps to what the name means; a name on the right hides one on the left
abbrev pub steps_to : Name → PatternTree → List Step
steps_to x (pattern s (name_pattern y)) = []
steps_to x (pattern s (pair_pattern p q)) = if binds x q then Right ∷ steps_to x q else Left ∷ steps_to x p
steps_to x (pattern s (record_pattern y p)) = Inside ∷ steps_to x p

-- the last of some patterns that binds the name, by its index
abbrev pub or_later : Bool → Option ℕ → Option ℕ
or_later b (Some i) = Some (suc i)
or_later true None = Some 0
or_later false None = None

abbrev pub last_binding : Name → List PatternTree → Option ℕ
last_binding x [] = None
last_binding x (p ∷ ps) = or_later (binds x p) (last_binding x ps)

-- where the value of a local name is: how many frames up, at that index of the frame, and from there by these steps
pub record Spot : Type 0 where
  pub up : ℕ
  pub index : ℕ
  pub steps : List Step

-- the spot with these parts, and the patterns of a layer
abbrev pub spot : ℕ → ℕ → List Step → Spot
spot up i steps = record { up = up; index = i; steps = steps }

abbrev pub patterns_of : Layer → List PatternTree
patterns_of (bindings ps) = ps
patterns_of (binders ps) = ps

-- at each place that the layers' frames may have, the value of the name is at the spot
abbrev pub IsSpotOf : List Layer → Name → Spot → Type 0
IsSpotOf ls x p =
    (fs : Frames) (sc : Scope) → FramesShow ls fs sc →
    (v : Value) × (look_up sc.names x ≡ Some v) × (local_at fs p.up p.index p.steps ≡ Some v)

-- the name is no local one
abbrev pub IsNoLocal : List Layer → Name → Type 0
IsNoLocal ls x = (fs : Frames) (sc : Scope) → FramesShow ls fs sc → look_up sc.names x ≡ None

-- the element of the innermost apply-to-each, if there is one, is at the spot
abbrev pub IsElementSpot : List Layer → Spot → Type 0
IsElementSpot ls p =
    (fs : Frames) (sc : Scope) → FramesShow ls fs sc → local_at fs p.up p.index p.steps ≡ sc.element

-- codes that mean trees, one by one
abbrev pub AllMean : List Name → List Layer → List Code → Trees → Type 0
AllMean names ls [] none = Unit {0}
AllMean names ls [] (more e es) = ⊥
AllMean names ls (c ∷ cs) none = ⊥
AllMean names ls (c ∷ cs) (more e es) = Means names ls c e × AllMean names ls cs es

-- codes that mean the bindings of a `let`, each in the frame of the bindings before it
abbrev pub BindingsMean : List Name → List Layer → List PatternTree → List Code → Binders → Type 0
BindingsMean names ls ps [] no_binders = Unit {0}
BindingsMean names ls ps [] (binder p a bs) = ⊥
BindingsMean names ls ps (d ∷ ds) no_binders = ⊥
BindingsMean names ls ps (d ∷ ds) (binder p a bs) =
    Means names (bindings ps ∷ ls) d a × BindingsMean names ls (ps ++ p ∷ []) ds bs

-- the patterns of binders
abbrev pub patterns : Binders → List PatternTree
patterns no_binders = []
patterns (binder p e bs) = p ∷ patterns bs
