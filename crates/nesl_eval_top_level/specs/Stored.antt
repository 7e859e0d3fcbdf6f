-- The top level, as an environment and as a table.
use Rattle.std.specs.Prelude.{ℕ, List, [], ◌∷◌, ◌++◌, map, set, Option, Some, None, is_some, if◌then◌else◌}
use Rattle.nesl_types.specs.declared.bindings.Top as kinds
use Rattle.nesl_types.specs.declared.bindings.Top.TheVariants as kind
use Rattle.nesl_values.specs.View.{tree_of}
use Rattle.nesl_syntax_tree.specs.Views as syntax
use Rattle.nesl_eval_code.specs.declared.code.Code.{Code}
use Rattle.nesl_eval_top_level.specs.declared.env.Payload.{Payload}
use Rattle.nesl_eval_top_level.specs.declared.env.Payload.TheVariants as payload
use Rattle.nesl_eval_meaning.specs.Names.{Name, Top, Environment, variable_of, function_of, datatype_of, nothing}
use Rattle.nesl_eval_code.specs.Run.{Slot, Table, variable_slot, function_slot, datatype_slot, nothing_slot}
use Rattle.nesl_eval_code.specs.Means.{Means, bindings, place_of}

-- a name with its type or its tag, and its payload
abbrev pub Entry : Type 0
Entry = Name × kinds.Top × Payload

-- what the name means, by the payload, and by the type for a datatype's tag
abbrev pub top_of : kinds.Top → Payload → Top
top_of t (payload.Variable v) = variable_of (tree_of v)
top_of t (payload.Function p e) = function_of (syntax.pattern_tree p) (syntax.tree_of e)
top_of (kind.Datatype tag held) payload.Datatype = datatype_of tag
top_of t payload.Datatype = nothing

-- what all of them mean
abbrev pub environment : List Entry → Environment
environment bs = map (λ b. (b.0, top_of b.1 b.2)) bs

-- what a place holds, where this is the code of the body
abbrev pub slot_of : kinds.Top → Payload → Option Code → Slot
slot_of t (payload.Variable v) c = variable_slot (tree_of v)
slot_of t (payload.Function p e) (Some c) = function_slot c
slot_of t (payload.Function p e) None = nothing_slot
slot_of (kind.Datatype tag held) payload.Datatype c = datatype_slot tag
slot_of t payload.Datatype c = nothing_slot

-- the code of each name's body, by place; a name that is no function has none
abbrev pub Codes : Type 0
Codes = List (Option Code)

-- each name with what its place holds; a place past the codes holds nothing
abbrev pub table : List Entry → Codes → Table
table [] cs = []
table (b ∷ bs) [] = (b.0, nothing_slot) ∷ table bs []
table (b ∷ bs) (c ∷ cs) = (b.0, slot_of b.1 b.2 c) ∷ table bs cs

-- the code of a function's body means the body, in which only the parameter is local
abbrev pub HasCode : List Name → Payload → Option Code → Type 0
HasCode names (payload.Variable v) c = Unit {0}
HasCode names (payload.Function p e) (Some c) =
    Means names (bindings (syntax.pattern_tree p ∷ []) ∷ []) c (syntax.tree_of e)
HasCode names (payload.Function p e) None = ⊥
HasCode names payload.Datatype c = Unit {0}

-- as many codes as names, and at each place the code of the name's payload
abbrev pub AllHaveCode : List Name → List Entry → Codes → Type 0
AllHaveCode names [] [] = Unit {0}
AllHaveCode names [] (c ∷ cs) = ⊥
AllHaveCode names (b ∷ bs) [] = ⊥
AllHaveCode names (b ∷ bs) (c ∷ cs) = HasCode names b.2 c × AllHaveCode names bs cs

-- the names in order
abbrev pub names_in : List Entry → List Name
names_in bs = map (λ b. b.0) bs

-- in a body, each name that is bound has its place
abbrev pub AreStored : List Entry → Codes → Type 0
AreStored bs cs = AllHaveCode (names_in bs) bs cs

-- the names, once this one has a place: the one that it had, else the last
abbrev pub with_place : Name → List Name → List Name
with_place x ns = if is_some (place_of ns x) then ns else ns ++ x ∷ []

-- puts an item at a place, or last if there is no place
abbrev pub put : {X : Type 0} → Option ℕ → X → List X → List X
put (Some k) x xs = set xs k x
put None x xs = xs ++ x ∷ []
