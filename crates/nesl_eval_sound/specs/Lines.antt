-- Lines that bind a name, and what they keep.
use Rattle.std.specs.Prelude.{◌≡◌, ◌≤◌, ◌+◌, ℕ, Bool, true, false, List, [], ◌∷◌, map, Option, Some, None}
use Rattle.std.specs.Prelude.{option_and_then, if◌then◌else◌}
use Rattle.nesl_types.specs.declared.bindings.Top.{Top}
use Rattle.nesl_types.specs.declared.bindings.Top.TheVariants as top
use Rattle.nesl_types.specs.declared.classes.Class.{Class}
use Rattle.nesl_types.specs.declared.schemes.Scheme.{Scheme}
use Rattle.nesl_types.specs.Class.{class_at}
use Rattle.nesl_types.specs.Names.{found, with_name, datatype_at}
use Rattle.nesl_types.specs.Scheme.{IsSameScheme}
use Rattle.nesl_types_shared.specs.Term.{Term}
use Rattle.nesl_syntax_tree.specs.Trees.{PatternTree, Tree}
use Rattle.nesl_infer_names.specs.Names.{top_in}
use Rattle.nesl_infer_rules.specs.Typing.{HasType}
use Rattle.nesl_eval_meaning.specs.Names.{Name, Value, Environment, variable_of, function_of, datatype_of, outside}
use Rattle.nesl_eval_meaning.specs.Names as evaluated
use Rattle.nesl_eval_meaning.specs.Out.{value}
use Rattle.nesl_eval_meaning.specs.Outcome.{out}
use Rattle.nesl_eval_sound.specs.Refers.{is_referred}
use Rattle.nesl_eval_sound.specs.Sound.{HasBodyType, AreWellTyped, IsGround, world}

-- a name that has a meaning keeps it: a variable of the same type, or a function of the same scheme
abbrev pub IsUnchanged : Option Top → Option Top → Type 0
IsUnchanged None o = Unit {0}
IsUnchanged (Some (top.Variable t)) (Some (top.Variable u)) = t ≡ u
IsUnchanged (Some (top.Function f)) (Some (top.Function g)) = IsSameScheme f g
IsUnchanged (Some t) o = ⊥

-- what the records of a datatype hold
abbrev pub held_by : Top → Option Term
held_by (top.Variable t) = None
held_by (top.Function s) = None
held_by (top.Datatype tag t) = Some t

abbrev pub is_type : Top → Bool
is_type (top.Variable t) = false
is_type (top.Function s) = false
is_type (top.Datatype tag t) = true

module _ {P : Type 0} where
  -- what the records of the datatype with that tag hold
  abbrev pub held_in : List (List ℕ × Top × P) → ℕ → Option Term
  held_in bs tag = option_and_then (λ b. held_by b.1) (datatype_at bs tag)

  -- how many datatypes there are
  abbrev pub datatypes : List (List ℕ × Top × P) → ℕ
  datatypes [] = 0
  datatypes (b ∷ bs) = if is_type b.1 then 1 + datatypes bs else datatypes bs

-- The top-level names in order of first definition, each with its type and a payload. By these, `seen` gives what the
-- name means.
module _ {P : Type 0} (seen : Top → P → evaluated.Top) where
  abbrev pub values_of : List (List ℕ × Top × P) → Environment
  values_of bs = map (λ b. (b.0, seen b.1 b.2)) bs

  -- each name means what its type promises, and only numbers below the number of datatypes are tags
  pub record IsSound (bs : List (List ℕ × Top × P)) : Type 0 where
    pub typed : AreWellTyped bs (held_in bs) (values_of bs)
    pub numbered : (tag : ℕ) → datatypes bs ≤ tag → datatype_at bs tag ≡ None

  -- the name is no datatype, and if another function refers to it, its type doesn't change
  pub record IsRedefinable (bs : List (List ℕ × Top × P)) (x : Name) (new : Top) : Type 0 where
    pub no_datatype : (tag : ℕ) (t : Term) → top_in bs x ≡ Some (top.Datatype tag t) → ⊥
    pub no_retype : is_referred x (values_of bs) ≡ true → IsUnchanged (top_in bs x) (Some new)

  -- `x = e;`
  abbrev pub VariablesStaySound : Type 0
  VariablesStaySound = (bs : List (List ℕ × Top × P)) → IsSound bs → (x : Name) (t : Term) (e : Tree) →
      (of : ℕ → Class) (limit : Option ℕ) → HasType (world bs of limit None) [] e t → IsGround t →
      IsRedefinable bs x (top.Variable t) →
      (n w d : ℕ) (v : Value) → out n (values_of bs) (outside []) e ≡ value v w d → (q : P) →
      seen (top.Variable t) q ≡ variable_of v → IsSound (with_name x (top.Variable t) q bs)

  -- `function x p = e;`
  abbrev pub FunctionsStaySound : Type 0
  FunctionsStaySound = (bs : List (List ℕ × Top × P)) → IsSound bs →
      (x : Name) (s : Scheme) (p : PatternTree) (e : Tree) (limit : Option ℕ) →
      HasBodyType (world bs (class_at s.classes.items) limit) x p e s.argument s.result →
      IsRedefinable bs x (top.Function s) → (q : P) → seen (top.Function s) q ≡ function_of p e →
      IsSound (with_name x (top.Function s) q bs)

  -- `datatype x t;`
  abbrev pub DatatypesStaySound : Type 0
  DatatypesStaySound = (bs : List (List ℕ × Top × P)) → IsSound bs → (x : Name) (t : Term) → IsGround t →
      found x bs ≡ None → (q : P) → seen (top.Datatype (datatypes bs) t) q ≡ datatype_of (datatypes bs) →
      IsSound (with_name x (top.Datatype (datatypes bs) t) q bs)

  -- where nothing is bound
  abbrev pub NothingIsSound : Type 0
  NothingIsSound = IsSound []
