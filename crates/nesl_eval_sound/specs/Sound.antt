-- Bindings that are well typed, and what that promises of evaluations.
use Rattle.std.specs.Prelude.{◌≡◌, ℕ, List, [], Option, Some, None}
use Rattle.nesl_types.specs.declared.bindings.Top.{Top}
use Rattle.nesl_types.specs.declared.bindings.Top.TheVariants as top
use Rattle.nesl_types.specs.declared.classes.Class.{Class}
use Rattle.nesl_types.specs.declared.schemes.Scheme.{Scheme}
use Rattle.nesl_types_shared.specs.Numbering.{IsBelow}
use Rattle.nesl_types_shared.specs.Substitution.{substitute}
use Rattle.nesl_types_shared.specs.Term.{Term, int}
use Rattle.nesl_syntax_tree.specs.Trees.{PatternTree, Tree}
use Rattle.nesl_builtins.specs.FunctionTypes.{function_type}
use Rattle.nesl_infer_names.specs.Names.{top_in}
use Rattle.nesl_infer_rules.specs.World.{Assumptions, OwnFunction, meanings_in}
use Rattle.nesl_infer_rules.specs.Typing.{HasType, IsInstanceOf}
use Rattle.nesl_infer_rules.specs.Principal.{HasFunctionType}
use Rattle.nesl_eval_meaning.specs.Names.{Name, Environment, variable_of, function_of, datatype_of, outside}
use Rattle.nesl_builtins.specs.Named.{look_up}
use Rattle.nesl_eval_meaning.specs.Names as evaluated
use Rattle.nesl_eval_meaning.specs.Out.{Out, value, fault, stuck}
use Rattle.nesl_eval_meaning.specs.Outcome.{out}
use Rattle.nesl_eval_sound.specs.HasType as values

-- a fault, or a value of which P holds
abbrev pub IsFine : {X : Type 0} → (X → Type 0) → Out X → Type 0
IsFine P (value x w d) = P x
IsFine P (fault t s w) = Unit {0}
IsFine P stuck = ⊥

-- a type with int in place of each variable, where any type would do
abbrev pub ground : Term → Term
ground t = substitute (λ v. int) t

-- a type has no variables
abbrev pub IsGround : Term → Type 0
IsGround t = IsBelow 0 t

-- a body gives u where its parameter takes t, without a signature
abbrev pub HasBodyType : (OwnFunction → Assumptions) → Name → PatternTree → Tree → Term → Term → Type 0
HasBodyType w x p e t u = HasFunctionType w x p None e t u

-- there is a value of the type
abbrev pub IsValue : (ℕ → Option Term) → Term → Option evaluated.Top → Type 0
IsValue held t (Some (variable_of v)) = values.HasType held v t
IsValue held t _ = ⊥

module _ {P : Type 0} (context : List (List ℕ × Top × P)) where
  -- the world of these names; the types of a function's body are of any size, or not above a limit
  abbrev pub world : (ℕ → Class) → Option ℕ → OwnFunction → Assumptions
  world of limit own = record { names = meanings_in context own; of = of; limit = limit }

  -- there is a body, which has every instance of the scheme
  abbrev pub IsBody : Name → Scheme → Option evaluated.Top → Type 0
  IsBody x s (Some (function_of p e)) =
      (of : ℕ → Class) (t u : Term) → IsInstanceOf (function_type s) of t u → HasBodyType (world of None) x p e t u
  IsBody x s _ = ⊥

  -- a name means what its type promises, where `held` gives what each datatype holds
  pub record IsWellTyped (held : ℕ → Option Term) (env : Environment) (x : Name) : Type 0 where
    pub variables : (t : Term) → top_in context x ≡ Some (top.Variable t) →
        IsValue held t (look_up env x) × IsGround t
    pub functions : (s : Scheme) → top_in context x ≡ Some (top.Function s) → IsBody x s (look_up env x)
    pub datatypes : (tag : ℕ) (t : Term) → top_in context x ≡ Some (top.Datatype tag t) →
        (look_up env x ≡ Some (datatype_of tag)) × (held tag ≡ Some t) × IsGround t

  -- the bindings are well typed
  abbrev pub AreWellTyped : (ℕ → Option Term) → Environment → Type 0
  AreWellTyped held env = (x : Name) → IsWellTyped held env x

  -- If the bindings are well typed, an expression that has a type is never stuck on any number of levels. Its value has
  -- the type, with int for its variables.
  abbrev pub TypesAreKept : Type 0
  TypesAreKept = (held : ℕ → Option Term) (env : Environment) → AreWellTyped held env →
      (of : ℕ → Class) (limit : Option ℕ) (e : Tree) (t : Term) → HasType (world of limit None) [] e t →
      (n : ℕ) → IsFine (λ v. values.HasType held v (ground t)) (out n env (outside []) e)
