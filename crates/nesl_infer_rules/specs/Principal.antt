-- Bounded typings and principal types.
use Rattle.std.specs.Prelude.{◌≡◌, ℕ, List, [], ◌++◌, length, Option, Some, None}
use Rattle.nesl_types.specs.declared.bindings.Top.{Top}
use Rattle.nesl_types.specs.declared.classes.Class.{Class}
use Rattle.nesl_types.specs.declared.schemes.Scheme.{Scheme}
use Rattle.nesl_types_shared.specs.Term.{Term}
use Rattle.nesl_types.specs.Class.{IsIn, class_at}
use Rattle.nesl_types_shared.specs.Substitution.{substitute}
use Rattle.nesl_types_shared.specs.Numbering.{IsBelow, variables, first_occurrences, numbers_below}
use Rattle.nesl_syntax_tree.specs.Trees.{PatternTree, Tree, SignatureTree}
use Rattle.nesl_builtins.specs.FunctionTypes.{FunctionType, function_type}
use Rattle.nesl_infer_names.specs.Names.{Names, names_in}
use Rattle.nesl_infer_rules.specs.World.{Assumptions, TypedNames, OwnFunction, typed_names_by}
use Rattle.nesl_infer_rules.specs.Typing.{LocalTypes, HasType, PatternAdds, IsSigned, IsInstanceOf}

-- the world of a line in which each type has at most 4,096 nodes, or any number of nodes
abbrev pub bounded : TypedNames → (ℕ → Class) → Assumptions
bounded ns of = record { names = ns; of = of; limit = Some 4096 }

abbrev pub unbounded : TypedNames → (ℕ → Class) → Assumptions
unbounded ns of = record { names = ns; of = of; limit = None }

-- a function takes t and gives u: its own name has this one type in its body
pub record HasFunctionType (w : OwnFunction → Assumptions) (name : List ℕ) (p : PatternTree) (s : Option SignatureTree)
    (body : Tree) (t u : Term) : Type 0 where
  pub parts : LocalTypes
  pub taken : PatternAdds (w (Some (name, t, u))) p t parts
  pub signed : IsSigned (w (Some (name, t, u))).names.datatypes (w (Some (name, t, u))).of s t u
  pub given : HasType (w (Some (name, t, u))) parts body u

-- u is t with a type of its class in place of each variable
pub record IsTypeInstance (t : Term) (classes of : ℕ → Class) (u : Term) : Type 0 where
  pub put : ℕ → Term
  pub same : u ≡ substitute put t
  pub within : (v : ℕ) → IsIn of (classes v) (put v)

-- the most general of the types that fit
pub record IsPrincipal (Fits : (ℕ → Class) → Term → Type 0) (classes : ℕ → Class) (t : Term) : Type 0 where
  pub fits : Fits classes t
  pub most_general : (of : ℕ → Class) (u : Term) → Fits of u → IsTypeInstance t classes of u

-- the most general of what a function can take and give
pub record IsPrincipalFunction (Fits : (ℕ → Class) → Term → Term → Type 0) (f : FunctionType) : Type 0 where
  pub fits : Fits (class_at f.classes) f.argument f.result
  pub most_general : (of : ℕ → Class) (t u : Term) → Fits of t u → IsInstanceOf f of t u

-- its variables are numbered from 0 in the order in which they first occur, and each has a class: so a function has one
-- most general type, and not one for each way to name the variables
abbrev pub IsNumbered : FunctionType → Type 0
IsNumbered f = first_occurrences (variables f.argument ++ variables f.result) ≡ numbers_below (length f.classes)

abbrev pub IsPrincipalScheme : ((ℕ → Class) → Term → Term → Type 0) → Scheme → Type 0
IsPrincipalScheme Fits s = IsPrincipalFunction Fits (function_type s)

-- where names refer to this
module _ (known : Option (List ℕ) → Names) where
  -- the bounded types of an expression, where no local names are
  abbrev pub TypedBy : Tree → (ℕ → Class) → Term → Type 0
  TypedBy e of t = HasType (bounded (typed_names_by known None) of) [] e t

  -- what a function takes and gives
  abbrev pub TypedFunctionBy : List ℕ → PatternTree → Option SignatureTree → Tree → (ℕ → Class) → Term → Term → Type 0
  TypedFunctionBy name p s body of t u =
      HasFunctionType (λ own. bounded (typed_names_by known own) of) name p s body t u

module _ {P : Type 0} (context : List (List ℕ × Top × P)) where
  abbrev pub Typed : Tree → (ℕ → Class) → Term → Type 0
  Typed = TypedBy (names_in context)

  abbrev pub TypedFunction : List ℕ → PatternTree → Option SignatureTree → Tree → (ℕ → Class) → Term → Term → Type 0
  TypedFunction = TypedFunctionBy (names_in context)

-- a principal type with some classes of its variables
abbrev pub IsPrincipalType : ((ℕ → Class) → Term → Type 0) → Term → Type 0
IsPrincipalType Fits t = (classes : ℕ → Class) × IsPrincipal Fits classes t

-- more than one type: a variable occurs in the principal type
abbrev pub IsAmbiguous : ((ℕ → Class) → Term → Type 0) → Type 0
IsAmbiguous Fits = (t : Term) × IsPrincipalType Fits t × (IsBelow 0 t → ⊥)

abbrev pub HasNoType : ((ℕ → Class) → Term → Type 0) → Type 0
HasNoType Fits = (of : ℕ → Class) (t : Term) → Fits of t → ⊥

abbrev pub HasNoFunctionType : ((ℕ → Class) → Term → Term → Type 0) → Type 0
HasNoFunctionType Fits = (of : ℕ → Class) (t u : Term) → Fits of t u → ⊥
