-- Laws of typing.
use Rattle.std.specs.Prelude.{◌≡◌, ℕ, List, [], ◌∷◌, Option, Some, None}
use Rattle.nesl_types.specs.declared.classes.Class.{Class}
use Rattle.nesl_types_shared.specs.Term.{Term}
use Rattle.nesl_types.specs.Class.{IsIn}
use Rattle.nesl_types_shared.specs.Substitution.{substitute}
use Rattle.nesl_syntax_tree.specs.Trees.{TypeTree, PatternTree, SignatureTree, Tree}
use Rattle.nesl_types.specs.declared.bindings.Top.{Top}
use Rattle.nesl_builtins.specs.FunctionTypes.{FunctionType}
use Rattle.nesl_infer_names.specs.Names.{Names}
use Rattle.nesl_infer_rules.specs.World.{TypedNames, Callable, general, single, OwnFunction, meanings_in}
use Rattle.nesl_infer_rules.specs.Typing.{LocalTypes, HasType}
use Rattle.nesl_infer_rules.specs.Principal.{unbounded}
use Rattle.nesl_infer.specs.Verdicts.{Verdict, IsTypeBy, IsFunctionBy, IsContentBy}

-- with types in place of variables: local names, what a name before `(` means, and what all names mean
abbrev pub scope_with : (ℕ → Term) → LocalTypes → LocalTypes
scope_with put [] = []
scope_with put (b ∷ bs) = (b.0, substitute put b.1) ∷ scope_with put bs

abbrev pub meaning_with : (ℕ → Term) → Callable → Callable
meaning_with put (general f) = general f
meaning_with put (single t u) = single (substitute put t) (substitute put u)

-- the datatypes hold types without variables
pub record IsWith (put : ℕ → Term) (N M : TypedNames) : Type 0 where
  pub variables : (x : List ℕ) (t : Term) → N.variables x ≡ Some t → M.variables x ≡ Some (substitute put t)
  pub functions : (x : List ℕ) (m : Callable) → N.functions x ≡ Some m → M.functions x ≡ Some (meaning_with put m)
  pub datatypes : (x : List ℕ) (d : ℕ × Term) → N.datatypes x ≡ Some d → M.datatypes x ≡ Some d
  pub closed : (x : List ℕ) (d : ℕ × Term) → N.datatypes x ≡ Some d → substitute put d.1 ≡ d.1

-- an expression that has a type has each type that results from putting types of their classes for variables, of any
-- size
abbrev pub TypingsHaveInstances : Type 0
TypingsHaveInstances =
    (of k : ℕ → Class) (put : ℕ → Term) → ((v : ℕ) → IsIn k (of v) (put v)) → (N M : TypedNames) → IsWith put N M →
    (e : Tree) (sc : LocalTypes) (t : Term) → HasType (unbounded N of) sc e t →
    HasType (unbounded M k) (scope_with put sc) e (substitute put t)

-- the function whose body an expression is in, with types in place of variables
abbrev pub own_with : (ℕ → Term) → OwnFunction → OwnFunction
own_with put None = None
own_with put (Some own) = Some (own.0, substitute put own.1, substitute put own.2)

-- names mean, with types in place of variables, what they mean where the own function has such types
abbrev pub MeaningsHaveInstances : {P : Type 0} → List (List ℕ × Top × P) → Type 0
MeaningsHaveInstances context =
    (own : OwnFunction) (put : ℕ → Term) → IsWith put (meanings_in context own) (meanings_in context (own_with put own))

-- an expression has one verdict: one type, or one reason why it has none
abbrev pub ExpressionsHaveOneVerdict : Type 0
ExpressionsHaveOneVerdict =
    (known : Option (List ℕ) → Names) (e : Tree) (v u : Verdict Term) →
    IsTypeBy known e v → IsTypeBy known e u → v ≡ u

-- so has a function, whatever way its most general type is found
abbrev pub FunctionsHaveOneVerdict : Type 0
FunctionsHaveOneVerdict =
    (known : Option (List ℕ) → Names) (x : List ℕ) (p : PatternTree) (g : Option SignatureTree) (e : Tree)
    (v u : Verdict FunctionType) → IsFunctionBy known x p g e v → IsFunctionBy known x p g e u → v ≡ u

-- and what the records of a datatype hold
abbrev pub ContentsHaveOneVerdict : Type 0
ContentsHaveOneVerdict =
    (known : Option (List ℕ) → Names) (a : TypeTree) (v u : Verdict Term) →
    IsContentBy known a v → IsContentBy known a u → v ≡ u
