-- What the three calls return: the first unknown name where there is one; else that there is no bounded type; else the
-- principal type, or that it has a variable. Each may report that memory ran out instead.
use Rattle.std.specs.Prelude.{◌≡◌, ◌≢◌, ◌<◌, ◌≤◌, ℕ, List, [], Option, Some, None, Result, Ok, Err}
use Rattle.nesl_lex.specs.declared.token.Span.{Span}
use Rattle.nesl_types.specs.declared.bindings.Top.{Top}
use Rattle.nesl_types.specs.declared.classes.Class.{Class}
use Rattle.nesl_types.specs.declared.schemes.Scheme.{Scheme}
use Rattle.nesl_types_shared.specs.Numbering.{variables}
use Rattle.nesl_types_shared.specs.Term.{Term, nodes}
use Rattle.nesl_syntax_tree.specs.Trees.{TypeTree, PatternTree, Tree, SignatureTree}
use Rattle.nesl_builtins.specs.FunctionTypes.{FunctionType, function_type}
use Rattle.nesl_infer_names.specs.Firsts.{first}
use Rattle.nesl_infer_names.specs.Names.{Names, names_in, unknown_types}
use Rattle.nesl_infer.specs.Uses.{uses, uses_of_function, unknown}
use Rattle.nesl_infer.specs.declared.fault.InferFault.{InferFault}
use Rattle.nesl_infer.specs.declared.fault.InferFault.TheVariants.{Unknown, IllTyped, Ambiguous, Memory}
use Rattle.nesl_infer_rules.specs.Typing.{IsWritten}
use Rattle.nesl_infer_rules.specs.Principal.{TypedBy, TypedFunctionBy, IsPrincipalType, IsPrincipalFunction, IsNumbered}

-- the type that there is, or why there is none
pub data Verdict (T : Type 0) : Type 0 where
  typed : T → Verdict T
  unknown_at : Span → Verdict T
  ill_typed : Verdict T
  ambiguous : Verdict T

-- where names refer to this
module _ (known : Option (List ℕ) → Names) where
  -- the type of an expression
  abbrev pub IsTypeBy : Tree → Verdict Term → Type 0
  IsTypeBy e (typed t) =
      (unknown (known None) (uses [] e) ≡ []) × IsPrincipalType (TypedBy known e) t × (variables t ≡ [])
  IsTypeBy e (unknown_at s) = first (unknown (known None) (uses [] e)) ≡ Some s
  IsTypeBy e ill_typed =
      (unknown (known None) (uses [] e) ≡ []) × ((of : ℕ → Class) (t : Term) → TypedBy known e of t → ⊥)
  IsTypeBy e ambiguous =
      (unknown (known None) (uses [] e) ≡ []) × ((t : Term) × IsPrincipalType (TypedBy known e) t × (variables t ≢ []))

  -- what a function takes and gives
  abbrev pub IsFunctionBy : List ℕ → PatternTree → Option SignatureTree → Tree → Verdict FunctionType → Type 0
  IsFunctionBy x p g e (typed f) =
      (unknown (known (Some x)) (uses_of_function p e) ≡ []) × IsPrincipalFunction (TypedFunctionBy known x p g e) f ×
      IsNumbered f
  IsFunctionBy x p g e (unknown_at s) = first (unknown (known (Some x)) (uses_of_function p e)) ≡ Some s
  IsFunctionBy x p g e ill_typed =
      (unknown (known (Some x)) (uses_of_function p e) ≡ []) ×
      ((of : ℕ → Class) (t u : Term) → TypedFunctionBy known x p g e of t u → ⊥)
  IsFunctionBy x p g e ambiguous = ⊥

  -- what the records of a datatype hold
  abbrev pub IsContentBy : TypeTree → Verdict Term → Type 0
  IsContentBy a (typed t) =
      (unknown_types (known None).datatypes a ≡ []) × IsWritten (known None).datatypes a t × (nodes t ≤ 4096)
  IsContentBy a (unknown_at s) = first (unknown_types (known None).datatypes a) ≡ Some s
  IsContentBy a ill_typed =
      (unknown_types (known None).datatypes a ≡ []) ×
      (t : Term) × IsWritten (known None).datatypes a t × (4096 < nodes t)
  IsContentBy a ambiguous = ⊥

-- what a call returns: a verdict, or that memory ran out
abbrev pub AnswersVerdict : {T X : Type 0} → (X → T) → (Verdict T → Type 0) → Result X InferFault → Type 0
AnswersVerdict f Is (Ok x) = Is (typed (f x))
AnswersVerdict f Is (Err (Unknown s)) = Is (unknown_at s)
AnswersVerdict f Is (Err IllTyped) = Is ill_typed
AnswersVerdict f Is (Err Ambiguous) = Is ambiguous
AnswersVerdict f Is (Err Memory) = Unit {0}

module _ {P : Type 0} (context : List (List ℕ × Top × P)) where
  abbrev pub IsTypeOf : Tree → Result Term InferFault → Type 0
  IsTypeOf e = AnswersVerdict (λ t. t) (IsTypeBy (names_in context) e)

  abbrev pub IsSchemeFor : List ℕ → PatternTree → Option SignatureTree → Tree → Result Scheme InferFault → Type 0
  IsSchemeFor x p g e = AnswersVerdict function_type (IsFunctionBy (names_in context) x p g e)

  abbrev pub IsDatatypeFor : TypeTree → Result Term InferFault → Type 0
  IsDatatypeFor a = AnswersVerdict (λ t. t) (IsContentBy (names_in context) a)
