-- What is inferred keeps the bindings sound.
use Rattle.std.specs.Prelude.{◌≡◌, ℕ, List, [], Option, None}
use Rattle.nesl_types.specs.declared.bindings.Top.{Top}
use Rattle.nesl_types.specs.declared.bindings.Top.TheVariants as top
use Rattle.nesl_types.specs.declared.schemes.Scheme.{Scheme}
use Rattle.nesl_types.specs.Names.{found, with_name}
use Rattle.nesl_types_shared.specs.Term.{Term}
use Rattle.nesl_syntax_tree.specs.Trees.{PatternTree, Tree, TypeTree, SignatureTree}
use Rattle.nesl_infer_names.specs.Names.{datatype_in}
use Rattle.nesl_infer_rules.specs.Contexts.{AreClosed}
use Rattle.nesl_infer_rules.specs.Typing.{IsWritten}
use Rattle.nesl_infer_rules.specs.Principal.{IsPrincipalType, IsPrincipalScheme, Typed, TypedFunction}
use Rattle.nesl_eval_meaning.specs.Names.{Name, Value, variable_of, function_of, datatype_of, outside}
use Rattle.nesl_eval_meaning.specs.Names as evaluated
use Rattle.nesl_eval_meaning.specs.Out.{value}
use Rattle.nesl_eval_meaning.specs.Outcome.{out}
use Rattle.nesl_eval_sound.specs.HasType.{HasType}
use Rattle.nesl_eval_sound.specs.Sound.{IsFine, IsGround}
use Rattle.nesl_eval_sound.specs.Lines.{IsSound, IsRedefinable, values_of, held_in, datatypes}

module _ {P : Type 0} (seen : Top → P → evaluated.Top) where
  -- sound bindings are closed, as inference needs them: neither the type of a variable nor a datatype has a type
  -- variable
  abbrev pub SoundIsClosed : Type 0
  SoundIsClosed = (bs : List (List ℕ × Top × P)) → IsSound seen bs → AreClosed bs

  -- an expression whose principal type has no variable is never stuck, and its value has this type
  abbrev pub InferredTypesAreKept : Type 0
  InferredTypesAreKept = (bs : List (List ℕ × Top × P)) → IsSound seen bs → (e : Tree) (t : Term) →
      IsPrincipalType (Typed bs e) t → IsGround t →
      (n : ℕ) → IsFine (λ v. HasType (held_in bs) v t) (out n (values_of seen bs) (outside []) e)

  -- `x = e;`, where the principal type has no variable
  abbrev pub InferredVariablesStaySound : Type 0
  InferredVariablesStaySound = (bs : List (List ℕ × Top × P)) → IsSound seen bs → (x : Name) (e : Tree) (t : Term) →
      IsPrincipalType (Typed bs e) t → IsGround t → IsRedefinable seen bs x (top.Variable t) →
      (n w d : ℕ) (v : Value) → out n (values_of seen bs) (outside []) e ≡ value v w d →
      (q : P) → seen (top.Variable t) q ≡ variable_of v → IsSound seen (with_name x (top.Variable t) q bs)

  -- `function x p : sig = e;`, with the principal scheme
  abbrev pub InferredFunctionsStaySound : Type 0
  InferredFunctionsStaySound = (bs : List (List ℕ × Top × P)) → IsSound seen bs → (x : Name) (p : PatternTree) →
      (sig : Option SignatureTree) (e : Tree) (s : Scheme) → IsPrincipalScheme (TypedFunction bs x p sig e) s →
      IsRedefinable seen bs x (top.Function s) → (q : P) → seen (top.Function s) q ≡ function_of p e →
      IsSound seen (with_name x (top.Function s) q bs)

  -- `datatype x a;`, where the written type a is t
  abbrev pub WrittenDatatypesStaySound : Type 0
  WrittenDatatypesStaySound = (bs : List (List ℕ × Top × P)) → IsSound seen bs → (x : Name) (a : TypeTree) (t : Term) →
      IsWritten (datatype_in bs) a t → found x bs ≡ None →
      (q : P) → seen (top.Datatype (datatypes bs) t) q ≡ datatype_of (datatypes bs) →
      IsSound seen (with_name x (top.Datatype (datatypes bs) t) q bs)
