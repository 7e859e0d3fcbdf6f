-- What names mean with types in place of variables.
use Rattle.std.proofs.Common.{◌≡◌, ℕ, Bool, true, false, cond, List, refl, sym, ap, ◌∙◌, subst}
use Rattle.std.specs.Prelude.{Option, Some, None, option_map}
use Rattle.nesl_types.specs.declared.bindings.Top.{Top}
use Rattle.nesl_types.specs.declared.bindings.Top.TheVariants as top
use Rattle.nesl_types.specs.Names.{found}
use Rattle.nesl_types_shared.specs.Numbering.{IsBelow}
use Rattle.nesl_types_shared.specs.Substitution.{substitute}
use Rattle.nesl_types_shared.specs.Term.{Term, named}
use Rattle.nesl_builtins.specs.declared.builtin.Builtin.{Builtin}
use Rattle.nesl_builtins.specs.Named.{builtin_named}
use Rattle.nesl_infer_names.specs.Names.{Referent, itself, built_in, function, record_of, as_variable, as_function, as_datatype, built_in_or, is_own, hides, top_in, variable_in, function_in}
use Rattle.nesl_infer_rules.specs.World.{single, OwnFunction, own_name, callable_of, meanings_in}
use Rattle.nesl_infer_rules.specs.Contexts.{IsClosed, AreClosed}
use Rattle.nesl_infer.specs.Laws.{meaning_with, own_with, IsWith}
use Rattle.nesl_infer_rules.proofs.Applied.{closed-kept}

abbrev AllClosed : {P : Type 0} → Option (Top × P) → Type 0
AllClosed {P = P} o = (t : Top) (p : P) → o ≡ Some (t, p) → IsClosed t

variable-kept : {P : Type 0} (put : ℕ → Term) (o : Option (Top × P)) → AllClosed o → option_map (substitute put) (as_variable (option_map (λ b. b.0) o)) ≡ as_variable (option_map (λ b. b.0) o)
variable-kept put None h = refl
variable-kept put (Some (top.Variable t, p)) h = ap Some (closed-kept put t (h (top.Variable t) p refl))
variable-kept put (Some (top.Function s, p)) h = refl
variable-kept put (Some (top.Datatype tag held, p)) h = refl

-- a datatype holds a type without variables
abbrev HoldsClosed : Option Referent → Type 0
HoldsClosed o = (tag : ℕ) (held : Term) → o ≡ Some (record_of tag held) → IsBelow 0 held

same_held : (tag n : ℕ) (t u : Term) → Some (record_of tag t) ≡ Some (record_of n u) → t ≡ u
same_held tag n t u e = cc

function-closed : {P : Type 0} (o : Option (Top × P)) → AllClosed o → HoldsClosed (as_function (option_map (λ b. b.0) o))
function-closed None h tag held e = absurd cc
function-closed (Some (top.Variable t, p)) h tag held e = absurd cc
function-closed (Some (top.Function s, p)) h tag held e = absurd cc
function-closed (Some (top.Datatype n t, p)) h tag held e = subst (IsBelow 0) (same_held n tag t held e) (h (top.Datatype n t) p refl)

or-closed : (b : Option Builtin) (o : Option Referent) → HoldsClosed o → HoldsClosed (built_in_or b o)
or-closed None o h tag held e = h tag held e
or-closed (Some b) o h tag held e = absurd cc

own-closed : (own : Bool) (o : Option Referent) → HoldsClosed o → HoldsClosed (cond own (Some itself) o)
own-closed true o h tag held e = absurd cc
own-closed false o h tag held e = h tag held e

meaning-with : (put : ℕ → Term) (own : OwnFunction) (o : Option Referent) → HoldsClosed o → option_map (meaning_with put) (callable_of own o) ≡ callable_of (own_with put own) o
meaning-with put None None h = refl
meaning-with put (Some own) None h = refl
meaning-with put None (Some itself) h = refl
meaning-with put (Some own) (Some itself) h = refl
meaning-with put None (Some (built_in b)) h = refl
meaning-with put (Some own) (Some (built_in b)) h = refl
meaning-with put None (Some (function f)) h = refl
meaning-with put (Some own) (Some (function f)) h = refl
meaning-with put None (Some (record_of tag held)) h = ap (λ (t : Term). Some (single t (named tag))) (closed-kept put held (h tag held refl))
meaning-with put (Some own) (Some (record_of tag held)) h = ap (λ (t : Term). Some (single t (named tag))) (closed-kept put held (h tag held refl))

hidden-kept : (put : ℕ → Term) (hidden : Bool) (o : Option Term) → option_map (substitute put) o ≡ o → option_map (substitute put) (cond hidden None o) ≡ cond hidden None o
hidden-kept put true o e = refl
hidden-kept put false o e = e

same_record : (d k : ℕ × Term) → Some d ≡ Some k → d ≡ k
same_record d k e = cc

datatype-closed : {P : Type 0} (put : ℕ → Term) (o : Option (Top × P)) → AllClosed o → (d : ℕ × Term) → as_datatype (option_map (λ b. b.0) o) ≡ Some d → substitute put d.1 ≡ d.1
datatype-closed put None h d e = absurd cc
datatype-closed put (Some (top.Variable t, p)) h d e = absurd cc
datatype-closed put (Some (top.Function s, p)) h d e = absurd cc
datatype-closed put (Some (top.Datatype n t, p)) h d e =
    subst (λ (k : ℕ × Term). substitute put k.1 ≡ k.1) (same_record (n, t) d e) (closed-kept put t (h (top.Datatype n t) p refl))

same_name : (put : ℕ → Term) (own : OwnFunction) → own_name (own_with put own) ≡ own_name own
same_name put None = refl
same_name put (Some own) = refl

pub meant-with : {P : Type 0} (context : List (List ℕ × Top × P)) → AreClosed context → (own : OwnFunction) (put : ℕ → Term) → IsWith put (meanings_in context own) (meanings_in context (own_with put own))
meant-with context h own put = record {
  variables = λ x t e.
      let kept = hidden-kept put (hides (own_name own) x) (as_variable (top_in context x)) (variable-kept put (found x context) (h x)) in
      ap (λ n. variable_in context n x) (same_name put own) ∙ sym kept ∙ ap (option_map (substitute put)) e;
  functions = λ x m e.
      let closed = own-closed (is_own (own_name own) x) (built_in_or (builtin_named x) (as_function (top_in context x))) (or-closed (builtin_named x) (as_function (top_in context x)) (function-closed (found x context) (h x))) in
      ap (λ n. callable_of (own_with put own) (function_in context n x)) (same_name put own) ∙ sym (meaning-with put own (function_in context (own_name own) x) closed) ∙ ap (option_map (meaning_with put)) e;
  datatypes = λ x d e. e;
  closed = λ x d e. datatype-closed put (found x context) (h x) d e;
}
