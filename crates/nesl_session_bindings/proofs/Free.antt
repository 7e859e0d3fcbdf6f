-- What is not refused may be defined.
use Rattle.std.proofs.Common.{◌≡◌, ℕ, true, false, refl, sym, ap, subst, ◌∙◌, List, Option, Some, None}
use Rattle.std.specs.Prelude.{option_map, is_some, ◌||◌, ◌&&◌}
use Rattle.std.specs.Str.{bytes_eq}
use Rattle.std.proofs.lemmas.Bool.{both_ways, or_parts}
use Rattle.nesl_types_shared.specs.Term.{Term}
use Rattle.nesl_types.specs.declared.bindings.Top as kinds
use Rattle.nesl_types.specs.declared.bindings.Top.TheVariants as kind
use Rattle.nesl_types.specs.declared.schemes.Scheme.{Scheme}
use Rattle.nesl_types.specs.Names.{found}
use Rattle.nesl_builtins.specs.Named.{builtin_named}
use Rattle.nesl_builtins.specs.FunctionTypes.{function_type}
use Rattle.nesl_infer_names.specs.Names.{top_in}
use Rattle.nesl_eval_top_level.specs.declared.env.Payload.{Payload}
use Rattle.nesl_eval_top_level.specs.declared.env.Payload.TheVariants as payload
use Rattle.nesl_eval_meaning.specs.Names.{Name}
use Rattle.nesl_eval_top_level.specs.Stored.{Entry, top_of}
use Rattle.nesl_eval_sound.specs.Refers.{is_referred}
use Rattle.nesl_eval_sound.specs.Referred.{is_named_elsewhere}
use Rattle.nesl_eval_sound.proofs.Referred.{same_elsewhere}
use Rattle.nesl_eval_sound.specs.Lines.{IsRedefinable, IsUnchanged, is_type, values_of}
use Rattle.nesl_session_bindings.specs.Known.{meaning_in, environment}
use Rattle.nesl_session_bindings.specs.Meanings.{Meaning, variable, function, datatype}
use Rattle.nesl_session_bindings.specs.Redefinition.{Definition, a_variable, a_function, a_datatype, ChangesType, RefusesDefinition, is_in_use, is_taken, is_no_variable, it}
use Rattle.nesl_session_bindings.specs.Stored.{PayloadFits, meaning_of, bindings_of, AllFit}
use Rattle.nesl_session_bindings.proofs.Entries.{meaning_found, found-fits, environment_is}
use Rattle.nesl_session_bindings.proofs.Stable.{stable_term, stable_scheme}

-- a datatype keeps its name, and each name is kept where a datatype is to be defined
pub kept_type : (t : kinds.Top) (p : Payload) → PayloadFits t p → is_type t ≡ true → (k : Definition) → is_in_use (Some (meaning_of t p)) k ≡ true
kept_type (kind.Variable t) p f e k = absurd cc
kept_type (kind.Function s) p f e k = absurd cc
kept_type (kind.Datatype tag t) (payload.Variable v) f e k = absurd f
kept_type (kind.Datatype tag t) (payload.Function p b) f e k = absurd f
kept_type (kind.Datatype tag t) payload.Datatype f e (a_variable u) = refl
kept_type (kind.Datatype tag t) payload.Datatype f e (a_function g) = refl
kept_type (kind.Datatype tag t) payload.Datatype f e a_datatype = refl

pub kept_bound : (m : Meaning) → is_in_use (Some m) a_datatype ≡ true
kept_bound (variable t v) = refl
kept_bound (function f p e) = refl
kept_bound (datatype tag t) = refl

-- what was not other is unchanged
variable_same : (u : kinds.Top) (p : Payload) → PayloadFits u p → (t : Term) → (is_type u ≡ true → ⊥) →
    (ChangesType (Some (meaning_of u p)) (a_variable t) → ⊥) → IsUnchanged (Some u) (Some (kind.Variable t))
variable_same (kind.Variable a) (payload.Variable v) f t d h = stable_term a t h
variable_same (kind.Function s) (payload.Function p e) f t d h = h tt
variable_same (kind.Datatype tag a) payload.Datatype f t d h = absurd (d refl)
variable_same _ _ f t d h = absurd f

function_same : (u : kinds.Top) (p : Payload) → PayloadFits u p → (s : Scheme) → (is_type u ≡ true → ⊥) →
    (ChangesType (Some (meaning_of u p)) (a_function (function_type s)) → ⊥) → IsUnchanged (Some u) (Some (kind.Function s))
function_same (kind.Variable a) (payload.Variable v) f s d h = h tt
function_same (kind.Function g) (payload.Function p e) f s d h = stable_scheme g s h
function_same (kind.Datatype tag a) payload.Datatype f s d h = absurd (d refl)
function_same _ _ f s d h = absurd f

module _ (es : List Entry) (fit : AllFit es) (x : Name) where
  meant : (o : Option (kinds.Top × Payload)) → o ≡ found x es → meaning_in (bindings_of es) x ≡ option_map (λ b. meaning_of b.0 b.1) o
  meant o e = meaning_found x es ∙ ap (option_map (λ b. meaning_of b.0 b.1)) (sym e)

  not_kept : (k : Definition) → is_taken (bindings_of es) x k ≡ false → is_in_use (meaning_in (bindings_of es) x) k ≡ false
  not_kept k h =
      (or_parts (is_some (builtin_named x)) (is_in_use (meaning_in (bindings_of es) x) k)
      (or_parts (is_some (builtin_named x) || is_in_use (meaning_in (bindings_of es) x) k) (bytes_eq x it && is_no_variable k) h).0).1

  -- what stands there is no datatype
  no_type : (k : Definition) → is_taken (bindings_of es) x k ≡ false → (u : kinds.Top) (p : Payload) → Some (u, p) ≡ found x es → is_type u ≡ true → ⊥
  no_type k h u p e t =
      both_ways (is_in_use (meaning_in (bindings_of es) x) k) (not_kept k h)
      (ap (λ o. is_in_use o k) (meant (Some (u, p)) e) ∙ kept_type u p (found-fits x es fit u p e) t k)

  no_datatype : (k : Definition) → is_taken (bindings_of es) x k ≡ false → (tag : ℕ) (t : Term) → top_in es x ≡ Some (kind.Datatype tag t) → ⊥
  no_datatype k h tag t q = by (found x es) refl q
    where
      by : (o : Option (kinds.Top × Payload)) → o ≡ found x es → option_map (λ b. b.0) o ≡ Some (kind.Datatype tag t) → ⊥
      by None e q = cc
      by (Some (u, p)) e q = let same : u ≡ kind.Datatype tag t = cc in no_type k h u p e (ap is_type same)

  -- no name stands where a datatype may be defined
  pub nothing_there : RefusesDefinition (bindings_of es) x a_datatype None → found x es ≡ None
  nothing_there h = by (found x es) refl
    where
      by : (o : Option (kinds.Top × Payload)) → o ≡ found x es → o ≡ None
      by None e = refl
      by (Some (u, p)) e =
          absurd (both_ways (is_in_use (meaning_in (bindings_of es) x) a_datatype) (not_kept a_datatype h.1)
          (ap (λ o. is_in_use o a_datatype) (meant (Some (u, p)) e) ∙ kept_bound (meaning_of u p)))

  referred : is_referred x (values_of top_of es) ≡ true → is_named_elsewhere x (environment (bindings_of es)) ≡ true
  referred h = same_elsewhere x (environment (bindings_of es)) ∙ ap (is_referred x) (environment_is es fit) ∙ h

  pub variable_free : (t : Term) → RefusesDefinition (bindings_of es) x (a_variable t) None → IsRedefinable top_of es x (kind.Variable t)
  variable_free t h = record {
    no_datatype = no_datatype (a_variable t) h.1;
    no_retype = λ r. by (found x es) refl r;
  }
    where
      by : (o : Option (kinds.Top × Payload)) → o ≡ found x es → is_referred x (values_of top_of es) ≡ true →
          IsUnchanged (option_map (λ b. b.0) o) (Some (kind.Variable t))
      by None e r = tt
      by (Some (u, p)) e r =
          variable_same u p (found-fits x es fit u p e) t (no_type (a_variable t) h.1 u p e)
          (λ other. h.0 (referred r, subst (λ m. ChangesType m (a_variable t)) (sym (meant (Some (u, p)) e)) other))

  pub function_free : (s : Scheme) → RefusesDefinition (bindings_of es) x (a_function (function_type s)) None → IsRedefinable top_of es x (kind.Function s)
  function_free s h = record {
    no_datatype = no_datatype (a_function (function_type s)) h.1;
    no_retype = λ r. by (found x es) refl r;
  }
    where
      by : (o : Option (kinds.Top × Payload)) → o ≡ found x es → is_referred x (values_of top_of es) ≡ true →
          IsUnchanged (option_map (λ b. b.0) o) (Some (kind.Function s))
      by None e r = tt
      by (Some (u, p)) e r =
          function_same u p (found-fits x es fit u p e) s (no_type (a_function (function_type s)) h.1 u p e)
          (λ other. h.0 (referred r, subst (λ m. ChangesType m (a_function (function_type s))) (sym (meant (Some (u, p)) e)) other))
