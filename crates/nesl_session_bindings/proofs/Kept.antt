-- What is kept of the entries where a name is set.
use Rattle.std.proofs.Common.{◌≡◌, ℕ, ◌+◌, ◌<◌, arith, refl, sym, ap, subst, ◌∙◌, List, [], Option, None, Global}
use Rattle.nesl_types.specs.declared.bindings.Top as kinds
use Rattle.nesl_types.specs.declared.bindings.Top.TheVariants as kind
use Rattle.nesl_types.specs.declared.schemes.Scheme.{Scheme}
use Rattle.nesl_types.specs.Names.{with_name}
use Rattle.nesl_types_shared.specs.Term.{Term, nodes}
use Rattle.nesl_values.specs.declared.value.Value.{Value}
use Rattle.nesl_values.specs.Tree.{size}
use Rattle.nesl_values.specs.View.{tree_of}
use Rattle.nesl_syntax_tree.specs.declared.tree.Exp.{Exp}
use Rattle.nesl_syntax_tree.specs.declared.tree.Pattern.{Pattern}
use Rattle.nesl_syntax_tree.specs.Trees.{SignatureTree, TypeTree}
use Rattle.nesl_syntax_tree.specs.Views as syntax
use Rattle.nesl_builtins.specs.FunctionTypes.{function_type}
use Rattle.nesl_infer_names.specs.Names.{Names, OwnName}
use Rattle.nesl_infer.specs.Verdicts.{IsTypeBy, IsFunctionBy, IsContentBy, typed}
use Rattle.nesl_infer.proofs.Closed.{none_below}
use Rattle.nesl_eval_top_level.specs.declared.env.Payload.{Payload}
use Rattle.nesl_eval_top_level.specs.declared.env.Payload.TheVariants as payload
use Rattle.nesl_eval_meaning.specs.Names.{Name, Environment, outside}
use Rattle.nesl_eval_meaning.specs.Outcome.{out}
use Rattle.nesl_eval_top_level.specs.Stored.{Entry, top_of}
use Rattle.nesl_eval_sound.specs.Lines as lines
use Rattle.nesl_eval_sound.specs.Lines.{IsSound}
use Rattle.nesl_eval_sound.specs.Inferred.{InferredVariablesStaySound, InferredFunctionsStaySound, WrittenDatatypesStaySound}
use Rattle.nesl_session_bindings.specs.Others.{other_elements}
use Rattle.nesl_session_bindings.specs.Known.{known, datatype_count, put_binding}
use Rattle.nesl_session_bindings.specs.Meanings.{Meaning, elements_in, elements_of, nodes_in}
use Rattle.nesl_session_bindings.specs.Redefinition.{RefusesDefinition, a_variable, a_function, a_datatype}
use Rattle.nesl_session_bindings.specs.Stored.{meaning_of, bindings_of, AreKept, IsComputed}
use Rattle.nesl_session_bindings.proofs.Counts.{put_elements}
use Rattle.nesl_session_bindings.proofs.Entries.{known_is, environment_is, put_is, fit_after, count_is}
use Rattle.nesl_session_bindings.proofs.Free.{variable_free, function_free, nothing_there}

module _ (es : List Entry) (n : ℕ) (kept : AreKept es n) (x : Name) where
  counted : (t : kinds.Top) (p : Payload) (m : ℕ) → m ≡ other_elements x (bindings_of es) + elements_in (meaning_of t p) →
      elements_of (bindings_of (with_name x t p es)) ≡ m
  counted t p m e = ap elements_of (put_is x t p es) ∙ put_elements x (meaning_of t p) (bindings_of es) ∙ sym e

  pub variable_kept : InferredVariablesStaySound {P = Payload} top_of → (t : Term) (v : Value Global) → IsComputed (bindings_of es) t (tree_of v) →
      RefusesDefinition (bindings_of es) x (a_variable t) None → (m : ℕ) → m ≡ other_elements x (bindings_of es) + size (tree_of v) →
      AreKept (with_name x (kind.Variable t) (payload.Variable v) es) m
  variable_kept law t v (e, levels, w, d, inferred, came) free m count =
      let ty = subst (λ (k : OwnName → Names). IsTypeBy k e (typed t)) (known_is es kept.fit) inferred in
      record {
        fit = fit_after x (kind.Variable t) (payload.Variable v) tt es kept.fit;
        sound = law es kept.sound x e t ty.1 (none_below t ty.2) (variable_free es kept.fit x t free) levels w d (tree_of v)
            (ap (λ (env : Environment). out levels env (outside []) e) (sym (environment_is es kept.fit)) ∙ came) (payload.Variable v) refl;
        counted = counted (kind.Variable t) (payload.Variable v) m count;
      }

  pub function_kept : InferredFunctionsStaySound {P = Payload} top_of → (s : Scheme) (p : Pattern) (e : Exp) →
      (g : Option SignatureTree) × IsFunctionBy (known (bindings_of es)) x (syntax.pattern_tree p) g (syntax.tree_of e) (typed (function_type s)) →
      RefusesDefinition (bindings_of es) x (a_function (function_type s)) None → (m : ℕ) → m ≡ other_elements x (bindings_of es) + nodes_in (syntax.tree_of e) →
      AreKept (with_name x (kind.Function s) (payload.Function p e) es) m
  function_kept law s p e (g, inferred) free m count =
      let ty = subst (λ (k : OwnName → Names). IsFunctionBy k x (syntax.pattern_tree p) g (syntax.tree_of e) (typed (function_type s))) (known_is es kept.fit) inferred in
      record {
        fit = fit_after x (kind.Function s) (payload.Function p e) tt es kept.fit;
        sound = law es kept.sound x (syntax.pattern_tree p) g (syntax.tree_of e) s ty.1 (function_free es kept.fit x s free) (payload.Function p e) refl;
        counted = counted (kind.Function s) (payload.Function p e) m count;
      }

  pub datatype_kept : WrittenDatatypesStaySound {P = Payload} top_of → (tag : ℕ) → tag ≡ lines.datatypes es → (t : Term) →
      (a : TypeTree) × IsContentBy (known (bindings_of es)) a (typed t) → RefusesDefinition (bindings_of es) x a_datatype None → (m : ℕ) → m ≡ other_elements x (bindings_of es) + nodes t →
      AreKept (with_name x (kind.Datatype tag t) payload.Datatype es) m
  datatype_kept law tag same t (a, written) free m count =
      let ty = subst (λ (k : OwnName → Names). IsContentBy k a (typed t)) (known_is es kept.fit) written in
      let F : ℕ → Type 0 = λ k. IsSound top_of (with_name x (kind.Datatype k t) payload.Datatype es) in
      record {
        fit = fit_after x (kind.Datatype tag t) payload.Datatype tt es kept.fit;
        sound = subst F (sym same) (law es kept.sound x a t ty.1 (nothing_there es kept.fit x free) payload.Datatype refl);
        counted = counted (kind.Datatype tag t) payload.Datatype m count;
      }

-- where a name was set in the entries that a value shows
module _ (es self new : List Entry) (x : Name) (seen : es ≡ self) where
  pub set_is : (t : kinds.Top) (p : Payload) → new ≡ with_name x t p es → bindings_of new ≡ put_binding x (meaning_of t p) (bindings_of self)
  set_is t p e =
      ap (λ (bs : List Entry). bindings_of bs) e ∙ put_is x t p es ∙ ap (λ (bs : List Entry). put_binding x (meaning_of t p) (bindings_of bs)) seen

  -- their elements are few enough
  pub few_enough : (m : Meaning) (limit a b : ℕ) → a ≡ other_elements x (bindings_of es) → b ≡ elements_in m →
      elements_of (put_binding x m (bindings_of self)) < limit → a + b < limit
  few_enough m limit a b e f h =
      let same : other_elements x (bindings_of es) ≡ other_elements x (bindings_of self) = ap (λ (bs : List Entry). other_elements x (bindings_of bs)) seen in
      omega (arith, same, e, f, h, put_elements x m (bindings_of self))

  module _ (n a b : ℕ) (kept : AreKept es n) (beside : a ≡ other_elements x (bindings_of es)) where
    sum : (k : ℕ) → b ≡ k → a + b ≡ other_elements x (bindings_of es) + k
    sum k f = omega (arith, beside, f)

    pub variable_set : InferredVariablesStaySound {P = Payload} top_of → (t : Term) (v : Value Global) → IsComputed (bindings_of self) t (tree_of v) →
        RefusesDefinition (bindings_of self) x (a_variable t) None → new ≡ with_name x (kind.Variable t) (payload.Variable v) es → b ≡ size (tree_of v) → AreKept new (a + b)
    variable_set law t v computed free e f =
        let P : List Entry → Type 0 = λ bs. AreKept bs (a + b) in
        let C : List Entry → Type 0 = λ bs. IsComputed (bindings_of bs) t (tree_of v) in
        let R : List Entry → Type 0 = λ bs. RefusesDefinition (bindings_of bs) x (a_variable t) None in
        subst P (sym e) (variable_kept es n kept x law t v (subst C (sym seen) computed) (subst R (sym seen) free) (a + b) (sum (size (tree_of v)) f))

    pub function_set : InferredFunctionsStaySound {P = Payload} top_of → (s : Scheme) (p : Pattern) (d : Exp) →
        (g : Option SignatureTree) × IsFunctionBy (known (bindings_of self)) x (syntax.pattern_tree p) g (syntax.tree_of d) (typed (function_type s)) →
        RefusesDefinition (bindings_of self) x (a_function (function_type s)) None → new ≡ with_name x (kind.Function s) (payload.Function p d) es →
        b ≡ nodes_in (syntax.tree_of d) → AreKept new (a + b)
    function_set law s p d inferred free e f =
        let P : List Entry → Type 0 = λ bs. AreKept bs (a + b) in
        let C : List Entry → Type 0 = λ bs. (g : Option SignatureTree) × IsFunctionBy (known (bindings_of bs)) x (syntax.pattern_tree p) g (syntax.tree_of d) (typed (function_type s)) in
        let R : List Entry → Type 0 = λ bs. RefusesDefinition (bindings_of bs) x (a_function (function_type s)) None in
        subst P (sym e) (function_kept es n kept x law s p d (subst C (sym seen) inferred) (subst R (sym seen) free) (a + b) (sum (nodes_in (syntax.tree_of d)) f))

    pub datatype_set : WrittenDatatypesStaySound {P = Payload} top_of → (tag : ℕ) → tag ≡ lines.datatypes es → (t : Term) →
        (w : TypeTree) × IsContentBy (known (bindings_of self)) w (typed t) → RefusesDefinition (bindings_of self) x a_datatype None →
        new ≡ with_name x (kind.Datatype tag t) payload.Datatype es → b ≡ nodes t → AreKept new (a + b)
    datatype_set law tag same t written free e f =
        let P : List Entry → Type 0 = λ bs. AreKept bs (a + b) in
        let C : List Entry → Type 0 = λ bs. (w : TypeTree) × IsContentBy (known (bindings_of bs)) w (typed t) in
        let R : List Entry → Type 0 = λ bs. RefusesDefinition (bindings_of bs) x a_datatype None in
        subst P (sym e) (datatype_kept es n kept x law tag same t (subst C (sym seen) written) (subst R (sym seen) free) (a + b) (sum (nodes t) f))

    -- the tag is that of the next datatype
    pub tag_is_next : (tag : ℕ) → tag ≡ lines.datatypes es → tag ≡ datatype_count (bindings_of self)
    tag_is_next tag e = e ∙ sym (count_is es kept.fit) ∙ ap (λ (bs : List Entry). datatype_count (bindings_of bs)) seen
