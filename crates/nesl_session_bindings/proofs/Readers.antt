-- What is read of bindings, where a context lends their entries.
use Rattle.std.proofs.Common.{◌≡◌, ℕ, ◌++◌, sym, ap, subst, ◌∙◌, List, [], map, Vec, Global, Result}
use Rattle.std.specs.declared.alloc.AllocError.{AllocError}
use Rattle.std.specs.Prelude.{IfOk, codes}
use Rattle.nesl_types_shared.specs.Term.{Term}
use Rattle.nesl_syntax_tree.specs.Trees.{Tree}
use Rattle.nesl_infer_names.specs.Names.{Names, OwnName, names_in}
use Rattle.nesl_infer.specs.Verdicts.{IsTypeBy, typed}
use Rattle.nesl_infer.proofs.Closed.{none_below}
use Rattle.nesl_eval_top_level.specs.declared.env.Payload.{Payload}
use Rattle.nesl_eval_meaning.specs.Names.{Environment, Value, outside}
use Rattle.nesl_eval_meaning.specs.Out.{Out, stuck}
use Rattle.nesl_eval_meaning.specs.Outcome.{out}
use Rattle.nesl_eval_top_level.specs.Stored.{Entry, top_of}
use Rattle.nesl_reply.specs.declared.reply.Reply.{Reply}
use Rattle.nesl_reply.specs.Replies.{report_of, report_text, reply_text}
use Rattle.nesl_reply.specs.Values as replies
use Rattle.nesl_eval_sound.specs.HasType.{HasType}
use Rattle.nesl_eval_sound.specs.Inferred.{InferredTypesAreKept}
use Rattle.nesl_eval_sound.specs.Lines.{held_in}
use Rattle.nesl_eval_sound.specs.Sound.{IsFine}
use Rattle.nesl_session_bindings.specs.Known.{known, environment, datatypes_of}
use Rattle.nesl_session_bindings.specs.Stored.{bindings_of, AllFit, AreKept}
use Rattle.nesl_session_bindings.proofs.Entries.{known_is, environment_is, datatypes_are, names_are}

module _ (context es self : List Entry) (fit : AllFit es) (lent : context ≡ es) (seen : es ≡ self) where
  pub known_there : names_in context ≡ known (bindings_of self)
  known_there =
      ap (λ (xs : List Entry). names_in xs) lent ∙ sym (known_is es fit) ∙ ap (λ (xs : List Entry). known (bindings_of xs)) seen

  pub told_there : (r : Result (Vec ℕ Global) AllocError) (reply : Reply) → IfOk r (λ text. text.items ≡ reply_text context reply) →
      IfOk r (λ text. text.items ≡ report_text (datatypes_of (bindings_of self)) (map (λ b. b.name) (bindings_of self)) (report_of reply) ++ codes "\n")
  told_there r reply h =
      let same : report_text (replies.datatypes context) (map (λ b. b.0) context) (report_of reply) ≡ report_text (datatypes_of (bindings_of self)) (map (λ b. b.name) (bindings_of self)) (report_of reply) =
      ap (λ (xs : List Entry). report_text (replies.datatypes xs) (map (λ b. b.0) xs) (report_of reply)) lent
      ∙ ap (λ (ds : replies.DatatypesByTag). report_text ds (map (λ b. b.0) es) (report_of reply)) (sym (datatypes_are es fit))
      ∙ ap (λ (ns : List (List ℕ)). report_text (datatypes_of (bindings_of es)) ns (report_of reply)) (sym (names_are es))
      ∙ ap (λ (xs : List Entry). report_text (datatypes_of (bindings_of xs)) (map (λ b. b.name) (bindings_of xs)) (report_of reply)) seen in
      subst (λ (ts : List ℕ). IfOk r (λ text. text.items ≡ ts ++ codes "\n")) same h

-- what has a type is never stuck
pub never_stuck : InferredTypesAreKept {P = Payload} top_of → (es self : List Entry) (n : ℕ) → AreKept es n → es ≡ self →
    (e : Tree) (t : Term) → IsTypeBy (known (bindings_of self)) e (typed t) → (m : ℕ) → out m (environment (bindings_of self)) (outside []) e ≡ stuck → ⊥
never_stuck law es self n kept seen =
    let P : List Entry → Type 0 = λ xs. (e : Tree) (t : Term) → IsTypeBy (known (bindings_of xs)) e (typed t) → (m : ℕ) → out m (environment (bindings_of xs)) (outside []) e ≡ stuck → ⊥ in
    subst P seen (λ e t inferred m q.
    let ty = subst (λ (k : OwnName → Names). IsTypeBy k e (typed t)) (known_is es kept.fit) inferred in
    subst (λ (o : Out Value). IsFine (λ v. HasType (held_in es) v t) o) (ap (λ (env : Environment). out m env (outside []) e) (sym (environment_is es kept.fit)) ∙ q)
    (law es kept.sound e t ty.1 (none_below t ty.2) m))
