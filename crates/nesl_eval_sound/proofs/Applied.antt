-- A built-in function at a value of its argument's type.
use Rattle.std.proofs.Common.{◌≡◌, ℕ, Option, ap, subst, sym, ◌∙◌, arith}
use Rattle.std.proofs.lemmas.Grind.{common_steps}
use Rattle.nesl_types_shared.specs.Term as type
use Rattle.nesl_scalars.specs.declared.binary.Binary.{Binary}
use Rattle.nesl_lex.specs.declared.token.Span.{Span}
use Rattle.nesl_values.specs.Tree as values
use Rattle.nesl_types.specs.declared.classes.Class.{Class}
use Rattle.nesl_types_shared.specs.Term.{Term}
use Rattle.nesl_types.specs.Class.{class_at}
use Rattle.nesl_types_shared.specs.Substitution.{substitute}
use Rattle.nesl_types_shared.proofs.Substitutions.{substitute-substitute}
use Rattle.nesl_scalars.specs.Scalars.{unary, binary}
use Rattle.nesl_seqs_base.specs.Meaning.{outcome_of}
use Rattle.nesl_builtins.specs.declared.builtin.Builtin.{Builtin}
use Rattle.nesl_builtins.specs.declared.builtin.Builtin.TheVariants.{OfOne, OfTwo, OfSequences}
use Rattle.nesl_builtins.specs.FunctionTypes.{FunctionType, builtin_type}
use Rattle.nesl_infer_rules.specs.Typing.{IsInstanceOf}
use Rattle.nesl_eval_sound.specs.HasType.{HasType}
use Rattle.nesl_eval_sound.specs.Keeps.{OutcomeHasType, AreMembers}
use Rattle.nesl_eval_sound.specs.Functions.{ScalarsKeepTypes, of_pair}
use Rattle.nesl_eval_meaning.specs.Names.{Value}
use Rattle.nesl_eval_meaning.specs.Outcome.{apply_builtin}
use Rattle.nesl_eval_sound.specs.Sound.{IsFine, ground}
use Rattle.nesl_eval_sound.proofs.Ground.{ground_member}
use Rattle.nesl_eval_sound.proofs.Fine.{fine_on_scalars, fine_on_sequence}
use Rattle.nesl_eval_sound.proofs.Functions.{sequences_keep}

pub scalars_keep : ScalarsKeepTypes
scalars_keep = grind (arith, common_steps)

module _ (held : ℕ → Option Term) where
  -- at each instance of its type
  pub at_instance : (f : FunctionType) (of : ℕ → Class) (t u : Term) → IsInstanceOf f of t u → (P : Term → Term → Type 0)
      → ((s : ℕ → Term) → AreMembers f s → P (substitute s f.argument) (substitute s f.result)) → P (ground t) (ground u)
  at_instance f of t u h P k =
      let s : ℕ → Term = λ v. ground (h.put v) in
      let e : ground t ≡ substitute s f.argument = ap ground h.argument ∙ substitute-substitute (λ v. type.int) h.put f.argument in
      let d : ground u ≡ substitute s f.result = ap ground h.result ∙ substitute-substitute (λ v. type.int) h.put f.result in
      subst (λ x. P x (ground u)) (sym e) (subst (P (substitute s f.argument)) (sym d) (k s (λ v. ground_member of (class_at f.classes v) (h.put v) (h.within v))))

  two_applied : (s : Span) (f : Binary) (v : Value) (u : Term) → OutcomeHasType held (of_pair (binary f) v) u → IsFine (λ v. HasType held v u) (apply_builtin s (OfTwo f) v)
  two_applied s f (values.pair l r) u h = fine_on_scalars held s (binary f l r) u h
  two_applied s f v u h = absurd h

  pub fine_applied : (s : Span) (b : Builtin) (of : ℕ → Class) (t u : Term) → IsInstanceOf (builtin_type b) of t u → (v : Value) → HasType held v (ground t)
      → IsFine (λ v. HasType held v (ground u)) (apply_builtin s b v)
  fine_applied s (OfOne f) of t u h v =
      at_instance (builtin_type (OfOne f)) of t u h (λ t u. HasType held v t → IsFine (λ v. HasType held v u) (apply_builtin s (OfOne f) v))
      (λ p m j. fine_on_scalars held s (unary f v) (substitute p (builtin_type (OfOne f)).result) (scalars_keep.0 f held p m v j))
  fine_applied s (OfTwo f) of t u h v =
      at_instance (builtin_type (OfTwo f)) of t u h (λ t u. HasType held v t → IsFine (λ v. HasType held v u) (apply_builtin s (OfTwo f) v))
      (λ p m j. two_applied s f v (substitute p (builtin_type (OfTwo f)).result) (scalars_keep.1 f held p m v j))
  fine_applied s (OfSequences f) of t u h v =
      at_instance (builtin_type (OfSequences f)) of t u h (λ t u. HasType held v t → IsFine (λ v. HasType held v u) (apply_builtin s (OfSequences f) v))
      (λ p m j. fine_on_sequence held s f v (outcome_of f v) (substitute p (builtin_type (OfSequences f)).result) (sequences_keep f held p m v j))
