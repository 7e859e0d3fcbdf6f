-- Outcomes that are no stuck ones, put together.
use Rattle.std.proofs.Common.{ℕ, Bool, true, false, cond, nat_le, List, [], ◌∷◌, Option, Some, None}
use Rattle.nesl_lex.specs.declared.token.Span.{Span}
use Rattle.nesl_values.specs.Tree.{size}
use Rattle.nesl_types_shared.specs.Term.{Term}
use Rattle.nesl_scalars.specs.Outcomes as outcomes
use Rattle.nesl_scalars.specs.declared.trap.Trap.{Trap}
use Rattle.nesl_scalars.specs.declared.trap.Trap.TheVariants.{Large}
use Rattle.nesl_seqs_base.specs.declared.seq_fn.SeqFn.{SeqFn}
use Rattle.nesl_eval_sound.specs.HasType.{HasType}
use Rattle.nesl_eval_sound.specs.Keeps.{OutcomeHasType}
use Rattle.nesl_eval_meaning.specs.Names.{Value}
use Rattle.nesl_eval_meaning.specs.Out.{Out, value, fault, stuck, after_cost, and_then, given, at_call, beside}
use Rattle.nesl_eval_meaning.specs.Out.{all_beside}
use Rattle.nesl_eval_meaning.specs.Outcome.{small_enough, on_scalars, on_sequence}
use Rattle.nesl_eval_sound.specs.Sound.{IsFine}
use Rattle.nesl_eval_sound.proofs.Each.{Each, Reads, each_append}

pub fine_added : {X : Type 0} (P : X → Type 0) (w d : ℕ) (o : Out X) → IsFine P o → IsFine P (after_cost w d o)
fine_added P w d (value x w' d') h = h
fine_added P w d (fault t s w') h = tt
fine_added P w d stuck h = absurd h

pub fine_then : {X Y : Type 0} (P : X → Type 0) (Q : Y → Type 0) (o : Out X) (k : X → Out Y) → IsFine P o → ((x : X) → P x → IsFine Q (k x)) → IsFine Q (and_then o k)
fine_then P Q (value x w d) k h j = fine_added Q w d (k x) (j x h)
fine_then P Q (fault t s w) k h j = tt
fine_then P Q stuck k h j = absurd h

pub fine_given : {X Y : Type 0} (P : X → Type 0) (Q : Y → Type 0) (o : Option X) (k : X → Out Y) → Reads o P → ((x : X) → P x → IsFine Q (k x)) → IsFine Q (given o k)
fine_given P Q (Some x) k h j = j x h
fine_given P Q None k h j = absurd h

pub fine_at_call : {X : Type 0} (P : X → Type 0) (s : Span) (o : Out X) → IsFine P o → IsFine P (at_call s o)
fine_at_call P s (value x w d) h = h
fine_at_call P s (fault t s' w) h = tt
fine_at_call P s stuck h = absurd h

pub fine_weaker : {X : Type 0} (P Q : X → Type 0) (o : Out X) → IsFine P o → ((x : X) → P x → Q x) → IsFine Q o
fine_weaker P Q (value x w d) h j = j x h
fine_weaker P Q (fault t s w) h j = tt
fine_weaker P Q stuck h j = absurd h

pub fine_beside : {X : Type 0} (P : X → Type 0) (o p : Out (List X)) → IsFine (Each P) o → IsFine (Each P) p → IsFine (Each P) (beside o p)
fine_beside P (value xs w d) (value ys w' d') h k = each_append P xs ys h k
fine_beside P (value xs w d) (fault t s w') h k = tt
fine_beside P (value xs w d) stuck h k = absurd k
fine_beside P (fault t s w) p h k = tt
fine_beside P stuck p h k = absurd h

pub fine_all : {I X : Type 0} (Q : I → Type 0) (P : X → Type 0) (f : I → Out (List X)) (is : List I) → Each Q is → ((i : I) → Q i → IsFine (Each P) (f i)) → IsFine (Each P) (all_beside f is)
fine_all Q P f [] h j = tt
fine_all Q P f (i ∷ is) h j = fine_beside P (f i) (all_beside f is) (j i h.0) (fine_all Q P f is h.1 j)

pub fine_or_fault : {X : Type 0} (P : X → Type 0) (c : Bool) (x : X) (t : Trap) (s : Span) → P x → IsFine P (cond c (value x 0 0) (fault t s 0))
fine_or_fault P true x t s h = h
fine_or_fault P false x t s h = tt

module _ (held : ℕ → Option Term) where
  pub fine_made : (s : Span) (v : Value) (t : Term) → HasType held v t → IsFine (λ v. HasType held v t) (small_enough s v)
  fine_made s v t h = fine_or_fault (λ v. HasType held v t) (nat_le (size v) 1048576) v Large s h

  pub fine_on_scalars : (s : Span) (o : outcomes.Outcome) (t : Term) → OutcomeHasType held o t → IsFine (λ v. HasType held v t) (on_scalars s o)
  fine_on_scalars s (outcomes.gives v) t h = h
  fine_on_scalars s (outcomes.traps e) t h = tt
  fine_on_scalars s outcomes.undefined t h = absurd h

  pub fine_on_sequence : (s : Span) (f : SeqFn) (v : Value) (o : outcomes.Outcome) (t : Term) → OutcomeHasType held o t → IsFine (λ v. HasType held v t) (on_sequence s f v o)
  fine_on_sequence s f v (outcomes.gives u) t h = h
  fine_on_sequence s f v (outcomes.traps e) t h = tt
  fine_on_sequence s f v outcomes.undefined t h = absurd h
