-- Moves up to a round, and what comes after them.
use Rattle.std.proofs.Common.{◌≡◌, ℕ, ◌+◌, sym, ◌∙◌, ap, subst, arith, inl, inr, ◌⊎◌, List, [], ◌++◌, map, length, Vec, Result, Ok, Err, Bor, Box, Global}
use Rattle.nesl_lex.specs.declared.token.Span.{Span}
use Rattle.nesl_values.specs.View.{tree_of}
use Rattle.nesl_values.specs.declared.value.Value as code
use Rattle.nesl_eval_meaning.specs.Names.{Value}
use Rattle.nesl_eval_meaning.specs.Out.{Out, stuck, given}
use Rattle.nesl_eval_code.specs.Run.{Table}
use Rattle.nesl_eval_code.specs.Block.{Block, each, filtered}
use Rattle.nesl_eval_code.specs.Exec.{taken}
use Rattle.nesl_eval_ops.specs.declared.ops.Ops.{Ops}
use Rattle.nesl_eval_ops.specs.View.{block_of}
use Rattle.nesl_eval_nodes.specs.declared.meter.Stop.{Stop}
use Rattle.nesl_eval_rounds.specs.declared.state.Round as rounds
use Rattle.nesl_eval_rounds.specs.Rounds.{between}
use Rattle.nesl_eval_rounds.proofs.Laws.{after_none}
use Rattle.nesl_eval_machine.specs.declared.state.Machine.{Machine}
use Rattle.nesl_eval_machine.specs.declared.state.Hand.{Hand}
use Rattle.nesl_eval_machine.specs.State.{unwound, frames_of, slots_of, stack_of, env_of, local_of, left, left_with, left_at, Fits}
use Rattle.nesl_eval_machine.specs.Steps.{Stops, Steps, Moves, Rests, empty_handed}
use Rattle.nesl_eval_machine.proofs.Stepping.{steps_from, steps_after}
use Rattle.nesl_eval_machine.proofs.Taking.{many_off}
use Rattle.nesl_eval_machine.proofs.Hands.{moves_stuck, steps_move}
use Rattle.nesl_split.specs.declared.reached.Reached.{Reached}
use Rattle.nesl_split.specs.declared.reached.Reached.TheVariants.{Round, Moved}
use Rattle.nesl_split.specs.Halves.{Reaches}

reaches_stuck : (t : Table) (m n : Machine Global) (r : Result Reached Stop) (o : Out Value) → o ≡ stuck → Reaches t m r n o
reaches_stuck t m n (Ok (Round r next)) o e = inl e
reaches_stuck t m n (Ok (Moved h)) o e = inl e
reaches_stuck t m n (Err x) o e = subst (λ p. Stops (frames_of n) m.meter.fuel x n.meter.fuel p) (sym e) tt

under_stack : (t : Table) (m n : Machine Global) (s : Vec (code.Value Global) Global) (r : Result Reached Stop) (o : Out Value) → Reaches t (record m { stack = s }) r n o → Reaches t m r n o
under_stack t m n s (Ok (Round r next)) o h = h
under_stack t m n s (Ok (Moved k)) o h = h
under_stack t m n s (Err x) o h = h

-- a number of values are taken off the stack
pub many_reach : (t : Table) (m n : Machine Global) (s : Vec (code.Value Global) Global) (xs : List (code.Value Global)) (r : Result Reached Stop) (k : ℕ) (f : List Value × List Value → Out Value) →
    m.stack.items ≡ s.items ++ xs → length xs ≡ k → Fits t m →
    (Fits t (record m { stack = s }) → Reaches t (record m { stack = s }) r n (left_with t (record m { stack = s }) (f (map tree_of xs, local_of (record m { stack = s }))))) →
    Reaches t m r n (left_with t m (given (taken k (local_of m) []) f))
many_reach t m n s xs r k f is count fits next =
    elim (many_off t m s xs k f is count fits) [
      | inl e ↦ reaches_stuck t m n r _ e
      | inr e ↦ subst (Reaches t m r n) (sym e.0) (under_stack t m n s r _ (next e.1))
    ]

-- a round that begins
pub first_reached : (t : Table) (m : Machine Global) (r : Box (rounds.Round Global) Global) (next : Bor Ops) (o : Out Value) →
    ((o ≡ stuck) ⊎ (o ≡ unwound t (frames_of m) (slots_of m) (stack_of m) (between t m.levels (block_of next.now) (env_of m) (local_of m) r.value))) → Fits t m →
    Reaches t m (Ok (Round r next)) m o
first_reached t m r next o h fits =
    elim h [
      | inl e ↦ inl e
      | inr e ↦ inr (record {
        work = 0;
        spent = omega arith;
        same = e ∙ sym (after_none _);
        fits = fits;
      })
    ]

-- a round that was reached, and then what comes after it
pub round_moves : {U : Type 0} (t : Table) (m m1 n : Machine Global) (x : Result U Stop) (y : Result (Hand Global) Stop) (b : Block) (r : rounds.Round Global) (o : Out Value) → y ≡ empty_handed x →
    Rests t m.meter.fuel (Ok (tt {0})) m1 b r o →
    (Fits t m1 → Steps t m1 x n (block_of n.code.now) (unwound t (frames_of m1) (slots_of m1) (stack_of m1) (between t m1.levels b (env_of m1) (local_of m1) r))) → Moves t m y n o
round_moves t m m1 n x y b r o is h next =
    elim h [
      | inl e ↦ moves_stuck t m n y o e
      | inr l ↦ steps_move t m n x y o is
          (steps_from t m n (block_of n.code.now) x o _ l.same (steps_after t m m1 n (block_of n.code.now) x l.work _ l.spent (next l.fits)))
    ]

-- an apply-to-each that comes next
pub each_comes : (t : Table) (m n : Machine Global) (r : Result Reached Stop) (s : Span) (k : ℕ) (b x b' x' : Block) → block_of m.code.now ≡ each s k b' x' → b ≡ b' → x ≡ x' →
    Reaches t m r n (left_at t m (each s k b x)) → Reaches t m r n (left t m)
each_comes t m n r s k b x b' x' is body next h =
    subst (Reaches t m r n) (ap (left_at t m) (ap (λ y. each s k y x) body ∙ ap (each s k b') next ∙ sym is)) h

pub filtered_comes : (t : Table) (m n : Machine Global) (r : Result Reached Stop) (s : Span) (k : ℕ) (b f x b' f' x' : Block) → block_of m.code.now ≡ filtered s k b' f' x' → b ≡ b' → f ≡ f' → x ≡ x' →
    Reaches t m r n (left_at t m (filtered s k b f x)) → Reaches t m r n (left t m)
filtered_comes t m n r s k b f x b' f' x' is body filter next h =
    subst (Reaches t m r n) (ap (left_at t m) (ap (λ y. filtered s k y f x) body ∙ ap (λ y. filtered s k b' y x) filter ∙ ap (filtered s k b' f') next ∙ sym is)) h
