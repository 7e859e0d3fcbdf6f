-- Turns that are taken in columns.
use Rattle.std.proofs.Common.{◌≡◌, ℕ, ◌-◌, sym, ◌∙◌, ap, subst, arith, inl, inr, List, [], map, length, take, drop, Result, Ok, Err, Some}
use Rattle.std.specs.Prelude.{MatchResult}
use Rattle.std.proofs.lemmas.Grind.{common_steps}
use Rattle.std.proofs.lemmas.List.{drop-map}
use Rattle.nesl_values.specs.View.{tree_of}
use Rattle.nesl_values.specs.declared.value.Value as code
use Rattle.nesl_eval_meaning.specs.Names.{Value}
use Rattle.nesl_eval_meaning.specs.Out.{Out}
use Rattle.nesl_eval_code.specs.Run.{Table}
use Rattle.nesl_eval_code.specs.Block.{Block, finish}
use Rattle.nesl_eval_nodes.specs.declared.meter.Stop.{Stop}
use Rattle.nesl_eval_nodes.specs.declared.meter.Stop.TheVariants.{Memory}
use Rattle.nesl_eval_rounds.specs.declared.state.Round.{Round}
use Rattle.nesl_eval_machine.specs.declared.state.Machine.{Machine}
use Rattle.nesl_eval_rounds.specs.Rounds.{between}
use Rattle.nesl_eval_machine.specs.State.{places_of, unwound, frames_of, slots_of, stack_of, env_of, local_of, Fits}
use Rattle.nesl_eval_rounds.specs.Leads.{Took}
use Rattle.nesl_eval_machine.specs.Steps.{Advances, Steps}
use Rattle.nesl_eval_machine.proofs.Unwinding.{unwound_stuck, unwound_after}
use Rattle.nesl_eval_machine.proofs.Stepping.{steps_stuck, steps_from, steps_after}
use Rattle.nesl_eval_rounds.proofs.Columned.{took_then}

-- the values of the local names that a block sees
pub env_there : {A : Type 0} (k : ℕ) (xs ds : List (code.Value A)) → ds ≡ xs → places_of (take (length ds - k) (drop k ds)) ≡ drop k (places_of xs)
env_there k xs ds e = ap places_of (rest_of k ds ∙ ap (drop k) e) ∙ sym (drop-map Some k (map tree_of xs) ∙ ap (map Some) (drop-map tree_of k xs))
  where
    rest_of : {X : Type 0} (k : ℕ) (xs : List X) → take (length xs - k) (drop k xs) ≡ drop k xs
    rest_of k xs = grind (arith, common_steps)

-- what a machine evaluates to whose round is between two turns
abbrev pub at_rest : {A : Type 0} → Table → Machine A → Block → Round A → Out Value
at_rest t m b r = unwound t (frames_of m) (slots_of m) (stack_of m) (between t m.levels b (env_of m) (local_of m) r)

-- turns that were taken, and then more of them, by a machine that differs in its meter alone
pub advances_then : {A U V : Type 0} (t : Table) (m m1 n : Machine A) (u : U) (x : Result V Stop) (r0 r1 r2 r3 : Round A) → m1 ≡ record m { meter = m1.meter } →
    Advances t m (Ok u) m1 r0 r1 → ((b : Block) (st : List Value) → between t m.levels b (env_of m) st r1 ≡ between t m.levels b (env_of m) st r2) →
    Advances t m1 x n r2 r3 → Advances t m x n r0 r3
advances_then t m m1 n u (Ok v) r0 r1 r2 r3 same one on two =
    let then : Advances t (record m { meter = m1.meter }) (Ok v) n r2 r3 = subst (λ y. Advances t y (Ok v) n r2 r3) same two in
    λ b st. took_then m.meter.fuel m1.meter.fuel n.meter.fuel _ _ _ (one b st)
    (subst (λ o. Took m1.meter.fuel n.meter.fuel o (between t m.levels b (env_of m) st r3)) (sym (on b st)) (then b st))
advances_then t m m1 n u (Err e) r0 r1 r2 r3 same one on two = two

-- and then what comes after them
pub advanced : {A U V : Type 0} (t : Table) (m m1 n : Machine A) (b c : Block) (r0 r1 : Round A) (u : U) (x : Result V Stop) → m1 ≡ record m { meter = m1.meter } →
    Advances t m (Ok u) m1 r0 r1 → Fits t m → (Fits t m1 → Steps t m1 x n c (at_rest t m1 b r1)) → Steps t m x n c (at_rest t m b r0)
advanced {A} t m m1 n b c r0 r1 u x same came fits h =
    elim (came b (local_of m)) [
      | inl e ↦ steps_stuck t m n c x (at_rest t m b r0) (ap (unwound t (frames_of m) (slots_of m) (stack_of m)) e ∙ unwound_stuck t (frames_of m) (slots_of m) (stack_of m))
      | inr l ↦ steps_from t m n c x (at_rest t m b r0) _
          (ap (unwound t (frames_of m) (slots_of m) (stack_of m)) l.same ∙ unwound_after t (frames_of m) (slots_of m) (stack_of m) l.work _)
          (steps_after t m m0 n c x l.work (at_rest t m b r1) l.spent (next fits))
    ]
  where
    m0 : Machine A
    m0 = record m { meter = m1.meter }

    next : Fits t m0 → Steps t m0 x n c (at_rest t m0 b r1)
    next = subst (λ y. Fits t y → Steps t y x n c (at_rest t y b r1)) same h

-- turns that were taken over local names that were lent
pub machine_took : {A U : Type 0} (t : Table) (m n : Machine A) (x : Result U Stop) (ds : List (code.Value A)) (r0 r1 last : Round A) → ds ≡ m.slots.items → r0 ≡ r1 →
    ((b : Block) (st : List Value) → MatchResult x
    (λ u. Took m.meter.fuel n.meter.fuel (between t m.levels b (places_of (take (length ds - m.base) (drop m.base ds))) st r0) (between t m.levels b (places_of (take (length ds - m.base) (drop m.base ds))) st last))
    (λ e. e ≡ Memory)) → Advances t m x n r1 last
machine_took t m n (Ok u) ds r0 r1 last e same h = λ b st.
    subst (λ r. Took m.meter.fuel n.meter.fuel (between t m.levels b (env_of m) st r) (between t m.levels b (env_of m) st last)) same
    (subst (λ env. Took m.meter.fuel n.meter.fuel (between t m.levels b env st r0) (between t m.levels b env st last)) (env_there m.base m.slots.items ds e) (h b st))
machine_took t m n (Err y) ds r0 r1 last e same h = h finish []
