-- Operations on leaves, which may be pushed first.
use Rattle.std.proofs.Common.{◌≡◌, ℕ, zero, suc, ◌+◌, subst, Ok, refl, sym, ◌∙◌, ap, arith, inl, inr, ◌⊎◌, List, [], ◌∷◌, ◌++◌, Option, Some, None, Result}
use Rattle.std.specs.Prelude.{option_map}
use Rattle.nesl_lex.specs.declared.token.Span.{Span}
use Rattle.nesl_eval_meaning.specs.Names.{Value}
use Rattle.nesl_eval_meaning.specs.Out.{Out, and_then, given, stuck}
use Rattle.nesl_eval_code.specs.Run.{Table}
use Rattle.nesl_eval_code.specs.Block.{Leaf, Maker, Block, push, make}
use Rattle.nesl_eval_code.specs.Exec.{Places, leaf_out, with_leaves, made_of, taken, exec}
use Rattle.nesl_eval_code.proofs.Outs.{then_assoc, then_same}
use Rattle.nesl_eval_machine.specs.declared.state.Machine.{Machine}
use Rattle.nesl_eval_nodes.specs.declared.meter.Stop.{Stop}
use Rattle.nesl_eval_machine.specs.State.{env_of, local_of, left_with, left_at, Fits}
use Rattle.nesl_eval_machine.specs.Steps.{Steps}
use Rattle.nesl_eval_machine.proofs.Stepping.{stuck_steps, steps_from, then_steps}
use Rattle.nesl_eval_rounds.proofs.Laws.{after_none}

-- values that are taken before others
taken_before : (k : ℕ) (vs us ws : List Value) → taken k vs (us ++ ws) ≡ option_map (λ p. (p.0 ++ ws, p.1)) (taken k vs us)
taken_before zero vs us ws = refl
taken_before (suc k) [] us ws = refl
taken_before (suc k) (v ∷ vs) us ws = taken_before k vs (v ∷ us) ws

-- what is made of taken values and leaves, and then others
abbrev made_then : Table → ℕ → Places → ℕ → Span → Maker → List Leaf → Block → List Value × List Value → Out Value
made_then t n env h s m ls b q = and_then (with_leaves t n h env q.0 ls (made_of s m)) (λ v. exec t n env b (v ∷ q.1))

-- an operation on leaves, of which the first may be pushed
leaf_first : (t : Table) (n : ℕ) (env : Places) (h : ℕ) (s : Span) (m : Maker) (k : ℕ) (l : Leaf) (ls : List Leaf) (b : Block) (vs : List Value) →
    (exec t n env (make h s m k (l ∷ ls) b) vs ≡ stuck) ⊎ (exec t n env (make h s m k (l ∷ ls) b) vs ≡ exec t n env (push h l (make h s m (suc k) ls b)) vs)
leaf_first t n env h s m k l ls b vs = by_taken (taken k vs []) refl
  where
    by_taken : (o : Option (List Value × List Value)) → taken k vs [] ≡ o →
        (exec t n env (make h s m k (l ∷ ls) b) vs ≡ stuck) ⊎ (exec t n env (make h s m k (l ∷ ls) b) vs ≡ exec t n env (push h l (make h s m (suc k) ls b)) vs)
    by_taken None e = inl (ap (λ o. given o (made_then t n env h s m (l ∷ ls) b)) e)
    by_taken (Some p) e =
        inr (ap (λ o. given o (made_then t n env h s m (l ∷ ls) b)) e
        ∙ then_assoc (leaf_out t n h env l) (λ v. with_leaves t n h env (p.0 ++ v ∷ []) ls (made_of s m)) (λ v. exec t n env b (v ∷ p.1))
        ∙ then_same (leaf_out t n h env l) _ _ (λ v. sym (ap (λ o. given o (made_then t n env h s m ls b))
        (taken_before k vs [] (v ∷ []) ∙ ap (option_map (λ q. (q.0 ++ v ∷ [], q.1))) e))))

-- and so in a step
pub leaf_then : {A U : Type 0} (t : Table) (m n : Machine A) (c : Block) (r : Result U Stop) (h : ℕ) (s : Span) (f : Maker) (k : ℕ) (l : Leaf) (ls : List Leaf) (b : Block) →
    Steps t m r n c (left_at t m (push h l (make h s f (suc k) ls b))) → Steps t m r n c (left_at t m (make h s f k (l ∷ ls) b))
leaf_then t m n c r h s f k l ls b next =
    elim (leaf_first t m.levels (env_of m) h s f k l ls b (local_of m)) [
      | inl e ↦ stuck_steps t m n c r _ e
      | inr e ↦ steps_from t m n c r _ _ (ap (left_with t m) e) next
    ]

-- one more leaf, after those that have been pushed
pub leaf_next : {A U : Type 0} (t : Table) (m m1 n : Machine A) (u : Result U Stop) (h : ℕ) (s : Span) (f : Maker) (k i : ℕ) (l : Leaf) (ls rest : List Leaf) (b : Block) (o : Out Value) →
    ls ≡ l ∷ rest → Steps t m (Ok (tt {0})) m1 (make h s f (k + i) ls b) o →
    ((c : Block) → Fits t m1 → Steps t m1 u n c (left_at t m1 (push h l c))) →
    Steps t m u n (make h s f (k + (i + 1)) rest b) o
leaf_next t m m1 n u h s f k i l ls rest b o is so_far put =
    let over : suc (k + i) ≡ k + (i + 1) = omega arith in
    then_steps t m m1 n (make h s f (k + i) ls b) (make h s f (k + (i + 1)) rest b) (tt {0}) u o so_far
    (λ fits. subst (λ j. Steps t m1 u n (make h s f j rest b) (left_at t m1 (make h s f (k + i) ls b))) over
    (subst (λ xs. Steps t m1 u n (make h s f (suc (k + i)) rest b) (left_at t m1 (make h s f (k + i) xs b))) (sym is)
    (leaf_then t m1 n (make h s f (suc (k + i)) rest b) u h s f (k + i) l rest b (put (make h s f (suc (k + i)) rest b) fits))))

pub leaves_begin : {A : Type 0} (t : Table) (m : Machine A) (h : ℕ) (s : Span) (f : Maker) (k : ℕ) (ls : List Leaf) (b : Block) → Fits t m →
    Steps t m (Ok (tt {0})) m (make h s f (k + 0) ls b) (left_at t m (make h s f k ls b))
leaves_begin t m h s f k ls b fits =
    let none : k + 0 ≡ k = omega arith in
    subst (λ j. Steps t m (Ok (tt {0})) m (make h s f j ls b) (left_at t m (make h s f k ls b))) (sym none)
    (inr (record {
      work = 0;
      spent = omega arith;
      same = sym (after_none (left_at t m (make h s f k ls b)));
      fits = fits;
    }))
