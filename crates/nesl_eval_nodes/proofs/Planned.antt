-- What the plan of a function on sequences takes off a meter.
use Rattle.std.proofs.Common.{◌≡◌, ℕ, zero, suc, ◌+◌, ◌-◌, ◌<◌, ◌≤◌, Ok, Err, sym, ap, subst, arith}
use Rattle.nesl_lex.specs.declared.token.Span.{Span}
use Rattle.nesl_values.specs.Tree.{size}
use Rattle.nesl_values.specs.View.{tree_of}
use Rattle.nesl_values.specs.declared.value.Value as code
use Rattle.nesl_seqs_base.specs.Outcome.{Outcome}
use Rattle.nesl_seqs_base.specs.Prices.{price, reads, depth_of}
use Rattle.nesl_seqs_base.specs.declared.price.Price.{Price}
use Rattle.nesl_seqs_base.specs.declared.seq_fn.SeqFn.{SeqFn}
use Rattle.nesl_seqs.specs.Plans.{Plans, built, read_by, depth_by}
use Rattle.nesl_seqs.specs.declared.plans.Plan.{Plan}
use Rattle.nesl_eval_meaning.specs.Names.{Value}
use Rattle.nesl_eval_meaning.specs.Outcome.{on_sequence}
use Rattle.nesl_eval_nodes.specs.declared.meter.Meter.{Meter}
use Rattle.nesl_eval_nodes.specs.declared.meter.Stop.TheVariants.{Over}
use Rattle.nesl_eval_nodes.specs.Meets.{Meets, Is}
use Rattle.nesl_eval_nodes.proofs.Runs.{memory_any}

below : (a b : ℕ) → (b ≤ a → ⊥) → a < b
below a zero h = absurd (h (omega arith))
below zero (suc b) h = omega arith
below (suc a) (suc b) h =
    let rest : a < b = below a b (λ l. h (omega (arith, l))) in
    omega (arith, rest)

module _ {A : Type 0} (m : Meter) (s : Span) (f : SeqFn) (x : Value) where
  -- the work is more than the fuel
  pub plan_over : (o : Outcome) (p : Plan A) → Plans o (reads f x) (depth_of f (reads f x)) (Ok p) → (1 + read_by p + (size (built p) - 1) ≤ m.fuel + 1 → ⊥) → Meets {R = code.Value A} Is m (Err Over) m (on_sequence s f x o)
  plan_over o p h over =
      let less : m.fuel < read_by p + (size (built p) - 1) = below m.fuel (read_by p + (size (built p) - 1)) (λ l. over (omega (arith, l))) in
      subst (λ u. Meets {R = code.Value A} Is m (Err Over) m (on_sequence s f x u)) (sym h.0) (subst (λ n. m.fuel < n + (size (built p) - 1)) h.1 less)

  -- the result was built
  pub plan_built : (n : Meter) (o : Outcome) (p : Plan A) (v : code.Value A) (q : Price) → Plans o (reads f x) (depth_of f (reads f x)) (Ok p) → q ≡ price (read_by p) (depth_by p) (built p) → tree_of v ≡ built p → m.fuel ≡ n.fuel + (q.work - 1) → n.depth ≡ m.depth + (q.depth - 1)
      → Meets {R = code.Value A} Is m (Ok v) n (on_sequence s f x o)
  plan_built n o p v q h e made paid deep =
      let w : q.work ≡ 1 + read_by p + (size (built p) - 1) = ap (λ (r : Price). r.work) e in
      let d : q.depth ≡ depth_by p = ap (λ (r : Price). r.depth) e in
      subst (λ u. Meets {R = code.Value A} Is m (Ok v) n (on_sequence s f x u)) (sym h.0) (made, omega (arith, paid, w, h.1), omega (arith, deep, d, h.2))

pub ruleset plans = (plan_over, plan_built, memory_any)
