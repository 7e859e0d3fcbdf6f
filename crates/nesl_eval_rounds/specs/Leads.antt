-- What turns do to an outcome.
use Rattle.std.specs.Prelude.{◌≡◌, ℕ, ◌+◌, ◌<◌, List, Result, Ok, Err, ◌⊎◌}
use Rattle.std.specs.declared.vec.Vec.{Vec}
use Rattle.nesl_eval_meaning.specs.Names.{Value}
use Rattle.nesl_eval_meaning.specs.Out.{Out, stuck, after_cost}
use Rattle.nesl_eval_nodes.specs.declared.meter.Stop.{Stop}
use Rattle.nesl_eval_nodes.specs.declared.meter.Stop.TheVariants.{Fault, Over, Memory, Stuck}

-- some work was taken off the fuel, the outcome `o` is `p` after that work, and `Then` holds
pub record Leads (fuel fuel' : ℕ) (o p : Out Value) (Then : Type 0) : Type 0 where
  pub work : ℕ
  pub spent : fuel ≡ fuel' + work
  pub same : o ≡ after_cost work 0 p
  pub fits : Then

-- turns that were taken, so that the one outcome leads to the other
abbrev pub Took : ℕ → ℕ → Out Value → Out Value → Type 0
Took f f' o p = (o ≡ stuck) ⊎ Leads f f' o p (Unit {0})

-- a turn that ended
abbrev pub Gave : {U : Type 0} → ℕ → Result U Stop → ℕ → Out Value → Out Value → Type 0
Gave f (Ok u) f' o p = Leads f f' o p (Unit {0})
Gave f (Err (Fault k s)) f' o p = ⊥
Gave f (Err Over) f' o p = (w : ℕ) × (q : Out Value) × (o ≡ after_cost w 0 q) × (f < w)
Gave f (Err Memory) f' o p = Unit {0}
Gave f (Err Stuck) f' o p = o ≡ stuck

-- these are the places
abbrev pub ArePlaces : {A : Type 0} → Vec ℕ A → List ℕ → Type 0
ArePlaces ks is = ks.items ≡ is
