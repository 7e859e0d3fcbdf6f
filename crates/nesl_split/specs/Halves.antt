-- The results of halves and of turns, and what moves reach.
use Rattle.std.specs.Prelude.{◌≡◌, ℕ, ◌+◌, ◌<◌, Result, Ok, Err, ◌⊎◌}
use Rattle.nesl_eval_meaning.specs.Names.{Value}
use Rattle.nesl_eval_meaning.specs.Out.{Out, fault, stuck, after_cost}
use Rattle.nesl_eval_nodes.specs.declared.meter.Meter.{Meter}
use Rattle.nesl_eval_nodes.specs.declared.meter.Stop.{Stop}
use Rattle.nesl_eval_nodes.specs.declared.meter.Stop.TheVariants.{Fault, Over, Memory, Stuck}
use Rattle.nesl_eval_nodes.specs.Meets.{Meets}
use Rattle.nesl_eval_helpers.specs.declared.halving.Half.{Half}
use Rattle.nesl_eval_helpers.specs.Halves.{after_cost as after, IsWithin}
use Rattle.nesl_eval_rounds.specs.Leads.{Leads}
use Rattle.nesl_eval_code.specs.Run.{Table}
use Rattle.nesl_eval_ops.specs.View.{block_of}
use Rattle.nesl_values.specs.declared.value.Value as code
use Rattle.nesl_eval_machine.specs.declared.state.Machine.{Machine}
use Rattle.nesl_eval_machine.specs.State.{frames_of}
use Rattle.nesl_eval_machine.specs.Steps.{Gives, Stops, Moves, Rests}
use Rattle.nesl_split.specs.declared.reached.Reached.{Reached}
use Rattle.nesl_split.specs.declared.reached.Reached.TheVariants.{Round, Moved}
use Rattle.std.proofs.Common.{Global}

-- the cost of the half is within this fuel
abbrev pub Within : {V : Type 0} → ℕ → Half V → Type 0
Within fuel h = (m : Meter) → m.fuel ≡ fuel → IsWithin m h.cost

-- with this fuel the half meets the outcome, whatever the depth
abbrev pub HalfFinds : {V X : Type 0} → (V → X → Type 0) → ℕ → Half V → Out X → Type 0
HalfFinds T fuel h o = (m : Meter) → m.fuel ≡ fuel → Meets T m h.found (after m h.cost) o

-- turns that led from one outcome to the other, or the outcome at which they stopped
abbrev pub Came : {U : Type 0} → ℕ → Result U Stop → ℕ → Out Value → Out Value → Type 0
Came f (Ok u) f' o p = (o ≡ stuck) ⊎ Leads f f' o p (Unit {0})
Came f (Err (Fault k s)) f' o p = (o ≡ stuck) ⊎ ((w : ℕ) × (o ≡ fault k s w) × (f ≡ f' + w))
Came f (Err Over) f' o p = (o ≡ stuck) ⊎ ((w : ℕ) × (q : Out Value) × (o ≡ after_cost w 0 q) × (f < w))
Came f (Err Memory) f' o p = Unit {0}
Came f (Err Stuck) f' o p = o ≡ stuck

-- a machine's run to its last value, or to where it stopped
abbrev pub Ran : {A : Type 0} → Machine A → Result (code.Value A) Stop → Machine A → Out Value → Type 0
Ran m (Ok v) n o = Gives m v n o
Ran m (Err e) n o = Stops (frames_of n) m.meter.fuel e n.meter.fuel o

-- one move, which reaches a round between two turns, or leaves a current value
abbrev pub Reaches : Table → Machine Global → Result Reached Stop → Machine Global → Out Value → Type 0
Reaches t m (Ok (Round r next)) n o = Rests t m.meter.fuel (Ok (tt {0})) n (block_of next.now) r.value o
Reaches t m (Ok (Moved h)) n o = Moves t m (Ok h) n o
Reaches t m (Err e) n o = Stops (frames_of n) m.meter.fuel e n.meter.fuel o
