-- When a run under a meter has an outcome.
use Rattle.std.specs.Prelude.{◌≡◌, ◌+◌, ◌<◌, Result, Ok, Err}
use Rattle.nesl_values.specs.View.{tree_of}
use Rattle.nesl_values.specs.declared.value.Value as values
use Rattle.nesl_eval_nodes.specs.declared.meter.Meter.{Meter}
use Rattle.nesl_eval_nodes.specs.declared.meter.Stop.{Stop}
use Rattle.nesl_eval_nodes.specs.declared.meter.Stop.TheVariants.{Fault, Over, Memory, Stuck}
use Rattle.nesl_eval_meaning.specs.Names.{Value}
use Rattle.nesl_eval_meaning.specs.Out.{Out, value, fault, stuck}

-- the run gave what the outcome says, and took its work off the fuel; nothing is said where the outcome is stuck or
-- memory ran out
abbrev pub Meets : {R X : Type 0} → (R → X → Type 0) → Meter → Result R Stop → Meter → Out X → Type 0
Meets T m r n stuck = Unit {0}
Meets T m (Ok v) n (value x w d) = (T v x) × (m.fuel ≡ n.fuel + w) × (n.depth ≡ m.depth + d)
Meets T m (Ok v) n (fault k s w) = ⊥
Meets T m (Err (Fault k' s')) n (value x w d) = ⊥
Meets T m (Err (Fault k' s')) n (fault k s w) = (k' ≡ k) × (s' ≡ s) × (m.fuel ≡ n.fuel + w)
Meets T m (Err Over) n (value x w d) = m.fuel < w
Meets T m (Err Over) n (fault k s w) = m.fuel < w
Meets T m (Err Memory) n o = Unit {0}
Meets T m (Err Stuck) n (value x w d) = ⊥
Meets T m (Err Stuck) n (fault k s w) = ⊥

-- the value is this tree
abbrev pub Is : {A : Type 0} → values.Value A → Value → Type 0
Is v t = tree_of v ≡ t
