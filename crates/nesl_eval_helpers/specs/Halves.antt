-- The two halves of an interval of places.
use Rattle.std.specs.Prelude.{◌≡◌, ℕ, ◌+◌, ◌-◌, ◌<◌, ◌≤◌, Result, Ok, Err}
use Rattle.nesl_scalars.specs.declared.cost.Cost.{Cost}
use Rattle.nesl_eval_nodes.specs.declared.meter.Meter.{Meter}
use Rattle.nesl_eval_nodes.specs.declared.meter.Stop.{Stop}
use Rattle.nesl_eval_nodes.specs.declared.meter.Stop.TheVariants.{Fault, Over, Memory, Stuck}

-- the meter after this cost: the work is taken from the fuel, and the depth is added
abbrev pub after_cost : Meter → Cost → Meter
after_cost m c = record { fuel = m.fuel - c.work; depth = m.depth + c.depth }

-- a cost within the fuel, whose depth is at most its work
abbrev pub IsWithin : Meter → Cost → Type 0
IsWithin m c = (c.depth ≤ c.work) × (c.work ≤ m.fuel)

-- the right half's result after its work is charged: a list or a fault that costs more than the fuel is out of fuel
abbrev pub Judges : {V : Type 0} → Result V Stop → ℕ → Meter → Result V Stop → Meter → Type 0
Judges (Ok v) w m (Ok u) n = (u ≡ v) × (m.fuel ≡ n.fuel + w) × (n.depth ≡ m.depth)
Judges (Ok v) w m (Err e) n = (e ≡ Over) × (n ≡ m) × (m.fuel < w)
Judges (Err (Fault k s)) w m (Err (Fault k' s')) n = (k' ≡ k) × (s' ≡ s) × (m.fuel ≡ n.fuel + w)
Judges (Err (Fault k s)) w m (Err e) n = (e ≡ Over) × (n ≡ m) × (m.fuel < w)
Judges (Err e) w m (Err e') n = (e' ≡ e) × (n ≡ m)
Judges (Err e) w m (Ok u) n = ⊥
