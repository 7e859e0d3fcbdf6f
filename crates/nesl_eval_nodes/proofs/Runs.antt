-- Runs under a meter, one after the other.
use Rattle.std.proofs.Common.{◌≡◌, ℕ, ◌+◌, ◌<◌, Result, Ok, Err, arith}
use Rattle.nesl_eval_nodes.specs.declared.meter.Meter.{Meter}
use Rattle.nesl_eval_nodes.specs.declared.meter.Stop.{Stop}
use Rattle.nesl_eval_nodes.specs.declared.meter.Stop.TheVariants.{Fault, Over, Memory, Stuck}
use Rattle.nesl_eval_meaning.specs.Out.{Out, value, fault, stuck, after_cost, and_then}
use Rattle.nesl_eval_nodes.specs.Meets.{Meets}

-- what took the work before
pub meets_added : {R X : Type 0} (T : R → X → Type 0) (m0 m1 m2 : Meter) (w d : ℕ) (r : Result R Stop) (o : Out X) → m0.fuel ≡ m1.fuel + w → m1.depth ≡ m0.depth + d → Meets T m1 r m2 o → Meets T m0 r m2 (after_cost w d o)
meets_added T m0 m1 m2 w d r stuck e f h = tt
meets_added T m0 m1 m2 w d (Ok v) (value x w' d') e f h = (h.0, omega arith, omega arith)
meets_added T m0 m1 m2 w d (Ok v) (fault k s w') e f h = h
meets_added T m0 m1 m2 w d (Err (Fault k' s')) (value x w' d') e f h = h
meets_added T m0 m1 m2 w d (Err (Fault k' s')) (fault k s w') e f h = (h.0, h.1, omega arith)
meets_added T m0 m1 m2 w d (Err Over) (value x w' d') e f h = omega arith
meets_added T m0 m1 m2 w d (Err Over) (fault k s w') e f h = omega arith
meets_added T m0 m1 m2 w d (Err Memory) (value x w' d') e f h = tt
meets_added T m0 m1 m2 w d (Err Memory) (fault k s w') e f h = tt
meets_added T m0 m1 m2 w d (Err Stuck) (value x w' d') e f h = h
meets_added T m0 m1 m2 w d (Err Stuck) (fault k s w') e f h = h

pub memory_any : {R X : Type 0} (T : R → X → Type 0) (m n : Meter) (o : Out X) → Meets T m (Err Memory) n o
memory_any T m n stuck = tt
memory_any T m n (value x w d) = tt
memory_any T m n (fault k s w) = tt

pub over_added : {R X : Type 0} (T : R → X → Type 0) (m n : Meter) (w d : ℕ) (o : Out X) → m.fuel < w → Meets T m (Err Over) n (after_cost w d o)
over_added T m n w d stuck h = tt
over_added T m n w d (value x w' d') h = omega arith
over_added T m n w d (fault k s w') h = omega arith

-- one run, and then another
pub meets_then : {R S X Y : Type 0} (T : R → X → Type 0) (U : S → Y → Type 0) (m0 m1 m2 : Meter) (v : R) (r : Result S Stop) (o : Out X) (k : X → Out Y) → Meets T m0 (Ok v) m1 o → ((x : X) → T v x → Meets U m1 r m2 (k x)) → Meets U m0 r m2 (and_then o k)
meets_then T U m0 m1 m2 v r stuck k h f = tt
meets_then T U m0 m1 m2 v r (value x w d) k h f = meets_added U m0 m1 m2 w d r (k x) h.1 h.2 (f x h.0)
meets_then T U m0 m1 m2 v r (fault t s w) k h f = absurd h

-- a run that stopped
pub meets_err : {R S X Y : Type 0} (T : R → X → Type 0) (U : S → Y → Type 0) (m0 m1 : Meter) (e : Stop) (o : Out X) (k : X → Out Y) → Meets T m0 (Err e) m1 o → Meets U m0 (Err e) m1 (and_then o k)
meets_err T U m0 m1 e stuck k h = tt
meets_err T U m0 m1 (Fault k' s') (value x w d) k h = absurd h
meets_err T U m0 m1 Over (value x w d) k h = over_added U m0 m1 w d (k x) h
meets_err T U m0 m1 Memory (value x w d) k h = memory_any U m0 m1 (after_cost w d (k x))
meets_err T U m0 m1 Stuck (value x w d) k h = absurd h
meets_err T U m0 m1 (Fault k' s') (fault t s w) k h = h
meets_err T U m0 m1 Over (fault t s w) k h = h
meets_err T U m0 m1 Memory (fault t s w) k h = tt
meets_err T U m0 m1 Stuck (fault t s w) k h = absurd h

-- whatever meets the one outcome from the one meter on meets the other from the other
abbrev pub LeadsTo : {R X : Type 0} → (R → X → Type 0) → Meter → Out X → Meter → Out X → Type 0
LeadsTo {R} T n p m o = (r : Result R Stop) (l : Meter) → Meets T n r l p → Meets T m r l o
