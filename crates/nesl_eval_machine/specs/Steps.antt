-- What a step does to what is left.
use Rattle.std.specs.Prelude.{◌≡◌, ℕ, ◌+◌, ◌<◌, List, [], ◌∷◌, ◌++◌, length, Result, Ok, Err, Option, Some, None, ◌⊎◌}
use Rattle.std.proofs.Common.{Bor}
use Rattle.std.specs.declared.vec.Vec.{Vec}
use Rattle.nesl_lex.specs.declared.token.Span.{Span}
use Rattle.nesl_values.specs.View.{tree_of}
use Rattle.nesl_values.specs.declared.value.Value as code
use Rattle.nesl_eval_meaning.specs.Names.{Value}
use Rattle.nesl_eval_meaning.specs.Out.{Out, value, fault, stuck}
use Rattle.nesl_eval_code.specs.Run.{Table}
use Rattle.nesl_eval_code.specs.Block.{Block}
use Rattle.nesl_eval_ops.specs.declared.ops.Ops.{Ops}
use Rattle.nesl_eval_nodes.specs.declared.meter.Stop.{Stop}
use Rattle.nesl_eval_nodes.specs.declared.meter.Stop.TheVariants.{Fault, Over, Memory, Stuck}
use Rattle.nesl_eval_machine.specs.declared.state.Purpose.{Purpose}
use Rattle.nesl_eval_machine.specs.declared.state.Purpose.TheVariants.{Push, Return, Turn}
use Rattle.nesl_eval_machine.specs.declared.state.Frame.{Frame}
use Rattle.nesl_eval_rounds.specs.declared.state.Round.{Round}
use Rattle.nesl_eval_machine.specs.declared.state.Hand.{Hand}
use Rattle.nesl_eval_machine.specs.declared.state.Hand.TheVariants.{Empty, Holds}
use Rattle.nesl_eval_machine.specs.declared.state.Machine.{Machine}
use Rattle.nesl_eval_rounds.specs.Rounds.{between}
use Rattle.nesl_eval_rounds.specs.Leads.{Leads, Took}
use Rattle.nesl_eval_machine.specs.State.{unwound, frames_of, slots_of, stack_of, env_of, local_of, left_at}
use Rattle.nesl_eval_machine.specs.State.{Fits, left_at_hand}

-- the outcome is what is left for a machine at a block, once this was done for it
abbrev pub Goes : {A : Type 0} → Table → ℕ → Machine A → Block → Out Value → Type 0
Goes t fuel n b o = Leads fuel n.meter.fuel o (left_at t n b) (Fits t n)

-- a fault has the span of the outermost call
abbrev pub placed_once : {A : Type 0} → Purpose A → Span → Span
placed_once Push s = s
placed_once (Return s') s = s'
placed_once (Turn r) s = s

abbrev pub placed : {A : Type 0} → List (Frame A) → Span → Span
placed [] s = s
placed (f ∷ fs) s = placed fs (placed_once f.purpose s)

-- why a machine stopped, with its fuel before and after; nothing is said where the outcome is stuck, or
-- memory ran out
abbrev pub Stops : {A : Type 0} → List (Frame A) → ℕ → Stop → ℕ → Out Value → Type 0
Stops fs f e f' stuck = Unit {0}
Stops fs f (Fault k s) f' (value x w d) = ⊥
Stops fs f (Fault k s) f' (fault k' s' w) = (k ≡ k') × (placed fs s ≡ s') × (f ≡ f' + w)
Stops fs f Over f' (value x w d) = f < w
Stops fs f Over f' (fault k s w) = f < w
Stops fs f Memory f' o = Unit {0}
Stops fs f Stuck f' (value x w d) = ⊥
Stops fs f Stuck f' (fault k s w) = ⊥

-- one step, after which a block is next
abbrev pub Steps : {A U : Type 0} → Table → Machine A → Result U Stop → Machine A → Block → Out Value → Type 0
Steps t m (Ok u) n b o = (o ≡ stuck) ⊎ Goes t m.meter.fuel n b o
Steps t m (Err e) n b o = Stops (frames_of n) m.meter.fuel e n.meter.fuel o

-- this number of values was taken off a stack, or there are fewer
abbrev pub TakesOff :
    {A : Type 0} → List (code.Value A) → List (code.Value A) → ℕ → Result (Option (Vec (code.Value A) A)) Stop
    → Type 0
TakesOff old new count (Ok (Some taken)) = (old ≡ new ++ taken.items) × (length taken.items ≡ count)
TakesOff old new count (Ok None) = length old < count
TakesOff old new count (Err e) = e ≡ Memory

-- how many slots the frames have
abbrev pub slots_below : {A : Type 0} → List (Frame A) → ℕ
slots_below [] = 0
slots_below (f ∷ fs) = f.len

-- the last value
abbrev pub Gives : {A : Type 0} → Machine A → code.Value A → Machine A → Out Value → Type 0
Gives m v n stuck = Unit {0}
Gives m v n (value x w d) = (tree_of v ≡ x) × (m.meter.fuel ≡ n.meter.fuel + w) × (n.meter.depth ≡ d)
Gives m v n (fault k s w) = ⊥

-- one move, after which something may be at hand
abbrev pub Moves : {A : Type 0} → Table → Machine A → Result (Hand A) Stop → Machine A → Out Value → Type 0
Moves t m (Ok h) n o = (o ≡ stuck) ⊎ Leads m.meter.fuel n.meter.fuel o (left_at_hand t n h) (Fits t n)
Moves t m (Err e) n o = Stops (frames_of n) m.meter.fuel e n.meter.fuel o

-- a step that leaves nothing at hand, and a value that was found
abbrev pub empty_handed : {A U : Type 0} → Result U Stop → Result (Hand A) Stop
empty_handed (Ok u) = Ok Empty
empty_handed (Err e) = Err e

abbrev pub in_hand : {A : Type 0} → Result (code.Value A) Stop → Bor Ops → Result (Hand A) Stop
in_hand (Ok v) next = Ok (Holds v next)
in_hand (Err e) next = Err e

-- the span of the first call from the bottom, or else this one
abbrev pub first_call : {A : Type 0} → List (Frame A) → Span → Span
first_call [] s = s
first_call (f ∷ fs) s = placed_once f.purpose (first_call fs s)

abbrev pub placed_stop : {A : Type 0} → List (Frame A) → Stop → Stop
placed_stop fs (Fault k s) = Fault k (placed fs s)
placed_stop fs Over = Over
placed_stop fs Memory = Memory
placed_stop fs Stuck = Stuck

-- a whole run
abbrev pub Ends : {A : Type 0} → Machine A → Result (code.Value A) Stop → Machine A → Out Value → Type 0
Ends m (Ok v) n o = Gives m v n o
Ends {A} m (Err e) n o = Stops {A = A} [] m.meter.fuel e n.meter.fuel o

-- a machine whose round is between two turns, after what was done for it
abbrev pub Rests : {A U : Type 0} → Table → ℕ → Result U Stop → Machine A → Block → Round A → Out Value → Type 0
Rests t f (Ok u) n b r o =
    (o ≡ stuck)
    ⊎ Leads f n.meter.fuel o
    (unwound t (frames_of n) (slots_of n) (stack_of n) (between t n.levels b (env_of n) (local_of n) r)) (Fits t n)
Rests t f (Err e) n b r o = Stops (frames_of n) f e n.meter.fuel o

-- turns that a round had left were taken by a machine
abbrev pub Advances : {A U : Type 0} → Table → Machine A → Result U Stop → Machine A → Round A → Round A → Type 0
Advances t m (Ok u) n r r' =
    (b : Block) (st : List Value) →
    Took m.meter.fuel n.meter.fuel (between t m.levels b (env_of m) st r) (between t m.levels b (env_of m) st r')
Advances t m (Err e) n r r' = e ≡ Memory
