-- What is left for a machine to do.
use Rattle.std.specs.Prelude.{ℕ, ◌≤◌, List, [], ◌∷◌, map, length, take, drop, reverse}
use Rattle.std.specs.Prelude.{Option, Some, None}
use Rattle.std.proofs.Common.{Bor}
use Rattle.nesl_values.specs.View.{tree_of}
use Rattle.nesl_eval_meaning.specs.Names.{Value}
use Rattle.nesl_eval_meaning.specs.Out.{Out, value, after_cost, and_then, at_call}
use Rattle.nesl_eval_code.specs.Run.{Table}
use Rattle.nesl_eval_code.specs.Block.{Block}
use Rattle.nesl_eval_code.specs.Exec.{Places, exec, kept_of, values_of}
use Rattle.nesl_eval_ops.specs.declared.ops.Body.{Body}
use Rattle.nesl_eval_ops.specs.View.{block_of, body_block}
pub use Rattle.nesl_eval_ops.specs.View.{HasBodies}
pub use Rattle.nesl_eval_rounds.specs.Slots.{places_of}
use Rattle.nesl_eval_rounds.specs.Rounds.{in_turn, at_place}
use Rattle.nesl_eval_machine.specs.declared.state.Purpose.{Purpose}
use Rattle.nesl_eval_machine.specs.declared.state.Purpose.TheVariants.{Push, Return, Turn}
use Rattle.nesl_eval_machine.specs.declared.state.Frame.{Frame}
use Rattle.nesl_eval_machine.specs.declared.state.Hand.{Hand}
use Rattle.nesl_eval_machine.specs.declared.state.Hand.TheVariants.{Empty, Holds, Done}
use Rattle.nesl_eval_machine.specs.declared.state.Machine.{Machine}

-- the values on the stack above a height, read from its top
abbrev pub above : ℕ → List Value → List Value
above k st = reverse (drop k st)

-- the stack of a block begins where that of the frame below ended
abbrev pub floor : {A : Type 0} → List (Frame A) → ℕ
floor [] = 0
floor (f ∷ fs) = f.height

-- what a block's outcome becomes, by its purpose
abbrev pub resumed_as : {A : Type 0} → Table → ℕ → Block → Purpose A → Places → List Value → Out Value → Out Value
resumed_as t n b Push env st o = and_then o (λ v. exec t n env b (v ∷ st))
resumed_as t n b (Return s) env st o = and_then (at_call s o) (λ v. exec t n env b (v ∷ st))
resumed_as t n b (Turn r) env st o = in_turn t n b env st r.value o

abbrev pub resumed : {A : Type 0} → Table → Frame A → Places → List Value → Out Value → Out Value
resumed t f = resumed_as t f.levels (block_of f.next.now) f.purpose

-- what the frames, the innermost first, make of an outcome, with these slots and this stack
abbrev pub unwound : {A : Type 0} → Table → List (Frame A) → Places → List Value → Out Value → Out Value
unwound t [] sl st o = o
unwound t (f ∷ fs) sl st o =
    unwound t fs (take f.len sl) (take f.height st)
    (resumed t f (drop f.base (take f.len sl)) (above (floor fs) (take f.height st)) o)

-- each frame has its slots and its part of the stack below those of the next
abbrev pub Ordered : {A : Type 0} → List (Frame A) → ℕ → ℕ → Type 0
Ordered [] len height = Unit {0}
Ordered (f ∷ fs) len height = (f.len ≤ len) × (f.height ≤ height) × (f.base ≤ f.len) × Ordered fs f.len f.height

abbrev pub frames_of : {A : Type 0} → Machine A → List (Frame A)
frames_of m = reverse m.frames.items

abbrev pub slots_of : {A : Type 0} → Machine A → Places
slots_of m = places_of m.slots.items

abbrev pub stack_of : {A : Type 0} → Machine A → List Value
stack_of m = map tree_of m.stack.items

-- the values of the local names that the block sees, and its part of the stack
abbrev pub env_of : {A : Type 0} → Machine A → Places
env_of m = drop m.base (slots_of m)

abbrev pub local_of : {A : Type 0} → Machine A → List Value
local_of m = above (floor (frames_of m)) (stack_of m)

-- what an outcome of the innermost block becomes after the depth so far; and what a block in the place of the next one
-- becomes
abbrev pub left_with : {A : Type 0} → Table → Machine A → Out Value → Out Value
left_with t m o = unwound t (frames_of m) (slots_of m) (stack_of m) (after_cost 0 m.meter.depth o)

abbrev pub left_at : {A : Type 0} → Table → Machine A → Block → Out Value
left_at t m b = left_with t m (exec t m.levels (env_of m) b (local_of m))

-- what is left
abbrev pub left : {A : Type 0} → Table → Machine A → Out Value
left t m = left_at t m (block_of m.code.now)

-- what is left with what is at hand: a value comes before those on the stack; the last one is the outcome
abbrev pub left_at_hand : {A : Type 0} → Table → Machine A → Hand A → Out Value
left_at_hand t m Empty = left t m
left_at_hand t m (Holds v next) =
    left_with t m (exec t m.levels (env_of m) (block_of next.now) (tree_of v ∷ local_of m))
left_at_hand t m (Done v) = value (tree_of v) 0 m.meter.depth

-- a machine over these names, whose frames lie one above the other
abbrev pub Fits : {A : Type 0} → Table → Machine A → Type 0
Fits t m =
    HasBodies t m.bodies.now × Ordered (frames_of m) (length m.slots.items) (length m.stack.items)
    × (m.base ≤ length m.slots.items)

-- the rounds of an apply-to-each at places: that of a filter comes before that of its body
abbrev pub in_rounds : Table → ℕ → Places → List Value → Block → Option (Bor Body) → List ℕ → Out Value
in_rounds t n env vs c None is = values_of (at_place t n env vs c) is
in_rounds t n env vs c (Some body) is =
    and_then (kept_of (at_place t n env vs c) is) (values_of (at_place t n env vs (body_block body.now)))
