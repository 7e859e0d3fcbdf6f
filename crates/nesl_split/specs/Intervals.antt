-- The turns of a round.
use Rattle.std.specs.Prelude.{◌≡◌, ℕ, ◌≤◌, ◌++◌, [], List, map, length, slice_range}
use Rattle.std.proofs.Common.{Global}
use Rattle.nesl_values.specs.View.{tree_of}
use Rattle.nesl_values.specs.Tree.{ValueTree}
use Rattle.nesl_eval_meaning.specs.Out.{Out}
use Rattle.nesl_eval_code.specs.Frames.{row}
use Rattle.nesl_eval_code.specs.Run.{Table}
use Rattle.nesl_eval_ops.specs.View.{block_of, body_block}
use Rattle.nesl_eval_nodes.specs.declared.meter.Meter.{Meter}
use Rattle.nesl_eval_nodes.specs.Sides.{places_of}
use Rattle.nesl_eval_machine.specs.State as state
use Rattle.nesl_eval_rounds.specs.Rounds.{at_place}
use Rattle.nesl_eval_machine.specs.State.{slots_of}
use Rattle.nesl_eval_machine.specs.declared.state.Machine.{Machine}
use Rattle.nesl_split.specs.declared.turns.Interval.{Interval}
use Rattle.nesl_split.specs.declared.turns.Turns.{Turns}
use Rattle.nesl_split.specs.Finding.{Element, found_at}

-- the outcome of the block at a place
abbrev pub at_turn : {R H G T : Type 0} → (T → Table) → Interval R H G T → ℕ → Out ValueTree
at_turn table i =
    at_place (table i.crew.now.tops.now) i.room.now.levels (state.places_of i.room.now.names.now)
    (map tree_of i.sources.now) (body_block i.block.now)

-- the results of the turns from one to another
abbrev pub found_in : {R H G T : Type 0} → (T → Table) → (i : Interval R H G T) → Turns → Out (List (Element i.wanted))
found_in table i ts = found_at i.wanted (at_turn table i) (slice_range (places_of i.places) ts.from ts.to)

-- the turns are turns of this interval
abbrev pub AreIn : {R H G T : Type 0} → Turns → Interval R H G T → Type 0
AreIn ts i = (ts.from ≤ ts.to) × (ts.to ≤ length (places_of i.places))

-- turns cut in two halves
abbrev pub AreHalves : Turns → Turns → Turns → Type 0
AreHalves ts left right =
    (left.from ≡ ts.from) × (right.from ≡ left.to) × (right.to ≡ ts.to) × (ts.from ≤ left.to) × (left.to ≤ ts.to)

-- A machine at the start of the turn at a place, with this meter. The block can use the names of the environment, and
-- an element of each sequence.
abbrev pub IsAtTurn : {R H G T : Type 0} → Machine Global → Interval R H G T → ℕ → Meter → Type 0
IsAtTurn m i place meter =
    (m.bodies.now ≡ i.room.now.bodies.now) × (block_of m.code.now ≡ body_block i.block.now)
    × (m.levels ≡ i.room.now.levels) × (m.meter ≡ meter) × (m.base ≡ 0) × (m.frames.items ≡ []) × (m.stack.items ≡ [])
    × (slots_of m ≡ state.places_of i.room.now.names.now ++ row place (map tree_of i.sources.now))
