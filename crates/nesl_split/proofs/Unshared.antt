-- Turns with values of their own.
use Rattle.std.proofs.Common.{◌≡◌, List, map, ◌∙◌, ap}
use Rattle.std.specs.Prelude.{slice_range}
use Rattle.nesl_values.specs.Tree.{ValueTree}
use Rattle.nesl_values.specs.View.{tree_of}
use Rattle.nesl_eval_meaning.specs.Out.{Out}
use Rattle.nesl_eval_code.specs.Frames.{frame}
use Rattle.nesl_eval_code.specs.Run.{Table}
use Rattle.nesl_eval_ops.specs.View.{body_block}
use Rattle.nesl_eval_nodes.specs.Sides.{places_of}
use Rattle.nesl_eval_rounds.specs.Rounds.{at_place}
use Rattle.nesl_split.specs.declared.turns.Interval.{Interval}
use Rattle.nesl_split.specs.declared.turns.Turns.{Turns}
use Rattle.nesl_split.specs.Finding.{Element, found_at}
use Rattle.nesl_split.specs.Intervals.{found_in}

module _ {R H G T : Type 0} (table : T → Table) (i : Interval R H G T) (ts : Turns) where
  -- the results of the turns with this top level and these values of the names
  abbrev pub found_with : Table → List ValueTree → Out (List (Element i.wanted))
  found_with t vs =
      found_at i.wanted (at_place t i.room.now.levels (frame vs) (map tree_of i.sources.now) (body_block i.block.now)) (slice_range (places_of i.places) ts.from ts.to)

  pub found_own : (t : Table) (vs : List ValueTree) → t ≡ table i.crew.now.tops.now → vs ≡ map tree_of i.room.now.names.now → found_with t vs ≡ found_in table i ts
  found_own t vs tops names = ap (λ x. found_with x vs) tops ∙ ap (found_with (table i.crew.now.tops.now)) names
