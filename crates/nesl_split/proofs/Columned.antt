-- Turns of an interval in columns.
use Rattle.std.proofs.Common.{◌≡◌, ℕ, List, ◌∷◌, length, map, sym, ◌∙◌, ap, None, ◌-◌}
use Rattle.std.specs.Prelude.{slice_range}
use Rattle.std.proofs.lemmas.List.{length-map}
use Rattle.nesl_values.specs.View.{tree_of}
use Rattle.nesl_eval_code.specs.declared.code.Code.{Code}
use Rattle.nesl_eval_code.specs.Frames.{Frames}
use Rattle.nesl_eval_code.specs.Run.{Table, run, run_filters, run_bodies}
use Rattle.nesl_eval_code.specs.Exec.{laid}
use Rattle.nesl_eval_code.specs.Flat.{flat}
use Rattle.nesl_eval_code.specs.BlockLaws.{sizes}
use Rattle.nesl_eval_ops.specs.View.{body_block}
use Rattle.nesl_eval_nodes.specs.Sides.{places_of}
use Rattle.nesl_eval_machine.specs.State as state
use Rattle.nesl_eval_rounds.proofs.Columned.{filters_are, bodies_are}
use Rattle.nesl_split.specs.declared.turns.Interval.{Interval}
use Rattle.nesl_split.specs.declared.found.Wanted.TheVariants.{Places, Values}
use Rattle.nesl_split.specs.Finding.{found_at}
use Rattle.nesl_split.specs.Intervals.{at_turn}

module _ {R H G T : Type 0} (table : T → Table) (i : Interval R H G T) (fs : Frames) (h : ℕ) (ks : List ℕ) (c : Code) (from to : ℕ)
    (lies : laid fs ≡ state.places_of i.room.now.names.now) (sized : ks ≡ length i.sources.now ∷ sizes fs) (same : body_block i.block.now ≡ flat h ks c None) where
  block_is : body_block i.block.now ≡ flat h (length (map tree_of i.sources.now) ∷ sizes fs) c None
  block_is = same ∙ ap (λ l. flat h l c None) (sized ∙ ap (λ n. n ∷ sizes fs) (sym (length-map i.sources.now tree_of)))

  pub filters_found : run_filters (run (i.room.now.levels - h) (table i.crew.now.tops.now)) fs (map tree_of i.sources.now) c (slice_range (places_of i.places) from to) ≡ found_at Places (at_turn table i) (slice_range (places_of i.places) from to)
  filters_found =
      filters_are (table i.crew.now.tops.now) i.room.now.levels h fs c (map tree_of i.sources.now) (state.places_of i.room.now.names.now) (body_block i.block.now) lies block_is (slice_range (places_of i.places) from to)

  pub bodies_found : run_bodies (run (i.room.now.levels - h) (table i.crew.now.tops.now)) fs (map tree_of i.sources.now) c (slice_range (places_of i.places) from to) ≡ found_at Values (at_turn table i) (slice_range (places_of i.places) from to)
  bodies_found =
      bodies_are (table i.crew.now.tops.now) i.room.now.levels h fs c (map tree_of i.sources.now) (state.places_of i.room.now.names.now) (body_block i.block.now) lies block_is (slice_range (places_of i.places) from to)
