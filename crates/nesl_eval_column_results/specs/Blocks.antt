-- Blocks of places.
use Rattle.std.specs.Prelude.{ℕ, ◌≤◌, List, ◌∷◌, map, length, slice_range}
use Rattle.nesl_values.specs.View.{tree_of}
use Rattle.nesl_eval_code.specs.Frames.{Frames, row}
use Rattle.nesl_eval_nodes.specs.Sides.{places_of}
use Rattle.nesl_eval_nodes.specs.Scopes.{frames_of}
use Rattle.nesl_eval_column_results.specs.declared.block.Block.{Block}

-- the places
abbrev pub block_places : {A T : Type 0} → Block A T → List ℕ
block_places b = slice_range (places_of b.places) b.from b.to

-- they are some of those of the apply-to-each
abbrev pub IsWithin : {A T : Type 0} → Block A T → Type 0
IsWithin b = (b.from ≤ b.to) × (b.to ≤ length (places_of b.places))

-- the frames at a place
abbrev pub frames_at : {A T : Type 0} → Block A T → ℕ → Frames
frames_at b i = row i (map tree_of b.values.now) ∷ frames_of b.scope.now
