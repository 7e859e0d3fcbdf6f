-- Parts of a block of places.
use Rattle.std.specs.Prelude.{◌≡◌, ℕ}
use Rattle.nesl_eval_column_results.specs.declared.block.Block.{Block}

-- the same apply-to-each at the places in these turns
abbrev pub IsPartOf : {A T : Type 0} → Block A T → Block A T → ℕ → ℕ → Type 0
IsPartOf b whole from to = b ≡ record whole { from = from; to = to }
