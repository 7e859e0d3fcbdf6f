-- Names that are noted with their places in a frame.
use Rattle.std.specs.Prelude.{ℕ, List, Option, option_map}
use Rattle.std.specs.Map.{lookup}
use Rattle.std.specs.Ordering.{is_eq, nat_cmp}
use Rattle.std.specs.Cmp.Lexicographic.{slice_cmp}
use Rattle.std.proofs.Common.{Vec, Global}
use Rattle.nesl_eval_meaning.specs.Names.{Name}
use Rattle.nesl_eval_code.specs.declared.code.Step.{Step}
use Rattle.nesl_eval_code.specs.declared.names.NamePlace.{NamePlace}

-- the index of a name's value and the steps from there, as an ordered map has them
abbrev pub noted_at : List (Vec ℕ Global × NamePlace) → Name → Option (ℕ × List Step)
noted_at es x = option_map (λ p. (p.index, p.steps.items)) (lookup (λ k. is_eq (slice_cmp nat_cmp x k.items)) es)
