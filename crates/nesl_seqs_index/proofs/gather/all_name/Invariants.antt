use Rattle.std.proofs.Common.{◌≡◌, take, is_some}
use Rattle.std.specs.List.{list_all}
use Rattle.nesl_seqs_base.specs.Places.{place_of}
use Rattle.nesl_seqs_index.proofs.gather.all_name.Given as goal

abbrev pub invariant-loop-index : goal.invariant-loop-index
invariant-loop-index g l =
    l.all ≡ list_all (λ i. is_some (place_of l.len (g.I.Item.tree i))) (take l.index-index l.indices)
