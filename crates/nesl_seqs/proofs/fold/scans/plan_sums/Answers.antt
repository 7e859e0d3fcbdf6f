use Rattle.std.proofs.Common.{◌≡◌, ◌∙◌, ◌+◌, ap, sym, length}
use Rattle.nesl_values.specs.Parts.{as_int}
use Rattle.nesl_values.specs.View.{item_trees}
use Rattle.nesl_seqs_base.specs.Prices.{digits}
use Rattle.nesl_seqs_base.specs.Reductions.{all_of}
use Rattle.nesl_seqs_base.proofs.Shapes.{length_all}
use Rattle.nesl_seqs.specs.Elements.{numbers_of}
use Rattle.nesl_seqs.proofs.FoldPlanned.{sums_planned}
use Rattle.nesl_seqs.proofs.fold.scans.plan_sums.Goals as goal

pub all_sums_fit-requires : goal.all_sums_fit-requires
all_sums_fit-requires g c =
    let ts = item_trees c.args.items in
    let len : length (numbers_of c.in-Some.numbers) ≡ length ts = length_all as_int ts (numbers_of c.in-Some.numbers) (sym c.in-Some.ensures) in
    rw len c.requires

pub returns-then-all_sums_fit : goal.returns-then-all_sums_fit
returns-then-all_sums_fit g c =
    let ts = item_trees c.args.items in
    let zs = numbers_of c.in-Some.numbers in
    let len : length zs ≡ length ts = length_all as_int ts zs (sym c.in-Some.ensures) in
    (sums_planned (all_of as_int ts) zs c.in-Some.ensures (sym c.all_sums_fit.ensures ∙ c.if-all_sums_fit.true), len, ap (λ n. 1 + digits n) len)
