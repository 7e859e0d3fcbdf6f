use Rattle.std.proofs.Common.{length, map, refl}
use Rattle.nesl_values.specs.Tree.{int, boolean, sequence}
use Rattle.nesl_seqs_base.specs.Scans.{before_each, joined_truths, joined_bits}
use Rattle.nesl_seqs.specs.Elements.{numbers_of, truths_of, wrapped_total}
use Rattle.nesl_seqs.proofs.Leaves.{size_before}
use Rattle.nesl_seqs.proofs.FoldPlanned.{scan_priced}
use Rattle.nesl_seqs.proofs.fold.plan.Plan.price.Goals as goal

pub returns-in-Sums : goal.returns-in-Sums
returns-in-Sums g c =
    let zs = numbers_of c.in-Sums.numbers in
    rw c.in-Sums.is (scan_priced c.price_of_scan.result (sequence (map int (before_each wrapped_total zs))) c.len.result (length zs) c.args.limit c.len.ensures (size_before int (λ z. refl) wrapped_total zs) c.price_of_scan.ensures)

pub returns-in-JoinedTruths : goal.returns-in-JoinedTruths
returns-in-JoinedTruths g c =
    let bs = truths_of c.in-JoinedTruths.truths in
    let f = joined_truths c.in-JoinedTruths.joint in
    rw c.in-JoinedTruths.is (scan_priced c.price_of_scan-in-JoinedTruths.result (sequence (map boolean (before_each f bs))) c.len-in-JoinedTruths.result (length bs) c.args.limit c.len-in-JoinedTruths.ensures (size_before boolean (λ b. refl) f bs) c.price_of_scan-in-JoinedTruths.ensures)

pub returns-in-JoinedNumbers : goal.returns-in-JoinedNumbers
returns-in-JoinedNumbers g c =
    let zs = numbers_of c.in-JoinedNumbers.numbers in
    let f = joined_bits c.in-JoinedNumbers.joint in
    rw c.in-JoinedNumbers.is (scan_priced c.price_of_scan-in-JoinedNumbers.result (sequence (map int (before_each f zs))) c.len-in-JoinedNumbers.result (length zs) c.args.limit c.len-in-JoinedNumbers.ensures (size_before int (λ z. refl) f zs) c.price_of_scan-in-JoinedNumbers.ensures)
