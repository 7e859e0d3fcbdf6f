use Rattle.std.proofs.Common.{◌≡◌, ◌+◌, None, ap, sym, length, rules}
use Rattle.nesl_values.specs.Parts.{as_int, as_bool}
use Rattle.nesl_values.specs.View.{item_trees}
use Rattle.nesl_seqs_base.specs.Prices.{digits}
use Rattle.nesl_seqs_base.specs.Reductions.{all_of}
use Rattle.nesl_seqs_base.proofs.Shapes.{length_all}
use Rattle.nesl_seqs.specs.Elements.{numbers_of, truths_of}
use Rattle.nesl_seqs.proofs.FoldPlanned.{truths_planned, numbers_planned}
use Rattle.nesl_seqs.proofs.fold.scans.plan_logic.Goals as goal

pub returns-in-Some : goal.returns-in-Some
returns-in-Some g c =
    let ts = item_trees c.args.items in
    let bs = truths_of c.in-Some.truths in
    let len : length bs ≡ length ts = length_all as_bool ts bs (sym c.in-Some.ensures) in
    (truths_planned c.args.joint ts bs c.in-Some.ensures, len, ap (λ n. 1 + digits n) len)

pub returns-in-Some-read : goal.returns-in-Some-read
returns-in-Some-read g c =
    let ts = item_trees c.args.items in
    let zs = numbers_of c.in-Some-read.numbers in
    let none : None ≡ all_of as_bool ts = search rules in
    let len : length zs ≡ length ts = length_all as_int ts zs (sym c.in-Some-read.ensures) in
    (numbers_planned c.args.joint ts zs none c.in-Some-read.ensures, len, ap (λ n. 1 + digits n) len)
