use Rattle.std.proofs.Common.{◌∙◌, ◌&&◌, get_or, ap, sym, false}
use Rattle.std.specs.List.{list_all}
use Rattle.std.proofs.lemmas.List.{take_all}
use Rattle.std.proofs.lemmas.List.Folds.{list_all_more}
use Rattle.nesl_seqs_index.proofs.permute.all_marked.Goals as goal

pub loop-mark-preserved : goal.loop-mark-preserved
loop-mark-preserved c =
    let ms = c.args.marks.now in
    let j = c.loop-mark.mark-index in
    ap (λ b. b && get_or ms j false) c.loop-mark.invariant ∙ sym (list_all_more (λ m. m) ms j false c.loop-mark-test.true)

pub returns : goal.returns
returns c =
    c.loop-mark.invariant ∙ ap (list_all (λ m. m)) (take_all c.loop-mark.mark-index c.args.marks.now c.loop-mark-test.false)
