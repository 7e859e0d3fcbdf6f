use Rattle.std.proofs.Common.{◌≡◌, List, length, subst, sym}
use Rattle.std.specs.Prelude.{All}
use Rattle.nesl_forms.specs.declared.text.Stretch.{Stretch}
use Rattle.nesl_forms.specs.Stretches.{LiesIn}
use Rattle.nesl_forms.proofs.FormLemmas.{follow_lies}
use Rattle.nesl_forms.proofs.lines.lines_of.Goals as goal

pub lines_among-requires : goal.lines_among-requires
lines_among-requires c =
    let e : c.as_slice.result.now ≡ c.in_ok-stretches.stretches.items = c.as_slice.ensures.value in
    subst (λ (ss : List Stretch). All (LiesIn (length c.args.text.now)) ss) (sym e)
    (follow_lies 0 c.in_ok-stretches.stretches.items (length c.args.text.now) c.in_ok-stretches.ensures.follow)
