use Rattle.std.proofs.Common.{◌≡◌, take}
use Rattle.std.specs.Prelude.{map}
use Rattle.nesl_forms.specs.Forms.{lines_among}
use Rattle.nesl_forms.proofs.lines.lines_among.Given as goal

abbrev pub invariant-loop-stretch : goal.invariant-loop-stretch
invariant-loop-stretch l =
    map (λ line. line.items) l.lines.items ≡ lines_among l.text (take l.stretch-index l.stretches)
