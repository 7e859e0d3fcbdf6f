use Rattle.std.proofs.Common.{◌≡◌, drop}
use Rattle.nesl_forms.specs.Cuts.{after_bytes, at_first, reached}
use Rattle.nesl_forms.proofs.text.stretches_of.Given as goal

abbrev pub invariant-loop-place : goal.invariant-loop-place
invariant-loop-place l =
    after_bytes (reached l.cutter) l.place (drop l.place l.text) ≡ after_bytes at_first 0 l.fn.text
