use Rattle.std.proofs.Common.{◌∙◌, refl, sym, arith}
use Rattle.nesl_values.specs.View.{tree_of}
use Rattle.nesl_values.proofs.Copies.{framed, framed_work}
use Rattle.nesl_values.proofs.copy.copy_of_parts.Goals as goal

pub loop-frame-smaller : goal.loop-frame-smaller
loop-frame-smaller g c =
    omega (arith, framed_work _ _ c.in-Some.frame c.in-Some.ensures.items, c.in_ok-copy-2.ensures.less_work)

pub loop-frame-preserved : goal.loop-frame-preserved
loop-frame-preserved g c =
    c.in_ok-copy-2.ensures.tree ∙ sym (framed _ _ c.in-Some.frame (tree_of c.loop-frame.copy) _ c.in-Some.ensures.items refl) ∙ c.loop-frame.invariant
