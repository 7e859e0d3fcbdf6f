use Rattle.std.proofs.Common.{◌∙◌, sym}
use Rattle.nesl_syntax.proofs.Cuts.{cut_at, uncut_to}
use Rattle.nesl_syntax.proofs.cut.cut.Goals as goal

pub returns-then-divides : goal.returns-then-divides
returns-then-divides c =
    let e = cut_at c.args.divider c.args.tokens.now c.loop-i.i c.index-tokens-i.result c.loop-i-test.true c.index-tokens-i.is c.loop-i.invariant (sym c.divides.ensures ∙ c.if-divides.true) in
    let f = c.split_at.ensures.front in
    let g = c.split_at-then-divides.ensures.back in
    rw (f, g) e

pub loop-i-preserved : goal.loop-i-preserved
loop-i-preserved c = uncut_to c.args.divider c.args.tokens.now c.loop-i.i c.index-tokens-i.result c.loop-i-test.true c.index-tokens-i.is c.loop-i.invariant (sym c.divides.ensures ∙ c.if-divides.false)
