use Rattle.std.proofs.Common.{ℕ, ◌+◌, ◌-◌, ◌<◌, ◌≡◌, length, ◌∙◌, subst, arith}
use Rattle.nesl_types_shared.specs.Renames.{replacement}
use Rattle.nesl_types_shared.proofs.Found.{IsChecking, checking_some, checked_whole, read_here}
use Rattle.nesl_types_shared.proofs.renaming.is_renamed_part.Goals as goal

pub matches_shape-requires-clause-place : goal.matches_shape-requires-clause-place
matches_shape-requires-clause-place c =
    let i = c.loop-next.invariant in
    let wanted = c.loop-next.wanted.items in
    let k : ℕ = c.loop-next.next - 1 in
    let l : k < length wanted = omega (arith, i.inside, i.len, c.loop-next-test.true) in
    i.below k c.in-Some.at (read_here wanted k c.index.result.now l c.index.ensures ∙ c.in-Some.is)

pub loop-next-preserved-else-not-matches_shape : goal.loop-next-preserved-else-not-matches_shape
loop-next-preserved-else-not-matches_shape c =
    let i = c.loop-next.invariant in
    let bank = c.args.bank.now in
    let wanted = c.loop-next.wanted.items in
    let n = c.loop-next.next in
    let k : ℕ = n - 1 in
    let e : k + 1 ≡ n = omega (arith, c.loop-next-test.true) in
    let l : k < length wanted = omega (arith, i.inside, i.len, c.loop-next-test.true) in
    let here = read_here wanted k c.index.result.now l c.index.ensures ∙ c.in-Some.is in
    checking_some (replacement bank c.args.of.now) bank c.args.from.now c.args.part c.args.place n k wanted e i c.matches_shape.new.wanted.items c.in-Some.at c.shape.result here c.shape.ensures.parts c.shape.ensures.shape (c.matches_shape.ensures c.if-not-matches_shape.false)

pub returns : goal.returns
returns c =
    let bank = c.args.bank.now in
    let s = replacement bank c.args.of.now in
    let from = c.args.from.now in
    let part = c.args.part in
    let place = c.args.place in
    let wanted = c.loop-next.wanted.items in
    let n = c.loop-next.next in
    let e : n ≡ 0 = omega (arith, c.loop-next-test.false) in
    λ t. checked_whole s bank from part place wanted (subst (λ k. IsChecking s bank from part place k wanted) e c.loop-next.invariant)
