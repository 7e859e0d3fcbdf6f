use Rattle.std.proofs.Common.{◌≡◌, ◌+◌, max, map, drop, get_or, ap, ◌∙◌, arith}
use Rattle.std.specs.Prelude.{sum}
use Rattle.std.proofs.lemmas.List.{drop_more, drop_all}
use Rattle.nesl_eval_column_results.specs.Costs.{greatest}
use Rattle.nesl_eval_column_results.proofs.Costing.{sum_next}
use Rattle.nesl_eval_column_results.proofs.costs.paid_each.Goals as goal

pub loop-turn-preserved : goal.loop-turn-preserved
loop-turn-preserved c =
    let k = c.loop-turn in
    let xs = c.args.more.now in
    let i = k.turn in
    let x = get_or xs i 0 in
    let rest = map (λ m. c.args.same + m) (drop (i + 1) xs) in
    let cut = ap (map (λ m. c.args.same + m)) (drop_more xs i 0 c.loop-turn-test.true) in
    let work : sum (map (λ m. c.args.same + m) (drop i xs)) ≡ c.args.same + x + sum rest = ap sum cut ∙ sum_next (c.args.same + x) rest in
    let depth : greatest (map (λ m. c.args.same + m) (drop i xs)) ≡ max (c.args.same + x) (greatest rest) = ap greatest cut in
    record {
      work = omega (arith, k.invariant.work, work, c.in_ok-whole.ensures.1, c.in_ok-work.ensures.1);
      depth = omega (arith, k.invariant.depth, depth, c.in_ok-whole.ensures.1, c.max-depth.ensures);
    }

pub returns : goal.returns
returns c =
    let k = c.loop-turn in
    let xs = c.args.more.now in
    let none = ap (map (λ m. c.args.same + m)) (drop_all k.turn xs (omega arith)) in
    let no_work : sum (map (λ m. c.args.same + m) (drop k.turn xs)) ≡ 0 = ap sum none in
    let no_depth : greatest (map (λ m. c.args.same + m) (drop k.turn xs)) ≡ 0 = ap greatest none in
    (omega (arith, k.invariant.work, no_work), omega (arith, k.invariant.depth, no_depth))
