use Rattle.std.proofs.Common.{length, ap, arith}
use Rattle.nesl_eval_column_results.proofs.Pairing.{next_pair, all_paired}
use Rattle.nesl_eval_column_results.proofs.values.pairs.Goals as goal

pub loop-turn-preserved : goal.loop-turn-preserved
loop-turn-preserved g c =
    let k = c.loop-turn in
    record {
      so = next_pair _ _ _ _ _ _ _ _ _ c.in_ok-add_pair.ensures c.in_ok-one.ensures c.in_ok-other.ensures k.invariant.so;
      len = omega (arith, ap length c.in_ok-one.ensures, k.invariant.len);
    }

pub returns : goal.returns
returns g c = all_paired _ _ _ _ (omega (arith, c.loop-turn.invariant.len)) c.loop-turn.invariant.so
