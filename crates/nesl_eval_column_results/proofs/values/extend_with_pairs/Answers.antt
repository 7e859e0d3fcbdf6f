use Rattle.std.proofs.Common.{◌∙◌, arith}
use Rattle.nesl_values.specs.View.{tree_of}
use Rattle.nesl_eval_column_results.proofs.Pairing.{next_value, all_added, none_past}
use Rattle.nesl_eval_column_results.proofs.values.extend_with_pairs.Goals as goal

pub loop-turn-preserved : goal.loop-turn-preserved
loop-turn-preserved g c =
    let k = c.loop-turn in
    record {
      so = next_value _ _ _ _ _ _ c.in-Ok.ensures.ok c.take_pair-pair.ensures.out k.invariant.so;
      len = c.take_pair-pair.ensures.len ∙ k.invariant.len;
    }

pub returns : goal.returns
returns g c = λ t.
    let k = c.loop-turn in
    all_added _ _ _ (none_past tree_of k.pairs.items k.turn (omega (arith, k.invariant.len))) k.invariant.so
