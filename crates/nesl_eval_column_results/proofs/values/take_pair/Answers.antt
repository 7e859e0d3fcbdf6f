use Rattle.std.proofs.Common.{◌+◌, ◌∷◌, map, drop, set, sym, ap, ◌∙◌}
use Rattle.nesl_values.specs.View.{tree_of}
use Rattle.nesl_eval_column_results.proofs.Pairing.{taken_out}
use Rattle.nesl_eval_column_results.proofs.values.take_pair.Goals as goal

pub returns-clause-out : goal.returns-clause-out
returns-clause-out g c =
    let xs = c.args.pairs.now.items in
    let i = c.args.turn in
    let slot = c.index_mut-slot.result.now in
    taken_out tree_of xs i slot c.replace.new.dest c.requires
    ∙ ap (λ v. tree_of v ∷ drop (i + 1) (map tree_of (set xs i c.replace.new.dest))) (sym c.index_mut-slot.ensures.value ∙ sym c.replace.ensures.value)
