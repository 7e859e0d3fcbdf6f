use Rattle.std.proofs.Common.{map, length}
use Rattle.nesl_values.specs.Tree as values
use Rattle.nesl_eval_meaning.specs.Out as out
use Rattle.nesl_cost_eval.proofs.run.Run.text.Goals as goal

pub returns : goal.returns
returns c =
    let cs = c.args.bytes.now in
    c.settle.ensures (out.value (values.sequence (map values.character cs)) (length cs) 0) c.make_text-found.ensures.meets
