use Rattle.nesl_eval_code.specs.Resolving.{layers_of, known}
use Rattle.nesl_eval_code.proofs.Nodes.{means_text}
use Rattle.nesl_eval_code.proofs.preparing.code_of_text.Goals as goal

pub returns : goal.returns
returns c =
    means_text (known c.args.at.now.places.now) (layers_of c.args.at.now.layers.now) c.args.span c.in_ok-bytes.bytes c.args.bytes.now c.in_ok-bytes.ensures.items
