use Rattle.std.proofs.Common.{refl, []}
use Rattle.nesl_eval_code.specs.Means.{spot}
use Rattle.nesl_eval_code.specs.Resolving.{layers_of, known}
use Rattle.nesl_eval_code.proofs.Nodes.{means_element}
use Rattle.nesl_eval_code.proofs.preparing.code_of_element.Goals as goal

pub returns : goal.returns
returns c =
    means_element (known c.args.at.now.places.now) (layers_of c.args.at.now.layers.now) c.args.span c.in_ok-up.up 0 c.new.result (spot c.in_ok-up.up 0 []) c.in_ok-up.ensures refl refl c.new.ensures.items
