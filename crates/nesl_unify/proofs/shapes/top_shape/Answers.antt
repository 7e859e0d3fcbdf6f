use Rattle.nesl_unify.proofs.ShapeReadings.{shape_reading}
use Rattle.nesl_unify.proofs.shapes.top_shape.Goals as goal

pub returns : goal.returns
returns c = shape_reading c.args.instances.now c.args.nodes.now c.args.place c.target.result c.root_shape.result c.target.ensures c.root_shape.ensures
