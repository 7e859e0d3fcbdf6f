use Rattle.nesl_types_shared.proofs.Absent.{absent_below}
use Rattle.nesl_types_shared.proofs.shapes.place_in.Goals as goal

pub loop-place-init : goal.loop-place-init
loop-place-init c = absent_below c.args.shapes.now c.args.shape c.first_place-place.result c.requires c.first_place-place.ensures
