use Rattle.std.proofs.Common.{rules}
use Rattle.nesl_types_shared.specs.contracts.shape.ShapePartialEq as shape_eq
use Rattle.nesl_types_shared.proofs.Absent.{inserted_absent}
use Rattle.nesl_types_shared.proofs.shapes.insert_absent.Goals as goal

pub returns : goal.returns
returns c = inserted_absent (shape_eq.TheImpl.ghosts).eq (λ x y h. search rules) c.args.index.now.keys c.insert.new.self.keys c.args.shape c.requires c.in_ok-insert.ensures.keys
