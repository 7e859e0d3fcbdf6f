use Rattle.std.proofs.Common.{◌<◌, length, subst, sym}
use Rattle.nesl_types.specs.Texts.{name_at}
use Rattle.nesl_types_shared.specs.Types.{type_at}
use Rattle.nesl_types.specs.Pieces.{IsWritten, IsPieceBelow}
use Rattle.nesl_types.proofs.Begun.{type_written}
use Rattle.nesl_types.proofs.texts.write_piece.Goals as goal

pub returns-in_ok-write_shape-in-TypeAt : goal.returns-in_ok-write_shape-in-TypeAt
returns-in_ok-write_shape-in-TypeAt g c =
    let names = name_at c.args.context.now in
    let ts = c.args.parts.now in
    let p = c.in-TypeAt.place in
    let within : p < length ts = subst (IsPieceBelow (length ts)) c.in-TypeAt.is c.requires in
    subst (λ x. IsWritten names (type_at ts) (length ts) x c.args.out.now.items c.write_shape.new.out.items c.args.stack.now.items c.write_shape.new.stack.items) (sym c.in-TypeAt.is)
    (type_written names (type_at ts) (length ts) p c.in-TypeAt.brackets c.shape.result c.args.out.now.items c.write_shape.new.out.items c.args.stack.now.items c.write_shape.new.stack.items within c.shape.ensures.parts c.shape.ensures.shape c.in_ok-write_shape-in-TypeAt.ensures)
