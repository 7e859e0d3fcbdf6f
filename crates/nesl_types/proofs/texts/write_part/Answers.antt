use Rattle.std.proofs.Common.{◌++◌, length}
use Rattle.nesl_types.specs.Texts.{type_text}
use Rattle.nesl_types.specs.Texts.{name_at}
use Rattle.nesl_types_shared.specs.Types.{type_at}
use Rattle.nesl_types.proofs.Begun.{rest_after, below_after, less_after}
use Rattle.nesl_types.proofs.texts.write_part.Goals as goal

pub loop-piece-smaller : goal.loop-piece-smaller
loop-piece-smaller g c =
    let ts = c.args.parts.now in
    less_after (name_at c.args.context.now) (type_at ts) (length ts) c.in-Some.piece c.loop-piece.out.items c.write_piece.new.out.items c.loop-piece.stack.items c.pop.new.self.items c.write_piece.new.stack.items c.in-Some.ensures.items c.in_ok-write_piece.ensures

pub loop-piece-preserved : goal.loop-piece-preserved
loop-piece-preserved g c =
    let ts = c.args.parts.now in
    let names = name_at c.args.context.now in
    record {
      text = rest_after names (type_at ts) (length ts) c.in-Some.piece c.loop-piece.out.items c.write_piece.new.out.items (c.args.out.now.items ++ type_text names c.args.brackets (type_at ts c.args.place)) c.loop-piece.stack.items c.pop.new.self.items c.write_piece.new.stack.items c.in-Some.ensures.items c.in_ok-write_piece.ensures c.loop-piece.invariant.text;
      below = below_after names (type_at ts) (length ts) c.in-Some.piece c.loop-piece.out.items c.write_piece.new.out.items c.loop-piece.stack.items c.pop.new.self.items c.write_piece.new.stack.items c.in-Some.ensures.items c.in_ok-write_piece.ensures c.loop-piece.invariant.below;
    }
