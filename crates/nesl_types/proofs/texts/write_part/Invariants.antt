use Rattle.std.proofs.Common.{◌≡◌, ◌++◌, All, length}
use Rattle.nesl_types.specs.Texts.{type_text}
use Rattle.nesl_types.specs.Texts.{name_at}
use Rattle.nesl_types_shared.specs.Types.{type_at}
use Rattle.nesl_types.specs.Pieces.{rest_text, rest_size, IsPieceBelow}
use Rattle.nesl_types.proofs.texts.write_part.Given as goal

abbrev pub invariant-loop-piece : goal.invariant-loop-piece
invariant-loop-piece g l = record {
  text : l.out.items ++ rest_text (name_at l.context) (type_at l.parts) l.stack.items ≡ l.initial.out.items ++ type_text (name_at l.context) l.brackets (type_at l.parts l.place);
  below : All (IsPieceBelow (length l.parts)) l.stack.items;
}

abbrev pub decreases-loop-piece : goal.decreases-loop-piece
decreases-loop-piece g l = rest_size (type_at l.parts) l.stack.items
