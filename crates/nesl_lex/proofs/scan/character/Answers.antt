use Rattle.std.proofs.Common.{arith, sym, ◌∙◌}
use Rattle.nesl_lex.proofs.Pieces.{character_text, character_stuck}
use Rattle.nesl_lex.proofs.scan.character.Goals as goal
use Rattle.nesl_lex.proofs.scan.character.Goals.{else-bytes-gt1-via-then-bytes-gt1+else-is_printable, else-bytes-gt1-via-else-bytes-gt1}

pub returns-then-is_printable : goal.returns-then-is_printable
returns-then-is_printable c = character_text c.args.bytes.now c.if-bytes-gt1.true c.requires.backquote (sym c.is_printable.ensures ∙ c.if-is_printable.true)

pub returns-else-bytes-gt1 : goal.returns-else-bytes-gt1
returns-else-bytes-gt1 c =
    elim c.else-bytes-gt1.branch [
      | else-bytes-gt1-via-then-bytes-gt1+else-is_printable w ↦ character_stuck c.args.bytes.now c.requires.some c.requires.backquote (λ l p. let q = w.is_printable.ensures in let r = w.if-is_printable.false in cc)
      | else-bytes-gt1-via-else-bytes-gt1 w ↦ let q = w.if-bytes-gt1.false in character_stuck c.args.bytes.now c.requires.some c.requires.backquote (λ l p. omega arith)
    ]
