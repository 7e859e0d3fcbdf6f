use Rattle.nesl_lex.proofs.Pieces.{name_text}
use Rattle.nesl_lex.proofs.Words.{word_as_is}
use Rattle.nesl_lex.proofs.scan.name.Goals as goal

pub returns-in-Some : goal.returns-in-Some
returns-in-Some c =
    let n = c.front_len-n.ensures.value in
    rw n (name_text c.args.bytes.now c.requires.some c.requires.letter _ (rw (← n) (word_as_is _ _ _ c.word.ensures c.in-Some.is)))

pub returns : goal.returns
returns c =
    let n = c.front_len-n.ensures.value in
    rw n (name_text c.args.bytes.now c.requires.some c.requires.letter _ (rw (← n, ← c.in_ok-small.ensures) c.named.ensures))
