use Rattle.nesl_lex.proofs.Pieces.{quoted_text, quoted_stuck, from_of}
use Rattle.std.proofs.Common.{arith}
use Rattle.nesl_lex.proofs.scan.text.Goals as goal
use Rattle.nesl_lex.proofs.scan.text.Goals.{else-n-rest-via-then-n-rest+else-rest-n-eq34, else-n-rest-via-else-n-rest}

pub returns-in_ok-inside : goal.returns-in_ok-inside
returns-in_ok-inside c =
    let bytes = c.args.bytes.now in
    let n = rw (from_of 1 bytes) at c.front_len-n.ensures.value in
    let within = rw (from_of 1 bytes) at c.if-n-rest.true in
    let quote = rw (from_of 1 bytes) at c.if-rest-n-eq34.true in
    let inside = rw n at (rw (from_of 1 bytes) at c.in_ok-inside.ensures.items) in
    rw (n, inside) (quoted_text bytes c.requires.some c.requires.quote (rw (← n) within) (rw (← n) quote))

pub returns-else-n-rest : goal.returns-else-n-rest
returns-else-n-rest c =
    let bytes = c.args.bytes.now in
    let n = rw (from_of 1 bytes) at c.front_len-n.ensures.value in
    elim c.else-n-rest.branch [
      | else-n-rest-via-then-n-rest+else-rest-n-eq34 w ↦ let q = rw (from_of 1 bytes) at w.if-rest-n-eq34.false in quoted_stuck bytes c.requires.some c.requires.quote (λ l e. q (rw n e))
      | else-n-rest-via-else-n-rest w ↦ let q = rw (from_of 1 bytes) at w.if-n-rest.false in quoted_stuck bytes c.requires.some c.requires.quote (λ l e. omega arith)
    ]
