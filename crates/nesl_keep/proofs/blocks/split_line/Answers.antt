use Rattle.std.proofs.Common.{◌+◌, ◌∷◌, List, ℕ, length, take, ◌∙◌, ap, sym, arith}
use Rattle.std.proofs.lemmas.List.{take_rest, length-drop}
use Rattle.nesl_keep.specs.Scroll.{kept}
use Rattle.nesl_keep.proofs.Lines.{read_first}
use Rattle.nesl_keep.proofs.blocks.split_line.Goals as goal

pub returns-clause-some : goal.returns-clause-some
returns-clause-some c =
    let bytes = c.args.bytes.now in
    let end = c.in-Some.end in
    let first = c.in-Some.ensures.some in
    let rest = take_rest bytes (end + 1) in (
      read_first bytes end first.0 first.1 first.2 ∙ ap (λ (l : List ℕ). take end bytes ∷ kept l) (sym rest),
      omega (arith, first.0, length-drop (end + 1) bytes, ap length rest),
    )
