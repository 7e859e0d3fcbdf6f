use Rattle.std.proofs.Common.{◌≡◌, ℕ, List, ◌∷◌, map, sym, ap, ◌∙◌, rules}
use Rattle.nesl_keeper.specs.Files.{head_text}
use Rattle.nesl_keeper.proofs.Rows.{texts, uncons}
use Rattle.nesl_keeper.proofs.replay.compare.Goals as goal

pub returns : goal.returns
returns c =
    let session = c.args.session.now in
    let head : head_text session.base session.cleared ≡ c.head-item.result.items = search rules in
    ap (λ (h : List ℕ). h ∷ session.lines) head
    ∙ ap (λ (ls : List (List ℕ)). c.head-item.result.items ∷ ls) (sym c.lines.ensures.lines ∙ c.in_ok-compare_lines.ensures)
    ∙ sym (ap texts (uncons c.head-item.result c.args.rows.now c.in-len1-up.len_at_least c.head-item.is))
