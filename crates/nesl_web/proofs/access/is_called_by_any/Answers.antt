use Rattle.std.proofs.Common.{List, ℕ, Bor, sym, ◌∙◌}
use Rattle.nesl_web.specs.Access.{is_called}
use Rattle.nesl_web.proofs.AccessLemmas.{list_any_map}
use Rattle.nesl_web.proofs.access.is_called_by_any.Goals as goal

pub returns : goal.returns
returns c =
    let read : Bor (List ℕ) → List ℕ = λ name. name.now in
    c.any_calls.ensures ∙ sym (list_any_map (is_called c.args.host.now) read c.args.names.now)
