use Rattle.std.proofs.Common.{◌≡◌, ℕ, ◌+◌, ◌<◌, sym, subst}
use Rattle.std.specs.Prelude.{MatchOption}
use Rattle.nesl_syntax_tree.specs.Views.{tree_of}
use Rattle.nesl_session_bindings.proofs.Counted.{nodes_summed}
use Rattle.nesl_session_bindings.proofs.nodes.left_after.Goals as goal

pub returns : goal.returns
returns c =
    subst (λ (n : ℕ). MatchOption c.room_left.result (c.args.room < n) (λ left. left + n ≡ c.args.room))
    (sym (nodes_summed (tree_of c.args.exp.now))) c.room_left.ensures
