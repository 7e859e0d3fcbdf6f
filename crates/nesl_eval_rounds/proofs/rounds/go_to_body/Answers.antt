use Rattle.std.proofs.Common.{◌≡◌, ℕ, List, subst}
use Rattle.std.specs.Prelude.{MatchResult}
use Rattle.nesl_values.specs.Tree.{ValueTree}
use Rattle.nesl_eval_code.specs.Run.{Table}
use Rattle.nesl_eval_code.specs.Block.{Block}
use Rattle.nesl_eval_code.specs.Exec.{Places}
use Rattle.nesl_eval_nodes.specs.declared.meter.Stop.TheVariants.{Memory}
use Rattle.nesl_eval_rounds.specs.Rounds.{between}
use Rattle.nesl_eval_rounds.proofs.rounds.go_to_body.Goals as goal

pub returns : goal.returns
returns g c =
    subst (λ r. MatchResult c.go_to_body.result (λ u. (t : Table) (n : ℕ) (b : Block) (env : Places) (st : List ValueTree) → between t n b env st r ≡ between t n b env st c.go_to_body.new.self) (λ e. e ≡ Memory))
    c.deref_mut.ensures.value c.go_to_body.ensures
