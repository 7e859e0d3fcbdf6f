use Rattle.std.proofs.Common.{◌≡◌, true, refl, rules}
use Rattle.nesl_infer_rules.proofs.Steps.{gives_fresh}
use Rattle.nesl_infer_rules.proofs.state.State.fresh.Goals as goal

pub returns-clause-gives : goal.returns-clause-gives
returns-clause-gives c =
    let q = c.in_ok-variable.ensures in
    let whole : c.args.self.now.is_whole ≡ true = search rules in
    gives_fresh c.args.self.now _ whole refl c.args.class c.in_ok-variable.variable q.variable q.members q.holds
