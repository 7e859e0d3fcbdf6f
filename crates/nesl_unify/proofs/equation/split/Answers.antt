use Rattle.nesl_unify.specs.declared.equation.Ends.{Ends}
use Rattle.nesl_unify.proofs.Equations.{split_both, split_is}
use Rattle.nesl_unify.proofs.equation.split.Goals as goal

pub returns-in_ok-push-in-Both-Both-2-clause-split : goal.returns-in_ok-push-in-Both-Both-2-clause-split
returns-in_ok-push-in-Both-Both-2-clause-split c =
    let n = c.in-Both-Both in
    let e : Ends = record { left = n.left; right = n.right } in
    let d : Ends = record { left = n.second; right = n.other } in
    split_is c.args.left _ c.args.right _ c.args.pending.now.items c.push-in-Both-Both-2.new.self.items n.is-0 n.is-1
    (split_both e d c.args.pending.now.items c.push-in-Both-Both.new.self.items c.push-in-Both-Both-2.new.self.items c.in_ok-push-in-Both-Both.ensures.items c.in_ok-push-in-Both-Both-2.ensures.items)
