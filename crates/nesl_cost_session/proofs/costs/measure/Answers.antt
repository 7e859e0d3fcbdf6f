use Rattle.std.proofs.Common.{subst, []}
use Rattle.nesl_syntax_tree.specs.Views.{tree_of}
use Rattle.nesl_eval_meaning.specs.Names.{outside}
use Rattle.nesl_eval_meaning.specs.Outcome.{out}
use Rattle.nesl_eval_top_level.specs.Stored.{environment}
use Rattle.nesl_cost_meaning.specs.Traced.{traced}
use Rattle.nesl_cost_meaning.proofs.Erased.{erases}
use Rattle.nesl_cost_eval.specs.declared.account.Account.{Account}
use Rattle.nesl_cost_eval.specs.Accounts.{Explains}
use Rattle.nesl_cost_session.proofs.Totals.{both, done_found, fault_found, over_found}
use Rattle.nesl_cost_session.proofs.costs.measure.Goals as goal

pub returns-in-Done : goal.returns-in-Done
returns-in-Done c =
    let n = c.args.levels in
    let f = c.args.fuel in
    let env = environment c.args.env.now in
    let e = tree_of c.args.exp.now in
    let t = traced n env (outside []) e in
    let r = c.tabled.result in
    let j = c.in-Done.trace in
    let h = subst (λ (a : Account). Explains a f t) c.in-Done.is c.account_for.ensures.account in
    done_found r j f (both r j c.tabled.ensures.work c.tabled.ensures.depth) c.in-Done.value t (out n env (outside []) e) (erases n env (outside []) e) c.tabled.ensures.ending h

pub returns-in-Fault : goal.returns-in-Fault
returns-in-Fault c =
    let n = c.args.levels in
    let f = c.args.fuel in
    let env = environment c.args.env.now in
    let e = tree_of c.args.exp.now in
    let t = traced n env (outside []) e in
    let r = c.tabled-in-Fault.result in
    let k = c.in-Fault in
    let h = subst (λ (a : Account). Explains a f t) k.is c.account_for.ensures.account in
    fault_found r k.trace f (both r k.trace c.tabled-in-Fault.ensures.work c.tabled-in-Fault.ensures.depth) k.trap k.span k.place t (out n env (outside []) e)
    (erases n env (outside []) e) c.tabled-in-Fault.ensures.ending h

pub returns-in-Over : goal.returns-in-Over
returns-in-Over c =
    let n = c.args.levels in
    let f = c.args.fuel in
    let env = environment c.args.env.now in
    let e = tree_of c.args.exp.now in
    let t = traced n env (outside []) e in
    let r = c.tabled-in-Over.result in
    let j = c.in-Over.trace in
    let h = subst (λ (a : Account). Explains a f t) c.in-Over.is c.account_for.ensures.account in
    over_found r j f (both r j c.tabled-in-Over.ensures.work c.tabled-in-Over.ensures.depth) t (out n env (outside []) e) (erases n env (outside []) e)
    c.tabled-in-Over.ensures.ending h
