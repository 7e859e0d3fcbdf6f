use Rattle.std.proofs.Common.{◌≡◌, ◌∙◌, ap, subst, List, [], Result, Err, Global}
use Rattle.nesl_values.specs.declared.value.Value as code
use Rattle.nesl_eval_nodes.specs.declared.meter.Meter.{Meter}
use Rattle.nesl_eval_nodes.specs.Meets.{Is}
use Rattle.nesl_cost_rows.specs.Written.{Note, notes_of}
use Rattle.nesl_cost_eval.specs.declared.unfinished.Unfinished.{Unfinished}
use Rattle.nesl_syntax_tree.specs.Views.{tree_of}
use Rattle.nesl_eval_meaning.specs.Names.{outside}
use Rattle.nesl_eval_meaning.specs.Outcome.{out}
use Rattle.nesl_eval_top_level.specs.Stored.{environment}
use Rattle.nesl_cost_meaning.specs.Traced.{traced}
use Rattle.nesl_cost_meaning.proofs.Erased.{erases}
use Rattle.nesl_cost_eval.specs.declared.scope.Local.{Local}
use Rattle.nesl_cost_eval.specs.Scopes.{locals}
use Rattle.nesl_eval_meaning.specs.Out.{Out, within}
use Rattle.nesl_eval_meaning.specs.Names.{Value}
use Rattle.nesl_cost_eval.specs.Accounts.{Agrees}
use Rattle.nesl_cost_eval.specs.Writes.{Book, Writes, book}
use Rattle.nesl_cost_eval.proofs.Running.{IsOf}
use Rattle.nesl_cost_eval.proofs.Told.{begun, begun_with, explained, explained_fault, explained_over, explained_memory, agreed, agreed_fault, agreed_over}
use Rattle.nesl_cost_eval.proofs.account.account_for.Goals as goal

pub returns-in-Ok : goal.returns-in-Ok
returns-in-Ok c =
    let n = c.args.levels in
    let f = c.args.fuel in
    let env = environment c.args.env.now in
    let e = tree_of c.args.exp.now in
    let t = traced n env (outside []) e in
    let o = out n env (outside []) e in
    let same = erases n env (outside []) e in
    let b = book c.eval-found.new.run in
    let sc = ap (λ (ls : List Local). outside (locals ls)) c.new.ensures.items in
    let F : List Note → Book = λ ns. record { notes = ns; fuel = c.new-3.result.fuel } in
    let G : Meter → Book = λ m. record { notes = []; fuel = m.fuel } in
    let a : F (notes_of c.new-2.result) ≡ begun f = ap F c.new-2.ensures ∙ ap G c.new-3.ensures in
    let whole = begun_with n f env _ e c.eval-found.result _ b sc a c.eval-found.ensures in
    let v = c.in-Ok.value in
    let j = c.eval-found.new.run.trace in
    let h = explained v j f b.fuel t (subst (λ (r : Result (code.Value Global) Unfinished). Writes Is (begun f) r b t) c.in-Ok.is whole) in
    record { account = h; outcome = agreed v j f t o same h }

pub returns : goal.returns
returns c =
    let n = c.args.levels in
    let f = c.args.fuel in
    let env = environment c.args.env.now in
    let e = tree_of c.args.exp.now in
    let t = traced n env (outside []) e in
    let o = out n env (outside []) e in
    let same = erases n env (outside []) e in
    let b = book c.eval-found.new.run in
    let sc = ap (λ (ls : List Local). outside (locals ls)) c.new.ensures.items in
    let F : List Note → Book = λ ns. record { notes = ns; fuel = c.new-3.result.fuel } in
    let G : Meter → Book = λ m. record { notes = []; fuel = m.fuel } in
    let a : F (notes_of c.new-2.result) ≡ begun f = ap F c.new-2.ensures ∙ ap G c.new-3.ensures in
    let whole = begun_with n f env _ e c.eval-found.result _ b sc a c.eval-found.ensures in
    let h = c.without_value.ensures f b.fuel t (subst (λ (r : Result (code.Value Global) Unfinished). Writes Is (begun f) r b t) c.in-Err.is whole) in
    record { account = h.0; outcome = subst (λ (p : Out Value). Agrees c.without_value.result (within f p)) same h.1 }
