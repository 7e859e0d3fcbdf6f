use Rattle.std.proofs.Common.{◌≡◌, ◌∙◌, List, [], drop, sym, ap, arith}
use Rattle.std.specs.List.{list_any}
use Rattle.std.proofs.lemmas.Grind.{common_steps}
use Rattle.nesl_eval_top_level.specs.Stored.{Entry}
use Rattle.nesl_session_bindings.proofs.Walks.{other_refers, any_step, any_here, referred_is}
use Rattle.nesl_session_bindings.proofs.redefinition.is_referred.Goals as goal

pub returns-then-refers_at : goal.returns-then-refers_at
returns-then-refers_at c =
    any_here (other_refers c.args.name.now) c.args.env.now c.loop-place.place c.refers_at.result c.refers_at.ensures c.if-refers_at.true
    ∙ c.loop-place.invariant ∙ referred_is c.args.name.now c.args.env.now

pub loop-place-preserved : goal.loop-place-preserved
loop-place-preserved c =
    any_step (other_refers c.args.name.now) c.args.env.now c.loop-place.place c.refers_at.result c.refers_at.ensures c.if-refers_at.false ∙ c.loop-place.invariant

pub returns : goal.returns
returns c =
    let none : drop c.loop-place.place c.args.env.now ≡ [] = grind (arith, common_steps) in
    ap (λ (es : List Entry). list_any (other_refers c.args.name.now) es) (sym none) ∙ c.loop-place.invariant ∙ referred_is c.args.name.now c.args.env.now
