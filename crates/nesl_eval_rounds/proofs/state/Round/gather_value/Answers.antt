use Rattle.std.proofs.Common.{◌≡◌, ap, ◌∙◌, subst, suc, ◌++◌, ◌∷◌, []}
use Rattle.std.specs.Prelude.{max, MatchResult}
use Rattle.std.proofs.lemmas.Result.{err_from_is_err_and}
use Rattle.nesl_values.specs.View.{tree_of}
use Rattle.nesl_values_builder.specs.Elements.{elements_of}
use Rattle.nesl_eval_nodes.specs.declared.meter.Stop.TheVariants.{Memory}
use Rattle.nesl_eval_rounds.proofs.Gathering.{value_gave, pay_stops}
use Rattle.nesl_eval_rounds.proofs.state.Round.gather_value.Goals as goal

pub returns-in_err-value-clause-gave : goal.returns-in_err-value-clause-gave
returns-in_err-value-clause-gave g c = λ t n b env st is.
    let p = err_from_is_err_and c.from_residual.result c.from_residual.ensures.1 in
    rw (p.1, p.2) (pay_stops t n b env st (Unit {0}) c.args.self.now (tree_of c.args.made) c.args.meter.now.depth c.pay.new.meter.fuel c.args.meter.now c.pay.new.meter c.in_err-value.field-0.0 _ is c.in_err-value.ensures.meets)

pub returns-in_err-add-clause-gave : goal.returns-in_err-add-clause-gave
returns-in_err-add-clause-gave g c = λ t n b env st is.
    let p = err_from_is_err_and c.from_residual-in_err-add.result c.from_residual-in_err-add.ensures.1 in
    rw (p.1, p.2, c.in_err-add.ensures) tt

pub returns-clause-gave : goal.returns-clause-gave
returns-clause-gave g c = λ t n b env st is.
    let r = c.args.self.now in
    let n1 = c.end_turn.new.self in
    let same : tree_of c.in_ok-value.value ≡ tree_of c.args.made = cc c.in_ok-value.ensures.meets.0 in
    let ended : MatchResult c.end_turn.result (λ x. n1 ≡ record r { values = c.add.new.builder; turns = suc r.turns; most = max r.most c.args.meter.now.depth }) (λ e. e ≡ Memory) =
    subst (λ d. MatchResult c.end_turn.result (λ x. n1 ≡ record r { values = c.add.new.builder; turns = suc r.turns; most = max r.most d }) (λ e. e ≡ Memory)) (c.depth.ensures.depth ∙ c.in_ok-value.ensures.depth) c.end_turn.ensures in
    value_gave t n b env st r n1 c.add.new.builder (tree_of c.args.made) c.args.meter.now.depth c.args.meter.now.fuel c.pay.new.meter.fuel c.end_turn.result is
    (c.in_ok-add.ensures ∙ ap (λ x. elements_of r.values ++ x ∷ []) same) c.in_ok-value.ensures.meets.1 ended
