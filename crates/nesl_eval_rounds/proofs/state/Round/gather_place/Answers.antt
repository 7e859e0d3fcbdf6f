use Rattle.std.proofs.Common.{◌≡◌, subst, suc}
use Rattle.std.specs.Prelude.{max, MatchResult}
use Rattle.std.proofs.lemmas.Result.{err_from_is_err_and}
use Rattle.nesl_values.specs.View.{tree_of}
use Rattle.nesl_eval_nodes.specs.declared.meter.Stop.TheVariants.{Memory}
use Rattle.nesl_eval_rounds.proofs.Gathering.{place_gave, no_place, some_there}
use Rattle.nesl_eval_rounds.proofs.state.Round.gather_place.Goals as goal

pub returns-in_err-holds : goal.returns-in_err-holds
returns-in_err-holds g c = λ t n b env st some.
    let there = some_there c.args.self.now.body some in
    let p = err_from_is_err_and c.from_residual.result c.from_residual.ensures.1 in
    rw (p.1, p.2, c.in_err-holds.ensures.0) (no_place t n b env st c.args.self.now there.0 (tree_of c.args.made) c.args.meter.now.depth there.1 c.in_err-holds.ensures.1)

pub returns-in_err-keep_if : goal.returns-in_err-keep_if
returns-in_err-keep_if g c = λ t n b env st some.
    let p = err_from_is_err_and c.from_residual-in_err-keep_if.result c.from_residual-in_err-keep_if.ensures.1 in
    rw (p.1, p.2, c.in_err-keep_if.ensures) tt

pub returns : goal.returns
returns g c = λ t n b env st some.
    let r = c.args.self.now in
    let n1 = c.end_turn.new.self in
    let there = some_there r.body some in
    let ended : MatchResult c.end_turn.result (λ x. n1 ≡ record r { kept = c.keep_if.new.kept; turns = suc r.turns; most = max r.most c.args.meter.now.depth }) (λ e. e ≡ Memory) =
    subst (λ d. MatchResult c.end_turn.result (λ x. n1 ≡ record r { kept = c.keep_if.new.kept; turns = suc r.turns; most = max r.most d }) (λ e. e ≡ Memory)) c.depth.ensures.depth c.end_turn.ensures in
    place_gave t n b env st r n1 c.keep_if.new.kept there.0 (tree_of c.args.made) c.in_ok-holds.holds c.args.meter.now.depth c.args.meter.now.fuel c.end_turn.result
    there.1 c.in_ok-holds.ensures c.in_ok-keep_if.ensures ended
