use Rattle.std.proofs.Common.{refl, ap, None}
use Rattle.nesl_eval_rounds.specs.declared.state.Chosen.TheVariants.{These}
use Rattle.nesl_eval_rounds.proofs.Gathering.{body_next}
use Rattle.nesl_eval_rounds.proofs.state.Round.become_body.Goals as goal

pub returns : goal.returns
returns g c = λ t n b env st is none_left.
    body_next t n b env st c.args.self.now (record c.args.self.now { block = c.args.body; body = None; chosen = These c.replace-kept.result; turns = 0; start = c.in_ok-start.start; most = 0; values = c.with_room.result }) c.args.body c.replace-kept.result is none_left refl refl refl refl (ap (λ v. v.items) c.replace-kept.ensures.value) refl c.in_ok-start.ensures.0 refl c.with_room.ensures
