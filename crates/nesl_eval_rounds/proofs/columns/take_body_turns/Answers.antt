use Rattle.std.proofs.Common.{◌≡◌, ℕ, ap, sym, subst, length, max, refl}
use Rattle.nesl_eval_nodes.specs.Measures.{Measure}
use Rattle.nesl_eval_rounds.specs.Leads.{Took}
use Rattle.nesl_eval_rounds.specs.Rounds.{between, chosen_places}
use Rattle.nesl_eval_rounds.specs.Slots.{places_of}
use Rattle.nesl_eval_rounds.proofs.Gathering.{next_round}
use Rattle.nesl_eval_rounds.proofs.Columned.{body_took, took_none}
use Rattle.nesl_eval_rounds.proofs.columns.take_body_turns.Goals as goal

pub returns-in-Some-clause-took : goal.returns-in-Some-clause-took
returns-in-Some-clause-took g c = λ b st is laid.
    let t = g.T.Tops.table c.args.setting.now.tops.now in
    let s = c.args.setting.now in
    let r = c.args.round.now in
    let n1 = c.add_values.new.self in
    let m = c.new-meter.result in
    let m1 = c.values_in_columns.new.meter in
    let F : ℕ → ℕ → Type 0 = λ f f1. Took f f1 (between t s.levels b (places_of s.names.now) st r) (between t s.levels b (places_of s.names.now) st n1) in
    next_round c.add_values.result c.add_values.ensures
    (λ h.
    let same = subst (λ d. n1 ≡ record r { values = n1.values; turns = length (chosen_places r.chosen); most = max r.most d }) c.depth.ensures.depth h.0 in
    subst (F c.args.fuel.now) (sym c.fuel.ensures) (subst (λ f. F f m1.fuel) (ap (λ (x : Measure). x.fuel) c.new-meter.ensures)
    (body_took t s.levels b (places_of s.names.now) st r n1 c.in-Some.values m m1 is (ap (λ (x : Measure). x.depth) c.new-meter.ensures) (c.in-Some.ensures.meets laid) same h.1)))

pub returns-in-None-clause-took : goal.returns-in-None-clause-took
returns-in-None-clause-took g c = λ b st is laid. took_none c.args.fuel.now _ _ refl
