use Rattle.std.proofs.Common.{◌≡◌, ℕ, ap, sym, subst, length, max, refl, ◌∙◌, ◌++◌}
use Rattle.nesl_eval_nodes.specs.Measures.{Measure}
use Rattle.nesl_eval_rounds.specs.Leads.{Took}
use Rattle.nesl_eval_rounds.specs.Rounds.{between, chosen_places}
use Rattle.nesl_eval_rounds.specs.Slots.{places_of}
use Rattle.nesl_eval_rounds.proofs.Gathering.{some_there, next_round}
use Rattle.nesl_eval_rounds.proofs.Columned.{filter_took, took_none}
use Rattle.nesl_eval_rounds.proofs.columns.take_filter_turns.Goals as goal

pub returns-in-Some-clause-took : goal.returns-in-Some-clause-took
returns-in-Some-clause-took g c = λ b st some laid.
    let t = g.T.Tops.table c.args.setting.now.tops.now in
    let s = c.args.setting.now in
    let r = c.args.round.now in
    let n1 = c.add_places.new.self in
    let m = c.new-meter.result in
    let m1 = c.places_in_columns.new.meter in
    let there = some_there r.body some in
    let F : ℕ → ℕ → Type 0 = λ f f1. Took f f1 (between t s.levels b (places_of s.names.now) st r) (between t s.levels b (places_of s.names.now) st n1) in
    next_round c.add_places.result c.add_places.ensures
    (λ h.
    let same = subst (λ d. n1 ≡ record r { kept = n1.kept; turns = length (chosen_places r.chosen); most = max r.most d }) c.depth.ensures.depth h.0 in
    subst (F c.args.fuel.now) (sym c.fuel.ensures) (subst (λ f. F f m1.fuel) (ap (λ (x : Measure). x.fuel) c.new-meter.ensures)
    (filter_took t s.levels b (places_of s.names.now) st r n1 there.0 c.in-Some.places m m1 there.1 (ap (λ (x : Measure). x.depth) c.new-meter.ensures) (c.in-Some.ensures.meets laid) same
    (h.1 ∙ ap (λ l. r.kept.items ++ l) c.deref.ensures.value))))

pub returns-in-None-clause-took : goal.returns-in-None-clause-took
returns-in-None-clause-took g c = λ b st some laid. took_none c.args.fuel.now _ _ refl
