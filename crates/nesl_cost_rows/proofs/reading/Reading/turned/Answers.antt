use Rattle.std.proofs.Common.{◌∙◌, ap, ◌∷◌}
use Rattle.nesl_cost_rows.specs.Readings.{charges_in, state_of}
use Rattle.nesl_cost_rows.proofs.ReadBack.{one_newer, joined_here}
use Rattle.nesl_cost_rows.proofs.reading.Reading.turned.Goals as goal

pub returns : goal.returns
returns c =
    let st = state_of c.args.self.now in
    joined_here st.home st.callers st.all _ st.path (charges_in c.in-Some.turn) (charges_in c.in-Some-pop.before) _ st.waiting
    (one_newer charges_in c.args.self.now.waiting.items c.pop.new.self.items c.in-Some.turn c.in-Some.ensures.items
    ∙ ap (λ l. charges_in c.in-Some.turn ∷ l) (one_newer charges_in c.pop.new.self.items c.pop-2.new.self.items c.in-Some-pop.before c.in-Some-pop.ensures.items))
    (cc (c.in_ok-append.ensures, c.deeper.ensures))
