use Rattle.std.proofs.Common.{◌∙◌, ap, map, ◌∷◌, []}
use Rattle.std.proofs.lemmas.List.{map-append}
use Rattle.nesl_cost_rows.specs.Charges.{charge_of}
use Rattle.nesl_cost_rows.specs.Readings.{state_of}
use Rattle.nesl_cost_rows.proofs.ReadBack.{same_state}
use Rattle.nesl_cost_rows.proofs.reading.Reading.charge.Goals as goal

pub returns : goal.returns
returns c =
    let st = state_of c.args.self.now in
    same_state st.home st.callers st.waiting
    (ap (map charge_of) c.in_ok-push.ensures.items ∙ map-append charge_of c.args.self.now.charges.items (c.args.charge ∷ []))
    c.in_ok-add.ensures
