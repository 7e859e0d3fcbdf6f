use Rattle.std.proofs.Common.{◌≡◌, ◌∙◌, ap, map, ◌∷◌, reverse}
use Rattle.nesl_cost_rows.specs.Readings.{charges_in, state, state_of}
use Rattle.nesl_cost_rows.proofs.ReadBack.{one_newer, set_aside}
use Rattle.nesl_cost_rows.proofs.reading.Reading.set_apart.Goals as goal

pub returns : goal.returns
returns c =
    let st = state_of c.args.self.now in
    let new = c.push.new.self.items in
    let p : charges_in c.replace-before.new.dest ≡ charges_in c.args.path = cc in
    let q : charges_in c.replace-before.result ≡ st.path = cc in
    let e = one_newer charges_in new c.args.self.now.waiting.items c.replace-before.result c.in_ok-push.ensures.items in
    ap (λ l. state st.home st.callers st.all l (reverse (map charges_in new))) p
    ∙ set_aside st.home st.callers st.all (charges_in c.args.path) st.path st.waiting (reverse (map charges_in new)) (e ∙ ap (λ l. l ∷ st.waiting) q)
