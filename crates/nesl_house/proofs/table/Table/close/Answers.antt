use Rattle.std.proofs.Common.{◌≡◌, ◌∙◌, sym, ap, map, length, position, None, ◌≤◌, arith, rules}
use Rattle.std.proofs.lemmas.List.{length-map}
use Rattle.nesl_house.specs.Slots.{is_away}
use Rattle.nesl_house.proofs.Boards.{all_home, closed}
use Rattle.nesl_house.proofs.table.Table.close.Goals as goal

pub seated-requires-clause-home : goal.seated-requires-clause-home
seated-requires-clause-home c =
    let home : position is_away c.into_inner-slots.result.slots.items ≡ None = sym c.in_default.ensures in
    all_home c.into_inner-slots.result.slots.items home

pub returns-clause-closed : goal.returns-clause-closed
returns-clause-closed c =
    let home : position is_away c.into_inner-slots.result.slots.items ≡ None = sym c.in_default.ensures in
    let same : c.recorded_in-counted.result ≡ c.into_inner-slots.result.booked = search rules in
    let few : length (map (λ v. v.items) c.self.inside.roster.items) ≤ 64 = let same_length = length-map c.self.inside.roster.items (λ v. v.items) in omega (arith, same_length, c.self.invariant.0) in
    closed c.args.self.roster (map (λ v. v.items) c.self.inside.roster.items) c.of.result c.into_inner-slots.result.slots.items c.recorded_in-counted.result c.into_inner-slots.result.booked
    (ap (λ r. r.roster) c.self.view_is) (c.of.ensures ∙ c.seated.ensures.users) home c.into_inner-slots.result.places c.into_inner-slots.result.in_place c.into_inner-slots.result.counted_all same c.seated.ensures.held few
