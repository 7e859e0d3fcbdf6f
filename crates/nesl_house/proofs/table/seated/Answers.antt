use Rattle.std.proofs.Common.{◌≡◌, ◌∷◌, length, rules, arith}
use Rattle.std.specs.Vec.Iter.{into_iter_items}
use Rattle.std.proofs.lemmas.List.{nil_from_length}
use Rattle.nesl_house.proofs.Boards.{first_home, all_seated}
use Rattle.nesl_house.proofs.table.seated.Goals as goal

pub into_seat-seat-requires : goal.into_seat-seat-requires
into_seat-seat-requires c =
    let e : into_iter_items c.loop-slot.slot-iterator ≡ c.in-Some.slot ∷ into_iter_items c.next.new.self = search rules in
    first_home _ _ _ e c.loop-slot.invariant.home

pub returns-clause-users : goal.returns-clause-users
returns-clause-users c =
    let none : length (into_iter_items c.loop-slot.slot-iterator) ≡ 0 = omega (arith, c.loop-slot.slot-iterator.rest.ok.0, c.in-None.ensures.steps.0) in
    all_seated _ _ _ _ (nil_from_length _ none) c.loop-slot.invariant.accounts
