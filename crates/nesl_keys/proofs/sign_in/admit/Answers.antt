use Rattle.nesl_keys.specs.Admission.{ByAddress, ByHeader, came_with, nobody}
use Rattle.nesl_keys.specs.Shown.{listed_in}
use Rattle.nesl_keys.specs.declared.sign_in.TurnedAway.TheVariants as away
use Rattle.nesl_keys.proofs.Refused.{named_otherwise, nobody_keyed}
use Rattle.nesl_keys.proofs.sign_in.admit.Goals as goal

pub returns-in-Keys-clause-nobody : goal.returns-in-Keys-clause-nobody
returns-in-Keys-clause-nobody c =
    rw c.in-Keys.is
    (nobody_keyed c.admit_by_key.result (listed_in c.in-Keys.keys.now) c.args.visitor.first_line.now
    c.admit_by_key.ensures.err)

pub returns-in-Some-clause-err : goal.returns-in-Some-clause-err
returns-in-Some-clause-err c =
    let known = c.in-Some.ensures.some in
    rw c.in-Header.is
    (named_otherwise c.admit_named.result away.Header (ByHeader (came_with c.args.visitor))
    c.args.visitor.first_line.now c.in-Some.name.now known.0 known.1 c.admit_named.ensures.err)

pub returns-in-None-clause-err : goal.returns-in-None-clause-err
returns-in-None-clause-err c = rw c.in-Header.is (nobody c.in-None.ensures.none)

pub returns-in-Some-address_user-clause-err : goal.returns-in-Some-address_user-clause-err
returns-in-Some-address_user-clause-err c =
    let known = c.in-Some-address_user.ensures.some in
    rw c.in-Address.is
    (named_otherwise c.admit_named-in-Some-address_user.result away.Address (ByAddress (came_with c.args.visitor))
    c.args.visitor.first_line.now c.in-Some-address_user.name.now known.0 known.1
    c.admit_named-in-Some-address_user.ensures.err)

pub returns-in-None-address_user-clause-err : goal.returns-in-None-address_user-clause-err
returns-in-None-address_user-clause-err c = rw c.in-Address.is (nobody c.in-None-address_user.ensures.none)
