use Rattle.std.proofs.Common.{◌≡◌, length, arith, sym, ap, ◌∙◌}
use Rattle.std.proofs.lemmas.List.{length-map}
use Rattle.std.proofs.lemmas.Bool.{eqb-true}
use Rattle.nesl_house.specs.Roster.{bad_count}
use Rattle.nesl_house.proofs.Rosters.{refused_name, refused_twice, users_more}
use Rattle.nesl_house.proofs.roster.check.Goals as goal

pub returns-then-is_empty-clause-refused : goal.returns-then-is_empty-clause-refused
returns-then-is_empty-clause-refused c = let none : length c.args.roster.now ≡ 0 = eqb-true (length c.args.roster.now) 0 (sym c.is_empty.ensures ∙ c.if-is_empty.true) in bad_count (λ n. omega (arith, none, n.0, length-map c.args.roster.now (λ v. v.items)))

pub returns-then-roster-gt-MOST_USERS-clause-refused : goal.returns-then-roster-gt-MOST_USERS-clause-refused
returns-then-roster-gt-MOST_USERS-clause-refused c = bad_count (λ n. omega (arith, n.1, length-map c.args.roster.now (λ v. v.items)))

pub returns-then-not-is_user_name-clause-refused : goal.returns-then-not-is_user_name-clause-refused
returns-then-not-is_user_name-clause-refused c =
    refused_name (λ v. v.items) c.args.roster.now c.loop-place.place c.index-roster-place.result c.as_slice-name.result.now c.loop-place-test.true (c.as_slice-name.ensures.value ∙ ap (λ v. v.items) c.index-roster-place.is) (omega arith, omega arith) c.loop-place.invariant
    (sym c.is_user_name.ensures ∙ c.if-not-is_user_name.true)

pub returns-then-stands_in-clause-refused : goal.returns-then-stands_in-clause-refused
returns-then-stands_in-clause-refused c =
    refused_twice (λ v. v.items) c.args.roster.now c.loop-place.place c.index-roster-place.result c.as_slice-name.result.now c.loop-place-test.true (c.as_slice-name.ensures.value ∙ ap (λ v. v.items) c.index-roster-place.is) (omega arith, omega arith) c.loop-place.invariant
    (sym c.is_user_name.ensures ∙ c.if-not-is_user_name.false) (sym c.stands_in.ensures ∙ c.if-stands_in.true)

pub loop-place-preserved : goal.loop-place-preserved
loop-place-preserved c =
    users_more (λ v. v.items) c.args.roster.now c.loop-place.place c.index-roster-place.result c.as_slice-name.result.now c.loop-place-test.true (c.as_slice-name.ensures.value ∙ ap (λ v. v.items) c.index-roster-place.is) c.loop-place.invariant
    (sym c.is_user_name.ensures ∙ c.if-not-is_user_name.false) (sym c.stands_in.ensures ∙ c.if-stands_in.false)
