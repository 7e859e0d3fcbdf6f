use Rattle.std.proofs.Common.{rules, arith}
use Rattle.nesl_types.specs.declared.classes.Class.TheVariants.{Any}
use Rattle.nesl_types.specs.Class.{class_at}
use Rattle.nesl_unify.specs.declared.narrow.Member.{Member}
use Rattle.nesl_unify.proofs.Narrowing.{more_within}
use Rattle.nesl_unify.proofs.narrow.narrow.Goals as goal

pub returns-in_err-restrict_member-clause-none : goal.returns-in_err-restrict_member-clause-none
returns-in_err-restrict_member-clause-none c = λ e g x w of h.
    let none : Member = record { variable = 0; class = Any } in
    c.in_err-restrict_member.ensures.none (search rules) g x w of (h c.loop-member.member-index none c.loop-member-test.true)

pub loop-member-preserved : goal.loop-member-preserved
loop-member-preserved c =
    let e = c.in_ok-restrict_member.ensures in
    let i = c.loop-member.member-index in
    let none : Member = record { variable = 0; class = Any } in
    record {
      within = λ g x. more_within (class_at c.loop-member.classes.items) (class_at c.restrict_member.new.classes.items) g c.args.members.now i none c.loop-member-test.true e.narrower (c.loop-member.invariant.within g x) (e.within g x);
      general = λ g x w of h. e.general g x w of (h i none c.loop-member-test.true) (c.loop-member.invariant.general g x w of h);
    }

pub returns-clause-within : goal.returns-clause-within
returns-clause-within c = λ g x k d l. c.loop-member.invariant.within g x k d (omega (arith, l))
