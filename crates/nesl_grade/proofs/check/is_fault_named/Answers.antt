use Rattle.nesl_grade.proofs.Fronts.{longer_name, named}
use Rattle.nesl_grade.proofs.check.is_fault_named.Goals as goal

pub returns-in-Some-rest_after-2-clause-yes : goal.returns-in-Some-rest_after-2-clause-yes
returns-in-Some-rest_after-2-clause-yes c = λ same.
    named c.args.reply.now c.args.name.now c.in-Some.rest.now c.in-Some-rest_after.end.now c.in-Some-rest_after-2._more.now
    c.in-Some.ensures c.in-Some-rest_after.ensures c.in-Some-rest_after-2.ensures

pub returns-in-None-rest_after-2-clause-no : goal.returns-in-None-rest_after-2-clause-no
returns-in-None-rest_after-2-clause-no c = λ same.
    longer_name c.args.reply.now c.args.name.now c.in-Some.rest.now c.in-Some-rest_after.end.now
    c.in-Some.ensures c.in-Some-rest_after.ensures c.in-None-rest_after-2.ensures
