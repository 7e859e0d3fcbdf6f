use Rattle.nesl_types.specs.Class.{class_at}
use Rattle.nesl_unify.proofs.Narrowing.{restricted_within, restricted_narrower, restricted_general}
use Rattle.nesl_unify.proofs.narrow.restrict.Goals as goal

pub returns-clause-within : goal.returns-clause-within
returns-clause-within c = restricted_within (class_at c.args.classes.now.items) (class_at c.meet_class.new.classes.items) c.args.variable c.args.class c.in_ok-meet_class.ensures.here c.in_ok-meet_class.ensures.others

pub returns-clause-narrower : goal.returns-clause-narrower
returns-clause-narrower c = restricted_narrower (class_at c.args.classes.now.items) (class_at c.meet_class.new.classes.items) c.args.variable c.args.class c.in_ok-meet_class.ensures.here c.in_ok-meet_class.ensures.others

pub returns-clause-general : goal.returns-clause-general
returns-clause-general c = restricted_general (class_at c.args.classes.now.items) (class_at c.meet_class.new.classes.items) c.args.variable c.args.class c.in_ok-meet_class.ensures.here c.in_ok-meet_class.ensures.others
