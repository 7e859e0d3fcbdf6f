use Rattle.std.proofs.Common.{sym, subst, rules}
use Rattle.nesl_types.specs.Class.{IsIn, class_at}
use Rattle.nesl_types_shared.specs.Term.{Term}
use Rattle.nesl_types_shared.specs.Substitution.{substitute}
use Rattle.nesl_unify.proofs.narrow.restrict_member.Goals as goal

pub returns-in_err-restrict_shape-clause-none : goal.returns-in_err-restrict_shape-clause-none
returns-in_err-restrict_shape-clause-none c = λ e g x w of h.
    let s = c.top_shape-shape.ensures g x in
    c.in_err-restrict_shape.ensures.none (search rules) s.0 w of (subst (λ (t : Term). IsIn of c.args.member.now.class (substitute w t)) s.1 h)

pub returns-clause-within : goal.returns-clause-within
returns-clause-within c = λ g x.
    let s = c.top_shape-shape.ensures g x in
    subst (IsIn (class_at c.restrict_shape.new.classes.items) c.args.member.now.class) (sym s.1) (c.in_ok-restrict_shape.ensures.within s.0)

pub returns-clause-general : goal.returns-clause-general
returns-clause-general c = λ g x w of h.
    let s = c.top_shape-shape.ensures g x in
    c.in_ok-restrict_shape.ensures.general s.0 w of (subst (λ (t : Term). IsIn of c.args.member.now.class (substitute w t)) s.1 h)
