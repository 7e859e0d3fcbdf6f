use Rattle.std.proofs.Common.{subst}
use Rattle.nesl_unify_graph.specs.declared.form.Item.TheVariants.{At}
use Rattle.nesl_unify_graph.specs.Forms.{IsFormAt}
use Rattle.nesl_unify_graph.proofs.Forms.{form_at, form_of_same, form_of_made}
use Rattle.nesl_unify_graph.proofs.form.form_of.Goals as goal

pub returns-in-At-clause-form : goal.returns-in-At-clause-form
returns-in-At-clause-form c =
    let i = c.args.instances.now in
    let ns = c.args.nodes.now in
    let f = c.root_form.result in
    form_of_same i ns c.args.item (At c.in-At.place) f c.in-At.ensures.same (form_at i ns c.in-At.place f (subst (λ p. IsFormAt i ns p f) c.target.ensures c.root_form.ensures.form))

pub returns-in-Made-clause-form : goal.returns-in-Made-clause-form
returns-in-Made-clause-form c = form_of_made c.args.instances.now c.args.nodes.now c.args.item c.in-Made.form c.in-Made.ensures.same
