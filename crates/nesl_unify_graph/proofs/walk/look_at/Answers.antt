use Rattle.std.proofs.Common.{length, subst}
use Rattle.std.proofs.lemmas.Result.{IfOk-weaker}
use Rattle.nesl_unify_graph.specs.Sizes.{IsRootLook, IsLook}
use Rattle.nesl_unify_graph.proofs.Forms.{form_of_made}
use Rattle.nesl_unify_graph.proofs.Sizes.{look_through}
use Rattle.nesl_unify_graph.proofs.walk.look_at.Goals as goal

pub returns-in-At : goal.returns-in-At
returns-in-At c =
    let i = c.args.instances.now in
    let ns = c.args.nodes.now in
    let x = c.args.item in
    IfOk-weaker c.look_at_root.result (IsRootLook i ns c.target-root.result) (IsLook i ns x)
    (λ look h. look_through i ns x c.in-At.place look c.in-At.ensures.same (subst (λ q. IsRootLook i ns q look) c.target-root.ensures h)) c.look_at_root.ensures

pub returns-in-Made : goal.returns-in-Made
returns-in-Made c = (
  form_of_made c.args.instances.now c.args.nodes.now c.args.item c.in-Made.form c.in-Made.ensures.same,
  c.in-Made.ensures.within (length c.args.nodes.now) c.requires.made c.requires.item,
)
