use Rattle.std.proofs.Common.{◌∙◌, ap, sym, subst, List, Option, None}
use Rattle.std.specs.Prelude.{set}
use Rattle.nesl_types.specs.Names.{with_name_at}
use Rattle.nesl_eval_ops.specs.declared.ops.Ops.{Ops}
use Rattle.nesl_eval_top_level.specs.Stored.{Entry, Codes, AreStored}
use Rattle.nesl_eval_top_level.specs.Laid.{AreLaid}
use Rattle.nesl_eval_top_level.proofs.Storing.{stored_at}
use Rattle.nesl_eval_top_level.proofs.Laying.{laid_without}
use Rattle.nesl_eval_top_level.proofs.env.Env.set_at.Goals as goal

pub invariant_of-self-2 : goal.invariant_of-self-2
invariant_of-self-2 c =
    let bs = c.self.inside.context in
    let cs = c.self.inside.prepared.items in
    let os = c.self.inside.bodies.items in
    let there = c.args.there in
    let F : List Entry → Type 0 = λ y. AreStored y (set cs there None) in
    let G : Codes → Type 0 = λ y. AreStored c.replace.new.self y in
    let H : Codes → Type 0 = λ y. AreLaid y c.clear-2.new.items.items in
    let K : List (Option Ops) → Type 0 = λ y. AreLaid (set cs there None) y in (
      subst G (sym c.clear.ensures) (subst F (sym c.in_ok-replace.ensures.ok)
          (stored_at there c.args.top c.args.payload None bs cs c.requires c.self.invariant.0)),
      subst H (sym c.clear.ensures) (subst K (sym c.clear-2.ensures) (laid_without there cs os c.self.invariant.1)),
    )

pub returns-clause-ok : goal.returns-clause-ok
returns-clause-ok c = c.in_ok-replace.ensures.ok ∙ ap (with_name_at c.args.there c.args.top c.args.payload) c.self.view_is
