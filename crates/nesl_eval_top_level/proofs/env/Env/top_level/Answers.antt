use Rattle.std.proofs.Common.{◌∙◌, ap, sym, subst, List, Option}
use Rattle.nesl_eval_code.specs.Run.{Table}
use Rattle.nesl_eval_code.specs.Means.{IsTableOf}
use Rattle.nesl_eval_top_level.specs.Stored.{Entry, Codes, names_in, environment, table}
use Rattle.nesl_eval_ops.specs.declared.ops.Ops.{Ops}
use Rattle.nesl_eval_ops.specs.View.{HasBodies}
use Rattle.nesl_eval_top_level.proofs.Storing.{table_names, stands}
use Rattle.nesl_eval_top_level.proofs.Laying.{has_bodies}
use Rattle.nesl_eval_top_level.proofs.env.Env.top_level.Goals as goal

pub returns-clause-names : goal.returns-clause-names
returns-clause-names c = table_names c.self.inside.context c.as_slice.result.now ∙ ap names_in c.self.view_is

pub returns-clause-stands : goal.returns-clause-stands
returns-clause-stands c = λ n.
    let bs = c.self.inside.context in
    let cs = c.self.inside.prepared.items in
    let F : List Entry → Type 0 = λ y. IsTableOf n (environment y) (table bs cs) in
    let G : Codes → Type 0 = λ y. IsTableOf n (environment c.args.self.now) (table bs y) in
    subst G (sym c.as_slice.ensures.value) (subst F c.self.view_is (stands bs cs c.self.invariant.0 n))

pub returns-clause-bodies : goal.returns-clause-bodies
returns-clause-bodies c =
    let bs = c.self.inside.context in
    let cs = c.self.inside.prepared.items in
    let F : List (Option Ops) → Type 0 = λ y. HasBodies (table bs cs) y in
    let G : Codes → Type 0 = λ y. HasBodies (table bs y) c.as_slice-2.result.now in
    subst G (sym c.as_slice.ensures.value) (subst F (sym c.as_slice-2.ensures.value) (has_bodies bs cs c.self.inside.bodies.items c.self.invariant.1))
