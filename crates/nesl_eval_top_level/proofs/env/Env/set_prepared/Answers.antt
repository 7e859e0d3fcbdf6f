use Rattle.std.proofs.Common.{◌≡◌, ℕ, ◌∙◌, ap, sym, subst, List, Option}
use Rattle.nesl_eval_meaning.specs.Names.{Name}
use Rattle.nesl_types.specs.Order.{place_of}
use Rattle.nesl_eval_ops.specs.declared.ops.Ops.{Ops}
use Rattle.nesl_eval_code.specs.declared.code.Code.{Code}
use Rattle.nesl_eval_top_level.specs.declared.env.Payload.{Payload}
use Rattle.nesl_eval_top_level.specs.Stored.{Entry, Codes, AreStored, names_in, HasCode, with_place, put}
use Rattle.nesl_eval_top_level.specs.Laid.{AreLaid}
use Rattle.nesl_eval_top_level.proofs.Storing.{set_stored}
use Rattle.nesl_eval_top_level.proofs.Laying.{laid_more}
use Rattle.nesl_eval_top_level.proofs.env.Env.set_prepared.Goals as goal

-- the place among the names of the value is the one among those inside
placed : (x : Name) (place : Option ℕ) (bs old : List Entry) → bs ≡ old → place ≡ place_of (names_in old) x → place ≡ place_of (names_in bs) x
placed x place bs old v e = e ∙ ap (λ (y : List Entry). place_of (names_in y) x) (sym v)

pub code_of_payload-requires : goal.code_of_payload-requires
code_of_payload-requires c =
    placed c.args.name.now c.args.place c.self.inside.context c.args.self.now c.self.view_is c.requires
    ∙ ap (λ ns. place_of ns c.args.name.now) (sym c.names.ensures)

pub invariant_of-self-2 : goal.invariant_of-self-2
invariant_of-self-2 c =
    let bs = c.self.inside.context in
    let cs = c.self.inside.prepared.items in
    let os = c.self.inside.bodies.items in
    let name = c.args.name.now in
    let place = c.args.place in
    let code = c.in_ok-code.code in
    let body = c.in_ok-body.body in
    let codes = c.store.ensures ∙ ap (put place code) c.reserve.ensures.codes in
    let bodies = c.store-2.ensures ∙ ap (put place body) c.reserve.ensures.bodies in
    let E : List Name → Type 0 = λ ns. HasCode (with_place name ns) c.args.payload code in
    let F : List Entry → Type 0 = λ y. AreStored y (put place code cs) in
    let G : Codes → Type 0 = λ y. AreStored c.set.new.self y in
    let H : Codes → Type 0 = λ y. AreLaid y c.store-2.new.items.items in
    let K : List (Option Ops) → Type 0 = λ y. AreLaid (put place code cs) y in (
      subst G (sym codes) (subst F (sym c.in_ok-set.ensures.ok)
          (set_stored name c.args.top c.args.payload place code bs cs c.self.invariant.0 (placed name place bs c.args.self.now c.self.view_is c.requires) (subst E c.names.ensures c.in_ok-code.ensures))),
      subst H (sym codes) (subst K (sym bodies) (laid_more place code body cs os c.in_ok-body.ensures c.self.invariant.1)),
    )
