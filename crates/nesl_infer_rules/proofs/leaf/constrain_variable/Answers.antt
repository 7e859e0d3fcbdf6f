use Rattle.std.proofs.Common.{ℕ}
use Rattle.std.specs.Prelude.{Option, Some, None}
use Rattle.nesl_types.specs.declared.classes.Class.{Class}
use Rattle.nesl_types_shared.specs.Term.{Term}
use Rattle.nesl_infer_rules.specs.Steps.{scope_at, world_at}
use Rattle.nesl_infer_rules.specs.Typing.{IsVariable, local_type}
use Rattle.nesl_infer_rules.proofs.Leaves.{looked_up}
use Rattle.nesl_infer_rules.proofs.leaf.constrain_variable.Goals as goal

pub returns-in_ok-equate_flat-in-Some : goal.returns-in_ok-equate_flat-in-Some
returns-in_ok-equate_flat-in-Some g c =
    let x = c.args.name.now in
    let ls = c.args.locals.now in
    let Q : (ℕ → Term) → (ℕ → Class) → Option Term → Type 0 = λ s of o. IsVariable (world_at c.args.outer.now.context.now c.args.outer.now.own s of) x o (s c.args.target) in
    looked_up Q (λ s. Some (s c.in-Some.variable)) (λ s. local_type x (scope_at s ls)) (λ s. c.in-Some.ensures.found s) c.in_ok-equate_flat-in-Some.ensures

pub returns-in_ok-constrain_top_variable-in-None : goal.returns-in_ok-constrain_top_variable-in-None
returns-in_ok-constrain_top_variable-in-None g c =
    let x = c.args.name.now in
    let ls = c.args.locals.now in
    let Q : (ℕ → Term) → (ℕ → Class) → Option Term → Type 0 = λ s of o. IsVariable (world_at c.args.outer.now.context.now c.args.outer.now.own s of) x o (s c.args.target) in
    looked_up Q (λ s. None) (λ s. local_type x (scope_at s ls)) (λ s. c.in-None.ensures.found s) c.in_ok-constrain_top_variable-in-None.ensures
