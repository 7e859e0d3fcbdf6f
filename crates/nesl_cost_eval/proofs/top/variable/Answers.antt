use Rattle.std.proofs.Common.{◌≡◌, ◌∙◌, ap, sym, subst, Option, Some, None, Global, Err, Bor}
use Rattle.std.specs.Prelude.{option_map}
use Rattle.nesl_values.specs.View.{tree_of}
use Rattle.nesl_values.specs.declared.value.Value as code
use Rattle.nesl_types.specs.declared.bindings.Top as kinds
use Rattle.nesl_types.specs.Names.{found}
use Rattle.nesl_builtins.specs.Named.{look_up}
use Rattle.nesl_eval_meaning.specs.Names.{Top, Value}
use Rattle.nesl_eval_meaning.specs.Out.{Out}
use Rattle.nesl_eval_meaning.specs.Outcome.{variable_in}
use Rattle.nesl_eval_nodes.specs.declared.meter.Stop.TheVariants.{Stuck}
use Rattle.nesl_eval_nodes.specs.Meets.{Meets, Is}
use Rattle.nesl_eval_top_level.specs.declared.env.Payload.{Payload}
use Rattle.nesl_eval_top_level.specs.Stored.{environment, top_of}
use Rattle.nesl_cost_eval.specs.Scopes.{locals}
use Rattle.nesl_cost_eval.proofs.Running.{IsOf}
use Rattle.nesl_cost_eval.proofs.Binding.{found_meaning, none_meaning, shared_top, datatype_varies}
use Rattle.nesl_cost_eval.proofs.top.variable.Goals as goal

pub returns-in_default-get : goal.returns-in_default-get
returns-in_default-get c =
    let E = c.args.env.now in
    let x = c.args.name.now in
    let l = subst (λ (o : Option (Bor (code.Value Global))). option_map (λ v. tree_of v.now) o ≡ look_up (locals c.args.names.now) x) c.in_default.is c.local_value.ensures in
    let at : Option Top → Out Value = λ t. variable_in None t in
    let local = ap (λ (o : Option Value). variable_in o (look_up (environment E) x)) (sym l) in
    let n = subst (λ (o : Option (Bor kinds.Top × Bor Payload)). option_map (λ b. (b.0.now, b.1.now)) o ≡ found x E) c.in_default-get.is c.get.ensures in
    λ m. subst (λ (o : Out Value). Meets (IsOf Global) m (Err Stuck) m o) (sym (local ∙ ap at (none_meaning E x n))) tt

pub returns-in-Variable : goal.returns-in-Variable
returns-in-Variable c =
    let E = c.args.env.now in
    let x = c.args.name.now in
    let l = subst (λ (o : Option (Bor (code.Value Global))). option_map (λ v. tree_of v.now) o ≡ look_up (locals c.args.names.now) x) c.in_default.is c.local_value.ensures in
    let at : Option Top → Out Value = λ t. variable_in None t in
    let local = ap (λ (o : Option Value). variable_in o (look_up (environment E) x)) (sym l) in
    let t = c.in-Some-get.field-0-0.now in
    let means : Payload → Option Top = λ p. Some (top_of t p) in
    let is = found_meaning E x t _ c.in-Some-get.ensures ∙ ap means c.in-Variable.is in
    λ m. subst (λ (o : Out Value). Meets Is m c.share-in-Variable.result m o) (sym (local ∙ ap at is))
    (shared_top c.share-in-Variable.result (tree_of c.in-Variable.value) m c.share-in-Variable.ensures)

pub returns-in-Function : goal.returns-in-Function
returns-in-Function c =
    let E = c.args.env.now in
    let x = c.args.name.now in
    let l = subst (λ (o : Option (Bor (code.Value Global))). option_map (λ v. tree_of v.now) o ≡ look_up (locals c.args.names.now) x) c.in_default.is c.local_value.ensures in
    let at : Option Top → Out Value = λ t. variable_in None t in
    let local = ap (λ (o : Option Value). variable_in o (look_up (environment E) x)) (sym l) in
    let t = c.in-Some-get.field-0-0.now in
    let means : Payload → Option Top = λ p. Some (top_of t p) in
    let is = found_meaning E x t _ c.in-Some-get.ensures ∙ ap means c.in-Function.is in
    λ m. subst (λ (o : Out Value). Meets (IsOf Global) m (Err Stuck) m o) (sym (local ∙ ap at is)) tt

pub returns-in-Datatype : goal.returns-in-Datatype
returns-in-Datatype c =
    let E = c.args.env.now in
    let x = c.args.name.now in
    let l = subst (λ (o : Option (Bor (code.Value Global))). option_map (λ v. tree_of v.now) o ≡ look_up (locals c.args.names.now) x) c.in_default.is c.local_value.ensures in
    let at : Option Top → Out Value = λ t. variable_in None t in
    let local = ap (λ (o : Option Value). variable_in o (look_up (environment E) x)) (sym l) in
    let t = c.in-Some-get.field-0-0.now in
    let means : Payload → Option Top = λ p. Some (top_of t p) in
    let is = found_meaning E x t _ c.in-Some-get.ensures ∙ ap means c.in-Datatype.is in
    λ m. subst (λ (o : Out Value). Meets (IsOf Global) m (Err Stuck) m o) (sym (local ∙ ap at is ∙ datatype_varies t)) tt
