use Rattle.std.proofs.Common.{◌≡◌, ◌<◌, ◌+◌, ℕ, List, [], ◌∷◌, ◌++◌, take, get_or, length, sym, ap, subst, ◌∙◌, arith, length-append}
use Rattle.std.specs.Prelude.{All}
use Rattle.std.proofs.lemmas.Grind.{common_steps}
use Rattle.std.proofs.lemmas.List.{take_more}
use Rattle.std.proofs.lemmas.List.Elements.{All-nil, All-push, All-weaker}
use Rattle.nesl_types.specs.declared.classes.Class.{Class}
use Rattle.nesl_types.specs.declared.classes.Class.TheVariants.{Any}
use Rattle.nesl_infer_rules.specs.Steps.{count}
use Rattle.nesl_infer_rules.proofs.Instances.{fresh_none, fresh_more, Fresh}
use Rattle.nesl_infer_rules.proofs.instance.instantiate.Goals as goal

pub loop-class-init : goal.loop-class-init
loop-class-init c =
    let s = c.args.state.now in
    record {
      gives = subst (λ (vs : List ℕ). Fresh s s [] vs) (sym c.in_ok-fresh.ensures.items) fresh_none;
      below = subst (λ (vs : List ℕ). All (λ (w : ℕ). w < count s) vs) (sym c.in_ok-fresh.ensures.items) (All-nil (λ (w : ℕ). w < count s));
      len = ap length c.in_ok-fresh.ensures.items;
    }

pub loop-class-preserved : goal.loop-class-preserved
loop-class-preserved c =
    let h = c.loop-class.invariant in
    let i = c.loop-class.class-index in
    let v = c.in_ok-variable.variable in
    let n = count c.fresh.new.self in
    let cs = c.args.classes.now in
    let more = c.in_ok-variable.ensures.gives.more in
    let step = fresh_more (take i cs) (get_or cs i Any) c.loop-class.fresh.items v h.gives c.in_ok-variable.ensures.gives in
    record {
      gives = subst (λ (vs : List ℕ). Fresh c.args.state.now c.fresh.new.self (take (i + 1) cs) vs) (sym c.in_ok-push.ensures.items)
          (subst (λ (ds : List Class). Fresh c.args.state.now c.fresh.new.self ds (c.loop-class.fresh.items ++ v ∷ [])) (sym (take_more cs i Any c.loop-class-test.true)) step);
      below = subst (λ (vs : List ℕ). All (λ (w : ℕ). w < n) vs) (sym c.in_ok-push.ensures.items)
          (All-push (λ (w : ℕ). w < n) c.loop-class.fresh.items v (All-weaker (λ (w : ℕ). w < count c.loop-class.state) (λ (w : ℕ). w < n) (λ w k. omega arith) c.loop-class.fresh.items h.below) c.in_ok-variable.ensures.below);
      len = ap length c.in_ok-push.ensures.items ∙ length-append c.loop-class.fresh.items (v ∷ []) ∙ ap (λ (k : ℕ). k + 1) h.len;
    }

pub returns-clause-gives : goal.returns-clause-gives
returns-clause-gives c =
    let all : take c.loop-class.class-index c.args.classes.now ≡ c.args.classes.now = grind (arith, common_steps) in
    subst (λ (cs : List Class). Fresh c.args.state.now c.loop-class.state cs c.loop-class.fresh.items) all c.loop-class.invariant.gives
