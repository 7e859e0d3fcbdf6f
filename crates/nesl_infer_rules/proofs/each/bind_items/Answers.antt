use Rattle.std.proofs.Common.{◌<◌, ◌++◌, ◌∷◌, [], ℕ, List, refl, sym, subst}
use Rattle.std.specs.Prelude.{All}
use Rattle.std.proofs.lemmas.List.Elements.{All-head}
use Rattle.nesl_types_shared.specs.Term.{Term}
use Rattle.nesl_syntax_tree.specs.Views.{binders_in}
use Rattle.nesl_infer_rules.specs.declared.state.Local.{Local}
use Rattle.nesl_infer_rules.specs.declared.state.Key.TheVariants.{Element}
use Rattle.nesl_infer_rules.specs.World.{TypedNames, meanings_in}
use Rattle.nesl_infer_rules.specs.Steps.{own_at, count}
use Rattle.nesl_infer_rules.proofs.Eaches.{PartsOf, DrawsOf, arm_draws, no_draws, front, no_front}
use Rattle.nesl_infer_rules.proofs.each.bind_items.Goals as goal

pub returns-in_ok-bind_patterns-in-Some : goal.returns-in_ok-bind_patterns-in-Some
returns-in_ok-bind_patterns-in-Some g c =
    let N : (ℕ → Term) → TypedNames = λ s. meanings_in c.args.outer.now.context.now (own_at s c.args.outer.now.own) in
    let A = c.args.state.now in
    let B = c.bind_patterns.new.state in
    let ls = c.args.locals.now in
    let ms = c.bind_patterns.new.locals in
    let bs = binders_in c.args.bindings.now in
    let vs = c.args.items.now in
    let v = c.in-Some.first.now in
    let l : Local = record { key = Element; variable = v } in
    let p = front vs v c.in-Some.ensures.value in
    let inside = All-head (λ (k : ℕ). k < count A) v p.0 (subst (λ (ws : List ℕ). All (λ (k : ℕ). k < count A) ws) p.1 c.requires.items) in
    subst (λ (ws : List ℕ). DrawsOf A B ls ms N bs ws) (sym p.1)
    (arm_draws N ls ms bs v p.0 l inside refl refl
    (subst (λ (ws : List ℕ). PartsOf A B (ls ++ l ∷ []) ms N bs ws) p.1
    (subst (λ (ks : List Local). PartsOf A B ks ms N bs vs) c.in_ok-push-in-Some.ensures c.in_ok-bind_patterns-in-Some.ensures)))

pub returns-in_ok-add_contradiction-in-None : goal.returns-in_ok-add_contradiction-in-None
returns-in_ok-add_contradiction-in-None g c =
    let N : (ℕ → Term) → TypedNames = λ s. meanings_in c.args.outer.now.context.now (own_at s c.args.outer.now.own) in
    let ls = c.args.locals.now in
    let bs = binders_in c.args.bindings.now in
    subst (λ (ws : List ℕ). DrawsOf c.args.state.now c.add_contradiction.new.self ls ls N bs ws) (sym (no_front c.args.items.now c.in-None.ensures.value))
    (no_draws N ls bs c.in_ok-add_contradiction-in-None.ensures)
