use Rattle.std.proofs.Common.{◌≡◌, ◌<◌, ◌+◌, ◌++◌, ◌∷◌, [], ℕ, List, take, get_or, length, sym, subst, arith}
use Rattle.std.proofs.lemmas.Grind.{common_steps}
use Rattle.std.proofs.lemmas.List.{take_more}
use Rattle.std.proofs.lemmas.List.Elements.{All-nil}
use Rattle.nesl_types_shared.specs.Term.{Term}
use Rattle.nesl_syntax_tree.specs.declared.tree.Binding.{Binding}
use Rattle.nesl_syntax_tree.specs.Trees.{Binders}
use Rattle.nesl_syntax_tree.specs.Views.{binders_in, pattern_tree, tree_of}
use Rattle.nesl_infer_rules.specs.declared.state.Local.{Local}
use Rattle.nesl_infer_rules.specs.World.{TypedNames, meanings_in}
use Rattle.nesl_infer_rules.specs.Steps.{own_at, count}
use Rattle.nesl_infer_rules.proofs.Places.{fixed}
use Rattle.nesl_infer_rules.proofs.Lets.{take-binders}
use Rattle.nesl_infer_rules.proofs.Patterns.{NamesOf}
use Rattle.nesl_infer_rules.proofs.Eaches.{PartsOf, no_parts, arm_part}
use Rattle.nesl_infer_rules.proofs.each.bind_patterns.Goals as goal

pub loop-place-init : goal.loop-place-init
loop-place-init g c =
    let N : (ℕ → Term) → TypedNames = λ s. meanings_in c.args.outer.now.context.now (own_at s c.args.outer.now.own) in
    no_parts N c.args.locals.now

pub loop-place-preserved : goal.loop-place-preserved
loop-place-preserved g c =
    let N : (ℕ → Term) → TypedNames = λ s. meanings_in c.args.outer.now.context.now (own_at s c.args.outer.now.own) in
    let n = count c.args.state.now in
    let f = fixed c.args.outer.now.context.now n c.args.outer.now.own [] c.requires.own (All-nil (λ (x : Local). x.variable < n)) in
    let ls = c.args.locals.now in
    let i = c.loop-place.place in
    let b = c.index-bindings-place.result in
    let bs = c.args.bindings.now in
    let vs = c.args.items.now in
    let v = get_or vs i 0 in
    let os = c.constrain_pattern.new.locals in
    let A = c.args.state.now in
    let C = c.constrain_pattern.new.state in
    let inside : i < length vs = omega arith in
    (subst (λ (ws : List ℕ). PartsOf A C ls os N (binders_in (take (i + 1) bs)) ws) (sym (take_more vs i 0 inside))
    (subst (λ (k : Binders). PartsOf A C ls os N k (take i vs ++ v ∷ [])) (sym (take-binders bs i b c.loop-place-test.true c.index-bindings-place.is))
    (arm_part N f.names ls c.loop-place.locals os (binders_in (take i bs)) (pattern_tree b.pattern) (tree_of b.value) (take i vs) v (c.requires.items i 0 inside) c.loop-place.invariant
    (subst (λ (k : Binding). NamesOf c.loop-place.state C c.loop-place.locals os N (pattern_tree k.pattern) v) (sym c.index-bindings-place.is) c.in_ok-constrain_pattern.ensures))))

pub returns : goal.returns
returns g c =
    let N : (ℕ → Term) → TypedNames = λ s. meanings_in c.args.outer.now.context.now (own_at s c.args.outer.now.own) in
    let A = c.args.state.now in
    let ls = c.args.locals.now in
    let all : take c.loop-place.place c.args.bindings.now ≡ c.args.bindings.now = grind (arith, common_steps) in
    let every : take c.loop-place.place c.args.items.now ≡ c.args.items.now = grind (arith, common_steps) in
    subst (λ (bs : List Binding). PartsOf A c.loop-place.state ls c.loop-place.locals N (binders_in bs) c.args.items.now) all
    (subst (λ (vs : List ℕ). PartsOf A c.loop-place.state ls c.loop-place.locals N (binders_in (take c.loop-place.place c.args.bindings.now)) vs) every c.loop-place.invariant)
