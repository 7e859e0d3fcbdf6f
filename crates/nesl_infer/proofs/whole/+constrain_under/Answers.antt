use Rattle.std.proofs.Common.{◌<◌, ◌∷◌, [], ℕ, List, None, refl, sym, ap, subst, ◌∙◌, arith, rules}
use Rattle.std.proofs.lemmas.Result.{on_ok_weaker}
use Rattle.std.proofs.lemmas.List.Elements.{All-nil, All-cons}
use Rattle.nesl_types_shared.specs.Term.{Term}
use Rattle.nesl_syntax_tree.specs.Views.{tree_of}
use Rattle.nesl_infer_rules.specs.declared.state.Local.{Local}
use Rattle.nesl_infer_rules.specs.World.{TypedNames, meanings_in}
use Rattle.nesl_infer_rules.specs.Typing.{LocalTypes, IsVariable, local_type, name}
use Rattle.nesl_infer_rules.specs.Principal.{bounded}
use Rattle.nesl_infer_rules.specs.Steps.{AreLocalsBelow, count, own_at, scope_at}
use Rattle.nesl_infer_rules.proofs.Leaves.{looked_up}
use Rattle.nesl_infer_rules.proofs.Patterns.{scope-append, locals-weaker, locals-append}
use Rattle.nesl_infer_rules.proofs.Places.{fixed}
use Rattle.nesl_infer.proofs.Repeated.{arm_repeated, under_same}
use Rattle.nesl_infer.proofs.whole.+constrain_under.Goals as goal

-- the local names, and the new one, have variables below the number of variables
pub constrain_under-requires-2 : goal.constrain_under-requires-2
constrain_under-requires-2 g t c =
    let ls = c.args.locals.now in
    let n = count c.constrain_variable.new.state in
    let u = c.in_ok-variable.variable in
    let P = λ (x : Local). x.variable < n in
    let first = c.in_ok-variable.ensures.gives.more in
    let second = c.in_ok-constrain_variable.ensures.more in
    let inside = c.in_ok-variable.ensures.below in
    let kept : AreLocalsBelow n ls = locals-weaker (count c.args.state.now) n ls (omega arith) c.requires.locals in
    let added = All-cons P _ [] (omega arith) (All-nil P) in
    let below : AreLocalsBelow n c.push.new.self = subst (λ (ks : List Local). AreLocalsBelow n ks) (sym c.in_ok-push.ensures) (locals-append n ls _ kept added) in
    let target : c.args.target < n = let b = c.requires.target in omega arith in
    λ κs l. (search rules, (search rules, (target, (below, search rules))))

pub returns : goal.returns
returns g t c =
    let N : (ℕ → Term) → TypedNames = λ s. meanings_in c.args.outer.now.context.now (own_at s c.args.outer.now.own) in
    let ls = c.args.locals.now in
    let S : (ℕ → Term) → LocalTypes = λ s. scope_at s ls in
    let f = fixed c.args.outer.now.context.now (count c.args.state.now) c.args.outer.now.own ls c.requires.own c.requires.locals in
    let x = c.in-Some.name.now in
    let e = tree_of c.args.exp.now in
    let u = c.in_ok-variable.variable in
    let v = c.args.target in
    let absent = c.if-not-is_seen.ensures.shown refl in
    let usable = c.if-not-is_seen.ensures.variable refl in
    let meant = looked_up (λ s of o. IsVariable (bounded (N s) of) x o (s u)) (λ s. local_type x (S s)) (λ s. None) absent c.in_ok-constrain_variable.ensures in
    record {
      adds = on_ok_weaker c.constrain_under-2.result
          (λ p. arm_repeated N S f x e u v c.requires.target usable absent c.in_ok-variable.ensures.gives meant
          (under_same N (λ s. scope_at s c.push.new.self) (λ s. (name x, s u) ∷ S s) e v (λ s. ap (scope_at s) c.in_ok-push.ensures ∙ scope-append s ls _) p))
          c.constrain_under-2.ensures.adds;
    }
