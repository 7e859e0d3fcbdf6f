use Rattle.std.proofs.Common.{◌<◌, ℕ, List, [], sym, ap, subst, refl}
use Rattle.std.proofs.lemmas.List.Elements.{All-nil}
use Rattle.nesl_types_shared.specs.Term.{Term}
use Rattle.nesl_syntax_tree.specs.declared.tree.Pattern.{Pattern}
use Rattle.nesl_syntax_tree.specs.declared.tree.PatternNode.{PatternNode}
use Rattle.nesl_syntax_tree.specs.Views.{pattern_shape, pattern_tree}
use Rattle.nesl_syntax_tree.specs.Trees.{pattern}
use Rattle.nesl_infer_rules.specs.declared.state.Local.{Local}
use Rattle.nesl_infer_rules.specs.World.{TypedNames, meanings_in}
use Rattle.nesl_infer_rules.specs.Steps.{Adds, own_at, count}
use Rattle.nesl_infer_rules.specs.declared.state.Key.TheVariants.{Name}
use Rattle.nesl_infer_rules.specs.Typing.{IsRecord, name}
use Rattle.nesl_infer_rules.proofs.Places.{fixed}
use Rattle.nesl_infer_rules.proofs.Patterns.{NamesOf, arm_name, arm_pair_pattern, arm_record}
use Rattle.nesl_infer_rules.proofs.pattern.+constrain_pattern.Goals as goal

pub returns-in_ok-push-in-Name : goal.returns-in_ok-push-in-Name
returns-in_ok-push-in-Name g t c =
    let N : (ℕ → Term) → TypedNames = λ s. meanings_in c.args.outer.now.context.now (own_at s c.args.outer.now.own) in
    let l : Local = record { key = Name c.as_slice.result; variable = c.args.target } in
    subst (λ (k : PatternNode). NamesOf c.args.state.now c.args.state.now c.args.locals.now c.push.new.self N (pattern c.args.pattern.now.span (pattern_shape k)) c.args.target) (sym c.in-Name.is)
    (arm_name N c.args.pattern.now.span c.in-Name.name.letters.items c.args.target c.args.locals.now c.push.new.self l c.requires.target c.in_ok-push-in-Name.ensures
    (ap name c.as_slice.ensures.value) refl)

pub returns-in_ok-equate_pair-in-Pair : goal.returns-in_ok-equate_pair-in-Pair
returns-in_ok-equate_pair-in-Pair g t c =
    let N : (ℕ → Term) → TypedNames = λ s. meanings_in c.args.outer.now.context.now (own_at s c.args.outer.now.own) in
    let n = count c.args.state.now in
    let f = fixed c.args.outer.now.context.now n c.args.outer.now.own [] c.requires.own (All-nil (λ (x : Local). x.variable < n)) in
    let p = c.in-Pair.first.value in
    let q = c.in-Pair.second.value in
    subst (λ (k : PatternNode). NamesOf c.args.state.now c.equate_pair.new.self c.args.locals.now c.constrain_pattern-in-Pair.new.locals N (pattern c.args.pattern.now.span (pattern_shape k)) c.args.target) (sym c.in-Pair.is)
    (arm_pair_pattern N f.names c.args.pattern.now.span (pattern p.span (pattern_shape p.node)) (pattern q.span (pattern_shape q.node)) c.args.target c.in_ok-left-in-Pair.left c.in_ok-right-in-Pair.right
    c.args.locals.now c.constrain_pattern.new.locals c.constrain_pattern-in-Pair.new.locals c.requires.target
    c.in_ok-left-in-Pair.ensures.gives c.in_ok-right-in-Pair.ensures.gives
    (subst (λ (k : Pattern). NamesOf c.add_any-in-Pair.new.self c.constrain_pattern.new.state c.args.locals.now c.constrain_pattern.new.locals N (pattern_tree k) c.in_ok-left-in-Pair.left) c.deref.ensures c.in_ok-constrain_pattern-in-Pair.ensures)
    (subst (λ (k : Pattern). NamesOf c.constrain_pattern.new.state c.constrain_pattern-in-Pair.new.state c.constrain_pattern.new.locals c.constrain_pattern-in-Pair.new.locals N (pattern_tree k) c.in_ok-right-in-Pair.right) c.deref-in-Pair.ensures c.in_ok-constrain_pattern-in-Pair-2.ensures)
    c.in_ok-equate_pair-in-Pair.ensures)

pub returns-in_ok-constrain_pattern-in-Record : goal.returns-in_ok-constrain_pattern-in-Record
returns-in_ok-constrain_pattern-in-Record g t c =
    let N : (ℕ → Term) → TypedNames = λ s. meanings_in c.args.outer.now.context.now (own_at s c.args.outer.now.own) in
    let n = count c.args.state.now in
    let f = fixed c.args.outer.now.context.now n c.args.outer.now.own [] c.requires.own (All-nil (λ (x : Local). x.variable < n)) in
    let p = c.in-Record.inner.value in
    let x = c.in-Record.name.letters.items in
    let h = c.in_ok-held-in-Record.held in
    let ls = c.args.locals.now in
    let ms = c.constrain_pattern-in-Record.new.locals in
    subst (λ (k : PatternNode). NamesOf c.args.state.now c.constrain_pattern-in-Record.new.state ls ms N (pattern c.args.pattern.now.span (pattern_shape k)) c.args.target) (sym c.in-Record.is)
    (arm_record N f.names c.args.pattern.now.span x (pattern p.span (pattern_shape p.node)) c.args.target h ls ms c.requires.target
    c.in_ok-held-in-Record.ensures.gives
    (subst (λ (y : List ℕ). Adds c.add_any-in-Record.new.self c.constrain_record.new.state (λ s of. IsRecord (N s).datatypes y (s c.args.target) (s h))) c.as_slice-in-Record.ensures.value c.in_ok-constrain_record-in-Record.ensures)
    (subst (λ (k : Pattern). NamesOf c.constrain_record.new.state c.constrain_pattern-in-Record.new.state ls ms N (pattern_tree k) h) c.deref-in-Record.ensures c.in_ok-constrain_pattern-in-Record.ensures))
