use Rattle.std.proofs.Common.{IfOk, rules, ◌≡◌, ◌↔◌, ◌<◌, ◌≤◌, ◌+◌, ◌*◌, true, get_or, refl, ap, sym, ◌∙◌, arith, subst, slice_range}
use Rattle.std.proofs.lemmas.List.{take_all, take_more_same}
use Rattle.std.proofs.lemmas.Option.{get_or_from_slice_get}
use Rattle.std.proofs.lemmas.Result.{IfOk-weaker}
use Rattle.nesl_values.specs.Tree.{size, sizes, trees_of}
use Rattle.nesl_values.specs.View.{tree_of, element_tree, item_trees}
use Rattle.nesl_values.specs.Comparing.{Reduces}
use Rattle.nesl_values.proofs.Questions.{settled, reduces_as, same_from, sizes_from}
use Rattle.nesl_values.proofs.listed.answer_elements.Goals as goal

pub loop-place-preserved : goal.loop-place-preserved
loop-place-preserved g c =
    let i = c.loop-place.place in
    let xs = item_trees c.args.one in
    let ys = item_trees c.args.other in
    let e = element_tree c.at.result in
    let same : e ≡ element_tree c.at-in-loop-place.result = c.in-Settled-true.ensures.0 (search rules) in
    let mine : get_or xs i e ≡ e = get_or_from_slice_get xs i e e c.at.ensures in
    let theirs : get_or ys i e ≡ e = get_or_from_slice_get ys i _ e c.at-in-loop-place.ensures ∙ sym same in
    (take_more_same xs ys i e (omega arith) (omega arith) c.loop-place.invariant.0 (mine ∙ sym theirs), c.loop-place.invariant.1)

pub returns : goal.returns
returns g c =
    let i = c.loop-place.place in
    let xs = item_trees c.args.one in
    let ys = item_trees c.args.other in
    let same : xs ≡ ys = sym (take_all i xs (omega arith)) ∙ c.loop-place.invariant.0 ∙ take_all i ys (omega arith) in
    settled true (xs ≡ ys) (3 * sizes (trees_of xs) + 1) c.args.questions.now.items c.loop-place.questions.items c.loop-place.invariant.1 (omega arith) (λ _. same, λ _. refl)

pub returns-in-RestsOn : goal.returns-in-RestsOn
returns-in-RestsOn g c =
    let i = c.loop-place.place in
    let n = c.len-len.result in
    let xs = item_trees c.args.one in
    let ys = item_trees c.args.other in
    let e = element_tree c.at.result in
    let f = element_tree c.at-in-loop-place.result in
    let s = tree_of c.in-RestsOn.x.now in
    let t = tree_of c.in-RestsOn.y.now in
    let us = item_trees c.part-rest.result in
    let vs = item_trees c.part.result in
    let mine : us ≡ slice_range xs (i + 1) n = c.part-rest.ensures in
    let theirs : vs ≡ slice_range ys (i + 1) n = c.part.ensures in
    let cut : (xs ≡ ys) ↔ ((e ≡ f) × (slice_range xs (i + 1) n ≡ slice_range ys (i + 1) n)) = same_from xs ys i n e f (omega arith) (omega arith) (omega arith) c.loop-place.invariant.0 c.at.ensures c.at-in-loop-place.ensures in
    let both : (xs ≡ ys) ↔ ((s ≡ t) × (us ≡ vs)) = (λ same. (c.in-RestsOn.ensures.0.1 (cut.0 same).0, mine ∙ (cut.0 same).1 ∙ sym theirs), λ h. cut.1 (c.in-RestsOn.ensures.0.0 h.0, sym mine ∙ h.1 ∙ theirs)) in
    let fewer : sizes (trees_of (slice_range xs (i + 1) n)) + size e ≤ sizes (trees_of xs) = sizes_from xs i n e (omega arith) (omega arith) c.at.ensures in
    let rest : sizes (trees_of us) ≡ sizes (trees_of (slice_range xs (i + 1) n)) = ap (λ ts. sizes (trees_of ts)) mine in
    let smaller : size s < size e + 1 = c.in-RestsOn.ensures.1 in
    subst (λ qs. IfOk c.ask_from.result (λ yes. Reduces yes (xs ≡ ys) (3 * sizes (trees_of xs) + 1) qs c.ask_from.new.questions.items)) c.loop-place.invariant.1
    (IfOk-weaker c.ask_from.result _ _ (λ yes h. reduces_as yes ((s ≡ t) × (us ≡ vs)) (xs ≡ ys) (3 * (size s + sizes (trees_of us)) + 1) (3 * sizes (trees_of xs) + 1) c.loop-place.questions.items c.ask_from.new.questions.items both (omega arith) h) c.ask_from.ensures)
