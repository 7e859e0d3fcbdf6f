use Rattle.std.proofs.Common.{◌≡◌, ℕ, ◌+◌, ◌-◌, ◌<◌, set, get_or, length, subst, sym, ◌∙◌, arith}
use Rattle.std.proofs.lemmas.List.{length-set, get_or-set_same}
use Rattle.nesl_unify_graph.specs.Graph.{target}
use Rattle.nesl_unify_graph.specs.Forms.{IsLarger}
use Rattle.nesl_unify_graph.specs.Sizes.{IsSizeWithin}
use Rattle.nesl_unify_graph.proofs.Forms.{target_within}
use Rattle.nesl_unify_graph.proofs.Walks.{larger_fits}
use Rattle.nesl_unify_graph.proofs.Sizes.{AreKnown, sizes_on, size_positive, known_more, known_set, all_read}
use Rattle.nesl_unify_graph.proofs.walk.are_within.Goals as goal

pub returns-in-None-clause-no : goal.returns-in-None-clause-no
returns-in-None-clause-no c = λ _ w f.
    let i = c.args.instances.now in
    let ns = c.args.nodes.now in
    let root = c.target-root.result in
    let k : ℕ = c.loop-start.start - 1 in
    let inside : k < length ns = omega (arith, c.loop-start-test.true, c.loop-start.invariant.inside) in
    let within : root < length ns = subst (λ q. q < length ns) (sym c.target-root.ensures) (target_within i ns k c.requires.table inside) in
    let large : IsLarger i ns c.args.most root = rw c.in-None.is at c.in_ok-size.ensures.none in
    (root, (within, larger_fits i ns w c.args.most root f large))

pub loop-start-preserved : goal.loop-start-preserved
loop-start-preserved c =
    let i = c.args.instances.now in
    let ns = c.args.nodes.now in
    let most = c.args.most in
    let root = c.target-root.result in
    let sizes = c.loop-start.sizes.items in
    let size = c.in-Some.size in
    let start = c.loop-start.start in
    let k : ℕ = start - 1 in
    let next : k + 1 ≡ start = omega (arith, c.loop-start-test.true) in
    let inside : k < length ns = omega (arith, c.loop-start-test.true, c.loop-start.invariant.inside) in
    let within : root < length ns = subst (λ q. q < length ns) (sym c.target-root.ensures) (target_within i ns k c.requires.table inside) in
    let placed : root < length sizes = subst (λ n. root < n) (sym c.loop-start.invariant.len) within in
    let sized : IsSizeWithin i ns most root size = rw c.in-Some.is at c.in_ok-size.ensures.some in
    let some = size_positive i ns most root size sized in
    let here : get_or (set sizes root size) root 0 ≡ size = get_or-set_same sizes root size 0 placed in
    let known : 0 < get_or (set sizes root size) (target ns k) 0 = subst (λ q. 0 < get_or (set sizes root size) q 0) c.target-root.ensures (subst (λ n. 0 < n) (sym here) some) in
    record {
      inside = omega (arith, inside);
      len = length-set sizes root size ∙ c.loop-start.invariant.len;
      empty = rw c.in-Some.is at c.in_ok-size.ensures.empty;
      sizes = sizes_on i ns most sizes root size placed sized c.loop-start.invariant.sizes;
      known = known_more ns (set sizes root size) k start next known (known_set ns sizes root size start placed some c.loop-start.invariant.known);
    }

pub returns-clause-yes : goal.returns-clause-yes
returns-clause-yes c = λ _.
    let ns = c.args.nodes.now in
    let sizes = c.loop-start.sizes.items in
    let done : c.loop-start.start ≡ 0 = omega (arith, c.loop-start-test.false) in
    all_read c.args.instances.now ns c.args.most sizes c.loop-start.invariant.sizes (subst (AreKnown ns sizes) done c.loop-start.invariant.known)
