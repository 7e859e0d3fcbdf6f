use Rattle.std.proofs.Common.{◌≡◌, ◌∙◌, length, map, Some, None, ap, sym, refl, true, false}
use Rattle.std.proofs.lemmas.List.{length-replicate, length-set}
use Rattle.nesl_seqs_base.specs.Places.{place_of, places_of}
use Rattle.nesl_seqs_index.proofs.Naming.{named_more}
use Rattle.nesl_seqs_index.proofs.Picking.{rest_places}
use Rattle.nesl_seqs_index.proofs.Tables.{marked, names_none, all_marked_own}
use Rattle.nesl_seqs_index.proofs.permute.check_by_marks.Goals as goal

pub loop-index-init : goal.loop-index-init
loop-index-init g c =
    let is = c.args.indices.now in
    (ap length c.requires ∙ length-replicate (length is) _, refl, ap (λ ms. marked ms (places_of (length is) (map g.I.Item.tree is))) c.requires)

pub loop-index-preserved : goal.loop-index-preserved
loop-index-preserved g c =
    let f = g.I.Item.tree in
    let is = c.args.indices.now in
    let j = c.loop-index.index-index in
    let i = c.index-item.result in
    let ms = c.loop-index.marks in
    let k = c.in-Some.place in
    let names : Some k ≡ place_of (length is) (f i) = c.in-Some.ensures.place ∙ ap (λ n. place_of n (f i)) c.loop-index.invariant.0 in (
      length-set ms k true ∙ c.loop-index.invariant.0,
      sym (named_more f (length is) is j i (Some k) true true c.loop-index-test.true c.index-item.is names refl (sym c.loop-index.invariant.1)),
      sym (ap (marked ms) (rest_places f (length is) is j i (Some k) c.loop-index-test.true c.index-item.is names)) ∙ c.loop-index.invariant.2,
    )

pub returns-in-None : goal.returns-in-None
returns-in-None g c =
    let f = g.I.Item.tree in
    let names : None ≡ place_of (length c.args.indices.now) (f c.index-item.result) = sym c.in-None.is ∙ c.place_of.ensures.place ∙ ap (λ n. place_of n (f c.index-item.result)) c.loop-index.invariant.0 in
    names_none f (length c.args.indices.now) c.args.indices.now c.loop-index.index-index c.index-item.result c.loop-index-test.true c.index-item.is names

pub returns-then-not-all_marked : goal.returns-then-not-all_marked
returns-then-not-all_marked g c =
    all_marked_own g.I.Item.tree c.loop-index.marks c.args.indices.now c.loop-index.index-index false c.loop-index-test.false c.loop-index.invariant.1 c.loop-index.invariant.2 (sym c.all_marked.ensures ∙ c.if-not-all_marked.true)

pub returns : goal.returns
returns g c =
    all_marked_own g.I.Item.tree c.loop-index.marks c.args.indices.now c.loop-index.index-index true c.loop-index-test.false c.loop-index.invariant.1 c.loop-index.invariant.2 (sym c.all_marked.ensures ∙ c.if-not-all_marked.false)
