use Rattle.std.proofs.Common.{◌≡◌, ◌∙◌, pos, length, map, set, ap, sym, refl, true, Some, None, option_map, slice_get, rules, arith}
use Rattle.std.proofs.lemmas.List.{length-map, length-replicate, length-set}
use Rattle.std.proofs.lemmas.Option.{slice_get-map, slice_get_within, slice_get_read}
use Rattle.nesl_seqs_base.specs.Permute.{all_differ}
use Rattle.nesl_seqs_base.specs.Places.{place_of, places_of}
use Rattle.nesl_seqs_index.proofs.Permuting.{inverse_turn, inverse_same}
use Rattle.nesl_seqs_index.proofs.permute.inverse_of.Goals as goal
use Rattle.nesl_seqs_index.proofs.permute.inverse_of.Goals.{in-Some, in_default}

pub loop-number-init : goal.loop-number-init
loop-number-init g c =
    (ap length c.in_ok-sources.ensures ∙ length-replicate (length c.args.indices.now) _ ∙ sym (length-map c.args.indices.now g.I.Item.tree), λ i k t h. absurd (omega (arith, h)))

pub loop-number-preserved : goal.loop-number-preserved
loop-number-preserved g c =
    let f = g.I.Item.tree in
    let is = c.args.indices.now in
    let js = map f is in
    let j = c.loop-number.number in
    let zs = c.loop-number.sources.items in
    let count : length js ≡ length is = length-map is f in
    let x = c.index-indices-number.result in
    let at : slice_get js j ≡ Some (f x) = slice_get-map f is j ∙ ap (λ o. option_map f o) (slice_get_read is (length is) j x refl c.loop-number-test.true c.index-indices-number.is) in
    let differ : all_differ (places_of (length js) js) ≡ true = ap (λ n. all_differ (places_of n js)) count ∙ c.requires.differ in
    elim c.match-place_of.branch [
      | in-Some w ↦
          let names : place_of (length js) (f x) ≡ Some w.in-Some.place = ap (λ n. place_of n (f x)) count ∙ sym w.in-Some.ensures.place in
          let is_set : c.match-place_of.sources.items ≡ set zs w.in-Some.place (pos j) = search rules in
          rw is_set (length-set zs w.in-Some.place (pos j) ∙ c.loop-number.invariant.0, inverse_turn js zs j (f x) w.in-Some.place differ c.loop-number.invariant.0 at names c.loop-number.invariant.1)
      | in_default w ↦
          let names : place_of (length js) (f x) ≡ None = ap (λ n. place_of n (f x)) count ∙ sym w.in_default.ensures.place in
          rw w.sources-is (c.loop-number.invariant.0, inverse_same js zs j (f x) at names c.loop-number.invariant.1)
    ]

pub returns : goal.returns
returns g c =
    let js = map g.I.Item.tree c.args.indices.now in
    (c.loop-number.invariant.0, λ i k t at names. c.loop-number.invariant.1 i k t (omega (arith, slice_get_within js i t at, length-map c.args.indices.now g.I.Item.tree)) at names)
