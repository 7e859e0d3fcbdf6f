use Rattle.std.proofs.Common.{◌≡◌, ◌∙◌, length, map, set, ap, sym, refl, true, Some, None, option_map, slice_get, rules, arith}
use Rattle.std.proofs.lemmas.List.{length-map, length-set}
use Rattle.std.proofs.lemmas.Option.{slice_get-map, slice_get_within, slice_get_read}
use Rattle.nesl_seqs_base.specs.Permute.{all_differ}
use Rattle.nesl_seqs_base.specs.Places.{place_of, places_of}
use Rattle.nesl_seqs_index.proofs.Permuting.{arrive_turn, arrive_same}
use Rattle.nesl_seqs_index.proofs.permute.arranged.Goals as goal
use Rattle.nesl_seqs_index.proofs.permute.arranged.Goals.{in-Some, in_default}

pub loop-number-preserved : goal.loop-number-preserved
loop-number-preserved g c =
    let f = g.I.Item.tree in
    let xs = c.args.items.now in
    let is = c.args.indices.now in
    let js = map f is in
    let j = c.loop-number.number in
    let vs = c.loop-number.made.items in
    let count : length js ≡ length is = length-map is f in
    let index = c.index-indices-number.result in
    let at : slice_get js j ≡ Some (f index) = slice_get-map f is j ∙ ap (λ o. option_map f o) (slice_get_read is (length is) j index refl c.loop-number-test.true c.index-indices-number.is) in
    let differ : all_differ (places_of (length js) js) ≡ true = ap (λ n. all_differ (places_of n js)) count ∙ c.requires.differ in
    elim c.match-place_of.branch [
      | in-Some w ↦
          let names : place_of (length js) (f index) ≡ Some w.in-Some.place = ap (λ n. place_of n (f index)) count ∙ sym w.in-Some.ensures.place in
          let x = w.index-items-number.result in
          let here : slice_get xs j ≡ Some x = slice_get_read xs (length xs) j x refl (omega (arith, c.loop-number-test.true, c.requires.same)) w.index-items-number.is in
          let is_set : c.match-place_of.made.items ≡ set vs w.in-Some.place x = search rules in
          rw is_set (length-set vs w.in-Some.place x ∙ c.loop-number.invariant.0, arrive_turn js xs vs j (f index) w.in-Some.place x differ c.loop-number.invariant.0 at names here c.loop-number.invariant.1)
      | in_default w ↦
          let names : place_of (length js) (f index) ≡ None = ap (λ n. place_of n (f index)) count ∙ sym w.in_default.ensures.place in
          rw w.made-is (c.loop-number.invariant.0, arrive_same js xs vs j (f index) at names c.loop-number.invariant.1)
    ]

pub returns : goal.returns
returns g c =
    let js = map g.I.Item.tree c.args.indices.now in
    (c.loop-number.invariant.0, λ i k t at names. c.loop-number.invariant.1 i k t (omega (arith, slice_get_within js i t at, length-map c.args.indices.now g.I.Item.tree, c.loop-number-test.false)) at names)
