use Rattle.std.proofs.Common.{◌≡◌, ◌<◌, ◌+◌, ◌-◌, ℕ, List, length, get_or, subst, sym, ap, ◌∙◌, arith}
use Rattle.std.proofs.lemmas.List.{get_or_read}
use Rattle.nesl_types_shared.specs.Term.{Term, variable}
use Rattle.nesl_types_shared.specs.Substitution.{substitute}
use Rattle.nesl_types_shared.specs.Numbering.{number_of}
use Rattle.nesl_types_shared.specs.declared.shape.Shape.{Shape}
use Rattle.nesl_types_shared.specs.Shapes.{shape_type}
use Rattle.nesl_types_shared.specs.Types.{type_at, IsPut}
use Rattle.nesl_types.specs.Numbered.{numbered_shape}
use Rattle.nesl_types.proofs.Numbered.{AreNumbered, numbered_push}
use Rattle.nesl_types.proofs.schemes.put_numbered.Goals as goal

pub loop-place-preserved : goal.loop-place-preserved
loop-place-preserved c =
    let f = number_of c.args.seen.now.keys in
    let from = c.args.parts.now in
    let bank = c.loop-place.bank in
    let places = c.loop-place.places.items in
    let k = c.loop-place.place in
    let x = c.shape.result in
    let p = c.in_ok-put.put in
    let shape : c.numbered-shape.result ≡ numbered_shape f places x = c.numbered-shape.ensures ∙ ap (λ (ps : List ℕ). numbered_shape f ps x) c.as_slice.ensures.value in
    let put : IsPut bank c.put.new.self (shape_type (type_at bank) (numbered_shape f places x)) p = subst (λ (s : Shape). IsPut bank c.put.new.self (shape_type (type_at bank) s) p) shape c.in_ok-put.ensures.ok in
    subst (λ (ps : List ℕ). AreNumbered f from c.put.new.self ps (k + 1)) (sym c.in_ok-push.ensures.items)
    (numbered_push f from bank places k x c.loop-place.invariant c.shape.ensures.parts c.put.new.self p c.put.ensures.extends put c.shape.ensures.shape)

pub returns-clause-within : goal.returns-clause-within
returns-clause-within c =
    let i = c.loop-place.invariant in
    let places = c.loop-place.places.items in
    let k : ℕ = c.len.result - 1 in
    let e : c.loop-place.place ≡ length c.args.parts.now = omega (arith, c.loop-place.auto.place-end, c.loop-place-test.false, c.len-place-end.ensures.len) in
    let l : k < c.loop-place.place = omega (arith, c.len.ensures.len, c.requires.some, e) in
    let read : c.index.result.now ≡ get_or places k 0 = get_or_read places k c.index.result.now (omega (arith, i.len, l)) c.index.ensures 0 in
    subst (λ p. p < length c.loop-place.bank) (sym read) (i.within k l)

pub returns-clause-here : goal.returns-clause-here
returns-clause-here c =
    let f : ℕ → Term = λ v. variable (number_of c.args.seen.now.keys v) in
    let from = c.args.parts.now in
    let i = c.loop-place.invariant in
    let places = c.loop-place.places.items in
    let k : ℕ = c.len.result - 1 in
    let e : c.loop-place.place ≡ length from = omega (arith, c.loop-place.auto.place-end, c.loop-place-test.false, c.len-place-end.ensures.len) in
    let l : k < c.loop-place.place = omega (arith, c.len.ensures.len, c.requires.some, e) in
    let read : c.index.result.now ≡ get_or places k 0 = get_or_read places k c.index.result.now (omega (arith, i.len, l)) c.index.ensures 0 in
    ap (type_at c.loop-place.bank) read ∙ i.types k l ∙ ap (λ n. substitute f (type_at from (n - 1))) c.len.ensures.len
