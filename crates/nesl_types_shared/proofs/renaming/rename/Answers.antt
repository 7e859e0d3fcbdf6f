use Rattle.std.proofs.Common.{◌≡◌, ℕ, ◌+◌, List, length, get_or, subst, sym, ◌∙◌, arith}
use Rattle.nesl_types_shared.specs.Renames.{renamed, replacement}
use Rattle.nesl_types_shared.specs.Types.{type_at}
use Rattle.nesl_types_shared.proofs.Reached.{AreRenamedBelow, renamed_push}
use Rattle.nesl_types_shared.proofs.renaming.rename.Goals as goal

pub loop-place-preserved : goal.loop-place-preserved
loop-place-preserved c =
    let from = c.args.from.now in
    let of = c.args.of.now in
    let old = c.args.to.now in
    let mid = c.loop-place.to in
    let new = c.put_renamed.new.to in
    let p = c.in_ok-renamed.renamed in
    let k = c.loop-place.place in
    let here = subst (λ (ps : List ℕ). type_at new p ≡ renamed (replacement mid of) (λ q. type_at mid (get_or ps q 0)) c.shape.result) c.deref.ensures.value c.in_ok-renamed.ensures.put.here in
    subst (λ (ps : List ℕ). AreRenamedBelow of old new from ps (k + 1)) (sym c.in_ok-push.ensures.items)
    (renamed_push of old mid new from c.loop-place.places.items k p c.shape.result c.requires.places c.put_renamed.ensures.extends c.shape.ensures.parts c.shape.ensures.shape c.in_ok-renamed.ensures.put.within here c.loop-place.invariant)

pub returns-clause-renamed : goal.returns-clause-renamed
returns-clause-renamed c =
    let i = c.loop-place.invariant in
    let e : c.loop-place.place ≡ length c.args.from.now = omega (arith, c.loop-place.auto.place-end, c.loop-place-test.false, c.len-place-end.ensures.len) in
    record {
      len = i.len ∙ e;
      within = i.within;
      types = λ p l. i.types p (omega (arith, e, l));
    }
