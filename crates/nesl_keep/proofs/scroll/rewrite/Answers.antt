use Rattle.std.proofs.Common.{◌≡◌, ⊎_elim, ◌∙◌, ap}
use Rattle.nesl_keep.specs.Scroll.{kept, at_rest, IsOneOf, HasSameLines}
use Rattle.nesl_keep.proofs.Crash.{rest_again}
use Rattle.nesl_keep.proofs.Moments.{weaker}
use Rattle.nesl_keep.proofs.scroll.rewrite.Goals as goal

-- the file has the same lines before it is put anew, and after it
pub returns-in_err-put_anew-clause-any_moment : goal.returns-in_err-put_anew-clause-any_moment
returns-in_err-put_anew-clause-any_moment g c =
    let seen = g.D.Device.seen c.args.device.now in
    let laid : c.deref.result.now ≡ at_rest (kept seen) = c.deref.ensures.value ∙ c.in_ok-lines.ensures.file ∙ ap (λ f. at_rest (kept f)) c.requires.read in
    weaker g.D.Device.moment g.D.Device.left_since c.args.device.now c.put_anew.new.device (IsOneOf c.args.bytes.now c.deref.result.now) (HasSameLines seen) c.put_anew.ensures.any_moment
    (λ f. ⊎_elim (λ was. ap kept (was ∙ c.requires.read)) (λ anew. ap kept anew ∙ rest_again c.deref.result.now seen laid))

pub returns-clause-any_moment : goal.returns-clause-any_moment
returns-clause-any_moment g c =
    let seen = g.D.Device.seen c.args.device.now in
    let laid : c.deref.result.now ≡ at_rest (kept seen) = c.deref.ensures.value ∙ c.in_ok-lines.ensures.file ∙ ap (λ f. at_rest (kept f)) c.requires.read in
    weaker g.D.Device.moment g.D.Device.left_since c.args.device.now c.put_anew.new.device (IsOneOf c.args.bytes.now c.deref.result.now) (HasSameLines seen) c.put_anew.ensures.any_moment
    (λ f. ⊎_elim (λ was. ap kept (was ∙ c.requires.read)) (λ anew. ap kept anew ∙ rest_again c.deref.result.now seen laid))
