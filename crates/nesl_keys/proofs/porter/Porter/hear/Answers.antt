use Rattle.std.proofs.Common.{◌∷◌, ◌++◌, [], length-append, ap, ◌∙◌, sym, arith}
use Rattle.std.proofs.lemmas.Bool.{cond-false, eqb-true, false_from_ne_true}
use Rattle.nesl_keys.specs.Hearing.{heard_at, heard_after}
use Rattle.nesl_keys.proofs.Hearings.{overlong}
use Rattle.nesl_keys.proofs.porter.Porter.hear.Goals as goal

pub returns-else-len-lt-MOST_LINE_BYTES : goal.returns-else-len-lt-MOST_LINE_BYTES
returns-else-len-lt-MOST_LINE_BYTES c =
    λ rest.
    let porter = c.args.self.now in
    let before = porter.line.items in
    let byte = c.args.byte in
    c.refuse.ensures.heard rest ∙ sym
    (ap (λ s. heard_at s porter (byte ∷ rest)) c.requires
    ∙ cond-false _ _ (heard_after porter.door (before ++ byte ∷ []) rest) (false_from_ne_true _ (λ e. c.if-byte-eq10.false (eqb-true byte 10 e)))
    ∙ overlong porter.door (before ++ byte ∷ []) rest (omega (arith, length-append before (byte ∷ []))))
