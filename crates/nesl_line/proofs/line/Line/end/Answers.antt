use Rattle.std.proofs.Common.{◌≡◌, ◌≢◌, ◌-◌, List, [], ◌∷◌, ℕ, length, arith, sym, ap, ◌∙◌, slice_index, take}
use Rattle.std.proofs.lemmas.List.{get_or_read}
use Rattle.nesl_line.proofs.Bytes.{handed_return, handed_other, handed_long}
use Rattle.nesl_line.proofs.line.Line.end.Goals.{else-not-self-via-then-not-self+then-n-gt0+else-index-eq13, else-not-self-via-then-not-self+else-n-gt0, else-not-self-via-else-not-self}
use Rattle.nesl_line.proofs.line.Line.end.Goals as goal

pub returns-then-index-eq13 : goal.returns-then-index-eq13
returns-then-index-eq13 c = λ raw h.
    let bytes = c.args.self.now.bytes.items in
    let n : c.len-n.result ≡ length bytes = omega (arith, c.args.self.now.bytes.ok.0, c.len-n.ensures) in
    let last : slice_index bytes (length bytes - 1) ≡ 13 =
    ap (λ k. slice_index bytes (k - 1)) (sym n) ∙ sym (get_or_read bytes (c.len-n.result - 1) c.index.result.now (omega (arith, n)) c.index.ensures 0) ∙ c.if-index-eq13.true in
    handed_return raw bytes _ c.args.self.now.is_longer h c.if-not-self.true last (c.truncate.ensures.items ∙ ap (λ k. take (k - 1) bytes) n)

-- an empty line has no last byte
none : (bytes : List ℕ) → length bytes ≡ 0 → slice_index bytes (length bytes - 1) ≢ 13
none [] e k = let no' : 0 ≡ 13 = k in absurd (omega (arith, no'))
none (b ∷ bs) e k = absurd (omega (arith, e))

pub returns-else-not-self : goal.returns-else-not-self
returns-else-not-self c = λ raw h.
    let bytes = c.args.self.now.bytes.items in
    let n : c.len-n.result ≡ length bytes = omega (arith, c.args.self.now.bytes.ok.0, c.len-n.ensures) in
    elim c.else-not-self.branch [
      | else-not-self-via-then-not-self+then-n-gt0+else-index-eq13 w ↦
          handed_other raw bytes c.args.self.now.is_longer h w.if-not-self.true
          (λ k. w.if-index-eq13.false (get_or_read bytes (c.len-n.result - 1) w.index.result.now (omega (arith, n)) w.index.ensures 0 ∙ ap (λ m. slice_index bytes (m - 1)) n ∙ k))
      | else-not-self-via-then-not-self+else-n-gt0 w ↦ handed_other raw bytes c.args.self.now.is_longer h w.if-not-self.true (λ k. absurd (none bytes (omega (arith, n)) k))
      | else-not-self-via-else-not-self w ↦ handed_long raw bytes c.args.self.now.is_longer h w.if-not-self.false
    ]
