use Rattle.std.proofs.Common.{◌≡◌, refl, sym, ap, ◌∙◌}
use Rattle.std.proofs.lemmas.Result.{on_ok_weaker}
use Rattle.nesl_types_shared.specs.Term.{char, seq_of}
use Rattle.nesl_infer_rules.proofs.Steps.{gives_and, adds_as}
use Rattle.nesl_infer.proofs.leaf.is_text.Goals as goal

pub returns : goal.returns
returns c =
    let v = c.args.target in
    on_ok_weaker c.equate_sequence.result
    (λ p.
    let q = gives_and (λ s of u. u ≡ char) (λ u s of. s v ≡ seq_of u) c.in_ok-letter.ensures.gives p (λ u s z of a k. sym (a v c.requires.target) ∙ k) in
    adds_as _ (λ s of. s v ≡ seq_of char) q (λ s of b h. h.1 ∙ ap seq_of h.0) (λ s of h. (char, (refl, h))))
    c.equate_sequence.ensures
