use Rattle.std.proofs.Common.{◌∙◌, List, Some, ap, sym, ℕ}
use Rattle.nesl_prompt.proofs.Texts.{converses_first, converses_over}
use Rattle.nesl_prompt.proofs.converse.converse_over.Goals as goal

pub returns-in-Input : goal.returns-in-Input
returns-in-Input g c = record {
  answered =
      converses_over _ _ c.args.text.now _ _ _ _ _ (ap (λ s. Some s.now) c.new-reader.ensures.inner) _ c.into_inner.result.items c.in-Input.is
      (ap (λ v. Some v.items) c.new-writer.ensures.inner ∙ ap (λ (x : List ℕ). Some x) c.new.ensures.items)
      (ap (λ v. Some v.items) (sym c.into_inner.ensures)) c.converse.ensures;
  refused = tt;
}

pub returns-in-ReadFault : goal.returns-in-ReadFault
returns-in-ReadFault g c = record { answered = tt; refused = converses_first _ _ c.args.text.now _ _ _ _ _ (ap (λ s. Some s.now) c.new-reader.ensures.inner) _ c.converse.ensures }
