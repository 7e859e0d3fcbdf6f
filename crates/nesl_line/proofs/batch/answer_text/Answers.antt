use Rattle.std.proofs.Common.{◌∙◌, List, Some, ap, sym, ℕ}
use Rattle.nesl_line.proofs.Texts.{batch_all, batch_first}
use Rattle.nesl_line.proofs.batch.answer_text.Goals as goal

pub returns-in-Input : goal.returns-in-Input
returns-in-Input g c = record {
  answered =
      batch_all _ _ c.args.text.now _ _ _ _ _ (ap (λ s. Some s.now) c.new-reader.ensures.inner) _ c.into_inner.result.items c.in-Input.is
      (ap (λ v. Some v.items) c.new-writer.ensures.inner ∙ ap (λ (x : List ℕ). Some x) c.new.ensures.items)
      (ap (λ v. Some v.items) (sym c.into_inner.ensures)) c.batch_by.ensures.batch;
  refused = tt;
}

pub returns-in-ReadFault : goal.returns-in-ReadFault
returns-in-ReadFault g c = record { answered = tt; refused = batch_first _ _ c.args.text.now _ _ _ _ _ (ap (λ s. Some s.now) c.new-reader.ensures.inner) _ c.batch_by.ensures.batch }
