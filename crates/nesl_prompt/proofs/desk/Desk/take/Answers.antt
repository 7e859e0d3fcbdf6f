use Rattle.std.proofs.Common.{◌++◌, ◌∙◌, ◌<◌, ◌≤◌, ℕ, List, ap, refl, subst, length}
use Rattle.nesl_session_meaning.specs.Step.{longest}
use Rattle.nesl_prompt.specs.Conversation.{gathers, answers, runs_out, whole}
use Rattle.nesl_prompt.proofs.Conversations.{begun, plain_parts, responds_to}
use Rattle.nesl_prompt.proofs.desk.Desk.take.Goals as goal

pub returns-in-Err-clause-takes : goal.returns-in-Err-clause-takes
returns-in-Err-clause-takes g c = λ any. runs_out c.in-Err.ensures.err refl (record {
  more = c.prompt-more.result.items;
  written = whole (ap (λ r. r.bytes ++ c.prompt-more.result.items) c.no_memory.ensures);
  below = c.prompt-more.ensures.below _;
})

pub returns-then-is_whole-clause-takes : goal.returns-then-is_whole-clause-takes
returns-then-is_whole-clause-takes g c = λ any.
    let s = c.answer_form.ensures.said in
    let P : List ℕ → Type 0 = λ x. longest < length x in
    answers s.0
    (λ plain some whole_line blank. subst P c.in-Ok.ensures.ok (c.is_whole.ensures.blank c.if-is_whole.true (plain_parts _ plain).0 (begun c.args.self.now.form.items _ c.is_empty-is_begun.result c.args.self.now.form.ok.0 c.is_empty-is_begun.ensures some) whole_line blank))
    (responds_to _ _ _ _ _ (ap (λ f. f.items) c.is_whole.ensures.form ∙ c.in-Ok.ensures.ok) s.1) c.answer_form.ensures.form (s.2 any)

pub returns-else-is_whole-clause-takes : goal.returns-else-is_whole-clause-takes
returns-else-is_whole-clause-takes g c = λ any.
    let P : List ℕ → Type 0 = λ x. length x ≤ longest in
    gathers
    (record {
      no_part = c.is_whole.ensures.part c.if-is_whole.false;
      short = subst P c.in-Ok.ensures.ok (c.is_whole.ensures.short c.if-is_whole.false);
    })
    (ap (λ f. f.items) c.go_on.ensures.form ∙ ap (λ f. f.items) c.is_whole.ensures.form ∙ c.in-Ok.ensures.ok) refl c.go_on.ensures.plain
