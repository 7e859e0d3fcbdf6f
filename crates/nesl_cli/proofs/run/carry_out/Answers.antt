use Rattle.std.proofs.Common.{map, subst}
use Rattle.nesl_line.specs.declared.exchange.End.TheVariants.{Input}
use Rattle.nesl_prompt.specs.Points.{is_plain}
use Rattle.nesl_prompt.specs.declared.style.Style.{Style}
use Rattle.nesl_cli.specs.Program.{Prompted, limits_by}
use Rattle.nesl_words.specs.Words.{task_of, users_of}
use Rattle.nesl_words.specs.Wanted.{limits_wanted}
use Rattle.nesl_cli.proofs.Done.{prompt_done}
use Rattle.nesl_cli.proofs.run.carry_out.Goals as goal

pub returns-in-Ok-run_prompt-clause-comes : goal.returns-in-Ok-run_prompt-clause-comes
returns-in-Ok-run_prompt-clause-comes g c =
    let words = map (λ word. word.now) c.args.words.now in
    let P : Style → Type 0 = λ style. Prompted (is_plain style) Input (limits_by (limits_wanted c.in-Prompt.prompt.limits)) (g.S.Source.left c.args.reader.now) (g.S.Source.left c.run_prompt.new.reader) (g.W.Sink.held c.args.writer.now) (g.W.Sink.held c.run_prompt.new.writer) in
    prompt_done c.args.devices.now.terminals c.in-Ok.wanted.task c.in-Prompt.prompt (task_of words) (users_of words) _ _ _ _ c.in-Prompt.is c.in-Ok.ensures.task (subst P c.style-style.ensures c.in-Ok-run_prompt.ensures.prompted)
