use Rattle.nesl_line.proofs.serve.answer_line.Goals as goal

pub returns : goal.returns
returns g c = record { answers = c.line_split-answer.ensures.answers; place = c.line_split-answer.ensures.kept.0; counted = c.line_split-answer.ensures.kept.1 }
