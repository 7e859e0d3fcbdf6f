use Rattle.nesl_words.specs.Rules.{line_work_rule, session_work_rule, elements_rule, transcript_lines_rule, transcript_bytes_rule}
use Rattle.nesl_words.proofs.limit_words.with_limits.Goals as goal

pub returns : goal.returns
returns c = λ shape is_shaped.
    let has_line_work = c.with_option-with_line_work.ensures shape line_work_rule c.line_work.ensures.rule is_shaped in
    let has_session_work = c.with_option-with_session_work.ensures _ session_work_rule c.session_work.ensures.rule has_line_work in
    let has_elements = c.with_option-with_elements.ensures _ elements_rule c.elements.ensures.rule has_session_work in
    let has_lines = c.with_option-with_lines.ensures _ transcript_lines_rule c.transcript_lines.ensures.rule has_elements in
    c.with_option.ensures _ transcript_bytes_rule c.transcript_bytes.ensures.rule has_lines
