use Rattle.std.proofs.Common.{◌≡◌, refl, sym, subst, codes, lit≤, ℕ, List, [], ◌∷◌, Some, None}
use Rattle.std.specs.Prelude.{pos}
use Rattle.std.specs.Fmt.{digits}
use Rattle.nesl_lex.specs.declared.token.Span.{Span}
use Rattle.nesl_types_shared.specs.Term.{int}
use Rattle.nesl_values.specs.Tree as values
use Rattle.nesl_syntax_tree.specs.Trees.{FormTree}
use Rattle.nesl_syntax_tree.specs.Trees as trees
use Rattle.nesl_builtins.specs.Named.{builtin_named}
use Rattle.nesl_infer.specs.Verdicts.{unknown_at}
use Rattle.nesl_eval_meaning.specs.Out.{value, within}
use Rattle.nesl_reply.specs.declared.fault.Fault.TheVariants as faults
use Rattle.nesl_reply.specs.Replies.{used_text}
use Rattle.nesl_reply.specs.Replies as replies
use Rattle.nesl_session_bindings.specs.Known.{known, environment}
use Rattle.nesl_session_bindings.specs.Meanings.{Binding, variable}
use Rattle.nesl_session_bindings.specs.Redefinition.{it, a_variable, RefusesDefinition}
use Rattle.nesl_session_meaning.specs.declared.limits.Limits.{Limits}
use Rattle.nesl_session_meaning.specs.State.{State, empty}
use Rattle.nesl_session_meaning.specs.Reading.{no_token, no_form, form}
use Rattle.nesl_session_meaning.specs.Finding.{Finding, FindsReading, FindsOutcome, budget, reset, part, refused, answered, budget_report}
use Rattle.nesl_session_meaning.specs.Finding.{room, no_room, a_value, too_much_work, variable_untyped, an_unknown_name}
use Rattle.nesl_session_meaning.specs.Finding.{of_nothing, of_names, of_budget, of_expression, of_no_function, lexical, syntax, has_tree}
use Rattle.nesl_session_meaning.specs.Step.{after, reply_of}
use Rattle.nesl_session_meaning.specs.Worked.{ample}
use Rattle.nesl_session_meaning.proofs.Typed.{plus, plus_type, two, finds_number}
use Rattle.nesl_session_meaning.proofs.Worked.{answered_so, formed, unformed, unread_at, step_reset, step_reset_refused, step_full, step_part, step_reading}
use Rattle.nesl_session_meaning.proofs.laws.worked_lines.Goals as goal

pub returns-clause-lexical : goal.returns-clause-lexical
unfolding digits
returns-clause-lexical c =
    answered_so ample (codes "1 @ 2;") (codes "fault lexical at 2 (work 0)") 1000 _ _
    (step_reading ample (empty ample) (codes "1 @ 2;") (no_token 2) (refused (faults.Lexical 2) 0) refl refl refl refl (unread_at c.reading_computes.ensures (codes "1 @ 2;") 2 refl) lexical) refl refl

pub returns-clause-syntax : goal.returns-clause-syntax
returns-clause-syntax c =
    answered_so ample (codes "1; 2;") (codes "fault syntax (work 0)") 1000 _ _
    (step_reading ample (empty ample) (codes "1; 2;") no_form (refused faults.Syntax 0) refl refl refl refl (unformed c.reading_computes.ensures c.form_computes.ensures (codes "1; 2;") refl refl) syntax) refl refl

pub returns-clause-comment : goal.returns-clause-comment
returns-clause-comment c =
    answered_so ample (codes "% note %") (codes "ok") 1000 _ _
    (step_reading ample (empty ample) (codes "% note %") (form trees.nothing) (answered replies.blank 0 None) refl refl refl refl
    (formed c.reading_computes.ensures c.form_computes.ensures (codes "% note %") trees.nothing refl refl (lit≤ tt)) (has_tree of_nothing)) refl refl

pub returns-clause-names : goal.returns-clause-names
returns-clause-names c =
    answered_so ample (codes ":names") (codes "names:") 1000 _ _
    (step_reading ample (empty ample) (codes ":names") (form trees.show_names) (answered replies.names 0 None) refl refl refl refl
    (formed c.reading_computes.ensures c.form_computes.ensures (codes ":names") trees.show_names refl refl (lit≤ tt)) (has_tree of_names)) refl refl

pub returns-clause-budget : goal.returns-clause-budget
unfolding digits used_text
returns-clause-budget c =
    answered_so ample (codes ":budget") (codes "budget: work 1000, elements 0 of 100, lines 0 of 100, bytes 0 of 1000") 1000 _ _
    (step_reading ample (empty ample) (codes ":budget") (form trees.show_budget) (answered (budget_report ample (empty ample)) 0 None) refl refl refl refl
    (formed c.reading_computes.ensures c.form_computes.ensures (codes ":budget") trees.show_budget refl refl (lit≤ tt)) (has_tree of_budget)) refl refl

abbrev at : ℕ → ℕ → Span
at from to = record { start = from; end = to }

pub returns-clause-unknown : goal.returns-clause-unknown
unfolding digits
returns-clause-unknown c =
    let line : FormTree = trees.evaluate (trees.node (at 0 1) (trees.variable (codes "x"))) in
    answered_so ample (codes "x;") (codes "fault unknown at 0..1 (work 0)") 1000 _ _
    (step_reading ample (empty ample) (codes "x;") (form line) (refused (faults.Unknown (at 0 1)) 0) refl refl refl refl
    (formed c.reading_computes.ensures c.form_computes.ensures (codes "x;") line refl refl (lit≤ tt)) (has_tree (of_expression (variable_untyped {v = unknown_at (at 0 1)} refl an_unknown_name)))) refl refl

-- one and one, of which `it` becomes two
abbrev sum : FormTree
sum = trees.evaluate (plus (at 0 5) (at 0 1) (at 4 5) 1 1)

abbrev made : Binding
made = record { name = it; meaning = variable int (values.int (pos 2)) }

abbrev summed : Finding
summed = answered (replies.bound it (values.int (pos 2)) int (record { work = 3; depth = 3 })) 3 (Some made)

-- where no name is bound, and the sum has this outcome under the limits
finds_sum : (limits : Limits) (s : State) (f : Finding) → s.bindings ≡ [] → FindsOutcome limits s it int (within (budget limits s) (value (values.int (pos 2)) 3 3)) f → FindsReading limits s (form sum) f
unfolding builtin_named
finds_sum limits s f none h =
    let P : List Binding → Type 0 = λ bs. RefusesDefinition bs it (a_variable int) None in
    finds_number limits s (plus (at 0 5) (at 0 1) (at 4 5) 1 1) (value (values.int (pos 2)) 3 3) f (plus_type (known s.bindings) (at 0 5) (at 0 1) (at 4 5) 1 1)
    (subst P (sym none) ((λ h. h.1), refl)) (two (environment s.bindings) (at 0 5) (at 0 1) (at 4 5)) h

pub returns-clause-value : goal.returns-clause-value
unfolding digits
returns-clause-value c =
    answered_so ample (codes "1 + 1;") (codes "it = 2 : int (work 3, depth 3)") 997 _ _
    (step_reading ample (empty ample) (codes "1 + 1;") (form sum) summed refl refl refl refl
    (formed c.reading_computes.ensures c.form_computes.ensures (codes "1 + 1;") sum refl refl (lit≤ tt)) (finds_sum ample (empty ample) summed refl (a_value (room (lit≤ tt))))) refl refl

pub returns-clause-work : goal.returns-clause-work
unfolding digits
returns-clause-work c =
    let tight : Limits = record ample { line_work = 2 } in
    answered_so tight (codes "1 + 1;") (codes "fault work (work 2)") 998 _ _
    (step_reading tight (empty tight) (codes "1 + 1;") (form sum) (refused (faults.Work 2) 2) refl refl refl refl
    (formed c.reading_computes.ensures c.form_computes.ensures (codes "1 + 1;") sum refl refl (lit≤ tt))
    (finds_sum tight (empty tight) (refused (faults.Work 2) 2) refl too_much_work)) refl refl

pub returns-clause-elements : goal.returns-clause-elements
unfolding digits
returns-clause-elements c =
    let tight : Limits = record ample { elements = 0 } in
    answered_so tight (codes "1 + 1;") (codes "fault elements (work 3)") 997 _ _
    (step_reading tight (empty tight) (codes "1 + 1;") (form sum) (refused (faults.Elements 3) 3) refl refl refl refl
    (formed c.reading_computes.ensures c.form_computes.ensures (codes "1 + 1;") sum refl refl (lit≤ tt))
    (finds_sum tight (empty tight) (refused (faults.Elements 3) 3) refl (a_value (no_room (lit≤ tt))))) refl refl

pub returns-clause-parts : goal.returns-clause-parts
unfolding digits
returns-clause-parts c =
    let mid : State = after (codes "1 +\\") (empty ample) part in
    let first = step_part ample (empty ample) (codes "1 +\\") refl refl refl refl in
    let second =
    step_reading ample mid (codes "1;") (form sum) summed refl refl refl refl (formed c.reading_computes.ensures c.form_computes.ensures (codes "1 + 1;") sum refl refl (lit≤ tt))
    (finds_sum ample mid summed refl (a_value (room (lit≤ tt)))) in
    (reply_of (empty ample) part ∷ reply_of mid summed ∷ [], after (codes "1;") mid summed, (mid, first, (after (codes "1;") mid summed, second, refl)), refl, refl)

pub returns-clause-body : goal.returns-clause-body
unfolding digits
returns-clause-body c =
    let sum_line = codes "1 + 1;" in
    let line = codes "function g(x) = it;" in
    let body : FormTree = trees.function (codes "g") (trees.pattern (at 10 13) (trees.name_pattern (codes "x"))) None (trees.node (at 16 18) (trees.variable (codes "it"))) in
    let refusal : Finding = refused (faults.Unknown (at 16 18)) 0 in
    let one : State = after sum_line (empty ample) summed in
    let first =
    step_reading ample (empty ample) sum_line (form sum) summed refl refl refl refl (formed c.reading_computes.ensures c.form_computes.ensures (codes "1 + 1;") sum refl refl (lit≤ tt))
    (finds_sum ample (empty ample) summed refl (a_value (room (lit≤ tt)))) in
    let second =
    step_reading ample one line (form body) refusal refl refl refl refl
    (formed c.reading_computes.ensures c.form_computes.ensures (codes "function g(x) = it;") body refl refl (lit≤ tt)) (has_tree (of_no_function {v = unknown_at (at 16 18)} refl an_unknown_name)) in
    (reply_of (empty ample) summed ∷ reply_of one refusal ∷ [], after line one refusal, (one, first, (after line one refusal, second, refl)), refl, refl)

pub returns-clause-reset : goal.returns-clause-reset
unfolding digits
returns-clause-reset c =
    let small : Limits = record ample { session_work = 5 } in
    let line = codes "1 + 1;" in
    let means = formed c.reading_computes.ensures c.form_computes.ensures (codes "1 + 1;") sum refl refl (lit≤ tt) in
    let one : State = after line (empty small) summed in
    let cleared : State = after (codes ":reset") one reset in
    let last : State = after line cleared (refused (faults.Work 2) 2) in
    let first =
    step_reading small (empty small) line (form sum) summed refl refl refl refl means
    (finds_sum small (empty small) summed refl (a_value (room (lit≤ tt)))) in
    let second = step_reset small one (codes ":reset") refl refl in
    let third =
    step_reading small cleared line (form sum) (refused (faults.Work 2) 2) refl refl refl refl means
    (finds_sum small cleared (refused (faults.Work 2) 2) refl too_much_work) in
    (reply_of (empty small) summed ∷ reply_of one reset ∷ reply_of cleared (refused (faults.Work 2) 2) ∷ [], last, (one, first, (cleared, second, (last, third, refl))), refl, refl)

pub returns-clause-transcript : goal.returns-clause-transcript
returns-clause-transcript c = λ line other.
    let none : Limits = record ample { transcript_lines = 0 } in
    answered_so none line (codes "fault transcript (work 0)") 1000 _ _ (step_full none (empty none) line other refl) refl refl

pub returns-clause-limit : goal.returns-clause-limit
returns-clause-limit c = λ s over. step_reset_refused ample s (codes ":reset") refl over
