use Rattle.nesl_lex.specs.Lexemes.{HasNoTokenAt}
use Rattle.nesl_lex.proofs.Turns.{gap_turn, text_turn, pushed, at_end, at_stop, one_list, not_both}
use Rattle.nesl_lex.proofs.line.lex.Goals as goal
use Rattle.nesl_lex.proofs.line.lex.Goals.{After-drop-tokens-in-Nothing}

pub loop-at-preserved-in-Gap : goal.loop-at-preserved-in-Gap
loop-at-preserved-in-Gap c = gap_turn _ _ _ _ c.loop-at.invariant (rw c.in-Gap.is at c.in_ok-len.ensures)

pub loop-at-preserved : goal.loop-at-preserved
loop-at-preserved c = text_turn _ _ _ _ _ _ (pushed _ _ _ c.in_ok-push-in-Token.ensures.items) c.loop-at.invariant (rw c.in-Token.is at c.in_ok-len.ensures)

stopped : (c : After-drop-tokens-in-Nothing) → HasNoTokenAt c.args.line.now c.loop-at.at
stopped c = at_stop _ _ _ (rw c.in-Nothing.is at c.in_ok-len.ensures) c.loop-at.invariant

pub returns-in-Nothing-clause-stuck : goal.returns-in-Nothing-clause-stuck
returns-in-Nothing-clause-stuck c = stopped c

pub returns-in-Nothing-clause-none : goal.returns-in-Nothing-clause-none
returns-in-Nothing-clause-none c = λ others h. not_both _ _ others (stopped c) h

pub returns-clause-found : goal.returns-clause-found
returns-clause-found c = at_end _ _ _ c.loop-at-test.false c.loop-at.invariant

pub returns-clause-only : goal.returns-clause-only
returns-clause-only c = λ others h. one_list _ _ others (at_end _ _ _ c.loop-at-test.false c.loop-at.invariant) h
