use Rattle.nesl_syntax.proofs.StepLemmas.{closes_turn, round_closes, none_closes, other_closes}
use Rattle.nesl_syntax.proofs.parse.close_types.Goals as goal

pub types-preserved : goal.types-preserved
types-preserved c = λ ws a s p. closes_turn _ _ _ _ _ _ ws a (rw c.in-Comma.is at c.in-Some.ensures.popped) c.in_ok-part-in-Comma.ensures (c.types.invariant ws a s p)

pub returns-in-Round : goal.returns-in-Round
returns-in-Round c = λ ws a s p. round_closes _ _ _ _ _ _ _ _ ws a (rw c.in-Round.is at c.in-Some.ensures.popped) (rw c.over.ensures at c.widen-part.ensures) c.end_type.ensures (c.types.invariant ws a s p)

pub returns-in_default-opening : goal.returns-in_default-opening
returns-in_default-opening c = λ ws a s p. rw c.refuse-in_default-opening.ensures (none_closes _ _ _ _ _ ws a c.in-Some.ensures.popped c.in_default-opening.not-Round c.in_default-opening.not-Comma (c.types.invariant ws a s p))

pub returns-in_default : goal.returns-in_default
returns-in_default c = λ ws a s p. rw c.refuse.ensures (other_closes _ _ _ ws a c.in_default.ensures.popped (c.types.invariant ws a s p))
