use Rattle.nesl_lex.specs.Tokens.{placed}
use Rattle.nesl_syntax.proofs.Targets.{target_given}
use Rattle.nesl_syntax.proofs.signature.read_target.Goals as goal

pub returns-in_ok-members-in-Some : goal.returns-in_ok-members-in-Some
returns-in_ok-members-in-Some c = target_given (placed c.args.tokens.now) (placed c.in-Some.front.now) (placed c.in-Some.behind.now) c.in_ok-to-in-Some.to c.in_ok-members-in-Some.members c.in-Some.ensures c.in_ok-to-in-Some.ensures c.in_ok-members-in-Some.ensures
