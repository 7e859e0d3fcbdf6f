use Rattle.std.proofs.Common.{List, drop}
use Rattle.nesl_lex.specs.Tokens.{placed}
use Rattle.nesl_syntax_open.specs.Machine as machine
use Rattle.nesl_syntax_open.specs.Machine.{Waiting}
use Rattle.nesl_syntax_open.specs.Stack.{SeesStack}
use Rattle.nesl_syntax.specs.Steps.{Runs}
use Rattle.nesl_syntax_open.specs.Modes.{SeesMode}
use Rattle.nesl_syntax.proofs.parse.run.Given as goal

abbrev pub invariant-loop-token : goal.invariant-loop-token
invariant-loop-token l = (ws : List Waiting) (m : machine.Mode) → SeesStack l.fn.stack.items ws → SeesMode l.fn.mode m →
    Runs l.stack.items l.mode (placed (drop l.token-index l.tokens)) (placed l.tokens) (ws, m)
