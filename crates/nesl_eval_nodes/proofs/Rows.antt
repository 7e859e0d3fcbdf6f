-- Nodes with lists of parts.
use Rattle.std.proofs.Common.{◌≡◌, [], Vec, Box, Global, rules}
use Rattle.nesl_lex.specs.declared.token.Span.{Span}
use Rattle.nesl_eval_code.specs.declared.code.Code.{Code, Let, the_lemmas}
use Rattle.nesl_eval_code.specs.Frames.{Frames}
use Rattle.nesl_eval_code.specs.Run.{Runs, Table, run_node, run_let}

pub node-Let : (f : Runs) (t : Table) (fs : Frames) (s : Span) (codes : Vec Code Global) (body : Box Code Global) → run_node f t fs (Let s codes body) ≡ run_let f fs [] codes.items body.value
node-Let f t fs s codes body = search (rules, the_lemmas)
