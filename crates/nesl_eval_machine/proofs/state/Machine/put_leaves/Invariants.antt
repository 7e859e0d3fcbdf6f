use Rattle.std.proofs.Common.{ℕ, ◌+◌, Ok, drop, map}
use Rattle.nesl_lex.specs.declared.token.Span.{Span}
use Rattle.nesl_eval_code.specs.Block.{Block, Maker, make}
use Rattle.nesl_eval_ops.specs.View.{leaf_is}
use Rattle.nesl_eval_machine.specs.State.{Fits, left_at}
use Rattle.nesl_eval_machine.specs.Steps.{Steps}
use Rattle.nesl_eval_machine.proofs.state.Machine.put_leaves.Given as goal

abbrev pub invariant-loop-leaf : goal.invariant-loop-leaf
invariant-loop-leaf g l =
    let t = g.T.Tops.table l.tops in
    (s : Span) (f : Maker) (k : ℕ) (b : Block) → Fits t l.fn.self →
    Steps t l.fn.self (Ok (tt {0})) l.self (make l.height s f (k + l.leaf-index) (map leaf_is (drop l.leaf-index l.leaves)) b)
    (left_at t l.fn.self (make l.height s f k (map leaf_is l.leaves) b))
