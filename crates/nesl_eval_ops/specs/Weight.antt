-- How many operations a block has.
use Rattle.std.specs.Prelude.{ℕ, suc, ◌+◌}
use Rattle.nesl_eval_code.specs.Block.{Block, finish, push, enter, make, choose, last, call, bind, forget, each}
use Rattle.nesl_eval_code.specs.Block.{filtered}

-- those of sides, bodies and filters too
abbrev pub weight : Block → ℕ
weight finish = 0
weight (push h l b) = suc (weight b)
weight (enter h s b) = suc (weight b)
weight (make h s m k ls b) = suc (weight b)
weight (choose c d b) = suc (weight c + weight d + weight b)
weight (last c d) = suc (weight c + weight d)
weight (call h s f b) = suc (weight b)
weight (bind b) = suc (weight b)
weight (forget m b) = suc (weight b)
weight (each s k c b) = suc (weight c + weight b)
weight (filtered s k c d b) = suc (weight c + weight d + weight b)
