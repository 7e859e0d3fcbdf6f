-- The top level as an evaluation sees it.
use Rattle.std.specs.Prelude.{List, Option}
use Rattle.nesl_eval_ops.specs.declared.ops.Ops.{Ops}
use Rattle.nesl_eval_top_level.specs.declared.env.TopLevel.{TopLevel}
use Rattle.nesl_eval_code.specs.Run.{Table}
use Rattle.nesl_eval_top_level.specs.Stored.{table}

-- the table that is lent
abbrev pub table_in : TopLevel → Table
table_in l = table l.context.now l.prepared.now

-- the operations that are lent
abbrev pub bodies_in : TopLevel → List (Option Ops)
bodies_in l = l.bodies.now
