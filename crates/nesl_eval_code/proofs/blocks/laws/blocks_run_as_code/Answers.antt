use Rattle.nesl_eval_code.proofs.Runs.{runs_as_code, leaves_its_value}
use Rattle.nesl_eval_code.proofs.blocks.laws.blocks_run_as_code.Goals as goal

pub returns : goal.returns
returns c = record { whole = runs_as_code; before = leaves_its_value }
