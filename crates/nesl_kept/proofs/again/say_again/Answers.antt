use Rattle.nesl_kept.specs.Again as again
use Rattle.nesl_kept.proofs.again.say_again.Goals as goal

pub returns-in_default-clause-away : goal.returns-in_default-clause-away
returns-in_default-clause-away g c = again.no_memory_first
