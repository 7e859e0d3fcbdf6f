use Rattle.nesl_house.specs.Roster.{no_memory_left}
use Rattle.nesl_house.proofs.table.Table.new.Goals as goal

pub returns-in-Err-clause-refused : goal.returns-in-Err-clause-refused
returns-in-Err-clause-refused c = no_memory_left (c.in_ok-check.ensures.roster)
