use Rattle.nesl_split.proofs.Finding.{no_places, no_values}
use Rattle.nesl_split.proofs.found.Found.new.Goals as goal

pub returns-in-Places : goal.returns-in-Places
returns-in-Places c = no_places c.args.wanted c.new.result c.in-Places.is c.new.ensures.items

pub returns-in-Values : goal.returns-in-Values
returns-in-Values c = no_values c.args.wanted c.with_room.result c.in-Values.is c.with_room.ensures
