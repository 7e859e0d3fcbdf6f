-- The lines that users say to a house in the code.
use Rattle.std.specs.Prelude.{List, [], ◌∷◌}
use Rattle.nesl_session_meaning.specs.Response.{Reply}
use Rattle.nesl_house.specs.declared.house.Said.{Said}
use Rattle.nesl_house.specs.Script.{Event}

-- each line that was said, with its answer
abbrev pub events_of : List Said → List Reply → List Event
events_of (said ∷ script) (reply ∷ replies) =
    record { user = said.user.items; line = said.text.items; reply = reply } ∷ events_of script replies
events_of _ _ = []
