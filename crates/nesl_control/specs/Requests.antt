-- The lines of an operator.
use Rattle.std.specs.Prelude.{ℕ, List, ◌++◌, codes}
use Rattle.nesl_control.specs.declared.request.Request.{Request}
use Rattle.nesl_control.specs.declared.request.Request.TheVariants.{Seats, Check, Reopen, Keys, End, Renew}
use Rattle.nesl_control.specs.declared.request.Request.TheVariants.{Stop, StopWithin}

-- the line that asks for this
abbrev pub line_of : Request → List ℕ
line_of Seats = codes "seats"
line_of Check = codes "check"
line_of Reopen = codes "reopen"
line_of Keys = codes "keys"
line_of (End user) = codes "end " ++ user.now
line_of (Renew user) = codes "renew " ++ user.now
line_of Stop = codes "stop"
line_of (StopWithin seconds) = codes "stop " ++ seconds.now
