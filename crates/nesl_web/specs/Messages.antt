-- Lines that arrive as messages.
use Rattle.std.specs.Prelude.{◌≢◌}
use Rattle.std.specs.List.{AllByRecursion}
use Rattle.nesl_web.specs.declared.messages.Received.{Received}
use Rattle.nesl_web.specs.declared.messages.Received.TheVariants.{Line, Control, Closed, NotALine, Lost}

-- a line has no line end in it
abbrev pub IfLine : Received → Type 0
IfLine (Line text) = AllByRecursion (λ b. b ≢ 10) text
IfLine Control = Unit {0}
IfLine Closed = Unit {0}
IfLine (NotALine code) = Unit {0}
IfLine (Lost error) = Unit {0}
