-- The shapes of commands, as clap sees them.
use Rattle.std.specs.Prelude.{◌≡◌, ◌∷◌, [], ◌++◌, false}
use Rattle.clap.specs.Simple.{Shape, shape_of}
use Rattle.clap.specs.Walk.{Rule}
use Rattle.clap.specs.declared.builder.command.Command.{Command}
use Rattle.clap.specs.declared.builder.command.Command.TheViews.{out-Command as fields_of}
use Rattle.nesl_words.specs.Rules.{elements_rule, line_work_rule, session_work_rule}
use Rattle.nesl_words.specs.Rules.{transcript_bytes_rule, transcript_lines_rule}

-- a command of this shape, without options that its subcommands would take over
abbrev pub IsShaped : Shape → Command → Type 0
IsShaped shape command = (shape_of command ≡ shape) × ((fields_of command).has_globals ≡ false)

-- a shape with one more option
abbrev pub with_rule : Shape → Rule → Shape
with_rule shape rule = record shape { rules = shape.rules ++ rule ∷ [] }

-- a shape with the options for the limits of each session
abbrev pub with_limits : Shape → Shape
with_limits shape =
    with_rule
    (with_rule
    (with_rule (with_rule (with_rule shape line_work_rule) session_work_rule) elements_rule)
    transcript_lines_rule)
    transcript_bytes_rule
