-- The style of a prompt, and whether it opens files.
use Rattle.std.specs.Prelude.{Bool, ◌&&◌, ◌||◌, if◌then◌else◌}
use Rattle.nesl_prompt.specs.declared.shelf.Access.{Access}
use Rattle.nesl_prompt.specs.declared.shelf.Access.TheVariants.{Granted, Refused}
use Rattle.nesl_prompt.specs.declared.style.Style.{Style}
use Rattle.nesl_cli.specs.declared.prompt.Terminals.{Terminals}

-- A prompt is shown where standard input and output are terminals. Hints are shown where standard output is one, or
-- where they are asked for.
abbrev pub style_for : Terminals → (is_hinted : Bool) → Style
style_for terminals is_hinted = record {
  prompts = terminals.input && terminals.output;
  hints = terminals.output || is_hinted;
}

-- Files are opened where standard input is a terminal, or where they are asked for.
abbrev pub access_for : Terminals → (has_files : Bool) → Access
access_for terminals has_files = if terminals.input || has_files then Granted else Refused
