-- What is replied to a line.
use Rattle.std.specs.Prelude.{ℕ, List, ◌++◌}
use Rattle.nesl_line.specs.declared.hearer.Told.{Told}
use Rattle.nesl_line.specs.declared.hearer.Told.TheVariants.{Back, By, Text, With}
use Rattle.nesl_line.specs.Lines.{with_feed}

-- the line itself with its line end, or an answer, or some bytes, or an answer and some bytes
abbrev pub text_told : List ℕ → Told → List ℕ
text_told line Back = with_feed line
text_told line (By reply) = reply.bytes
text_told line (Text text) = text.items
text_told line (With reply more) = reply.bytes ++ more.items
