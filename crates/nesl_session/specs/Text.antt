-- The text that an answer holds.
use Rattle.std.specs.Prelude.{ℕ, List}
use Rattle.nesl_session.specs.declared.answer.Text.{Text}
use Rattle.nesl_session.specs.declared.answer.Text.TheVariants.{NoMemory, NoUser, Busy, Made}
use Rattle.nesl_session_meaning.specs.Response.{no_memory, no_user, busy}

abbrev pub text_bytes : Text → List ℕ
text_bytes NoMemory = no_memory.bytes
text_bytes NoUser = no_user.bytes
text_bytes Busy = busy.bytes
text_bytes (Made text) = text.items
