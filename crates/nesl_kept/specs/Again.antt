-- The lines of a file, said again, and whether its session comes back.
use Rattle.std.specs.Prelude.{◌≡◌, ◌⊎◌, ℕ, ◌+◌, List, [], ◌∷◌, ◌++◌, Option, length}
use Rattle.std.specs.Io.KnownBytes.{Appends}
use Rattle.nesl_session_meaning.specs.declared.limits.Limits.{Limits}
use Rattle.nesl_session_meaning.specs.State.{Log, empty_log}
use Rattle.nesl_session_meaning.specs.Response.{Reply}
use Rattle.nesl_session_meaning.specs.Solo.{SessionAnswers}
use Rattle.nesl_keep.specs.Scroll.{kept}
use Rattle.nesl_line.specs.declared.keeper.Mismatch.TheVariants.{Head, Line}
use Rattle.nesl_keeper.specs.Files.{head_text, with_rows, IsNoHead}
use Rattle.nesl_keeper.specs.Steps.{IsUnstored}
use Rattle.nesl_kept.specs.declared.again.Setback.{Setback}
use Rattle.nesl_kept.specs.declared.again.Setback.TheVariants.{Memory, Unheard, Misfit}
use Rattle.nesl_kept.specs.declared.again.Unheard.{Unheard as Why}

-- the lines that were heard, and the replies to them
abbrev pub Heard : Type 1
Heard = (lines : List (List ℕ)) → (replies : List Reply) → Type 0

-- a text for these lines and replies, one after another
pub data Tells (tells : List ℕ → Reply → List ℕ → Type 0)
    : (lines : List (List ℕ)) (replies : List Reply) → List ℕ → Type 0 where
  none : Tells tells [] [] []
  one_more :
      (lines : List (List ℕ)) (replies : List Reply) (told : List ℕ) (line : List ℕ) (reply : Reply) (text : List ℕ)
      → Tells tells lines replies told → tells line reply text
      → Tells tells (lines ++ line ∷ []) (replies ++ reply ∷ []) (told ++ text)

-- such a text was written, and nothing else
abbrev pub Writes : (List ℕ → Reply → List ℕ → Type 0) → (held held' : Option (List ℕ)) → Heard
Writes tells held held' lines replies = (told : List ℕ) × Tells tells lines replies told × Appends held held' told

-- the session that a head names: it has this work left and this number of recorded lines, and stores nothing yet
abbrev pub begun : Limits → (base cleared : ℕ) → Log
begun limits base cleared = record { limits = limits; base = base; cleared = cleared; lines = [] }

-- A session answers these lines one after another by these replies, and stores all of them. Each was heard with its
-- reply.
pub record SaidAgain
    (hears : Heard) (old : Log) (lines : List (List ℕ)) (replies : List Reply) (new : Log) : Type 0 where
  pub answered : SessionAnswers old lines replies new
  pub stored : new ≡ with_rows old lines
  pub heard : hears lines replies

-- a file that has no line yet: it is empty, or a closed gate alone
abbrev pub IsBlank : List ℕ → Type 0
IsBlank file = (file ≡ []) ⊎ (file ≡ 46 ∷ [])

-- The session of a file comes back: the session that the head names stores all other lines again. If the file is blank,
-- it is the session that has got no line.
pub data ComesBack (limits : Limits) (hears : Heard) (file : List ℕ) : Log → Type 0 where
  anew : IsBlank file → hears [] [] → ComesBack limits hears file (empty_log limits)
  again :
      (base cleared : ℕ) (lines : List (List ℕ)) (replies : List Reply) (session : Log)
      → kept file ≡ head_text base cleared ∷ lines → SaidAgain hears (begun limits base cleared) lines replies session
      → ComesBack limits hears file session

-- Why lines could not be said again to a session: the first were, and the session doesn't store the next one. Its row
-- is told as that of a file in which the head is row 1. Or memory ran out, or the listener could not go on.
pub data Stops (hears : Heard) (old : Log) : (lines : List (List ℕ)) → Setback → Type 0 where
  at_a_line :
      (lines : List (List ℕ)) (replies : List Reply) (mid after : Log) (line : List ℕ) (more : List (List ℕ))
      → SaidAgain hears old lines replies mid → IsUnstored mid line after
      → Stops hears old (lines ++ line ∷ more) (Misfit (Line (length lines + 2)))
  no_memory : (lines : List (List ℕ)) → Stops hears old lines Memory
  unheard : (lines : List (List ℕ)) (why : Why) → Stops hears old lines (Unheard why)

-- Why the session of a file doesn't come back. It has no line, and isn't blank. Or the first line is the head of no
-- session with these limits. Or the session that the head names stops at a later line. Or memory ran out.
pub data StaysAway (limits : Limits) (hears : Heard) (file : List ℕ) : Setback → Type 0 where
  at_no_line : kept file ≡ [] → (IsBlank file → ⊥) → hears [] [] → StaysAway limits hears file (Misfit Head)
  at_the_head :
      (head : List ℕ) (more : List (List ℕ)) → kept file ≡ head ∷ more → IsNoHead limits head → hears [] []
      → StaysAway limits hears file (Misfit Head)
  later :
      (base cleared : ℕ) (lines : List (List ℕ)) (setback : Setback)
      → kept file ≡ head_text base cleared ∷ lines → Stops hears (begun limits base cleared) lines setback
      → StaysAway limits hears file setback
  no_memory_first : StaysAway limits hears file Memory
