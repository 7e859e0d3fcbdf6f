-- How a line of each kind is answered.
use Rattle.std.proofs.Common.{◌≡◌, ◌≤◌, ◌<◌, ◌+◌, ◌++◌, ◌∙◌, codes, ℕ, List, [], ◌∷◌, Some, None, subst, sym, true, false, length, refl, nat_lt}
use Rattle.std.proofs.lemmas.Bool.{ltb-false}
use Rattle.nesl_lex.specs.Lexemes.{Ending, whole, halted_at as stuck_at, Reads, HasTokens}
use Rattle.nesl_lex.specs.Reading.{reading_of}
use Rattle.nesl_lex.specs.Laws.{ReadingComputes}
use Rattle.nesl_syntax_tree.specs.Trees.{FormTree, form_height}
use Rattle.nesl_syntax.specs.Reading.{form_in}
use Rattle.nesl_syntax.specs.Laws.{FormComputes}
use Rattle.nesl_reply.specs.declared.fault.Fault.TheVariants as faults
use Rattle.nesl_session_meaning.specs.declared.limits.Limits.{Limits}
use Rattle.nesl_session_meaning.specs.State.{State, empty}
use Rattle.nesl_session_meaning.specs.Reading.{Reading, HasReading, no_token, no_form, form, has_no_token, has_no_form, has_form}
use Rattle.nesl_session_meaning.specs.Response.{Reply, fault_reply}
use Rattle.nesl_session_meaning.specs.Finding.{Finding, unread, reset, part, FindsReading}
use Rattle.nesl_session_meaning.specs.Step.{Step, reply_of, after, is_reset, is_full, is_part, longest, most_recorded, recorded_by_reset}
use Rattle.nesl_session_meaning.specs.Step.{reset_too_often, resets, transcript_full, one_part, is_read}
use Rattle.nesl_session_meaning.specs.Worked.{IsAnswered}
use Rattle.nesl_session_meaning.proofs.Replayed.{step_of}

pub step_reset : (limits : Limits) (s : State) (line : List ℕ) → is_reset line ≡ true → nat_lt most_recorded (recorded_by_reset s) ≡ false → Step limits s line (reply_of s reset) (after line s reset)
step_reset limits s line e f = step_of limits s line reset (resets e (ltb-false most_recorded (recorded_by_reset s) f))

pub step_reset_refused : (limits : Limits) (s : State) (line : List ℕ) → is_reset line ≡ true → most_recorded < recorded_by_reset s → Step limits s line (fault_reply faults.Transcript false) s
step_reset_refused limits s line e f = step_of limits s line (unread faults.Transcript) (reset_too_often e f)

pub step_full : (limits : Limits) (s : State) (line : List ℕ) → is_reset line ≡ false → is_full limits s line ≡ true → Step limits s line (fault_reply faults.Transcript false) s
step_full limits s line e f = step_of limits s line (unread faults.Transcript) (transcript_full e f)

pub step_part : (limits : Limits) (s : State) (line : List ℕ) → is_reset line ≡ false → is_full limits s line ≡ false → nat_lt longest (length s.pending + length line) ≡ false → is_part line ≡ true
    → Step limits s line (reply_of s part) (after line s part)
step_part limits s line e f g h = step_of limits s line part (one_part e f (ltb-false longest (length s.pending + length line) g) h)

pub step_reading : (limits : Limits) (s : State) (line : List ℕ) (m : Reading) (f : Finding) → is_reset line ≡ false → is_full limits s line ≡ false → nat_lt longest (length s.pending + length line) ≡ false → is_part line ≡ false
    → HasReading (s.pending ++ line) m → FindsReading limits s m f → Step limits s line (reply_of s f) (after line s f)
step_reading limits s line m f a b c d h k = step_of limits s line f (is_read a b (ltb-false longest (length s.pending + length line) c) d h k)

-- one line of a fresh session
pub answered_so : (limits : Limits) (line text : List ℕ) (left : ℕ) (reply : Reply) (s : State) → Step limits (empty limits) line reply s → reply.bytes ≡ text ++ codes "\n" → s.work_left ≡ left → IsAnswered limits line text left
answered_so limits line text left reply s step b w = (reply ∷ [], s, (s, step, refl), (λ i. b i ∷ []), w)

-- the tokens of a line, as they are computed
tokens_of : ReadingComputes → (line : List ℕ) → (reading_of line).ending ≡ whole → HasTokens line (reading_of line).tokens
tokens_of computes line e = let P : Ending → Type 0 = λ x. Reads 0 line (reading_of line).tokens x in subst P e (computes line)

-- a line whose tokens are computed, and their tree
pub formed : ReadingComputes → FormComputes → (line : List ℕ) (l : FormTree) → (reading_of line).ending ≡ whole → form_in (reading_of line).tokens ≡ Some l → form_height l ≤ 100 → HasReading line (form l)
formed reads forms line l e f low = has_form (tokens_of reads line e) ((forms (reading_of line).tokens l).0 f) low

-- or that they have none
pub unformed : ReadingComputes → FormComputes → (line : List ℕ) → (reading_of line).ending ≡ whole → form_in (reading_of line).tokens ≡ None → HasReading line no_form
unformed reads forms line e f = has_no_form (tokens_of reads line e) (λ l h. let no' : None ≡ Some l = sym f ∙ (forms (reading_of line).tokens l).1 h in cc)

-- or that there are none
pub unread_at : ReadingComputes → (line : List ℕ) (at : ℕ) → (reading_of line).ending ≡ stuck_at at → HasReading line (no_token at)
unread_at reads line at e = let P : Ending → Type 0 = λ x. Reads 0 line (reading_of line).tokens x in has_no_token ((reading_of line).tokens, subst P e (reads line))
