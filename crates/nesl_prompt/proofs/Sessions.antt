-- A prompt without own words is its session.
use Rattle.std.proofs.Common.{◌≡◌, ℕ, List, [], ◌∷◌, ◌++◌, true, false, refl, sym, ap, ◌∙◌, append_assoc}
use Rattle.nesl_session_meaning.specs.State.{Log}
use Rattle.nesl_session_meaning.specs.Response.{Reply, no_memory}
use Rattle.nesl_session_meaning.specs.Solo.{Responds}
use Rattle.nesl_line.specs.Exchange.{text_of}
use Rattle.nesl_prompt.specs.Points.{Point, LineAndReply, joined}
use Rattle.nesl_prompt.specs.Words.{is_own}
use Rattle.nesl_prompt.specs.Conversation.{IsReplyText, TakesLine, gathers, answers, runs_out, Turn, own, waits, takes}
use Rattle.nesl_prompt.specs.Laws.{IsTheSessions, PromptsAreSessions, replies_of}
use Rattle.nesl_prompt.proofs.Conversations.{replied_then, written_whole}

replies-append : (xs ys : List LineAndReply) → replies_of (xs ++ ys) ≡ replies_of xs ++ replies_of ys
replies-append [] ys = refl
replies-append (x ∷ xs) ys = ap (λ r. x.reply.bytes ++ r) (replies-append xs ys) ∙ sym (append_assoc x.reply.bytes (replies_of xs) (replies_of ys))

nothing_given : (log log' : Log) (text : List ℕ) → log' ≡ log → text ≡ [] → IsTheSessions log text log'
nothing_given log log' text e t = record { said = []; replied = e; replies = t }

one_given : (log log' : Log) (line text : List ℕ) (reply : Reply) → Responds log line reply log' → IsReplyText true reply text → IsTheSessions log text log'
one_given log log' line text reply r t = record {
  said = record { line = line; reply = reply } ∷ [];
  replied = (log', r, refl);
  replies = written_whole reply.bytes t.more text t.written ∙ ap (λ m. reply.bytes ++ m) (t.below.alone refl);
}

takes_session : (point point' : Point) (line text : List ℕ) → TakesLine true point line text point' → IsTheSessions point.log text point'.log
takes_session point point' line text (gathers g f l p) = nothing_given point.log point'.log text l (p refl)
takes_session point point' line text (answers reply ends r f t) = one_given point.log point'.log (joined point.form line) text reply r t
takes_session point point' line text (runs_out f l t) = one_given point.log point'.log (joined point.form line) text no_memory (refl, l) t

turn_session : (point point' : Point) (line text : List ℕ) → is_own line ≡ false → Turn true point line text point' → IsTheSessions point.log text point'.log
turn_session point point' line text no' (own f is o f') = absurd (cc)
turn_session point point' line text no' (waits f b f' l p) = nothing_given point.log point'.log text l (p refl)
turn_session point point' line text no' (takes o t) = takes_session point point' line text t

pub prompts_are_sessions : PromptsAreSessions
prompts_are_sessions point point' [] [] c o = record { said = []; replied = ap (λ p. p.log) c; replies = refl }
prompts_are_sessions point point' [] (t ∷ ts) c o = absurd c
prompts_are_sessions point point' (l ∷ ls) [] c o = absurd c
prompts_are_sessions point point' (l ∷ ls) (t ∷ ts) c o =
    let first = turn_session point c.0 l t o.0 c.1 in
    let more = prompts_are_sessions c.0 point' ls ts c.2 o.1 in
    record {
      said = first.said ++ more.said;
      replied = replied_then point.log c.0.log point'.log first.said more.said first.replied more.replied;
      replies = ap (λ x. x ++ text_of ts) first.replies ∙ ap (λ x. replies_of first.said ++ x) more.replies ∙ sym (replies-append first.said more.said);
    }
