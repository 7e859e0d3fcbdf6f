-- One user is seated, and speaks.
use Rattle.std.proofs.Common.{◌≡◌, ◌≢◌, ℕ, ◌+◌, List, [], ◌∷◌, ◌++◌, Bool, true, false, not, cond, Option, Some, None, refl, sym, ap, ◌∙◌, subst, arith, map, append-nil}
use Rattle.std.specs.Prelude.{filter, sum_by}
use Rattle.std.specs.Bool.{MatchBool}
use Rattle.std.specs.List.{AllByRecursion}
use Rattle.std.specs.Str.{bytes_eq}
use Rattle.std.proofs.lemmas.Slice.Eq.{bytes_eq-Decides}
use Rattle.std.proofs.lemmas.List.{map-append}
use Rattle.std.proofs.lemmas.List.Sums.{sum_by_push}
use Rattle.nesl_session_meaning.specs.declared.limits.Limits.{Limits}
use Rattle.nesl_session_meaning.specs.State.{State, Log, recorded_lines}
use Rattle.nesl_session_meaning.specs.Response.{Reply, no_memory, is_memory}
use Rattle.nesl_session_meaning.specs.Solo.{Replays, SessionAnswers, Responds}
use Rattle.nesl_session_meaning.specs.Laws.{GoesOn, RecordedLinesGrow}
use Rattle.nesl_house.specs.declared.lease.Receipt.{Receipt}
use Rattle.nesl_house.specs.Register.{Leased, Register}
use Rattle.nesl_house.specs.Roster.{place_of}
use Rattle.nesl_house.specs.Script.{Event, lines_of, replies_of, kept_events}
use Rattle.nesl_house.proofs.Alones.{kept-append}
use Rattle.nesl_line.specs.declared.exchange.End.{End}
use Rattle.nesl_line.specs.declared.guest.Stage.{Stage}
use Rattle.nesl_line.specs.declared.guest.Stage.TheVariants.{Waiting, Seated, Lost, Over}
use Rattle.nesl_line.specs.declared.hearer.Told.{Told}
use Rattle.nesl_line.specs.declared.hearer.Told.TheVariants.{By}
use Rattle.nesl_line.specs.Told.{text_told}
use Rattle.nesl_line.specs.declared.serve.Served.{Served}
use Rattle.nesl_line.specs.Lines.{with_feed}
use Rattle.nesl_line.specs.Conversation.{IsUserLine}
use Rattle.nesl_line.specs.Exchange.{Hearing, Streams, IsExchange}
use Rattle.nesl_line.specs.Guest.{NamesPlace, Visits, IsHeard, silence, seated}
use Rattle.nesl_line.specs.Keeping as keeping
use Rattle.nesl_line.specs.Keeping.{KeptSince, LosesLine, IsHeardAndKept}
use Rattle.nesl_line.specs.Hinted.{WithHints, json_front}
use Rattle.nesl_line.specs.Serve.{IsHeardWithHints, IsServed}
use Rattle.nesl_line.specs.Visiting.{IsSeated, HasLost, HeardAt, is_over, SessionAnswersLine, HasReceipt, Attends}
use Rattle.nesl_line.proofs.Exchanges.{heard_as}
use Rattle.nesl_line.proofs.Hints.{hints_as}

-- the number of these that are replies to recorded lines
abbrev recorded_among : List Reply → ℕ
recorded_among replies = sum_by (λ reply. cond reply.recorded 1 0) replies

-- a user is seated, whose session was taken up
pub seated_first : {K : Type 0} (keeps : K → Log → Type 0) (leaves : K → K → Log → Log → Type 0) (has_failed : K → Type 0) (start now : K) (roster : List (List ℕ)) (limits : Limits) (lease : Leased) (line user : List ℕ)
    → IsUserLine line user → place_of roster user ≡ Some lease.seat.place → lease.seat.session.limits ≡ limits → lease.counted ≡ recorded_lines lease.seat.session → (s : State) × Replays lease.seat.session s
    → keeps now lease.seat.session → leaves start now lease.seat.session lease.seat.session
    → IsSeated keeps leaves has_failed start now roster limits lease (line ∷ []) (with_feed line ∷ [])
seated_first keeps leaves has_failed start now roster limits lease line user u p l c r k left = (
  lease.seat.session,
  0,
  c,
  record {
    first = line;
    script = [];
    names = record { user = user; named = u; stands = p };
    came = refl;
    told = refl;
    own = tt;
    memory = tt;
    limits_are = l;
    alone = record { before = r.0; after = r.0; starts = r.1; run = refl; ends = r.1; limits = refl };
    recorded_are = refl;
    grown = omega arith;
  },
  record { found = now; same = left; along = keeping.kept k },
)

-- what holds of all and of one more
all_push : {X : Type 0} (P : X → Type 0) (xs : List X) (x : X) → AllByRecursion P xs → P x → AllByRecursion P (xs ++ x ∷ [])
all_push P [] x a p = (p, tt)
all_push P (y ∷ ys) x a p = (a.0, all_push P ys x a.1 p)

told_memory : (memory : Bool) (reply : Reply) (old new : Log) (P : Type 0) → MatchBool memory ((reply ≡ no_memory) × (new ≡ old)) P → memory ≡ true → reply ≡ no_memory
told_memory true reply old new P a h = a.0
told_memory false reply old new P a h = absurd (cc)

-- one line is kept, unless it was refused because memory ran out
kept_one : (e : Event) (memory : Bool) → is_memory e.reply ≡ memory → kept_events e.user (e ∷ []) ≡ cond (not memory) (e ∷ []) []
kept_one e memory m =
    ap (λ b. filter (λ (x : Event). not (is_memory x.reply)) (cond b (e ∷ []) [])) ((bytes_eq-Decides e.user e.user).1 refl) ∙ ap (λ b. cond (not b) (e ∷ []) []) m

-- the session goes on alone
alone_push : GoesOn → (had log log' : Log) (es : List Event) (e : Event) (memory : Bool) → SessionAnswers had (lines_of es) (replies_of es) log → MatchBool memory ((e.reply ≡ no_memory) × (log' ≡ log)) (SessionAnswers log (e.line ∷ []) (e.reply ∷ []) log')
    → SessionAnswers had (lines_of (es ++ cond (not memory) (e ∷ []) [])) (replies_of (es ++ cond (not memory) (e ∷ []) [])) log'
alone_push goes_on had log log' es e true a r =
    let P : List Event → Type 0 = λ x. SessionAnswers had (lines_of x) (replies_of x) log' in
    let Q : Log → Type 0 = λ x. SessionAnswers had (lines_of es) (replies_of es) x in
    subst P (sym (append-nil es)) (subst Q (sym r.1) a)
alone_push goes_on had log log' es e false a r =
    let both = goes_on had log log' (lines_of es) (e.line ∷ []) (replies_of es) (e.reply ∷ []) a r in
    let P : List (List ℕ) → Type 0 = λ x. SessionAnswers had x (replies_of es ++ e.reply ∷ []) log' in
    let Q : List Reply → Type 0 = λ x. SessionAnswers had (lines_of (es ++ e ∷ [])) x log' in
    subst Q (sym (map-append (λ (x : Event). x.reply) es (e ∷ []))) (subst P (sym (map-append (λ (x : Event). x.line) es (e ∷ []))) both)

module _ {K : Type 0} (keeps : K → Log → Type 0) (leaves : K → K → Log → Log → Type 0) (has_failed : K → Type 0) (start mid now : K) (roster : List (List ℕ)) (limits : Limits) (lease : Leased) (after : Leased × Reply) (lines texts : List (List ℕ)) (line : List ℕ) where
  -- the user says one more line, and it is kept
  pub seated_more : GoesOn → RecordedLinesGrow → IsSeated keeps leaves has_failed start mid roster limits lease lines texts → SessionAnswersLine lease line after → leaves mid now lease.seat.session after.0.seat.session → keeps now after.0.seat.session
      → IsSeated keeps leaves has_failed start now roster limits after.0 (lines ++ line ∷ []) (texts ++ after.1.bytes ∷ [])
  seated_more goes_on grow s a left k =
      let log = lease.seat.session in
      let log' = after.0.seat.session in
      let reply = after.1 in
      let r = a.answers in
      let had = s.0 in
      let recorded = s.1 in
      let v = s.3 in
      let since = s.4 in
      let user = v.names.user in
      let e : Event = record { user = user; line = line; reply = reply } in
      let es = v.script in
      let Bytes : List Reply → List (List ℕ) = λ x. map (λ (a : Reply). a.bytes) x in
      let replies : replies_of (es ++ e ∷ []) ≡ replies_of es ++ reply ∷ [] = map-append (λ (x : Event). x.reply) es (e ∷ []) in
      let said : lines_of (es ++ e ∷ []) ≡ lines_of es ++ line ∷ [] = map-append (λ (x : Event). x.line) es (e ∷ []) in
      let told : Bytes (replies_of (es ++ e ∷ [])) ≡ Bytes (replies_of es) ++ reply.bytes ∷ [] = ap Bytes replies ∙ map-append (λ (a : Reply). a.bytes) (replies_of es) (reply ∷ []) in
      let counts : recorded_among (replies_of (es ++ e ∷ [])) ≡ recorded_among (replies_of es) + cond reply.recorded 1 0 = ap recorded_among replies ∙ sum_by_push (λ (a : Reply). cond a.recorded 1 0) (replies_of es) reply in
      let one : kept_events user (es ++ e ∷ []) ≡ kept_events user es ++ cond (not (is_memory reply)) (e ∷ []) [] = kept-append user es (e ∷ []) ∙ ap (λ x. kept_events user es ++ x) (kept_one e (is_memory reply) refl) in
      let P : List Event → Type 0 = λ x. SessionAnswers had (lines_of x) (replies_of x) log' in
      let V : ℕ → Type 0 = λ p. (w : Visits roster limits p (recorded + cond reply.recorded 1 0) had log' (lines ++ line ∷ []) (texts ++ reply.bytes ∷ [])) × KeptSince keeps leaves start now had w.script log' in
      let both : V after.0.seat.place = subst V (sym a.place) (
        record {
          first = v.first;
          script = es ++ e ∷ [];
          names = v.names;
          came = ap (λ x. x ++ line ∷ []) v.came ∙ ap (λ x. v.first ∷ x) (sym said);
          told = ap (λ x. x ++ reply.bytes ∷ []) v.told ∙ ap (λ x. with_feed v.first ∷ x) (sym told);
          own = all_push (λ (x : Event). x.user ≡ user) es e v.own refl;
          memory = all_push (λ (x : Event). is_memory x.reply ≡ true → x.reply ≡ no_memory) es e v.memory (told_memory (is_memory reply) reply log log' _ r);
          limits_are = v.limits_are;
          alone = subst P (sym one) (alone_push goes_on had log log' (kept_events user es) e (is_memory reply) v.alone r);
          recorded_are = ap (λ n. n + cond reply.recorded 1 0) v.recorded_are ∙ sym counts;
          grown = omega (arith, grow log log' line reply r, v.grown);
        },
        record { found = since.found; same = since.same; along = keeping.one_more es e mid now log log' since.along r left k },
      ) in
      (had, recorded + cond reply.recorded 1 0, a.counted ∙ s.2, both.0, both.1)

  -- the user says one more line, and it can't be kept
  pub lost_last : IsSeated keeps leaves has_failed start mid roster limits lease lines texts → SessionAnswersLine lease line after → leaves mid now lease.seat.session after.0.seat.session → has_failed now
      → HasLost keeps leaves has_failed start now roster limits after.0 (lines ++ line ∷ []) (texts ++ [] ∷ [])
  lost_last s a left failed =
      let V : ℕ → Type 0 = λ p. (w : Visits roster limits p s.1 s.0 lease.seat.session lines texts) × LosesLine keeps leaves start now s.0 w.script line after.0.seat.session in
      let loses : LosesLine keeps leaves start now s.0 s.3.script line after.0.seat.session = record { mid = mid; is = lease.seat.session; reply = after.1; kept_before = s.4; responds = a.answers; left = left } in
      let both = subst V (sym a.place) (s.3, loses) in
      record {
        had = s.0;
        is = lease.seat.session;
        recorded = s.1;
        front = lines;
        told = texts;
        line = line;
        came = refl;
        got = refl;
        visits = both.0;
        loses = both.1;
        failed = failed;
      }

-- no line came
nothing_came : (roster : List (List ℕ)) (limits : Limits) (lines texts : List (List ℕ)) → (lines ≡ []) × (texts ≡ []) → IsHeard roster limits None false lines texts
nothing_came roster limits lines texts none =
    let P : List (List ℕ) → Type 0 = λ x. IsHeard roster limits None false x [] in
    let Q : List (List ℕ) → Type 0 = λ x. IsHeard roster limits None false lines x in
    subst Q (sym none.1) (subst P (sym none.0) silence)

module _ {K : Type 0} (keeps : K → Log → Type 0) (leaves : K → K → Log → Log → Type 0) (has_failed : K → Type 0) (start now : K) (roster : List (List ℕ)) (limits : Limits) where
  abbrev At : Stage → Hearing
  At = HeardAt keeps leaves has_failed start now roster limits

  -- an exchange of one user, at its end, where a keeper never fails
  served_by : ((k : K) → has_failed k → ⊥) → (stage : Stage) (receipt : Option Receipt) (end : End) (count : ℕ) (streams : Streams) → HasReceipt stage receipt → IsExchange (At stage) (is_over stage) end count streams
      → IsServed (IsHeard roster limits) (record { lines = count; receipt = receipt; end = end }) streams
  served_by never Waiting None end count streams g x =
      (false, heard_as (At Waiting) (IsHeard roster limits None false) false end count streams x (nothing_came roster limits x.passed.lines x.passed.texts (x.heard.0, x.heard.1)))
  served_by never Waiting (Some receipt) end count streams g x = absurd (cc)
  served_by never Over None end count streams g x = (true, x)
  served_by never Over (Some receipt) end count streams g x = absurd (cc)
  served_by never (Lost lease) None end count streams g x = absurd g
  served_by never (Lost lease) (Some receipt) end count streams g x = absurd (never now x.heard.failed)
  served_by never (Seated lease) None end count streams g x = absurd g
  served_by never (Seated lease) (Some receipt) end count streams g x =
      let had = x.heard.0 in
      let recorded = x.heard.1 in
      let lines = x.passed.lines in
      let texts = x.passed.texts in
      let same : recorded ≡ receipt.recorded = omega (arith, x.heard.2, x.heard.3.grown, g.1) in
      let P : ℕ → Type 0 = λ n. Visits roster limits lease.seat.place n had lease.seat.session lines texts in
      let Q : ℕ → Type 0 = λ n. Visits roster limits n receipt.recorded had lease.seat.session lines texts in
      (false, heard_as (At (Seated lease)) (IsHeard roster limits (Some receipt) false) false end count streams x (seated receipt had lease.seat.session lines texts (subst Q (sym g.0) (subst P same x.heard.3))))

  pub served : ((k : K) → has_failed k → ⊥) → (served : Served) (streams : Streams) → Attends keeps leaves has_failed start now roster limits served streams → IsServed (IsHeard roster limits) served streams
  served never it streams a = served_by never a.stage it.receipt it.end it.lines streams a.receipt a.exchanged

  -- the same of a keeper that may fail
  abbrev Kept : Option Receipt → Bool → Hearing
  Kept receipt over lines texts = IsHeardAndKept keeps leaves roster limits start now receipt over lines texts

  -- what was heard, by the stage of a guest, was heard and kept
  pub kept_at : (stage : Stage) (receipt : Option Receipt) (lines texts : List (List ℕ)) → HasReceipt stage receipt → At stage lines texts → Kept receipt (is_over stage) lines texts
  kept_at Waiting None lines texts g heard = keeping.nobody false lines texts (nothing_came roster limits lines texts (heard.0, heard.1))
  kept_at Waiting (Some receipt) lines texts g heard = absurd (cc)
  kept_at Over None lines texts g heard = keeping.nobody true lines texts heard
  kept_at Over (Some receipt) lines texts g heard = absurd (cc)
  kept_at (Lost lease) None lines texts g heard = absurd g
  kept_at (Lost lease) (Some receipt) lines texts g h =
      let P : ℕ → Type 0 = λ p. (w : Visits roster limits p h.recorded h.had h.is h.front h.told) × LosesLine keeps leaves start now h.had w.script h.line lease.seat.session in
      let both = subst P (sym g.0) (h.visits, h.loses) in
      let ends = keeping.lost receipt h.recorded h.had h.is lease.seat.session h.front h.told h.line both.0 both.1 in
      let L : List (List ℕ) → Type 0 = λ l. Kept (Some receipt) true l (h.told ++ [] ∷ []) in
      let T : List (List ℕ) → Type 0 = λ l. Kept (Some receipt) true lines l in
      subst T (sym h.got) (subst L (sym h.came) ends)
  kept_at (Seated lease) None lines texts g heard = absurd g
  kept_at (Seated lease) (Some receipt) lines texts g heard =
      let had = heard.0 in
      let same : heard.1 ≡ receipt.recorded = omega (arith, heard.2, heard.3.grown, g.1) in
      let P : ℕ → Type 0 = λ n. (w : Visits roster limits lease.seat.place n had lease.seat.session lines texts) × KeptSince keeps leaves start now had w.script lease.seat.session in
      let Q : ℕ → Type 0 = λ n. (w : Visits roster limits n receipt.recorded had lease.seat.session lines texts) × KeptSince keeps leaves start now had w.script lease.seat.session in
      let both = subst Q (sym g.0) (subst P same (heard.3, heard.4)) in
      keeping.seated receipt had lease.seat.session lines texts both.0 both.1

  pub served_and_kept : (served : Served) (streams : Streams) → Attends keeps leaves has_failed start now roster limits served streams → IsServed (IsHeardAndKept keeps leaves roster limits start now) served streams
  served_and_kept it streams a =
      let over = is_over a.stage in
      let x = a.exchanged in
      (over, heard_as (At a.stage) (Kept it.receipt over) over it.end it.lines streams x (kept_at a.stage it.receipt x.passed.lines x.passed.texts a.receipt x.heard))

-- what a connection did, by a guest whose table is that of the beginning
pub attended : {K : Type 0} (keeps : K → Log → Type 0) (leaves : K → K → Log → Log → Type 0) (has_failed : K → Type 0) (start now : K) (table first last : Register) (stage : Stage) (receipt : Option Receipt) (end : End) (count : ℕ) (streams : Streams)
    → first ≡ table → HasReceipt stage receipt
    → IsExchange (λ lines texts. (last ≡ first) × HeardAt keeps leaves has_failed start now first.roster first.limits stage lines texts) (is_over stage) end count streams
    → Attends keeps leaves has_failed start now table.roster table.limits (record { lines = count; receipt = receipt; end = end }) streams
attended keeps leaves has_failed start now table first last stage receipt end count streams e g x =
    let After : Register → Hearing = λ t. HeardAt keeps leaves has_failed start now t.roster t.limits stage in
    let Before : Hearing = λ lines texts. (last ≡ first) × After first lines texts in
    let P : Register → Type 0 = λ t. IsExchange (After t) (is_over stage) end count streams in
    record { stage = stage; receipt = g; exchanged = subst P e (heard_as Before (After first) (is_over stage) end count streams x x.heard.1) }

-- what a connection with hints did, by a guest whose table is that of the beginning
pub hinted : {K : Type 0} (keeps : K → Log → Type 0) (leaves : K → K → Log → Log → Type 0) (has_failed : K → Type 0) (start now : K) (table first last : Register) (stage : Stage) (served : Served) (streams : Streams)
    → first ≡ table → HasReceipt stage served.receipt
    → IsExchange (WithHints json_front (λ lines texts. (last ≡ first) × HeardAt keeps leaves has_failed start now first.roster first.limits stage lines texts)) (is_over stage) served.end served.lines streams
    → IsServed (IsHeardWithHints keeps leaves table.roster table.limits start now) served streams
hinted keeps leaves has_failed start now table first last stage it streams e g x =
    let over = is_over stage in
    let Before : Hearing = λ lines texts. (last ≡ first) × HeardAt keeps leaves has_failed start now first.roster first.limits stage lines texts in
    let Kept : Hearing = IsHeardAndKept keeps leaves first.roster first.limits start now it.receipt over in
    let h = x.heard in
    let kept = hints_as json_front Before Kept x.passed.lines x.passed.texts h (kept_at keeps leaves has_failed start now first.roster first.limits stage it.receipt x.passed.lines h.answers g h.heard.1) in
    let P : Register → Type 0 = λ t. IsServed (IsHeardWithHints keeps leaves t.roster t.limits start now) it streams in
    subst P e (over, heard_as (WithHints json_front Before) (WithHints json_front Kept) over it.end it.lines streams x kept)

-- nobody was seated, and this is the reply
pub turned_away : (roster : List (List ℕ)) (limits : Limits) (line : List ℕ) (reply told : Reply) → told ≡ reply → IsHeard roster limits None true (line ∷ []) (reply.bytes ∷ []) → IsHeard roster limits None true (line ∷ []) (told.bytes ∷ [])
turned_away roster limits line reply told e h = let P : Reply → Type 0 = λ x. IsHeard roster limits None true (line ∷ []) (x.bytes ∷ []) in subst P (sym e) h

pub names_none : (roster : List (List ℕ)) (line user : List ℕ) → IsUserLine line user → place_of roster user ≡ None → (place : ℕ) → NamesPlace roster line place → ⊥
names_none roster line user u none place n =
    let spelled = sym u.spelled ∙ n.named.spelled in
    let same : user ≡ n.user = cc in
    let no' : Some place ≡ None = sym n.stands ∙ ap (place_of roster) (sym same) ∙ none in
    absurd (cc)

pub names_place : (roster : List (List ℕ)) (line user : List ℕ) → IsUserLine line user → (place_of roster user ≡ None → ⊥) → (place : ℕ) × NamesPlace roster line place
names_place roster line user u some = there (place_of roster user) refl
  where
    there : (o : Option ℕ) → place_of roster user ≡ o → (place : ℕ) × NamesPlace roster line place
    there None e = absurd (some e)
    there (Some place) e = (place, record { user = user; named = u; stands = e })

-- nobody was seated, and this is the stage and what is told
pub heard_turned_away : {K : Type 0} (keeps : K → Log → Type 0) (leaves : K → K → Log → Log → Type 0) (has_failed : K → Type 0) (start now : K) (roster : List (List ℕ)) (limits : Limits) (line : List ℕ) (stage : Stage) (told : Told) (answer reply : Reply) → stage ≡ Over → told ≡ By answer → answer ≡ reply
    → IsHeard roster limits None true (line ∷ []) (reply.bytes ∷ []) → HeardAt keeps leaves has_failed start now roster limits stage (line ∷ []) (text_told line told ∷ [])
heard_turned_away keeps leaves has_failed start now roster limits line stage told answer reply s b e heard =
    let P : Stage → Type 0 = λ x. HeardAt keeps leaves has_failed start now roster limits x (line ∷ []) (text_told line told ∷ []) in
    let Q : Told → Type 0 = λ x. IsHeard roster limits None true (line ∷ []) (text_told line x ∷ []) in
    subst P (sym s) (subst Q (sym b) (turned_away roster limits line reply answer e heard))

-- this user line names a place
pub names_this : (roster : List (List ℕ)) (line user : List ℕ) (place : ℕ) → IsUserLine line user → place_of roster user ≡ Some place → NamesPlace roster line place
names_this roster line user place u p = record { user = user; named = u; stands = p }
