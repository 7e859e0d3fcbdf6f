-- A conversation over a text whose bytes are known.
use Rattle.std.proofs.Common.{◌≡◌, ℕ, List, [], ◌++◌, Bool, true, false, Option, Some, None, refl, sym, ap, ◌∙◌, subst, append-nil, inl, inr}
use Rattle.std.specs.Prelude.{◌⊎◌, if◌then◌else◌}
use Rattle.std.specs.Io.KnownBytes.{Consumes, Appends, IsAtEnd}
use Rattle.nesl_session_meaning.specs.State.{Log}
use Rattle.nesl_session_meaning.specs.Response.{Reply}
use Rattle.nesl_session_meaning.specs.Solo.{Responds}
use Rattle.nesl_line.specs.declared.exchange.End.{End}
use Rattle.nesl_line.specs.declared.exchange.End.TheVariants.{Input, WriteFault, NoMemory}
use Rattle.nesl_line.specs.Lines.{AllLines}
use Rattle.nesl_line.specs.Exchange.{Exchanged, Ended, text_of}
use Rattle.nesl_line.specs.Steps.{Sent}
use Rattle.nesl_line.proofs.Exchanges.{streams_of}
use Rattle.nesl_line.proofs.Texts.{read_first, heard_first}
use Rattle.nesl_prompt.specs.Points.{Point}
use Rattle.nesl_prompt.specs.Conversation.{Conversed, EndsWithQuit, Rests, silence, cut_off, last_form, IsPrompt, unheard, heard}
use Rattle.nesl_prompt.proofs.Conversations.{written_whole}
use Rattle.nesl_prompt.specs.Text.{LastForm, none_goes_on, answered, ConversesOver, ConversesFirst}

-- what was sent whole stands after what was held
sent_whole : (xs : List ℕ) (held held' : Option (List ℕ)) (bytes : List ℕ) → held ≡ Some xs → Sent held held' bytes true → held' ≡ Some (xs ++ bytes)
sent_whole xs held held' bytes e s =
    let none : s.lost ≡ [] = s.all refl in
    let front : bytes ≡ s.front = s.split ∙ ap (λ (x : List ℕ). s.front ++ x) none ∙ append-nil s.front in
    let A : Option (List ℕ) → Type 0 = λ x. Appends x held' s.front in
    by held' (subst A e s.appended) ∙ ap (λ (x : List ℕ). Some (xs ++ x)) (sym front)
  where
    by : (o : Option (List ℕ)) → Appends (Some xs) o s.front → o ≡ Some (xs ++ s.front)
    by None a = absurd a
    by (Some ys) a = ap (λ (x : List ℕ). Some x) a

-- what an exchange appends stands there likewise
appended_whole : (xs : List ℕ) (held held' : Option (List ℕ)) (bytes : List ℕ) → held ≡ Some xs → Appends held held' bytes → held' ≡ Some (xs ++ bytes)
appended_whole xs held None bytes e a = let A : Option (List ℕ) → Type 0 = λ x. Appends x None bytes in absurd (subst A e a)
appended_whole xs held (Some ys) bytes e a = let A : Option (List ℕ) → Type 0 = λ x. Appends x (Some ys) bytes in ap (λ (x : List ℕ). Some x) (subst A e a)

the_same : (xs ys : List ℕ) → Some xs ≡ Some ys → xs ≡ ys
the_same xs ys e = cc

nothing_left : (read rest : List ℕ) → rest ≡ [] → read ≡ read ++ rest
nothing_left read rest e = sym (append-nil read) ∙ ap (λ x. read ++ x) (sym e)

module _ (log log' : Log) (text : List ℕ) where
  abbrev Hears : Bool → Point → List (List ℕ) → List (List ℕ) → Type 0
  Hears over point lines texts = Conversed true (record { form = []; log = log }) lines texts point × (over ≡ true → EndsWithQuit lines)

  -- which lines were heard, where the exchange ended well
  heard_all : (over : Bool) (left' : Option (List ℕ)) (passed : Exchanged) → Consumes (Some text) left' passed.read → (over ≡ true → EndsWithQuit passed.lines) → Ended Input over left' passed
      → (more : List (List ℕ)) × AllLines text (passed.lines ++ more) × ((more ≡ []) ⊎ EndsWithQuit passed.lines) × (passed.written ≡ text_of passed.texts)
  heard_all true left' passed c q e =
      let r = read_first text passed.read left' c in
      let E : Option (List ℕ) → Type 0 = λ x. Ended Input true x passed in
      let f = heard_first Input true r.0 passed (subst E r.1 e) in
      let P : List ℕ → Type 0 = λ x. AllLines x (passed.lines ++ f.0) in
      (f.0, subst P (sym r.2) f.1, inr (q refl), e.1)
  heard_all false left' passed c q e =
      let r = read_first text passed.read left' c in
      let Q : Option (List ℕ) → Type 0 = IsAtEnd in
      let at_end : r.0 ≡ [] = subst Q r.1 e.0 in
      let P : List ℕ → Type 0 = λ x. AllLines x passed.lines in
      let L : List (List ℕ) → Type 0 = λ x. AllLines text x in
      ([], subst L (sym (append-nil passed.lines)) (subst P (nothing_left passed.read r.0 at_end ∙ sym r.2) e.1), inl refl, e.2)

  -- what was written after the last line
  rested : (end : End) (point : Point) (xs : List ℕ) (held held' : Option (List ℕ)) → end ≡ Input → held ≡ Some xs → Rests true end point log' held held' true
      → (last : List ℕ) × LastForm point last log' × (held' ≡ Some (xs ++ last))
  rested end point xs held held' ends e (silence tail f l s w p) =
      (tail, none_goes_on (f ends) (p refl) l, sent_whole xs held held' tail e s)
  rested end point xs held held' ends e (cut_off tail l s w p) = absurd (cc)
  rested end point xs held held' ends e (last_form mid tail said reply ne s p r t s') =
      let none : tail ≡ [] = p refl in
      let m : mid ≡ Some (xs ++ tail) = sent_whole xs held mid tail e s in
      let m' : mid ≡ Some xs = m ∙ ap (λ (x : List ℕ). Some (xs ++ x)) none ∙ ap (λ (x : List ℕ). Some x) (append-nil xs) in
      let plain : said ≡ reply.bytes = written_whole reply.bytes t.more said t.written ∙ ap (λ (x : List ℕ). reply.bytes ++ x) (t.below.alone refl) ∙ append-nil reply.bytes in
      (said, answered reply ne r plain, sent_whole xs mid held' said m' s')

  module _ (count : ℕ) (left left' held held' : Option (List ℕ)) (known : left ≡ Some text) where
    well_ended : (ended : End) (well : Bool) → Input ≡ (if well then ended else WriteFault) → (well ≡ true) × (ended ≡ Input)
    well_ended ended true e = (refl, sym e)
    well_ended ended false e = absurd (cc)

    -- a conversation that ended well was over all lines, or up to `:quit`
    pub converses_over : (end : End) (written : List ℕ) → end ≡ Input → held ≡ Some [] → held' ≡ Some written
        → IsPrompt true log log' end count (streams_of left left' held held') → ConversesOver log text written log'
    converses_over end written ends none some (unheard greeting e n l g s p) = let q : Input ≡ WriteFault = sym ends ∙ e in absurd (cc)
    converses_over end written ends none some (heard greeting begun sent over ended point well s p x r e) =
        let w = well_ended ended well (sym ends ∙ e) in
        let start : begun ≡ Some [] = sent_whole [] held begun greeting none s ∙ ap (λ (x : List ℕ). Some x) (p refl) in
        let C : Option (List ℕ) → Type 0 = λ o. Consumes o left' x.passed.read in
        let E : End → Type 0 = λ o. Ended o over left' x.passed in
        let h = heard_all over left' x.passed (subst C known x.consumed) x.heard.1 (subst E w.1 x.ended) in
        let held_then : sent ≡ Some x.passed.written = appended_whole [] begun sent x.passed.written start x.appended in
        let R : Bool → Type 0 = λ b. Rests true ended point log' sent held' b in
        let t = rested ended point x.passed.written sent held' w.1 held_then (subst R w.0 r) in
        record {
          lines = x.passed.lines;
          more = h.0;
          texts = x.passed.texts;
          point = point;
          last = t.0;
          all = h.1;
          to_the_end = h.2;
          conversed = x.heard.0;
          ended = t.1;
          joined = the_same written (x.passed.written ++ t.0) (sym some ∙ t.2) ∙ ap (λ (b : List ℕ). b ++ t.0) h.3;
        }

    left_by : (plain : Bool) (end : End) (point : Point) (a b : Option (List ℕ)) (well : Bool) → Rests plain end point log' a b well
        → (log' ≡ point.log) ⊎ ((reply : Reply) × Responds point.log point.form reply log')
    left_by plain end point a b well (silence tail f l s w p) = inl l
    left_by plain end point a b well (cut_off tail l s w p) = inl l
    left_by plain end point a b well (last_form mid tail said reply ne s p r t s') = inr (reply, r)

    -- however it ended, the session was given the first lines
    pub converses_first : (end : End) → IsPrompt true log log' end count (streams_of left left' held held') → ConversesFirst log text log'
    converses_first end (unheard greeting e n l g s p) =
        let f = heard_first NoMemory true text (record { read = []; lines = []; texts = []; written = [] }) (refl, refl, refl) in
        record { lines = []; more = f.0; texts = []; point = record { form = []; log = log }; all = f.1; conversed = refl; left = inl g }
    converses_first end (heard greeting begun sent over ended point well s p x r e) =
        let C : Option (List ℕ) → Type 0 = λ o. Consumes o left' x.passed.read in
        let h = read_first text x.passed.read left' (subst C known x.consumed) in
        let E : Option (List ℕ) → Type 0 = λ o. Ended ended over o x.passed in
        let f = heard_first ended over h.0 x.passed (subst E h.1 x.ended) in
        let P : List ℕ → Type 0 = λ o. AllLines o (x.passed.lines ++ f.0) in
        record {
          lines = x.passed.lines;
          more = f.0;
          texts = x.passed.texts;
          point = point;
          all = subst P (sym h.2) f.1;
          conversed = x.heard.0;
          left = left_by true ended point sent held' well r;
        }
