-- Lines are heard and replied to.
use Rattle.std.proofs.Common.{◌≡◌, ℕ, ◌+◌, ◌<◌, List, [], ◌∷◌, ◌++◌, Bool, true, false, Option, length, refl, sym, ap, ◌∙◌, subst, arith, append-nil, append_assoc, length-append, map, cond, take}
use Rattle.std.proofs.Math.Dec.{eqb-suc-zero}
use Rattle.std.specs.Bool.{MatchBool}
use Rattle.std.proofs.lemmas.List.{map-append, length-map, length-take}
use Rattle.std.proofs.lemmas.Grind.{flat_map-append}
use Rattle.std.specs.Io.KnownBytes.{Appends}
use Rattle.nesl_line.specs.Lines.{HasNoFeed, handed, most_handed, AllLines, Splits, WholeLines}
use Rattle.nesl_line.specs.Exchange.{Hearing, text_of, WrittenInPart}
use Rattle.nesl_line.specs.declared.line.Line.{Line}
use Rattle.nesl_line.specs.Steps.{Sent, Answered, HasFront, Progress, Ceased, Finished, WrittenWhole}
use Rattle.nesl_line.proofs.Bytes.{last_line, splits_more, splits_feed, splits_on, appends_then}

pub text_of-push : (texts : List (List ℕ)) (text : List ℕ) → text_of (texts ++ text ∷ []) ≡ text_of texts ++ text
text_of-push texts text = flat_map-append (λ x. x) texts (text ∷ []) ∙ ap (λ x. text_of texts ++ x) (append-nil text)

-- what was sent well was sent whole
sent_whole : (a b c : Option (List ℕ)) (texts : List (List ℕ)) (text : List ℕ) → Appends a b (text_of texts) → Sent b c text true → Appends a c (text_of (texts ++ text ∷ []))
sent_whole a b c texts text before s =
    let full : s.front ≡ text = sym (append-nil s.front) ∙ ap (λ w. s.front ++ w) (sym (s.all refl)) ∙ sym s.split in
    let P : List ℕ → Type 0 = λ x. Appends b c x in
    let Q : List ℕ → Type 0 = λ x. Appends a c x in
    subst Q (sym (text_of-push texts text)) (appends_then a b c (text_of texts) text before (subst P full s.appended))

-- what was not was sent in part
sent_part : (texts : List (List ℕ)) (held held' : Option (List ℕ)) (text : List ℕ) (well : Bool) → (s : Sent held held' text well) → WrittenInPart (texts ++ text ∷ []) (text_of texts ++ s.front)
sent_part texts held held' text well s = record { before = texts; front = s.front; lost = s.lost; all = ap (λ x. texts ++ x ∷ []) s.split; sent = refl }

pub went_on : (A B : Type 0) (b : Bool) → MatchBool b A B → b ≡ true → A
went_on A B true m e = m
went_on A B false m e = absurd (cc)

pub went_off : (A B : Type 0) (b : Bool) → MatchBool b A B → b ≡ false → B
went_off A B true m e = absurd (cc)
went_off A B false m e = m

-- more bytes of a line come
pub progress_more : (Heard : Hearing) (read more : List ℕ) (line line' : Line) (held held' : Option (List ℕ)) (n : ℕ) → Progress Heard read line held held' n → HasNoFeed more → ((raw : List ℕ) → HasFront line raw → HasFront line' (raw ++ more))
    → Progress Heard (read ++ more) line' held held' n
progress_more Heard read more line line' held held' n p none h = record {
  whole = p.whole;
  raw = p.raw ++ more;
  texts = p.texts;
  splits = splits_more read p.whole p.raw more p.splits none;
  holds = h p.raw p.holds;
  heard = p.heard;
  appended = p.appended;
  counted = p.counted;
}

handed_push : (whole : List (List ℕ)) (raw : List ℕ) → map handed (whole ++ raw ∷ []) ≡ map handed whole ++ handed raw ∷ []
handed_push whole raw = map-append handed whole (raw ∷ [])

-- the lines that were heard, and one more whose LF came
module _ (Before After : Hearing) (read bytes : List ℕ) (line line' : Line) (held held' held'' : Option (List ℕ)) (n : ℕ) where
  heard_push : (well : Bool) (p : Progress Before read line held held' n) → bytes ≡ handed p.raw → (a : Answered Before After bytes held' held'' well) → After (map handed (p.whole ++ p.raw ∷ [])) (p.texts ++ a.text ∷ [])
  heard_push well p same a =
      let P : List (List ℕ) → Type 0 = λ x. After x (p.texts ++ a.text ∷ []) in
      subst P (ap (λ x. map handed p.whole ++ x ∷ []) same ∙ sym (handed_push p.whole p.raw)) (a.heard (map handed p.whole) p.texts p.heard)

  progress_line : Progress Before read line held held' n → ((raw : List ℕ) → HasFront line raw → bytes ≡ handed raw) → Answered Before After bytes held' held'' true → HasFront line' [] → Progress After (read ++ 10 ∷ []) line' held held'' (n + 1)
  progress_line p h a e = record {
    whole = p.whole ++ p.raw ∷ [];
    raw = [];
    texts = p.texts ++ a.text ∷ [];
    splits = splits_feed read p.whole p.raw p.splits;
    holds = e;
    heard = heard_push true p (h p.raw p.holds) a;
    appended = sent_whole held held' held'' p.texts a.text p.appended a.sent;
    counted = omega (arith, p.counted, length-append p.whole (p.raw ∷ []));
  }

  stopped_line : (tail : List ℕ) → Progress Before read line held held' n → ((raw : List ℕ) → HasFront line raw → bytes ≡ handed raw) → Answered Before After bytes held' held'' false → Ceased WholeLines WrittenInPart After (read ++ 10 ∷ tail) held held'' (n + 1)
  stopped_line tail p h a =
      let rest = splits_on (read ++ 10 ∷ []) tail (p.whole ++ p.raw ∷ []) [] (splits_feed read p.whole p.raw p.splits) in
      let S : List ℕ → Type 0 = λ x. Splits x ((p.whole ++ p.raw ∷ []) ++ rest.0) rest.1 in
      record {
        lines = map handed (p.whole ++ p.raw ∷ []);
        more = map handed rest.0;
        texts = p.texts ++ a.text ∷ [];
        written = text_of p.texts ++ a.sent.front;
        heard = heard_push false p (h p.raw p.holds) a;
        are = record { whole = (p.whole ++ p.raw ∷ []) ++ rest.0; rest = rest.1; splits = subst S (append_assoc read (10 ∷ []) tail) rest.2; are = sym (map-append handed (p.whole ++ p.raw ∷ []) rest.0) };
        put = sent_part p.texts held' held'' a.text false a.sent;
        appended = appends_then held held' held'' (text_of p.texts) a.sent.front p.appended a.sent.appended;
        counted = omega (arith, p.counted, length-append p.whole (p.raw ∷ []), length-map (p.whole ++ p.raw ∷ []) handed);
      }

  pub line_ended : (well : Bool) → Progress Before read line held held' n → ((raw : List ℕ) → HasFront line raw → bytes ≡ handed raw) → Answered Before After bytes held' held'' well → HasFront line' []
      → MatchBool well (Progress After (read ++ 10 ∷ []) line' held held'' (n + 1)) ((tail : List ℕ) → Ceased WholeLines WrittenInPart After (read ++ 10 ∷ tail) held held'' (n + 1))
  line_ended true p h a e = progress_line p h a e
  line_ended false p h a e = λ tail. stopped_line tail p h a

-- nothing more is heard, whatever else has come
pub halted : (Heard : Hearing) (read tail : List ℕ) (line : Line) (held held' : Option (List ℕ)) (n : ℕ) → Progress Heard read line held held' n → Ceased WholeLines WrittenWhole Heard (read ++ tail) held held' n
halted Heard read tail line held held' n p =
    let rest = splits_on read tail p.whole p.raw p.splits in
    record {
      lines = map handed p.whole;
      more = map handed rest.0;
      texts = p.texts;
      written = text_of p.texts;
      heard = p.heard;
      are = record { whole = p.whole ++ rest.0; rest = rest.1; splits = rest.2; are = sym (map-append handed p.whole rest.0) };
      put = refl;
      appended = p.appended;
      counted = p.counted ∙ sym (length-map p.whole handed);
    }

last_line_none : (raw : List ℕ) → take most_handed raw ≡ [] → last_line raw ≡ []
last_line_none [] e = refl
last_line_none (b ∷ bs) e = absurd (omega (arith, ap length e, length-take most_handed (b ∷ bs)))

last_line_some : (raw : List ℕ) → 0 < length raw → last_line raw ≡ take most_handed raw ∷ []
last_line_some [] h = absurd (omega (arith, h))
last_line_some (b ∷ bs) h = ap (λ t. cond t [] (take most_handed (b ∷ bs) ∷ [])) (eqb-suc-zero (length bs))

-- nothing is left at the end of input
pub finished_before : (Heard : Hearing) (read : List ℕ) (line : Line) (held held' : Option (List ℕ)) (n : ℕ) → Progress Heard read line held held' n → line.bytes.items ≡ [] → Finished Heard read held held' n
finished_before Heard read line held held' n p e = record {
  lines = map handed p.whole;
  texts = p.texts;
  heard = p.heard;
  are = record { whole = p.whole; rest = p.raw; splits = p.splits; are = sym (append-nil (map handed p.whole)) ∙ ap (λ x. map handed p.whole ++ x) (sym (last_line_none p.raw (sym p.holds.0 ∙ e))) };
  appended = p.appended;
  counted = p.counted ∙ sym (length-map p.whole handed);
}

-- what is left at the end of input is a line, and is answered
module _ (Before After : Hearing) (read bytes : List ℕ) (line : Line) (held held' held'' : Option (List ℕ)) (n : ℕ) (p : Progress Before read line held held' n) (b : bytes ≡ line.bytes.items) (some : 0 < length bytes) where
  last_is : map handed p.whole ++ bytes ∷ [] ≡ map handed p.whole ++ last_line p.raw
  last_is =
      let same : bytes ≡ take most_handed p.raw = b ∙ p.holds.0 in
      let raw_some : 0 < length p.raw = omega (arith, some, ap length same, length-take most_handed p.raw) in
      ap (λ x. map handed p.whole ++ x ∷ []) same ∙ ap (λ x. map handed p.whole ++ x) (sym (last_line_some p.raw raw_some))

  last_counted : n + 1 ≡ length (map handed p.whole ++ bytes ∷ [])
  last_counted = omega (arith, p.counted, length-map p.whole handed, length-append (map handed p.whole) (bytes ∷ []))

  pub last_answered : (well : Bool) → Answered Before After bytes held' held'' well → MatchBool well (Finished After read held held'' (n + 1)) (Ceased AllLines WrittenInPart After read held held'' (n + 1))
  last_answered true a = record {
    lines = map handed p.whole ++ bytes ∷ [];
    texts = p.texts ++ a.text ∷ [];
    heard = a.heard (map handed p.whole) p.texts p.heard;
    are = record { whole = p.whole; rest = p.raw; splits = p.splits; are = last_is };
    appended = sent_whole held held' held'' p.texts a.text p.appended a.sent;
    counted = last_counted;
  }
  last_answered false a = record {
    lines = map handed p.whole ++ bytes ∷ [];
    more = [];
    texts = p.texts ++ a.text ∷ [];
    written = text_of p.texts ++ a.sent.front;
    heard = a.heard (map handed p.whole) p.texts p.heard;
    are = record { whole = p.whole; rest = p.raw; splits = p.splits; are = append-nil _ ∙ last_is };
    put = sent_part p.texts held' held'' a.text false a.sent;
    appended = appends_then held held' held'' (text_of p.texts) a.sent.front p.appended a.sent.appended;
    counted = last_counted;
  }
