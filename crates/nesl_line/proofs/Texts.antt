-- The lines of a text whose bytes are known.
use Rattle.std.proofs.Common.{◌≡◌, ℕ, List, [], ◌++◌, Bool, true, false, Option, Some, None, map, refl, sym, ap, ◌∙◌, subst, append-nil, append_assoc}
use Rattle.std.specs.Io.KnownBytes.{Consumes, Appends, IsAtEnd}
use Rattle.std.proofs.lemmas.List.{map-append}
use Rattle.nesl_house.specs.Runs.{Account}
use Rattle.nesl_line.specs.declared.exchange.End.{End}
use Rattle.nesl_line.specs.declared.exchange.End.TheVariants.{Input, ReadFault, WriteFault, NoMemory}
use Rattle.nesl_line.specs.Lines.{handed, AllLines, WholeLines}
use Rattle.nesl_line.specs.Exchange.{AreFirst, Exchanged, Ended, by_their_feeds, by_the_end, text_of}
use Rattle.nesl_line.specs.Batch.{AnswersAll, AnswersFirst, IsBatch}
use Rattle.nesl_line.proofs.Bytes.{last_line, splits_none, splits_on}
use Rattle.nesl_line.proofs.Exchanges.{streams_of}

-- a text of which so much was read
pub read_first : (text read : List ℕ) (left : Option (List ℕ)) → Consumes (Some text) left read → (rest : List ℕ) × (left ≡ Some rest) × (text ≡ read ++ rest)
read_first text read None c = absurd c
read_first text read (Some rest) c = (rest, refl, c)

nothing_left : (read rest : List ℕ) → rest ≡ [] → read ≡ read ++ rest
nothing_left read rest e = sym (append-nil read) ∙ ap (λ x. read ++ x) (sym e)

-- the lines whose LF came are the first ones, whatever follows
feeds_first : (read rest : List ℕ) (lines : List (List ℕ)) → WholeLines read lines → (more : List (List ℕ)) × AllLines (read ++ rest) (lines ++ more)
feeds_first read rest lines w =
    let s = splits_on read rest w.whole w.rest w.splits in
    let tail = last_line s.1 in (
      map handed s.0 ++ tail,
      record {
        whole = w.whole ++ s.0;
        rest = s.1;
        splits = s.2;
        are =
            ap (λ x. x ++ (map handed s.0 ++ tail)) w.are ∙ sym (append_assoc (map handed w.whole) (map handed s.0) tail) ∙ ap (λ x. x ++ tail) (sym (map-append handed w.whole s.0));
      },
    )

-- so are those that have come
come_first : (read rest : List ℕ) (lines : List (List ℕ)) → AreFirst read (Some rest) lines → (more : List (List ℕ)) × AllLines (read ++ rest) (lines ++ more)
come_first read rest lines (by_their_feeds more whole) =
    let h = feeds_first read rest (lines ++ more) whole in
    let P : List (List ℕ) → Type 0 = λ x. AllLines (read ++ rest) x in
    (more ++ h.0, subst P (append_assoc lines more h.0) h.1)
come_first read rest lines (by_the_end more none all) = let P : List ℕ → Type 0 = λ x. AllLines x (lines ++ more) in (more, subst P (nothing_left read rest none) all)

-- and all lines, where nothing is left
all_first : (read rest : List ℕ) (lines : List (List ℕ)) → rest ≡ [] → AllLines read lines → (more : List (List ℕ)) × AllLines (read ++ rest) (lines ++ more)
all_first read rest lines none all =
    let P : List ℕ → Type 0 = λ x. AllLines x lines in
    let Q : List (List ℕ) → Type 0 = λ x. AllLines (read ++ rest) x in
    ([], subst Q (sym (append-nil lines)) (subst P (nothing_left read rest none) all))

-- the lines that were heard are the first ones, however the exchange ended
pub heard_first : (end : End) (over : Bool) (rest : List ℕ) (passed : Exchanged) → Ended end over (Some rest) passed → (more : List (List ℕ)) × AllLines (passed.read ++ rest) (passed.lines ++ more)
heard_first Input true rest passed e = come_first passed.read rest passed.lines e.0
heard_first Input false rest passed e = all_first passed.read rest passed.lines e.0 e.1
heard_first ReadFault over rest passed e = feeds_first passed.read rest passed.lines e.0
heard_first WriteFault over rest passed e = come_first passed.read rest passed.lines e.0
heard_first NoMemory over rest passed e =
    let P : List ℕ → Type 0 = λ x. WholeLines x passed.lines in
    let Q : List (List ℕ) → Type 0 = λ x. WholeLines [] x in
    feeds_first passed.read rest passed.lines (subst P (sym e.0) (subst Q (sym e.1) (record { whole = []; rest = []; splits = splits_none; are = refl })))

module _ (house house' : List Account) (text : List ℕ) (count : ℕ) (left left' held held' : Option (List ℕ)) (known : left ≡ Some text) where
  -- however a batch ends, the house has answered the first lines
  pub batch_first : (end : End) → IsBatch house house' end count (streams_of left left' held held') → AnswersFirst house text house'
  batch_first end b =
      let passed = b.passed in
      let C : Option (List ℕ) → Type 0 = λ x. Consumes x left' passed.read in
      let r = read_first text passed.read left' (subst C known b.consumed) in
      let E : Option (List ℕ) → Type 0 = λ x. Ended end false x passed in
      let f = heard_first end false r.0 passed (subst E r.1 b.ended) in
      let P : List ℕ → Type 0 = λ x. AllLines x (passed.lines ++ f.0) in
      record { lines = passed.lines; more = f.0; texts = passed.texts; all = subst P (sym r.2) f.1; answered = b.heard }

  -- a batch that read to the end of input has answered all, and its answers were written
  pub batch_all : (end : End) (replies : List ℕ) → end ≡ Input → held ≡ Some [] → held' ≡ Some replies → IsBatch house house' end count (streams_of left left' held held') → AnswersAll house text replies house'
  batch_all end replies ends none some b =
      let passed = b.passed in
      let C : Option (List ℕ) → Type 0 = λ x. Consumes x left' passed.read in
      let r = read_first text passed.read left' (subst C known b.consumed) in
      let E : End → Type 0 = λ x. Ended x false left' passed in
      let whole : IsAtEnd left' × AllLines passed.read passed.lines × (passed.written ≡ text_of passed.texts) = subst E ends b.ended in
      let Q : Option (List ℕ) → Type 0 = IsAtEnd in
      let at_end : r.0 ≡ [] = subst Q r.1 whole.0 in
      let P : List ℕ → Type 0 = λ x. AllLines x passed.lines in
      let A : Option (List ℕ) → Type 0 = λ x. Appends x held' passed.written in
      let B : Option (List ℕ) → Type 0 = λ x. Appends (Some []) x passed.written in
      let put : replies ≡ passed.written = subst B some (subst A none b.appended) in
      record { lines = passed.lines; texts = passed.texts; all = subst P (nothing_left passed.read r.0 at_end ∙ sym r.2) whole.1; answered = b.heard; joined = put ∙ whole.2 }
