-- How an exchange begins, goes on and ends.
use Rattle.std.proofs.Common.{◌≡◌, ℕ, List, [], ◌++◌, Bool, true, false, Option, Some, None, map, refl, sym, ◌∙◌, subst, append-nil}
use Rattle.std.specs.Io.KnownBytes.{Consumes, Keeps, IsAtEnd}
use Rattle.std.proofs.lemmas.List.{length-map}
use Rattle.nesl_line.specs.declared.talk.Talk.{Talk}
use Rattle.nesl_line.specs.declared.exchange.End.{End}
use Rattle.nesl_line.specs.declared.exchange.End.TheVariants.{Input, ReadFault, WriteFault, NoMemory}
use Rattle.nesl_line.specs.Lines.{handed, AllLines, WholeLines}
use Rattle.nesl_line.specs.Exchange.{Hearing, Streams, Exchanged, text_of, Ended, IsExchange, by_their_feeds, by_the_end}
use Rattle.nesl_line.specs.Steps.{SoFar, IsFresh, Goes, Halts, Stops, Done}
use Rattle.nesl_line.proofs.Bytes.{consumes_none, consumes_keep, consumes_then, appends_none, splits_none}

-- what was left and held, and what is afterwards
abbrev pub streams_of : (left left_after held held_after : Option (List ℕ)) → Streams
streams_of left left_after held held_after = record { left = left; left_after = left_after; held = held; held_after = held_after }

-- another hearing that holds of what was heard
pub heard_as : (Heard Other : Hearing) (over : Bool) (end : End) (count : ℕ) (streams : Streams) → (x : IsExchange Heard over end count streams) → Other x.passed.lines x.passed.texts → IsExchange Other over end count streams
heard_as Heard Other over end count streams x other = record {
  passed = x.passed;
  consumed = x.consumed;
  appended = x.appended;
  heard = other;
  ended = x.ended;
  counted = x.counted;
}

-- nothing was read or written
pub no_memory_exchange : (left held : Option (List ℕ)) (Heard : Hearing) (over : Bool) → Heard [] [] → IsExchange Heard over NoMemory 0 (streams_of left left held held)
no_memory_exchange left held Heard over nothing_heard = record {
  passed = record { read = []; lines = []; texts = []; written = [] };
  consumed = consumes_none left;
  appended = appends_none held;
  heard = nothing_heard;
  ended = (refl, refl, refl);
  counted = refl;
}

pub begins : (left held : Option (List ℕ)) (Heard : Hearing) (talk : Talk) → Heard [] [] → IsFresh talk → SoFar left left held held Heard talk
begins left held Heard talk nothing_heard f = record {
  read = [];
  consumed = consumes_none left;
  progress = record { whole = []; raw = []; texts = []; splits = splits_none; holds = f.empty; heard = nothing_heard; appended = appends_none held; counted = f.none };
}

keeps_same : (left : Option (List ℕ)) → Keeps left left
keeps_same None = tt
keeps_same (Some xs) = refl

-- all was heard, and more could have been or not
all_ended : (over : Bool) (left : Option (List ℕ)) (read : List ℕ) (lines texts : List (List ℕ)) → IsAtEnd left → AllLines read lines → Ended Input over left (record { read = read; lines = lines; texts = texts; written = text_of texts })
all_ended true left read lines texts at_end are = let P : List (List ℕ) → Type 0 = λ x. AllLines read x in (by_the_end [] at_end (subst P (sym (append-nil lines)) are), refl)
all_ended false left read lines texts at_end are = (at_end, are, refl)

module _ (left mid left' held held' : Option (List ℕ)) (Heard : Hearing) (over : Bool) (talk : Talk) where
  pub read_fault_exchange : SoFar left mid held held' Heard talk → Keeps mid left' → IsExchange Heard over ReadFault talk.lines (streams_of left left' held held')
  read_fault_exchange s k = record {
    passed = record { read = s.read; lines = map handed s.progress.whole; texts = s.progress.texts; written = text_of s.progress.texts };
    consumed = consumes_keep left mid left' s.read s.consumed k;
    appended = s.progress.appended;
    heard = s.progress.heard;
    ended = (record { whole = s.progress.whole; rest = s.progress.raw; splits = s.progress.splits; are = refl }, refl);
    counted = s.progress.counted ∙ sym (length-map s.progress.whole handed);
  }

  -- more comes in
  pub goes_on_more : (read bytes : List ℕ) → Consumes left mid read → Consumes mid left' bytes → Goes Heard talk (read ++ bytes) held held' → SoFar left left' held held' Heard talk
  goes_on_more read bytes c d p = record { read = read ++ bytes; consumed = consumes_then left mid left' read bytes c d; progress = p }

  -- nothing more is heard
  pub halted_exchange : (read bytes : List ℕ) → Consumes left mid read → Consumes mid left' bytes → over ≡ true → Halts Heard talk (read ++ bytes) held held' → IsExchange Heard over Input talk.lines (streams_of left left' held held')
  halted_exchange read bytes c d o s =
      let passed : Exchanged = record { read = read ++ bytes; lines = s.lines; texts = s.texts; written = s.written } in
      let P : Bool → Type 0 = λ x. Ended Input x left' passed in
      record {
        passed = passed;
        consumed = consumes_then left mid left' read bytes c d;
        appended = s.appended;
        heard = s.heard;
        ended = subst P (sym o) (by_their_feeds s.more s.are, s.put);
        counted = s.counted;
      }

  -- an answer could not be sent
  pub stopped_exchange : (read bytes : List ℕ) → Consumes left mid read → Consumes mid left' bytes → Stops WholeLines Heard talk (read ++ bytes) held held' → IsExchange Heard over WriteFault talk.lines (streams_of left left' held held')
  stopped_exchange read bytes c d s = record {
    passed = record { read = read ++ bytes; lines = s.lines; texts = s.texts; written = s.written };
    consumed = consumes_then left mid left' read bytes c d;
    appended = s.appended;
    heard = s.heard;
    ended = (by_their_feeds s.more s.are, s.put);
    counted = s.counted;
  }

  nothing_more : (read : List ℕ) → Consumes left mid read → Consumes mid left' [] → Consumes left left' read
  nothing_more read c d = let P : List ℕ → Type 0 = λ x. Consumes left left' x in subst P (append-nil read) (consumes_then left mid left' read [] c d)

  -- at the end of input the last answer could not be sent
  pub last_stopped_exchange : (read : List ℕ) → Consumes left mid read → Consumes mid left' [] → IsAtEnd left' → Stops AllLines Heard talk read held held' → IsExchange Heard over WriteFault talk.lines (streams_of left left' held held')
  last_stopped_exchange read c d at_end s = record {
    passed = record { read = read; lines = s.lines; texts = s.texts; written = s.written };
    consumed = nothing_more read c d;
    appended = s.appended;
    heard = s.heard;
    ended = (by_the_end s.more at_end s.are, s.put);
    counted = s.counted;
  }

  -- at the end of input all was answered
  pub input_exchange : (read : List ℕ) → Consumes left mid read → Consumes mid left' [] → IsAtEnd left' → Done Heard talk read held held' → IsExchange Heard over Input talk.lines (streams_of left left' held held')
  input_exchange read c d at_end f = record {
    passed = record { read = read; lines = f.lines; texts = f.texts; written = text_of f.texts };
    consumed = nothing_more read c d;
    appended = f.appended;
    heard = f.heard;
    ended = all_ended over left' read f.lines f.texts at_end f.are;
    counted = f.counted;
  }

pub reads_spent : (left left' held held' : Option (List ℕ)) (Heard : Hearing) (over : Bool) (talk : Talk) → SoFar left left' held held' Heard talk → IsExchange Heard over ReadFault talk.lines (streams_of left left' held held')
reads_spent left left' held held' Heard over talk s = read_fault_exchange left left' left' held held' Heard over talk s (keeps_same left')
