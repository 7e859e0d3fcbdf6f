-- Bytes that are read, cut into lines, and written.
use Rattle.std.proofs.Common.{◌≡◌, ◌≢◌, ℕ, ◌+◌, ◌-◌, ◌<◌, ◌≤◌, ◌==◌, List, [], ◌∷◌, ◌++◌, Bool, true, false, not, cond, Option, Some, None, length, take, drop, refl, sym, ap, ◌∙◌, subst, arith, zero, suc, append_assoc, append-nil, length-append, slice_index, nat_lt, min, ⊎_elim, add-one}
use Rattle.std.specs.Prelude.{flat_map, if◌then◌else◌}
use Rattle.std.specs.List.{AllByRecursion}
use Rattle.std.specs.Io.KnownBytes.{Consumes, Appends, Keeps}
use Rattle.std.proofs.lemmas.Grind.{flat_map-append}
use Rattle.std.proofs.lemmas.List.{take_all, take-append-drop, length-take}
use Rattle.std.proofs.Math.Seq.{take-add}
use Rattle.std.proofs.lemmas.Bool.{le-ltb, lt-ltb, ltb-true, ltb-false, eqb-true, cases_lt}
use Rattle.nesl_line.specs.Steps.{Sent}
use Rattle.nesl_line.specs.Lines.{HasNoFeed, with_feed, Splits, handed, most_handed}
use Rattle.std.proofs.lemmas.List.{length-drop}

-- what is handed on of the rest of a text that has ended
abbrev pub last_line : List ℕ → List (List ℕ)
last_line rest = if length rest == 0 then [] else take most_handed rest ∷ []

-- nothing more
pub appends_none : (o : Option (List ℕ)) → Appends o o []
appends_none None = tt
appends_none (Some xs) = sym (append-nil xs)

pub appends_then : (a b c : Option (List ℕ)) (x y : List ℕ) → Appends a b x → Appends b c y → Appends a c (x ++ y)
appends_then None b c x y p q = tt
appends_then (Some xs) None c x y p q = absurd p
appends_then (Some xs) (Some ys) None x y p q = absurd q
appends_then (Some xs) (Some ys) (Some zs) x y p q = q ∙ ap (λ w. w ++ y) p ∙ append_assoc xs x y

pub appends_keep : (a b c : Option (List ℕ)) (x : List ℕ) → Appends a b x → Keeps b c → Appends a c x
appends_keep None b c x p q = tt
appends_keep (Some xs) None c x p q = absurd p
appends_keep (Some xs) (Some ys) None x p q = absurd q
appends_keep (Some xs) (Some ys) (Some zs) x p q = q ∙ p

pub consumes_none : (o : Option (List ℕ)) → Consumes o o []
consumes_none None = tt
consumes_none (Some xs) = refl

pub consumes_then : (a b c : Option (List ℕ)) (x y : List ℕ) → Consumes a b x → Consumes b c y → Consumes a c (x ++ y)
consumes_then None b c x y p q = tt
consumes_then (Some xs) None c x y p q = absurd p
consumes_then (Some xs) (Some ys) None x y p q = absurd q
consumes_then (Some xs) (Some ys) (Some zs) x y p q = p ∙ ap (λ w. x ++ w) q ∙ sym (append_assoc x y zs)

pub consumes_keep : (a b c : Option (List ℕ)) (x : List ℕ) → Consumes a b x → Keeps b c → Consumes a c x
consumes_keep None b c x p q = tt
consumes_keep (Some xs) None c x p q = absurd p
consumes_keep (Some xs) (Some ys) None x p q = absurd q
consumes_keep (Some xs) (Some ys) (Some zs) x p q = p ∙ ap (λ w. x ++ w) (sym q)

all_both : {X : Type 0} (P : X → Type 0) (xs ys : List X) → AllByRecursion P xs → AllByRecursion P ys → AllByRecursion P (xs ++ ys)
all_both P [] ys a b = b
all_both P (x ∷ xs) ys a b = (a.0, all_both P xs ys a.1 b)

-- a text of no bytes
pub splits_none : Splits [] [] []
splits_none = record { spelled = refl; each = tt; open_end = tt }

-- more of the rest
pub splits_more : (text : List ℕ) (whole : List (List ℕ)) (raw more : List ℕ) → Splits text whole raw → HasNoFeed more → Splits (text ++ more) whole (raw ++ more)
splits_more text whole raw more s n = record {
  spelled = ap (λ x. x ++ more) s.spelled ∙ append_assoc (flat_map with_feed whole) raw more;
  each = s.each;
  open_end = all_both (λ x. x ≢ 10) raw more s.open_end n;
}

-- a line ends
pub splits_feed : (text : List ℕ) (whole : List (List ℕ)) (raw : List ℕ) → Splits text whole raw → Splits (text ++ 10 ∷ []) (whole ++ raw ∷ []) []
splits_feed text whole raw s = record {
  spelled =
      ap (λ x. x ++ 10 ∷ []) s.spelled ∙ append_assoc (flat_map with_feed whole) raw (10 ∷ []) ∙ sym (append-nil _) ∙ ap (λ x. x ++ []) (ap (λ x. flat_map with_feed whole ++ x) (sym (append-nil (with_feed raw))) ∙ sym (flat_map-append with_feed whole (raw ∷ [])));
  each = all_both HasNoFeed whole (raw ∷ []) s.each (s.open_end, tt);
  open_end = tt;
}

take_both : {A : Type 0} (n : ℕ) (xs ys : List A) → take n (xs ++ ys) ≡ take n xs ++ take (n - length xs) ys
take_both n [] ys = ap (λ k. take k ys) (omega arith) ∙ none n
  where
    none : (n : ℕ) → take (n - 0) ys ≡ take n [] ++ take (n - 0) ys
    none zero = refl
    none (suc n) = refl
take_both zero (x ∷ xs) ys = let zero' : 0 ≡ 0 - suc (length xs) = omega arith in ap (λ k. take k ys) zero'
take_both (suc n) (x ∷ xs) ys = let rest : n - length xs ≡ suc n - suc (length xs) = omega arith in ap (λ zs. x ∷ zs) (take_both n xs ys) ∙ ap (λ k. x ∷ (take n xs ++ take k ys)) rest

take_few : {A : Type 0} (k : ℕ) (ys : List A) → take (min (length ys) k) ys ≡ take k ys
take_few k ys = ⊎_elim (λ h. let e : min (length ys) k ≡ k = omega (arith, h) in ap (λ m. take m ys) e)
    (λ h. let e : min (length ys) k ≡ length ys = omega (arith, h) in ap (λ m. take m ys) e ∙ take_all (length ys) ys (omega arith) ∙ sym (take_all k ys h)) (cases_lt k (length ys))

-- A line of which the first n bytes are held, and more of it: as much as there is room for is kept.
module _ (n : ℕ) (raw more bytes bytes' : List ℕ) (longer : Bool) (kept : ℕ) where
  pub hold_bytes : (bytes ≡ take n raw) × (longer ≡ nat_lt n (length raw)) → kept ≡ min (length more) (n - length bytes) → bytes' ≡ bytes ++ take kept more → bytes' ≡ take n (raw ++ more)
  hold_bytes h k e =
      let held : length bytes ≡ min n (length raw) = ap length h.0 ∙ length-take n raw in
      let left : n - length bytes ≡ n - length raw = omega (arith, held) in
      e ∙ (λ i. h.0 i ++ take ((k ∙ ap (λ m. min (length more) m) left) i) more) ∙ ap (λ x. take n raw ++ x) (take_few (n - length raw) more) ∙ sym (take_both n raw more)

  pub hold_longer : (bytes ≡ take n raw) × (longer ≡ nat_lt n (length raw)) → kept ≡ min (length more) (n - length bytes) → kept < length more → true ≡ nat_lt n (length (raw ++ more))
  hold_longer h k lt =
      let held : length bytes ≡ min n (length raw) = ap length h.0 ∙ length-take n raw in
      sym (lt-ltb n (length (raw ++ more)) (omega (arith, held, k, lt, length-append raw more)))

  pub hold_whole : (bytes ≡ take n raw) × (longer ≡ nat_lt n (length raw)) → kept ≡ min (length more) (n - length bytes) → length more ≤ kept → longer ≡ nat_lt n (length (raw ++ more))
  hold_whole h k le =
      let held : length bytes ≡ min n (length raw) = ap length h.0 ∙ length-take n raw in
      let grown : length (raw ++ more) ≡ length raw + length more = length-append raw more in
      ⊎_elim (λ lt. h.1 ∙ lt-ltb n (length raw) lt ∙ sym (lt-ltb n (length (raw ++ more)) (omega (arith, grown, lt))))
      (λ ge. h.1 ∙ le-ltb n (length raw) ge ∙ sym (le-ltb n (length (raw ++ more)) (omega (arith, held, k, le, grown, ge)))) (cases_lt n (length raw))

-- what is sent
pub sent_all : (held held' : Option (List ℕ)) (bytes : List ℕ) → Appends held held' bytes → (b : Bool) → Sent held held' bytes b
sent_all held held' bytes a b = record { front = bytes; lost = []; split = sym (append-nil bytes); all = λ _. refl; appended = a }

pub sent_some : (held held' : Option (List ℕ)) (bytes : List ℕ) (at : ℕ) → Appends held held' (take at bytes) → Sent held held' bytes false
sent_some held held' bytes at a = record { front = take at bytes; lost = drop at bytes; split = sym (take-append-drop at bytes); all = λ e. absurd (cc); appended = a }

pub sent_more : (a b c : Option (List ℕ)) (bytes : List ℕ) (at n : ℕ) → Appends a b (take at bytes) → Appends b c (take n (drop at bytes)) → Appends a c (take (at + n) bytes)
sent_more a b c bytes at n p q = let P : List ℕ → Type 0 = λ x. Appends a c x in subst P (sym (take-add at n bytes)) (appends_then a b c (take at bytes) (take n (drop at bytes)) p q)

-- one text sent after another
pub sent_then : (a b c : Option (List ℕ)) (x y : List ℕ) (well : Bool) → Sent a b x true → Sent b c y well → Sent a c (x ++ y) well
sent_then a b c x y well p q =
    let full : p.front ≡ x = sym (append-nil p.front) ∙ ap (λ w. p.front ++ w) (sym (p.all refl)) ∙ sym p.split in
    let P : List ℕ → Type 0 = λ w. Appends a b w in
    record {
      front = x ++ q.front;
      lost = q.lost;
      split = ap (λ w. x ++ w) q.split ∙ sym (append_assoc x q.front q.lost);
      all = q.all;
      appended = appends_then a b c x q.front (subst P full p.appended) q.appended;
    }

pub sent_stopped : (a b : Option (List ℕ)) (x y : List ℕ) → Sent a b x false → Sent a b (x ++ y) false
sent_stopped a b x y p = record { front = p.front; lost = p.lost ++ y; split = ap (λ w. w ++ y) p.split ∙ append_assoc p.front p.lost y; all = λ e. absurd (cc); appended = p.appended }

take_shorter : {A : Type 0} (n m : ℕ) (xs : List A) → n ≤ m → take n (take m xs) ≡ take n xs
take_shorter zero m xs h = refl
take_shorter (suc n) zero xs h = absurd (omega (arith, h))
take_shorter (suc n) (suc m) [] h = refl
take_shorter (suc n) (suc m) (x ∷ xs) h = ap (λ ys. x ∷ ys) (take_shorter n m xs (omega (arith, h)))

strip_by : (n : ℕ) (raw : List ℕ) (b : Bool) → n < length raw → take n (cond b (take (length raw - 1) raw) raw) ≡ take n raw
strip_by n raw true h = take_shorter n (length raw - 1) raw (omega arith)
strip_by n raw false h = refl

-- of a line that is longer, the CR doesn't matter
pub handed_long : (raw bytes : List ℕ) (longer : Bool) → (bytes ≡ take most_handed raw) × (longer ≡ nat_lt most_handed (length raw)) → longer ≡ true → bytes ≡ handed raw
handed_long raw bytes longer h e = h.0 ∙ sym (strip_by most_handed raw (slice_index raw (length raw - 1) == 13) (ltb-true most_handed (length raw) (sym h.1 ∙ e)))

-- of one that is not, it is dropped
pub whole_line : (raw bytes : List ℕ) (longer : Bool) → (bytes ≡ take most_handed raw) × (longer ≡ nat_lt most_handed (length raw)) → longer ≡ false → (bytes ≡ raw) × (length raw ≤ most_handed)
whole_line raw bytes longer h e = let few = ltb-false most_handed (length raw) (sym h.1 ∙ e) in (h.0 ∙ take_all most_handed raw few, few)

pub handed_return : (raw bytes bytes' : List ℕ) (longer : Bool) → (bytes ≡ take most_handed raw) × (longer ≡ nat_lt most_handed (length raw)) → longer ≡ false → slice_index bytes (length bytes - 1) ≡ 13 → bytes' ≡ take (length bytes - 1) bytes → bytes' ≡ handed raw
handed_return raw bytes bytes' longer h e last t =
    let w = whole_line raw bytes longer h e in
    let there : slice_index raw (length raw - 1) ≡ 13 = ap (λ (x : List ℕ). slice_index x (length x - 1)) (sym w.0) ∙ last in
    let short : length (take (length raw - 1) raw) ≤ most_handed = omega (arith, length-take (length raw - 1) raw, w.1) in
    t ∙ ap (λ (x : List ℕ). take (length x - 1) x) w.0 ∙ sym (take_all most_handed (take (length raw - 1) raw) short) ∙ ap (λ k. take most_handed (cond (k == 13) (take (length raw - 1) raw) raw)) (sym there)

other_than : (k : ℕ) (b : Bool) → (k == 13) ≡ b → k ≢ 13 → b ≡ false
other_than k true e n = absurd (n (eqb-true k 13 e))
other_than k false e n = refl

pub handed_other : (raw bytes : List ℕ) (longer : Bool) → (bytes ≡ take most_handed raw) × (longer ≡ nat_lt most_handed (length raw)) → longer ≡ false → slice_index bytes (length bytes - 1) ≢ 13 → bytes ≡ handed raw
handed_other raw bytes longer h e last =
    let w = whole_line raw bytes longer h e in
    let there : slice_index raw (length raw - 1) ≢ 13 = λ k. last (ap (λ (x : List ℕ). slice_index x (length x - 1)) w.0 ∙ k) in
    w.0 ∙ sym (take_all most_handed raw w.1) ∙ ap (λ b. take most_handed (cond b (take (length raw - 1) raw) raw)) (sym (other_than (slice_index raw (length raw - 1)) (slice_index raw (length raw - 1) == 13) refl there))

pub rest_whole : (at : ℕ) (bytes : List ℕ) → take (length bytes - at) (drop at bytes) ≡ drop at bytes
rest_whole at bytes = take_all (length bytes - at) (drop at bytes) (omega (arith, length-drop at bytes))

first_byte : (b : ℕ) (bs : List ℕ) (whole : List (List ℕ)) (rest : List ℕ) (feed : Bool) → (b == 10) ≡ feed → Splits bs whole rest → (w : List (List ℕ)) × (r : List ℕ) × Splits (b ∷ bs) w r
first_byte b bs whole rest true e s =
    ([] ∷ whole, rest, record { spelled = ap (λ x. x ∷ bs) (eqb-true b 10 e) ∙ ap (λ x. 10 ∷ x) s.spelled; each = (tt, s.each); open_end = s.open_end })
first_byte b bs [] rest false e s = let n : b ≢ 10 = λ k. let no' : (b == 10) ≡ true = ap (λ x. x == 10) k in absurd (cc) in ([], b ∷ rest, record { spelled = ap (λ x. b ∷ x) s.spelled; each = tt; open_end = (n, s.open_end) })
first_byte b bs (line ∷ whole) rest false e s =
    let n : b ≢ 10 = λ k. let no' : (b == 10) ≡ true = ap (λ x. x == 10) k in absurd (cc) in
    ((b ∷ line) ∷ whole, rest, record { spelled = ap (λ x. b ∷ x) s.spelled; each = ((n, s.each.0), s.each.1); open_end = s.open_end })

-- every text is some lines and a rest
pub splits_some : (text : List ℕ) → (whole : List (List ℕ)) × (rest : List ℕ) × Splits text whole rest
splits_some [] = ([], [], splits_none)
splits_some (b ∷ bs) = let s = splits_some bs in first_byte b bs s.0 s.1 (b == 10) refl s.2

-- more text after some lines and a rest
pub splits_on : (a b : List ℕ) (one : List (List ℕ)) (raw : List ℕ) → Splits a one raw → (two : List (List ℕ)) × (rest : List ℕ) × Splits (a ++ b) (one ++ two) rest
splits_on a b one raw s =
    let t = splits_some (raw ++ b) in (
      t.0,
      t.1,
      record {
        spelled =
            ap (λ x. x ++ b) s.spelled ∙ append_assoc (flat_map with_feed one) raw b ∙ ap (λ x. flat_map with_feed one ++ x) t.2.spelled
            ∙ sym (append_assoc (flat_map with_feed one) (flat_map with_feed t.0) t.1) ∙ ap (λ x. x ++ t.1) (sym (flat_map-append with_feed one t.0));
        each = all_both HasNoFeed one t.0 s.each t.2.each;
        open_end = t.2.open_end;
      },
    )

-- bytes of which none is an LF
pub no_feed_in : (bytes : List ℕ) → ((k : ℕ) → k < length bytes → slice_index bytes k ≢ 10) → HasNoFeed bytes
no_feed_in [] h = tt
no_feed_in (b ∷ bs) h = (h zero (omega arith), no_feed_in bs (λ k lt. h (suc k) (omega arith)))

pub no_feed_before : (bytes : List ℕ) (i : ℕ) → i ≤ length bytes → ((k : ℕ) → k < i → slice_index bytes k ≢ 10) → HasNoFeed (take i bytes)
no_feed_before bytes zero le h = tt
no_feed_before [] (suc i) le h = absurd (omega (arith, le))
no_feed_before (b ∷ bs) (suc i) le h = (h zero (omega arith), no_feed_before bs i (omega arith) (λ k lt. h (suc k) (omega arith)))

-- bytes, cut at an LF
pub cut_feed : (bytes : List ℕ) (i : ℕ) → i < length bytes → slice_index bytes i ≡ 10 → bytes ≡ take i bytes ++ 10 ∷ drop (suc i) bytes
cut_feed [] i h e = absurd (omega (arith, h))
cut_feed (b ∷ bs) zero h e = ap (λ x. x ∷ bs) e
cut_feed (b ∷ bs) (suc i) h e = ap (λ x. b ∷ x) (cut_feed bs i (omega arith) e)

pub extended : (ok err : Bool) (xs ys zs : List ℕ) → ok ≡ not err → err ≡ false → zs ≡ cond ok (xs ++ ys) xs → zs ≡ xs ++ ys
extended ok err xs ys zs o e z = z ∙ ap (λ b. cond b (xs ++ ys) xs) (o ∙ ap not e)

pub regrouped : (read taken a x : List ℕ) → ((read ++ taken) ++ a) ++ x ≡ read ++ (taken ++ (a ++ x))
regrouped read taken a x = append_assoc (read ++ taken) a x ∙ append_assoc read taken (a ++ x)

-- a line more is taken from the front of what is left
pub taken_line : (bytes taken rest : List ℕ) (i : ℕ) → bytes ≡ taken ++ rest → i < length rest → slice_index rest i ≡ 10 → bytes ≡ (taken ++ (take i rest ++ 10 ∷ [])) ++ take (length rest - (i + 1)) (drop (i + 1) rest)
taken_line bytes taken rest i e h f =
    let left : take (length rest - (i + 1)) (drop (i + 1) rest) ≡ drop (suc i) rest = rest_whole (i + 1) rest ∙ ap (λ k. drop k rest) (add-one i) in
    e ∙ ap (λ x. taken ++ x) (cut_feed rest i h f ∙ ap (λ x. take i rest ++ 10 ∷ x) (sym left) ∙ sym (append_assoc (take i rest) (10 ∷ []) (take (length rest - (i + 1)) (drop (i + 1) rest)))) ∙ sym (append_assoc taken (take i rest ++ 10 ∷ []) (take (length rest - (i + 1)) (drop (i + 1) rest)))

pub taken_all : (read bytes taken rest : List ℕ) (i : ℕ) → bytes ≡ taken ++ rest → i < length rest → slice_index rest i ≡ 10 → ((read ++ taken) ++ take i rest) ++ 10 ∷ drop (suc i) rest ≡ read ++ bytes
taken_all read bytes taken rest i e h f = regrouped read taken (take i rest) (10 ∷ drop (suc i) rest) ∙ ap (λ x. read ++ (taken ++ x)) (sym (cut_feed rest i h f)) ∙ ap (λ x. read ++ x) (sym e)
