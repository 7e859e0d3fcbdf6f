-- What a crash leaves in each of the two writes of a `push`.
use Rattle.std.proofs.Common.{◌≡◌, ℕ, ◌+◌, ◌≤◌, List, [], ◌∷◌, ◌++◌, length, get_or, take, drop, refl, sym, ◌∙◌, ap, subst, arith, append_assoc, length-append, take-append-drop}
use Rattle.std.proofs.lemmas.List.{take_at, drop_at, drop_more, take_all, drop_all, append-nil}
use Rattle.nesl_keep.specs.Device.{Holds, Torn, Follows, Only}
use Rattle.nesl_keep.specs.Scroll.{kept, blocks, at_rest, IsLine, AreLines, IsSettled, IsBeforeOrAfter}
use Rattle.nesl_keep.specs.declared.scroll.Scroll.{Scroll}
use Rattle.nesl_keep.proofs.Lines.{blocks-push, kept_closed, kept_gate, kept_lines}

-- a write that made no difference is a torn one
pub torn_same : (at n : ℕ) (file : List ℕ) → Torn at n file file
torn_same at n file = record { before = refl; after = refl; no_shorter = omega arith; no_longer = omega arith }

-- what a torn write leaves of a file that was on the disk
pub torn_from : (at n : ℕ) (file : List ℕ) (old new : List ℕ → Type 0) → Only file old → Follows (Torn at n) old new → (c : List ℕ) → new c → Torn at n file c
torn_from at n file old new only follows c left =
    let from = follows c left in
    subst (λ f. Torn at n f c) (only from.0 from.1) from.2

-- the file with a block after the closed gate
abbrev pub staged : List (List ℕ) → List ℕ → List ℕ
staged lines line = blocks lines ++ 46 ∷ (line ++ 10 ∷ 46 ∷ [])

module _ (lines : List (List ℕ)) (line : List ℕ) (end : ℕ) (ends : end ≡ length (blocks lines)) where
  abbrev block : List ℕ
  block = line ++ 10 ∷ 46 ∷ []

  pub length-at_rest : length (at_rest lines) ≡ end + 1
  length-at_rest = omega (arith, ends, length-append (blocks lines) (46 ∷ []))

  -- the closed gate is in each outcome of the first write
  pub torn_after : (n : ℕ) (c : List ℕ) → AreLines lines → Torn (end + 1) n (at_rest lines) c → kept c ≡ lines
  torn_after n c are torn =
      let front : take (end + 1) c ≡ at_rest lines = torn.before ∙ take_all _ _ (omega (arith, length-at_rest)) in
      let whole : c ≡ blocks lines ++ 46 ∷ drop (end + 1) c =
      sym (take-append-drop (end + 1) c) ∙ ap (λ (l : List ℕ). l ++ drop (end + 1) c) front ∙ append_assoc (blocks lines) (46 ∷ []) (drop (end + 1) c) in
      ap kept whole ∙ kept_closed lines 46 (drop (end + 1) c) are (omega arith)

  pub written_after : (c : List ℕ) → Holds (at_rest lines) (end + 1) block c → c ≡ staged lines line
  written_after c holds =
      holds
      ∙ ap (λ (l : List ℕ). l ++ block ++ drop (end + 1 + length block) (at_rest lines)) (take_all _ _ (omega (arith, length-at_rest)))
      ∙ ap (λ (l : List ℕ). at_rest lines ++ block ++ l) (drop_all (end + 1 + length block) (at_rest lines) (omega (arith, length-at_rest)))
      ∙ append-nil (at_rest lines ++ block)
      ∙ append_assoc (blocks lines) (46 ∷ []) block

  staged_split : staged lines line ≡ at_rest lines ++ block
  staged_split = sym (append_assoc (blocks lines) (46 ∷ []) block)

  front_is : take end (staged lines line) ≡ blocks lines
  front_is = take_at (blocks lines) (46 ∷ block) end (sym ends)

  back_is : drop (end + 1) (staged lines line) ≡ block
  back_is = ap (λ (l : List ℕ). drop (end + 1) l) staged_split ∙ drop_at (at_rest lines) block (end + 1) length-at_rest

  pub length-staged : end + 1 ≤ length (staged lines line)
  length-staged = omega (arith, ends, length-append (blocks lines) (46 ∷ block))

  -- the block is whole in each outcome of the second write
  pub torn_gate : (c : List ℕ) → AreLines lines → IsLine line → Torn end 1 (staged lines line) c → IsBeforeOrAfter lines line c
  torn_gate c are is torn =
      let long = length-staged in
      let gate = get_or c end 0 in
      let rest : drop end c ≡ gate ∷ block = drop_more c end 0 (omega (arith, long, torn.no_shorter)) ∙ ap (λ (l : List ℕ). gate ∷ l) (torn.after ∙ back_is) in
      let whole : c ≡ blocks lines ++ gate ∷ block =
      sym (take-append-drop end c) ∙ ap (λ (l : List ℕ). l ++ drop end c) (torn.before ∙ front_is) ∙ ap (λ (l : List ℕ). blocks lines ++ l) rest in
      subst (IsBeforeOrAfter lines line) (sym whole) (kept_gate lines gate line are is)

  pub written_gate : (c : List ℕ) → Holds (staged lines line) end (62 ∷ []) c → c ≡ at_rest (lines ++ line ∷ [])
  written_gate c holds =
      holds
      ∙ ap (λ (l : List ℕ). l ++ (62 ∷ []) ++ drop (end + 1) (staged lines line)) front_is
      ∙ ap (λ (l : List ℕ). blocks lines ++ (62 ∷ []) ++ l) back_is
      ∙ append_assoc (blocks lines) (62 ∷ []) block
      ∙ sym (blocks-push lines line (46 ∷ []))

  pub length-blocks_more : length (blocks (lines ++ line ∷ [])) ≡ end + length line + 2
  length-blocks_more =
      omega (arith, ends, ap length (blocks-push lines line []), ap length (append-nil (blocks (lines ++ line ∷ []))), length-append (blocks lines) (62 ∷ (line ++ 10 ∷ [])), length-append line (10 ∷ []))

-- a file at rest, all of it on the disk
pub settled : {D : Type 0} (seen : D → List ℕ) (may_leave : D → List ℕ → Type 0) (scroll : Scroll D) (lines : List (List ℕ)) → AreLines lines → seen scroll.device ≡ at_rest lines → scroll.end ≡ length (blocks lines) → Only (seen scroll.device) (may_leave scroll.device) → IsSettled seen may_leave scroll × (kept (seen scroll.device) ≡ lines)
settled seen may_leave scroll lines are is ends only =
    let stands_for : kept (seen scroll.device) ≡ lines = ap kept is ∙ kept_closed lines 46 [] are (omega arith) in (
      record {
        file = is ∙ ap at_rest (sym stands_for);
        end = ends ∙ ap (λ (ls : List (List ℕ)). length (blocks ls)) (sym stands_for);
        lines = kept_lines (seen scroll.device);
        durable = only;
      },
      stands_for,
    )

-- a file at rest that has the lines of another has these lines
pub rest_again : (file other : List ℕ) → file ≡ at_rest (kept other) → kept file ≡ kept other
rest_again file other is = ap kept is ∙ kept_closed (kept other) 46 [] (kept_lines other) (omega arith)

pub length-rest : (file : List ℕ) (lines : List (List ℕ)) → file ≡ at_rest lines → length file ≡ length (blocks lines) + 1
length-rest file lines is = ap length is ∙ length-append (blocks lines) (46 ∷ [])
