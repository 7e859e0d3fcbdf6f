-- What files of lines stand for.
use Rattle.std.proofs.Common.{◌≡◌, ◌≢◌, inl, inr, ℕ, List, [], ◌∷◌, ◌++◌, Option, Some, None, refl, sym, ◌∙◌, ap, subst, arith, append_assoc, ◌<◌, ◌+◌, length, take, drop, slice_index, take-append-drop}
use Rattle.std.proofs.lemmas.List.{append-nil, drop_more}
use Rattle.std.proofs.lemmas.Bool.{cases_eq}
use Rattle.std.proofs.lemmas.Bool.Decides.{nat_tests}
use Rattle.nesl_keep.specs.Scroll.{lines_from, kept, IsLine, AreLines, blocks, IsBeforeOrAfter}

pub more : (front : List ℕ) (b : ℕ) (bytes : List ℕ) → b ≢ 10 → lines_from (Some front) (b ∷ bytes) ≡ lines_from (Some (front ++ b ∷ [])) bytes
more front b bytes other = grind (arith, nat_tests)

pub ended : (front : List ℕ) (b : ℕ) (bytes : List ℕ) → b ≡ 10 → lines_from (Some front) (b ∷ bytes) ≡ front ∷ kept bytes
ended front b bytes is = grind (arith, nat_tests)

pub opened : (b : ℕ) (bytes : List ℕ) → b ≡ 62 → lines_from None (b ∷ bytes) ≡ lines_from (Some []) bytes
opened b bytes is = grind (arith, nat_tests)

pub closed : (b : ℕ) (bytes : List ℕ) → b ≢ 62 → kept (b ∷ bytes) ≡ []
closed b bytes shut = grind (arith, nat_tests)

-- a line is read to its LF
pub read_line : (front line rest : List ℕ) → IsLine line → lines_from (Some front) (line ++ 10 ∷ rest) ≡ (front ++ line) ∷ kept rest
read_line front [] rest is = ap (λ (l : List ℕ). l ∷ kept rest) (sym (append-nil front))
read_line front (b ∷ line) rest is =
    more front b (line ++ 10 ∷ rest) is.0 ∙ read_line (front ++ b ∷ []) line rest is.1
    ∙ ap (λ (l : List ℕ). l ∷ kept rest) (append_assoc front (b ∷ []) line)

-- without an LF there is no block
no_line : (front line : List ℕ) → IsLine line → lines_from (Some front) line ≡ []
no_line front [] is = refl
no_line front (b ∷ line) is = more front b line is.0 ∙ no_line (front ++ b ∷ []) line is.1

-- an open block, and then whatever the rest stands for
pub kept-block : (line rest : List ℕ) → IsLine line → kept (62 ∷ (line ++ 10 ∷ rest)) ≡ line ∷ kept rest
kept-block line rest is = read_line [] line rest is

-- a line is read to the first LF, and then whatever the rest stands for
pub read_first : (bytes : List ℕ) (place : ℕ) → place < length bytes → slice_index bytes place ≡ 10 → IsLine (take place bytes) → lines_from (Some []) bytes ≡ take place bytes ∷ kept (drop (place + 1) bytes)
read_first bytes place lt feed is =
    let whole : take place bytes ++ 10 ∷ drop (place + 1) bytes ≡ bytes =
    ap (λ (b : ℕ). take place bytes ++ b ∷ drop (place + 1) bytes) (sym feed)
    ∙ ap (λ (l : List ℕ). take place bytes ++ l) (sym (drop_more bytes place 0 lt))
    ∙ take-append-drop place bytes in
    ap (λ (l : List ℕ). lines_from (Some []) l) (sym whole) ∙ read_line [] (take place bytes) (drop (place + 1) bytes) is

-- without an LF there is no line
pub read_none : (bytes : List ℕ) → IsLine bytes → lines_from (Some []) bytes ≡ []
read_none bytes is = no_line [] bytes is

block_then : (line : List ℕ) (lines : List (List ℕ)) (rest : List ℕ) → blocks (line ∷ lines) ++ rest ≡ 62 ∷ (line ++ 10 ∷ (blocks lines ++ rest))
block_then line lines rest = ap (λ (l : List ℕ). 62 ∷ l) (append_assoc line (10 ∷ blocks lines) rest)

pub kept-blocks : (lines : List (List ℕ)) (rest : List ℕ) → AreLines lines → kept (blocks lines ++ rest) ≡ lines ++ kept rest
kept-blocks [] rest are = refl
kept-blocks (line ∷ lines) rest are =
    ap kept (block_then line lines rest) ∙ kept-block line (blocks lines ++ rest) are.0
    ∙ ap (λ (ls : List (List ℕ)). line ∷ ls) (kept-blocks lines rest are.1)

-- a closed gate ends them, whatever is after it
pub kept_closed : (lines : List (List ℕ)) (gate : ℕ) (rest : List ℕ) → AreLines lines → gate ≢ 62 → kept (blocks lines ++ gate ∷ rest) ≡ lines
kept_closed lines gate rest are shut =
    kept-blocks lines (gate ∷ rest) are ∙ ap (λ (ls : List (List ℕ)). lines ++ ls) (closed gate rest shut) ∙ append-nil lines

pub blocks-push : (lines : List (List ℕ)) (line rest : List ℕ) → blocks (lines ++ line ∷ []) ++ rest ≡ blocks lines ++ 62 ∷ (line ++ 10 ∷ rest)
blocks-push [] line rest = block_then line [] rest
blocks-push (l ∷ lines) line rest =
    block_then l (lines ++ line ∷ []) rest ∙ ap (λ (x : List ℕ). 62 ∷ (l ++ 10 ∷ x)) (blocks-push lines line rest)
    ∙ sym (block_then l lines (62 ∷ (line ++ 10 ∷ rest)))

-- one block more, and then the others
pub add_block : (file line more : List ℕ) → (file ++ 62 ∷ (line ++ 10 ∷ [])) ++ more ≡ file ++ 62 ∷ (line ++ 10 ∷ more)
add_block file line more =
    append_assoc file (62 ∷ (line ++ 10 ∷ [])) more ∙ ap (λ (l : List ℕ). file ++ 62 ∷ l) (append_assoc line (10 ∷ []) more)

pub are_more : (lines : List (List ℕ)) (line : List ℕ) → AreLines lines → IsLine line → AreLines (lines ++ line ∷ [])
are_more [] line are is = (is, tt)
are_more (l ∷ lines) line are is = (are.0, are_more lines line are.1 is)

-- a whole block after any gate counts or it doesn't
pub kept_gate : (lines : List (List ℕ)) (gate : ℕ) (line : List ℕ) → AreLines lines → IsLine line → IsBeforeOrAfter lines line (blocks lines ++ gate ∷ (line ++ 10 ∷ 46 ∷ []))
kept_gate lines gate line are is = elim (cases_eq gate 62) [
  | inl open_gate ↦
      inr (kept-blocks lines (gate ∷ (line ++ 10 ∷ 46 ∷ [])) are
      ∙ ap (λ (ls : List (List ℕ)). lines ++ ls) (opened gate (line ++ 10 ∷ 46 ∷ []) open_gate ∙ read_line [] line (46 ∷ []) is ∙ ap (λ (ls : List (List ℕ)). line ∷ ls) (closed 46 [] (omega arith))))
  | inr shut ↦ inl (kept_closed lines gate (line ++ 10 ∷ 46 ∷ []) are shut)
]

-- what is read has no LF in it
line_more : (front : List ℕ) (b : ℕ) → IsLine front → b ≢ 10 → IsLine (front ++ b ∷ [])
line_more [] b is other = (other, tt)
line_more (f ∷ front) b is other = (is.0, line_more front b is.1 other)

-- what was read of a line has no LF in it
abbrev Fine : Option (List ℕ) → Type 0
Fine None = Unit {0}
Fine (Some front) = IsLine front

lines_are : (front : Option (List ℕ)) (bytes : List ℕ) → Fine front → AreLines (lines_from front bytes)
lines_are None [] fine = tt
lines_are (Some front) [] fine = tt
lines_are None (b ∷ bytes) fine = elim (cases_eq b 62) [
  | inl is_open ↦ subst AreLines (sym (opened b bytes is_open)) (lines_are (Some []) bytes tt)
  | inr shut ↦ subst AreLines (sym (closed b bytes shut)) tt
]
lines_are (Some front) (b ∷ bytes) fine = elim (cases_eq b 10) [
  | inl feed ↦ subst AreLines (sym (ended front b bytes feed)) (fine, lines_are None bytes tt)
  | inr other ↦ subst AreLines (sym (more front b bytes other)) (lines_are (Some (front ++ b ∷ [])) bytes (line_more front b fine other))
]

pub kept_lines : (file : List ℕ) → AreLines (kept file)
kept_lines file = lines_are None file tt
