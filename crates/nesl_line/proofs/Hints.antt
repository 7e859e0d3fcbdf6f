-- Hints below answers.
use Rattle.std.proofs.Common.{◌≡◌, ◌≢◌, ℕ, ◌≤◌, List, [], ◌∷◌, ◌++◌, Bool, true, false, map, refl, ap, ◌∙◌, cond, arith}
use Rattle.std.specs.Prelude.{nat_lt}
use Rattle.std.proofs.lemmas.Bool.{ltb-false}
use Rattle.nesl_line.specs.Lines.{HasNoFeed}
use Rattle.nesl_line.specs.Exchange.{Hearing}
use Rattle.nesl_line.specs.Hinted.{HasHint, HaveHints, IsHintLine, WithHints, shown}

is_no_feed : (b : ℕ) (small : Bool) → nat_lt b 32 ≡ small → cond small 32 b ≢ 10
is_no_feed b true e = λ (same : 32 ≡ 10). absurd (omega (arith, same))
is_no_feed b false e = let least : 32 ≤ b = ltb-false b 32 e in λ (same : b ≡ 10). absurd (omega (arith, least, same))

-- what is shown has no line end
pub shown_no_feed : (bytes : List ℕ) → HasNoFeed (map shown bytes)
shown_no_feed [] = tt
shown_no_feed (b ∷ bs) = (is_no_feed b (nat_lt b 32) refl, shown_no_feed bs)

have_more : (front : List ℕ) (answers texts : List (List ℕ)) (answer text : List ℕ) → HaveHints front answers texts → HasHint front answer text → HaveHints front (answers ++ answer ∷ []) (texts ++ text ∷ [])
have_more front [] [] answer text h one = (one, tt)
have_more front [] (t ∷ ts) answer text h one = absurd h
have_more front (a ∷ more) [] answer text h one = absurd h
have_more front (a ∷ more) (t ∷ ts) answer text h one = (h.0, have_more front more ts answer text h.1 one)

-- one line more was heard
pub hints_more : (front : List ℕ) (Heard : Hearing) (lines texts answers : List (List ℕ)) (line answer text : List ℕ) → Heard (lines ++ line ∷ []) (answers ++ answer ∷ []) → HaveHints front answers texts → HasHint front answer text
    → WithHints front Heard (lines ++ line ∷ []) (texts ++ text ∷ [])
hints_more front Heard lines texts answers line answer text heard hints one = record { answers = answers ++ answer ∷ []; heard = heard; hints = have_more front answers texts answer text hints one }

-- nothing was heard yet
pub hints_none : (front : List ℕ) (Heard : Hearing) → Heard [] [] → WithHints front Heard [] []
hints_none front Heard heard = record { answers = []; heard = heard; hints = tt }

-- something else that holds of what was heard
pub hints_as : (front : List ℕ) (Heard Other : Hearing) (lines texts : List (List ℕ)) → (h : WithHints front Heard lines texts) → Other lines h.answers → WithHints front Other lines texts
hints_as front Heard Other lines texts h other = record { answers = h.answers; heard = other; hints = h.hints }

-- the line of a hint
pub hint_line_of : (front more begun bytes : List ℕ) → begun ≡ front → more ≡ begun ++ map shown bytes ++ 10 ∷ [] → IsHintLine front more
hint_line_of front more begun bytes f e = record {
  rest = map shown bytes;
  one_line = shown_no_feed bytes;
  spelled = e ∙ ap (λ x. x ++ map shown bytes ++ 10 ∷ []) f;
}
