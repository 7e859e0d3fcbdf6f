-- Lines that are parts of a form.
use Rattle.std.proofs.Common.{◌≡◌, ℕ, ◌-◌, ◌==◌, zero, suc, List, [], ◌∷◌, Some, length, sym, ap, arith}
use Rattle.std.specs.Prelude.{slice_get}
use Rattle.nesl_session_meaning.specs.Step.{is_part}

last_at : (t : List ℕ) (n b : ℕ) → suc n ≡ length t → slice_get t n ≡ Some b → (b == 92) ≡ is_part t
last_at [] n b m e = absurd (omega arith)
last_at (c ∷ []) zero b m e = let same : c ≡ b = cc in ap (λ x. x == 92) (sym same)
last_at (c ∷ []) (suc n) b m e = absurd (omega arith)
last_at (c ∷ d ∷ t) zero b m e = absurd (omega arith)
last_at (c ∷ d ∷ t) (suc n) b m e = last_at (d ∷ t) n b (omega arith) e

-- the last byte tells it
pub by_last : (t : List ℕ) (b : ℕ) → slice_get t (length t - 1) ≡ Some b → (b == 92) ≡ is_part t
by_last [] b e = absurd cc
by_last (c ∷ t) b e = last_at (c ∷ t) (length (c ∷ t) - 1) b (omega arith) e
