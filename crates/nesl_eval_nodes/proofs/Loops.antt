-- The items of a list, one after the other.
use Rattle.std.proofs.Common.{◌≡◌, ℕ, ◌+◌, ◌<◌, refl, ◌∙◌, add-one, List, ◌∷◌, drop, drop-cons, length, get_or}

pub next_item : {X : Type 0} (cs : List X) (c : X) (i : ℕ) → i < length cs → c ≡ get_or cs i c → drop i cs ≡ c ∷ drop (i + 1) cs
next_item cs c i within is = drop-cons cs i c within ∙ rw (← is, add-one) refl
