-- The top level as it is lent.
use Rattle.std.proofs.Common.{◌≡◌, ℕ, suc, [], ◌∷◌, Option, Some, None, true, false, refl, ◌∙◌}
use Rattle.std.specs.Prelude.{option_map, option_and_then, if◌then◌else◌}
use Rattle.std.specs.Str.{bytes_eq}
use Rattle.nesl_eval_meaning.specs.Names.{Name}
use Rattle.nesl_builtins.specs.Named.{look_up}
use Rattle.nesl_eval_code.specs.Run.{Table, Slot, slot_at}
use Rattle.nesl_eval_code.specs.Means.{names_of, place_of}

later : (b : Name × Slot) (bs : Table) (o : Option ℕ) → option_and_then (slot_at (b ∷ bs)) (option_map suc o) ≡ option_and_then (slot_at bs) o
later b bs None = refl
later b bs (Some k) = refl

-- what is at a name's place is what the name means
pub place_named : (t : Table) (x : Name) → option_and_then (slot_at t) (place_of (names_of t) x) ≡ look_up t x
place_named [] x = refl
place_named (b ∷ bs) x =
    elim (bytes_eq x b.0) as (λ v. option_and_then (slot_at (b ∷ bs)) (if v then Some 0 else option_map suc (place_of (names_of bs) x)) ≡ (if v then Some b.1 else look_up bs x))
    [ true ↦ refl | false ↦ later b bs (place_of (names_of bs) x) ∙ place_named bs x ]
