-- One more operation of a bound.
use Rattle.std.proofs.Common.{◌≡◌, ℕ, suc, ◌+◌, ◌<◌, List, [], ◌∷◌, length, get_or, drop, sym, subst, drop-cons, add-one}
use Rattle.nesl_exercise.specs.declared.bound.Op.{Op}
use Rattle.nesl_exercise.specs.Bounds.{Does, Computes}

pub computes_next : (ops : List Op) (i : ℕ) (d : Op) (n : ℕ) (s mid last : List ℕ) → i < length ops
    → Does (get_or ops i d) n s mid → Computes (drop (i + 1) ops) n mid last → Computes (drop i ops) n s last
computes_next ops i d n s mid last h does more =
    subst (λ (xs : List Op). Computes xs n s last) (sym (drop-cons ops i d h))
    (mid, does, subst (λ (k : ℕ). Computes (drop k ops) n mid last) (add-one i) more)
