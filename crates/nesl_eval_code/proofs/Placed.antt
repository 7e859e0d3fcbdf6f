-- The places of top-level names.
use Rattle.std.proofs.Common.{◌≡◌, ℕ, suc, Bool, true, false, refl, sym, ◌∙◌, ap, List, [], ◌∷◌, ◌++◌, length, Option, Some, None}
use Rattle.std.specs.Prelude.{option_map, if◌then◌else◌}
use Rattle.std.specs.Str.{bytes_eq}
use Rattle.nesl_eval_meaning.specs.Names.{Name}
use Rattle.nesl_eval_code.specs.Means.{place_of}
use Rattle.nesl_eval_code.specs.Resolving.{with_own}
use Rattle.nesl_eval_code.proofs.Tables.{place_stays}

module _ (x : Name) where
  -- one name more, last
  pub placed_last : (y : Name) (ns : List Name) → place_of ns x ≡ None → (if bytes_eq x y then Some (length ns) else None) ≡ place_of (ns ++ y ∷ []) x
  placed_last y [] e = by (bytes_eq x y)
    where
      by : (b : Bool) → (if b then Some 0 else None) ≡ (if b then Some 0 else option_map suc None)
      by true = refl
      by false = refl
  placed_last y (n ∷ ns) e = by (bytes_eq x n) e (λ h. placed_last y ns h)
    where
      up : (b : Bool) → (if b then Some (suc (length ns)) else None) ≡ option_map suc (if b then Some (length ns) else None)
      up true = refl
      up false = refl

      none_of : (o : Option ℕ) → option_map suc o ≡ None → o ≡ None
      none_of None h = refl
      none_of (Some k) h = absurd cc

      by : (b : Bool) → (if b then Some 0 else option_map suc (place_of ns x)) ≡ None →
          (place_of ns x ≡ None → (if bytes_eq x y then Some (length ns) else None) ≡ place_of (ns ++ y ∷ []) x) →
          (if bytes_eq x y then Some (suc (length ns)) else None) ≡ (if b then Some 0 else option_map suc (place_of (ns ++ y ∷ []) x))
      by true h ih = absurd cc
      by false h ih = up (bytes_eq x y) ∙ ap (option_map suc) (ih (none_of (place_of ns x) h))

-- the names that were there keep their places
pub placed_still : (own : Option Name) (ns : List Name) (x : Name) (k : ℕ) → Some k ≡ place_of ns x → Some k ≡ place_of (with_own own ns) x
placed_still None ns x k h = h
placed_still (Some y) ns x k h = sym (place_stays ns (y ∷ []) x k (sym h))

pub placed_own : (own : Option Name) (y : Name) (ns : List Name) (x : Name) (n : ℕ) (r : Option ℕ) → own ≡ Some y → None ≡ place_of ns x → n ≡ length ns →
    r ≡ (if bytes_eq x y then Some n else None) → r ≡ place_of (with_own own ns) x
placed_own own y ns x n r o h l e =
    e ∙ ap (λ k. if bytes_eq x y then Some k else None) l ∙ placed_last x y ns (sym h) ∙ sym (ap (λ w. place_of (with_own w ns) x) o)
