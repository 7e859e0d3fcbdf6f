-- Walks over all entries, one place after another.
use Rattle.std.proofs.Common.{◌≡◌, ℕ, zero, suc, ◌+◌, Bool, true, false, refl, sym, ap, ◌∙◌, arith, List, [], ◌∷◌, drop}
use Rattle.std.specs.Prelude.{◌||◌, ◌&&◌, not, slice_get, if◌then◌else◌}
use Rattle.std.specs.List.{list_any}
use Rattle.std.specs.Option.{option_map_or}
use Rattle.std.specs.Str.{bytes_eq}
use Rattle.nesl_eval_meaning.specs.Names.{Name}
use Rattle.nesl_eval_top_level.specs.Stored.{Entry, environment, top_of}
use Rattle.nesl_eval_sound.specs.Lines.{datatypes, is_type}
use Rattle.nesl_eval_sound.specs.Refers.{is_referred, top_refers}

-- whether it is another name's function and refers to the name
abbrev pub other_refers : Name → Entry → Bool
other_refers x b = not (bytes_eq b.0 x) && top_refers x (top_of b.1 b.2)

any_more : (q : Entry → Bool) (es : List Entry) (i : ℕ) → list_any q (drop i es) ≡ (option_map_or q (slice_get es i) false || list_any q (drop (suc i) es))
any_more q [] zero = refl
any_more q [] (suc i) = refl
any_more q (e ∷ es) zero = refl
any_more q (e ∷ es) (suc i) = any_more q es i

next : (i : ℕ) → suc i ≡ i + 1
next i = omega arith

-- none at the place: what is left decides
pub any_step : (q : Entry → Bool) (es : List Entry) (i : ℕ) (r : Bool) → r ≡ option_map_or q (slice_get es i) false → r ≡ false → list_any q (drop (i + 1) es) ≡ list_any q (drop i es)
any_step q es i r h f =
    ap (λ (n : ℕ). list_any q (drop n es)) (sym (next i)) ∙ ap (λ (s : Bool). s || list_any q (drop (suc i) es)) (sym f ∙ h) ∙ sym (any_more q es i)

-- one at the place decides
pub any_here : (q : Entry → Bool) (es : List Entry) (i : ℕ) (r : Bool) → r ≡ option_map_or q (slice_get es i) false → r ≡ true → true ≡ list_any q (drop i es)
any_here q es i r h f =
    ap (λ (s : Bool). s || list_any q (drop (suc i) es)) (sym f ∙ h) ∙ sym (any_more q es i)

pub referred_is : (x : Name) (es : List Entry) → list_any (other_refers x) es ≡ is_referred x (environment es)
referred_is x [] = refl
referred_is x (e ∷ es) = ap (λ (s : Bool). other_refers x e || s) (referred_is x es)

-- how many datatypes are left
count_more : (es : List Entry) (i : ℕ) → datatypes (drop i es) ≡ (if option_map_or (λ b. is_type b.1) (slice_get es i) false then 1 + datatypes (drop (suc i) es) else datatypes (drop (suc i) es))
count_more [] zero = refl
count_more [] (suc i) = refl
count_more (e ∷ es) zero = refl
count_more (e ∷ es) (suc i) = count_more es i

pub count_there : (es : List Entry) (i : ℕ) (r : Bool) → r ≡ option_map_or (λ b. is_type b.1) (slice_get es i) false → r ≡ true → datatypes (drop i es) ≡ 1 + datatypes (drop (i + 1) es)
count_there es i r h f =
    count_more es i ∙ ap (λ (s : Bool). if s then 1 + datatypes (drop (suc i) es) else datatypes (drop (suc i) es)) (sym h ∙ f)
    ∙ ap (λ (n : ℕ). 1 + datatypes (drop n es)) (next i)

pub count_passed : (es : List Entry) (i : ℕ) (r : Bool) → r ≡ option_map_or (λ b. is_type b.1) (slice_get es i) false → r ≡ false → datatypes (drop i es) ≡ datatypes (drop (i + 1) es)
count_passed es i r h f =
    count_more es i ∙ ap (λ (s : Bool). if s then 1 + datatypes (drop (suc i) es) else datatypes (drop (suc i) es)) (sym h ∙ f)
    ∙ ap (λ (n : ℕ). datatypes (drop n es)) (next i)
