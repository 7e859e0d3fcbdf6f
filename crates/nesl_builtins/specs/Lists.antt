-- Which lists of shapes are types.
use Rattle.std.specs.Prelude.{◌≡◌, ◌<◌, length, ℕ, suc, Bool as Bool', true, false, not, ◌&&◌, nat_eq, nat_lt}
use Rattle.std.specs.Prelude.{List, [], ◌∷◌}
use Rattle.std.specs.List.{list_any}
use Rattle.nesl_types_shared.specs.Lists.{last_type}
use Rattle.nesl_types_shared.specs.Term.{Term}
use Rattle.nesl_types_shared.specs.Types.{types}
use Rattle.nesl_types_shared.specs.declared.shape.Shape.{Shape}
use Rattle.nesl_types_shared.specs.declared.shape.Shape.TheVariants.{Int, Bool, Char, Var, Named, SeqOf, Both}

-- whether its parts are at places below n
abbrev pub is_below : ℕ → Shape → Bool'
is_below n Int = true
is_below n Bool = true
is_below n Char = true
is_below n (Var v) = true
is_below n (Named m) = true
is_below n (SeqOf p) = nat_lt p n
is_below n (Both p q) = nat_lt p n && nat_lt q n

abbrev pub is_equal : Shape → Shape → Bool'
is_equal Int Int = true
is_equal Bool Bool = true
is_equal Char Char = true
is_equal (Var v) (Var w) = nat_eq v w
is_equal (Named m) (Named n) = nat_eq m n
is_equal (SeqOf p) (SeqOf q) = nat_eq p q
is_equal (Both p q) (Both r s) = nat_eq p r && nat_eq q s
is_equal x y = false

-- whether each is made of those before it, which are n and more
abbrev pub are_made : ℕ → List Shape → Bool'
are_made n [] = true
are_made n (s ∷ ss) = is_below n s && are_made (suc n) ss

-- whether none occurs twice
abbrev pub are_apart : List Shape → Bool'
are_apart [] = true
are_apart (s ∷ ss) = not (list_any (is_equal s) ss) && are_apart ss

-- whether they are the shapes of types, each made of earlier ones
abbrev pub are_types : List Shape → Bool'
are_types shapes = are_made 0 shapes && are_apart shapes

-- whether they are the shapes of types of which the last is that one
abbrev pub IsList : List Shape → Term → Type 0
IsList shapes t = (are_types shapes ≡ true) × (0 < length shapes) × (last_type (types shapes) ≡ t)
