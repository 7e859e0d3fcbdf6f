-- How the weight and the number of nodes of values change, as a child is taken out of one and another value is put in its place.
use Rattle.std.proofs.Common.{◌≡◌, ℕ, zero, suc, ◌+◌, ◌<◌, ◌≤◌, List, [], ◌∷◌, ◌++◌, length, get_or, set, ap, arith}
use Rattle.nesl_values.specs.Tree.{size, sizes}
use Rattle.nesl_values.specs.View.{tree_of, parts_tree, trees_view}
use Rattle.nesl_values.specs.Weight.{weight}
use Rattle.nesl_values.specs.Dropping.{heft}
use Rattle.nesl_values.specs.declared.value.Value.{Value}
use Rattle.nesl_values.specs.declared.node.Parts.{Parts}
use Rattle.nesl_values.specs.declared.node.Parts.TheVariants.{Pair, Tagged, Seq, Ints, Bools, Chars}

pub weight_positive : {A : Type 0} → (p : Parts A) → 0 < weight (parts_tree p)
weight_positive (Pair l r) = omega arith
weight_positive (Tagged n v) = omega arith
weight_positive (Seq vs) = omega arith
weight_positive (Ints ns) = omega arith
weight_positive (Bools bs) = omega arith
weight_positive (Chars cs) = omega arith

heft-set : {A : Type 0} → (vs : List (Value A)) (i : ℕ) (y d : Value A) → i < length vs → heft (set vs i y) + weight (tree_of (get_or vs i d)) ≡ heft vs + weight (tree_of y)
heft-set [] i y d h = absurd (omega arith)
heft-set (v ∷ vs) zero y d h = omega arith
heft-set (v ∷ vs) (suc i) y d h = omega (arith, heft-set vs i y d (omega arith))

heft-at : {A : Type 0} → (vs : List (Value A)) (i : ℕ) (d : Value A) → i < length vs → weight (tree_of (get_or vs i d)) < heft vs
heft-at [] i d h = absurd (omega arith)
heft-at (v ∷ vs) zero d h = omega arith
heft-at (v ∷ vs) (suc i) d h = omega (arith, heft-at vs i d (omega arith))

sizes-set : {A : Type 0} → (vs : List (Value A)) (i : ℕ) (y d : Value A) → i < length vs → sizes (trees_view (set vs i y)) + size (tree_of (get_or vs i d)) ≡ sizes (trees_view vs) + size (tree_of y)
sizes-set [] i y d h = absurd (omega arith)
sizes-set (v ∷ vs) zero y d h = omega arith
sizes-set (v ∷ vs) (suc i) y d h = omega (arith, sizes-set vs i y d (omega arith))

sizes-at : {A : Type 0} → (vs : List (Value A)) (i : ℕ) (d : Value A) → i < length vs → size (tree_of (get_or vs i d)) ≤ sizes (trees_view vs)
sizes-at [] i d h = absurd (omega arith)
sizes-at (v ∷ vs) zero d h = omega arith
sizes-at (v ∷ vs) (suc i) d h = omega (arith, sizes-at vs i d (omega arith))

-- the child `x` makes way for `y`
pub record Exchange {A : Type 0} (vs : List (Value A)) (i : ℕ) (x y : Value A) : Type 0 where
  pub weights_after : weight (tree_of x) + heft (set vs i y) ≡ heft vs + weight (tree_of y)
  pub lighter : weight (tree_of x) < heft vs
  pub sizes_after : size (tree_of x) + sizes (trees_view (set vs i y)) ≡ sizes (trees_view vs) + size (tree_of y)
  pub within : size (tree_of x) ≤ sizes (trees_view vs)

pub exchanged : {A : Type 0} → (vs : List (Value A)) (x y : Value A) (i : ℕ) → i < length vs → x ≡ get_or vs i x → Exchange vs i x y
exchanged vs x y i h at =
    let here : weight (tree_of x) ≡ weight (tree_of (get_or vs i x)) = ap (λ u. weight (tree_of u)) at in
    let there : size (tree_of x) ≡ size (tree_of (get_or vs i x)) = ap (λ u. size (tree_of u)) at in
    record {
      weights_after = omega (arith, heft-set vs i y x h);
      lighter = omega (arith, heft-at vs i x h);
      sizes_after = omega (arith, sizes-set vs i y x h);
      within = omega (arith, sizes-at vs i x h);
    }

pub heft-append : {A : Type 0} → (us : List (Value A)) (v : Value A) → heft (us ++ v ∷ []) ≡ heft us + 1 + weight (tree_of v)
heft-append [] v = omega arith
heft-append (u ∷ us) v = omega (arith, heft-append us v)

pub sizes-push : {A : Type 0} → (us : List (Value A)) (v : Value A) → sizes (trees_view (us ++ v ∷ [])) ≡ sizes (trees_view us) + size (tree_of v)
sizes-push [] v = omega arith
sizes-push (u ∷ us) v = omega (arith, sizes-push us v)
