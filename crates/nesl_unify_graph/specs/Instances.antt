-- Types that stand for many, with places of a graph for their variables.
use Rattle.std.specs.Prelude.{◌≡◌, ◌<◌, ◌-◌, ◌+◌, ℕ, List, [], All, length, slice_get, slice_index}
use Rattle.std.specs.Option.{option_map_or}
use Rattle.nesl_types_shared.specs.Term.{Term, variable}
use Rattle.nesl_types_shared.specs.Numbering.{IsBelow}
use Rattle.nesl_types_shared.specs.Substitution.{substitute}
use Rattle.nesl_types_shared.specs.Types.{type_at}
use Rattle.nesl_types_shared.specs.Lists.{parts_of}
use Rattle.nesl_unify_graph.specs.declared.instances.Source.{Source}
use Rattle.nesl_unify_graph.specs.declared.instances.Source.TheVariants.{Shared, Own}
use Rattle.nesl_unify_graph.specs.declared.instances.Instances.{Instances}

-- the types among which the parts of an instance are
abbrev pub parts_from : Instances → Source → List Term
parts_from i Shared = i.shared
parts_from i (Own t) = parts_of t

abbrev pub parts_in : Instances → ℕ → List Term
parts_in i r = option_map_or (λ e. parts_from i e.source) (slice_get i.made.items r) []

abbrev pub base_in : Instances → ℕ → ℕ
base_in i r = option_map_or (λ e. e.base) (slice_get i.made.items r) 0

-- the place of variable v of an instance
abbrev pub place_in : Instances → ℕ → ℕ → ℕ
place_in i r v = slice_index i.fresh.items (base_in i r + v)

-- a type of an instance, where `w` gives the types at the places of a graph
abbrev pub instance_type : Instances → (ℕ → Term) → ℕ → Term → Term
instance_type i w r t = substitute (λ v. w (place_in i r v)) t

-- an instance has a part, and a place for each variable of it; the part is no variable
pub record IsPart (i : Instances) (r p : ℕ) : Type 0 where
  pub made : r < length i.made.items
  pub within : p < length (parts_in i r)
  pub below : IsBelow (length i.fresh.items - base_in i r) (type_at (parts_in i r) p)
  pub whole : (v : ℕ) → type_at (parts_in i r) p ≡ variable v → ⊥

-- the places of all variables are below n
abbrev pub AreBelow : ℕ → Instances → Type 0
AreBelow n i = All (λ q. q < n) i.fresh.items
