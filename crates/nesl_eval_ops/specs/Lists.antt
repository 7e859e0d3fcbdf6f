-- The parts and the bindings of lists of codes.
use Rattle.std.specs.Prelude.{◌≡◌, ℕ, suc, ◌-◌, List, [], ◌∷◌, map, slice_get, Some, None, ◌⊎◌}
use Rattle.nesl_eval_code.specs.declared.code.Code.{Code}
use Rattle.nesl_eval_code.specs.Block.{Block, bind}
use Rattle.nesl_eval_code.specs.Flat.{Part, part, leaf_of, flat}

-- the part that code is at a height, where frames have these sizes
abbrev pub part_on : ℕ → List ℕ → Code → Part
part_on h ks c = part (leaf_of ks c) (λ b. flat h ks c (Some b))

abbrev pub parts_on : ℕ → List ℕ → List Code → List Part
parts_on h ks = map (part_on h ks)

-- bindings, each of which sees those before it, of which there are k, and then a block that sees them all
abbrev pub binding_on : ℕ → List ℕ → ℕ → List Code → (ℕ → Block) → Block
binding_on h ks k [] f = f k
binding_on h ks k (c ∷ cs) f = flat h (k ∷ ks) c (Some (bind (binding_on h ks (suc k) cs f)))

-- code is no leaf, whatever the sizes are
abbrev pub IsNoLeaf : Code → Type 0
IsNoLeaf c = (ks : List ℕ) → leaf_of ks c ≡ None

-- nothing is before the place, or what is there is no leaf
abbrev pub EndsAt : List Code → ℕ → Type 0
EndsAt cs k = (k ≡ 0) ⊎ ((c : Code) × (slice_get cs (k - 1) ≡ Some c) × IsNoLeaf c)
