-- How many nodes the types of a graph have.
use Rattle.std.specs.Prelude.{◌≡◌, ◌<◌, ◌≤◌, ◌+◌, ◌*◌, ℕ, suc, List, [], slice_index, length}
use Rattle.nesl_types_shared.specs.Term.{Term, int, bool, char, variable, seq_of, pair_of, named, nodes}
use Rattle.nesl_unify_graph.specs.declared.node.Node.{Node}
use Rattle.nesl_unify_graph.specs.declared.node.Node.TheVariants.{Free, Same, Int, Bool, Char, Named, SeqOf, Both, Part}
use Rattle.nesl_unify_graph.specs.declared.instances.Instances.{Instances}
use Rattle.nesl_unify_graph.specs.declared.form.Item.{Item}
use Rattle.nesl_unify_graph.specs.declared.walk.Look.{Look}
use Rattle.nesl_unify_graph.specs.declared.walk.Look.TheVariants.{Known, Open}
use Rattle.nesl_unify_graph.specs.Instances.{place_in}
use Rattle.nesl_unify_graph.specs.Graph.{node_at, node_type, target}
use Rattle.nesl_unify_graph.specs.Readings.{unrolled}
use Rattle.nesl_unify_graph.specs.Forms.{near, form_parts, AreItems, IsForm, IsFormAt, IsItemRead}

-- t is the type at a place without a link, read one step sooner than at a place that is linked to it
abbrev pub IsRootRead : Instances → List Node → ℕ → Term → Type 0
IsRootRead i ns p t = (far : ℕ → Term) (n : ℕ) → 2 * nodes t ≤ suc n → unrolled i ns far n p ≡ t

-- the type at a place without a link has k nodes
abbrev pub IsRootSize : Instances → List Node → ℕ → ℕ → Type 0
IsRootSize i ns p k = (t : Term) × (IsRootRead i ns p t × (nodes t ≡ k))

-- the type of an item has k nodes
abbrev pub IsItemSize : Instances → List Node → Item → ℕ → Type 0
IsItemSize i ns x k = (t : Term) × (IsItemRead i ns x t × (nodes t ≡ k))

-- it has no more than `most`
abbrev pub IsSizeWithin : Instances → List Node → ℕ → ℕ → ℕ → Type 0
IsSizeWithin i ns most p k = IsRootSize i ns p k × (k ≤ most)

-- the sizes that are known of types at places without links: no more than `most`, and 0 where none is known
abbrev pub AreSizes : Instances → List Node → ℕ → List ℕ → Type 0
AreSizes i ns most sizes = (p : ℕ) → 0 < slice_index sizes p → IsSizeWithin i ns most p (slice_index sizes p)

-- k is how many nodes the type of a node has that is made of types of known sizes
abbrev pub IsMadeSize : List Node → List ℕ → Node → ℕ → Type 0
IsMadeSize ns sizes Free k = ⊥
IsMadeSize ns sizes (Same q) k = ⊥
IsMadeSize ns sizes Int k = ⊥
IsMadeSize ns sizes Bool k = ⊥
IsMadeSize ns sizes Char k = ⊥
IsMadeSize ns sizes (Named m) k = ⊥
IsMadeSize ns sizes (SeqOf q) k =
    (0 < slice_index sizes (target ns q)) × (k ≡ 1 + slice_index sizes (target ns q))
IsMadeSize ns sizes (Both q r) k =
    (0 < slice_index sizes (target ns q))
    × ((0 < slice_index sizes (target ns r))
    × (k ≡ 1 + slice_index sizes (target ns q) + slice_index sizes (target ns r)))
IsMadeSize ns sizes (Part r p) k = ⊥

-- the type at a place without a link has one node, and no parts elsewhere
pub record IsLeaf (i : Instances) (ns : List Node) (p : ℕ) : Type 0 where
  pub same : (w : ℕ → Term) → node_type i w (variable p) (node_at ns p) ≡ near i ns 1 p
  pub one : nodes (near i ns 1 p) ≡ 1

-- the types of all variables of a type of an instance have one node each
abbrev pub HasLeaves : Instances → List Node → ℕ → Term → Type 0
HasLeaves i ns r int = Unit {0}
HasLeaves i ns r bool = Unit {0}
HasLeaves i ns r char = Unit {0}
HasLeaves i ns r (variable v) = IsLeaf i ns (target ns (place_in i r v))
HasLeaves i ns r (seq_of t) = HasLeaves i ns r t
HasLeaves i ns r (pair_of t u) = HasLeaves i ns r t × HasLeaves i ns r u
HasLeaves i ns r (named n) = Unit {0}

-- k is how many nodes a type of an instance has, where the types of its variables have one node each; 0 says nothing
abbrev pub IsLeafSize : Instances → List Node → ℕ → Term → ℕ → Type 0
IsLeafSize i ns r t k = 0 < k → HasLeaves i ns r t × (k ≡ nodes t)

-- so are the sizes of the first n types that `f` gives
abbrev pub AreLeafSizes : Instances → List Node → ℕ → (ℕ → Term) → ℕ → List ℕ → Type 0
AreLeafSizes i ns r f n sizes = (p : ℕ) → p < n → IsLeafSize i ns r (f p) (slice_index sizes p)

-- the nodes of a type that were counted when it was looked at
abbrev pub look_nodes : Look → ℕ
look_nodes (Known k) = k
look_nodes (Open f) = 1

-- the parts that are still to be counted
abbrev pub look_parts : Look → List Item
look_parts (Known k) = []
look_parts (Open f) = form_parts f

-- the type at a place without a link was looked at
abbrev pub IsRootLook : Instances → List Node → ℕ → Look → Type 0
IsRootLook i ns p (Known k) = IsRootSize i ns p k
IsRootLook i ns p (Open f) = IsFormAt i ns p f × AreItems i (length ns) f

-- the type of an item was looked at
abbrev pub IsLook : Instances → List Node → Item → Look → Type 0
IsLook i ns x (Known k) = IsItemSize i ns x k
IsLook i ns x (Open f) = IsForm i ns x f × AreItems i (length ns) f
