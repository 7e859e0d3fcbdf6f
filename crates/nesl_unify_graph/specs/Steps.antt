-- How places of a table are made one, step by step.
use Rattle.std.specs.Prelude.{◌≡◌, ◌↔◌, ◌<◌, ◌≤◌, ◌+◌, ◌-◌, ◌*◌, ℕ, List, [], ◌∷◌, ◌++◌, All, length, slice_set, sum_by}
use Rattle.nesl_types_shared.specs.Term.{Term, nodes}
use Rattle.nesl_types_shared.specs.Numbering.{IsBelow}
use Rattle.nesl_types_shared.specs.Substitution.{substitute}
use Rattle.nesl_types_shared.specs.Types.{type_at}
use Rattle.nesl_types_shared.specs.Lists.{parts_of}
use Rattle.nesl_unify_graph.specs.declared.node.Node.{Node}
use Rattle.nesl_unify_graph.specs.declared.node.Node.TheVariants.{Free, Same, Int, Bool, Char, Named, SeqOf, Both, Part}
use Rattle.nesl_unify_graph.specs.declared.instances.Instances.{Instances}
use Rattle.nesl_unify_graph.specs.declared.unify.Pair.{Pair}
use Rattle.nesl_unify_graph.specs.declared.twins.Twins.{Twins}
use Rattle.nesl_unify_graph.specs.declared.unify.Rest.{Rest}
use Rattle.nesl_unify_graph.specs.declared.unify.Rest.TheVariants.{Nothing, One, Two}
use Rattle.nesl_unify_graph.specs.declared.unify.Meeting.{Meeting}
use Rattle.nesl_unify_graph.specs.declared.unify.Meeting.TheVariants.{Where, Never, Later}
use Rattle.nesl_unify_graph.specs.Instances.{parts_in, base_in, instance_type, IsPart, AreBelow}
use Rattle.nesl_unify_graph.specs.Graph.{node_at, node_type, Fits, target}
use Rattle.nesl_unify_graph.specs.Tables.{IsPlaced, IsTable, Continues, IsPairBelow, AreEqual}

-- each link leads to a smaller place
abbrev pub LeadDown : List Node → Type 0
LeadDown ns = (p q : ℕ) → node_at ns p ≡ Same q → q < p

-- a node, where a link leads on to where the next link leads
abbrev pub shortened : List Node → Node → Node
shortened ns Free = Free
shortened ns (Same q) = Same (target ns q)
shortened ns Int = Int
shortened ns Bool = Bool
shortened ns Char = Char
shortened ns (Named m) = Named m
shortened ns (SeqOf q) = SeqOf q
shortened ns (Both q r) = Both q r
shortened ns (Part r k) = Part r k

-- all places that the nodes and the instances name are places of the table
pub record IsGraph (i : Instances) (ns : List Node) : Type 0 where
  pub below : AreBelow (length ns) i
  pub table : IsTable i (length ns) ns

-- a part of an instance's type
abbrev pub part_type : Instances → ℕ → ℕ → Term
part_type i r k = type_at (parts_in i r) k

-- how many steps a node takes at most: it is joined and expanded, and so are all its parts
abbrev pub weight : Instances → Node → ℕ
weight i Free = 2
weight i (Same q) = 0
weight i Int = 2
weight i Bool = 2
weight i Char = 2
weight i (Named m) = 2
weight i (SeqOf q) = 2
weight i (Both q r) = 2
weight i (Part r k) = 4 * nodes (part_type i r k) + 1

-- 1 for a part of an instance, which can be expanded
abbrev pub expandable : Node → ℕ
expandable Free = 0
expandable (Same q) = 0
expandable Int = 0
expandable Bool = 0
expandable Char = 0
expandable (Named m) = 0
expandable (SeqOf q) = 0
expandable (Both q r) = 0
expandable (Part r k) = 1

-- an instance has a part, and a place for each variable of it
pub record IsPiece (i : Instances) (r k : ℕ) : Type 0 where
  pub made : r < length i.made.items
  pub within : k < length (parts_in i r)
  pub below : IsBelow (length i.fresh.items - base_in i r) (part_type i r k)

-- the types of the places from n on are as the graph says
abbrev pub FitsFrom : Instances → (ℕ → Term) → ℕ → List Node → Type 0
FitsFrom i w n ns = (p : ℕ) → n ≤ p → w p ≡ node_type i w (w p) (node_at ns p)

-- the part k of instance r is at a place of new, which is old, or old with one more place
pub record IsPut (i : Instances) (old new : List Node) (r k place : ℕ) : Type 0 where
  pub longer : length old ≤ length new
  pub kept : (p : ℕ) → p < length old → node_at new p ≡ node_at old p
  pub added : (p : ℕ) → length old ≤ p → p < length new → (node_at new p ≡ Part r k) × IsPart i r k
  pub within : AreBelow (length old) i → place < length new
  pub here : (w : ℕ → Term) → FitsFrom i w (length old) new → w place ≡ instance_type i w r (part_type i r k)
  pub fewer : sum_by (weight i) new ≤ sum_by (weight i) old + (4 * nodes (part_type i r k) + 1)

-- a node is a part of the part k of instance r
pub record IsPieceOf (i : Instances) (r k : ℕ) (n : Node) : Type 0 where
  pub part : ℕ
  pub node : n ≡ Part r part
  pub is : IsPart i r part
  pub small : (s : ℕ → Term) → nodes (substitute s (part_type i r part)) ≤ nodes (substitute s (part_type i r k))

-- n is what the part k of instance r is made of, with its parts at places of new, which is old with more places
pub record IsSpread (i : Instances) (old new : List Node) (r k : ℕ) (n : Node) : Type 0 where
  pub longer : length old ≤ length new
  pub kept : (p : ℕ) → p < length old → node_at new p ≡ node_at old p
  pub added : (p : ℕ) → length old ≤ p → p < length new → IsPieceOf i r k (node_at new p)
  pub here :
      (w : ℕ → Term) (t : Term) → FitsFrom i w (length old) new →
      node_type i w t n ≡ instance_type i w r (part_type i r k)
  pub placed : (count p : ℕ) → IsPlaced i count (length new) p n
  pub fewer : sum_by (weight i) new + weight i n ≤ sum_by (weight i) old + 4 * nodes (part_type i r k)

-- the types w of n places can be continued to all of the table, so that the pairs are equal
pub record AreContinued (i : Instances) (n : ℕ) (w : ℕ → Term) (ns : List Node) (pairs : List Pair) : Type 0 where
  pub types : ℕ → Term
  pub continues : Continues n w types
  pub fits : Fits i types ns
  pub equal : AreEqual types pairs

-- new with the pairs qs says what old says with the pairs ps; it may have more places
pub record Moves (i : Instances) (old : List Node) (ps : List Pair) (new : List Node) (qs : List Pair) : Type 0 where
  pub longer : length old ≤ length new
  pub sound : (w : ℕ → Term) → Fits i w new → AreEqual w qs → Fits i w old × AreEqual w ps
  pub complete : (w : ℕ → Term) → Fits i w old → AreEqual w ps → AreContinued i (length old) w new qs

-- new has shorter links than old, in which the links from a pair's places end at the places `ends`
pub record IsFound (i : Instances) (old new : List Node) (pair ends : Pair) : Type 0 where
  pub len : length new ≡ length old
  pub same : (w : ℕ → Term) → Fits i w new ↔ Fits i w old
  pub equal : (w : ℕ → Term) → Fits i w new → (w pair.first ≡ w pair.second) ↔ (w ends.first ≡ w ends.second)
  pub table : (count : ℕ) → IsTable i count old → IsTable i count new
  pub weight : sum_by (weight i) new ≡ sum_by (weight i) old

-- of two nodes the one that isn't free
abbrev pub merged : Node → Node → Node
merged Free n = n
merged (Same q) n = Same q
merged Int n = Int
merged Bool n = Bool
merged Char n = Char
merged (Named m) n = Named m
merged (SeqOf q) n = SeqOf q
merged (Both q r) n = Both q r
merged (Part r k) n = Part r k

-- what is known of two places is at `low`, to which `high` is linked
abbrev pub joined : List Node → ℕ → ℕ → List Node
joined ns low high = slice_set (slice_set ns low (merged (node_at ns low) (node_at ns high))) high (Same low)

abbrev pub pairs_of : Rest → List Pair
pairs_of Nothing = []
pairs_of (One p) = p ∷ []
pairs_of (Two p q) = p ∷ (q ∷ [])

-- what two nodes say of a type is what one of them says of it, where these pairs are equal
abbrev pub AgreeWhere : Instances → Node → Node → List Pair → Type 0
AgreeWhere i a b pairs =
    (w : ℕ → Term) (t : Term) →
    ((t ≡ node_type i w t a) × (t ≡ node_type i w t b)) ↔ ((t ≡ node_type i w t (merged a b)) × AreEqual w pairs)

abbrev pub Agree : Instances → Node → Node → Rest → Type 0
Agree i a b rest = AgreeWhere i a b (pairs_of rest)

-- the places of the rest are places of a table of which the nodes are
abbrev pub LieBelow : Instances → Node → Node → Rest → Type 0
LieBelow i a b rest =
    (n low high : ℕ) → IsPlaced i n n low a → IsPlaced i n n high b → All (IsPairBelow n) (pairs_of rest)

-- no type is both
abbrev pub Differ : Instances → Node → Node → Type 0
Differ i a b = (w : ℕ → Term) (t : Term) → t ≡ node_type i w t a → t ≡ node_type i w t b → ⊥

-- what two nodes are together
abbrev pub IsMeeting : Node → Node → Meeting → Type 0
IsMeeting a b (Where rest) = (i : Instances) → Agree i a b rest × LieBelow i a b rest
IsMeeting a b Never = (i : Instances) → Differ i a b
IsMeeting a b Later = 1 ≤ expandable a + expandable b

-- the nodes are two instances of one whole type
pub record AreTwins (i : Instances) (a b : Node) (x : Twins) : Type 0 where
  pub part : ℕ
  pub whole : Term
  pub first : a ≡ Part x.first part
  pub second : b ≡ Part x.second part
  pub parts : parts_in i x.first ≡ parts_of whole
  pub same : parts_in i x.second ≡ parts_of whole
  pub here : type_at (parts_of whole) part ≡ whole

-- both instances are of the type t, with a place for each variable of it
pub record HaveWhole (i : Instances) (x : Twins) (t : Term) : Type 0 where
  pub parts : parts_in i x.first ≡ parts_of t
  pub same : parts_in i x.second ≡ parts_of t
  pub first : IsBelow (length i.fresh.items - base_in i x.first) t
  pub second : IsBelow (length i.fresh.items - base_in i x.second) t
  pub place : ℕ
  pub within : place < length (parts_of t)
  pub here : type_at (parts_of t) place ≡ t

-- the instances are one just where these pairs are equal, which were added
pub record IsMatched (i : Instances) (x : Twins) (t : Term) (old new : List Pair) : Type 0 where
  pub pairs : List Pair
  pub is : new ≡ old ++ pairs
  pub one : (w : ℕ → Term) → (instance_type i w x.first t ≡ instance_type i w x.second t) ↔ AreEqual w pairs
  pub below : (n : ℕ) → AreBelow n i → All (IsPairBelow n) pairs
  pub few : length pairs ≤ nodes t
