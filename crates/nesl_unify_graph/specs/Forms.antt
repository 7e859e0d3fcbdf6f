-- Types of a graph, looked at one node at a time.
use Rattle.std.specs.Prelude.{◌≡◌, ◌<◌, ◌≤◌, ◌-◌, ◌+◌, ◌*◌, ℕ}
use Rattle.std.specs.Prelude.{suc, List, [], ◌∷◌, length}
use Rattle.nesl_types_shared.specs.Term.{Term, int, bool, char, variable, seq_of, pair_of, named, nodes}
use Rattle.nesl_types_shared.specs.Numbering.{IsBelow}
use Rattle.nesl_types_shared.specs.Types.{type_at}
use Rattle.nesl_types_shared.specs.declared.shape.Shape.{Shape}
use Rattle.nesl_types_shared.specs.declared.shape.Shape.TheVariants as shape
use Rattle.nesl_unify_graph.specs.declared.node.Node.{Node}
use Rattle.nesl_unify_graph.specs.declared.instances.Instances.{Instances}
use Rattle.nesl_unify_graph.specs.declared.form.Item.{Item}
use Rattle.nesl_unify_graph.specs.declared.form.Item.TheVariants.{At, Part}
use Rattle.nesl_unify_graph.specs.declared.form.Form.{Form}
use Rattle.nesl_unify_graph.specs.declared.form.Form.TheVariants.{Free, Int, Bool, Char, Named, SeqOf, Both}
use Rattle.nesl_unify_graph.specs.declared.form.Settled.{Settled}
use Rattle.nesl_unify_graph.specs.declared.form.Settled.TheVariants as settled
use Rattle.nesl_unify_graph.specs.Instances.{parts_in, base_in, instance_type}
use Rattle.nesl_unify_graph.specs.Graph.{node_at, node_type}
use Rattle.nesl_unify_graph.specs.Readings.{unrolled}
use Rattle.nesl_unify_graph.specs.Tables.{IsTable}

-- a table, whichever of its places may be free
abbrev pub IsTableOf : Instances → List Node → Type 0
IsTableOf i ns = (count : ℕ) × IsTable i count ns

-- the type of an item, where `w` gives the types at the places of a graph
abbrev pub item_type : Instances → (ℕ → Term) → Item → Term
item_type i w (At p) = w p
item_type i w (Part r k) = instance_type i w r (type_at (parts_in i r) k)

-- the type of a form
abbrev pub form_type : Instances → (ℕ → Term) → Form → Term
form_type i w (Free p) = variable p
form_type i w Int = int
form_type i w Bool = bool
form_type i w Char = char
form_type i w (Named n) = named n
form_type i w (SeqOf x) = seq_of (item_type i w x)
form_type i w (Both x y) = pair_of (item_type i w x) (item_type i w y)

-- the form of a part of instance r with a shape other than a variable
abbrev pub shape_form : ℕ → Shape → Form
shape_form r shape.Int = Int
shape_form r shape.Bool = Bool
shape_form r shape.Char = Char
shape_form r (shape.Var v) = Free v
shape_form r (shape.Named n) = Named n
shape_form r (shape.SeqOf p) = SeqOf (Part r p)
shape_form r (shape.Both p q) = Both (Part r p) (Part r q)

-- an instance has a part, and a place for each variable of it
pub record HasPart (i : Instances) (r p : ℕ) : Type 0 where
  pub made : r < length i.made.items
  pub within : p < length (parts_in i r)
  pub below : IsBelow (length i.fresh.items - base_in i r) (type_at (parts_in i r) p)

-- a type of a graph of n places
abbrev pub IsItem : Instances → ℕ → Item → Type 0
IsItem i n (At p) = p < n
IsItem i n (Part r k) = HasPart i r k

-- the parts of a form
abbrev pub form_parts : Form → List Item
form_parts (Free p) = []
form_parts Int = []
form_parts Bool = []
form_parts Char = []
form_parts (Named n) = []
form_parts (SeqOf x) = x ∷ []
form_parts (Both x y) = x ∷ y ∷ []

abbrev pub AreItems : Instances → ℕ → Form → Type 0
AreItems i n (Free p) = Unit {0}
AreItems i n Int = Unit {0}
AreItems i n Bool = Unit {0}
AreItems i n Char = Unit {0}
AreItems i n (Named m) = Unit {0}
AreItems i n (SeqOf x) = IsItem i n x
AreItems i n (Both x y) = IsItem i n x × IsItem i n y

-- the type of an item is the one that was settled
abbrev pub IsSettled : Instances → Item → Settled → Type 0
IsSettled i x (settled.At p) = (w : ℕ → Term) → item_type i w x ≡ w p
IsSettled i x (settled.Made f) = (w : ℕ → Term) → item_type i w x ≡ form_type i w f

abbrev pub IsSettledBelow : Instances → ℕ → Settled → Type 0
IsSettledBelow i n (settled.At p) = p < n
IsSettledBelow i n (settled.Made f) = AreItems i n f

-- the type at a place has a form, one step away
abbrev pub IsFormAt : Instances → List Node → ℕ → Form → Type 0
IsFormAt i ns p f = (w : ℕ → Term) → node_type i w (variable p) (node_at ns p) ≡ form_type i w f

-- the type of an item has a form, at most two steps away
pub record IsForm (i : Instances) (ns : List Node) (x : Item) (f : Form) : Type 0 where
  pub reads : (far : ℕ → Term) (n : ℕ) →
      (m : ℕ) × ((n ≤ m) × (item_type i (unrolled i ns far (suc (suc n))) x ≡ form_type i (unrolled i ns far m) f))

-- t is the type of an item, however far one reads on
abbrev pub IsItemRead : Instances → List Node → Item → Term → Type 0
IsItemRead i ns x t = (far : ℕ → Term) (n : ℕ) → 2 * nodes t ≤ n → item_type i (unrolled i ns far n) x ≡ t

-- the types of items are read, and have k nodes together
abbrev pub AreItemsRead : Instances → List Node → List Item → ℕ → Type 0
AreItemsRead i ns [] k = k ≡ 0
AreItemsRead i ns (x ∷ xs) k =
    (t : Term) × ((j : ℕ) × (IsItemRead i ns x t × (AreItemsRead i ns xs j × (k ≡ nodes t + j))))

-- the type at place p, as far as n steps away
abbrev pub near : Instances → List Node → ℕ → ℕ → Term
near i ns n p = unrolled i ns (λ q. int) n p

-- the type at place p has more than `most` nodes, if it is read far enough
abbrev pub IsLarger : Instances → List Node → ℕ → ℕ → Type 0
IsLarger i ns most p = (n : ℕ) × (most < nodes (near i ns n p))
