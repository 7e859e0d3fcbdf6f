-- Walks over the nodes of a type.
use Rattle.std.proofs.Common.{◌≡◌, inl, inr, ℕ, zero, suc, ◌+◌, ◌-◌, ◌*◌, ◌<◌, ◌≤◌, List, [], ◌∷◌, ◌++◌, All, length, Some, refl, sym, ap, subst, ◌∙◌, arith}
use Rattle.std.proofs.lemmas.Bool.{cases_lt}
use Rattle.std.proofs.lemmas.List.Elements.{All-nil, All-cons, All-append, All-pop}
use Rattle.nesl_types_shared.specs.Term.{Term, int, bool, char, variable, seq_of, pair_of, named, nodes}
use Rattle.nesl_types_shared.specs.Substitution.{substitute}
use Rattle.nesl_types_shared.specs.Types.{type_at}
use Rattle.nesl_types_shared.proofs.Nodes.{nodes_positive}
use Rattle.nesl_unify_graph.specs.declared.node.Node.{Node}
use Rattle.nesl_unify_graph.specs.declared.node.Node.TheVariants as node
use Rattle.nesl_unify_graph.specs.declared.instances.Instances.{Instances}
use Rattle.nesl_unify_graph.specs.declared.form.Item.{Item}
use Rattle.nesl_unify_graph.specs.declared.form.Item.TheVariants.{At, Part}
use Rattle.nesl_unify_graph.specs.declared.form.Form.{Form}
use Rattle.nesl_unify_graph.specs.declared.form.Form.TheVariants.{Free, Int, Bool, Char, Named, SeqOf, Both}
use Rattle.nesl_unify_graph.specs.declared.walk.Look.{Look}
use Rattle.nesl_unify_graph.specs.declared.walk.Look.TheVariants.{Known, Open}
use Rattle.nesl_unify_graph.specs.Instances.{parts_in, place_in}
use Rattle.nesl_unify_graph.specs.Graph.{node_at, node_type, Fits}
use Rattle.nesl_unify_graph.specs.Readings.{unrolled, Reads}
use Rattle.nesl_unify_graph.specs.Forms.{item_type, form_type, form_parts, IsItem, AreItems, IsForm, IsFormAt, IsItemRead, AreItemsRead, near, IsLarger}
use Rattle.nesl_unify_graph.specs.Sizes.{look_nodes, look_parts, IsRootRead, IsRootSize, IsItemSize, IsSizeWithin, IsRootLook, IsLook}

-- larger types put in place of variables
substitute_grows : (f g : ℕ → Term) → ((v : ℕ) → nodes (f v) ≤ nodes (g v)) → (t : Term) → nodes (substitute f t) ≤ nodes (substitute g t)
substitute_grows f g h int = omega arith
substitute_grows f g h bool = omega arith
substitute_grows f g h char = omega arith
substitute_grows f g h (variable v) = h v
substitute_grows f g h (seq_of t) = omega (arith, substitute_grows f g h t)
substitute_grows f g h (pair_of t u) = omega (arith, substitute_grows f g h t, substitute_grows f g h u)
substitute_grows f g h (named n) = omega arith

node_grows : (i : Instances) (w z : ℕ → Term) (t u : Term) → ((p : ℕ) → nodes (w p) ≤ nodes (z p)) → nodes t ≤ nodes u → (d : Node) →
    nodes (node_type i w t d) ≤ nodes (node_type i z u d)
node_grows i w z t u h l node.Free = l
node_grows i w z t u h l (node.Same q) = h q
node_grows i w z t u h l node.Int = omega arith
node_grows i w z t u h l node.Bool = omega arith
node_grows i w z t u h l node.Char = omega arith
node_grows i w z t u h l (node.Named n) = omega arith
node_grows i w z t u h l (node.SeqOf q) = omega (arith, h q)
node_grows i w z t u h l (node.Both q r) = omega (arith, h q, h r)
node_grows i w z t u h l (node.Part r k) = substitute_grows (λ v. w (place_in i r v)) (λ v. z (place_in i r v)) (λ v. h (place_in i r v)) (type_at (parts_in i r) k)

item_grows : (i : Instances) (w z : ℕ → Term) → ((p : ℕ) → nodes (w p) ≤ nodes (z p)) → (x : Item) → nodes (item_type i w x) ≤ nodes (item_type i z x)
item_grows i w z h (At p) = h p
item_grows i w z h (Part r k) = substitute_grows (λ v. w (place_in i r v)) (λ v. z (place_in i r v)) (λ v. h (place_in i r v)) (type_at (parts_in i r) k)

-- a type read one step further has no fewer nodes
near_grows_one : (i : Instances) (ns : List Node) (n p : ℕ) → nodes (near i ns n p) ≤ nodes (near i ns (suc n) p)
near_grows_one i ns zero p = omega (arith, nodes_positive (near i ns 1 p))
near_grows_one i ns (suc n) p =
    node_grows i (near i ns n) (near i ns (suc n)) (variable p) (variable p) (near_grows_one i ns n) (omega arith) (node_at ns p)

pub near_grows : (i : Instances) (ns : List Node) (m n p : ℕ) → n ≤ m → nodes (near i ns n p) ≤ nodes (near i ns m p)
near_grows i ns zero n p l = let e : n ≡ 0 = omega arith in subst (λ k. nodes (near i ns k p) ≤ nodes (near i ns 0 p)) (sym e) (omega arith)
near_grows i ns (suc m) n p l = elim (cases_lt n (suc m)) [
  | inl s ↦ omega (arith, near_grows i ns m n p (omega arith), near_grows_one i ns m p)
  | inr g ↦ let e : n ≡ suc m = omega arith in subst (λ k. nodes (near i ns k p) ≤ nodes (near i ns (suc m) p)) (sym e) (omega arith)
]

-- the types that fit a graph have no fewer nodes than are read
pub near_fits : (i : Instances) (ns : List Node) (w : ℕ → Term) → Fits i w ns → (n p : ℕ) → nodes (near i ns n p) ≤ nodes (w p)
near_fits i ns w f zero p = omega (arith, nodes_positive (w p))
near_fits i ns w f (suc n) p =
    let l = node_grows i (near i ns n) w (variable p) (w p) (near_fits i ns w f n) (omega (arith, nodes_positive (w p))) (node_at ns p) in
    subst (λ t. nodes (near i ns (suc n) p) ≤ nodes t) (sym (f p)) l

-- a type that was read has no fewer nodes
pub near_read : (i : Instances) (ns : List Node) (n p : ℕ) (u : Term) → Reads i ns p u → nodes (near i ns n p) ≤ nodes u
near_read i ns n p u r =
    let e = r (λ q. int) (n + 2 * nodes u) (omega arith) in
    let l = near_grows i ns (n + 2 * nodes u) n p (omega arith) in
    subst (λ t. nodes (near i ns n p) ≤ nodes t) e l

-- how many nodes the types of items have, as far as n steps away
abbrev pub weight : Instances → List Node → ℕ → List Item → ℕ
weight i ns n [] = 0
weight i ns n (x ∷ xs) = nodes (item_type i (near i ns n) x) + weight i ns n xs

pub weight-append : (i : Instances) (ns : List Node) (n : ℕ) (xs ys : List Item) → weight i ns n (xs ++ ys) ≡ weight i ns n xs + weight i ns n ys
weight-append i ns n [] ys = omega arith
weight-append i ns n (x ∷ xs) ys = omega (arith, weight-append i ns n xs ys)

pub weight_grows : (i : Instances) (ns : List Node) (m n : ℕ) → n ≤ m → (xs : List Item) → weight i ns n xs ≤ weight i ns m xs
weight_grows i ns m n l [] = omega arith
weight_grows i ns m n l (x ∷ xs) = omega (arith, item_grows i (near i ns n) (near i ns m) (λ p. near_grows i ns m n p l) x, weight_grows i ns m n l xs)

weight_of_form : (i : Instances) (ns : List Node) (n : ℕ) (f : Form) → nodes (form_type i (near i ns n) f) ≡ suc (weight i ns n (form_parts f))
weight_of_form i ns n (Free p) = refl
weight_of_form i ns n Int = refl
weight_of_form i ns n Bool = refl
weight_of_form i ns n Char = refl
weight_of_form i ns n (Named m) = refl
weight_of_form i ns n (SeqOf x) = omega arith
weight_of_form i ns n (Both x y) = omega arith

-- the parts of a type have fewer nodes
pub weight_of_parts : (i : Instances) (ns : List Node) (n : ℕ) (x : Item) (f : Form) → IsForm i ns x f →
    suc (weight i ns n (form_parts f)) ≤ nodes (item_type i (near i ns (suc (suc n))) x)
weight_of_parts i ns n x f h =
    let s = h.reads (λ q. int) n in
    let e = ap nodes s.1.1 in
    let g = weight_of_form i ns s.0 f in
    let l = weight_grows i ns s.0 n s.1.0 (form_parts f) in
    omega arith

-- `counted` nodes of the type at a place, and the items of a list, are no more than it has
abbrev pub IsCounted : Instances → List Node → ℕ → ℕ → List Item → Type 0
IsCounted i ns start counted xs = (n : ℕ) → (m : ℕ) × (counted + weight i ns n xs ≤ nodes (near i ns m start))

pub count_first : (i : Instances) (ns : List Node) (start : ℕ) → IsCounted i ns start 0 (At start ∷ [])
count_first i ns start n = (n, omega arith)

-- a nodes of an item's type, and the items of a list, are no more than it has
abbrev pub IsMeasured : Instances → List Node → Item → ℕ → List Item → Type 0
IsMeasured i ns x a zs = (n : ℕ) → (m : ℕ) × ((n ≤ m) × (a + weight i ns n zs ≤ nodes (item_type i (near i ns m) x)))

pub measured_form : (i : Instances) (ns : List Node) (x : Item) (f : Form) → IsForm i ns x f → IsMeasured i ns x 1 (form_parts f)
measured_form i ns x f h n = let p = weight_of_parts i ns n x f h in (suc (suc n), (omega arith, omega arith))

-- an item is looked at
pub count_item : (i : Instances) (ns : List Node) (start counted a : ℕ) (x : Item) (xs zs olds news : List Item) → IsMeasured i ns x a zs →
    ((n : ℕ) → weight i ns n olds ≡ weight i ns n xs + nodes (item_type i (near i ns n) x)) →
    ((n : ℕ) → weight i ns n news ≡ weight i ns n xs + weight i ns n zs) →
    IsCounted i ns start counted olds → IsCounted i ns start (counted + a) news
count_item i ns start counted a x xs zs olds news h o e c n =
    let s = h n in
    let l = s.1.1 in
    let k = c s.0 in
    let d = o s.0 in
    let b = e n in
    let g = weight_grows i ns s.0 n s.1.0 xs in
    (k.0, omega (arith, k.1))

weight_top : (i : Instances) (ns : List Node) (n : ℕ) (x : Item) (xs olds : List Item) → olds ≡ xs ++ x ∷ [] →
    weight i ns n olds ≡ weight i ns n xs + nodes (item_type i (near i ns n) x)
weight_top i ns n x xs olds o =
    let one : weight i ns n (x ∷ []) ≡ nodes (item_type i (near i ns n) x) = omega arith in
    ap (weight i ns n) o ∙ weight-append i ns n xs (x ∷ []) ∙ ap (λ k. weight i ns n xs + k) one

-- the item on top of a stack
count_top : (i : Instances) (ns : List Node) (start counted a : ℕ) (x : Item) (xs zs olds news : List Item) → IsMeasured i ns x a zs →
    olds ≡ xs ++ x ∷ [] → news ≡ xs ++ zs → IsCounted i ns start counted olds → IsCounted i ns start (counted + a) news
count_top i ns start counted a x xs zs olds news h o e c =
    count_item i ns start counted a x xs zs olds news h (λ n. weight_top i ns n x xs olds o)
    (λ n. ap (weight i ns n) e ∙ weight-append i ns n xs zs) c

-- it is larger than the room that is left
too_large : (i : Instances) (ns : List Node) (most start counted a : ℕ) (x : Item) (xs zs olds : List Item) → IsMeasured i ns x a zs →
    olds ≡ xs ++ x ∷ [] → most < counted + a → IsCounted i ns start counted olds → IsLarger i ns most start
too_large i ns most start counted a x xs zs olds h o m c =
    let s = h 0 in
    let l = s.1.1 in
    let k = c s.0 in
    let d = weight_top i ns s.0 x xs olds o in
    (k.0, omega (arith, k.1))

-- a type whose form is known is read, where those of its parts are
pub read_form : (i : Instances) (ns : List Node) (x : Item) (f : Form) (t : Term) → IsForm i ns x f →
    ((far : ℕ → Term) (m : ℕ) → 2 * nodes t ≤ m + 2 → form_type i (unrolled i ns far m) f ≡ t) → IsItemRead i ns x t
read_form i ns x f t h e far zero l = absurd (omega (arith, nodes_positive t))
read_form i ns x f t h e far (suc zero) l = absurd (omega (arith, nodes_positive t))
read_form i ns x f t h e far (suc (suc n)) l = let s = h.reads far n in s.1.1 ∙ e far s.0 (omega (arith, s.1.0))

-- the type of a form, where those of its parts are read
pub parts_type : (i : Instances) (ns : List Node) (f : Form) (k : ℕ) → AreItemsRead i ns (form_parts f) k →
    (t : Term) × (((far : ℕ → Term) (m : ℕ) → 2 * nodes t ≤ m + 2 → form_type i (unrolled i ns far m) f ≡ t) × (nodes t ≡ suc k))
parts_type i ns (Free p) k r = (variable p, ((λ far m l. refl), omega arith))
parts_type i ns Int k r = (int, ((λ far m l. refl), omega arith))
parts_type i ns Bool k r = (bool, ((λ far m l. refl), omega arith))
parts_type i ns Char k r = (char, ((λ far m l. refl), omega arith))
parts_type i ns (Named n) k r = (named n, ((λ far m l. refl), omega arith))
parts_type i ns (SeqOf y) k r =
    let t = r.0 in let j = r.1.0 in let a = r.1.1.0 in let z = r.1.1.1.0 in let s = r.1.1.1.1 in
    (seq_of t, ((λ far m l. ap seq_of (a far m (omega arith))), omega arith))
parts_type i ns (Both y z) k r =
    let t = r.0 in let a = r.1.1.0 in let s = r.1.1.1.1 in
    let q = r.1.1.1.0 in
    let u = q.0 in let b = q.1.1.0 in let o = q.1.1.1.0 in let v = q.1.1.1.1 in (
      pair_of t u,
      (
        (λ far m l.
            let c = a far m (omega arith) in
            let d = b far m (omega arith) in
            cc),
        omega arith,
      ),
    )

read_parts : (i : Instances) (ns : List Node) (x : Item) (f : Form) (k : ℕ) → IsForm i ns x f → AreItemsRead i ns (form_parts f) k → IsItemSize i ns x (1 + k)
read_parts i ns x f k h r = let s = parts_type i ns f k r in let e = s.1.1 in (s.0, (read_form i ns x f s.0 h s.1.0, omega arith))

-- the same at a place without a link, where the form is one step away
read_root : (i : Instances) (ns : List Node) (p : ℕ) (f : Form) (t : Term) → IsFormAt i ns p f →
    ((far : ℕ → Term) (m : ℕ) → 2 * nodes t ≤ m + 2 → form_type i (unrolled i ns far m) f ≡ t) → IsRootRead i ns p t
read_root i ns p f t h e far zero l = absurd (omega (arith, nodes_positive t))
read_root i ns p f t h e far (suc n) l = h (unrolled i ns far n) ∙ e far n (omega arith)

read_split : (i : Instances) (ns : List Node) (xs ys : List Item) (k : ℕ) → AreItemsRead i ns (xs ++ ys) k →
    (a : ℕ) × ((b : ℕ) × (AreItemsRead i ns xs a × (AreItemsRead i ns ys b × (k ≡ a + b))))
read_split i ns [] ys k r = (0, (k, (refl, (r, omega arith))))
read_split i ns (x ∷ xs) ys k r =
    let t = r.0 in let j = r.1.0 in
    let s = read_split i ns xs ys j r.1.1.1.0 in
    let e = r.1.1.1.1 in
    let g = s.1.1.1.1 in
    (nodes t + s.0, (s.1.0, ((t, (s.0, (r.1.1.0, (s.1.1.0, refl)))), (s.1.1.1.0, omega arith))))

read_join : (i : Instances) (ns : List Node) (xs ys : List Item) (a b : ℕ) → AreItemsRead i ns xs a → AreItemsRead i ns ys b → AreItemsRead i ns (xs ++ ys) (a + b)
read_join i ns [] ys a b r s = let e : a ≡ 0 = r in subst (AreItemsRead i ns ys) (omega arith) s
read_join i ns (x ∷ xs) ys a b r s =
    let e = r.1.1.1.1 in
    (r.0, (r.1.0 + b, (r.1.1.0, (read_join i ns xs ys r.1.0 b r.1.1.1.0 s, omega arith))))

read_one : (i : Instances) (ns : List Node) (x : Item) (t : Term) → IsItemRead i ns x t → AreItemsRead i ns (x ∷ []) (nodes t)
read_one i ns x t r = (t, (0, (r, (refl, omega arith))))

-- what is known of an item that was looked at
measured_look : (i : Instances) (ns : List Node) (x : Item) (look : Look) → IsLook i ns x look → IsMeasured i ns x (look_nodes look) (look_parts look)
measured_look i ns x (Known k) h n =
    let m : ℕ = n + 2 * nodes h.0 in
    let e = ap nodes (h.1.0 (λ q. int) m (omega arith)) in
    let s = h.1.1 in
    (m, (omega arith, omega arith))
measured_look i ns x (Open f) h n = measured_form i ns x f h.0 n

read_look : (i : Instances) (ns : List Node) (x : Item) (look : Look) (k : ℕ) → IsLook i ns x look → AreItemsRead i ns (look_parts look) k →
    IsItemSize i ns x (look_nodes look + k)
read_look i ns x (Known n) k h r = let z : k ≡ 0 = r in let s = h.1.1 in (h.0, (h.1.0, omega arith))
read_look i ns x (Open f) k h r = read_parts i ns x f k h.0 r

pub look_positive : (i : Instances) (ns : List Node) (x : Item) (look : Look) → IsLook i ns x look → 0 < look_nodes look
look_positive i ns x (Known k) h = let p = nodes_positive h.0 in let s = h.1.1 in omega arith
look_positive i ns x (Open f) h = omega arith

pub items_of_parts : (i : Instances) (n : ℕ) (f : Form) → AreItems i n f → All (IsItem i n) (form_parts f)
items_of_parts i n (Free p) h = All-nil (IsItem i n)
items_of_parts i n Int h = All-nil (IsItem i n)
items_of_parts i n Bool h = All-nil (IsItem i n)
items_of_parts i n Char h = All-nil (IsItem i n)
items_of_parts i n (Named m) h = All-nil (IsItem i n)
items_of_parts i n (SeqOf x) h = All-cons (IsItem i n) x [] h (All-nil (IsItem i n))
items_of_parts i n (Both x y) h = All-cons (IsItem i n) x (y ∷ []) h.0 (All-cons (IsItem i n) y [] h.1 (All-nil (IsItem i n)))

-- the items of a stack, where the one on top was taken
pub rest_within : (i : Instances) (n : ℕ) (x : Item) (xs olds : List Item) → olds ≡ xs ++ x ∷ [] → All (IsItem i n) olds → All (IsItem i n) xs × IsItem i n x
rest_within i n x xs olds o a = All-pop (IsItem i n) olds xs (Some x) o a

items_of_look : (i : Instances) (ns : List Node) (x : Item) (look : Look) → IsLook i ns x look → All (IsItem i (length ns)) (look_parts look)
items_of_look i ns x (Known k) h = All-nil (IsItem i (length ns))
items_of_look i ns x (Open f) h = items_of_parts i (length ns) f h.1

-- the type at place `start` has `counted` nodes, and those of the items
abbrev pub IsPending : Instances → List Node → ℕ → ℕ → List Item → Type 0
IsPending i ns start counted xs = (k : ℕ) → AreItemsRead i ns xs k → IsRootSize i ns start (counted + k)

-- the item on top of a stack is looked at
pending_top : (i : Instances) (ns : List Node) (start counted : ℕ) (x : Item) (look : Look) (xs olds news : List Item) → IsLook i ns x look →
    olds ≡ xs ++ x ∷ [] → news ≡ xs ++ look_parts look → IsPending i ns start counted olds → IsPending i ns start (counted + look_nodes look) news
pending_top i ns start counted x look xs olds news h o e d k r =
    let s = read_split i ns xs (look_parts look) k (subst (λ ys. AreItemsRead i ns ys k) e r) in
    let g = s.1.1.1.1 in
    let t = read_look i ns x look s.1.0 h s.1.1.1.0 in
    let j = read_join i ns xs (x ∷ []) s.0 (nodes t.0) s.1.1.0 (read_one i ns x t.0 t.1.0) in
    let q = t.1.1 in
    subst (IsRootSize i ns start) (omega arith) (d (s.0 + nodes t.0) (subst (λ ys. AreItemsRead i ns ys (s.0 + nodes t.0)) (sym o) j))

-- what is known of a place that was looked at
root_counted : (i : Instances) (ns : List Node) (p : ℕ) (look : Look) → IsRootLook i ns p look → IsCounted i ns p (look_nodes look) (look_parts look)
root_counted i ns p (Known k) h n =
    let m : ℕ = 2 * nodes h.0 in
    let e = ap nodes (h.1.0 (λ q. int) m (omega arith)) in
    let s = h.1.1 in
    (m, omega arith)
root_counted i ns p (Open f) h n =
    let e = ap nodes (h.0 (near i ns n)) in
    let g = weight_of_form i ns n f in
    (suc n, omega arith)

root_pending : (i : Instances) (ns : List Node) (p : ℕ) (look : Look) → IsRootLook i ns p look → IsPending i ns p (look_nodes look) (look_parts look)
root_pending i ns p (Known n) h k r = let z : k ≡ 0 = r in let s = h.1.1 in (h.0, (h.1.0, omega arith))
root_pending i ns p (Open f) h k r = let s = parts_type i ns f k r in let e = s.1.1 in (s.0, (read_root i ns p f s.0 h.0 s.1.0, omega arith))

items_of_root : (i : Instances) (ns : List Node) (p : ℕ) (look : Look) → IsRootLook i ns p look → All (IsItem i (length ns)) (look_parts look)
items_of_root i ns p (Known k) h = All-nil (IsItem i (length ns))
items_of_root i ns p (Open f) h = items_of_parts i (length ns) f h.1

-- a walk from `start`: the items on the stack are still to be looked at, and have room for `room` nodes
pub record IsWalking (i : Instances) (ns : List Node) (most : ℕ) (stack : List Item) (room start : ℕ) : Type 0 where
  pub left : room ≤ most
  pub within : All (IsItem i (length ns)) stack
  pub counted : IsCounted i ns start (most - room) stack
  pub pending : IsPending i ns start (most - room) stack

pub walk_first : (i : Instances) (ns : List Node) (most : ℕ) (look : Look) (olds stack : List Item) (left start : ℕ) →
    IsRootLook i ns start look → olds ≡ [] → stack ≡ olds ++ look_parts look → left + look_nodes look ≡ most → IsWalking i ns most stack left start
walk_first i ns most look olds stack left start h o e l =
    let same : look_nodes look ≡ most - left = omega arith in
    let goal : IsWalking i ns most (look_parts look) left start = record {
      left = omega arith;
      within = items_of_root i ns start look h;
      counted = subst (λ c. IsCounted i ns start c (look_parts look)) same (root_counted i ns start look h);
      pending = subst (λ c. IsPending i ns start c (look_parts look)) same (root_pending i ns start look h);
    } in
    subst (λ xs. IsWalking i ns most xs left start) (sym (e ∙ ap (λ xs. xs ++ look_parts look) o)) goal

pub first_fails : (i : Instances) (ns : List Node) (most : ℕ) (look : Look) (start : ℕ) → IsRootLook i ns start look → most < look_nodes look → IsLarger i ns most start
first_fails i ns most look start h l = let k = root_counted i ns start look h 0 in let g = k.1 in (k.0, omega arith)

pub walk_on : (i : Instances) (ns : List Node) (most : ℕ) (xs olds news : List Item) (room left start : ℕ) (x : Item) (look : Look) →
    olds ≡ xs ++ x ∷ [] → news ≡ xs ++ look_parts look → IsLook i ns x look → left + look_nodes look ≡ room →
    IsWalking i ns most olds room start → IsWalking i ns most news left start
walk_on i ns most xs olds news room left start x look o e h l w =
    let some = w.left in
    let same : most - room + look_nodes look ≡ most - left = omega arith in
    record {
      left = omega arith;
      within = subst (All (IsItem i (length ns))) (sym e) (All-append (IsItem i (length ns)) xs (look_parts look) (rest_within i (length ns) x xs olds o w.within).0 (items_of_look i ns x look h));
      counted = subst (λ c. IsCounted i ns start c news) same
          (count_top i ns start (most - room) (look_nodes look) x xs (look_parts look) olds news (measured_look i ns x look h) o e w.counted);
      pending = subst (λ c. IsPending i ns start c news) same (pending_top i ns start (most - room) x look xs olds news h o e w.pending);
    }

pub walk_fails : (i : Instances) (ns : List Node) (most : ℕ) (xs olds : List Item) (room start : ℕ) (x : Item) (look : Look) →
    olds ≡ xs ++ x ∷ [] → IsLook i ns x look → room < look_nodes look → IsWalking i ns most olds room start → IsLarger i ns most start
walk_fails i ns most xs olds room start x look o h l w =
    let some = w.left in
    too_large i ns most start (most - room) (look_nodes look) x xs (look_parts look) olds (measured_look i ns x look h) o (omega arith) w.counted

pub walk_last : (i : Instances) (ns : List Node) (most : ℕ) (stack : List Item) (room start : ℕ) →
    stack ≡ [] → IsWalking i ns most stack room start → IsSizeWithin i ns most start (most - room)
walk_last i ns most stack room start e w =
    (subst (IsRootSize i ns start) (omega arith) (w.pending 0 (subst (λ xs. AreItemsRead i ns xs 0) (sym e) refl)), omega arith)

pub larger_fits : (i : Instances) (ns : List Node) (w : ℕ → Term) (most p : ℕ) → Fits i w ns → IsLarger i ns most p → most < nodes (w p)
larger_fits i ns w most p f h = let a = h.1 in let b = near_fits i ns w f h.0 p in omega arith
