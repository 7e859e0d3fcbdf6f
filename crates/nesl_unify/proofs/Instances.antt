-- Instances that are added.
use Rattle.std.proofs.Common.{◌≡◌, ℕ, ◌+◌, ◌-◌, ◌<◌, ◌≤◌, ◌++◌, List, [], ◌∷◌, All, Option, Some, IfSome, length, get_or, refl, sym, ap, ◌∙◌, subst, arith}
use Rattle.std.specs.Prelude.{slice_get, slice_index}
use Rattle.std.specs.Option.{option_map_or}
use Rattle.std.proofs.lemmas.List.{get_or_append_left, get_or_push, get_or-append-add, length-append, length_push}
use Rattle.std.proofs.lemmas.List.Elements.{All-append}
use Rattle.std.proofs.lemmas.Option.{slice_get-get_or}
use Rattle.nesl_types_shared.specs.Term.{Term, variable}
use Rattle.nesl_types_shared.specs.Numbering.{IsBelow}
use Rattle.nesl_types_shared.specs.Substitution.{substitute}
use Rattle.nesl_types_shared.specs.Types.{type_at, Extends}
use Rattle.nesl_unify_graph.specs.declared.node.Node.{Node}
use Rattle.nesl_unify_graph.specs.declared.node.Node.TheVariants.{Part}
use Rattle.nesl_unify_graph.specs.declared.instances.Source.{Source}
use Rattle.nesl_unify_graph.specs.declared.instances.Source.TheVariants.{Shared, Own}
use Rattle.nesl_unify_graph.specs.declared.instances.Instance.{Instance}
use Rattle.nesl_unify_graph.specs.declared.instances.Instances.{Instances}
use Rattle.nesl_unify_graph.specs.Instances.{parts_from, parts_in, base_in, place_in, instance_type, IsPart}
use Rattle.nesl_types_shared.specs.Lists.{last_type, parts_of}
use Rattle.nesl_unify_graph.specs.Graph.{node_type}
use Rattle.nesl_unify_graph.proofs.Outlines.{at_some}
use Rattle.nesl_unify.specs.Facts.{IsSaid, IsKept, IsPutIn, IsInstanceNode}
use Rattle.nesl_unify.proofs.Facts.{below_more, substitute_below, kept_none}

pub parts_in_is : (i : Instances) (r : ℕ) (e : Instance) → slice_get i.made.items r ≡ Some e → parts_in i r ≡ parts_from i e.source
parts_in_is i r e h = ap (λ (o : Option Instance). option_map_or (λ (x : Instance). parts_from i x.source) o []) h

pub base_in_is : (i : Instances) (r : ℕ) (e : Instance) → slice_get i.made.items r ≡ Some e → base_in i r ≡ e.base
base_in_is i r e h = ap (λ (o : Option Instance). option_map_or (λ (x : Instance). x.base) o 0) h

-- where parts are they stay
from_kept : (i j : Instances) (s : Source) (k : ℕ) → Extends i.shared j.shared → k < length (parts_from i s) →
    (k < length (parts_from j s)) × (type_at (parts_from j s) k ≡ type_at (parts_from i s) k)
from_kept i j Shared k x l = (omega (arith, x.longer), x.kept k l)
from_kept i j (Own t) k x l = (l, refl)

abbrev pub no_instance : Instance
no_instance = record { source = Shared; base = 0 }

-- the parts of instances stay where more instances are added
pub kept_put : (i j : Instances) (more : List Instance) (fresh : List ℕ) → Extends i.shared j.shared → j.made.items ≡ i.made.items ++ more → j.fresh.items ≡ i.fresh.items ++ fresh → IsKept i j
kept_put i j more fresh x m f r k is =
    let e = get_or i.made.items r no_instance in
    let a : slice_get i.made.items r ≡ Some e = slice_get-get_or i.made.items r no_instance is.made in
    let long : length j.made.items ≡ length i.made.items + length more = ap length m ∙ length-append i.made.items more in
    let inside : r < length j.made.items = omega (arith, is.made, long) in
    let b : slice_get j.made.items r ≡ Some e =
    slice_get-get_or j.made.items r no_instance inside ∙ ap Some (ap (λ (l : List Instance). get_or l r no_instance) m ∙ get_or_append_left i.made.items more no_instance r is.made) in
    let pi = parts_in_is i r e a in
    let pj = parts_in_is j r e b in
    let bb : base_in j r ≡ base_in i r = base_in_is j r e b ∙ sym (base_in_is i r e a) in
    let c = from_kept i j e.source k x (subst (λ (l : List Term). k < length l) pi is.within) in
    let t : type_at (parts_in j r) k ≡ type_at (parts_in i r) k = ap (λ (l : List Term). type_at l k) pj ∙ c.1 ∙ sym (ap (λ (l : List Term). type_at l k) pi) in
    let n : length j.fresh.items ≡ length i.fresh.items + length fresh = ap length f ∙ length-append i.fresh.items fresh in
    let same : (v : ℕ) → v < length i.fresh.items - base_in i r → place_in j r v ≡ place_in i r v =
    λ v l.
    ap (λ (q : ℕ). slice_index j.fresh.items (q + v)) bb ∙ ap (λ (l : List ℕ). slice_index l (base_in i r + v)) f
    ∙ get_or_append_left i.fresh.items fresh 0 (base_in i r + v) (omega (arith, l)) in
    let part : IsPart j r k = record {
      made = inside;
      within = subst (λ (l : List Term). k < length l) (sym pj) c.0;
      below = subst (IsBelow (length j.fresh.items - base_in j r)) (sym t)
          (below_more (length i.fresh.items - base_in i r) (length j.fresh.items - base_in j r) (type_at (parts_in i r) k) (omega (arith, n, bb)) is.below);
      whole = λ v h. is.whole v (sym t ∙ h);
    } in (
      part,
      λ w.
          ap (instance_type j w r) t
          ∙ substitute_below (length i.fresh.items - base_in i r) (λ v. w (place_in j r v)) (λ v. w (place_in i r v)) (type_at (parts_in i r) k) is.below (λ v l. ap w (same v l)),
    )

-- there is room for the variables of an instance that was added
room_for : (fresh : List ℕ) (a b c : ℕ) → (0 < length fresh → b ≡ a) → c ≡ a + length fresh → length fresh ≤ c - b
room_for [] a b c h e = omega arith
room_for (v ∷ vs) a b c h e = let k : b ≡ a = h (omega arith) in omega (arith, k, e)

-- the node of an instance that was added
pub instance_node : (i j : Instances) (source : Source) (fresh : List ℕ) (base r k : ℕ) (t : Term) → Extends i.shared j.shared → (0 < length fresh → base ≡ length i.fresh.items) →
    j.made.items ≡ i.made.items ++ record { source = source; base = base } ∷ [] → j.fresh.items ≡ i.fresh.items ++ fresh → r ≡ length i.made.items →
    k < length (parts_from j source) → type_at (parts_from j source) k ≡ t → IsBelow (length fresh) t → ((v : ℕ) → t ≡ variable v → ⊥) → IsInstanceNode i j fresh t (Part r k)
instance_node i j source fresh base r k t x begins m f p inside here small whole =
    let e : Instance = record { source = source; base = base } in
    let long : length j.made.items ≡ length i.made.items + 1 = ap length m ∙ length_push i.made.items e in
    let made : r < length j.made.items = omega (arith, p, long) in
    let b : slice_get j.made.items r ≡ Some e =
    slice_get-get_or j.made.items r no_instance made ∙ ap Some (ap (λ (l : List Instance). get_or l r no_instance) m ∙ get_or_push i.made.items e no_instance r (sym p)) in
    let pj = parts_in_is j r e b in
    let bj : base_in j r ≡ base = base_in_is j r e b in
    let n : length j.fresh.items ≡ length i.fresh.items + length fresh = ap length f ∙ length-append i.fresh.items fresh in
    let at : type_at (parts_in j r) k ≡ t = ap (λ (l : List Term). type_at l k) pj ∙ here in
    let wide : length fresh ≤ length j.fresh.items - base = room_for fresh (length i.fresh.items) base (length j.fresh.items) begins n in
    let part : IsPart j r k = record {
      made = made;
      within = subst (λ (l : List Term). k < length l) (sym pj) inside;
      below = subst (IsBelow (length j.fresh.items - base_in j r)) (sym at) (below_more (length fresh) (length j.fresh.items - base_in j r) t (omega (arith, wide, bj)) small);
      whole = λ v h. whole v (sym at ∙ h);
    } in
    record {
      kept = kept_put i j (e ∷ []) fresh x m f;
      below = λ n b a. subst (All (λ q. q < n)) (sym f) (All-append (λ q. q < n) i.fresh.items fresh b a);
      said = λ n a. part;
      same = λ s u.
          ap (substitute (λ v. s (place_in j r v))) at
          ∙ substitute_below (length fresh) (λ v. s (place_in j r v)) (λ v. s (slice_index fresh v)) t small
          (λ v l. ap s (ap (λ (q : ℕ). slice_index j.fresh.items (q + v)) (bj ∙ begins (omega (arith, l))) ∙ ap (λ (l : List ℕ). slice_index l (length i.fresh.items + v)) f ∙ get_or-append-add i.fresh.items fresh v 0));
    }

-- the node of an instance of a type without parts
pub leaf_instance : (i : Instances) (fresh : List ℕ) (t : Term) (o : Option Node) (m : Node) → o ≡ Some m → IfSome o (λ k. (j : Instances) → (n : ℕ) → All (λ v. v < n) fresh → IsSaid j n k) →
    IfSome o (λ k. (j : Instances) → (s : ℕ → Term) → (u : Term) → node_type j s u k ≡ substitute (λ v. s (slice_index fresh v)) t) → IsInstanceNode i i fresh t m
leaf_instance i fresh t o m e said same =
    let a = at_some (λ k. (j : Instances) → (n : ℕ) → All (λ v. v < n) fresh → IsSaid j n k) o m e said in
    let b = at_some (λ k. (j : Instances) → (s : ℕ → Term) → (u : Term) → node_type j s u k ≡ substitute (λ v. s (slice_index fresh v)) t) o m e same in
    record { kept = kept_none i; below = λ n b a. b; said = a i; same = b i }

-- the whole type is the last of its parts
pub last_part : (ts us : List Term) (t : Term) (k : ℕ) → 0 < length ts → last_type ts ≡ t → ts ≡ us → k ≡ length ts - 1 → (k < length us) × (type_at us k ≡ t)
last_part ts us t k some last e d =
    let l : k < length ts = omega arith in
    (subst (λ (xs : List Term). k < length xs) e l, ap (λ (xs : List Term). type_at xs k) (sym e) ∙ ap (type_at ts) d ∙ last)

-- an instance of a type that was put among those that are shared
pub shared_instance : (i : Instances) (types : List Term) (j : Instances) (fresh : List ℕ) (r k : ℕ) (t : Term) → Extends i.shared types →
    IsPutIn (record { shared = types; made = i.made; fresh = i.fresh }) j Shared fresh r → k < length types → type_at types k ≡ t → IsBelow (length fresh) t → ((v : ℕ) → t ≡ variable v → ⊥) →
    IsInstanceNode i j fresh t (Part r k)
shared_instance i types j fresh r k t x p inside here small whole =
    instance_node i j Shared fresh p.base r k t (subst (Extends i.shared) (sym p.shared) x) p.begins p.made p.fresh p.place
    (subst (λ (ts : List Term). k < length ts) (sym p.shared) inside) (ap (λ (ts : List Term). type_at ts k) p.shared ∙ here) small whole

-- an instance of a type of its own
pub own_instance : (i j : Instances) (ts : List Term) (own : Term) (fresh : List ℕ) (r k : ℕ) (t : Term) → own ≡ t → IsPutIn i j (Own own) fresh r →
    0 < length ts → last_type ts ≡ t → ts ≡ parts_of t → k ≡ length ts - 1 → IsBelow (length fresh) t → ((v : ℕ) → t ≡ variable v → ⊥) → IsInstanceNode i j fresh t (Part r k)
own_instance i j ts own fresh r k t o p some last order e small whole =
    let q = last_part ts (parts_of own) t k some last (order ∙ ap parts_of (sym o)) e in
    let x : Extends i.shared j.shared = subst (Extends i.shared) (sym p.shared) (record { longer = omega arith; kept = λ p l. refl }) in
    instance_node i j (Own own) fresh p.base r k t x p.begins p.made p.fresh p.place q.0 q.1 small whole
