-- What a signature adds.
use Rattle.std.proofs.Common.{◌≡◌, ◌<◌, ◌≤◌, ◌+◌, ℕ, Bool, true, false, cond, List, [], ◌∷◌, ◌++◌, length, map, take, get_or, inl, inr, refl, sym, ap, ◌∙◌, subst, arith, append_assoc, append-nil}
use Rattle.std.specs.Prelude.{All, Option, Some, None, ◌⊎◌, unwrap_or}
use Rattle.std.specs.Str.{bytes_eq}
use Rattle.std.proofs.lemmas.Slice.Eq.{bytes_eq-Decides}
use Rattle.std.proofs.lemmas.List.Elements.{All-nil, All-cons, All-push, All-pop, All-weaker}
use Rattle.std.proofs.lemmas.List.{take_more, map-append}
use Rattle.nesl_syntax_tree.specs.declared.tree.Member.{Member}
use Rattle.nesl_syntax_tree.specs.Views.{member_tree}
use Rattle.nesl_types.specs.declared.classes.Class.{Class}
use Rattle.nesl_types_shared.specs.Term.{Term, int, seq_of, pair_of, nodes}
use Rattle.nesl_types.specs.Class.{IsIn}
use Rattle.nesl_syntax_tree.specs.Trees.{TypeTree, TypeShape, MemberTree, SignatureTree, written}
use Rattle.nesl_syntax_tree.specs.Trees as trees
use Rattle.nesl_unify.specs.Bounds.{IsBounded}
use Rattle.nesl_infer_rules.specs.declared.state.State.{State}
use Rattle.nesl_infer_rules.specs.declared.state.Local.{Local}
use Rattle.nesl_infer_rules.specs.World.{DatatypesByName}
use Rattle.nesl_infer_rules.specs.Typing.{Key, name, element, LocalTypes, is_name, local_type, name_in_signature, signed, signed_shape, class_of, IsInItsClass, FitsSignature}
use Rattle.nesl_infer_rules.specs.Signatures.{FreeNames, FreeNamesOf, put_in}
use Rattle.nesl_infer_rules.specs.Steps.{Agrees, count, Gives, Adds, AddsNames, key_of, scope_at, AreLocalsBelow}
use Rattle.nesl_infer_rules.proofs.Places.{scope-fixed}
use Rattle.nesl_infer_rules.proofs.Steps.{gives_then, gives_and, gives_as, adds_as, adds_from}
use Rattle.nesl_infer_rules.proofs.Arms.{AnyTerm}
use Rattle.nesl_infer_rules.proofs.Patterns.{scope-append, locals-weaker, locals-append}
use Rattle.nesl_infer_rules.proofs.Instances.{trimmed, trimmed-small, trimmed-same, trimmed-in, int-in}

abbrev pub NamesIn : State → State → List Local → List Local → (LocalTypes → Type 0) → Type 0
NamesIn A B ls ms P = AddsNames A B ls ms (λ s of ns. P ns)

pub no_names : {A : State} (ls : List Local) → NamesIn A A ls ls (λ ns. ns ≡ [])
no_names {A = A} ls = record {
  added = [];
  after_is = sym (append-nil ls);
  below = All-nil (λ (x : Local). x.variable < count A);
  gives = record {
    more = omega arith;
    fixed = λ s z a. refl;
    sound = λ s of b h. (h, refl);
    complete = λ s of b h x c. (s, λ _ _. refl, h, b, sym c);
  };
}

pub one_name : {A B : State} (ls ms : List Local) (x : List ℕ) (v : ℕ) (l : Local) → ms ≡ ls ++ l ∷ [] → key_of l.key ≡ name x → l.variable ≡ v → v < count B → AnyTerm A B v →
    NamesIn A B ls ms (λ ns. (t : Term) × (nodes t ≤ 4096) × (ns ≡ (name x, t) ∷ []))
one_name {B = B} ls ms x v l e p q b h =
    let read : (s : ℕ → Term) → scope_at s (l ∷ []) ≡ (name x, s v) ∷ [] = λ s. ap (λ (y : Key). (y, s l.variable) ∷ []) p ∙ ap (λ (k : ℕ). (name x, s k) ∷ []) q in
    let all : AreLocalsBelow (count B) (l ∷ []) = All-cons (λ (k : Local). k.variable < count B) l [] (subst (λ (k : ℕ). k < count B) (sym q) b) (All-nil (λ (k : Local). k.variable < count B)) in
    record {
      added = l ∷ [];
      after_is = e;
      below = all;
      gives =
          gives_as (λ s. scope_at s (l ∷ [])) (λ s of u. nodes u ≤ 4096) (λ s of ns. (t : Term) × (nodes t ≤ 4096) × (ns ≡ (name x, t) ∷ [])) h
          (λ s z a. scope-fixed (count B) (l ∷ []) all s z a)
          (λ s of d k. (s v, k, read s))
          (λ s of ns k. (k.0, k.1, λ z a g. read z ∙ ap (λ (t : Term). (name x, t) ∷ []) g ∙ sym k.2));
    }

pub two_names : {A B C : State} (P Q : LocalTypes → Type 0) (ls ms os : List Local) → NamesIn A B ls ms P → NamesIn B C ms os Q →
    NamesIn A C ls os (λ ns. (ks : LocalTypes) × (js : LocalTypes) × P ks × Q js × (ns ≡ js ++ ks))
two_names {B = B} {C = C} P Q ls ms os p1 p2 =
    let more = p2.gives.more in
    let all : AreLocalsBelow (count C) (p1.added ++ p2.added) = locals-append (count C) p1.added p2.added (locals-weaker (count B) (count C) p1.added more p1.below) p2.below in
    record {
      added = p1.added ++ p2.added;
      after_is = p2.after_is ∙ ap (λ (k : List Local). k ++ p2.added) p1.after_is ∙ append_assoc ls p1.added p2.added;
      below = all;
      gives =
          let q = gives_then (λ s of ns. P ns) (λ x s of ns. Q ns) p1.gives p2.gives (λ x s z of y a h. h) in
          gives_as (λ s. scope_at s (p1.added ++ p2.added)) _ (λ s of ns. (ks : LocalTypes) × (js : LocalTypes) × P ks × Q js × (ns ≡ js ++ ks)) q
          (λ s z a. scope-fixed (count C) (p1.added ++ p2.added) all s z a)
          (λ s of b h. (scope_at s p1.added, scope_at s p2.added, h.0, h.1, scope-append s p1.added p2.added))
          (λ s of ns h. (
            (h.0, h.1),
            (h.2, h.3),
            λ z a e. scope-append z p1.added p2.added ∙ ap (λ (k : LocalTypes). k ++ scope_at z p1.added) (ap (λ x. x.1) e) ∙ ap (λ (k : LocalTypes). h.1 ++ k) (ap (λ x. x.0) e) ∙ sym h.4,
          ));
    }

-- the types that are put for the names, where they are small
abbrev trim : Term → Term
trim t = trimmed (λ _. t) 0

abbrev mutual
  given : (List ℕ → Term) → TypeTree → LocalTypes
  given put (written s k) = given_of put k

  given_of : (List ℕ → Term) → TypeShape → LocalTypes
  given_of put trees.int = []
  given_of put trees.bool = []
  given_of put trees.char = []
  given_of put (trees.named x s) = (name x, trim (put x)) ∷ []
  given_of put (trees.sequence_type a) = given put a
  given_of put (trees.pair_type a b) = given put b ++ given put a

mutual
  given-free : (put : List ℕ → Term) (a : TypeTree) → FreeNames a (given put a)
  given-free put (written s k) = given_of-free put k

  given_of-free : (put : List ℕ → Term) (k : TypeShape) → FreeNamesOf k (given_of put k)
  given_of-free put trees.int = refl
  given_of-free put trees.bool = refl
  given_of-free put trees.char = refl
  given_of-free put (trees.named x s) = (trim (put x), trimmed-small (λ _. put x) 0, refl)
  given_of-free put (trees.sequence_type a) = given-free put a
  given_of-free put (trees.pair_type a b) = (given put a, given put b, given-free put a, given-free put b, refl)

abbrev IsGiven : (List ℕ → Term) → Key → Term → Type 0
IsGiven put (name x) t = t ≡ trim (put x)
IsGiven put element t = ⊥

abbrev AreGiven : (List ℕ → Term) → LocalTypes → Type 0
AreGiven put [] = Unit {0}
AreGiven put (b ∷ bs) = IsGiven put b.0 b.1 × AreGiven put bs

given-append : (put : List ℕ → Term) (ns ms : LocalTypes) → AreGiven put ns → AreGiven put ms → AreGiven put (ns ++ ms)
given-append put [] ms h k = k
given-append put (b ∷ ns) ms h k = (h.0, given-append put ns ms h.1 k)

mutual
  given-are : (put : List ℕ → Term) (a : TypeTree) → AreGiven put (given put a)
  given-are put (written s k) = given_of-are put k

  given_of-are : (put : List ℕ → Term) (k : TypeShape) → AreGiven put (given_of put k)
  given_of-are put trees.int = tt
  given_of-are put trees.bool = tt
  given_of-are put trees.char = tt
  given_of-are put (trees.named x s) = (refl, tt)
  given_of-are put (trees.sequence_type a) = given-are put a
  given_of-are put (trees.pair_type a b) = given-append put (given put b) (given put a) (given-are put b) (given-are put a)

here : (put : List ℕ → Term) (x : List ℕ) (k : Key) (t : Term) (o : Option Term) → IsGiven put k t → o ≡ Some (trim (put x)) → cond (is_name x k) (Some t) o ≡ Some (trim (put x))
here put x element t o h e = absurd h
here put x (name y) t o h e = by_test (bytes_eq x y) (λ q. (bytes_eq-Decides x y).0 q)
  where
    by_test : (b : Bool) → (b ≡ true → x ≡ y) → cond b (Some t) o ≡ Some (trim (put x))
    by_test true d = ap Some (h ∙ ap (λ (z : List ℕ). trim (put z)) (sym (d refl)))
    by_test false d = e

-- a name is found where it is, or where it is before
found_name : (put : List ℕ → Term) (x : List ℕ) (ls rs : LocalTypes) → AreGiven put ls → local_type x (ls ++ (name x, trim (put x)) ∷ rs) ≡ Some (trim (put x))
found_name put x [] rs h = ap (λ (b : Bool). cond b (Some (trim (put x))) (local_type x rs)) ((bytes_eq-Decides x x).1 refl)
found_name put x (b ∷ ls) rs h = here put x b.0 b.1 (local_type x (ls ++ (name x, trim (put x)) ∷ rs)) h.0 (found_name put x ls rs h.1)

abbrev mutual
  Knows : LocalTypes → (List ℕ → Term) → TypeTree → Type 0
  Knows ns put (written s k) = KnowsOf ns put k

  KnowsOf : LocalTypes → (List ℕ → Term) → TypeShape → Type 0
  KnowsOf ns put trees.int = Unit {0}
  KnowsOf ns put trees.bool = Unit {0}
  KnowsOf ns put trees.char = Unit {0}
  KnowsOf ns put (trees.named x s) = local_type x ns ≡ Some (trim (put x))
  KnowsOf ns put (trees.sequence_type a) = Knows ns put a
  KnowsOf ns put (trees.pair_type a b) = Knows ns put a × Knows ns put b

mutual
  knows : (put : List ℕ → Term) (a : TypeTree) (ls rs : LocalTypes) → AreGiven put ls → Knows (ls ++ (given put a ++ rs)) put a
  knows put (written s k) ls rs h = knows_of put k ls rs h

  knows_of : (put : List ℕ → Term) (k : TypeShape) (ls rs : LocalTypes) → AreGiven put ls → KnowsOf (ls ++ (given_of put k ++ rs)) put k
  knows_of put trees.int ls rs h = tt
  knows_of put trees.bool ls rs h = tt
  knows_of put trees.char ls rs h = tt
  knows_of put (trees.named x s) ls rs h = found_name put x ls rs h
  knows_of put (trees.sequence_type a) ls rs h = knows put a ls rs h
  knows_of put (trees.pair_type a b) ls rs h =
      let ga = given put a in
      let gb = given put b in
      let one : ls ++ (gb ++ (ga ++ rs)) ≡ ls ++ ((gb ++ ga) ++ rs) = ap (λ (k : LocalTypes). ls ++ k) (sym (append_assoc gb ga rs)) in
      let two : (ls ++ gb) ++ (ga ++ rs) ≡ ls ++ ((gb ++ ga) ++ rs) = append_assoc ls gb (ga ++ rs) ∙ one in (
        subst (λ (k : LocalTypes). Knows k put a) two (knows put a (ls ++ gb) rs (given-append put ls gb h (given-are put b))),
        subst (λ (k : LocalTypes). Knows k put b) one (knows put b ls (ga ++ rs) h),
      )

meaning_same : (o : Option (ℕ × Term)) (t u : Term) → nodes (name_in_signature o t) ≤ 4096 → (nodes t ≤ 4096 → u ≡ t) → name_in_signature o u ≡ name_in_signature o t
meaning_same None t u l h = h l
meaning_same (Some d) t u l h = refl

mutual
  signed-same : (ds : DatatypesByName) (ns : LocalTypes) (put : List ℕ → Term) (a : TypeTree) → Knows ns put a → nodes (signed ds put a) ≤ 4096 → signed ds (put_in ns) a ≡ signed ds put a
  signed-same ds ns put (written s k) h l = signed_shape-same ds ns put k h l

  signed_shape-same : (ds : DatatypesByName) (ns : LocalTypes) (put : List ℕ → Term) (k : TypeShape) → KnowsOf ns put k → nodes (signed_shape ds put k) ≤ 4096 → signed_shape ds (put_in ns) k ≡ signed_shape ds put k
  signed_shape-same ds ns put trees.int h l = refl
  signed_shape-same ds ns put trees.bool h l = refl
  signed_shape-same ds ns put trees.char h l = refl
  signed_shape-same ds ns put (trees.named x s) h l =
      meaning_same (ds x) (put x) (put_in ns x) l (λ k. ap (λ (o : Option Term). unwrap_or o int) h ∙ sym (trimmed-same (λ _. put x) 0 k))
  signed_shape-same ds ns put (trees.sequence_type a) h l = ap seq_of (signed-same ds ns put a h (omega arith))
  signed_shape-same ds ns put (trees.pair_type a b) h l =
      let e = signed-same ds ns put a h.0 (omega arith) in
      let d = signed-same ds ns put b h.1 (omega arith) in
      cc

put_in-is : (put : List ℕ → Term) (ns : LocalTypes) (x : List ℕ) → AreGiven put ns → (local_type x ns ≡ None) ⊎ (local_type x ns ≡ Some (trim (put x)))
put_in-is put [] x h = inl refl
put_in-is put (b ∷ ns) x h = entry b.0 b.1 h.0 (put_in-is put ns x h.1)
  where
    entry : (k : Key) (t : Term) → IsGiven put k t → (local_type x ns ≡ None) ⊎ (local_type x ns ≡ Some (trim (put x))) →
        (cond (is_name x k) (Some t) (local_type x ns) ≡ None) ⊎ (cond (is_name x k) (Some t) (local_type x ns) ≡ Some (trim (put x)))
    entry element t g r = absurd g
    entry (name y) t g r = by_test (bytes_eq x y) (λ q. (bytes_eq-Decides x y).0 q)
      where
        by_test : (b : Bool) → (b ≡ true → x ≡ y) → (cond b (Some t) (local_type x ns) ≡ None) ⊎ (cond b (Some t) (local_type x ns) ≡ Some (trim (put x)))
        by_test true d = inr (ap Some (g ∙ ap (λ (z : List ℕ). trim (put z)) (sym (d refl))))
        by_test false d = r

-- the type that is put for a name in no type is of any class
meant-given : (ds : DatatypesByName) (of : ℕ → Class) (put : List ℕ → Term) (ns : LocalTypes) → AreGiven put ns → (m : MemberTree) → IsInItsClass ds of put m → IsInItsClass ds of (put_in ns) m
meant-given ds of put ns h m = at_place (ds m.name)
  where
    c : Class
    c = class_of m.class

    at_place : (o : Option (ℕ × Term)) → IsIn of c (name_in_signature o (put m.name)) → IsIn of c (name_in_signature o (put_in ns m.name))
    at_place (Some d) k = k
    at_place None k =
        elim (put_in-is put ns m.name h) [
          | inl e ↦ subst (λ (o : Option Term). IsIn of c (unwrap_or o int)) (sym e) (int-in of c)
          | inr e ↦ subst (λ (o : Option Term). IsIn of c (unwrap_or o int)) (sym e) (trimmed-in of c (λ _. put m.name) 0 k)
        ]

pub arm_member : {A B C : State} (c : Class) (v : ℕ) (T : (ℕ → Term) → Term) → ((s z : ℕ → Term) → Agrees (count A) s z → T s ≡ T z) → ((s : ℕ → Term) → IsBounded s → nodes (T s) ≤ 4096) →
    Gives A B (λ s. s v) (λ s of u. IsIn of c u × (nodes u ≤ 4096)) → Adds B C (λ s of. s v ≡ T s) → Adds A C (λ s of. IsIn of c (T s))
arm_member c v T f l p1 p2 =
    let q = gives_and (λ s of u. IsIn of c u × (nodes u ≤ 4096)) (λ u s of. u ≡ T s) p1 p2 (λ u s z of a h. h ∙ f s z a) in
    adds_from _ (λ s of. IsIn of c (T s)) q
    (λ s of b h. subst (λ (t : Term). IsIn of c t) h.1 h.0.0)
    (λ s of b h. (T s, ((h, l s b), refl)))

-- a written type whose parts have variables of their own
pub arm_written_sequence : {A B1 B2 C : State} (T : (ℕ → Term) → Term) (v i : ℕ) → v < count A → ((s z : ℕ → Term) → Agrees (count A) s z → T s ≡ T z) →
    AnyTerm A B1 i → Adds B1 B2 (λ s of. s i ≡ T s) → Adds B2 C (λ s of. s v ≡ seq_of (s i)) → Adds A C (λ s of. s v ≡ seq_of (T s))
arm_written_sequence T v i inside f p1 p2 p3 =
    let q2 = gives_and (λ s of u. nodes u ≤ 4096) (λ u s of. u ≡ T s) p1 p2 (λ u s z of a h. h ∙ f s z a) in
    let q3 = gives_and _ (λ u s of. s v ≡ seq_of u) q2 p3 (λ u s z of a h. sym (a v inside) ∙ h) in
    adds_from _ (λ s of. s v ≡ seq_of (T s)) q3
    (λ s of b h. h.1 ∙ ap seq_of h.0.1)
    (λ s of b h. let e : nodes (s v) ≡ 1 + nodes (T s) = ap nodes h in let l = b v in (T s, ((omega arith, refl), h)))

pub arm_written_pair : {A B1 B2 B3 B4 C : State} (T U : (ℕ → Term) → Term) (v i j : ℕ) → v < count A → ((s z : ℕ → Term) → Agrees (count A) s z → T s ≡ T z) → ((s z : ℕ → Term) → Agrees (count A) s z → U s ≡ U z) →
    AnyTerm A B1 i → AnyTerm B1 B2 j → Adds B2 B3 (λ s of. s i ≡ T s) → Adds B3 B4 (λ s of. s j ≡ U s) → Adds B4 C (λ s of. s v ≡ pair_of (s i) (s j)) → Adds A C (λ s of. s v ≡ pair_of (T s) (U s))
arm_written_pair T U v i j inside f g p1 p2 p3 p4 p5 =
    let q2 = gives_then (λ s of u. nodes u ≤ 4096) (λ x s of u. nodes u ≤ 4096) p1 p2 (λ x s z of y a h. h) in
    let q3 = gives_and _ (λ x s of. x.0 ≡ T s) q2 p3 (λ x s z of a h. h ∙ f s z a) in
    let q4 = gives_and _ (λ x s of. x.1 ≡ U s) q3 p4 (λ x s z of a h. h ∙ g s z a) in
    let q5 = gives_and _ (λ x s of. s v ≡ pair_of x.0 x.1) q4 p5 (λ x s z of a h. sym (a v inside) ∙ h) in
    adds_from _ (λ s of. s v ≡ pair_of (T s) (U s)) q5
    (λ s of b h. h.1 ∙ ap (λ (t : Term). pair_of t (s j)) h.0.0.1 ∙ ap (λ (t : Term). pair_of (T s) t) h.0.1)
    (λ s of b h. let e : nodes (s v) ≡ 1 + nodes (T s) + nodes (U s) = ap nodes h in let l = b v in ((T s, U s), ((((omega arith, omega arith), refl), refl), h)))

-- what a name means depends only on the variables of the names
pub put_in-fixed : (n : ℕ) (ls : List Local) (s z : ℕ → Term) → AreLocalsBelow n ls → Agrees n s z → put_in (scope_at s ls) ≡ put_in (scope_at z ls)
put_in-fixed n ls s z h a = ap put_in (scope-fixed n ls h s z a)

reads : {A B : State} (f : LocalTypes → Term) (v : ℕ) (ls ms : List Local) → ls ≡ ms → Adds A B (λ s of. s v ≡ f (scope_at s ls)) → Adds A B (λ s of. s v ≡ f (scope_at s ms))
reads f v ls ms e p =
    adds_as (λ s of x. s v ≡ f (scope_at s ls)) (λ s of. s v ≡ f (scope_at s ms)) p (λ s of b h. h ∙ ap (λ (k : List Local). f (scope_at s k)) e) (λ s of h. (tt, h ∙ sym (ap (λ (k : List Local). f (scope_at s k)) e)))

pub arm_signed : {A B1 B2 B3 B4 C : State} (ds : DatatypesByName) (g : SignatureTree) (t u : ℕ) (ms os : List Local) → t < count A → u < count A →
    NamesIn A B1 [] ms (FreeNames g.from) → NamesIn B1 B2 ms os (FreeNames g.to) →
    Adds B2 B3 (λ s of. s t ≡ signed ds (put_in (scope_at s os)) g.from) → Adds B3 B4 (λ s of. s u ≡ signed ds (put_in (scope_at s os)) g.to) →
    Adds B4 C (λ s of. All (IsInItsClass ds of (put_in (scope_at s os))) g.members) →
    Adds A C (λ s of. (put : List ℕ → Term) × FitsSignature ds of g put (s t) (s u))
arm_signed {A = A} ds g t u ms os ti ui p1 p2 p3 p4 p5 =
    let names = two_names (FreeNames g.from) (FreeNames g.to) [] ms os p1 p2 in
    let read : (s : ℕ → Term) → scope_at s os ≡ scope_at s names.added = λ s. ap (scope_at s) names.after_is in
    let q3 = gives_and _ (λ ns s of. s t ≡ signed ds (put_in ns) g.from) names.gives (reads (λ ns. signed ds (put_in ns) g.from) t os names.added names.after_is p3) (λ x s z of a h. sym (a t ti) ∙ h) in
    let q4 = gives_and _ (λ ns s of. s u ≡ signed ds (put_in ns) g.to) q3 (reads (λ ns. signed ds (put_in ns) g.to) u os names.added names.after_is p4) (λ x s z of a h. sym (a u ui) ∙ h) in
    let last = adds_as (λ s of x. All (IsInItsClass ds of (put_in (scope_at s os))) g.members) (λ s of. All (IsInItsClass ds of (put_in (scope_at s names.added))) g.members) p5
    (λ s of b h. subst (λ (ns : LocalTypes). All (IsInItsClass ds of (put_in ns)) g.members) (read s) h)
    (λ s of h. (tt, subst (λ (ns : LocalTypes). All (IsInItsClass ds of (put_in ns)) g.members) (sym (read s)) h)) in
    let q5 = gives_and _ (λ ns s of. All (IsInItsClass ds of (put_in ns)) g.members) q4 last (λ x s z of a h. h) in
    adds_from _ (λ s of. (put : List ℕ → Term) × FitsSignature ds of g put (s t) (s u)) q5
    (λ s of b h. (put_in (scope_at s names.added), (h.0.0.1, h.0.1, h.1)))
    (λ s of b h.
    let put = h.0 in
    let from = given put g.from in
    let to = given put g.to in
    let ns : LocalTypes = to ++ from in
    let one : to ++ (from ++ []) ≡ ns = ap (λ (k : LocalTypes). to ++ k) (append-nil from) in
    let knows_from = subst (λ (k : LocalTypes). Knows k put g.from) one (knows put g.from to [] (given-are put g.to)) in
    let knows_to = knows put g.to [] from tt in
    let lt : nodes (signed ds put g.from) ≤ 4096 = subst (λ (x : Term). nodes x ≤ 4096) h.1.0 (b t) in
    let lu : nodes (signed ds put g.to) ≤ 4096 = subst (λ (x : Term). nodes x ≤ 4096) h.1.1 (b u) in (
      ns,
      (
        (((from, to, given-free put g.from, given-free put g.to, refl), h.1.0 ∙ sym (signed-same ds ns put g.from knows_from lt)), h.1.1 ∙ sym (signed-same ds ns put g.to knows_to lu)),
        All-weaker (IsInItsClass ds of put) (IsInItsClass ds of (put_in ns)) (meant-given ds of put ns (given-append put to from (given-are put g.to) (given-are put g.from))) g.members h.1.2,
      ),
    ))

pub names_below : {A B : State} (ls ms : List Local) (P : LocalTypes → Type 0) → AreLocalsBelow (count A) ls → NamesIn A B ls ms P → AreLocalsBelow (count B) ms
names_below {A = A} {B = B} ls ms P h p =
    subst (λ (ks : List Local). AreLocalsBelow (count B) ks) (sym p.after_is) (locals-append (count B) ls p.added (locals-weaker (count A) (count B) ls p.gives.more h) p.below)

pub both_below : {A B C : State} (ks ms os : List Local) (P Q : LocalTypes → Type 0) → ks ≡ [] → NamesIn A B ks ms P → NamesIn B C ms os Q → AreLocalsBelow (count C) os
both_below {A = A} {B = B} {C = C} ks ms os P Q e p q =
    let none : AreLocalsBelow (count A) ks = subst (λ (ls : List Local). AreLocalsBelow (count A) ls) (sym e) (All-nil (λ (x : Local). x.variable < count A)) in
    names_below {A = B} {B = C} ms os Q (names_below {A = A} {B = B} ks ms P none p) q

pub nothing_said : {A : State} → Adds A A (λ s of. Unit {0})
nothing_said = record {
  more = omega arith;
  fixed = λ s z a. refl;
  sound = λ s of b h. (h, tt);
  complete = λ s of b h x c. (s, λ _ _. refl, h, b, refl);
}

pub no_members : {A : State} (Q : (ℕ → Term) → (ℕ → Class) → MemberTree → Type 0) → Adds A A (λ s of. All (Q s of) [])
no_members Q = record {
  more = omega arith;
  fixed = λ s z a. refl;
  sound = λ s of b h. (h, All-nil (Q s of));
  complete = λ s of b h x c. (s, λ _ _. refl, h, b, refl);
}

-- one member more
pub arm_members : {A B C : State} (Q : (ℕ → Term) → (ℕ → Class) → MemberTree → Type 0) (ms : List MemberTree) (m : MemberTree) →
    ((s z : ℕ → Term) (of : ℕ → Class) → Agrees (count A) s z → Q s of m → Q z of m) →
    Adds A B (λ s of. All (Q s of) ms) → Adds B C (λ s of. Q s of m) → Adds A C (λ s of. All (Q s of) (ms ++ m ∷ []))
arm_members Q ms m f p h =
    let q = gives_and (λ s of x. All (Q s of) ms) (λ x s of. Q s of m) p h (λ x s z of a k. f s z of a k) in
    adds_as _ (λ s of. All (Q s of) (ms ++ m ∷ [])) q
    (λ s of b k. All-push (Q s of) ms m k.0 k.1)
    (λ s of k. (tt, All-pop (Q s of) (ms ++ m ∷ []) ms (Some m) refl k))

pub take-members : (xs : List Member) (i : ℕ) (x : Member) → i < length xs → x ≡ get_or xs i x → map member_tree (take (i + 1) xs) ≡ map member_tree (take i xs) ++ member_tree x ∷ []
take-members xs i x b e =
    ap (map member_tree) (take_more xs i x b) ∙ ap (λ (k : Member). map member_tree (take i xs ++ k ∷ [])) (sym e) ∙ map-append member_tree (take i xs) (x ∷ [])
