-- What names mean under a substitution depends only on the variables so far.
use Rattle.std.proofs.Common.{◌≡◌, ◌<◌, ◌≤◌, ℕ, List, [], ◌∷◌, ◌++◌, refl, ap, ◌∙◌, subst}
use Rattle.std.specs.Prelude.{Option, Some, None}
use Rattle.std.proofs.lemmas.List.Elements.{All-head, All-tail}
use Rattle.nesl_types.specs.declared.classes.Class.{Class}
use Rattle.nesl_types.specs.declared.bindings.Top.{Top}
use Rattle.nesl_types_shared.specs.Term.{Term, nodes}
use Rattle.nesl_syntax_tree.specs.Trees.{Tree, Trees, node}
use Rattle.nesl_infer_rules.specs.declared.state.Local.{Local}
use Rattle.nesl_infer_rules.specs.declared.state.OwnName.{OwnName}
use Rattle.nesl_infer_rules.specs.World.{Assumptions, TypedNames, OwnFunction, meanings_in}
use Rattle.nesl_infer_rules.specs.Typing.{LocalTypes, HasType, HaveType}
use Rattle.nesl_infer_rules.specs.Principal.{bounded}
use Rattle.nesl_infer_rules.specs.Steps.{Agrees, key_of, scope_at, own_at, AreLocalsBelow, IsOwnBelow}

-- the meaning of names depends only on the variables below n
pub record IsFixed (n : ℕ) (N : (ℕ → Term) → TypedNames) (S : (ℕ → Term) → LocalTypes) : Type 0 where
  pub names : (s z : ℕ → Term) → Agrees n s z → N s ≡ N z
  pub scope : (s z : ℕ → Term) → Agrees n s z → S s ≡ S z

pub scope-fixed : (n : ℕ) (ls : List Local) → AreLocalsBelow n ls → (s z : ℕ → Term) → Agrees n s z → scope_at s ls ≡ scope_at z ls
scope-fixed n [] b s z a = refl
scope-fixed n (l ∷ ls) b s z a =
    let e = scope-fixed n ls (All-tail (λ (x : Local). x.variable < n) l ls b) s z a in
    let d = a l.variable (All-head (λ (x : Local). x.variable < n) l ls b) in
    ap (λ (sc : LocalTypes). sc ++ (key_of l.key, s l.variable) ∷ []) e ∙ ap (λ (t : Term). scope_at z ls ++ (key_of l.key, t) ∷ []) d

pub own-fixed : (n : ℕ) (own : Option OwnName) → IsOwnBelow n own → (s z : ℕ → Term) → Agrees n s z → own_at s own ≡ own_at z own
own-fixed n None b s z a = refl
own-fixed n (Some o) b s z a =
    ap (λ (t : Term). let k : OwnFunction = Some (o.name.items, t, s o.gives) in k) (a o.takes b.0) ∙ ap (λ (t : Term). let k : OwnFunction = Some (o.name.items, z o.takes, t) in k) (a o.gives b.1)

pub fixed : {P : Type 0} (context : List (List ℕ × Top × P)) (n : ℕ) (own : Option OwnName) (ls : List Local) → IsOwnBelow n own → AreLocalsBelow n ls →
    IsFixed n (λ s. meanings_in context (own_at s own)) (λ s. scope_at s ls)
fixed context n own ls o b = record {
  names = λ s z a. ap (meanings_in context) (own-fixed n own o s z a);
  scope = scope-fixed n ls b;
}

pub typed-moves : (n : ℕ) (N : (ℕ → Term) → TypedNames) (S : (ℕ → Term) → LocalTypes) → IsFixed n N S → (e : Tree) (s z : ℕ → Term) (of : ℕ → Class) (t : Term) → Agrees n s z →
    HasType (bounded (N s) of) (S s) e t → HasType (bounded (N z) of) (S z) e t
typed-moves n N S f e s z of t a h =
    subst (λ (ns : TypedNames). HasType (bounded ns of) (S z) e t) (f.names s z a) (subst (λ (sc : LocalTypes). HasType (bounded (N s) of) sc e t) (f.scope s z a) h)

pub all-moves : (n : ℕ) (N : (ℕ → Term) → TypedNames) (S : (ℕ → Term) → LocalTypes) → IsFixed n N S → (es : Trees) (s z : ℕ → Term) (of : ℕ → Class) (t : Term) → Agrees n s z →
    HaveType (bounded (N s) of) (S s) es t → HaveType (bounded (N z) of) (S z) es t
all-moves n N S f es s z of t a h =
    subst (λ (ns : TypedNames). HaveType (bounded ns of) (S z) es t) (f.names s z a) (subst (λ (sc : LocalTypes). HaveType (bounded (N s) of) sc es t) (f.scope s z a) h)

pub small : (w : Assumptions) (sc : LocalTypes) (e : Tree) (t : Term) (n : ℕ) → HasType (record w { limit = Some n }) sc e t → nodes t ≤ n
small w sc (node s k) t n h = h.0
