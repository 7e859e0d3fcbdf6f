-- Steps that add variables and equations.
use Rattle.std.specs.Prelude.{◌≡◌, ◌<◌, ◌≤◌, ℕ, true, List, [], ◌∷◌, ◌++◌, Option, Some, None, All}
use Rattle.nesl_types.specs.declared.classes.Class.{Class}
use Rattle.nesl_types.specs.declared.bindings.Top.{Top}
use Rattle.nesl_types_shared.specs.Term.{Term}
use Rattle.nesl_unify.specs.Bounds.{IsBounded}
use Rattle.nesl_unify.specs.Systems.{SolvesSystem}
use Rattle.nesl_unify.specs.Systems as system
use Rattle.nesl_infer_rules.specs.declared.state.State.{State}
use Rattle.nesl_infer_rules.specs.declared.state.Local.{Local}
use Rattle.nesl_infer_rules.specs.declared.state.OwnName.{OwnName}
use Rattle.nesl_infer_rules.specs.World.{Assumptions, OwnFunction, meanings_in}
use Rattle.nesl_infer_rules.specs.declared.state.Key.{Key}
use Rattle.nesl_infer_rules.specs.declared.state.Key.TheVariants.{Name, Element}
use Rattle.nesl_infer_rules.specs.Typing.{LocalTypes}
use Rattle.nesl_infer_rules.specs.Typing as typing
use Rattle.nesl_infer_rules.specs.Principal.{bounded}

-- two substitutions give the same types to the variables below n
abbrev pub Agrees : ℕ → (ℕ → Term) → (ℕ → Term) → Type 0
Agrees n s z = (v : ℕ) → v < n → s v ≡ z v

-- the variables are the numbers below this
abbrev pub count : State → ℕ
count state = system.count state.system

-- s and `of` solve the equations and the classes; nothing does after memory ran out
pub record IsSolution (s : ℕ → Term) (of : ℕ → Class) (state : State) : Type 0 where
  pub whole : state.is_whole ≡ true
  pub solves : SolvesSystem state.system s of

-- a step from one state to a later one: each solution of the later one solves the earlier one, and P holds of what is
-- read of it;
-- a solution of the earlier one, and each x of which P holds, extend to a solution of the later one in which x is read
pub record Gives {X : Type 0} (old new : State) (read : (ℕ → Term) → X)
    (P : (ℕ → Term) → (ℕ → Class) → X → Type 0) : Type 0 where
  pub more : count old ≤ count new
  pub fixed : (s z : ℕ → Term) → Agrees (count new) s z → read s ≡ read z
  pub sound : (s : ℕ → Term) (of : ℕ → Class) → IsBounded s → IsSolution s of new → IsSolution s of old
      × P s of (read s)
  pub complete : (s : ℕ → Term) (of : ℕ → Class) → IsBounded s → IsSolution s of old → (x : X) → P s of x →
      (z : ℕ → Term) × Agrees (count old) s z × IsSolution z of new × IsBounded z × (read z ≡ x)

abbrev pub Adds : State → State → ((ℕ → Term) → (ℕ → Class) → Type 0) → Type 0
Adds old new P = Gives {X = Unit {0}} old new (λ s. tt) (λ s of x. P s of)

abbrev pub key_of : Key → typing.Key
key_of (Name x) = typing.name x.now
key_of Element = typing.element

-- the types of local names under a substitution, the newest first
abbrev pub scope_at : (ℕ → Term) → List Local → LocalTypes
scope_at s [] = []
scope_at s (l ∷ ls) = scope_at s ls ++ (key_of l.key, s l.variable) ∷ []

abbrev pub own_at : (ℕ → Term) → Option OwnName → OwnFunction
own_at s None = None
own_at s (Some o) = Some (o.name.items, s o.takes, s o.gives)

abbrev pub AreLocalsBelow : ℕ → List Local → Type 0
AreLocalsBelow n ls = All (λ l. l.variable < n) ls

abbrev pub IsOwnBelow : ℕ → Option OwnName → Type 0
IsOwnBelow n None = Unit {0}
IsOwnBelow n (Some o) = (o.takes < n) × (o.gives < n)

abbrev pub world_at : {P : Type 0} → List (List ℕ × Top × P) → Option OwnName → (ℕ → Term) → (ℕ → Class) → Assumptions
world_at context own s of = bounded (meanings_in context (own_at s own)) of

-- a step that adds local names: their types are read
pub record AddsNames (old new : State) (before after : List Local)
    (P : (ℕ → Term) → (ℕ → Class) → LocalTypes → Type 0) : Type 0 where
  pub added : List Local
  pub after_is : after ≡ before ++ added
  pub below : AreLocalsBelow (count new) added
  pub gives : Gives old new (λ s. scope_at s added) P
