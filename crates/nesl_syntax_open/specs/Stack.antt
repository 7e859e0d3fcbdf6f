-- What the code's list of open constructs means.
use Rattle.std.specs.Prelude.{◌≡◌, ℕ, Bool, true, false, List, [], ◌∷◌, ◌++◌, reverse, Option}
use Rattle.nesl_syntax_tree.specs.declared.parts.part.Part.{Part}
use Rattle.nesl_syntax_open.specs.declared.pending.Group.{Group}
use Rattle.nesl_syntax_open.specs.declared.pending.Group.TheVariants as groups
use Rattle.nesl_syntax_open.specs.declared.pending.Opening.{Opening}
use Rattle.nesl_syntax_open.specs.declared.pending.Opening.TheVariants as openings
use Rattle.nesl_syntax_open.specs.declared.pending.TypeOpening.{TypeOpening}
use Rattle.nesl_syntax_open.specs.declared.pending.TypeOpening.TheVariants as types
use Rattle.nesl_syntax_open.specs.declared.pending.Pending.{Pending}
use Rattle.nesl_syntax_open.specs.declared.pending.Pending.TheVariants as pendings
use Rattle.nesl_syntax_tree.specs.Trees.{Tree, Trees, Binders, PatternTree, TypeTree, none, more, no_binders, binder}
use Rattle.nesl_syntax_open.specs.Machine as machine
use Rattle.nesl_syntax_open.specs.Machine.{Waiting, open_at, comma_behind, else_behind, body_of, prefix_at, sign_behind}
use Rattle.nesl_syntax_open.specs.Machine.{type_at, folded}
use Rattle.nesl_syntax_tree.specs.Parts.{Sees, SeesBody, SeesAll, SeesBound, SeesPattern, SeesType}

abbrev pub some_elements : Trees → Bool
some_elements none = false
some_elements (more x xs) = true

abbrev pub some_binders : Binders → Bool
some_binders no_binders = false
some_binders (binder p e bs) = true

abbrev pub SeesGroup : Group → machine.Group → Type 0
SeesGroup (groups.Let s) g = g ≡ machine.let_group s
SeesGroup (groups.Each s b) g = (e : Option Tree) × (g ≡ machine.each_group s e) × SeesBody b e

abbrev pub SeesOpening : Opening → machine.Opening → Type 0
SeesOpening (openings.Round s) o = o ≡ machine.round s
SeesOpening (openings.Call x s) o = o ≡ machine.call x.letters.items s
SeesOpening (openings.Index p) o = (a : Tree) × (o ≡ machine.index_of a) × Sees p a
SeesOpening (openings.Test s) o = o ≡ machine.test s
SeesOpening (openings.Branch s p) o = (a : Tree) × (o ≡ machine.branch s a) × Sees p a
SeesOpening (openings.List b s ps) o = (xs : Trees) × (o ≡ machine.list s xs) × (b ≡ some_elements xs) × SeesAll ps xs
SeesOpening (openings.RangeFrom s p) o = (a : Tree) × (o ≡ machine.range_from s a) × Sees p a
SeesOpening (openings.RangeTo s p q) o = (a b : Tree) × (o ≡ machine.range_to s a b) × Sees p a × Sees q b
SeesOpening (openings.Brace s) o = o ≡ machine.brace s
SeesOpening (openings.Binders b g bound) o =
    (h : machine.Group) × (bs : Binders) × (o ≡ machine.binders h bs) × SeesGroup g h × (b ≡ some_binders bs)
    × SeesBound bound bs
SeesOpening (openings.Value g bound p) o =
    (h : machine.Group) × (bs : Binders) × (t : PatternTree) × (o ≡ machine.value h bs t) × SeesGroup g h
    × SeesBound bound bs × SeesPattern p t
SeesOpening (openings.Filter s b bound) o =
    (e : Option Tree) × (bs : Binders) × (o ≡ machine.filter s e bs) × SeesBody b e × SeesBound bound bs

abbrev pub SeesTypeOpening : TypeOpening → machine.TypeOpening → Type 0
SeesTypeOpening (types.Empty s) o = o ≡ machine.empty_at s
SeesTypeOpening (types.List s) o = o ≡ machine.type_list s
SeesTypeOpening (types.Round s) o = o ≡ machine.type_round s
SeesTypeOpening (types.Comma p) o = (a : TypeTree) × (o ≡ machine.type_comma a) × SeesType p a

abbrev pub SeesPending : Pending → Waiting → Type 0
SeesPending (pendings.Open p) w = (o : machine.Opening) × (w ≡ open_at o) × SeesOpening p o
SeesPending (pendings.Comma p) w = (a : Tree) × (w ≡ comma_behind a) × Sees p a
SeesPending (pendings.Else s p q) w = (a b : Tree) × (w ≡ else_behind s a b) × Sees p a × Sees q b
SeesPending (pendings.Body s bound) w = (bs : Binders) × (w ≡ body_of s bs) × SeesBound bound bs
SeesPending (pendings.Prefix o s) w = w ≡ prefix_at o s
SeesPending (pendings.Sign o p) w = (a : Tree) × (w ≡ sign_behind o a) × Sees p a
SeesPending (pendings.Type p) w = (o : machine.TypeOpening) × (w ≡ type_at o) × SeesTypeOpening p o

-- one for one, the newest first
abbrev pub SeesEach : List Pending → List Waiting → Type 0
SeesEach [] [] = Unit {0}
SeesEach (p ∷ ps) (w ∷ ws) = SeesPending p w × SeesEach ps ws
SeesEach [] (w ∷ ws) = ⊥
SeesEach (p ∷ ps) [] = ⊥

-- the code keeps the newest last
pub record SeesStack (ps : List Pending) (ws : List Waiting) : Type 0 where
  pub each : SeesEach (reverse ps) ws

-- the newest that waits, and the others
pub record SeesNewest (p : Pending) (ps : List Pending) (ws : List Waiting) : Type 0 where
  pub newest : Waiting
  pub others : List Waiting
  pub both : ws ≡ newest ∷ others
  pub sees : SeesPending p newest
  pub stack : SeesStack ps others

-- all but the newest, where there is one
abbrev pub IsBelow : List Pending → Pending → List Pending → Type 0
IsBelow ps p all = all ≡ ps ++ p ∷ []

-- a list and a part that fold as these do
pub record Folds (n : ℕ) (ws : List Waiting) (x : Tree) (ps : List Pending) (part : Part) : Type 0 where
  pub now : List Waiting
  pub last : Tree
  pub stack : SeesStack ps now
  pub sees : Sees part last
  pub same : folded n now last ≡ folded n ws x
