-- What a step of the code means.
use Rattle.std.specs.Prelude.{◌≡◌, List, ◌∷◌, Option, Some, None, Result, Ok, Err}
use Rattle.nesl_syntax_tree.specs.declared.parts.part.Part.{Part}
use Rattle.nesl_syntax_open.specs.declared.pending.Opening.{Opening}
use Rattle.nesl_syntax_open.specs.declared.pending.Pending.{Pending}
use Rattle.nesl_syntax_open.specs.declared.pending.Pending.TheVariants as pendings
use Rattle.nesl_syntax_open.specs.declared.pending.TypeOpening.{TypeOpening}
use Rattle.nesl_syntax_tree.specs.declared.parts.types.TypePart.{TypePart}
use Rattle.nesl_syntax_open.specs.declared.mode.Mode.{Mode}
use Rattle.nesl_syntax_open.specs.declared.fault.ParseFault.{ParseFault}
use Rattle.nesl_syntax_open.specs.declared.fault.ParseFault.TheVariants.{Syntax, Nested, Memory}
use Rattle.nesl_syntax_tree.specs.Trees.{Tree, TypeTree}
use Rattle.nesl_lex.specs.Tokens.{Placed}
use Rattle.nesl_lex.specs.declared.token.Span.{Span}
use Rattle.nesl_syntax_open.specs.Machine.{Waiting, State, before, run, with_newest, open_at}
use Rattle.nesl_syntax_open.specs.Machine.{type_at, listed, type_closed}
use Rattle.nesl_syntax_open.specs.Machine as machine
use Rattle.nesl_syntax_open.specs.Modes.{SeesMode}
use Rattle.nesl_syntax_tree.specs.Parts.{Sees, SeesType}
use Rattle.nesl_syntax_open.specs.Stack.{SeesOpening, SeesTypeOpening, SeesPending, SeesStack}

-- the newest, where it is an opening, and those that wait under it
abbrev pub newest_opening : List Waiting → Option (machine.Opening × List Waiting)
newest_opening (open_at o ∷ ws) = Some (o, ws)
newest_opening _ = None

-- what a call popped and left is this, or there is none and nothing was given
abbrev pub OpeningPopped : Option Opening → List Pending → Option (machine.Opening × List Waiting) → Type 0
OpeningPopped (Some p) ps (Some q) = SeesOpening p q.0 × SeesStack ps q.1
OpeningPopped (Some p) ps None = ⊥
OpeningPopped None ps q = q ≡ None

-- the same of a type's
abbrev pub newest_type : List Waiting → Option (machine.TypeOpening × List Waiting)
newest_type (type_at o ∷ ws) = Some (o, ws)
newest_type _ = None

abbrev pub TypePopped : Option TypeOpening → List Pending → Option (machine.TypeOpening × List Waiting) → Type 0
TypePopped (Some p) ps (Some q) = SeesTypeOpening p q.0 × SeesStack ps q.1
TypePopped (Some p) ps None = ⊥
TypePopped None ps q = q ≡ None

-- what a call returned is this, or there is none and the result says so, or memory ran out
abbrev pub PendingGiven : Result Pending ParseFault → Option Waiting → Type 0
PendingGiven (Ok p) (Some w) = SeesPending p w
PendingGiven (Ok p) None = ⊥
PendingGiven (Err Syntax) w = w ≡ None
PendingGiven (Err Nested) w = ⊥
PendingGiven (Err Memory) w = Unit {0}

-- the same of a type's
abbrev pub TypeOpeningGiven : Result TypeOpening ParseFault → Option Waiting → Type 0
TypeOpeningGiven (Ok p) w = PendingGiven (Ok (pendings.Type p)) w
TypeOpeningGiven (Err e) w = PendingGiven (Err e) w

abbrev pub TypeGiven : Result TypePart ParseFault → Option TypeTree → Type 0
TypeGiven (Ok p) (Some a) = SeesType p a
TypeGiven (Ok p) None = ⊥
TypeGiven (Err Syntax) a = a ≡ None
TypeGiven (Err Nested) a = ⊥
TypeGiven (Err Memory) a = Unit {0}

-- the newest is a list, with one more element
abbrev pub list_newest : List Waiting → Tree → Option State
list_newest (open_at o ∷ ws) e = with_newest before ws (listed o e)
list_newest _ e = None

abbrev pub GivesTree : Result Part ParseFault → Option Tree → Type 0
GivesTree (Ok p) (Some x) = Sees p x
GivesTree (Ok p) None = ⊥
GivesTree (Err Syntax) x = x ≡ None
GivesTree (Err Nested) x = ⊥
GivesTree (Err Memory) x = Unit {0}

-- with these tokens to come, the code is where all the tokens lead from this state
pub record Runs (ps : List Pending) (mode : Mode) (rest all : List Placed) (start : State) : Type 0 where
  pub waiting : List Waiting
  pub now : machine.Mode
  pub stack : SeesStack ps waiting
  pub sees : SeesMode mode now
  pub same : run (waiting, now) rest ≡ run start all

-- a list and a type that close as these do
pub record Closes (t : Span) (ws : List Waiting) (a : TypeTree) (ps : List Pending) (part : TypePart) : Type 0 where
  pub now : List Waiting
  pub last : TypeTree
  pub stack : SeesStack ps now
  pub sees : SeesType part last
  pub same : type_closed now t last ≡ type_closed ws t a
