-- Systems: facts of the types of variables, and classes of variables.
use Rattle.std.specs.Prelude.{◌<◌, ℕ, All, length}
use Rattle.nesl_types.specs.declared.classes.Class.{Class}
use Rattle.nesl_types_shared.specs.Term.{Term}
use Rattle.nesl_unify.specs.declared.system.System.{System}
use Rattle.nesl_unify.specs.Facts.{AreFacts, AreTrue}
use Rattle.nesl_unify.specs.Members.{IsInAll}

-- the variables are the numbers below this
abbrev pub count : System → ℕ
count a = length a.members.items

-- s solves the equations of a system
abbrev pub IsSolvedBy : System → (ℕ → Term) → Type 0
IsSolvedBy a s = AreTrue a.instances a.facts.items s

-- s and `of` solve a system
pub record SolvesSystem (a : System) (s : ℕ → Term) (of : ℕ → Class) : Type 0 where
  pub equal : IsSolvedBy a s
  pub within : IsInAll s of a.members.items

-- all is made of variables of the system and of what it has
pub record IsSystem (a : System) : Type 0 where
  pub facts : AreFacts a.instances (length a.members.items) a.facts.items
  pub members : All (λ m. m.variable < length a.members.items) a.members.items
