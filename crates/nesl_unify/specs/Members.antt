-- Variables that stand for types of given classes.
use Rattle.std.specs.Prelude.{ℕ, List, All}
use Rattle.nesl_types.specs.declared.classes.Class.{Class}
use Rattle.nesl_types_shared.specs.Term.{Term}
use Rattle.nesl_types.specs.Class.{IsIn}
use Rattle.nesl_unify.specs.declared.narrow.Member.{Member}

-- each member's variable stands for a type of its class, where `of` gives each variable of these types its class
abbrev pub IsInAll : (ℕ → Term) → (ℕ → Class) → List Member → Type 0
IsInAll s of members = All (λ m. IsIn of m.class (s m.variable)) members
