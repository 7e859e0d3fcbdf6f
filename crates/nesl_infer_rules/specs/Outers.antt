-- What names mean where an expression is, by what is outside of it.
use Rattle.std.specs.Prelude.{ℕ}
use Rattle.nesl_types.specs.declared.classes.Class.{Class}
use Rattle.nesl_types_shared.specs.Term.{Term}
use Rattle.nesl_infer_rules.specs.declared.outer.Outer.{Outer}
use Rattle.nesl_infer_rules.specs.World.{Assumptions, TypedNames, meanings_in}
use Rattle.nesl_infer_rules.specs.Steps.{own_at, world_at}

abbrev pub meant_at : {P : Type 0} → Outer P → (ℕ → Term) → TypedNames
meant_at outer s = meanings_in outer.context.now (own_at s outer.own)

abbrev pub assumed_at : {P : Type 0} → Outer P → (ℕ → Term) → (ℕ → Class) → Assumptions
assumed_at outer s of = world_at outer.context.now outer.own s of
