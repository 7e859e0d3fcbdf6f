use Rattle.std.proofs.Common.{ℕ, ◌<◌, get_or}
use Rattle.nesl_types.specs.declared.classes.Class.{Class}
use Rattle.nesl_types.specs.Class.{IsIn, class_at}
use Rattle.nesl_types_shared.specs.Term.{Term}
use Rattle.nesl_types_shared.specs.Substitution.{substitute}
use Rattle.nesl_unify.specs.declared.narrow.Member.{Member}
use Rattle.nesl_unify.specs.Members.{IsInAll}
use Rattle.nesl_unify.specs.Solves.{IsReading}
use Rattle.nesl_unify.proofs.narrow.narrow.Given as goal

abbrev pub invariant-loop-member : goal.invariant-loop-member
invariant-loop-member l = record {
  within : (g : ℕ → Term) → IsReading l.instances l.nodes g → (k : ℕ) (d : Member) → k < l.member-index → IsIn (class_at l.classes.items) (get_or l.members k d).class (g (get_or l.members k d).variable);
  general : (g : ℕ → Term) → IsReading l.instances l.nodes g → (w : ℕ → Term) (of : ℕ → Class) → IsInAll (λ v. substitute w (g v)) of l.members → (v : ℕ) → IsIn of (class_at l.classes.items v) (w v);
}
