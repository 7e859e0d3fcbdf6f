use Rattle.nesl_types_shared.specs.Substitution.{substitute}
use Rattle.nesl_types_shared.specs.Types.{type_at}
use Rattle.nesl_types_shared.specs.Renames.{replacement, HaveVariablesOf}
use Rattle.nesl_types_shared.proofs.Reached.{IsRenaming}
use Rattle.nesl_types_shared.proofs.renaming.rename_marked.Given as goal

abbrev pub invariant-loop-next : goal.invariant-loop-next
invariant-loop-next l = record {
  renaming : IsRenaming l.of l.initial.to l.to l.from l.marks l.places l.next;
  below : HaveVariablesOf l.initial.to l.to (substitute (replacement l.initial.to l.of) (type_at l.from l.place));
}
