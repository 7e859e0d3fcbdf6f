use Rattle.std.proofs.Common.{ℕ, ◌<◌, get_or}
use Rattle.nesl_unify.specs.declared.equation.Equation.{Equation}
use Rattle.nesl_types_shared.specs.Numbering.{IsBelow}
use Rattle.nesl_unify.proofs.solve.are_below.Given as goal

abbrev pub invariant-loop-equation : goal.invariant-loop-equation
invariant-loop-equation l = (k : ℕ) (d : Equation) → k < l.equation-index → IsBelow l.count ((get_or l.equations k d).left) × IsBelow l.count ((get_or l.equations k d).right)
