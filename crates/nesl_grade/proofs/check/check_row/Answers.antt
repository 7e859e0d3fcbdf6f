use Rattle.std.proofs.Common.{◌≡◌, List, ℕ, get_or, take, sym, subst}
use Rattle.std.specs.Prelude.{All}
use Rattle.std.proofs.lemmas.List.{take_all, take_more}
use Rattle.std.proofs.lemmas.List.Elements.{All-push}
use Rattle.nesl_exercise.specs.declared.outcome.Outcome.{Outcome}
use Rattle.nesl_exercise.specs.declared.outcome.Outcome.TheVariants as outcomes
use Rattle.nesl_grade.specs.Outcomes.{IsWithin, TellsAt}
use Rattle.nesl_grade.proofs.check.check_row.Goals as goal

pub loop-n-preserved : goal.loop-n-preserved
loop-n-preserved c =
    let P : ℕ → Type 0 = IsWithin c.args.examined.now c.args.exp.now c.args.measure c.args.bound.now in
    let n = get_or c.args.row.now c.loop-n.n-index 0 in
    let passed : c.in_ok-outcome.outcome ≡ outcomes.Passed = c.is_passed.ensures.yes (cc) in
    let here : P n =
    subst (λ (o : Outcome). TellsAt c.args.examined.now c.args.exp.now c.args.measure c.args.bound.now n o) passed
    c.in_ok-outcome.ensures in
    subst (All P) (sym (take_more c.args.row.now c.loop-n.n-index 0 c.loop-n-test.true))
    (All-push P (take c.loop-n.n-index c.args.row.now) n c.loop-n.invariant here)

pub returns : goal.returns
returns c = let P : List ℕ → Type 0 = All (IsWithin c.args.examined.now c.args.exp.now c.args.measure c.args.bound.now) in
    subst P (take_all c.loop-n.n-index c.args.row.now c.loop-n-test.false) c.loop-n.invariant
