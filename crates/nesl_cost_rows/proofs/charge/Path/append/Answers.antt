use Rattle.std.proofs.Common.{arith, ◌∙◌, ◌++◌, ap, map}
use Rattle.nesl_cost_meaning.specs.Cost.{depths}
use Rattle.nesl_cost_rows.specs.Charges.{charge_of}
use Rattle.nesl_cost_rows.proofs.ReadBack.{depths_both}
use Rattle.nesl_cost_rows.proofs.charge.Path.append.Goals as goal

pub invariant_of-self-2 : goal.invariant_of-self-2
invariant_of-self-2 c =
    record { sums = ap (λ l. depths (map charge_of l)) c.in_ok-extend_from_slice.ensures.items ∙ ap (λ v. depths (map charge_of (c.args.self.now.charges.items ++ v))) c.as_slice.ensures.value ∙ omega (arith, depths_both c.args.self.now.charges.items c.args.other.charges.items, c.args.self.now.sums, c.args.other.sums, c.in-Some.ensures) }
