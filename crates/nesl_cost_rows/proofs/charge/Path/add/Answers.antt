use Rattle.std.proofs.Common.{arith, ◌∙◌, ap, map}
use Rattle.nesl_cost_meaning.specs.Cost.{depths}
use Rattle.nesl_cost_rows.specs.Charges.{charge_of}
use Rattle.nesl_cost_rows.proofs.ReadBack.{depths_more}
use Rattle.nesl_cost_rows.proofs.charge.Path.add.Goals as goal

pub invariant_of-self-2 : goal.invariant_of-self-2
invariant_of-self-2 c =
    record { sums = ap (λ l. depths (map charge_of l)) c.in_ok-push.ensures.items ∙ omega (arith, depths_more c.args.self.now.charges.items c.args.charge, c.args.self.now.sums, c.in-Some.ensures) }
