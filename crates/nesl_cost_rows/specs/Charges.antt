-- What the code's charges mean.
use Rattle.std.specs.Prelude.{option_map}
use Rattle.nesl_cost_meaning.specs.Cost as cost
use Rattle.nesl_cost_rows.specs.declared.charge.Charge.{Charge}

-- the charge that the code's value means
abbrev pub charge_of : Charge → cost.Charge
charge_of c =
    record {
      place = record { home = option_map (λ x. x.now) c.home; span = c.span };
      entries = c.entries;
      work = c.work;
      depth = c.depth;
      decides = c.decides;
    }
