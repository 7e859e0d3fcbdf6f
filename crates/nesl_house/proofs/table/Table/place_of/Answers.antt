use Rattle.std.proofs.Common.{ap}
use Rattle.std.specs.Str.{bytes_eq}
use Rattle.nesl_house.proofs.Boards.{place_stored, place_inside}
use Rattle.nesl_house.proofs.table.Table.place_of.Goals as goal

pub returns-clause-place : goal.returns-clause-place
returns-clause-place c = place_stored (λ v. v.items) c.self.inside.roster.items c.as_slice.result.now c.args.self.now.roster c.args.user.now c.place_in.result c.place_in.ensures c.as_slice.ensures.value (ap (λ r. r.roster) c.self.view_is)

pub returns-clause-in_range : goal.returns-clause-in_range
returns-clause-in_range c = place_inside (λ v. bytes_eq v.items c.args.user.now) c.self.inside.roster.items c.as_slice.result.now c.place_in.result c.place_in.ensures c.as_slice.ensures.value c.self.invariant.0
