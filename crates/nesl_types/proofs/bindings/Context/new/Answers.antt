use Rattle.std.proofs.Common.{ap}
use Rattle.nesl_types.specs.Names.{named}
use Rattle.nesl_types.proofs.Bound.{rows}
use Rattle.nesl_types.proofs.bindings.Context.new.Goals as goal

pub returns : goal.returns
returns g c = ap (λ ns. named ns (rows (λ e. e.top) (λ e. e.payload) c.new-2.result.items)) c.new.ensures
