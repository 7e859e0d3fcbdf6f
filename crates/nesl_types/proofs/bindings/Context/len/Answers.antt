use Rattle.std.proofs.Common.{length, ap, ◌∙◌}
use Rattle.nesl_types.proofs.Bound.{rows, how_many, same_length}
use Rattle.nesl_types.proofs.bindings.Context.len.Goals as goal

pub returns : goal.returns
returns g c =
    c.len.ensures
    ∙ how_many c.self.inside.names (rows (λ e. e.top) (λ e. e.payload) c.self.inside.entries.items) (same_length (λ e. e.top) (λ e. e.payload) c.self.inside.names c.self.inside.entries.items c.self.invariant.0)
    ∙ ap length c.self.view_is
