use Rattle.std.proofs.Common.{map, length, sym, ap, ◌∙◌}
use Rattle.nesl_types.proofs.Bound.{rows, names_alone, same_length}
use Rattle.nesl_types.proofs.bindings.Context.names.Goals as goal

pub returns : goal.returns
returns g c =
    names_alone c.self.inside.names (rows (λ e. e.top) (λ e. e.payload) c.self.inside.entries.items) (same_length (λ e. e.top) (λ e. e.payload) c.self.inside.names c.self.inside.entries.items c.self.invariant.0)
    ∙ ap (map (λ b. b.0)) c.self.view_is
