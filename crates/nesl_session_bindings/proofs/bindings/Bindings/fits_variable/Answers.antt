use Rattle.std.proofs.Common.{◌≡◌, ℕ, ◌+◌, ◌<◌, ◌∙◌, ap, arith}
use Rattle.std.specs.Prelude.{nat_le}
use Rattle.nesl_values.specs.View.{tree_of}
use Rattle.nesl_session_bindings.specs.Meanings.{variable}
use Rattle.nesl_session_bindings.specs.Others.{other_elements}
use Rattle.nesl_session_bindings.specs.Stored.{bindings_of}
use Rattle.nesl_session_bindings.proofs.Counts.{fits_not, fits_by, fits_beside}
use Rattle.nesl_session_bindings.proofs.bindings.Bindings.fits_variable.Goals as goal

pub returns-in-Some : goal.returns-in-Some
returns-in-Some g c = λ t.
    let left : c.in-Some.room + other_elements c.args.name.now (bindings_of c.args.self.now) ≡ c.args.limit = omega (arith, c.in-Some.ensures, c.other_elements.ensures) in
    ap (λ (n : ℕ). nat_le n c.in-Some.room) c.nodes.ensures ∙ fits_by c.args.name.now (variable t (tree_of c.args.value.now)) (bindings_of c.args.self.now) c.args.limit c.in-Some.room left

pub returns-in-None : goal.returns-in-None
returns-in-None g c = λ t.
    let more : c.args.limit < other_elements c.args.name.now (bindings_of c.args.self.now) = omega (arith, c.in-None.ensures, c.other_elements.ensures) in
    fits_not c.args.name.now (variable t (tree_of c.args.value.now)) (bindings_of c.args.self.now) c.args.limit more

pub returns-then-has_room_for_value : goal.returns-then-has_room_for_value
returns-then-has_room_for_value g c = λ t.
    fits_beside c.args.name.now (variable t (tree_of c.args.value.now)) (bindings_of c.args.self.now) c.args.limit (c.has_room_for_value.ensures c.if-has_room_for_value.true t)
