use Rattle.std.proofs.Common.{◌≡◌, ◌+◌, ◌<◌, ◌∙◌, arith}
use Rattle.nesl_syntax_tree.specs.Views.{tree_of}
use Rattle.nesl_session_bindings.specs.Meanings.{function}
use Rattle.nesl_session_bindings.specs.Others.{other_elements}
use Rattle.nesl_session_bindings.specs.Stored.{bindings_of}
use Rattle.nesl_session_bindings.proofs.Counts.{fits_not, fits_left, fits_beside}
use Rattle.nesl_session_bindings.proofs.bindings.Bindings.fits_function.Goals as goal

pub returns-in-Some : goal.returns-in-Some
returns-in-Some c = λ f p.
    let left : c.in-Some.room + other_elements c.args.name.now (bindings_of c.args.self.now) ≡ c.args.limit = omega (arith, c.in-Some.ensures, c.other_elements.ensures) in
    c.is_some.ensures ∙ fits_left c.args.name.now (function f p (tree_of c.args.body.now)) (bindings_of c.args.self.now) c.args.limit c.in-Some.room c.left_after.result left c.left_after.ensures

pub returns-in-None : goal.returns-in-None
returns-in-None c = λ f p.
    let more : c.args.limit < other_elements c.args.name.now (bindings_of c.args.self.now) = omega (arith, c.in-None.ensures, c.other_elements.ensures) in
    fits_not c.args.name.now (function f p (tree_of c.args.body.now)) (bindings_of c.args.self.now) c.args.limit more

pub returns-then-has_room_for_body : goal.returns-then-has_room_for_body
returns-then-has_room_for_body c = λ f p.
    fits_beside c.args.name.now (function f p (tree_of c.args.body.now)) (bindings_of c.args.self.now) c.args.limit (c.has_room_for_body.ensures c.if-has_room_for_body.true)
