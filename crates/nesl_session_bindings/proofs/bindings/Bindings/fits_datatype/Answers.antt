use Rattle.std.proofs.Common.{◌≡◌, ◌+◌, ◌<◌, ◌∙◌, arith}
use Rattle.nesl_session_bindings.specs.Meanings.{datatype}
use Rattle.nesl_session_bindings.specs.Others.{other_elements}
use Rattle.nesl_session_bindings.specs.Stored.{bindings_of}
use Rattle.nesl_session_bindings.proofs.Counts.{fits_not, fits_left}
use Rattle.nesl_session_bindings.proofs.bindings.Bindings.fits_datatype.Goals as goal

pub returns-in-Some : goal.returns-in-Some
returns-in-Some c = λ tag.
    let left : c.in-Some.room + other_elements c.args.name.now (bindings_of c.args.self.now) ≡ c.args.limit = omega (arith, c.in-Some.ensures, c.other_elements.ensures) in
    c.is_some.ensures ∙ fits_left c.args.name.now (datatype tag c.args.content.now) (bindings_of c.args.self.now) c.args.limit c.in-Some.room c.room_left.result left c.room_left.ensures

pub returns-in-None : goal.returns-in-None
returns-in-None c = λ tag.
    let more : c.args.limit < other_elements c.args.name.now (bindings_of c.args.self.now) = omega (arith, c.in-None.ensures, c.other_elements.ensures) in
    fits_not c.args.name.now (datatype tag c.args.content.now) (bindings_of c.args.self.now) c.args.limit more
