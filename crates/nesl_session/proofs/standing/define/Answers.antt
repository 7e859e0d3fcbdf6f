-- A definition can be bound under its name, read as a slice.
use Rattle.std.proofs.Common.{ℕ, List, sym, subst}
use Rattle.nesl_session_bindings.specs.Stored.{bindings_of}
use Rattle.nesl_session.specs.declared.forms.finding.Meaning.{Meaning}
use Rattle.nesl_session.specs.declared.forms.finding.Meaning.TheVariants as code
use Rattle.nesl_session.specs.Found.{CanMean}
use Rattle.nesl_session.proofs.standing.define.Goals as goal

pub set_function-requires-clause-typed : goal.set_function-requires-clause-typed
set_function-requires-clause-typed c =
    let P : Meaning → Type 0 = λ m. CanMean (bindings_of c.args.bindings.now) c.args.definition.name.items m in
    let Q : List ℕ → Type 0 = λ x. CanMean (bindings_of c.args.bindings.now) x (code.Function c.in-Function.scheme c.in-Function.parameter c.in-Function.body) in
    (subst Q (sym c.as_slice-name.ensures.value) (subst P c.in-Function.is c.requires)).0
