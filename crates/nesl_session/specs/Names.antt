-- The names that an iterator still yields.
use Rattle.std.specs.Prelude.{ℕ, List, map, drop}
use Rattle.nesl_session_bindings.specs.Stored.{bindings_of}
use Rattle.nesl_session.specs.declared.session.Names.{Names}

abbrev pub names_left : Names → List (List ℕ)
names_left names = drop names.place (map (λ b. b.name) (bindings_of names.bindings.now))
