-- The unread rest of a line.
use Rattle.std.specs.Prelude.{ℕ, List, drop}
use Rattle.nesl_web.specs.declared.rest.Rest.{Rest}

abbrev pub left_of : Rest → List ℕ
left_of rest = drop rest.at rest.bytes.items
