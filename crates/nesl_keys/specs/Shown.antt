-- What the code's values stand for.
use Rattle.std.specs.Prelude.{List, map}
use Rattle.nesl_keys.specs.declared.entry.Entry.{Entry}
use Rattle.nesl_keys.specs.declared.keys.Kept.{Kept}
use Rattle.nesl_keys.specs.declared.keys.Keys.{Keys}
use Rattle.nesl_keys.specs.Entries.{Listed}

-- an entry
abbrev pub listed_of : Entry → Listed
listed_of entry = record { name = entry.name.now; salt = entry.salt.now; digest = entry.digest.now }

-- an entry that is kept
abbrev pub kept_as : Kept → Listed
kept_as kept = record { name = kept.name.items; salt = kept.salt.items; digest = kept.digest.items }

-- the users of a list, in the order of the file
abbrev pub listed_in : Keys → List Listed
listed_in keys = map kept_as keys.entries.items
