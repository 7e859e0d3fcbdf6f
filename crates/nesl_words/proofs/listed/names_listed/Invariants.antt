use Rattle.std.proofs.Common.{◌≡◌, map}
use Rattle.std.specs.List.{filter}
use Rattle.std.specs.Str.{trim}
use Rattle.nesl_words.specs.Listed.{is_name}
use Rattle.nesl_words.proofs.listed.names_listed.Given as goal

abbrev pub invariant-loop-line : goal.invariant-loop-line
invariant-loop-line l = map (λ name. name.now) l.names.items ≡ filter is_name (map trim (map (λ line. line.now) l.yielded))
