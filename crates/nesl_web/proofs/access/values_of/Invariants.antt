use Rattle.std.proofs.Common.{◌≡◌, ◌++◌, map, drop}
use Rattle.httparse.specs.Spans.{header_bytes}
use Rattle.nesl_web.specs.Access.{values_of}
use Rattle.nesl_web.proofs.access.values_of.Given as goal

abbrev pub invariant-loop-field : goal.invariant-loop-field
invariant-loop-field l =
    values_of l.name (map (header_bytes l.head) l.fields)
    ≡ map (λ value. value.now) l.values.items
    ++ values_of l.name (map (header_bytes l.head) (drop l.field-index l.fields))
