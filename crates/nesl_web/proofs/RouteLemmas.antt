-- What a parsed head means for the bytes.
use Rattle.std.proofs.Common.{ℕ, List, codes, map, take, drop, subst}
use Rattle.httparse.specs.Spans.{IsRequestOf, header_bytes}
use Rattle.httparse.specs.declared.spans.HeaderSpan.{HeaderSpan}
use Rattle.httparse.specs.declared.spans.RequestSpans.{RequestSpans}
use Rattle.nesl_web.specs.Access.{Fields, IsAllowed, values_of}
use Rattle.nesl_web.specs.Route.{BeginAllowed, HasHead}

-- bytes that were read as a head have one
pub has_head : (bytes : List ℕ) (fields : List HeaderSpan) (r : RequestSpans) → IsRequestOf bytes fields r → HasHead bytes
has_head bytes fields r (h, at) = record { head = h; rest = drop r.len bytes; reads = at.reads }

-- a head whose fields are allowed
pub begin_allowed : (given : List (List ℕ)) (bytes : List ℕ) (fields : List HeaderSpan) (r : RequestSpans)
    → IsRequestOf bytes fields r
    → IsAllowed given (values_of (codes "Host") (map (header_bytes bytes) (take r.headers fields)))
    (values_of (codes "Origin") (map (header_bytes bytes) (take r.headers fields)))
    → BeginAllowed given bytes
begin_allowed given bytes fields r (h, at) allowed =
    let P : Fields → Type 0 = λ fs. IsAllowed given (values_of (codes "Host") fs) (values_of (codes "Origin") fs) in
    record { head = h; rest = drop r.len bytes; reads = at.reads; allowed = subst P at.fields allowed }
