-- What is taken from a parsed head.
use Rattle.std.proofs.Common.{◌≡◌, ℕ, ◌<◌, List, [], ◌++◌, Option, None, Some, map, take, drop, length, option_map, subst, sym, ap, ◌∙◌, append-nil}
use Rattle.std.specs.Prelude.{Result, Ok, Err, IfOk}
use Rattle.httparse.specs.Outcome.{IfComplete, OnPartial}
use Rattle.httparse.specs.declared.Error.{Error}
use Rattle.httparse.specs.declared.Status.{Status}
use Rattle.httparse.specs.declared.Status.TheVariants.{Complete, Partial}
use Rattle.httparse.specs.Grammar.{HasNoRequest, ReadsRequest, RequestHead}
use Rattle.httparse.specs.Spans.{IsRequestOf, RequestOverflows, header_bytes, span_bytes}
use Rattle.httparse.specs.declared.spans.HeaderSpan.{HeaderSpan}
use Rattle.httparse.specs.declared.spans.RequestSpans.{RequestSpans}
use Rattle.nesl_web.specs.Access.{Fields, values_of}
use Rattle.nesl_web.specs.Asked.{Takes, from_head, from_no_head, query_in, query_of}
use Rattle.nesl_web.specs.Route.{values_in}

pub takes_values :
    (bytes name : List ℕ) (fields : List HeaderSpan) (r : RequestSpans) (values : List (List ℕ)) → IsRequestOf bytes fields r
    → values ≡ values_of name (map (header_bytes bytes) (take r.headers fields)) → Takes bytes (values_in name) [] values
takes_values bytes name fields r values (h, at) e =
    subst (λ v. Takes bytes (values_in name) [] v) (sym (e ∙ ap (values_of name) at.fields)) (from_head h (drop r.len bytes) at.reads)

pub takes_query :
    (bytes path : List ℕ) (fields : List HeaderSpan) (r : RequestSpans) (query : Option (List ℕ)) → IsRequestOf bytes fields r
    → path ≡ span_bytes bytes r.path → query ≡ query_in path → Takes bytes query_of None query
takes_query bytes path fields r query (h, at) p e =
    subst (λ q. Takes bytes query_of None q) (sym (e ∙ ap query_in (p ∙ at.path))) (from_head h (drop r.len bytes) at.reads)

pub takes_nothing : {A : Type 0} (bytes : List ℕ) (part : RequestHead → A) (nothing : A) → HasNoRequest bytes → Takes bytes part nothing nothing
takes_nothing bytes part nothing none = from_no_head (λ head rest reads. absurd (none head rest reads))

pub takes_no_room : {A : Type 0} (bytes : List ℕ) (part : RequestHead → A) (nothing : A) → RequestOverflows 64 bytes → Takes bytes part nothing nothing
takes_no_room bytes part nothing over =
    from_no_head (λ head rest reads. over [] head rest (subst (λ b. ReadsRequest b head rest) (sym (append-nil bytes)) reads))

pub if_ok_then : {A E : Type 0} (r : Result A E) (P Q : A → Type 0) → IfOk r P → ((a : A) → P a → Q a) → IfOk r Q
if_ok_then (Ok a) P Q p f = f a p
if_ok_then (Err e) P Q p f = tt

pub is_complete : {A : Type 0} (P : A → Type 0) (status : Status A) (a : A) → status ≡ Complete a → IfComplete {A = A} {E = Error} (Ok status) P → P a
is_complete P status a e p = subst (λ s. IfComplete {E = Error} (Ok s) P) e p

pub is_partial : {A : Type 0} (P : Type 0) (status : Status A) → status ≡ Partial → OnPartial {A = A} {E = Error} (Ok status) P → P
is_partial P status e p = subst (λ s. OnPartial {E = Error} (Ok s) P) e p
