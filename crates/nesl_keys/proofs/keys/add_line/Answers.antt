use Rattle.std.proofs.Common.{◌<◌, Bool, length, map, sym, ap, ◌∙◌, arith}
use Rattle.std.specs.List.{list_any}
use Rattle.std.specs.Str.{bytes_eq}
use Rattle.std.proofs.lemmas.Result.{err_from_is_err_and}
use Rattle.nesl_keys.specs.Entries.{Listed, no_entry, no_memory_here}
use Rattle.nesl_keys.specs.Shown.{kept_as, listed_of}
use Rattle.nesl_keys.proofs.Files.{adds_nobody, adds_one, any-map, comment_adds_nobody, refused_twice, says_nothing}
use Rattle.nesl_keys.proofs.keys.add_line.Goals as goal
use Rattle.nesl_keys.proofs.keys.add_line.Goals.{then-is_empty-via-then-is_empty, then-is_empty-via-else-is_empty+then-line-eq35}

pub returns-then-is_empty-clause-ok : goal.returns-then-is_empty-clause-ok
returns-then-is_empty-clause-ok c =
    elim c.then-is_empty.branch [
      | then-is_empty-via-then-is_empty w ↦
          adds_nobody c.args.line.now (map kept_as c.args.entries.now.items) (grind (arith, c.is_empty.ensures, w.if-is_empty.true))
      | then-is_empty-via-else-is_empty+then-line-eq35 w ↦
          comment_adds_nobody c.args.line.now (map kept_as c.args.entries.now.items) w.if-line-eq35.true
    ]

pub returns-in_default-clause-err : goal.returns-in_default-clause-err
returns-in_default-clause-err c =
    let some : 0 < length c.args.line.now = grind (arith, c.is_empty.ensures, c.if-is_empty.false) in
    no_entry (says_nothing c.args.line.now some c.if-line-eq35.false c.in_default.ensures.none)

pub returns-then-has_name-clause-err : goal.returns-then-has_name-clause-err
returns-then-has_name-clause-err c =
    let known = c.in-Some.ensures.some in
    let p : Listed → Bool = λ one. bytes_eq one.name c.in-Some.entry.name.now in
    refused_twice c.args.line.now c.args.number (map kept_as c.args.entries.now.items) (listed_of c.in-Some.entry)
    known.0 known.1
    (ap (λ xs. list_any p (map kept_as xs)) (sym c.as_slice.ensures.value) ∙ any-map kept_as p c.as_slice.result.now
    ∙ sym c.has_name.ensures ∙ c.if-has_name.true)

pub returns-in_err-keep-clause-err : goal.returns-in_err-keep-clause-err
returns-in_err-keep-clause-err c =
    let p = err_from_is_err_and c.from_residual.result c.from_residual.ensures.1 in
    rw (p.1, p.2) no_memory_here

pub returns-clause-ok : goal.returns-clause-ok
returns-clause-ok c =
    let known = c.in-Some.ensures.some in
    let p : Listed → Bool = λ one. bytes_eq one.name c.in-Some.entry.name.now in
    adds_one c.args.line.now (map kept_as c.args.entries.now.items) _ (listed_of c.in-Some.entry) known.0 known.1
    (ap (λ xs. list_any p (map kept_as xs)) (sym c.as_slice.ensures.value) ∙ any-map kept_as p c.as_slice.result.now
    ∙ sym c.has_name.ensures ∙ c.if-has_name.false)
    c.in_ok-keep.ensures
