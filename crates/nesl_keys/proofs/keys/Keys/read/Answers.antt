use Rattle.std.proofs.Common.{◌≡◌, ◌<◌, ℕ, List, ◌∷◌, Bor, Err, length, map, ap, ◌∙◌, subst, arith, rules}
use Rattle.std.proofs.lemmas.Result.{err_from_is_err_and}
use Rattle.nesl_keys.specs.Entries.{Listed, Lists, version, bad_version, bad_line, nobody_listed, no_memory_left}
use Rattle.nesl_keys.specs.Shown.{kept_as}
use Rattle.nesl_keys.proofs.Files.{alike, first_line, no_line, none_of, some_of, unlike}
use Rattle.nesl_keys.proofs.keys.Keys.read.Goals as goal

pub returns-in_err-lines-clause-err : goal.returns-in_err-lines-clause-err
returns-in_err-lines-clause-err c =
    let p = err_from_is_err_and c.from_residual.result c.from_residual.ensures.1 in
    rw (p.1, p.2) no_memory_left

pub returns-in_default-clause-err : goal.returns-in_default-clause-err
returns-in_default-clause-err c =
    let read : Bor (List ℕ) → List ℕ = λ line. line.now in
    absurd (no_line read c.in_ok-lines.lines.items c.as_slice.result.now c.args.bytes.now c.in_ok-lines.ensures c.as_slice.ensures.value c.in_default.ensures.cases)

pub returns-then-ne-clause-err : goal.returns-then-ne-clause-err
returns-then-ne-clause-err c =
    let read : Bor (List ℕ) → List ℕ = λ line. line.now in
    let cut = first_line read c.in_ok-lines.lines.items c.as_slice.result.now c.in-Some.rest.now c.in-Some.first.now
    c.args.bytes.now c.in_ok-lines.ensures c.as_slice.ensures.value c.in-Some.ensures.cases.0 in
    bad_version c.in-Some.first.now.now (map read c.in-Some.rest.now) cut (unlike c.in-Some.first.now.now version c.if-ne.ensures)

pub returns-in_err-entries-clause-err : goal.returns-in_err-entries-clause-err
returns-in_err-entries-clause-err c =
    let read : Bor (List ℕ) → List ℕ = λ line. line.now in
    let cut = first_line read c.in_ok-lines.lines.items c.as_slice.result.now c.in-Some.rest.now c.in-Some.first.now
    c.args.bytes.now c.in_ok-lines.ensures c.as_slice.ensures.value c.in-Some.ensures.cases.0 in
    let begins : c.in-Some.first.now.now ≡ version = alike c.in-Some.first.now.now version c.if-ne.ensures in
    let k : c.from_residual-in_err-entries.result ≡ Err c.in_err-entries.field-0.0 = search rules in
    rw k
    (bad_line (map read c.in-Some.rest.now) _ (cut ∙ ap (λ line. line ∷ map read c.in-Some.rest.now) begins)
    c.in_err-entries.ensures.err)

pub returns-then-is_empty-clause-err : goal.returns-then-is_empty-clause-err
returns-then-is_empty-clause-err c =
    let read : Bor (List ℕ) → List ℕ = λ line. line.now in
    let cut = first_line read c.in_ok-lines.lines.items c.as_slice.result.now c.in-Some.rest.now c.in-Some.first.now
    c.args.bytes.now c.in_ok-lines.ensures c.as_slice.ensures.value c.in-Some.ensures.cases.0 in
    let begins : c.in-Some.first.now.now ≡ version = alike c.in-Some.first.now.now version c.if-ne.ensures in
    let none : length c.in_ok-entries.entries.items ≡ 0 = grind (arith, c.is_empty.ensures, c.if-is_empty.true) in
    let P : List Listed → Type 0 = λ listed. Lists (map read c.in-Some.rest.now) listed in
    nobody_listed (map read c.in-Some.rest.now) (cut ∙ ap (λ line. line ∷ map read c.in-Some.rest.now) begins)
    (subst P (none_of kept_as c.in_ok-entries.entries.items none) c.in_ok-entries.ensures.ok.0)

pub returns-clause-ok : goal.returns-clause-ok
returns-clause-ok c =
    let read : Bor (List ℕ) → List ℕ = λ line. line.now in
    let cut = first_line read c.in_ok-lines.lines.items c.as_slice.result.now c.in-Some.rest.now c.in-Some.first.now
    c.args.bytes.now c.in_ok-lines.ensures c.as_slice.ensures.value c.in-Some.ensures.cases.0 in
    let begins : c.in-Some.first.now.now ≡ version = alike c.in-Some.first.now.now version c.if-ne.ensures in
    let some : 0 < length c.in_ok-entries.entries.items = grind (arith, c.is_empty.ensures, c.if-is_empty.false) in
    record {
      lines = map read c.in-Some.rest.now;
      text = cut ∙ ap (λ line. line ∷ map read c.in-Some.rest.now) begins;
      lists = c.in_ok-entries.ensures.ok.0;
      some = some_of kept_as c.in_ok-entries.entries.items some;
      apart = c.in_ok-entries.ensures.ok.1;
    }
