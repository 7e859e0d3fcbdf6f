use Rattle.std.proofs.Common.{◌≡◌, ℕ, List, [], Bor, Err, map, refl, sym, ap, subst, arith, rules}
use Rattle.nesl_keys.specs.Entries.{AreApart, Listed, Lists, ends}
use Rattle.nesl_keys.specs.Shown.{kept_as}
use Rattle.nesl_keys.proofs.Files.{lists_at, wrong_there}
use Rattle.nesl_keys.proofs.keys.read_lines.Goals as goal

pub loop-place-init : goal.loop-place-init
loop-place-init c =
    let none : map kept_as c.new-entries.result.items ≡ [] = ap (λ xs. map kept_as xs) c.new-entries.ensures.items in
    let P : List Listed → Type 0 = λ l. Lists [] l in
    let Q : List Listed → Type 0 = λ l. AreApart l in
    record { lists = subst P (sym none) ends; apart = subst Q (sym none) (λ i j d lt h. absurd (omega (arith, h))) }

pub loop-place-preserved : goal.loop-place-preserved
loop-place-preserved c =
    let read : Bor (List ℕ) → List ℕ = λ line. line.now in
    let added = c.in_ok-add_line.ensures.ok in
    record {
      lists = lists_at read c.args.lines.now c.loop-place.place _ _ _ _ c.loop-place-test.true refl
          c.loop-place.invariant.lists added;
      apart = added.apart c.loop-place.invariant.apart;
    }

pub returns-in_err-add_line-clause-err : goal.returns-in_err-add_line-clause-err
returns-in_err-add_line-clause-err c =
    let read : Bor (List ℕ) → List ℕ = λ line. line.now in
    let k : c.from_residual.result ≡ Err c.in_err-add_line.field-0.0 = search rules in
    rw k
    (wrong_there read c.args.lines.now c.loop-place.place _ _ _ _ c.loop-place-test.true refl
    c.loop-place.invariant.lists c.loop-place.invariant.apart c.in_err-add_line.ensures.err)
