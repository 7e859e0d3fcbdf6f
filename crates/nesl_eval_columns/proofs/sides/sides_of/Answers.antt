use Rattle.std.proofs.Common.{◌≡◌, ◌-◌, length, take, refl, sym, ap, ◌∙◌, arith}
use Rattle.nesl_eval_columns.proofs.Turns.{written}
use Rattle.nesl_eval_columns.proofs.Sorting.{ranks_so}
use Rattle.nesl_eval_columns.proofs.sides.sides_of.Goals as goal

pub returns : goal.returns
returns g c =
    let s = c.sort-count in
    let flags : length c.deref.result.now ≡ c.len-len.result = omega (arith, c.deref.ensures.len, c.len-len.ensures) in
    let yes : length s.new.yes ≡ c.in_ok-yes.yes.len = omega (arith, s.ensures.yes, flags, c.in_ok-yes.ensures, c.deref_mut.ensures.len, ap length c.deref_mut.ensures.value) in
    let no : length s.new.no ≡ c.in_ok-no.no.len = omega (arith, s.ensures.no, flags, c.in_ok-no.ensures, c.deref_mut-2.ensures.len, ap length c.deref_mut-2.ensures.value) in
    let ranks : length s.new.ranks ≡ c.in_ok-ranks.ranks.len = omega (arith, s.ensures.ranks, flags, c.in_ok-ranks.ensures, c.deref_mut-3.ensures.len, ap length c.deref_mut-3.ensures.value) in
    let rest : length c.deref.result.now - s.result ≡ c.len-len.result - s.result = ap (λ n. n - s.result) flags in (
      refl,
      ranks_so c.deref.result.now c.args.flags.items _ _ _ _ s.new.ranks _ c.deref.ensures.value
          (sym (c.truncate.ensures.items ∙ ap (take s.result) (written c.in_ok-yes.yes.len s.new.yes c.in_ok-yes.yes.items yes)))
          (ap (λ n. take n s.new.no) rest ∙ sym (c.truncate-2.ensures.items ∙ ap (take (c.len-len.result - s.result)) (written c.in_ok-no.no.len s.new.no c.in_ok-no.no.items no)))
          (sym (written c.in_ok-ranks.ranks.len s.new.ranks c.in_ok-ranks.ranks.items ranks)) s.ensures.sorted,
    )
