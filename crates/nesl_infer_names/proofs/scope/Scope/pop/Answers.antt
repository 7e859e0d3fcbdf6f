use Rattle.std.proofs.Common.{◌≡◌, ◌-◌, ◌∙◌, List, ℕ, sym, ap, drop, arith}
use Rattle.nesl_infer_names.specs.Scoping.{occurrences, newest_first, count}
use Rattle.nesl_infer_names.proofs.Scoping.{newest-push, occurrences-first, counted-after, never_absent, nothing_left}
use Rattle.nesl_infer_names.proofs.scope.Scope.pop.Goals as goal

pub overflow_sub-count : goal.overflow_sub-count
overflow_sub-count c =
    let s = c.args.self.now in
    let x = c.in-Some.name.items in
    let old = ap (newest_first (λ k. k.items)) c.in-Some.ensures.items ∙ newest-push (λ k. k.items) c.pop.new.self.items c.in-Some.name in
    let same = c.count-count.ensures ∙ ap (λ (y : List ℕ). count (λ k. k.items) y s.counts.entries) c.as_slice.ensures.value ∙ s.counted x
    ∙ ap (occurrences x) old ∙ occurrences-first x (newest_first (λ k. k.items) c.pop.new.self.items) in
    omega (arith, same)

pub invariant_of-self : goal.invariant_of-self
invariant_of-self c =
    let s = c.args.self.now in
    let x = c.in-Some.name.items in
    let ns = newest_first (λ k. k.items) c.pop.new.self.items in
    let old = ap (newest_first (λ k. k.items)) c.in-Some.ensures.items ∙ newest-push (λ k. k.items) c.pop.new.self.items c.in-Some.name in
    let same = c.count-count.ensures ∙ ap (λ (y : List ℕ). count (λ k. k.items) y s.counts.entries) c.as_slice.ensures.value ∙ s.counted x
    ∙ ap (occurrences x) old ∙ occurrences-first x ns in
    let less : c.count-count.result - 1 ≡ occurrences x ns = omega (arith, same) in
    record {
      counted = counted-after (λ k. k.items) s.counts.entries c.insert.new.self.entries ns c.in-Some.name (c.count-count.result - 1) c.insert.result c.insert.ensures.entries c.insert.ensures.absent
          (λ y. s.counted y ∙ ap (occurrences y) old) less;
    }

pub unreachable-requires : goal.unreachable-requires
unreachable-requires c =
    let s = c.args.self.now in
    let x = c.in-Some.name.items in
    let ns = newest_first (λ k. k.items) c.pop.new.self.items in
    let old = ap (newest_first (λ k. k.items)) c.in-Some.ensures.items ∙ newest-push (λ k. k.items) c.pop.new.self.items c.in-Some.name in
    never_absent (λ k. k.items) s.counts.entries x (occurrences x ns) c.in-Err.ensures.absent (s.counted x ∙ ap (occurrences x) old ∙ occurrences-first x ns)

pub returns-in-Ok : goal.returns-in-Ok
returns-in-Ok c =
    let old = ap (newest_first (λ k. k.items)) c.in-Some.ensures.items ∙ newest-push (λ k. k.items) c.pop.new.self.items c.in-Some.name in
    sym (ap (drop 1) old)

pub returns-in-None : goal.returns-in-None
returns-in-None c =
    let s = c.args.self.now in
    nothing_left (λ k. k.items) s.names.items c.pop.new.self.items s.names.len s.names.ok.0 c.in-None.ensures.cases.0 c.in-None.ensures.items
