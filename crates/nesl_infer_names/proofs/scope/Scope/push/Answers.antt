use Rattle.std.proofs.Common.{◌≤◌, ◌+◌, ◌-◌, ◌∙◌, ◌∷◌, List, ℕ, sym, ap, length, take, arith}
use Rattle.nesl_infer_names.specs.Scopes.{locals}
use Rattle.nesl_infer_names.specs.Scoping.{occurrences, newest_first, count}
use Rattle.nesl_infer_names.proofs.Scoping.{newest-length, newest-push, occurrences-most, counted-push, put_back}
use Rattle.nesl_infer_names.proofs.scope.Scope.push.Goals as goal

pub overflow_add-count : goal.overflow_add-count
overflow_add-count c =
    let s = c.args.self.now in
    let x = c.args.name.now in
    let same = c.count-count.ensures ∙ s.counted x in
    let most : occurrences x (locals s) ≤ length (locals s) = occurrences-most x (locals s) in
    let long = newest-length (λ k. k.items) s.names.items in
    let len = s.names.ok.0 in
    let cap = s.names.ok.1 in
    let small = s.names.small in
    omega arith

pub invariant_of-self-in-Ok : goal.invariant_of-self-in-Ok
invariant_of-self-in-Ok c =
    let s = c.args.self.now in
    let key = c.in_ok-key.key in
    let copied = c.in_ok-copy.ensures.items ∙ sym c.in_ok-key.ensures.items in
    let bound = ap (newest_first (λ k. k.items)) c.in_ok-push.ensures.items ∙ newest-push (λ k. k.items) s.names.items c.in_ok-copy.copy ∙ ap (λ (y : List ℕ). y ∷ locals s) copied in
    let once = ap (λ (n : ℕ). n + 1) (c.count-count.ensures ∙ s.counted c.args.name.now ∙ ap (λ (y : List ℕ). occurrences y (locals s)) (sym c.in_ok-key.ensures.items)) in
    record {
      counted = λ x.
          ap (count (λ k. k.items) x) c.in-Ok.ensures.entries
          ∙ counted-push (λ k. k.items) s.counts.entries (locals s) key (c.count-count.result + 1) s.counted once x
          ∙ ap (occurrences x) (sym bound);
    }

pub invariant_of-self-in_default : goal.invariant_of-self-in_default
invariant_of-self-in_default c =
    let s = c.args.self.now in
    let back = put_back s.names.items c.pop.new.self.items c.in_ok-copy.copy c.push.new.self.len (c.in_ok-push.ensures.len ∙ ap (λ (n : ℕ). n + 1) s.names.ok.0)
    (c.pop.ensures.rest ∙ ap (take (c.push.new.self.len - 1)) c.in_ok-push.ensures.items) in
    record { counted = λ x. ap (count (λ k. k.items) x) c.in_default.ensures.err ∙ s.counted x ∙ ap (λ ks. occurrences x (newest_first (λ k. k.items) ks)) (sym back) }

pub returns : goal.returns
returns c =
    let s = c.args.self.now in
    ap (newest_first (λ k. k.items)) c.in_ok-push.ensures.items ∙ newest-push (λ k. k.items) s.names.items c.in_ok-copy.copy
    ∙ ap (λ (x : List ℕ). x ∷ locals s) c.in_ok-copy.ensures.items
