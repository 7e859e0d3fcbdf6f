use Rattle.std.proofs.Common.{◌≡◌, ◌+◌, sym, subst, arith}
use Rattle.nesl_syntax_tree.specs.declared.tree.Binding.{Binding}
use Rattle.nesl_syntax_tree.specs.Views.{pattern_tree}
use Rattle.nesl_eval_meaning.specs.Names.{Name}
use Rattle.nesl_eval_code.specs.Means.{binds, steps_to}
use Rattle.nesl_eval_code.specs.Noted.{noted_at}
use Rattle.nesl_eval_code.specs.Frame.{AreNoted, patterns_before}
use Rattle.nesl_eval_code.proofs.Framed.{chosen, noted_next}
use Rattle.nesl_eval_code.proofs.frames.Frame.with_next.Goals as goal

pub invariant_of-result : goal.invariant_of-result
invariant_of-result c = record {
  within = omega (arith, c.requires);
  noted = λ m e.
      let s = c.args.self in
      let old = c.in-Some.names.entries in
      let new = c.note_names.new.names.entries in
      let same : c.note_names.new.names ≡ m = cc e in
      let F : Binding → Type 0 = λ b. (x : Name) → noted_at new x ≡ chosen (binds x (pattern_tree b.pattern)) s.seen (steps_to x (pattern_tree b.pattern)) (noted_at old x) in
      subst (λ y. AreNoted (patterns_before s.bound.now (s.seen + 1)) y.entries) same
      (noted_next s.bound.now s.seen c.index-bound-seen.result old new c.requires c.index-bound-seen.is (s.noted c.in-Some.names c.in-Some.is) (subst F (sym c.index-bound-seen.is) c.in_ok-note_names.ensures));
}
