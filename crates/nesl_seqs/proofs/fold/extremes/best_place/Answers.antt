use Rattle.std.proofs.Common.{◌∙◌, ap, sym, pos, arith, rules, w64, to_z, ◌≡◌}
use Rattle.std.proofs.lemmas.Int.{ints}
use Rattle.nesl_values.specs.Tree.{int}
use Rattle.nesl_seqs_base.specs.Lent.{argument_tree}
use Rattle.nesl_seqs_base.specs.Outcome.{gives}
use Rattle.nesl_seqs_base.specs.Extremes.{best_place}
use Rattle.nesl_seqs_base.specs.declared.order.Best.{Best}
use Rattle.nesl_seqs_base.specs.declared.order.Kind.{Kind}
use Rattle.nesl_seqs.proofs.Best.{refused}
use Rattle.nesl_seqs.proofs.fold.extremes.best_place.Goals as goal

pub returns-in_err-best : goal.returns-in_err-best
returns-in_err-best g c =
    let told = refused (λ (p : Kind × Best). int (pos p.1.place)) (best_place c.args.order (argument_tree c.args.argument)) c.in_err-best.field-0.0 (c.in_err-best.ensures.found (λ k b. int (pos b.place))) in
    search rules

pub returns : goal.returns
returns g c =
    let same : to_z w64 c.in_ok-best.best.place ≡ pos c.in_ok-best.best.place = omega (arith, ints, c.in_ok-best.ensures.small.0) in
    c.in_ok-best.ensures.found (λ k b. int (pos b.place)) ∙ ap (λ z. gives (int z)) (sym same)
