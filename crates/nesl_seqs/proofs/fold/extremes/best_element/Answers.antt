use Rattle.std.proofs.Common.{◌∙◌, ap, sym, rules, w64, FitsSigned}
use Rattle.std.proofs.lemmas.Int.{to_z-of_z}
use Rattle.nesl_seqs_base.specs.Lent.{argument_tree}
use Rattle.nesl_seqs_base.specs.Outcome.{gives}
use Rattle.nesl_seqs_base.specs.Extremes.{element_of, best_element}
use Rattle.nesl_seqs_base.specs.declared.order.Best.{Best}
use Rattle.nesl_seqs_base.specs.declared.order.Kind.{Kind}
use Rattle.nesl_seqs.proofs.Best.{refused}
use Rattle.nesl_seqs.proofs.fold.extremes.best_element.Goals as goal

pub returns-in_err-kind : goal.returns-in_err-kind
returns-in_err-kind g c =
    let told = refused (λ (p : Kind × Best). element_of p.0 p.1.key) (best_element c.args.order (argument_tree c.args.argument)) c.in_err-kind.field-0.0 (c.in_err-kind.ensures.found (λ k b. element_of k b.key)) in
    search rules

pub returns : goal.returns
returns g c =
    let fits : FitsSigned w64 c.in_ok-kind.best.key = search rules in
    c.in_ok-kind.ensures.found (λ k b. element_of k b.key) ∙ ap gives (ap (element_of c.in_ok-kind.kind) (sym (to_z-of_z w64 c.in_ok-kind.best.key fits)) ∙ sym c.element_of.ensures)
