use Rattle.std.proofs.Common.{◌≡◌, ℕ, List, ◌++◌, length, ap, sym, ◌∙◌, map}
use Rattle.std.proofs.lemmas.List.{length-map}
use Rattle.nesl_types_shared.specs.Term.{variable}
use Rattle.nesl_types.specs.Class.{class_at}
use Rattle.nesl_types_shared.specs.Substitution.{substitute}
use Rattle.nesl_types_shared.specs.Numbering.{variables, first_occurrences, numbers_below, number_of}
use Rattle.nesl_types_shared.proofs.Numbers.{noted-both, numbered-renamed}
use Rattle.nesl_types.proofs.schemes.Scheme.over.Goals as goal

pub invariant_of-result : goal.invariant_of-result
invariant_of-result c =
    let t = c.args.takes.now in
    let u = c.args.gives.now in
    let noted = noted-both t u _ _ _ c.requires c.in_ok-note_variables.ensures c.in_ok-note_variables-2.ensures in
    let argument = c.in_ok-argument.ensures ∙ ap (λ (ks : List ℕ). substitute (λ v. variable (number_of ks v)) t) noted in
    let gives = c.in_ok-gives.ensures ∙ ap (λ (ks : List ℕ). substitute (λ v. variable (number_of ks v)) u) noted in
    let classes = c.in_ok-classes.ensures ∙ ap (map (class_at c.args.classes.now)) (c.as_slice.ensures.keys ∙ noted) in
    let count : length c.in_ok-classes.classes.items ≡ length (first_occurrences (variables t ++ variables u)) = ap length classes ∙ length-map (first_occurrences (variables t ++ variables u)) (class_at c.args.classes.now) in
    record { numbered = numbered-renamed t u _ _ argument gives ∙ sym (ap numbers_below count) }

pub returns : goal.returns
returns c =
    let t = c.args.takes.now in
    let u = c.args.gives.now in
    let noted = noted-both t u _ _ _ c.requires c.in_ok-note_variables.ensures c.in_ok-note_variables-2.ensures in
    record {
      argument = c.in_ok-argument.ensures ∙ ap (λ (ks : List ℕ). substitute (λ v. variable (number_of ks v)) t) noted;
      result = c.in_ok-gives.ensures ∙ ap (λ (ks : List ℕ). substitute (λ v. variable (number_of ks v)) u) noted;
      classes = c.in_ok-classes.ensures ∙ ap (map (class_at c.args.classes.now)) (c.as_slice.ensures.keys ∙ noted);
    }
