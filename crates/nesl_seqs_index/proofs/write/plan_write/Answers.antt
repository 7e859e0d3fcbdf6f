use Rattle.std.proofs.Common.{◌≡◌, true, false, length, is_some, rules, refl}
use Rattle.std.specs.List.{list_all}
use Rattle.nesl_values.specs.View.{tree_of, item_trees}
use Rattle.nesl_seqs_base.specs.Arguments.{two_sequences}
use Rattle.nesl_seqs_base.specs.Lent.{argument_tree}
use Rattle.nesl_seqs_base.specs.Write.{write_of}
use Rattle.nesl_seqs_index.specs.declared.plan.Plan.{Plan}
use Rattle.nesl_seqs_index.proofs.Planned.{written_planned, written_refused}
use Rattle.nesl_seqs_index.proofs.write.plan_write.Goals as goal

pub returns-then-not-all_write : goal.returns-then-not-all_write
returns-then-not-all_write g c =
    let ts = item_trees c.in-Some.items in
    let ps = c.in-Some-values_in.pairs.now in
    let none : list_all (λ p. is_some (write_of (length ts) (tree_of p))) ps ≡ false = search rules in
    written_refused (two_sequences (argument_tree c.args.argument)) ts (item_trees c.in-Some.others) ps _ c.in-Some.ensures.parts c.in-Some-values_in.ensures none

pub returns : goal.returns
returns g c =
    let ts = item_trees c.in-Some.items in
    let ps = c.in-Some-values_in.pairs.now in
    let all : list_all (λ p. is_some (write_of (length ts) (tree_of p))) ps ≡ true = search rules in
    written_planned (two_sequences (argument_tree c.args.argument)) (Plan.Written c.in-Some.items c.in-Some-values_in.pairs) ts (item_trees c.in-Some.others) ps c.in-Some.ensures.parts c.in-Some-values_in.ensures all refl refl tt
