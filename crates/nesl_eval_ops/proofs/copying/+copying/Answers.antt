use Rattle.std.proofs.Common.{rules}
use Rattle.nesl_eval_code.specs.declared.code.Code as nodes
use Rattle.nesl_eval_ops.specs.Copies.{IsLaidAs, AreLaidAs}
use Rattle.nesl_eval_ops.proofs.Copies.{copied_turn, let_same, same_of}
use Rattle.nesl_eval_ops.proofs.copying.+copying.Goals as goal

pub copy_all-loop-code-preserved : goal.copy_all-loop-code-preserved
copy_all-loop-code-preserved t c =
    let added = c.in_ok-add_copy.ensures in
    copied_turn c.args.codes.now c.loop-code.code-index c.code-item.result added.0 c.loop-code.copies.items
    c.add_copy.new.copies.items
    c.loop-code-test.true c.code-item.is added.1 added.2 c.loop-code.invariant

pub copy_choice_or_let-returns-in_ok-body-in-Let : goal.copy_choice_or_let-returns-in_ok-body-in-Let
copy_choice_or_let-returns-in_ok-body-in-Let t c =
    let made = c.in_ok-bindings-in-Let.bindings in
    let inner = c.in_ok-body-in-Let.body in
    let bound : AreLaidAs made.items c.in-Let.bindings.items = search rules in
    let body : IsLaidAs inner.value c.in-Let.body.value = search rules in
    same_of (nodes.Let c.in-Let.span made inner)
    (nodes.Let c.in-Let.span c.in-Let.bindings c.in-Let.body) c.args.code.now
    (let_same c.in-Let.span c.in-Let.bindings made c.in-Let.body inner bound body)
    c.in-Let.is
