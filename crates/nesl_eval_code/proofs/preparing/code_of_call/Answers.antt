use Rattle.std.proofs.Common.{sym}
use Rattle.nesl_eval_code.specs.Resolving.{known}
use Rattle.nesl_eval_code.proofs.Nodes.{means_builtin, means_call, means_call_named}
use Rattle.nesl_eval_code.proofs.preparing.code_of_call.Goals as goal

pub returns-in-Some : goal.returns-in-Some
returns-in-Some c = λ ls e h.
    means_builtin (known c.args.at.now.places.now) ls c.args.span c.args.name.now c.in-Some.function c.args.argument e (sym c.in-Some.ensures) h

pub returns-in-Some-place_of : goal.returns-in-Some-place_of
returns-in-Some-place_of c = λ ls e h.
    means_call (known c.args.at.now.places.now) ls c.args.span c.args.name.now c.in-Some-place_of.place c.args.argument e (sym c.in_default.ensures) (sym c.in-Some-place_of.ensures) h

pub returns-in_ok-name-in-None : goal.returns-in_ok-name-in-None
returns-in_ok-name-in-None c = λ ls e h.
    means_call_named (known c.args.at.now.places.now) ls c.args.span c.args.name.now c.in_ok-name-in-None.name c.args.argument e (sym c.in_default.ensures) c.in_ok-name-in-None.ensures.items h
