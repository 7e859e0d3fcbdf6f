use Rattle.std.proofs.Common.{sym, ap, ◌∙◌, subst}
use Rattle.std.specs.Result.{result_ok}
use Rattle.std.specs.Str.{IsAscii}
use Rattle.std.proofs.lemmas.Str.{IsUtf8-from_ascii}
use Rattle.std.proofs.lemmas.Fmt.{parse-decimal, IsAscii-decimal}
use Rattle.nesl_keeper.proofs.head.number_in.Goals as goal

pub returns-in-Ok : goal.returns-in-Ok
returns-in-Ok c = λ number small is.
    c.ok.ensures.value ∙ ap result_ok (parse-decimal 64 number c.in-Ok.digits.now c.parse.result small small (c.in-Ok.ensures.cases.0 ∙ is) c.parse.ensures.value.0)

pub returns-in-Err : goal.returns-in-Err
returns-in-Err c = λ number small is.
    absurd (c.in-Err.ensures.cases.0 (IsUtf8-from_ascii c.args.digits.now (subst IsAscii (sym is) (IsAscii-decimal number small))))
