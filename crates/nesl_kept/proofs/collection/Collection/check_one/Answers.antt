use Rattle.std.proofs.Common.{Err, ap}
use Rattle.nesl_kept.specs.declared.collection.Stop.{Stop}
use Rattle.nesl_kept.proofs.Said.{back_any, away_any, same_err}
use Rattle.nesl_kept.proofs.collection.Collection.check_one.Goals as goal

pub returns-in-Ok-write-clause-good : goal.returns-in-Ok-write-clause-good
returns-in-Ok-write-clause-good g c = (c.in-Ok.ensures.back.0, c.in-Ok.back.session, c.in-Ok.ensures.back.1, back_any _ _ _ _ c.in-Ok.ensures.back.2)

pub returns-in-Err-clause-damaged : goal.returns-in-Err-clause-damaged
returns-in-Err-clause-damaged g c = λ mismatch is. let away = c.in-Err.ensures.away mismatch (ap (λ (s : Stop). Err s) (same_err c.in-Err.stop _ is)) in (away.0, away.1, away_any _ _ _ _ away.2)
