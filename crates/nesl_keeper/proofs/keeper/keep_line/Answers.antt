use Rattle.std.proofs.Common.{rules}
use Rattle.nesl_keep.specs.Scroll.{device_of}
use Rattle.nesl_keep.proofs.Moments.{weaker}
use Rattle.nesl_keeper.specs.Files.{head_text, StandsForEither}
use Rattle.nesl_keeper.proofs.Rows.{kept_same, rows_anew}
use Rattle.nesl_keeper.proofs.Lasting.{before_or_anew}
use Rattle.nesl_keeper.proofs.keeper.keep_line.Goals as goal

pub returns-clause-kept : goal.returns-clause-kept
returns-clause-kept g c = λ old reply was. kept_same old c.args.session.now c.args.line.now _ was.rows (c.lines_are_stored.ensures old c.args.session.now c.args.line.now reply was.responds) (search rules) (search rules)

pub returns-in_err-restart-clause-left : goal.returns-in_err-restart-clause-left
returns-in_err-restart-clause-left g c = λ old reply was.
    weaker g.D.Device.moment g.D.Device.left_since (device_of c.args.scroll.now) (device_of c.restart.new.scroll) _ (StandsForEither old c.args.session.now) c.restart.ensures.left
    (λ f left. before_or_anew old c.args.session.now (g.D.Device.seen (device_of c.args.scroll.now)) (head_text c.args.session.now.base c.args.session.now.cleared) f was.rows (rows_anew old c.args.session.now c.args.line.now (c.lines_are_stored.ensures old c.args.session.now c.args.line.now reply was.responds) (search rules)) left)
