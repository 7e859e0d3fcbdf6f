use Rattle.std.proofs.Common.{◌∙◌}
use Rattle.nesl_keep.specs.Scroll.{device_of}
use Rattle.nesl_keep.proofs.Moments.{weaker}
use Rattle.nesl_keeper.specs.Files.{head_text, StandsForEither}
use Rattle.nesl_keeper.proofs.Rows.{on_ok_map, rows_renewed}
use Rattle.nesl_keeper.proofs.Lasting.{before_or_anew}
use Rattle.nesl_keeper.proofs.keeper.keep_renewed.Goals as goal

pub returns-clause-kept : goal.returns-clause-kept
returns-clause-kept g c = on_ok_map c.restart.result c.restart.ensures.anew (λ anew old is. anew ∙ rows_renewed old c.args.session.now is)

pub returns-clause-left : goal.returns-clause-left
returns-clause-left g c = λ old rows is.
    weaker g.D.Device.moment g.D.Device.left_since (device_of c.args.scroll.now) (device_of c.restart.new.scroll) _ (StandsForEither old c.args.session.now) c.restart.ensures.left
    (λ f left. before_or_anew old c.args.session.now (g.D.Device.seen (device_of c.args.scroll.now)) (head_text c.args.session.now.base c.args.session.now.cleared) f rows (rows_renewed old c.args.session.now is) left)
