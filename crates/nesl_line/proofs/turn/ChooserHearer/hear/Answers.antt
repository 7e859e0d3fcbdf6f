use Rattle.nesl_line.proofs.Turns.{talked_more}
use Rattle.nesl_line.proofs.turn.ChooserHearer.hear.Goals as goal

pub returns-in-Some-clause-heard : goal.returns-in-Some-clause-heard
returns-in-Some-clause-heard g c = λ first start lines texts t. talked_more start c.args.world.now c.args.world.now _ _ lines texts c.args.line.now _ c.select.ensures.turn t

pub returns-in-None-clause-heard : goal.returns-in-None-clause-heard
returns-in-None-clause-heard g c = λ first start lines texts t. talked_more start c.args.world.now c.say.new.house _ _ lines texts c.args.line.now _ c.say.ensures.turn t
