use Rattle.std.specs.Vec.{vec_capacity}
use Rattle.nesl_line.proofs.Turns.{emptied, filled, fits_run, told_no_user, turns_nobody, turns_says}
use Rattle.nesl_line.proofs.turn.Chooser.say.Goals as goal

pub returns-then-is_empty-clause-turn : goal.returns-then-is_empty-clause-turn
returns-then-is_empty-clause-turn g c =
    told_no_user c.args.house.now c.args.house.now _ _ c.args.line.now c.no_user.result c.no_user.ensures
    (turns_nobody c.args.house.now c.args.self.now.who.items c.args.line.now c.requires.named (emptied c.args.self.now.who.items _ c.is_empty.result c.args.self.now.who.ok.0 c.is_empty.ensures c.if-is_empty.true))

pub returns-clause-turn : goal.returns-clause-turn
returns-clause-turn g c =
    turns_says c.scripts_follow.ensures c.args.house.now c.say_by-answer.new.self c.args.self.now.who.items c.as_slice.result.now c.args.line.now c.say_by-answer.result c.requires.named
    (filled c.args.self.now.who.items _ c.is_empty.result c.args.self.now.who.ok.0 c.is_empty.ensures c.if-is_empty.false) c.as_slice.ensures.value c.say_by-answer.ensures

pub returns-clause-fit : goal.returns-clause-fit
returns-clause-fit g c = fits_run (vec_capacity c.args.self.now.who) c.args.house.now c.say_by-answer.new.self _ c.say_by-answer.ensures c.requires.fit
