use Rattle.std.specs.Vec.{vec_capacity}
use Rattle.nesl_line.proofs.Turns.{missed, found, fits_found, fits_more, told_no_user, turns_stranger, turns_user}
use Rattle.nesl_line.proofs.turn.Chooser.select.Goals as goal

pub returns-then-is_none-clause-turn : goal.returns-then-is_none-clause-turn
returns-then-is_none-clause-turn g c =
    told_no_user c.args.house.now c.args.house.now _ _ c.args.line.now c.no_user.result c.no_user.ensures
    (turns_stranger c.args.house.now _ c.clear.new.self.items c.args.line.now c.args.name.now c.requires.named (missed _ c.session.result _ c.is_none.result c.session.ensures c.is_none.ensures c.if-is_none.true) c.clear.ensures.items)

pub put_name-requires : goal.put_name-requires
put_name-requires g c = fits_found (vec_capacity c.args.self.now.who) c.args.house.now c.args.name.now c.requires.fit (found _ c.session.result _ c.is_none.result c.session.ensures c.is_none.ensures c.if-is_none.false)

pub returns-clause-turn : goal.returns-clause-turn
returns-clause-turn g c =
    turns_user c.args.house.now _ c.put_name.new.who.items c.args.line.now c.args.name.now c.requires.named
    (found _ c.session.result _ c.is_none.result c.session.ensures c.is_none.ensures c.if-is_none.false) c.put_name.ensures.items

pub returns-clause-fit : goal.returns-clause-fit
returns-clause-fit g c = fits_more (vec_capacity c.args.self.now.who) (vec_capacity c.put_name.new.who) c.args.house.now c.put_name.ensures.room c.requires.fit
