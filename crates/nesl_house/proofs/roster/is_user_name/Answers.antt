use Rattle.std.proofs.Common.{sym, ◌∙◌}
use Rattle.nesl_house.proofs.Rosters.{named}
use Rattle.nesl_house.proofs.roster.is_user_name.Goals as goal

pub returns : goal.returns
returns c = named c.args.name.now c.in-Some.first.now c.is_spelled.result c.in-Some.ensures.value (sym c.is_letter.ensures ∙ c.if-not-is_letter.false) c.if-name-gt-MOST_NAME_BYTES.false c.is_spelled.ensures
