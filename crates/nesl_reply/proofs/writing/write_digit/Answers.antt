use Rattle.std.proofs.Common.{rules}
use Rattle.std.proofs.lemmas.Fmt.{decimal_digit}
use Rattle.nesl_reply.proofs.writing.write_digit.Goals as goal

pub returns : goal.returns
returns c = search (rules, decimal_digit c.args.digit c.requires)
