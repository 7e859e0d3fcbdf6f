use Rattle.std.proofs.Common.{◌++◌, codes}
use Rattle.std.specs.Prelude.{decimal}
use Rattle.nesl_reply.specs.Replies.{used_text}
use Rattle.nesl_reply.proofs.Lists.{four_written}
use Rattle.nesl_reply.proofs.reply.write_budget.Goals as goal

pub returns : goal.returns
returns c =
    four_written c.args.out.now.items c.write_counted.new.out.items c.write_used.new.out.items c.write_used-2.new.out.items c.write_used-3.new.out.items
    (codes "budget: work " ++ decimal c.args.work) (codes ", elements" ++ used_text c.args.elements) (codes ", lines" ++ used_text c.args.lines) (codes ", bytes" ++ used_text c.args.bytes)
    c.in_ok-write_counted.ensures c.in_ok-write_used.ensures c.in_ok-write_used-2.ensures c.in_ok-write_used-3.ensures
