use Rattle.std.proofs.Common.{map}
use Rattle.nesl_reply.proofs.Lists.{names_written}
use Rattle.nesl_reply.proofs.reply.write_names.Goals as goal

pub loop-place-preserved : goal.loop-place-preserved
loop-place-preserved g c =
    names_written c.args.out.now.items c.loop-place.out.items c.write_bytes.new.out.items c.write_bytes-in-loop-place.new.out.items c.separator.result.now
    (map (λ b. b.0) c.args.context.now) c.loop-place.place c.name_at.result.now c.name_at.ensures c.separator.ensures c.loop-place.invariant c.in_ok-write_bytes.ensures c.in_ok-write_bytes-2.ensures
