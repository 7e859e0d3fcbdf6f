use Rattle.std.proofs.Common.{◌≡◌, ◌≤◌, length, take, reverse}
use Rattle.nesl_infer_rules.specs.Typing.{is_name}
use Rattle.nesl_infer_rules.specs.Newest.{newest_variable}
use Rattle.nesl_infer_rules.proofs.locals.look_up_few.Given as goal

abbrev pub invariant-loop-next : goal.invariant-loop-next
invariant-loop-next l = record {
  found : newest_variable (is_name l.name) (reverse (take l.next l.list)) ≡ newest_variable (is_name l.name) (reverse (take 8 l.list));
  bound : l.next ≤ length l.list;
}

abbrev pub decreases-loop-next : goal.decreases-loop-next
decreases-loop-next l = l.next
