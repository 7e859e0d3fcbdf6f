use Rattle.std.proofs.Common.{length}
use Rattle.nesl_unify_graph.proofs.Expansions.{spread_both, spread_seq}
use Rattle.nesl_unify_graph.proofs.Steps.{below_more}
use Rattle.nesl_unify_graph.proofs.expand.spread.Goals as goal

pub returns-in_ok-right-in-Both : goal.returns-in_ok-right-in-Both
returns-in_ok-right-in-Both c =
    let i = c.args.instances.now in
    let old = c.args.nodes.now.items in
    let mid = c.put_part-in-Both.new.nodes.items in
    let a = c.in_ok-left-in-Both.ensures in
    let e = rw c.parts.ensures at c.in-Both.ensures.shape in
    spread_both i old mid c.put_part-in-Both-2.new.nodes.items c.args.instance c.args.part c.in-Both.first c.in-Both.second c.in_ok-left-in-Both.left c.in_ok-right-in-Both.right
    c.requires.graph.below (below_more i (length old) (length mid) a.longer c.requires.graph.below) e a c.in_ok-right-in-Both.ensures

pub returns-in_ok-put_part-in-SeqOf : goal.returns-in_ok-put_part-in-SeqOf
returns-in_ok-put_part-in-SeqOf c =
    let e = rw c.parts.ensures at c.in-SeqOf.ensures.shape in
    spread_seq c.args.instances.now c.args.nodes.now.items c.put_part.new.nodes.items c.args.instance c.args.part c.in-SeqOf.item _
    c.requires.graph.below e c.in_ok-put_part-in-SeqOf.ensures
