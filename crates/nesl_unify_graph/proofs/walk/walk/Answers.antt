use Rattle.std.proofs.Common.{◌≡◌, ◌<◌, ◌+◌, [], rules, arith}
use Rattle.nesl_unify_graph.specs.Sizes.{look_nodes}
use Rattle.nesl_unify_graph.proofs.Walks.{walk_first, first_fails, walk_on, walk_fails, walk_last, look_positive}
use Rattle.nesl_unify_graph.proofs.walk.walk.Goals as goal

pub returns-in-None-clause-none : goal.returns-in-None-clause-none
returns-in-None-clause-none c =
    first_fails c.args.instances.now c.args.nodes.now c.args.most c.in_ok-first.first c.args.root c.in_ok-first.ensures (rw c.in-None.is at c.in_ok-left.ensures.room)

pub loop-item-init : goal.loop-item-init
loop-item-init c =
    walk_first c.args.instances.now c.args.nodes.now c.args.most c.in_ok-first.first c.args.work.now.items.items c.count.new.stack.items c.in-Some.left c.args.root
    c.in_ok-first.ensures c.requires.empty c.in_ok-left.ensures.parts (rw c.in-Some.is at c.in_ok-left.ensures.room)

pub returns-in-None-2-clause-none : goal.returns-in-None-2-clause-none
returns-in-None-2-clause-none c =
    let large : c.loop-item.room < look_nodes c.in_ok-look.look = rw c.in-None-2.is at c.in_ok-left-2.ensures.room in
    walk_fails c.args.instances.now c.args.nodes.now c.args.most c.pop.new.self.items c.loop-item.work.items.items c.loop-item.room c.args.root c.in-Some-pop.item c.in_ok-look.look
    c.in-Some-pop.ensures.items c.in_ok-look.ensures large c.loop-item.invariant

pub loop-item-smaller : goal.loop-item-smaller
loop-item-smaller c =
    let left : c.in-Some-2.left + look_nodes c.in_ok-look.look ≡ c.loop-item.room = rw c.in-Some-2.is at c.in_ok-left-2.ensures.room in
    let some = look_positive c.args.instances.now c.args.nodes.now c.in-Some-pop.item c.in_ok-look.look c.in_ok-look.ensures in
    omega (arith, left, some)

pub loop-item-preserved : goal.loop-item-preserved
loop-item-preserved c =
    let left : c.in-Some-2.left + look_nodes c.in_ok-look.look ≡ c.loop-item.room = rw c.in-Some-2.is at c.in_ok-left-2.ensures.room in
    walk_on c.args.instances.now c.args.nodes.now c.args.most c.pop.new.self.items c.loop-item.work.items.items c.count-in-Some-pop.new.stack.items c.loop-item.room c.in-Some-2.left c.args.root
    c.in-Some-pop.item c.in_ok-look.look c.in-Some-pop.ensures.items c.in_ok-left-2.ensures.parts c.in_ok-look.ensures left c.loop-item.invariant

pub returns-clause-some : goal.returns-clause-some
returns-clause-some c =
    let empty : c.loop-item.work.items.items ≡ [] = search rules in
    walk_last c.args.instances.now c.args.nodes.now c.args.most c.loop-item.work.items.items c.loop-item.room c.args.root empty c.loop-item.invariant
