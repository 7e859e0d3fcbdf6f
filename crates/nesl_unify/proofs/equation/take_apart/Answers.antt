use Rattle.nesl_unify.proofs.Equations.{apart_left, apart_right, apart_split_ok}
use Rattle.nesl_unify.proofs.equation.take_apart.Goals as goal

pub returns-in-Some-clause-taken : goal.returns-in-Some-clause-taken
returns-in-Some-clause-taken c =
    apart_left c.args.sides.now c.args.facts.now.items c.push.new.self.items c.args.pending.now.items c.args.ends c.in-Some.variable c.shape-left.result c.shape-right.result c.part_node-node.result
    c.requires.ends c.requires.pending c.shape-left.ensures.shape c.in-Some.ensures.some c.shape-right.ensures.shape c.part_node-node.ensures c.in_ok-push.ensures.items

pub returns-in-Some-variable_of-clause-taken : goal.returns-in-Some-variable_of-clause-taken
returns-in-Some-variable_of-clause-taken c =
    apart_right c.args.sides.now c.args.facts.now.items c.push-in-Some-variable_of.new.self.items c.args.pending.now.items c.args.ends c.in-Some-variable_of.variable c.shape-left.result c.shape-right.result c.part_node-node-in-Some-variable_of.result
    c.requires.ends c.requires.pending c.shape-right.ensures.shape c.in-Some-variable_of.ensures.some c.shape-left.ensures.shape c.part_node-node-in-Some-variable_of.ensures c.in_ok-push-2.ensures.items

pub returns-clause-taken : goal.returns-clause-taken
returns-clause-taken c =
    apart_split_ok c.args.sides.now c.args.facts.now.items c.args.pending.now.items c.split.new.pending.items c.args.ends c.shape-left.result c.shape-right.result c.split.result
    c.requires.ends c.requires.pending c.shape-left.ensures.shape c.shape-left.ensures.parts c.shape-right.ensures.shape c.shape-right.ensures.parts c.split.ensures.split
