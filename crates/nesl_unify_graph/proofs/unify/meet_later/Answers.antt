use Rattle.std.proofs.Common.{arith, rules}
use Rattle.nesl_unify_graph.proofs.Joins.{later_moves}
use Rattle.nesl_unify_graph.proofs.Matches.{twins_at, met_whole, met_moves, met_table, met_pending, met_fewer}
use Rattle.nesl_unify_graph.proofs.Steps.{graph_after}
use Rattle.nesl_unify_graph.proofs.unify.meet_later.Goals as goal

pub returns-in-Some-clause-moves : goal.returns-in-Some-clause-moves
returns-in-Some-clause-moves c =
    let i = c.args.instances.now in
    let ns = c.args.nodes.now.items in
    let new = c.link.new.nodes.items in
    let p = c.args.pair in
    let x = c.in-Some.twins in
    let old = c.args.pending.now.items in
    let more = c.match_variables.new.pending.items in
    let l = c.requires.order in
    let k = c.requires.within in
    let t = twins_at i ns p.first p.second c.index.result.now c.index-2.result.now x (omega (arith, l, k)) k c.index.ensures c.index-2.ensures c.in-Some.ensures in
    met_moves i ns new p x old more c.link.ensures c.requires.graph l k t (c.in_ok-match_variables.ensures t.whole (met_whole i ns new p x old more c.link.ensures c.requires.graph l k t))

pub returns-in-Some-clause-table : goal.returns-in-Some-clause-table
returns-in-Some-clause-table c =
    let i = c.args.instances.now in
    let ns = c.args.nodes.now.items in
    let new = c.link.new.nodes.items in
    let p = c.args.pair in
    let x = c.in-Some.twins in
    let old = c.args.pending.now.items in
    let more = c.match_variables.new.pending.items in
    let l = c.requires.order in
    let k = c.requires.within in
    let t = twins_at i ns p.first p.second c.index.result.now c.index-2.result.now x (omega (arith, l, k)) k c.index.ensures c.index-2.ensures c.in-Some.ensures in
    met_table i ns new p x old more c.link.ensures c.requires.graph l k t (c.in_ok-match_variables.ensures t.whole (met_whole i ns new p x old more c.link.ensures c.requires.graph l k t)) c.requires.root

pub returns-in-Some-clause-pending : goal.returns-in-Some-clause-pending
returns-in-Some-clause-pending c =
    let i = c.args.instances.now in
    let ns = c.args.nodes.now.items in
    let new = c.link.new.nodes.items in
    let p = c.args.pair in
    let x = c.in-Some.twins in
    let old = c.args.pending.now.items in
    let more = c.match_variables.new.pending.items in
    let l = c.requires.order in
    let k = c.requires.within in
    let t = twins_at i ns p.first p.second c.index.result.now c.index-2.result.now x (omega (arith, l, k)) k c.index.ensures c.index-2.ensures c.in-Some.ensures in
    met_pending i ns new p x old more c.link.ensures c.requires.graph l k t (c.in_ok-match_variables.ensures t.whole (met_whole i ns new p x old more c.link.ensures c.requires.graph l k t)) c.requires.pending

pub returns-in-Some-clause-fewer : goal.returns-in-Some-clause-fewer
returns-in-Some-clause-fewer c =
    let i = c.args.instances.now in
    let ns = c.args.nodes.now.items in
    let new = c.link.new.nodes.items in
    let p = c.args.pair in
    let x = c.in-Some.twins in
    let old = c.args.pending.now.items in
    let more = c.match_variables.new.pending.items in
    let l = c.requires.order in
    let k = c.requires.within in
    let t = twins_at i ns p.first p.second c.index.result.now c.index-2.result.now x (omega (arith, l, k)) k c.index.ensures c.index-2.ensures c.in-Some.ensures in
    met_fewer i ns new p x old more c.link.ensures c.requires.graph l k t (c.in_ok-match_variables.ensures t.whole (met_whole i ns new p x old more c.link.ensures c.requires.graph l k t))

pub expand-requires-2-clause-graph : goal.expand-requires-2-clause-graph
expand-requires-2-clause-graph c =
    let e = c.in_ok-expand.ensures in
    graph_after c.args.instances.now c.args.nodes.now.items c.expand.new.nodes.items e.moves.longer e.table c.requires.graph

pub returns-clause-moves : goal.returns-clause-moves
returns-clause-moves c =
    later_moves c.args.instances.now c.args.nodes.now.items c.expand.new.nodes.items c.expand-2.new.nodes.items c.args.pair c.args.pending.now.items c.push.new.self.items
    (search rules) c.requires.order c.requires.within c.requires.pending c.in_ok-expand.ensures.moves c.in_ok-expand-2.ensures.moves

pub returns-clause-table : goal.returns-clause-table
returns-clause-table c = λ count t. c.in_ok-expand-2.ensures.table count (c.in_ok-expand.ensures.table count t)
