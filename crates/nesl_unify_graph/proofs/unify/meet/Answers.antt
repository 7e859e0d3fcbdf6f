use Rattle.std.proofs.Common.{sym, subst, arith}
use Rattle.nesl_types_shared.specs.Term.{Term}
use Rattle.nesl_unify_graph.specs.Graph.{IsRoot, node_at}
use Rattle.nesl_unify_graph.specs.Steps.{pairs_of}
use Rattle.nesl_unify_graph.proofs.Tables.{Describes}
use Rattle.nesl_unify_graph.proofs.Joins.{join_moves, join_table, join_pending, join_fewer, fewer_rest, meeting_at, read_node}
use Rattle.nesl_unify_graph.specs.declared.unify.Meeting.TheVariants.{Where, Never}
use Rattle.nesl_unify_graph.proofs.unify.meet.Goals as goal

pub compare-requires-clause-first : goal.compare-requires-clause-first
compare-requires-clause-first c = subst IsRoot (sym (read_node c.args.nodes.now.items c.args.pair.first c.index.result.now (omega arith) c.index.ensures)) c.requires.first

pub compare-requires-clause-second : goal.compare-requires-clause-second
compare-requires-clause-second c = subst IsRoot (sym (read_node c.args.nodes.now.items c.args.pair.second c.index-2.result.now c.requires.within c.index-2.ensures)) c.requires.second

pub returns-in_ok-add_rest-in-Where-clause-moves : goal.returns-in_ok-add_rest-in-Where-clause-moves
returns-in_ok-add_rest-in-Where-clause-moves c =
    let meets = meeting_at c.args.nodes.now.items c.args.pair.first c.args.pair.second c.index.result.now c.index-2.result.now (Where c.in-Where.rest) (omega arith) c.requires.within c.index.ensures c.index-2.ensures c.in-Where.ensures in
    join_moves c.args.instances.now c.args.nodes.now.items c.link.new.nodes.items c.args.pair (pairs_of c.in-Where.rest) c.args.pending.now.items c.add_rest.new.pending.items c.link.ensures
    c.in_ok-add_rest-in-Where.ensures c.requires.order c.requires.within (meets c.args.instances.now).0

pub returns-in_ok-add_rest-in-Where-clause-table : goal.returns-in_ok-add_rest-in-Where-clause-table
returns-in_ok-add_rest-in-Where-clause-table c =
    join_table c.args.instances.now c.args.nodes.now.items c.link.new.nodes.items c.args.pair (pairs_of c.in-Where.rest) c.args.pending.now.items c.add_rest.new.pending.items c.link.ensures
    c.in_ok-add_rest-in-Where.ensures c.requires.order c.requires.within c.requires.second

pub returns-in_ok-add_rest-in-Where-clause-pending : goal.returns-in_ok-add_rest-in-Where-clause-pending
returns-in_ok-add_rest-in-Where-clause-pending c =
    let meets = meeting_at c.args.nodes.now.items c.args.pair.first c.args.pair.second c.index.result.now c.index-2.result.now (Where c.in-Where.rest) (omega arith) c.requires.within c.index.ensures c.index-2.ensures c.in-Where.ensures in
    join_pending c.args.instances.now c.args.nodes.now.items c.link.new.nodes.items c.args.pair (pairs_of c.in-Where.rest) c.args.pending.now.items c.add_rest.new.pending.items c.link.ensures
    c.in_ok-add_rest-in-Where.ensures c.requires.order c.requires.within c.requires.graph (meets c.args.instances.now).1 c.requires.pending

pub returns-in_ok-add_rest-in-Where-clause-fewer : goal.returns-in_ok-add_rest-in-Where-clause-fewer
returns-in_ok-add_rest-in-Where-clause-fewer c =
    join_fewer c.args.instances.now c.args.nodes.now.items c.link.new.nodes.items c.args.pair (pairs_of c.in-Where.rest) c.args.pending.now.items c.add_rest.new.pending.items c.link.ensures
    c.in_ok-add_rest-in-Where.ensures c.requires.order c.requires.within (fewer_rest c.args.instances.now (node_at c.args.nodes.now.items c.args.pair.first) (node_at c.args.nodes.now.items c.args.pair.second) c.in-Where.rest c.requires.first c.requires.second)

pub returns-in-Never-clause-none : goal.returns-in-Never-clause-none
returns-in-Never-clause-none c = λ _ w f e.
    let meets = meeting_at c.args.nodes.now.items c.args.pair.first c.args.pair.second c.index.result.now c.index-2.result.now Never (omega arith) c.requires.within c.index.ensures c.index-2.ensures c.in-Never.ensures in
    meets c.args.instances.now w (w c.args.pair.first) (f c.args.pair.first)
    (subst (λ (t : Term). Describes c.args.instances.now w t (node_at c.args.nodes.now.items c.args.pair.second)) (sym e) (f c.args.pair.second))
