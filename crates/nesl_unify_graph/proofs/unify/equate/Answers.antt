use Rattle.std.proofs.Common.{◌≡◌, ◌++◌, [], ◌∷◌, length, arith, rules}
use Rattle.nesl_unify_graph.proofs.Tables.{table_down}
use Rattle.nesl_unify_graph.proofs.Steps.{found_moves, found_graph, found_pending, found_none, moves_more, moves_equal}
use Rattle.nesl_unify_graph.proofs.unify.equate.Goals as goal

pub find_ends-roots-requires-clause-links : goal.find_ends-roots-requires-clause-links
find_ends-roots-requires-clause-links c = table_down c.args.instances.now (length c.args.nodes.now.items) c.args.nodes.now.items c.requires.graph.table

pub meet-requires-clause-graph : goal.meet-requires-clause-graph
meet-requires-clause-graph c = found_graph c.args.instances.now c.args.nodes.now.items c.find_ends-roots.new.nodes.items c.args.pair c.find_ends-roots.result (c.find_ends-roots.ensures.found c.args.instances.now) c.requires.graph

pub meet-requires-clause-pending : goal.meet-requires-clause-pending
meet-requires-clause-pending c = found_pending c.args.instances.now c.args.nodes.now.items c.find_ends-roots.new.nodes.items c.args.pair c.find_ends-roots.result c.args.pending.now.items (c.find_ends-roots.ensures.found c.args.instances.now) c.requires.pending

pub returns-in_err-meet-clause-none : goal.returns-in_err-meet-clause-none
returns-in_err-meet-clause-none c = λ e. found_none c.args.instances.now c.args.nodes.now.items c.find_ends-roots.new.nodes.items c.args.pair c.find_ends-roots.result (c.find_ends-roots.ensures.found c.args.instances.now) (c.in_err-meet.ensures.none (search rules))

pub returns-in_ok-meet-clause-moves : goal.returns-in_ok-meet-clause-moves
returns-in_ok-meet-clause-moves c =
    let i = c.args.instances.now in
    let ps = c.args.pending.now.items in
    moves_more i c.args.nodes.now.items c.find_ends-roots.new.nodes.items c.meet.new.nodes.items (ps ++ c.args.pair ∷ []) (ps ++ c.find_ends-roots.result ∷ []) c.meet.new.pending.items
    (found_moves i c.args.nodes.now.items c.find_ends-roots.new.nodes.items ps c.args.pair c.find_ends-roots.result (c.find_ends-roots.ensures.found c.args.instances.now)) c.in_ok-meet.ensures.moves

pub returns-in_ok-meet-clause-table : goal.returns-in_ok-meet-clause-table
returns-in_ok-meet-clause-table c = λ count t. c.in_ok-meet.ensures.table count ((c.find_ends-roots.ensures.found c.args.instances.now).table count t)

pub returns-in_ok-meet-clause-fewer : goal.returns-in_ok-meet-clause-fewer
returns-in_ok-meet-clause-fewer c = omega (arith, (c.find_ends-roots.ensures.found c.args.instances.now).weight, c.in_ok-meet.ensures.fewer)

pub returns-else-roots-clause-moves : goal.returns-else-roots-clause-moves
returns-else-roots-clause-moves c =
    let i = c.args.instances.now in
    let ps = c.args.pending.now.items in
    let e : c.find_ends-roots.result.first ≡ c.find_ends-roots.result.second = omega (arith, c.find_ends-roots.ensures.order) in
    moves_more i c.args.nodes.now.items c.find_ends-roots.new.nodes.items c.find_ends-roots.new.nodes.items (ps ++ c.args.pair ∷ []) (ps ++ c.find_ends-roots.result ∷ []) ps
    (found_moves i c.args.nodes.now.items c.find_ends-roots.new.nodes.items ps c.args.pair c.find_ends-roots.result (c.find_ends-roots.ensures.found c.args.instances.now)) (moves_equal i c.find_ends-roots.new.nodes.items ps c.find_ends-roots.result e)

pub returns-else-roots-clause-table : goal.returns-else-roots-clause-table
returns-else-roots-clause-table c = (c.find_ends-roots.ensures.found c.args.instances.now).table

pub returns-else-roots-clause-pending : goal.returns-else-roots-clause-pending
returns-else-roots-clause-pending c = found_pending c.args.instances.now c.args.nodes.now.items c.find_ends-roots.new.nodes.items c.args.pair c.find_ends-roots.result c.args.pending.now.items (c.find_ends-roots.ensures.found c.args.instances.now) c.requires.pending

pub returns-else-roots-clause-fewer : goal.returns-else-roots-clause-fewer
returns-else-roots-clause-fewer c = omega (arith, (c.find_ends-roots.ensures.found c.args.instances.now).weight)
