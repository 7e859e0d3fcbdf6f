use Rattle.std.proofs.Common.{sym, subst, arith}
use Rattle.std.specs.Vec.{with_items}
use Rattle.std.proofs.lemmas.List.{with_items_is}
use Rattle.nesl_unify_graph.specs.Steps.{LeadDown}
use Rattle.nesl_unify_graph.proofs.Tables.{table_down}
use Rattle.nesl_unify_graph.proofs.Steps.{flattened_of, joins_all, graph_of}
use Rattle.nesl_unify_graph.proofs.unify.unify.Goals as goal

pub equate_all-requires-clause-graph : goal.equate_all-requires-clause-graph
equate_all-requires-clause-graph c = graph_of c.args.instances.now c.args.count c.args.nodes.now.items c.requires.count c.requires.made c.requires.table

pub flatten-requires : goal.flatten-requires
flatten-requires c =
    subst LeadDown (sym c.as_mut_slice.ensures.value)
    (table_down c.args.instances.now c.args.count c.equate_all.new.nodes.items (c.in_ok-equate_all.ensures.table c.args.count c.requires.table))

pub returns-clause-joined : goal.returns-clause-joined
returns-clause-joined c =
    let f = flattened_of c.args.instances.now c.equate_all.new.nodes.items c.as_mut_slice.result.now c.flatten.new.nodes (with_items c.equate_all.new.nodes c.flatten.new.nodes).items c.as_mut_slice.ensures.value
    (with_items_is c.equate_all.new.nodes c.flatten.new.nodes (omega (arith, c.flatten.auto.nodes, c.as_mut_slice.ensures.len)))
    (record { len = c.flatten.auto.nodes; same = c.flatten.ensures.same c.args.instances.now; table = c.flatten.ensures.table c.args.instances.now; flat = c.flatten.ensures.flat }) in
    joins_all c.args.instances.now c.args.nodes.now.items c.equate_all.new.nodes.items (with_items c.equate_all.new.nodes c.flatten.new.nodes).items c.args.pending.items
    c.in_ok-equate_all.ensures.moves f.len f.same

pub returns-clause-table : goal.returns-clause-table
returns-clause-table c =
    let f = flattened_of c.args.instances.now c.equate_all.new.nodes.items c.as_mut_slice.result.now c.flatten.new.nodes (with_items c.equate_all.new.nodes c.flatten.new.nodes).items c.as_mut_slice.ensures.value
    (with_items_is c.equate_all.new.nodes c.flatten.new.nodes (omega (arith, c.flatten.auto.nodes, c.as_mut_slice.ensures.len)))
    (record { len = c.flatten.auto.nodes; same = c.flatten.ensures.same c.args.instances.now; table = c.flatten.ensures.table c.args.instances.now; flat = c.flatten.ensures.flat }) in
    f.table c.args.count (c.in_ok-equate_all.ensures.table c.args.count c.requires.table)

pub returns-clause-flat : goal.returns-clause-flat
returns-clause-flat c =
    (flattened_of c.args.instances.now c.equate_all.new.nodes.items c.as_mut_slice.result.now c.flatten.new.nodes (with_items c.equate_all.new.nodes c.flatten.new.nodes).items c.as_mut_slice.ensures.value
    (with_items_is c.equate_all.new.nodes c.flatten.new.nodes (omega (arith, c.flatten.auto.nodes, c.as_mut_slice.ensures.len)))
    (record { len = c.flatten.auto.nodes; same = c.flatten.ensures.same c.args.instances.now; table = c.flatten.ensures.table c.args.instances.now; flat = c.flatten.ensures.flat })).flat
