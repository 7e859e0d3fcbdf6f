use Rattle.std.proofs.Common.{◌<◌, List, length, sym, subst, arith}
use Rattle.std.specs.Vec.{with_items}
use Rattle.std.proofs.lemmas.List.{with_items_is}
use Rattle.nesl_unify_graph.specs.declared.node.Node.{Node}
use Rattle.nesl_unify_graph.specs.Graph.{IsRoot, node_at}
use Rattle.nesl_unify_graph.specs.Tables.{IsPairBelow}
use Rattle.nesl_unify_graph.specs.Steps.{LeadDown}
use Rattle.nesl_unify_graph.proofs.Steps.{found_of}
use Rattle.nesl_unify_graph.proofs.unify.find_ends.Goals as goal

pub find_both-requires-clause-links : goal.find_both-requires-clause-links
find_both-requires-clause-links c = subst LeadDown (sym c.as_mut_slice.ensures.value) c.requires.links

pub find_both-requires-clause-pair : goal.find_both-requires-clause-pair
find_both-requires-clause-pair c = subst (λ (l : List Node). IsPairBelow (length l) c.args.pair) (sym c.as_mut_slice.ensures.value) c.requires.pair

pub returns-clause-within : goal.returns-clause-within
returns-clause-within c =
    let e = with_items_is c.args.nodes.now c.find_both.new.nodes (omega (arith, c.find_both.auto.nodes, c.as_mut_slice.ensures.len)) in
    subst (λ (l : List Node). c.find_both.result.second < length l) (sym e) c.find_both.ensures.within

pub returns-clause-first : goal.returns-clause-first
returns-clause-first c =
    let e = with_items_is c.args.nodes.now c.find_both.new.nodes (omega (arith, c.find_both.auto.nodes, c.as_mut_slice.ensures.len)) in
    subst (λ (l : List Node). IsRoot (node_at l c.find_both.result.first)) (sym e) c.find_both.ensures.first

pub returns-clause-second : goal.returns-clause-second
returns-clause-second c =
    let e = with_items_is c.args.nodes.now c.find_both.new.nodes (omega (arith, c.find_both.auto.nodes, c.as_mut_slice.ensures.len)) in
    subst (λ (l : List Node). IsRoot (node_at l c.find_both.result.second)) (sym e) c.find_both.ensures.second

pub returns-clause-found : goal.returns-clause-found
returns-clause-found c = λ i.
    let e = with_items_is c.args.nodes.now c.find_both.new.nodes (omega (arith, c.find_both.auto.nodes, c.as_mut_slice.ensures.len)) in
    found_of i c.args.nodes.now.items c.as_mut_slice.result.now c.find_both.new.nodes (with_items c.args.nodes.now c.find_both.new.nodes).items c.args.pair c.find_both.result
    c.as_mut_slice.ensures.value e (c.find_both.ensures.found i)
