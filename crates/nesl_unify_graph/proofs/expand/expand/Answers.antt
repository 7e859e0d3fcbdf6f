use Rattle.std.proofs.Common.{◌≡◌, ◌∙◌, [], refl, sym, ap, arith}
use Rattle.std.proofs.lemmas.List.{get_or_read}
use Rattle.nesl_unify_graph.specs.declared.node.Node.TheVariants.{Free}
use Rattle.nesl_unify_graph.specs.Graph.{node_at}
use Rattle.nesl_unify_graph.specs.Steps.{expandable}
use Rattle.nesl_unify_graph.proofs.Expansions.{part_at, expandable_none, expanded_moves, expanded_table, expanded_kept, expanded_fewer}
use Rattle.nesl_unify_graph.proofs.Steps.{moves_none}
use Rattle.nesl_unify_graph.proofs.expand.expand.Goals as goal

pub spread-requires-clause-part : goal.spread-requires-clause-part
spread-requires-clause-part c =
    let here = sym (get_or_read c.args.nodes.now.items c.args.place c.index.result.now c.requires.place c.index.ensures Free) ∙ c.in-Part.is in
    part_at c.args.instances.now c.args.nodes.now.items c.args.place c.in-Part.instance c.in-Part.part c.requires.graph c.requires.place here

pub returns-in_ok-node-in-Part-clause-moves : goal.returns-in_ok-node-in-Part-clause-moves
returns-in_ok-node-in-Part-clause-moves c =
    let here = sym (get_or_read c.args.nodes.now.items c.args.place c.index.result.now c.requires.place c.index.ensures Free) ∙ c.in-Part.is in
    let part = part_at c.args.instances.now c.args.nodes.now.items c.args.place c.in-Part.instance c.in-Part.part c.requires.graph c.requires.place here in
    expanded_moves c.args.instances.now c.args.nodes.now.items c.spread.new.nodes.items c.in-Part.instance c.in-Part.part c.args.place c.in_ok-node-in-Part.node c.requires.graph c.requires.place part here c.in_ok-node-in-Part.ensures

pub returns-in_ok-node-in-Part-clause-table : goal.returns-in_ok-node-in-Part-clause-table
returns-in_ok-node-in-Part-clause-table c =
    let here = sym (get_or_read c.args.nodes.now.items c.args.place c.index.result.now c.requires.place c.index.ensures Free) ∙ c.in-Part.is in
    let part = part_at c.args.instances.now c.args.nodes.now.items c.args.place c.in-Part.instance c.in-Part.part c.requires.graph c.requires.place here in
    expanded_table c.args.instances.now c.args.nodes.now.items c.spread.new.nodes.items c.in-Part.instance c.in-Part.part c.args.place c.in_ok-node-in-Part.node c.requires.graph c.requires.place part here c.in_ok-node-in-Part.ensures

pub returns-in_ok-node-in-Part-clause-kept : goal.returns-in_ok-node-in-Part-clause-kept
returns-in_ok-node-in-Part-clause-kept c =
    let here = sym (get_or_read c.args.nodes.now.items c.args.place c.index.result.now c.requires.place c.index.ensures Free) ∙ c.in-Part.is in
    let part = part_at c.args.instances.now c.args.nodes.now.items c.args.place c.in-Part.instance c.in-Part.part c.requires.graph c.requires.place here in
    expanded_kept c.args.instances.now c.args.nodes.now.items c.spread.new.nodes.items c.in-Part.instance c.in-Part.part c.args.place c.in_ok-node-in-Part.node c.requires.graph c.requires.place part here c.in_ok-node-in-Part.ensures

pub returns-in_ok-node-in-Part-clause-fewer : goal.returns-in_ok-node-in-Part-clause-fewer
returns-in_ok-node-in-Part-clause-fewer c =
    let here = sym (get_or_read c.args.nodes.now.items c.args.place c.index.result.now c.requires.place c.index.ensures Free) ∙ c.in-Part.is in
    let part = part_at c.args.instances.now c.args.nodes.now.items c.args.place c.in-Part.instance c.in-Part.part c.requires.graph c.requires.place here in
    expanded_fewer c.args.instances.now c.args.nodes.now.items c.spread.new.nodes.items c.in-Part.instance c.in-Part.part c.args.place c.in_ok-node-in-Part.node c.requires.graph c.requires.place part here c.in_ok-node-in-Part.ensures

pub returns-in_default : goal.returns-in_default
returns-in_default c =
    let read = get_or_read c.args.nodes.now.items c.args.place c.index.result.now c.requires.place c.index.ensures Free in
    let none : expandable (node_at c.args.nodes.now.items c.args.place) ≡ 0 = ap expandable (sym read) ∙ expandable_none c.index.result.now c.in_default.not-Part in
    record {
      moves = moves_none c.args.instances.now c.args.nodes.now.items [];
      table = λ count t. t;
      kept = λ p l d. refl;
      fewer = omega (arith, none);
    }
