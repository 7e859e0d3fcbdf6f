use Rattle.std.proofs.Common.{refl, length, ◌-◌}
use Rattle.nesl_types_shared.specs.Types.{type_at}
use Rattle.nesl_unify_graph.specs.Instances.{base_in, parts_in}
use Rattle.nesl_unify_graph.proofs.Sizes.{closed_size}
use Rattle.nesl_unify_graph.proofs.walk.closed_nodes.Goals as goal

pub returns : goal.returns
returns c = λ ns.
    let i = c.args.instances.now in
    let r = c.args.instance in
    closed_size i ns r (length i.fresh.items - base_in i r) c.written_nodes.result (type_at (parts_in i r) c.args.part) (c.if-has_places.ensures refl) c.requires.below c.written_nodes.ensures
