use Rattle.std.proofs.Common.{◌+◌, ◌<◌, ℕ, List, length, sym, subst, arith}
use Rattle.nesl_unify_graph.specs.declared.node.Node.{Node}
use Rattle.nesl_unify_graph.specs.Graph.{IsRoot, node_at, target}
use Rattle.nesl_unify_graph.proofs.Tables.{relinks_step, flat_more}
use Rattle.nesl_unify_graph.proofs.table.flatten.Goals as goal

pub loop-place-preserved : goal.loop-place-preserved
loop-place-preserved c =
    let i = c.loop-place.invariant in
    let ns = c.loop-place.nodes in
    let p = c.loop-place.place in
    let inside : p < length ns = omega (arith, c.loop-place-test.true, i.relinks.len) in
    let s = relinks_step c.args.nodes.now ns c.shorten.new.nodes p i.relinks i.down inside c.shorten.ensures in
    record {
      relinks = s.1.0;
      down = s.1.1;
      flat = subst (λ (new : List Node). (q : ℕ) → q < p + 1 → IsRoot (node_at new (target new q))) (sym c.shorten.ensures) (flat_more ns p i.down inside i.flat);
    }
