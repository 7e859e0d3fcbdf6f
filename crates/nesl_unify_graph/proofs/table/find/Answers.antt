use Rattle.std.proofs.Common.{◌≡◌, ◌<◌, length, sym, ap, ◌∙◌, arith}
use Rattle.nesl_unify_graph.specs.Graph.{target}
use Rattle.nesl_unify_graph.proofs.Tables.{relinks_step, fits-target, target_le}
use Rattle.nesl_unify_graph.proofs.table.find.Goals as goal

pub links-preserved : goal.links-preserved
links-preserved c =
    let i = c.links.invariant in
    let new = c.shorten.new.nodes in
    let s = relinks_step c.args.nodes.now c.links.nodes new c.links.root i.relinks i.down i.within c.shorten.ensures in
    let within : c.links.root < length new = omega (arith, s.0.len, i.within) in
    let le = target_le new c.links.root s.1.1 in
    let to : c.target-root.result ≡ target new c.links.root = c.target-root.ensures in
    record {
      relinks = s.1.0;
      down = s.1.1;
      equal = λ k w f. i.equal k w ((s.0.same k w).0 f) ∙ fits-target k w new c.links.root f ∙ ap w (sym to);
      within = omega (arith, to, le, within);
    }
