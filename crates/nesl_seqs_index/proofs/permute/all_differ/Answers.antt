use Rattle.std.proofs.Common.{◌≡◌, [], map, false, rules, arith}
use Rattle.nesl_seqs_index.specs.Marks.{are_new}
use Rattle.nesl_seqs_base.specs.Places.{places_of}
use Rattle.nesl_seqs_index.proofs.Differing.{not_new, all_windows}
use Rattle.nesl_seqs_index.proofs.permute.all_differ.Goals as goal

pub returns-then-not-differ_in : goal.returns-then-not-differ_in
returns-then-not-differ_in g c =
    let ks = places_of c.args.len (map g.I.Item.tree c.args.indices.now) in
    let stops : are_new c.loop-window.window [] ks ≡ false = search rules in
    not_new c.loop-window.window ks stops

pub returns : goal.returns
returns g c =
    all_windows c.args.len (map g.I.Item.tree c.args.indices.now) (λ w h. c.loop-window.invariant w (omega (arith, h)))
