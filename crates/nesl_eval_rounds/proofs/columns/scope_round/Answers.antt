use Rattle.std.proofs.Common.{◌≡◌, ◌∷◌, refl, sym, ap, ◌∙◌, arith, length, map}
use Rattle.std.proofs.lemmas.List.{length-map}
use Rattle.nesl_values.specs.View.{tree_of}
use Rattle.nesl_eval_code.specs.Flat.{room}
use Rattle.nesl_eval_nodes.proofs.Cuts.{laid_cut, sizes_cut}
use Rattle.nesl_eval_rounds.proofs.columns.scope_round.Goals as goal

pub returns : goal.returns
returns g c =
    let names = c.args.names.now in
    let outer = c.in_ok-row.outer.now in
    let long : length (map tree_of names) ≡ room outer = length-map names tree_of ∙ c.if-not-hold.ensures refl in
    let row : c.in_ok-row.row.now ≡ length c.args.sources.now = omega (arith, c.if-row-sources.false) in (
      laid_cut outer (map tree_of names) long,
      c.in_ok-row.ensures.cases.0 ∙ ap (λ k. k ∷ outer) row ∙ ap (λ ks. length c.args.sources.now ∷ ks) (sym (sizes_cut outer (map tree_of names) long)),
    )
