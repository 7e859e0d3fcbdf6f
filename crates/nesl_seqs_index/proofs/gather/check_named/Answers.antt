use Rattle.std.proofs.Common.{◌≡◌, ◌∙◌, true, false, refl, length, is_some, rules}
use Rattle.std.specs.List.{list_all}
use Rattle.nesl_scalars.specs.declared.trap.Trap.TheVariants.{Range}
use Rattle.nesl_values.specs.Tree.{sequence}
use Rattle.nesl_values.specs.View.{item_trees}
use Rattle.nesl_seqs_base.specs.Outcome.{gives}
use Rattle.nesl_seqs_base.specs.Places.{elements_at, place_of}
use Rattle.nesl_seqs_index.proofs.Picking.{given_all, refused, list_all_map}
use Rattle.nesl_seqs_index.proofs.Planned.{refusal}
use Rattle.nesl_seqs_index.proofs.gather.check_named.Goals as goal

pub returns-then-not-all_name : goal.returns-then-not-all_name
returns-then-not-all_name g c =
    let ts = item_trees c.args.items in
    let is = c.args.indices.now in
    let none : list_all (λ i. is_some (place_of (length ts) (g.I.Item.tree i))) is ≡ false = search rules in
    refusal _ _ Range (refused (length ts) g.I.Item.tree is (λ ks. gives (sequence (elements_at ts ks))) none)

pub returns : goal.returns
returns g c =
    let ts = item_trees c.args.items in
    let is = c.args.indices.now in
    let all : list_all (λ i. is_some (place_of (length ts) (g.I.Item.tree i))) is ≡ true = search rules in
    rw (given_all (length ts) g.I.Item.tree is (λ ks. gives (sequence (elements_at ts ks))) all) (refl, list_all_map (λ t. is_some (place_of (length ts) t)) g.I.Item.tree is ∙ all)
