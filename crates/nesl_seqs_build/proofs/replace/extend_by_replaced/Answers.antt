use Rattle.std.proofs.Common.{◌≡◌, ◌∙◌, ◌++◌, ◌∷◌, [], List, ◌+◌, take, drop, ap, sym}
use Rattle.std.proofs.lemmas.List.{append_assoc}
use Rattle.std.proofs.lemmas.Result.{IfOk-equal}
use Rattle.nesl_values.specs.Tree.{ValueTree}
use Rattle.nesl_values.specs.View.{tree_of, item_trees}
use Rattle.nesl_values_builder.specs.Elements.{elements_of}
use Rattle.nesl_seqs_base.proofs.Totals.{replaced_parts, front_range}
use Rattle.nesl_seqs_build.proofs.replace.extend_by_replaced.Goals as goal

put_after : (old front back a b : List ValueTree) (x : ValueTree) → a ≡ old ++ front → b ≡ a ++ x ∷ [] → b ++ back ≡ old ++ (front ++ x ∷ back)
put_after old front back a b x first push =
    ap (λ ts. ts ++ back) push ∙ append_assoc a (x ∷ []) back ∙ ap (λ ts. ts ++ x ∷ back) first ∙ append_assoc old front (x ∷ back)

pub returns : goal.returns
returns g c =
    let ts = item_trees c.args.items in
    let old = elements_of c.args.builder.now in
    let x = tree_of c.args.item.now in
    IfOk-equal c.extend-2.result _ _ _ c.extend-2.ensures (ap (λ us. elements_of c.push_shared.new.self ++ us) c.from_place.ensures ∙ put_after old (take c.args.place ts) (drop (c.args.place + 1) ts) _ _ x (c.in_ok-extend.ensures ∙ ap (λ us. old ++ us) (c.part.ensures ∙ front_range c.args.place ts)) c.in_ok-push_shared.ensures.ok ∙ ap (λ us. old ++ us) (sym (replaced_parts ts c.args.place x c.requires)))
