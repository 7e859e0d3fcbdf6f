use Rattle.std.proofs.Common.{◌++◌, ◌∷◌, [], ◌-◌, List, length, subst, sym, ap, ◌∙◌}
use Rattle.nesl_types_shared.specs.Term.{seq_of}
use Rattle.nesl_types_shared.specs.declared.shape.Shape.{Shape}
use Rattle.nesl_types_shared.specs.declared.shape.Shape.TheVariants.{SeqOf}
use Rattle.nesl_types_shared.specs.Types.{types}
use Rattle.nesl_types_shared.specs.Lists.{AreParts, last_type}
use Rattle.nesl_types_shared.proofs.Pushed.{seq_parts}
use Rattle.nesl_types_shared.proofs.lists.list_of_seq.Goals as goal

pub returns : goal.returns
returns c =
    let ns = c.args.item.now in
    let t = last_type (types ns) in
    subst (λ (ss : List Shape). AreParts ss (seq_of t)) (sym (c.in_ok-push.ensures.items ∙ ap (λ ss. ss ++ SeqOf (length ns - 1) ∷ []) (c.in_ok-extend_from_slice.ensures.items ∙ ap (λ ss. ss ++ ns) c.in_ok-shapes.ensures.items))) (seq_parts ns t c.requires)
