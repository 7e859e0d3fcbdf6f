use Rattle.std.proofs.Common.{refl, ◌∙◌}
use Rattle.nesl_values.specs.Parts.{as_pair, as_sequence}
use Rattle.nesl_seqs_base.proofs.Shapes.{packed_unread}
use Rattle.nesl_seqs_base.proofs.item.unpacked.Goals as goal

pub returns-else-len-eq0-clause-no_sequence : goal.returns-else-len-eq0-clause-no_sequence
returns-else-len-eq0-clause-no_sequence g c _ =
    packed_unread as_sequence (λ _. refl) (λ _. refl) (λ _. refl) c.args.items c.in_default.not-Values (λ h. c.if-len-eq0.false (c.len.ensures ∙ h))

pub returns-else-len-eq0-clause-no_pair : goal.returns-else-len-eq0-clause-no_pair
returns-else-len-eq0-clause-no_pair g c _ =
    packed_unread as_pair (λ _. refl) (λ _. refl) (λ _. refl) c.args.items c.in_default.not-Values (λ h. c.if-len-eq0.false (c.len.ensures ∙ h))
