use Rattle.std.proofs.Common.{take, map}
use Rattle.std.specs.Prelude.{All}
use Rattle.nesl_infer_names.specs.Names.{datatype_in}
use Rattle.nesl_syntax_tree.specs.Views.{member_tree}
use Rattle.nesl_infer_rules.specs.Signatures.{put_in}
use Rattle.nesl_infer_rules.specs.Typing.{IsInItsClass}
use Rattle.nesl_infer_rules.specs.Steps.{Adds, scope_at}
use Rattle.nesl_infer_rules.proofs.signature.constrain_members.Given as goal

abbrev pub invariant-loop-member : goal.invariant-loop-member
invariant-loop-member g l =
    Adds l.initial.state l.state (λ s of. All (IsInItsClass (datatype_in l.context) of (put_in (scope_at s l.names))) (map member_tree (take l.member-index l.members)))
