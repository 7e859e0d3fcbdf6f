use Rattle.std.proofs.Common.{sym, subst}
use Rattle.std.specs.Prelude.{Option, option_map}
use Rattle.nesl_infer_names.specs.Names.{datatype_in}
use Rattle.nesl_syntax_tree.specs.declared.tree.Signature.{Signature}
use Rattle.nesl_syntax_tree.specs.Views.{signature_tree}
use Rattle.nesl_infer_rules.specs.Typing.{IsSigned}
use Rattle.nesl_infer_rules.specs.Steps.{Adds}
use Rattle.nesl_infer_rules.proofs.Signatures.{nothing_said}
use Rattle.nesl_infer_rules.proofs.signature.constrain_signature.Goals as goal

pub returns-in-None : goal.returns-in-None
returns-in-None g c =
    let s1 = c.args.state.now in
    subst (λ (k : Option Signature). Adds s1 s1 (λ s of. IsSigned (datatype_in c.args.context.now) of (option_map signature_tree k) (s c.args.takes) (s c.args.gives))) (sym c.in-None.is) nothing_said

pub returns-in_ok-constrain_signed-in-Some : goal.returns-in_ok-constrain_signed-in-Some
returns-in_ok-constrain_signed-in-Some g c =
    subst (λ (k : Option Signature). Adds c.args.state.now c.constrain_signed.new.state (λ s of. IsSigned (datatype_in c.args.context.now) of (option_map signature_tree k) (s c.args.takes) (s c.args.gives))) (sym c.in-Some.is)
    c.in_ok-constrain_signed-in-Some.ensures
