use Rattle.std.proofs.Common.{length}
use Rattle.nesl_types_shared.proofs.Numbers.{numbered-below}
use Rattle.nesl_types.proofs.schemes.Scheme.variables_have_classes.Goals as goal

pub returns : goal.returns
returns c =
    let s = c.args.self.now in
    let b = numbered-below s.argument s.result (length s.classes.items) s.numbered in
    record { argument = b.0; result = b.1 }
