use Rattle.std.proofs.Common.{◌++◌, ◌∷◌, [], List, true, ap, ◌∙◌}
use Rattle.nesl_types.specs.declared.texts.Piece.{Piece}
use Rattle.nesl_types.specs.declared.texts.Piece.TheVariants.{TypeAt}
use Rattle.nesl_types.proofs.Begun.{seq_begun}
use Rattle.nesl_types.proofs.texts.write_seq.Goals as goal

pub returns : goal.returns
returns c =
    let add : Piece → List Piece → List Piece = λ p ps. ps ++ p ∷ [] in
    let e = c.in_ok-push-3.ensures.items ∙ ap (add (TypeAt c.args.item true)) c.in_ok-push-2.ensures.items in
    λ names brackets. seq_begun names brackets c.args.item c.args.out.now.items c.push.new.self.items c.args.stack.now.items c.push-3.new.self.items c.in_ok-push.ensures.items e
