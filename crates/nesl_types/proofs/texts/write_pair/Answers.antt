use Rattle.std.proofs.Common.{◌++◌, ◌∷◌, [], List, true, false, ap, ◌∙◌}
use Rattle.nesl_types.specs.declared.texts.Piece.{Piece}
use Rattle.nesl_types.specs.declared.texts.Piece.TheVariants.{Byte, TypeAt}
use Rattle.nesl_types.proofs.Begun.{pair_begun}
use Rattle.nesl_types.proofs.texts.write_pair.Goals as goal

pub returns : goal.returns
returns c =
    let add : Piece → List Piece → List Piece = λ p ps. ps ++ p ∷ [] in
    let e =
    c.in_ok-push-4.ensures.items
    ∙ ap (add (TypeAt c.args.first true)) (c.in_ok-push-3.ensures.items
    ∙ ap (add (Byte 44)) (c.in_ok-push-2.ensures.items
    ∙ ap (add (Byte 32)) (c.in_ok-push.ensures.items ∙ ap (add (TypeAt c.args.second false)) c.in_ok-write_bracket.ensures.stack))) in
    λ names. pair_begun names c.args.brackets c.args.first c.args.second c.args.out.now.items c.write_bracket.new.out.items c.args.stack.now.items c.push-4.new.self.items c.in_ok-write_bracket.ensures.out e
