use Rattle.std.proofs.Common.{arith, ◌∙◌, ◌++◌, ◌∷◌, [], ap, rules, w64, FitsSigned}
use Rattle.std.proofs.lemmas.Int.{to_z-of_z}
use Rattle.nesl_seqs_base.specs.Ranges.{progression}
use Rattle.nesl_seqs_build.proofs.Numbers.{number_pushed}
use Rattle.nesl_seqs_build.proofs.ranges.list_of_steps.Goals as goal

pub loop-place-preserved : goal.loop-place-preserved
loop-place-preserved g c =
    let i = c.loop-place.invariant in
    let fits : FitsSigned w64 c.number_at.result = search rules in
    record {
      made = number_pushed c.args.numbers.first c.args.numbers.step c.loop-place.place c.loop-place.made.items _ c.number_at.result i.made (c.push_reserved.ensures.items ∙ ap (λ z. c.loop-place.made.items ++ z ∷ []) (to_z-of_z w64 c.number_at.result fits)) c.number_at.ensures;
      len = omega (arith, i.len, c.push_reserved.ensures.len);
      room = omega (arith, i.room, c.push_reserved.ensures.capacity);
    }

pub returns : goal.returns
returns g c =
    c.loop-place.invariant.made ∙ ap (progression c.args.numbers.first c.args.numbers.step) (omega arith)
