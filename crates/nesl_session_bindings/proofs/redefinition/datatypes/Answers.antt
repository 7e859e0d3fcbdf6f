use Rattle.std.proofs.Common.{arith}
use Rattle.nesl_session_bindings.proofs.Walks.{count_there, count_passed}
use Rattle.nesl_session_bindings.proofs.redefinition.datatypes.Goals as goal
use Rattle.nesl_session_bindings.proofs.redefinition.datatypes.Goals.{then-is_datatype_at, else-is_datatype_at}

pub loop-place-preserved : goal.loop-place-preserved
loop-place-preserved c =
    elim c.if-is_datatype_at.branch [
      | then-is_datatype_at w ↦
          let there = count_there c.args.env.now c.loop-place.place c.is_datatype_at.result c.is_datatype_at.ensures w.if-is_datatype_at.true in
          (omega (arith, w.count-is, c.loop-place.invariant.0), omega (arith, there, w.count-is, c.loop-place.invariant.1))
      | else-is_datatype_at w ↦
          let passed = count_passed c.args.env.now c.loop-place.place c.is_datatype_at.result c.is_datatype_at.ensures w.if-is_datatype_at.false in
          (omega (arith, w.count-is, c.loop-place.invariant.0), omega (arith, passed, w.count-is, c.loop-place.invariant.1))
    ]
