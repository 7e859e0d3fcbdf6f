use Rattle.std.proofs.Common.{refl, subst, ap, ◌≡◌, []}
use Rattle.nesl_eval_nodes.specs.Measures.{Measure}
use Rattle.nesl_eval_code.specs.Run.{run}
use Rattle.nesl_eval_nodes.specs.Meets.{Meets, Is}
use Rattle.nesl_eval_machine.specs.declared.state.Machine.{Machine}
use Rattle.nesl_eval_machine.specs.State.{left}
use Rattle.nesl_eval_machine.proofs.Whole.{meets_end, at_first, fits_first}
use Rattle.nesl_eval_machine.proofs.run.evaluate_ops.Goals as goal

pub returns : goal.returns
returns g c = λ code bodies is.
    let t = g.T.Tops.table c.args.tops.now in
    let m : Machine g.row.A.Denot = record { bodies = c.args.bodies; code = c.args.ops; slots = c.new.result; stack = c.new-2.result; frames = c.new-3.result; base = 0; levels = c.args.levels; meter = c.new-4.result; alloc = c.args.alloc } in
    let n = c.run-found.new.self in
    let r = c.run-found.result in
    let is_run : left t m ≡ run c.args.levels t [] code = at_first t m code c.new-3.ensures.items c.new-2.ensures.items c.new.ensures.items refl (ap (λ (x : Measure). x.depth) c.new-4.ensures) is in
    subst (λ (x : Measure). Meets (Is {A = g.row.A.Denot}) x r n.meter (run c.args.levels t [] code)) c.new-4.ensures (subst (λ o. Meets (Is {A = g.row.A.Denot}) m.meter r n.meter o) is_run
    (meets_end m n r (left t m) (ap (λ (x : Measure). x.depth) c.new-4.ensures) (c.run-found.ensures (fits_first t m bodies c.new-3.ensures.items refl))))
