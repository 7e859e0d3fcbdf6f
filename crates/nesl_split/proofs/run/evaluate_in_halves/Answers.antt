use Rattle.std.proofs.Common.{Global, refl, sym, ap, ◌∙◌, subst, ◌≡◌, []}
use Rattle.nesl_eval_meaning.specs.Out.{after_cost}
use Rattle.nesl_eval_code.specs.Run.{run}
use Rattle.nesl_eval_nodes.specs.Measures.{Measure}
use Rattle.nesl_eval_nodes.specs.Meets.{Meets, Is}
use Rattle.nesl_eval_rounds.proofs.Laws.{after_none}
use Rattle.nesl_eval_machine.specs.declared.state.Machine.{Machine}
use Rattle.nesl_eval_machine.specs.State.{left}
use Rattle.nesl_eval_machine.proofs.Whole.{at_first, fits_first}
use Rattle.nesl_split.specs.Halves.{Ran}
use Rattle.nesl_split.proofs.run.evaluate_in_halves.Goals as goal

pub returns-clause-meets : goal.returns-clause-meets
returns-clause-meets g c = λ code bodies is.
    let t = g.T.Tops.table c.args.crew.now.tops.now in
    let m : Machine Global = record { bodies = c.args.bodies; code = c.args.ops; slots = c.new.result; stack = c.new-2.result; frames = c.new-3.result; base = 0; levels = c.args.levels; meter = c.new-4.result; alloc = c.args.crew.now.alloc } in
    let n = c.make_moves-found.new.machine in
    let r = c.make_moves-found.result in
    let o = run c.args.levels t [] code in
    let at_zero : m.meter.depth ≡ 0 = ap (λ (x : Measure). x.depth) c.new-4.ensures in
    let is_run : left t m ≡ o = at_first t m code c.new-3.ensures.items c.new-2.ensures.items c.new.ensures.items refl at_zero is in
    subst (λ (x : Measure). Meets (Is {A = Global}) x c.settle-settled.result c.settle-settled.new.meter o) c.new-meter.ensures
    (c.settle-settled.ensures.meets m o (c.new-4.ensures ∙ sym c.new-meter.ensures)
    (subst (Ran m r n) (is_run ∙ sym (after_none o) ∙ ap (λ d. after_cost 0 d o) (sym at_zero)) (c.make_moves-found.ensures (fits_first t m bodies c.new-3.ensures.items refl))))
