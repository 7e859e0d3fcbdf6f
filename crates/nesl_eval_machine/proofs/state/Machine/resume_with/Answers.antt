use Rattle.std.proofs.Common.{◌≡◌, ap, ◌∙◌, List, [], ◌∷◌, ◌++◌, ◌⊎◌, inl, inr}
use Rattle.nesl_lex.specs.declared.token.Span.{Span}
use Rattle.nesl_eval_meaning.specs.Names.{Value}
use Rattle.nesl_eval_meaning.specs.Out.{value, after_cost}
use Rattle.nesl_eval_code.specs.Run.{Table}
use Rattle.nesl_eval_code.specs.Block.{Block}
use Rattle.nesl_eval_code.specs.Exec.{Places, exec}
use Rattle.nesl_eval_ops.specs.View.{block_of}
use Rattle.nesl_eval_machine.specs.declared.state.Purpose.{Purpose}
use Rattle.nesl_eval_machine.specs.declared.state.Purpose.TheVariants.{Push, Return}
use Rattle.nesl_eval_machine.specs.State.{resumed_as}
use Rattle.nesl_eval_machine.proofs.Hands.{resumed_with, steps_move}
use Rattle.nesl_eval_machine.proofs.state.Machine.resume_with.Goals as goal

-- a frame of no turn
plain : {A : Type 0} (t : Table) (n : _) (b : Block) (k : Purpose A) → (k ≡ Push) ⊎ ((s : Span) × (k ≡ Return s)) → (env : Places) (st : List Value) (v : Value) (w d : _) →
    resumed_as t n b k env st (value v w d) ≡ after_cost w d (exec t n env b (v ∷ st))
plain t n b k (inl e) env st v w d = ap (λ x. resumed_as t n b x env st (value v w d)) e
plain t n b k (inr e) env st v w d = ap (λ x. resumed_as t n b x env st (value v w d)) e.1

pub returns-in-Push : goal.returns-in-Push
returns-in-Push g c = λ before is fits.
    let t = g.T.Tops.table c.args.tops.now in
    resumed_with t c.args.self.now c.args.frame before c.cut.new.values c.args.value is fits c.cut.ensures
    (plain t c.args.frame.levels (block_of c.args.frame.next.now) c.args.frame.purpose c.in-Push.is)

pub returns-in-Turn : goal.returns-in-Turn
returns-in-Turn g c = λ before is fits.
    let t = g.T.Tops.table c.args.tops.now in
    let m = record c.args.self.now { frames = before } in
    let f = c.args.frame in
    let turn : before.items ≡ _ = is ∙ ap (λ (k : Purpose g.row.A.Denot). c.args.self.now.frames.items ++ (record f { purpose = k }) ∷ []) c.in-Turn.is in
    steps_move t m c.end_turn.new.self c.end_turn.result c.empty_handed.result _ c.empty_handed.ensures (c.end_turn.ensures before f.height turn fits)
