use Rattle.std.proofs.Common.{◌∙◌, List, [], None, ap, sym, subst, rules}
use Rattle.nesl_types_shared.specs.Term.{Term}
use Rattle.nesl_types_shared.specs.Substitution.{substitute}
use Rattle.nesl_syntax_tree.specs.Views.{tree_of}
use Rattle.nesl_unify.specs.Solves.{type_of, class_of}
use Rattle.nesl_infer_rules.specs.declared.state.Local.{Local}
use Rattle.nesl_infer_rules.specs.World.{TypedNames, meanings_in}
use Rattle.nesl_infer_rules.specs.declared.state.State.{State}
use Rattle.nesl_infer_rules.specs.Typing.{HasType}
use Rattle.nesl_infer_rules.specs.Principal.{bounded}
use Rattle.nesl_infer_rules.specs.Steps.{Adds, scope_at}
use Rattle.nesl_infer.proofs.Wholes.{IsEmpty, solution_of_typing}
use Rattle.nesl_infer.proofs.infer.principal_type.Goals as goal

pub returns-in_err-solution-clause-ill_typed : goal.returns-in_err-solution-clause-ill_typed
returns-in_err-solution-clause-ill_typed g c = λ f of t h.
    let names : TypedNames = meanings_in c.args.context.now None in
    let e = tree_of c.args.exp.now in
    let root = c.in_ok-root.root in
    let first : State = c.new-state.result in
    let empty : IsEmpty first = c.new-state.ensures in
    let adds : Adds c.add_any.new.self c.constrain_whole.new.state (λ s of. HasType (bounded names of) [] e (s root)) =
    subst (λ (ls : List Local). Adds c.add_any.new.self c.constrain_whole.new.state (λ s of. HasType (bounded names of) (scope_at s ls) e (s root))) c.new-locals.ensures c.in_ok-constrain_whole.ensures.adds in
    let z = solution_of_typing {A = first} names e root empty c.in_ok-root.ensures.below c.in_ok-root.ensures.gives adds of t h in
    c.in_err-solution.ensures.none (search rules) z.0 of z.2 z.1

pub returns-clause-principal : goal.returns-clause-principal
returns-clause-principal g c =
    let names : TypedNames = meanings_in c.args.context.now None in
    let e = tree_of c.args.exp.now in
    let root = c.in_ok-root.root in
    let first : State = c.new-state.result in
    let empty : IsEmpty first = c.new-state.ensures in
    let adds : Adds c.add_any.new.self c.constrain_whole.new.state (λ s of. HasType (bounded names of) [] e (s root)) =
    subst (λ (ls : List Local). Adds c.add_any.new.self c.constrain_whole.new.state (λ s of. HasType (bounded names of) (scope_at s ls) e (s root))) c.new-locals.ensures c.in_ok-constrain_whole.ensures.adds in
    let a = c.in_ok-solution.solution in
    let q = c.in_ok-solution.ensures in
    record {
      fits = subst (λ (t : Term). HasType (bounded names (class_of a)) [] e t) (sym c.in_ok-ty.ensures) (adds.sound (type_of a) (class_of a) q.bounded q.solves).1;
      most_general = λ of u k.
          let z = solution_of_typing {A = first} names e root empty c.in_ok-root.ensures.below c.in_ok-root.ensures.gives adds of u k in
          let i = q.general z.0 of z.1 in
          record {
            put = i.put;
            same = sym z.3 ∙ i.same root ∙ ap (substitute i.put) (sym c.in_ok-ty.ensures);
            within = i.within;
          };
    }
