use Rattle.std.proofs.Common.{List, sym, subst, rules}
use Rattle.nesl_types.specs.Class.{class_at}
use Rattle.nesl_unify_graph.specs.declared.node.Node.{Node}
use Rattle.nesl_unify.specs.Solves.{type_in, IsReading}
use Rattle.nesl_unify.proofs.Solutions.{solved_reading, solved_true, solved_general, solved_bounded, solved_within, solved_members}
use Rattle.nesl_unify.proofs.solve.solve_facts.Goals as goal

pub returns-in_err-classes-clause-none : goal.returns-in_err-classes-clause-none
returns-in_err-classes-clause-none c = λ e s of b t m.
    let i = c.args.instances in
    let n = c.args.count in
    let ns = c.in_ok-nodes.nodes.items in
    let k = c.in_ok-nodes.ensures.solved in
    let met = c.in_ok-nodes.ensures.general s t in
    let reading = subst (λ (l : List Node). IsReading i l (type_in i ns)) (sym c.as_slice.ensures.value) (solved_reading i n ns k) in
    c.in_err-classes.ensures.none (search rules) (type_in i ns) reading s of (solved_members i n ns k c.args.members.now s met.0 of met.1.0 met.1.1 c.requires.members m)

pub returns-clause-holds : goal.returns-clause-holds
returns-clause-holds c =
    solved_true c.args.instances c.args.count c.in_ok-nodes.nodes.items c.in_ok-nodes.ensures.solved c.args.facts.now c.requires.facts c.in_ok-nodes.ensures.holds

pub returns-clause-within : goal.returns-clause-within
returns-clause-within c =
    let i = c.args.instances in
    let n = c.args.count in
    let ns = c.in_ok-nodes.nodes.items in
    let k = c.in_ok-nodes.ensures.solved in
    let reading = subst (λ (l : List Node). IsReading i l (type_in i ns)) (sym c.as_slice.ensures.value) (solved_reading i n ns k) in
    solved_within i n ns k c.args.members.now (class_at c.in_ok-classes.classes.items) c.requires.members (c.in_ok-classes.ensures.within (type_in i ns) reading)

pub returns-clause-general : goal.returns-clause-general
returns-clause-general c = λ s of t m.
    let i = c.args.instances in
    let n = c.args.count in
    let ns = c.in_ok-nodes.nodes.items in
    let k = c.in_ok-nodes.ensures.solved in
    let met = c.in_ok-nodes.ensures.general s t in
    let reading = subst (λ (l : List Node). IsReading i l (type_in i ns)) (sym c.as_slice.ensures.value) (solved_reading i n ns k) in
    record {
      put = s;
      same = solved_general i n ns k s met.0 met.1.0 met.1.1;
      within = c.in_ok-classes.ensures.general (type_in i ns) reading s of (solved_members i n ns k c.args.members.now s met.0 of met.1.0 met.1.1 c.requires.members m);
    }

pub returns-clause-bounded : goal.returns-clause-bounded
returns-clause-bounded c = solved_bounded c.args.instances c.args.count c.in_ok-nodes.nodes.items c.in_ok-nodes.ensures.solved
