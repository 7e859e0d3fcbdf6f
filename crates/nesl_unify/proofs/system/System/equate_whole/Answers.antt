use Rattle.std.proofs.Common.{length}
use Rattle.nesl_unify.specs.declared.fact.Fact.{Fact}
use Rattle.nesl_unify.proofs.Facts.{instance_facts, instance_true}
use Rattle.nesl_unify.proofs.system.System.equate_whole.Goals as goal

pub returns-clause-system : goal.returns-clause-system
returns-clause-system c =
    let a = c.args.self.now in
    let f : Fact = record { variable = c.args.variable; node = c.in_ok-node.node } in
    record {
      facts = instance_facts a.instances c.own_node.new.instances (length a.members.items) a.facts.items c.push_with_room.new.items.items f c.args.fresh.now c.args.ty.now c.requires.system.facts c.requires.variable c.requires.fresh
          c.in_ok-node.ensures c.in_ok-push_with_room.ensures;
      members = c.requires.system.members;
    }

pub returns-clause-holds : goal.returns-clause-holds
returns-clause-holds c = λ s.
    let a = c.args.self.now in
    let f : Fact = record { variable = c.args.variable; node = c.in_ok-node.node } in
    instance_true a.instances c.own_node.new.instances (length a.members.items) a.facts.items c.push_with_room.new.items.items f c.args.fresh.now c.args.ty.now s c.requires.system.facts
    c.in_ok-node.ensures c.in_ok-push_with_room.ensures
