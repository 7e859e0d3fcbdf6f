use Rattle.nesl_house.proofs.Places.{said_replays, said_runs, said_stranger}
use Rattle.nesl_house.proofs.house.House.say_as.Goals as goal

pub returns-in_default : goal.returns-in_default
returns-in_default g c = said_stranger c.args.self.now c.self.inside.users.items c.as_slice.result.now c.args.user.now c.args.text.now c.no_user.result c.self.invariant c.self.view_is c.in_default.ensures c.as_slice.ensures.value c.no_user.ensures

pub invariant_of-self : goal.invariant_of-self
invariant_of-self g c =
    said_replays c.args.self.now c.self.inside.users.items c.as_slice.result.now c.args.user.now c.args.text.now c.in-Some.place c.index_mut.result.now c.say_as.new.self c.say_as.result c.self.invariant c.in-Some.ensures c.as_slice.ensures.value c.index_mut.ensures.value
    c.say_as.ensures.answers

pub returns : goal.returns
returns g c =
    said_runs c.args.self.now c.self.inside.users.items c.as_slice.result.now c.args.user.now c.args.text.now c.in-Some.place c.index_mut.result.now c.say_as.new.self c.say_as.result c.self.invariant c.self.view_is c.in-Some.ensures c.as_slice.ensures.value
    c.index_mut.ensures.value c.say_as.ensures.name c.say_as.ensures.answers
