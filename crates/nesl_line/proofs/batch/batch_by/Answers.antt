use Rattle.std.proofs.Common.{ℕ, List, [], false, refl, subst, sym}
use Rattle.nesl_house.specs.Runs.{Account}
use Rattle.nesl_line.specs.Conversation.{HouseConversation}
use Rattle.nesl_line.specs.Steps.{NamesFit}
use Rattle.nesl_line.proofs.Exchanges.{heard_as, no_memory_exchange}
use Rattle.nesl_line.proofs.Turns.{talked_none}
use Rattle.nesl_line.proofs.batch.batch_by.Goals as goal

pub returns-in_default-clause-batch : goal.returns-in_default-clause-batch
returns-in_default-clause-batch g c = no_memory_exchange _ _ (λ lines texts. HouseConversation c.args.house.now lines texts c.args.house.now) false (talked_none c.args.house.now [] c.users.ensures.replayed refl).0

pub exchange-requires-clause-ready : goal.exchange-requires-clause-ready
exchange-requires-clause-ready g c =
    let P : List Account → Type 0 = NamesFit c.longest_name-room.result in
    let Q : ℕ → Type 0 = λ n. NamesFit n c.args.house.now in
    subst Q (sym c.in-Ok.ensures.room) (subst P c.users.ensures.users c.longest_name-room.ensures)

pub exchange-requires-clause-nothing_heard : goal.exchange-requires-clause-nothing_heard
exchange-requires-clause-nothing_heard g c = talked_none c.args.house.now _ c.users.ensures.replayed c.in-Ok.ensures.nobody

pub returns-clause-batch : goal.returns-clause-batch
returns-clause-batch g c = let x = c.exchange.ensures.exchange in heard_as _ _ _ _ _ _ x x.heard.0
