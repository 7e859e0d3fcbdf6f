use Rattle.std.proofs.Common.{ℕ, List, [], false, refl, subst, sym}
use Rattle.nesl_house.specs.Runs.{Account}
use Rattle.nesl_line.specs.Conversation.{HouseConversation}
use Rattle.nesl_line.specs.Exchange.{Hearing}
use Rattle.nesl_line.specs.Hinted.{WithHints, plain_front}
use Rattle.nesl_line.specs.Steps.{NamesFit, TalkedTo, chosen}
use Rattle.nesl_line.proofs.Exchanges.{heard_as, no_memory_exchange}
use Rattle.nesl_line.proofs.Hints.{hints_none, hints_as}
use Rattle.nesl_line.proofs.Turns.{talked_none}
use Rattle.nesl_line.proofs.hinted.batch_with_hints.Goals as goal

pub returns-in_default-clause-batch : goal.returns-in_default-clause-batch
returns-in_default-clause-batch g c =
    let Talked : Hearing = λ lines answers. HouseConversation c.args.house.now lines answers c.args.house.now in
    no_memory_exchange _ _ (WithHints plain_front Talked) false (hints_none plain_front Talked (talked_none c.args.house.now [] c.users.ensures.replayed refl).0)

pub exchange-requires-clause-ready : goal.exchange-requires-clause-ready
exchange-requires-clause-ready g c =
    let P : List Account → Type 0 = NamesFit c.longest_name-room.result in
    let Q : ℕ → Type 0 = λ n. NamesFit n c.args.house.now in
    subst Q (sym c.in-Ok.ensures.room) (subst P c.users.ensures.users c.longest_name-room.ensures)

pub exchange-requires-clause-nothing_heard : goal.exchange-requires-clause-nothing_heard
exchange-requires-clause-nothing_heard g c =
    let house = c.args.house.now in
    hints_none plain_front (λ lines answers. TalkedTo house lines answers (chosen c.in-Ok.chooser.who.items) house) (talked_none house _ c.users.ensures.replayed c.in-Ok.ensures.nobody)

pub returns-clause-batch : goal.returns-clause-batch
returns-clause-batch g c =
    let x = c.exchange.ensures.exchange in
    let Talked : Hearing = λ lines answers. HouseConversation c.args.house.now lines answers c.exchange.new.world in
    heard_as _ _ _ _ _ _ x (hints_as plain_front _ Talked _ _ x.heard x.heard.heard.0)
