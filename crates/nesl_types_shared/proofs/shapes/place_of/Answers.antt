use Rattle.std.proofs.Common.{rules}
use Rattle.nesl_types_shared.proofs.Placed.{placed_from_set}
use Rattle.nesl_types_shared.proofs.shapes.place_of.Goals as goal

pub returns-clause-ok : goal.returns-clause-ok
returns-clause-ok c =
    let e = c.in_ok-insert_full.ensures in
    let place = c.in_ok-insert_full.field-0.0 in
    let added = c.in_ok-insert_full.field-0.1 in
    placed_from_set _ (λ x y h. search rules) (λ x. search rules) c.args.index.now.keys c.insert_full.new.self.keys c.args.shape e.stored.0 place added e.unique e.within e.stored.1 e.stored.2 e.added e.keys
