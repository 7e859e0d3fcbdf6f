use Rattle.std.proofs.Common.{[], ◌∷◌, ◌++◌, ap, ◌∙◌, length, arith}
use Rattle.nesl_types.specs.Order.{place_of}
use Rattle.nesl_types.proofs.InOrder.{added}
use Rattle.nesl_types.proofs.order.NameOrder.add.Goals as goal

pub invariant_of-self-2 : goal.invariant_of-self-2
invariant_of-self-2 c =
    added c.self.inside.places.entries c.insert.new.self.entries c.self.inside.names.items c.push_reserved.new.self.items
    c.in_ok-key.key c.in_ok-copy.copy c.len-place.result c.args.name.now
    c.in_ok-insert.ensures.entries
    (c.push_reserved.ensures.items ∙ ap (λ l. l ++ c.in_ok-copy.copy ∷ []) c.reserve.ensures.items) (omega (arith, c.reserve.new.self.ok.0, c.len-place.ensures, ap length c.reserve.ensures.items))
    c.in_ok-key.ensures.items c.in_ok-copy.ensures.items
    (ap (λ ns. place_of ns c.args.name.now) c.self.view_is ∙ c.requires) c.self.invariant
