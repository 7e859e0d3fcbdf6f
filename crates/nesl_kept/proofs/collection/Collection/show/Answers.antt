use Rattle.nesl_kept.proofs.collection.Collection.show.Goals as goal

pub returns-in-Ok : goal.returns-in-Ok
returns-in-Ok g c = (c.in-Ok.ensures.back.0, c.in-Ok.back.session, c.in-Ok.ensures.back.1, c.in-Ok.ensures.back.2)
