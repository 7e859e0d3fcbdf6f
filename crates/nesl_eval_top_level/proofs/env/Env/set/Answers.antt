use Rattle.std.proofs.Common.{◌∙◌, ap, sym, List, Result, Ok, Err, OnOk}
use Rattle.nesl_types.specs.Names.{with_name, with_name_at}
use Rattle.nesl_types.specs.Order.{place_of}
use Rattle.nesl_eval_top_level.specs.Stored.{Entry, names_in}
use Rattle.nesl_eval_top_level.proofs.Storing.{set_at}
use Rattle.nesl_eval_top_level.proofs.env.Env.set.Goals as goal

-- what is there where a call ends well
if_done : {X E : Type 0} {P Q : Type 0} (r : Result X E) → OnOk r P → (P → Q) → OnOk r Q
if_done (Ok x) h k = k h
if_done (Err e) h k = h

pub returns-in-Some-clause-ok : goal.returns-in-Some-clause-ok
returns-in-Some-clause-ok c =
    let bs = c.self.inside.context in
    let name = c.args.name.now in
    let place = sym c.in-Some.ensures.same ∙ c.place_of-place.ensures ∙ ap (λ ns. place_of ns name) c.names.ensures in
    if_done c.set_at.result c.set_at.ensures.ok (λ e. e
    ∙ ap (with_name_at c.in-Some.there c.args.top c.args.payload) (sym c.self.view_is)
    ∙ set_at name c.args.top c.args.payload c.in-Some.there bs place
    ∙ ap (with_name name c.args.top c.args.payload) c.self.view_is)

pub set_prepared-requires : goal.set_prepared-requires
set_prepared-requires c =
    c.place_of-place.ensures ∙ ap (λ ns. place_of ns c.args.name.now) c.names.ensures
    ∙ ap (λ (y : List Entry). place_of (names_in y) c.args.name.now) c.self.view_is
