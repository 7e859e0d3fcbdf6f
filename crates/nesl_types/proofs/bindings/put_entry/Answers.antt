use Rattle.std.proofs.Common.{[], ◌∷◌, ◌++◌, ap, ◌∙◌}
use Rattle.std.proofs.lemmas.List.{map-append}
use Rattle.nesl_types.specs.Names.{named}
use Rattle.nesl_types.proofs.Bound.{rows, same_length, set_there, set_last}
use Rattle.nesl_types.proofs.bindings.put_entry.Goals as goal

pub returns-in-Some-clause-set : goal.returns-in-Some-clause-set
returns-in-Some-clause-set g c =
    let ns = c.args.names.now in
    let es = c.args.entries.now.items in
    c.set_entry.ensures.set ns
    ∙ set_there c.args.name.now c.args.entry.top c.args.entry.payload ns (rows (λ e. e.top) (λ e. e.payload) es) c.in-Some.place (same_length (λ e. e.top) (λ e. e.payload) ns es c.requires.len) c.in-Some.ensures

pub returns-in_ok-add-in-None-clause-set : goal.returns-in_ok-add-in-None-clause-set
returns-in_ok-add-in-None-clause-set g c =
    let ns = c.args.names.now in
    let es = c.args.entries.now.items in
    let entry = c.args.entry in
    ap (λ ms. named ms (rows (λ e. e.top) (λ e. e.payload) c.push_reserved.new.self.items)) c.in_ok-add-in-None.ensures.ok
    ∙ ap (λ rs. named (ns ++ c.args.name.now ∷ []) rs) (ap (rows (λ e. e.top) (λ e. e.payload)) c.push_reserved.ensures.items ∙ map-append (λ e. (e.top, e.payload)) es (entry ∷ []))
    ∙ set_last c.args.name.now entry.top entry.payload ns (rows (λ e. e.top) (λ e. e.payload) es) (same_length (λ e. e.top) (λ e. e.payload) ns es c.requires.len) c.in-None.ensures
