use Rattle.std.proofs.Common.{◌∙◌, ap, sym}
use Rattle.nesl_types.specs.Order.{place_of}
use Rattle.nesl_eval_top_level.proofs.Storing.{table_names}
use Rattle.nesl_eval_top_level.proofs.env.TopLevel.place_of.Goals as goal

pub returns : goal.returns
returns c =
    c.place_of.ensures ∙ ap (λ ns. place_of ns c.args.name.now) c.names.ensures
    ∙ ap (λ ns. place_of ns c.args.name.now) (sym (table_names c.args.self.now.context.now c.args.self.now.prepared.now))
