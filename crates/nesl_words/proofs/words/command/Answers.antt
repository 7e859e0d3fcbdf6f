use Rattle.nesl_words.specs.Rules.{without_subcommands, batch, serve, repl, keys, control, keep, grade}
use Rattle.nesl_words.proofs.words.command.Goals as goal

pub returns : goal.returns
returns c =
    let with_batch = c.with_subcommand-with_batch.ensures without_subcommands batch c.without_subcommands.ensures c.batch.ensures in
    let with_serve = c.with_subcommand-with_serve.ensures _ serve with_batch c.serve.ensures in
    let with_repl = c.with_subcommand-with_repl.ensures _ repl with_serve c.repl.ensures in
    let with_keys = c.with_subcommand-with_keys.ensures _ keys with_repl c.keys.ensures in
    let with_control = c.with_subcommand-with_control.ensures _ control with_keys c.control.ensures in
    let with_keep = c.with_subcommand-with_keep.ensures _ keep with_control c.keep_listed.ensures in
    c.with_subcommand.ensures _ grade with_keep c.grade.ensures
