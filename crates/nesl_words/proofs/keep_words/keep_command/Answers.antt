use Rattle.nesl_words.specs.Rules.{keep_without_commands, check, show, renew, csv_of_kept}
use Rattle.nesl_words.proofs.keep_words.keep_command.Goals as goal

pub returns : goal.returns
returns c =
    let with_check = c.with_subcommand-with_check.ensures keep_without_commands check c.without_commands.ensures c.check.ensures in
    let with_show = c.with_subcommand-with_show.ensures _ show with_check c.show.ensures in
    let with_renew = c.with_subcommand-with_renew.ensures _ renew with_show c.renew.ensures in
    c.with_subcommand.ensures _ csv_of_kept with_renew c.csv.ensures
