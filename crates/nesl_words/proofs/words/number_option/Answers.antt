use Rattle.std.specs.Str.Parse.{ParsesUnsigned, ExplainsUnsignedError, HasUnsignedDigitsIfOk}
use Rattle.clap.specs.Matches.{found_of, one_text}
use Rattle.clap.specs.Walk.{one_of, rows_of}
use Rattle.clap.proofs.WalkLemmas.{one_text-rows}
use Rattle.nesl_words.proofs.Numbers.{number_read}
use Rattle.nesl_words.proofs.words.number_option.Goals as goal

pub returns : goal.returns
returns c =
    let found = found_of c.args.matches.now in
    let name = c.args.name.now in
    number_read _ (λ t r. ParsesUnsigned 64 10 t r × ExplainsUnsignedError 10 t r × HasUnsignedDigitsIfOk t r) (one_text found name) (one_of name (rows_of found)) c.get_one.result (one_text-rows found name) c.get_one.ensures.none
    c.get_one.ensures.value (λ t r p. p.0)
