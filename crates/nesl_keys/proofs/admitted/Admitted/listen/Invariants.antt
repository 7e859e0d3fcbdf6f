use Rattle.std.proofs.Common.{option_map}
use Rattle.std.specs.Io.KnownBytes.{Keeps}
use Rattle.nesl_keys.specs.Reading.{heard_from, stream_of}
use Rattle.nesl_keys.proofs.admitted.Admitted.listen.Given as goal

abbrev pub invariant-loop : goal.invariant-loop
invariant-loop g l =
    Keeps (option_map (heard_from l.initial.self) (g.T.Read.remaining (stream_of l.initial.self)))
    (option_map (heard_from l.self) (g.T.Read.remaining (stream_of l.self)))
