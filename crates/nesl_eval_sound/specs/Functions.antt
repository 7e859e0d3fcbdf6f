-- What the functions' types promise.
use Rattle.nesl_values.specs.Tree.{ValueTree, pair}
use Rattle.nesl_scalars.specs.Outcomes.{Outcome, undefined}
use Rattle.nesl_scalars.specs.Scalars.{unary, binary}
use Rattle.nesl_scalars.specs.declared.unary.Unary.{Unary}
use Rattle.nesl_scalars.specs.declared.binary.Binary.{Binary}
use Rattle.nesl_seqs_base.specs.Meaning.{outcome_of}
use Rattle.nesl_seqs_base.specs.declared.seq_fn.SeqFn.{SeqFn}
use Rattle.nesl_builtins.specs.FunctionTypes.{unary_type, binary_type, sequence_type}
use Rattle.nesl_eval_sound.specs.Keeps.{KeepsTypes}

-- a function of two arguments, at a pair of them
abbrev pub of_pair : (ValueTree → ValueTree → Outcome) → ValueTree → Outcome
of_pair f (pair l r) = f l r
of_pair f v = undefined

abbrev pub ScalarsKeepTypes : Type 0
ScalarsKeepTypes =
    ((f : Unary) → KeepsTypes (unary_type f) (unary f))
    × ((f : Binary) → KeepsTypes (binary_type f) (of_pair (binary f)))

abbrev pub SequencesKeepTypes : Type 0
SequencesKeepTypes = (f : SeqFn) → KeepsTypes (sequence_type f) (outcome_of f)
