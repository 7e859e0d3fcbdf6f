-- What the functions evaluate to, in other words.
use Rattle.std.specs.Prelude.{◌≡◌, ℕ, ◌<◌, pos, List, [], ◌∷◌, ◌++◌, length, set}
use Rattle.nesl_values.specs.Tree.{ValueTree, int, pair, sequence}
use Rattle.nesl_seqs_base.specs.Outcome.{gives}
use Rattle.nesl_seqs_base.specs.Meaning.{outcome_of}
use Rattle.nesl_seqs_base.specs.declared.seq_fn.SeqFn.TheVariants as function

-- where nothing is written, `v <- p` gives v
abbrev pub WritesNone : Type 0
WritesNone = (ts : List ValueTree) → outcome_of function.Write (pair (sequence ts) (sequence [])) ≡ gives (sequence ts)

-- with one pair more at the end, `v <- p` gives what it gave before, but for this place, where the pair's element is
abbrev pub WritesInOrder : Type 0
WritesInOrder = (ts ps us : List ValueTree) (k : ℕ) (t : ValueTree) → k < length ts
    → outcome_of function.Write (pair (sequence ts) (sequence ps)) ≡ gives (sequence us)
    → outcome_of function.Write (pair (sequence ts) (sequence (ps ++ pair (int (pos k)) t ∷ [])))
    ≡ gives (sequence (set us k t))
