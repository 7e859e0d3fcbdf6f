-- Types whose parts are variables.
use Rattle.nesl_types_shared.specs.Term.{Term, int, bool, char, variable, seq_of, pair_of, named}
use Rattle.nesl_unify.specs.declared.flat.Flat.{Flat}
use Rattle.nesl_unify.specs.declared.flat.Flat.TheVariants.{Int, Bool, Char, Var, Named, SeqOf, Both}

abbrev pub flat_type : Flat → Term
flat_type Int = int
flat_type Bool = bool
flat_type Char = char
flat_type (Var v) = variable v
flat_type (Named n) = named n
flat_type (SeqOf v) = seq_of (variable v)
flat_type (Both v w) = pair_of (variable v) (variable w)
