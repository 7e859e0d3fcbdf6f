-- What a type is, and its parts.
use Rattle.nesl_types_shared.specs.Term.{Term, int, bool, char, variable, seq_of, pair_of, named}
use Rattle.nesl_types_shared.specs.declared.part.Kind.{Kind}
use Rattle.nesl_types_shared.specs.declared.part.Kind.TheVariants.{Int, Bool, Char, Var, Named, SeqOf, Both}

abbrev pub kind_type : Kind → Term
kind_type Int = int
kind_type Bool = bool
kind_type Char = char
kind_type (Var v) = variable v
kind_type (Named n) = named n
kind_type (SeqOf t) = seq_of t
kind_type (Both t u) = pair_of t u
