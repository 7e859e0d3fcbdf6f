-- The leaves of a column.
use Rattle.std.specs.Prelude.{◌≡◌, List, map}
use Rattle.nesl_values.specs.Tree.{ValueTree, int, boolean, character}
use Rattle.nesl_scalars.specs.declared.binary.Binary.{Binary}
use Rattle.nesl_scalars.specs.Outcomes.{gives}
use Rattle.nesl_scalars.specs.declared.unary.Unary.{Unary}
use Rattle.nesl_scalars.specs.Scalars.{unary, binary}
use Rattle.nesl_eval_columns.specs.declared.column.Column.{Column}
use Rattle.nesl_eval_columns.specs.declared.column.Column.TheVariants.{Ints, Bools, Chars}
use Rattle.nesl_eval_columns.specs.Each.{EachTwo, EachThree}

abbrev pub leaves_of : {A : Type 0} → Column A → List ValueTree
leaves_of (Ints v) = map int v.items
leaves_of (Bools v) = map boolean v.items
leaves_of (Chars v) = map character v.items

-- the third column has what the function has for the first and the second, and it has something at each place
abbrev pub Makes : Binary → List ValueTree → List ValueTree → List ValueTree → Type 0
Makes f = EachThree (λ x y z. binary f x y ≡ gives z)

-- the second column has what the function has for the first, and it has something at each place
abbrev pub MapsColumn : Unary → List ValueTree → List ValueTree → Type 0
MapsColumn f = EachTwo (λ x z. unary f x ≡ gives z)
