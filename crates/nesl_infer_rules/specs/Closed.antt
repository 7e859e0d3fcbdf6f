-- What is asked of the top-level names has one proof, so that a struct may keep it.
use Rattle.std.specs.Prelude.{ℕ, List}
use Rattle.std.specs.Coded.{×_prop, Unit-prop, le_prop}
use Rattle.nesl_types.specs.declared.bindings.Top.{Top}
use Rattle.nesl_types.specs.declared.bindings.Top.TheVariants as top
use Rattle.nesl_types_shared.specs.Term.{Term, int, bool, char, variable, seq_of, pair_of, named}
use Rattle.nesl_types_shared.specs.Numbering.{IsBelow}
use Rattle.nesl_infer_rules.specs.Contexts.{IsClosed, AreClosed}

pub below-prop : (n : ℕ) (t : Term) → IsProp (IsBelow n t)
below-prop n int = Unit-prop
below-prop n bool = Unit-prop
below-prop n char = Unit-prop
below-prop n (variable v) = le_prop
below-prop n (seq_of t) = below-prop n t
below-prop n (pair_of t u) = ×_prop (below-prop n t) (below-prop n u)
below-prop n (named k) = Unit-prop

pub top-prop : (t : Top) → IsProp (IsClosed t)
top-prop (top.Variable t) = below-prop 0 t
top-prop (top.Function s) = Unit-prop
top-prop (top.Datatype tag held) = below-prop 0 held

pub closed-prop : {P : Type 0} (context : List (List ℕ × Top × P)) → IsProp (AreClosed context)
closed-prop context = Prim.hlevel top-prop
