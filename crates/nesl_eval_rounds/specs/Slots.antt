-- What the slots of local names hold.
use Rattle.std.specs.Prelude.{List, map}
use Rattle.nesl_values.specs.View.{tree_of}
use Rattle.nesl_values.specs.declared.value.Value as code
use Rattle.nesl_eval_code.specs.Frames.{frame}
use Rattle.nesl_eval_code.specs.Exec.{Places}

-- the values of local names, end to end
abbrev pub places_of : {A : Type 0} → List (code.Value A) → Places
places_of vs = frame (map tree_of vs)

-- nothing is asked of what is found
abbrev pub Anything : {R X : Type 0} → R → X → Type 0
Anything r x = Unit {0}
