-- The number of elements of all names but this one.
use Rattle.std.specs.Prelude.{ℕ, ◌+◌, List, [], ◌∷◌, if◌then◌else◌}
use Rattle.std.specs.Str.{bytes_eq}
use Rattle.nesl_eval_meaning.specs.Names.{Name}
use Rattle.nesl_session_bindings.specs.Meanings.{Binding, elements_in, elements_of}

abbrev pub other_elements : Name → List Binding → ℕ
other_elements x [] = 0
other_elements x (b ∷ bs) =
    if bytes_eq x b.name then elements_of bs else elements_in b.meaning + other_elements x bs
