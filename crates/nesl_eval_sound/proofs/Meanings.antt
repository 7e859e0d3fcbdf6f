-- What names before `(` mean, read off what they are at the top level.
use Rattle.std.proofs.Common.{◌≡◌, Option, Some, None, refl}
use Rattle.nesl_types.specs.declared.bindings.Top.{Top}
use Rattle.nesl_types.specs.declared.bindings.Top.TheVariants as top
use Rattle.nesl_types_shared.specs.Term.{named}
use Rattle.nesl_builtins.specs.declared.builtin.Builtin.{Builtin}
use Rattle.nesl_builtins.specs.FunctionTypes.{builtin_type, function_type}
use Rattle.nesl_infer_names.specs.Names.{as_function, built_in_or}
use Rattle.nesl_infer_rules.specs.World.{OwnFunction, Callable, general, single, callable_of}

abbrev pub top_meaning : Option Top → Option Callable
top_meaning (Some (top.Variable t)) = None
top_meaning (Some (top.Function s)) = Some (general (function_type s))
top_meaning (Some (top.Datatype tag held)) = Some (single held (named tag))
top_meaning None = None

abbrev pub known_or : Option Builtin → Option Callable → Option Callable
known_or (Some b) m = Some (general (builtin_type b))
known_or None m = m

pub meaning_is : (own : OwnFunction) (b : Option Builtin) (o : Option Top) → callable_of own (built_in_or b (as_function o)) ≡ known_or b (top_meaning o)
meaning_is own (Some b) o = refl
meaning_is own None (Some (top.Variable t)) = refl
meaning_is own None (Some (top.Function s)) = refl
meaning_is own None (Some (top.Datatype tag held)) = refl
meaning_is own None None = refl
