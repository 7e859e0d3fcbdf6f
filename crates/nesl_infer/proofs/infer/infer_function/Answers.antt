use Rattle.std.proofs.Common.{◌∙◌, Some, arith, rules, sym}
use Rattle.std.specs.Prelude.{option_map}
use Rattle.nesl_types.specs.Class.{class_at}
use Rattle.nesl_builtins.specs.FunctionTypes.{function_type}
use Rattle.nesl_infer_names.specs.Names.{names_in}
use Rattle.nesl_syntax_tree.specs.Views.{pattern_tree, signature_tree, tree_of}
use Rattle.nesl_infer.specs.Uses.{uses_of_function, unknown}
use Rattle.nesl_infer.proofs.AllKnown.{known_in_function}
use Rattle.nesl_infer.proofs.Known.{none_first}
use Rattle.nesl_infer.proofs.infer.infer_function.Goals as goal

pub returns-in-None : goal.returns-in-None
returns-in-None g c = (
  none_first (unknown (names_in c.args.context.now (Some c.args.name.now)) (uses_of_function (pattern_tree c.args.pattern.now) (tree_of c.args.body.now))) (sym c.in-None.is ∙ c.in_ok-span-in-Err-NoSolution.ensures),
  c.in-Err-NoSolution.ensures.ill_typed (first_of (cc, search rules, grind arith)),
)

pub returns-in-Ok : goal.returns-in-Ok
returns-in-Ok g c =
    let f = function_type c.in-Ok.scheme in (
      known_in_function c.args.context.now c.args.name.now (pattern_tree c.args.pattern.now) (option_map signature_tree c.args.signature.now) (tree_of c.args.body.now) (class_at f.classes) f.argument f.result c.in-Ok.ensures.principal.fits,
      c.in-Ok.ensures.principal,
      c.in-Ok.scheme.numbered,
    )
