use Rattle.std.proofs.Common.{◌≡◌, [], None, arith, refl, rules, sym, subst, ◌∙◌}
use Rattle.std.proofs.lemmas.Grind.{common_steps}
use Rattle.nesl_types.specs.Class.{class_at}
use Rattle.nesl_types.specs.declared.classes.Class.TheVariants.{Any}
use Rattle.nesl_types_shared.specs.Numbering.{IsBelow, variables}
use Rattle.nesl_types_shared.specs.Term.{Term, int}
use Rattle.nesl_syntax_tree.specs.Views.{tree_of}
use Rattle.nesl_infer_names.specs.Names.{names_in}
use Rattle.nesl_infer_rules.specs.Principal.{IsPrincipalType, Typed}
use Rattle.nesl_infer.specs.Uses.{unknown, uses}
use Rattle.nesl_infer.proofs.Integers.{only_principal}
use Rattle.nesl_infer.proofs.AllKnown.{known_in_typed}
use Rattle.nesl_infer.proofs.Closed.{no_variables, none_below}
use Rattle.nesl_infer.proofs.Known.{none_first}
use Rattle.nesl_infer.proofs.infer.infer_exp.Goals as goal

pub returns-then-is_integer : goal.returns-then-is_integer
returns-then-is_integer g c =
    let context = c.args.context.now in
    let e = tree_of c.args.exp.now in (
      known_in_typed context e (λ v. Any) int ((c.is_integer.ensures c.if-is_integer.true).fits (λ v. Any)),
      subst (λ (t : Term). IsPrincipalType (Typed context e) t) (sym c.in_ok-int.ensures) (only_principal context e int (λ put. refl) (c.is_integer.ensures c.if-is_integer.true)),
      subst (λ (t : Term). variables t ≡ []) (sym c.in_ok-int.ensures) refl,
    )

pub returns-then-is_below : goal.returns-then-is_below
returns-then-is_below g c =
    let p = c.in-Ok.field-0 in
    let of = class_at p.classes.items in
    let below : IsBelow 0 p.ty = first_of (search rules, grind (arith, common_steps)) in (
      known_in_typed c.args.context.now (tree_of c.args.exp.now) of p.ty c.in-Ok.ensures.principal.fits,
      (of, c.in-Ok.ensures.principal),
      no_variables p.ty below,
    )

pub returns-in-Ok : goal.returns-in-Ok
returns-in-Ok g c =
    let p = c.in-Ok.field-0 in
    let of = class_at p.classes.items in
    let above : IsBelow 0 p.ty → ⊥ = first_of (search rules, grind (arith, common_steps)) in (
      known_in_typed c.args.context.now (tree_of c.args.exp.now) of p.ty c.in-Ok.ensures.principal.fits,
      (p.ty, (of, c.in-Ok.ensures.principal), λ q. above (none_below p.ty q)),
    )

pub returns-in-Err-NoSolution : goal.returns-in-Err-NoSolution
returns-in-Err-NoSolution g c = (
  none_first (unknown (names_in c.args.context.now None) (uses [] (tree_of c.args.exp.now))) (sym c.in-None.is ∙ c.in_ok-span-in-Err-NoSolution.ensures),
  c.in-Err-NoSolution.ensures.ill_typed (first_of (cc, search rules, grind arith)),
)
