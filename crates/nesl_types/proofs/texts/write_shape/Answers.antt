use Rattle.std.proofs.Common.{subst, sym, refl}
use Rattle.std.specs.Prelude.{codes}
use Rattle.nesl_types.specs.Texts.{variable_text, name_at}
use Rattle.nesl_types_shared.specs.declared.shape.Shape.{Shape}
use Rattle.nesl_types_shared.specs.declared.shape.Shape.TheVariants.{Int, Bool, Char, Var, Named}
use Rattle.nesl_types.specs.Pieces.{IsBegun}
use Rattle.nesl_types.proofs.Begun.{leaf_begun}
use Rattle.nesl_types.proofs.texts.write_shape.Goals as goal

pub returns-in_ok-extend_from_slice-in-Int : goal.returns-in_ok-extend_from_slice-in-Int
returns-in_ok-extend_from_slice-in-Int g c =
    let names = name_at c.args.context.now in
    let out = c.args.out.now.items in
    let stack = c.args.stack.now.items in
    let next = c.extend_from_slice.new.self.items in
    subst (λ (x : Shape). IsBegun names c.args.brackets x out next stack stack) (sym c.in-Int.is)
    (leaf_begun names c.args.brackets Int (codes "int") out next stack (λ f. refl) c.in_ok-extend_from_slice-in-Int.ensures.items)

pub returns-in_ok-extend_from_slice-in-Bool : goal.returns-in_ok-extend_from_slice-in-Bool
returns-in_ok-extend_from_slice-in-Bool g c =
    let names = name_at c.args.context.now in
    let out = c.args.out.now.items in
    let stack = c.args.stack.now.items in
    let next = c.extend_from_slice-in-Bool.new.self.items in
    subst (λ (x : Shape). IsBegun names c.args.brackets x out next stack stack) (sym c.in-Bool.is)
    (leaf_begun names c.args.brackets Bool (codes "bool") out next stack (λ f. refl) c.in_ok-extend_from_slice-in-Bool.ensures.items)

pub returns-in_ok-extend_from_slice-in-Char : goal.returns-in_ok-extend_from_slice-in-Char
returns-in_ok-extend_from_slice-in-Char g c =
    let names = name_at c.args.context.now in
    let out = c.args.out.now.items in
    let stack = c.args.stack.now.items in
    let next = c.extend_from_slice-in-Char.new.self.items in
    subst (λ (x : Shape). IsBegun names c.args.brackets x out next stack stack) (sym c.in-Char.is)
    (leaf_begun names c.args.brackets Char (codes "char") out next stack (λ f. refl) c.in_ok-extend_from_slice-in-Char.ensures.items)

pub returns-in_ok-write_variable-in-Var : goal.returns-in_ok-write_variable-in-Var
returns-in_ok-write_variable-in-Var g c =
    let names = name_at c.args.context.now in
    let out = c.args.out.now.items in
    let stack = c.args.stack.now.items in
    let next = c.write_variable.new.out.items in
    subst (λ (x : Shape). IsBegun names c.args.brackets x out next stack stack) (sym c.in-Var.is)
    (leaf_begun names c.args.brackets (Var c.in-Var.variable) (variable_text c.in-Var.variable) out next stack (λ f. refl) c.in_ok-write_variable-in-Var.ensures)

pub returns-in_ok-write_name-in-Named : goal.returns-in_ok-write_name-in-Named
returns-in_ok-write_name-in-Named g c =
    let names = name_at c.args.context.now in
    let out = c.args.out.now.items in
    let stack = c.args.stack.now.items in
    let next = c.write_name.new.out.items in
    subst (λ (x : Shape). IsBegun names c.args.brackets x out next stack stack) (sym c.in-Named.is)
    (leaf_begun names c.args.brackets (Named c.in-Named.tag) (name_at c.args.context.now c.in-Named.tag) out next stack (λ f. refl) c.in_ok-write_name-in-Named.ensures)
