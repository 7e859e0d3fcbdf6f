use Rattle.std.proofs.Common.{◌≡◌, ◌+◌, ap, arith}
use Rattle.nesl_values.specs.Tree.{size}
use Rattle.nesl_values.specs.View.{parts_tree}
use Rattle.nesl_values.proofs.Trees.{sizes-ints, sizes-bools, sizes-chars}
use Rattle.nesl_values.proofs.count.nodes_of_parts.Goals as goal

pub returns-in-Ints : goal.returns-in-Ints
returns-in-Ints g c =
    let whole : size (parts_tree c.args.parts.now) ≡ 1 + c.len.result = omega (arith, ap (λ p. size (parts_tree p)) c.in-Ints.is, sizes-ints c.in-Ints.items.items, c.in-Ints.items.ok.0, c.len.ensures) in
    (omega arith, omega arith)

pub returns-in-Bools : goal.returns-in-Bools
returns-in-Bools g c =
    let whole : size (parts_tree c.args.parts.now) ≡ 1 + c.len-in-Bools.result = omega (arith, ap (λ p. size (parts_tree p)) c.in-Bools.is, sizes-bools c.in-Bools.items.items, c.in-Bools.items.ok.0, c.len-in-Bools.ensures) in
    (omega arith, omega arith)

pub returns-in-Chars : goal.returns-in-Chars
returns-in-Chars g c =
    let whole : size (parts_tree c.args.parts.now) ≡ 1 + c.len-in-Chars.result = omega (arith, ap (λ p. size (parts_tree p)) c.in-Chars.is, sizes-chars c.in-Chars.items.items, c.in-Chars.items.ok.0, c.len-in-Chars.ensures) in
    (omega arith, omega arith)
