use Rattle.std.proofs.Common.{◌≡◌, sym, ap, ◌∙◌, subst, arith}
use Rattle.nesl_unify_graph.specs.Graph.{IsRoot}
use Rattle.nesl_unify_graph.specs.Steps.{expandable}
use Rattle.nesl_unify_graph.proofs.Joins.{agree_same, below_nothing, agree_seq, below_seq, agree_both, below_both, agree_first_free, agree_second_free, differ_int, differ_bool, differ_char, differ_named, differ_seq, differ_both}
use Rattle.nesl_unify_graph.proofs.unify.compare.Goals as goal

pub returns-in-Free-default : goal.returns-in-Free-default
returns-in-Free-default c = λ i. (agree_first_free i c.args.first c.args.second c.in-Free-default.is-0, below_nothing i c.args.first c.args.second)

pub returns-then-part-piece : goal.returns-then-part-piece
returns-then-part-piece c =
    let e : c.args.first ≡ c.args.second = cc in
    λ i. (agree_same i c.args.first c.args.second e, below_nothing i c.args.first c.args.second)

pub returns-else-instance-other : goal.returns-else-instance-other
returns-else-instance-other c = let e : expandable c.args.first ≡ 1 = ap expandable c.in-Part-Part.is-0 in omega (arith, e)

pub returns-in-Part-default : goal.returns-in-Part-default
returns-in-Part-default c = let e : expandable c.args.first ≡ 1 = ap expandable c.in-Part-default.is-0 in omega (arith, e)

pub returns-in-Int-Int : goal.returns-in-Int-Int
returns-in-Int-Int c =
    λ i. (agree_same i c.args.first c.args.second (c.in-Int-Int.is-0 ∙ sym c.in-Int-Int.is-1), below_nothing i c.args.first c.args.second)

pub returns-in-Bool-Bool : goal.returns-in-Bool-Bool
returns-in-Bool-Bool c =
    λ i. (agree_same i c.args.first c.args.second (c.in-Bool-Bool.is-0 ∙ sym c.in-Bool-Bool.is-1), below_nothing i c.args.first c.args.second)

pub returns-in-Char-Char : goal.returns-in-Char-Char
returns-in-Char-Char c =
    λ i. (agree_same i c.args.first c.args.second (c.in-Char-Char.is-0 ∙ sym c.in-Char-Char.is-1), below_nothing i c.args.first c.args.second)

pub returns-then-tag-other : goal.returns-then-tag-other
returns-then-tag-other c =
    let e : c.args.first ≡ c.args.second = cc in
    λ i. (agree_same i c.args.first c.args.second e, below_nothing i c.args.first c.args.second)

pub returns-in-SeqOf-SeqOf : goal.returns-in-SeqOf-SeqOf
returns-in-SeqOf-SeqOf c =
    let n = c.in-SeqOf-SeqOf in
    λ i. (agree_seq i c.args.first c.args.second n.first n.second n.is-0 n.is-1, below_seq i c.args.first c.args.second n.first n.second n.is-0 n.is-1)

pub returns-in-Both-Both : goal.returns-in-Both-Both
returns-in-Both-Both c =
    let n = c.in-Both-Both in
    λ i. (agree_both i c.args.first c.args.second n.first n.second n.third n.fourth n.is-0 n.is-1, below_both i c.args.first c.args.second n.first n.second n.third n.fourth n.is-0 n.is-1)

pub returns-in_default : goal.returns-in_default
returns-in_default c =
    let d = c.in_default in
    λ i. differ_int i c.args.first c.args.second d.is-0 c.requires.second d.not-Free-1 d.not-Int-1 d.not-Part-1

pub returns-in_default-2 : goal.returns-in_default-2
returns-in_default-2 c =
    let d = c.in_default in
    λ i. differ_bool i c.args.first c.args.second d.is-0 c.requires.second d.not-Free-1 d.not-Bool-1 d.not-Part-1

pub returns-in_default-3 : goal.returns-in_default-3
returns-in_default-3 c =
    let d = c.in_default in
    λ i. differ_char i c.args.first c.args.second d.is-0 c.requires.second d.not-Free-1 d.not-Char-1 d.not-Part-1

pub returns-in_default-4 : goal.returns-in_default-4
returns-in_default-4 c =
    let d = c.in_default in
    λ i. differ_named i c.in_default.field-0-0 c.args.first c.args.second d.is-0 c.requires.second d.not-Free-1 d.not-Named-1 d.not-Part-1

pub returns-in_default-5 : goal.returns-in_default-5
returns-in_default-5 c =
    let d = c.in_default in
    λ i. differ_seq i c.in_default.field-0-0 c.args.first c.args.second d.is-0 c.requires.second d.not-Free-1 d.not-SeqOf-1 d.not-Part-1

pub returns-in_default-6 : goal.returns-in_default-6
returns-in_default-6 c =
    let d = c.in_default in
    λ i. differ_both i c.in_default.field-0-0 c.in_default.field-1-0 c.args.first c.args.second d.is-0 c.requires.second d.not-Free-1 d.not-Both-1 d.not-Part-1

pub returns-in_default-7 : goal.returns-in_default-7
returns-in_default-7 c = absurd (subst IsRoot c.in_default.is-0 c.requires.first)

pub returns-in_default-Part : goal.returns-in_default-Part
returns-in_default-Part c = let e : expandable c.args.second ≡ 1 = ap expandable c.in_default-Part.is-1 in omega (arith, e)

pub returns-in_default-Part-2 : goal.returns-in_default-Part-2
returns-in_default-Part-2 c = let e : expandable c.args.second ≡ 1 = ap expandable c.in_default-Part.is-1 in omega (arith, e)

pub returns-in_default-Part-3 : goal.returns-in_default-Part-3
returns-in_default-Part-3 c = let e : expandable c.args.second ≡ 1 = ap expandable c.in_default-Part.is-1 in omega (arith, e)

pub returns-in_default-Part-4 : goal.returns-in_default-Part-4
returns-in_default-Part-4 c = let e : expandable c.args.second ≡ 1 = ap expandable c.in_default-Part.is-1 in omega (arith, e)

pub returns-in_default-Part-5 : goal.returns-in_default-Part-5
returns-in_default-Part-5 c = let e : expandable c.args.second ≡ 1 = ap expandable c.in_default-Part.is-1 in omega (arith, e)

pub returns-in_default-Part-6 : goal.returns-in_default-Part-6
returns-in_default-Part-6 c = let e : expandable c.args.second ≡ 1 = ap expandable c.in_default-Part.is-1 in omega (arith, e)

pub returns-in_default-Part-7 : goal.returns-in_default-Part-7
returns-in_default-Part-7 c = let e : expandable c.args.second ≡ 1 = ap expandable c.in_default-Part.is-1 in omega (arith, e)

pub returns-in_default-Free : goal.returns-in_default-Free
returns-in_default-Free c = λ i. (agree_second_free i c.args.first c.args.second c.in_default-Free.is-1, below_nothing i c.args.first c.args.second)

pub returns-in_default-Free-2 : goal.returns-in_default-Free-2
returns-in_default-Free-2 c = λ i. (agree_second_free i c.args.first c.args.second c.in_default-Free.is-1, below_nothing i c.args.first c.args.second)

pub returns-in_default-Free-3 : goal.returns-in_default-Free-3
returns-in_default-Free-3 c = λ i. (agree_second_free i c.args.first c.args.second c.in_default-Free.is-1, below_nothing i c.args.first c.args.second)

pub returns-in_default-Free-4 : goal.returns-in_default-Free-4
returns-in_default-Free-4 c = λ i. (agree_second_free i c.args.first c.args.second c.in_default-Free.is-1, below_nothing i c.args.first c.args.second)

pub returns-in_default-Free-5 : goal.returns-in_default-Free-5
returns-in_default-Free-5 c = λ i. (agree_second_free i c.args.first c.args.second c.in_default-Free.is-1, below_nothing i c.args.first c.args.second)

pub returns-in_default-Free-6 : goal.returns-in_default-Free-6
returns-in_default-Free-6 c = λ i. (agree_second_free i c.args.first c.args.second c.in_default-Free.is-1, below_nothing i c.args.first c.args.second)

pub returns-in_default-Free-7 : goal.returns-in_default-Free-7
returns-in_default-Free-7 c = λ i. (agree_second_free i c.args.first c.args.second c.in_default-Free.is-1, below_nothing i c.args.first c.args.second)

pub returns-in_default-Free-8 : goal.returns-in_default-Free-8
returns-in_default-Free-8 c = λ i. (agree_second_free i c.args.first c.args.second c.in_default-Free.is-1, below_nothing i c.args.first c.args.second)
