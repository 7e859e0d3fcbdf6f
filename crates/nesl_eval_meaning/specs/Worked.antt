-- Expressions that are worked by hand.
use Rattle.std.specs.Prelude.{◌≡◌, refl, ℕ, pos, codes, List, [], ◌∷◌, true}
use Rattle.nesl_lex.specs.declared.token.Span.{Span}
use Rattle.nesl_syntax_tree.specs.declared.tree.Operator.TheVariants as sign
use Rattle.nesl_syntax_tree.specs.Trees.{PatternTree, Tree, Trees, Shape, node, none, more, no_binders, binder, number}
use Rattle.nesl_syntax_tree.specs.Trees.{truth, variable, call, pair, infix_of, choice, sequence, each, filtered_each}
use Rattle.nesl_syntax_tree.specs.Trees.{element, let_in, pattern, name_pattern, pair_pattern}
use Rattle.nesl_values.specs.Tree as values
use Rattle.nesl_scalars.specs.declared.trap.Trap.TheVariants as trap
use Rattle.nesl_builtins.specs.Named.{builtin_named}
use Rattle.nesl_seqs_base.specs.Prices.{digits}
use Rattle.nesl_eval_meaning.specs.Names.{Environment, function_of, datatype_of, outside}
use Rattle.nesl_eval_meaning.specs.Out.{Out, value, fault}
use Rattle.nesl_eval_meaning.specs.Outcome.{out}

abbrev pub from : ℕ → ℕ → Span
from a b = record { start = a; end = b }

abbrev pub here : Shape → Tree
here k = node (from 0 0) k

abbrev pub int_of : ℕ → Tree
int_of n = here (number n)

abbrev pub the : List ℕ → Tree
the x = here (variable x)

abbrev pub for_name : List ℕ → PatternTree
for_name x = pattern (from 0 0) (name_pattern x)

abbrev pub numbers : List ℕ → Trees
numbers [] = none
numbers (n ∷ ns) = more (int_of n) (numbers ns)

abbrev pub ints : List ℕ → Tree
ints ns = here (sequence (numbers ns))

-- an expression on a line with 1,000 levels, where no name is bound
abbrev pub alone : Tree → Out values.ValueTree
alone e = out 1000 [] (outside []) e

-- `{a in [3, 5, 9] | a < 4}`
pub kept :
    alone (here (filtered_each (here element) (binder (for_name (codes "a")) (ints (3 ∷ 5 ∷ 9 ∷ [])) no_binders)
    (here (infix_of sign.Less (the (codes "a")) (int_of 4)))))
    ≡ value (values.sequence (values.int (pos 3) ∷ [])) 16 9
unfolding out
kept = refl

-- `{a + b : a in [1, 2]; b in [3, 4]}`
pub two_binders :
    alone (here (each (here (infix_of sign.Plus (the (codes "a")) (the (codes "b"))))
    (binder (for_name (codes "a")) (ints (1 ∷ 2 ∷ [])) (binder (for_name (codes "b")) (ints (3 ∷ 4 ∷ [])) no_binders))))
    ≡ value (values.sequence (values.int (pos 4) ∷ values.int (pos 6) ∷ [])) 15 10
unfolding out
two_binders = refl

-- `{10 / a : a in [5, 0, 2, 0]}`
pub first_fault :
    alone (here (each (node (from 1 7) (infix_of sign.Divide (int_of 10) (the (codes "a"))))
    (binder (for_name (codes "a")) (ints (5 ∷ 0 ∷ 2 ∷ 0 ∷ [])) no_binders)))
    ≡ fault trap.Division (from 1 7) 13
unfolding out
first_fault = refl

-- `{a + b : a in [1, 2]; b in [3]}`
pub lengths_differ :
    alone (node (from 0 31) (each (the (codes "a"))
    (binder (for_name (codes "a")) (ints (1 ∷ 2 ∷ [])) (binder (for_name (codes "b")) (ints (3 ∷ [])) no_binders))))
    ≡ fault trap.Length (from 0 31) 6
unfolding out
lengths_differ = refl

-- `function fact(i) = if i == 1 then 1 else i * fact(i - 1)`
abbrev pub with_fact : Environment
with_fact = (
  codes "fact",
  function_of (for_name (codes "i")) (here (choice (here (infix_of sign.Equal (the (codes "i")) (int_of 1))) (int_of 1)
      (here (infix_of sign.Times (the (codes "i"))
      (here (call (codes "fact") (here (infix_of sign.Minus (the (codes "i")) (int_of 1))))))))),
) ∷ []

-- `fact(3)`
pub fact_of_three :
    out 20 with_fact (outside []) (here (call (codes "fact") (int_of 3))) ≡ value (values.int (pos 6)) 27 27
unfolding out builtin_named
fact_of_three = refl

-- `function q(x) = 1 / x`, and `q(0)` at the bytes 3 to 7: the fault has the span of the call
pub fault_in_a_call :
    out 20 ((
      codes "q",
      function_of (for_name (codes "x"))
          (node (from 16 21) (infix_of sign.Divide (int_of 1) (the (codes "x")))),
    ) ∷ []) (outside [])
    (node (from 3 7) (call (codes "q") (int_of 0)))
    ≡ fault trap.Division (from 3 7) 5
unfolding out builtin_named
fault_in_a_call = refl

-- `1 + 2 + 3` with two levels
pub too_deep :
    out 2 [] (outside []) (here (infix_of sign.Plus (here (infix_of sign.Plus (node (from 0 1) (number 1)) (int_of 2)))
    (int_of 3)))
    ≡ fault trap.Deep (from 0 1) 2
unfolding out
too_deep = refl

-- `(1, T)`
pub pair_made :
    alone (here (pair (int_of 1) (here (truth true))))
    ≡ value (values.pair (values.int (pos 1)) (values.boolean true)) 3 3
unfolding out
pair_made = refl

-- `point(7)`, where `point` is the datatype with the tag 2
pub record_made :
    out 9 ((codes "point", datatype_of 2) ∷ []) (outside []) (here (call (codes "point") (int_of 7)))
    ≡ value (values.tagged 2 (values.int (pos 7))) 2 2
unfolding out builtin_named
record_made = refl

-- `let (a, b) = (3, 4) in rem(b, a)`
pub pattern_bound :
    alone (here (let_in (binder (pattern (from 0 0) (pair_pattern (for_name (codes "a")) (for_name (codes "b"))))
    (here (pair (int_of 3) (int_of 4))) no_binders)
    (here (call (codes "rem") (here (pair (the (codes "b")) (the (codes "a"))))))))
    ≡ value (values.int (pos 1)) 8 8
unfolding out builtin_named
pattern_bound = refl

-- `let x = 1; x = 2 in x`: the later name hides the earlier
pub later_hides :
    alone (here (let_in (binder (for_name (codes "x")) (int_of 1) (binder (for_name (codes "x")) (int_of 2) no_binders))
    (the (codes "x"))))
    ≡ value (values.int (pos 2)) 4 4
unfolding out
later_hides = refl

-- `[0, 0] <- [(1, 5)]`
pub written :
    alone (here (infix_of sign.Write (ints (0 ∷ 0 ∷ []))
    (here (sequence (more (here (pair (int_of 1) (int_of 5))) none)))))
    ≡ value (values.sequence (values.int (pos 0) ∷ values.int (pos 5) ∷ [])) 13 8
unfolding out
written = refl

-- `sum([1, 2, 3])`: a reduction of three elements is deeper by the two digits of three
pub summed :
    alone (here (call (codes "sum") (ints (1 ∷ 2 ∷ 3 ∷ [])))) ≡ value (values.int (pos 6)) 8 7
unfolding out builtin_named digits
summed = refl
