-- Charges add up to the work, and those of a path to the depth.
use Rattle.std.proofs.Common.{ℕ, ◌≡◌, ◌+◌, ◌≤◌, max, Bool, true, false, refl, arith, List, [], ◌∷◌, ◌++◌, Option, Some}
use Rattle.std.specs.Prelude.{nat_le, if◌then◌else◌}
use Rattle.std.proofs.lemmas.Bool.Decides.{nat_tests}
use Rattle.nesl_lex.specs.declared.token.Span.{Span}
use Rattle.nesl_eval_meaning.specs.Names.{Name}
use Rattle.nesl_cost_meaning.specs.Cost.{Cost, free, entered, besides, after, turn, called, work_in, depth_in, Charge, decision, charges, path, works, depths}
use Rattle.nesl_cost_meaning.specs.Laws.{SumsUp}

works_append : (cs ds : List Charge) → works (cs ++ ds) ≡ works cs + works ds
works_append [] ds = omega arith
works_append (c ∷ cs) ds = omega (arith, works_append cs ds)

depths_append : (cs ds : List Charge) → depths (cs ++ ds) ≡ depths cs + depths ds
depths_append [] ds = omega arith
depths_append (c ∷ cs) ds = omega (arith, depths_append cs ds)

works_sum : (h : Option Name) (c : Cost) → works (charges h c) ≡ work_in c
works_sum h free = refl
works_sum h (entered s) = refl
works_sum h (besides s w d) = omega arith
works_sum h (after c e) = omega (arith, works_append (charges h c) (charges h e), works_sum h c, works_sum h e)
works_sum h (turn s i c e) = omega (arith, works_append (charges h c) (charges h e), works_sum h c, works_sum h e)
works_sum h (called x s c) = works_sum (Some x) c

deepest : (h : Option Name) (s : Span) (i : ℕ) (c e : Cost) → depths (path h c) ≡ depth_in c → depths (path h e) ≡ depth_in e →
    depths (if nat_le (depth_in e) (depth_in c) then decision h s i ∷ path h c else path h e) ≡ max (depth_in c) (depth_in e)
deepest h s i c e l m = by (nat_le (depth_in e) (depth_in c)) refl
  where
    by : (b : Bool) → nat_le (depth_in e) (depth_in c) ≡ b → depths (if b then decision h s i ∷ path h c else path h e) ≡ max (depth_in c) (depth_in e)
    by true p = let n : depth_in e ≤ depth_in c = grind (arith, nat_tests) in omega (arith, n, l)
    by false p = let n : depth_in c ≤ depth_in e = grind (arith, nat_tests) in omega (arith, n, m)

depths_sum : (h : Option Name) (c : Cost) → depths (path h c) ≡ depth_in c
depths_sum h free = refl
depths_sum h (entered s) = refl
depths_sum h (besides s w d) = omega arith
depths_sum h (after c e) = omega (arith, depths_append (path h c) (path h e), depths_sum h c, depths_sum h e)
depths_sum h (turn s i c e) = deepest h s i c e (depths_sum h c) (depths_sum h e)
depths_sum h (called x s c) = depths_sum (Some x) c

pub sums_up : SumsUp
sums_up h c = (works_sum h c, depths_sum h c)
