-- Each tree that the grammar gives is the one that the list of what is open gives.
use Rattle.std.proofs.Common.{◌≡◌, ℕ, ◌≤◌, ◌<◌, Bool, true, false, List, [], ◌∷◌, ◌++◌, Option, Some, None, append_assoc, refl, ap, sym, subst, ◌∙◌, arith}
use Rattle.std.specs.Option.{option_and_then}
use Rattle.std.proofs.lemmas.Bool.{le-leb, lt-leb}
use Rattle.nesl_lex.specs.Tokens.{Placed, Lexeme, reserved, symbol}
use Rattle.nesl_lex.specs.declared.token.Span.{Span}
use Rattle.nesl_lex.specs.declared.token.Word.TheVariants as word
use Rattle.nesl_lex.specs.declared.token.Sign.TheVariants as sign
use Rattle.nesl_syntax_tree.specs.declared.tree.Operator.{Operator}
use Rattle.nesl_syntax_tree.specs.declared.tree.Operator.TheVariants as operator
use Rattle.nesl_syntax_tree.specs.declared.tree.Prefix.{Prefix}
use Rattle.nesl_syntax_tree.specs.declared.tree.Prefix.TheVariants as prefix
use Rattle.nesl_syntax_open.specs.declared.mark.Mark.{Mark}
use Rattle.nesl_syntax_open.specs.declared.mark.Mark.TheVariants as mark
use Rattle.nesl_syntax_open.specs.declared.mark.Follow.TheVariants as follow
use Rattle.nesl_syntax_tree.specs.Trees.{Tree, Shape, Trees, Binders, PatternTree, PatternShape, TypeTree, node, pattern, written, span_of, pattern_span, tree_on, pattern_on, type_on, with_last, with_last_binder, none, no_binders, binder}
use Rattle.nesl_syntax_tree.specs.Trees as trees
use Rattle.nesl_syntax_open.specs.Marks.{follow_of}
use Rattle.nesl_syntax_tree.specs.Grammar as grammar
use Rattle.nesl_syntax_tree.specs.Grammar.{operator_token, level_of, prefix_sign, spanning, token_at, sign_at, word_at, name_at, IsType, AreTypes, IsPattern, ArePatterns, IsExpression, AreElements, AreBinders, IsBody, unwritten_body}
use Rattle.nesl_syntax_tree.specs.Made.{body_or}
use Rattle.nesl_syntax_open.specs.Machine.{Group, let_group, each_group, Opening, round, call, index_of, test, branch, list, range_from, range_to, brace, binders, value, filter, empty_at, type_list, type_round, type_comma, Waiting, open_at, comma_behind, else_behind, body_of, prefix_at, sign_behind, type_at, opening_wants, wanted_by, begun_by, rank, completed, wanted, folded, before, behind, typing, typed, State, opened, becomes, ends, bound, turned, taken_up, marked, separated, mark_level, on_both, followed, let_closed, type_done, type_separated, type_closed, step, run, alone, expression, written_type}
use Rattle.nesl_syntax_tree.specs.Patterns.{pattern_in, pattern_shape_in, with_span}
use Rattle.nesl_syntax_open.proofs.PatternTrees.{shape_of_pattern, tree_of_pattern}

-- from one state over a token, and over some tokens, to another
pub record Steps (q : State) (t : Placed) (p : State) : Type 0 where
  pub steps : step q.0 q.1 t ≡ Some p

pub record Goes (q : State) (ts : List Placed) (p : State) : Type 0 where
  pub goes : run q ts ≡ Some p

run-append_next : (us vs : List Placed) (o : Option State) (p r : State) → ((x : State) → run x us ≡ Some p → run x (us ++ vs) ≡ Some r) → option_and_then (λ x. run x us) o ≡ Some p → option_and_then (λ x. run x (us ++ vs)) o ≡ Some r
run-append_next us vs None p r f e = cc
run-append_next us vs (Some x) p r f e = f x e

run-append : (us vs : List Placed) (q p r : State) → run q us ≡ Some p → run p vs ≡ Some r → run q (us ++ vs) ≡ Some r
run-append [] vs q p r h k = let e : q ≡ p = cc in rw e k
run-append (t ∷ us) vs q p r h k = run-append_next us vs (step q.0 q.1 t) p r (λ x e. run-append us vs x p r e k) h

-- one list of tokens after another
pub Goes-append : {us vs : List Placed} {q p r : State} → Goes q us p → Goes p vs r → Goes q (us ++ vs) r
Goes-append {us = us} {vs = vs} {q = q} {p = p} {r = r} h k = record { goes = run-append us vs q p r h.goes k.goes }

pub Goes-cons : {t : Placed} {vs : List Placed} {q p r : State} → Steps q t p → Goes p vs r → Goes q (t ∷ vs) r
Goes-cons h k = record { goes = rw h.steps k.goes }

pub Goes-none : (q : State) → Goes q [] q
Goes-none q = record { goes = refl }

Goes-one : {t : Placed} {q p : State} → Steps q t p → Goes q (t ∷ []) p
Goes-one h = Goes-cons h (Goes-none _)

-- what waits at a level below is left alone
pub folded-once : (n : ℕ) (w : Waiting) (ws : List Waiting) (e : Tree) → n ≤ rank w → folded n (w ∷ ws) e ≡ folded n ws (completed w e)
folded-once n w ws e h = rw (le-leb n (rank w) h)

pub level_low : (o : Operator) → 3 ≤ level_of o
level_low operator.Or = omega arith
level_low operator.Nor = omega arith
level_low operator.Xor = omega arith
level_low operator.And = omega arith
level_low operator.Nand = omega arith
level_low operator.Equal = omega arith
level_low operator.NotEqual = omega arith
level_low operator.Less = omega arith
level_low operator.Greater = omega arith
level_low operator.LessOrEqual = omega arith
level_low operator.GreaterOrEqual = omega arith
level_low operator.Plus = omega arith
level_low operator.Minus = omega arith
level_low operator.Append = omega arith
level_low operator.Write = omega arith
level_low operator.Times = omega arith
level_low operator.Divide = omega arith
level_low operator.Read = omega arith

pub level_high : (o : Operator) → level_of o ≤ 7
level_high operator.Or = omega arith
level_high operator.Nor = omega arith
level_high operator.Xor = omega arith
level_high operator.And = omega arith
level_high operator.Nand = omega arith
level_high operator.Equal = omega arith
level_high operator.NotEqual = omega arith
level_high operator.Less = omega arith
level_high operator.Greater = omega arith
level_high operator.LessOrEqual = omega arith
level_high operator.GreaterOrEqual = omega arith
level_high operator.Plus = omega arith
level_high operator.Minus = omega arith
level_high operator.Append = omega arith
level_high operator.Write = omega arith
level_high operator.Times = omega arith
level_high operator.Divide = omega arith
level_high operator.Read = omega arith

-- what waits where commas may come has no operator and no choice after it
rank_below_2 : (w : Waiting) → wanted_by w ≤ 1 → rank w < 2
rank_below_2 (open_at o) h = omega arith
rank_below_2 (comma_behind a) h = omega arith
rank_below_2 (else_behind s a b) h = absurd (omega arith)
rank_below_2 (body_of s bs) h = absurd (omega arith)
rank_below_2 (prefix_at o s) h = absurd (omega arith)
rank_below_2 (sign_behind o a) h = absurd (omega (arith, level_low o))
rank_below_2 (type_at o) h = omega arith

-- what waits where an operator of a level may come is below that level
rank_below : (w : Waiting) (n : ℕ) → 3 ≤ n → n ≤ 7 → wanted_by w ≤ n → rank w < n
rank_below (open_at o) n i k h = omega arith
rank_below (comma_behind a) n i k h = omega arith
rank_below (else_behind s a b) n i k h = omega arith
rank_below (body_of s bs) n i k h = omega arith
rank_below (prefix_at o s) n i k h = absurd (omega arith)
rank_below (sign_behind o a) n i k h = omega arith
rank_below (type_at o) n i k h = omega arith

rank_small : (w : Waiting) → rank w < 9
rank_small (open_at o) = omega arith
rank_small (comma_behind a) = omega arith
rank_small (else_behind s a b) = omega arith
rank_small (body_of s bs) = omega arith
rank_small (prefix_at o s) = omega arith
rank_small (sign_behind o a) = omega (arith, level_high o)
rank_small (type_at o) = omega arith

left_at_commas : (ws : List Waiting) (e : Tree) → wanted ws ≤ 1 → folded 2 ws e ≡ (ws, e)
left_at_commas [] e h = refl
left_at_commas (w ∷ ws) e h = rw (lt-leb 2 (rank w) (rank_below_2 w h))

left_at_operator : (o : Operator) (ws : List Waiting) (e : Tree) → wanted ws ≤ level_of o → folded (level_of o) ws e ≡ (ws, e)
left_at_operator o [] e h = refl
left_at_operator o (w ∷ ws) e h = rw (lt-leb (level_of o) (rank w) (rank_below w _ (level_low o) (level_high o) h))

left_at_index : (ws : List Waiting) (e : Tree) → folded 9 ws e ≡ (ws, e)
left_at_index [] e = refl
left_at_index (w ∷ ws) e = rw (lt-leb 9 (rank w) (rank_small w))

opens : (w : Waiting) (ws : List Waiting) → wanted ws ≤ begun_by w → opened w ws ≡ Some (w ∷ ws, before)
opens w ws h = rw (le-leb (wanted ws) (begun_by w) h)

opening_low : (o : Opening) → opening_wants o ≤ 10
opening_low (binders g bs) = omega arith
opening_low (round s) = omega arith
opening_low (call x s) = omega arith
opening_low _ = omega arith

wanted_low : (w : Waiting) → wanted_by w ≤ 10
wanted_low (open_at o) = opening_low o
wanted_low (comma_behind a) = omega arith
wanted_low (else_behind s a b) = omega arith
wanted_low (body_of s bs) = omega arith
wanted_low (prefix_at o s) = omega arith
wanted_low (sign_behind o a) = omega (arith, level_high o)
wanted_low (type_at o) = omega arith

pub wanted_small : (ws : List Waiting) → wanted ws ≤ 10
wanted_small [] = omega arith
wanted_small (w ∷ ws) = wanted_low w

-- a comma after what isn't a list
pub comma_opens : (ws : List Waiting) (e : Tree) → wanted ws ≤ 1 → separated ws e ≡ Some (comma_behind e ∷ ws, before)
comma_opens [] e h = absurd (omega arith)
comma_opens (open_at (list s xs) ∷ ws) e h = absurd (omega arith)
comma_opens (w ∷ ws) e h = opens (comma_behind e) (w ∷ ws) h

-- an operator's token, and a mark's
joins_at : (o : Operator) → follow_of (operator_token o) ≡ follow.Operator o
joins_at operator.Or = refl
joins_at operator.Nor = refl
joins_at operator.Xor = refl
joins_at operator.And = refl
joins_at operator.Nand = refl
joins_at operator.Equal = refl
joins_at operator.NotEqual = refl
joins_at operator.Less = refl
joins_at operator.Greater = refl
joins_at operator.LessOrEqual = refl
joins_at operator.GreaterOrEqual = refl
joins_at operator.Plus = refl
joins_at operator.Minus = refl
joins_at operator.Append = refl
joins_at operator.Write = refl
joins_at operator.Times = refl
joins_at operator.Divide = refl
joins_at operator.Read = refl

-- the steps after an expression that folds to a known one
step_pairs : {ns ws : List Waiting} {b : Bool} {x a : Tree} (s : Span) → folded 2 ns x ≡ (ws, a) → wanted ws ≤ 1 → Steps (ns, behind b x) (sign_at sign.Comma s) (comma_behind a ∷ ws, before)
step_pairs {ws = ws} {a = a} s e h = record { steps = rw e (comma_opens ws a h) }

step_lists : {ns ws : List Waiting} {b : Bool} {x a : Tree} {i : Span} {xs : Trees} (s : Span) → folded 2 ns x ≡ (open_at (list i xs) ∷ ws, a) → Steps (ns, behind b x) (sign_at sign.Comma s) (open_at (list i (with_last xs a)) ∷ ws, before)
step_lists s e = record { steps = rw e refl }

step_joins : {ns ws : List Waiting} {b : Bool} {x a : Tree} (o : Operator) (s : Span) → folded (level_of o) ns x ≡ (ws, a) → wanted ws ≤ level_of o → Steps (ns, behind b x) (token_at (operator_token o) s) (sign_behind o a ∷ ws, before)
step_joins {ns = ns} {ws = ws} {b = b} {x = x} {a = a} o s e h = record { steps = ap (λ f. followed f ns b x s) (joins_at o) ∙ ap (on_both (λ (vs : List Waiting) (y : Tree). opened (sign_behind o y) vs)) e ∙ opens (sign_behind o a) ws h }

step_indexes : {ns ws : List Waiting} {b : Bool} {x a : Tree} (s : Span) → folded 9 ns x ≡ (ws, a) → wanted ws ≤ 9 → Steps (ns, behind b x) (sign_at sign.OpenBracket s) (open_at (index_of a) ∷ ws, before)
step_indexes {ns = ns} {ws = ws} {x = x} {a = a} s e h = record { steps = ap (on_both (λ (vs : List Waiting) (y : Tree). opened (open_at (index_of y)) vs)) (sym (left_at_index ns x) ∙ e) ∙ opens (open_at (index_of a)) ws h }

-- a mark after what folds to an opening and its last part
step_marks : {ns ws : List Waiting} {b : Bool} {x a : Tree} {o : Opening} {w : Waiting} (m : Mark) (t : Placed) → follow_of t.lexeme ≡ follow.Mark m → folded (mark_level m) ns x ≡ (open_at o ∷ ws, a) → turned m t.span o a ≡ Some (becomes w) → Steps (ns, behind b x) t (w ∷ ws, before)
step_marks {ns = ns} {ws = ws} {b = b} {x = x} m t k e h = record { steps = ap (λ f. followed f ns b x t.span) k ∙ ap (on_both (marked m t.span)) e ∙ ap (taken_up ws) h }

step_ends : {ns ws : List Waiting} {b : Bool} {x a y : Tree} {o : Opening} (m : Mark) (t : Placed) → follow_of t.lexeme ≡ follow.Mark m → folded (mark_level m) ns x ≡ (open_at o ∷ ws, a) → turned m t.span o a ≡ Some (ends y) → Steps (ns, behind b x) t (ws, behind false y)
step_ends {ns = ns} {ws = ws} {b = b} {x = x} m t k e h = record { steps = ap (λ f. followed f ns b x t.span) k ∙ ap (on_both (marked m t.span)) e ∙ ap (taken_up ws) h }

-- these tokens lead to a state that folds to the tree, at each level up to this one
pub record Comes (ws : List Waiting) (ts : List Placed) (n : ℕ) (e : Tree) : Type 0 where
  pub now : List Waiting
  pub fresh : Bool
  pub last : Tree
  pub goes : Goes (ws, before) ts (now, behind fresh last)
  pub folds : (l : ℕ) → l ≤ n → folded l now last ≡ folded l ws e

-- a leaf, and anything that ends in a token of its own
ended : {ws : List Waiting} {ts : List Placed} {e : Tree} (n : ℕ) (b : Bool) → Goes (ws, before) ts (ws, behind b e) → Comes ws ts n e
ended {ws = ws} {e = e} n b g = record { now = ws; fresh = b; last = e; goes = g; folds = λ l k. refl }

pairs_come : {ws : List Waiting} {us vs : List Placed} {a b : Tree} (s : Span) → wanted ws ≤ 1 → Comes ws us 2 a → Comes (comma_behind a ∷ ws) vs 1 b → Comes ws (us ++ (sign_at sign.Comma s ∷ vs)) 1 (node (spanning (span_of a) (span_of b)) (trees.pair a b))
pairs_come {ws = ws} {a = a} {b = b} s h c d = record {
  now = d.now;
  fresh = d.fresh;
  last = d.last;
  goes = Goes-append c.goes (Goes-cons (step_pairs s (c.folds 2 (omega arith) ∙ left_at_commas ws a h) h) d.goes);
  folds = λ l k. d.folds l k ∙ folded-once l (comma_behind a) ws b k;
}

names_come : (ws : List Waiting) (x : List ℕ) (s : Span) → Comes ws (name_at x s ∷ []) 10 (node s (trees.variable x))
names_come ws x s = ended 10 true (record { goes = refl })

calls_come : {ws : List Waiting} {us : List Placed} {a : Tree} (x : List ℕ) (s t u : Span) → Comes (open_at (call x s) ∷ ws) us 1 a
    → Comes ws (name_at x s ∷ (sign_at sign.OpenParenthesis t ∷ (us ++ (sign_at sign.CloseParenthesis u ∷ [])))) 10 (node (spanning s u) (trees.call x a))
calls_come {ws = ws} {a = a} x s t u c =
    let open_it : Steps (ws, behind true (node s (trees.variable x))) (sign_at sign.OpenParenthesis t) (open_at (call x s) ∷ ws, before) = record { steps = opens (open_at (call x s)) ws (wanted_small ws) } in
    let name_it : Steps (ws, before) (name_at x s) (ws, behind true (node s (trees.variable x))) = record { steps = refl } in
    ended 10 false (Goes-cons name_it (Goes-cons open_it (Goes-append c.goes (Goes-one (step_ends mark.CloseParenthesis _ refl (c.folds 1 (omega arith)) refl)))))

rounds_come : {ws : List Waiting} {us : List Placed} {a : Tree} (s t : Span) → Comes (open_at (round s) ∷ ws) us 1 a
    → Comes ws (sign_at sign.OpenParenthesis s ∷ (us ++ (sign_at sign.CloseParenthesis t ∷ []))) 10 (tree_on (spanning s t) a)
rounds_come {ws = ws} {a = a} s t c =
    let open_it : Steps (ws, before) (sign_at sign.OpenParenthesis s) (open_at (round s) ∷ ws, before) = record { steps = opens (open_at (round s)) ws (wanted_small ws) } in
    ended 10 false (Goes-cons open_it (Goes-append c.goes (Goes-one (step_ends mark.CloseParenthesis _ refl (c.folds 1 (omega arith)) refl))))

loosely : {ws : List Waiting} {ts : List Placed} {n m : ℕ} {e : Tree} → m ≤ n → Comes ws ts n e → Comes ws ts m e
loosely h c = record { now = c.now; fresh = c.fresh; last = c.last; goes = c.goes; folds = λ l k. c.folds l (omega arith) }

-- a pattern comes as an expression
span_of_pattern : (p : PatternTree) → span_of (tree_of_pattern p) ≡ pattern_span p
span_of_pattern (pattern s k) = refl

widened_tree : (s : Span) (p : PatternTree) → tree_of_pattern (pattern_on s p) ≡ tree_on s (tree_of_pattern p)
widened_tree s (pattern t k) = refl

come_as : {ws : List Waiting} {ts : List Placed} {n : ℕ} (a b : Tree) → a ≡ b → Comes ws ts n a → Comes ws ts n b
come_as {ws = ws} {ts = ts} {n = n} a b h c = subst (λ (x : Tree). Comes ws ts n x) h c

mutual
  pattern_comes : {us : List Placed} {p : PatternTree} → IsPattern us p → (ws : List Waiting) → Comes ws us 10 (tree_of_pattern p)
  pattern_comes (grammar.pattern_name x s) ws = names_come ws x s
  pattern_comes (grammar.pattern_record x s t u q) ws = calls_come x s t u (patterns_come q (open_at (call x s) ∷ ws) (omega arith))
  pattern_comes (grammar.pattern_rounds {p = p} s t q) ws = come_as _ _ (sym (widened_tree (spanning s t) p)) (rounds_come s t (patterns_come q (open_at (round s) ∷ ws) (omega arith)))

  patterns_come : {us : List Placed} {p : PatternTree} → ArePatterns us p → (ws : List Waiting) → wanted ws ≤ 1 → Comes ws us 1 (tree_of_pattern p)
  patterns_come (grammar.one_pattern q) ws h = loosely (omega arith) (pattern_comes q ws)
  patterns_come (grammar.pattern_pairs {p = p} {q = q} s i j) ws h =
      come_as _ _ (rw (span_of_pattern p, span_of_pattern q) refl) (pairs_come s h (loosely (omega arith) (pattern_comes i ws)) (patterns_come j (comma_behind (tree_of_pattern p) ∷ ws) (omega arith)))

-- and is read as the pattern
mutual
  pub pattern_read : (p : PatternTree) → pattern_in (tree_of_pattern p) ≡ Some p
  pattern_read (pattern s k) = ap (with_span s) (shape_read k)

  shape_read : (k : PatternShape) → pattern_shape_in (shape_of_pattern k) ≡ Some k
  shape_read (trees.name_pattern x) = refl
  shape_read (trees.pair_pattern a b) = let e = pattern_read a in let f = pattern_read b in rw (e, f) refl
  shape_read (trees.record_pattern x a) = let e = pattern_read a in rw e refl

-- a type comes by itself
pub record InTypes (ws : List Waiting) : Type 0 where
  pub done : (a : TypeTree) → type_done ws a ≡ (ws, typed a)
  pub commas : (a : TypeTree) → type_separated ws a ≡ Some (type_at (type_comma a) ∷ ws, typing)

pub record TypesCome (ws : List Waiting) (us : List Placed) (a : TypeTree) : Type 0 where
  pub now : List Waiting
  pub last : TypeTree
  pub goes : Goes (ws, typing) us (now, typed last)
  pub closes : (t : Span) → type_closed now t last ≡ type_closed ws t a

in_round : (s : Span) (ws : List Waiting) → InTypes (type_at (type_round s) ∷ ws)
in_round s ws = record { done = λ a. refl; commas = λ a. refl }

in_comma : (b : TypeTree) (ws : List Waiting) → InTypes (type_at (type_comma b) ∷ ws)
in_comma b ws = record { done = λ a. refl; commas = λ a. refl }

mutual
  pub type_comes : {us : List Placed} {a : TypeTree} → IsType us a → (ws : List Waiting) → Goes (ws, typing) us (type_done ws a)
  type_comes (grammar.type_int s) ws = record { goes = refl }
  type_comes (grammar.type_bool s) ws = record { goes = refl }
  type_comes (grammar.type_char s) ws = record { goes = refl }
  type_comes (grammar.type_name x s) ws = record { goes = refl }
  type_comes (grammar.type_sequence {a = a} s t q) ws =
      let open_it : Steps (ws, typing) (sign_at sign.OpenBracket s) (type_at (type_list s) ∷ ws, typing) = record { steps = refl } in
      let close_it : Steps (type_at (type_list s) ∷ ws, typed a) (sign_at sign.CloseBracket t) (type_done ws (written (spanning s t) (trees.sequence_type a))) = record { steps = refl } in
      Goes-cons open_it (Goes-append (type_comes q (type_at (type_list s) ∷ ws)) (Goes-one close_it))
  type_comes (grammar.type_rounds {a = a} s t q) ws =
      let open_it : Steps (ws, typing) (sign_at sign.OpenParenthesis s) (type_at (type_round s) ∷ ws, typing) = record { steps = refl } in
      let c = types_come q (type_at (type_round s) ∷ ws) (in_round s ws) in
      let close_it : Steps (c.now, typed c.last) (sign_at sign.CloseParenthesis t) (type_done ws (type_on (spanning s t) a)) = record { steps = c.closes t } in
      Goes-cons open_it (Goes-append c.goes (Goes-one close_it))

  types_come : {us : List Placed} {a : TypeTree} → AreTypes us a → (ws : List Waiting) → InTypes ws → TypesCome ws us a
  types_come (grammar.one_type {us = us} {a = a} q) ws i = record {
    now = ws;
    last = a;
    goes = subst (λ (p : State). Goes (ws, typing) us p) (i.done a) (type_comes q ws);
    closes = λ t. refl;
  }
  types_come (grammar.type_pairs {us = us} {a = a} {b = b} s q r) ws i =
      let c : Goes (ws, typing) us (ws, typed a) = subst (λ (p : State). Goes (ws, typing) us p) (i.done a) (type_comes q ws) in
      let comma : Steps (ws, typed a) (sign_at sign.Comma s) (type_at (type_comma a) ∷ ws, typing) = record { steps = i.commas a } in
      let d = types_come r (type_at (type_comma a) ∷ ws) (in_comma a ws) in
      record { now = d.now; last = d.last; goes = Goes-append c (Goes-cons comma d.goes); closes = λ t. d.closes t }

-- a list's elements so far, and its last
pub record ListComes (s : Span) (ws : List Waiting) (us : List Placed) (xs : Trees) : Type 0 where
  pub now : List Waiting
  pub fresh : Bool
  pub last : Tree
  pub goes : Goes (open_at (list s none) ∷ ws, before) us (now, behind fresh last)
  pub earlier : Trees
  pub item : Tree
  pub folds : folded 2 now last ≡ (open_at (list s earlier) ∷ ws, item)
  pub all : with_last earlier item ≡ xs

-- the sign between a pattern and what it is bound to
abbrev pub separator : Group → Lexeme
separator (let_group s) = symbol sign.Equal
separator (each_group s b) = reserved word.In

abbrev pub separator_mark : Group → Mark
separator_mark (let_group s) = mark.Equal
separator_mark (each_group s b) = mark.In

separator_follows : (g : Group) → follow_of (separator g) ≡ follow.Mark (separator_mark g)
separator_follows (let_group s) = refl
separator_follows (each_group s b) = refl

separator_level : (g : Group) → mark_level (separator_mark g) ≡ 2
separator_level (let_group s) = refl
separator_level (each_group s b) = refl

-- where the first pattern of a group may come
pub record Begins (g : Group) (o : Opening) (bs : Binders) : Type 0 where
  pub binds : (t : Span) (p : PatternTree) → turned (separator_mark g) t o (tree_of_pattern p) ≡ Some (becomes (open_at (value g bs p)))

binders_begin : (g : Group) (bs : Binders) → Begins g (binders g bs) bs
binders_begin (let_group s) bs = record { binds = λ t p. ap (bound (let_group s) bs) (pattern_read p) }
binders_begin (each_group s b) bs = record { binds = λ t p. ap (bound (each_group s b) bs) (pattern_read p) }

brace_begins : (s : Span) → Begins (each_group s None) (brace s) no_binders
brace_begins s = record { binds = λ t p. ap (bound (each_group s None) no_binders) (pattern_read p) }

-- the binders so far, and the last
pub record BindsCome (g : Group) (o : Opening) (ws : List Waiting) (us : List Placed) (bs : Binders) : Type 0 where
  pub now : List Waiting
  pub fresh : Bool
  pub last : Tree
  pub goes : Goes (open_at o ∷ ws, before) us (now, behind fresh last)
  pub earlier : Binders
  pub bound_to : PatternTree
  pub item : Tree
  pub folds : folded 2 now last ≡ (open_at (value g earlier bound_to) ∷ ws, item)
  pub all : with_last_binder earlier bound_to item ≡ bs

-- a pattern and its separator
binds_at : {us : List Placed} {p : PatternTree} (g : Group) (o : Opening) (bs : Binders) (x : Lexeme) (s : Span) (ws : List Waiting) → x ≡ separator g → Begins g o bs → IsPattern us p → Goes (open_at o ∷ ws, before) (us ++ (token_at x s ∷ [])) (open_at (value g bs p) ∷ ws, before)
binds_at {p = p} g o bs x s ws h b i =
    let c = pattern_comes i (open_at o ∷ ws) in
    let f : folded (mark_level (separator_mark g)) c.now c.last ≡ (open_at o ∷ ws, tree_of_pattern p) = rw (separator_level g) (c.folds 2 (omega arith)) in
    Goes-append c.goes (Goes-one (step_marks (separator_mark g) (token_at x s) (ap follow_of h ∙ separator_follows g) f (b.binds s p)))

-- the body of an apply-to-each, where there is one
pub record BodyComes (s : Span) (ws : List Waiting) (us : List Placed) (bs : Binders) (e : Tree) : Type 0 where
  pub given : Option Tree
  pub start : Opening
  pub goes : Goes (open_at (brace s) ∷ ws, before) us (open_at start ∷ ws, before)
  pub begins : Begins (each_group s given) start no_binders
  pub is_body : body_or given bs ≡ e

let_closes : (i : Span) (ws : List Waiting) (earlier : Binders) (p : PatternTree) (e : Tree) → let_closed (open_at (binders (let_group i) (with_last_binder earlier p e)) ∷ ws) ≡ Some (body_of i (with_last_binder earlier p e) ∷ ws, before)
let_closes i ws no_binders p e = refl
let_closes i ws (binder q d bs) p e = refl

regroup : (us vs : List Placed) (t : Placed) (q p r : State) → Goes q (us ++ (t ∷ [])) p → Goes p vs r → Goes q (us ++ (t ∷ vs)) r
regroup us vs t q p r h k = subst (λ (x : List Placed). Goes q x r) (append_assoc us (t ∷ []) vs) (Goes-append h k)

prefix_comes : {ws : List Waiting} {us : List Placed} {a : Tree} (o : Prefix) (s : Span) → Steps (ws, before) (sign_at (prefix_sign o) s) (prefix_at o s ∷ ws, before) → Comes (prefix_at o s ∷ ws) us 8 a → Comes ws (sign_at (prefix_sign o) s ∷ us) 8 (node (spanning s (span_of a)) (trees.prefix_of o a))
prefix_comes {ws = ws} {a = a} o s t c = record {
  now = c.now;
  fresh = c.fresh;
  last = c.last;
  goes = Goes-cons t c.goes;
  folds = λ l k. c.folds l k ∙ folded-once l (prefix_at o s) ws a k;
}

mutual
  pub complete : {n : ℕ} {ts : List Placed} {e : Tree} → IsExpression n ts e → (ws : List Waiting) → wanted ws ≤ n → Comes ws ts n e
  complete (grammar.looser p) ws h = loosely (omega arith) (complete p ws (omega arith))
  complete (grammar.pairs {a = a} {b = b} s p q) ws h = pairs_come s h (complete p ws (omega arith)) (complete q (comma_behind a ∷ ws) (omega arith))
  complete (grammar.lets {bs = bs} {e = e} i t p q) ws h =
      let c = binds_come p (let_group i) refl (binders (let_group i) no_binders) (binders_begin (let_group i) no_binders) ws in
      let d = complete q (body_of i bs ∷ ws) (omega arith) in
      let in_it : Steps (c.now, behind c.fresh c.last) (word_at word.In t) (body_of i bs ∷ ws, before) = step_marks mark.In _ refl c.folds (ap (λ (b : Binders). Some (becomes (body_of i b))) c.all) in
      record {
        now = d.now;
        fresh = d.fresh;
        last = d.last;
        goes = Goes-cons (record { steps = opens (open_at (binders (let_group i) no_binders)) ws h }) (Goes-append c.goes (Goes-cons in_it d.goes));
        folds = λ m k. d.folds m k ∙ folded-once m (body_of i bs) ws e k;
      }
  complete (grammar.closed_lets {bs = bs} {e = e} i s t p q) ws h =
      let c = binds_come p (let_group i) refl (binders (let_group i) no_binders) (binders_begin (let_group i) no_binders) ws in
      let d = complete q (body_of i bs ∷ ws) (omega arith) in
      let close_it : Steps (c.now, behind c.fresh c.last) (sign_at sign.Semicolon s) (open_at (binders (let_group i) bs) ∷ ws, before) = step_marks mark.Semicolon _ refl c.folds (ap (λ (b : Binders). Some (becomes (open_at (binders (let_group i) b)))) c.all) in
      let in_it : Steps (open_at (binders (let_group i) bs) ∷ ws, before) (word_at word.In t) (body_of i bs ∷ ws, before) = record { steps = subst (λ (b : Binders). let_closed (open_at (binders (let_group i) b) ∷ ws) ≡ Some (body_of i b ∷ ws, before)) c.all (let_closes i ws c.earlier c.bound_to c.item) } in
      record {
        now = d.now;
        fresh = d.fresh;
        last = d.last;
        goes = Goes-cons (record { steps = opens (open_at (binders (let_group i) no_binders)) ws h }) (Goes-append c.goes (Goes-cons close_it (Goes-cons in_it d.goes)));
        folds = λ m k. d.folds m k ∙ folded-once m (body_of i bs) ws e k;
      }
  complete (grammar.chooses {a = a} {b = b} {c = x} i t l p q r) ws h =
      let c = complete p (open_at (test i) ∷ ws) (omega arith) in
      let d = complete q (open_at (branch i a) ∷ ws) (omega arith) in
      let f = complete r (else_behind i a b ∷ ws) (omega arith) in
      record {
        now = f.now;
        fresh = f.fresh;
        last = f.last;
        goes = Goes-cons (record { steps = opens (open_at (test i)) ws h }) (Goes-append c.goes (Goes-cons (step_marks mark.Then _ refl (c.folds 2 (omega arith)) refl) (Goes-append d.goes (Goes-cons (step_marks mark.Else _ refl (d.folds 2 (omega arith)) refl) f.goes))));
        folds = λ m k. f.folds m k ∙ folded-once m (else_behind i a b) ws x k;
      }
  complete (grammar.joins {a = a} {b = b} o s p q) ws h =
      let c = complete p ws h in
      let d = complete q (sign_behind o a ∷ ws) (omega arith) in
      record {
        now = d.now;
        fresh = d.fresh;
        last = d.last;
        goes = Goes-append c.goes (Goes-cons (step_joins o s (c.folds (level_of o) (omega arith) ∙ left_at_operator o ws a h) h) d.goes);
        folds = λ l k. d.folds l (omega arith) ∙ folded-once l (sign_behind o a) ws b k;
      }
  complete (grammar.prefixes {a = a} prefix.Length s p) ws h = prefix_comes prefix.Length s (record { steps = opens (prefix_at prefix.Length s) ws h }) (complete p (prefix_at prefix.Length s ∷ ws) (omega arith))
  complete (grammar.prefixes {a = a} prefix.Negate s p) ws h = prefix_comes prefix.Negate s (record { steps = opens (prefix_at prefix.Negate s) ws h }) (complete p (prefix_at prefix.Negate s ∷ ws) (omega arith))
  complete (grammar.picks {a = a} {b = b} s t p q) ws h =
      let c = complete p ws h in
      let d = complete q (open_at (index_of a) ∷ ws) (omega arith) in
      ended 9 false (Goes-append c.goes (Goes-cons (step_indexes s (c.folds 9 (omega arith) ∙ left_at_index ws a) h) (Goes-append d.goes (Goes-one (step_ends mark.CloseBracket _ refl (d.folds 2 (omega arith)) refl)))))
  complete (grammar.numbers n s) ws h = ended 10 false (record { goes = refl })
  complete (grammar.truths b s) ws h = ended 10 false (record { goes = refl })
  complete (grammar.characters c s) ws h = ended 10 false (record { goes = refl })
  complete (grammar.texts bytes s) ws h = ended 10 false (record { goes = refl })
  complete (grammar.names x s) ws h = names_come ws x s
  complete (grammar.calls x s t u p) ws h = calls_come x s t u (complete p (open_at (call x s) ∷ ws) (omega arith))
  complete (grammar.rounds s t p) ws h = rounds_come s t (complete p (open_at (round s) ∷ ws) (omega arith))
  complete (grammar.empties {a = a} s t q) ws h =
      let open_it : Steps (ws, before) (sign_at sign.OpenBracket s) (open_at (list s none) ∷ ws, before) = record { steps = opens (open_at (list s none)) ws h } in
      let close_it : Steps (open_at (list s none) ∷ ws, before) (sign_at sign.CloseBracket t) (type_at (empty_at s) ∷ ws, typing) = record { steps = refl } in
      ended 10 false (Goes-cons open_it (Goes-cons close_it (type_comes q (type_at (empty_at s) ∷ ws))))
  complete (grammar.sequences s t q) ws h =
      let open_it : Steps (ws, before) (sign_at sign.OpenBracket s) (open_at (list s none) ∷ ws, before) = record { steps = opens (open_at (list s none)) ws h } in
      let c = lists_come q s ws in
      ended 10 false (Goes-cons open_it (Goes-append c.goes (Goes-one (step_ends mark.CloseBracket _ refl c.folds (ap (λ (xs : Trees). Some (ends (node (spanning s t) (trees.sequence xs)))) c.all)))))
  complete (grammar.ranges {a = a} s x t p q) ws h =
      let open_it : Steps (ws, before) (sign_at sign.OpenBracket s) (open_at (list s none) ∷ ws, before) = record { steps = opens (open_at (list s none)) ws h } in
      let c = complete p (open_at (list s none) ∷ ws) (omega arith) in
      let d = complete q (open_at (range_from s a) ∷ ws) (omega arith) in
      ended 10 false (Goes-cons open_it (Goes-append c.goes (Goes-cons (step_marks mark.Colon _ refl (c.folds 2 (omega arith)) refl) (Goes-append d.goes (Goes-one (step_ends mark.CloseBracket _ refl (d.folds 2 (omega arith)) refl))))))
  complete (grammar.strides {a = a} {b = b} s x y t p q r) ws h =
      let open_it : Steps (ws, before) (sign_at sign.OpenBracket s) (open_at (list s none) ∷ ws, before) = record { steps = opens (open_at (list s none)) ws h } in
      let c = complete p (open_at (list s none) ∷ ws) (omega arith) in
      let d = complete q (open_at (range_from s a) ∷ ws) (omega arith) in
      let f = complete r (open_at (range_to s a b) ∷ ws) (omega arith) in
      ended 10 false (Goes-cons open_it (Goes-append c.goes (Goes-cons (step_marks mark.Colon _ refl (c.folds 2 (omega arith)) refl) (Goes-append d.goes (Goes-cons (step_marks mark.Colon _ refl (d.folds 2 (omega arith)) refl) (Goes-append f.goes (Goes-one (step_ends mark.CloseBracket _ refl (f.folds 2 (omega arith)) refl))))))))
  complete (grammar.eaches {bs = bs} s t p q) ws h =
      let open_it : Steps (ws, before) (sign_at sign.OpenBrace s) (open_at (brace s) ∷ ws, before) = record { steps = opens (open_at (brace s)) ws h } in
      let c = body_comes p s ws in
      let d = binds_come q (each_group s c.given) refl c.start c.begins ws in
      let end_it = ap (λ (b : Binders). Some (ends (node (spanning s t) (trees.each (body_or c.given b) b)))) d.all ∙ ap (λ (e : Tree). Some (ends (node (spanning s t) (trees.each e bs)))) c.is_body in
      ended 10 false (Goes-cons open_it (Goes-append c.goes (Goes-append d.goes (Goes-one (step_ends mark.CloseBrace _ refl d.folds end_it)))))
  complete (grammar.filters {f = f} {bs = bs} s x t p q r) ws h =
      let open_it : Steps (ws, before) (sign_at sign.OpenBrace s) (open_at (brace s) ∷ ws, before) = record { steps = opens (open_at (brace s)) ws h } in
      let c = body_comes p s ws in
      let d = binds_come q (each_group s c.given) refl c.start c.begins ws in
      let g = complete r (open_at (filter s c.given bs) ∷ ws) (omega arith) in
      let bar_it : Steps (d.now, behind d.fresh d.last) (sign_at sign.Bar x) (open_at (filter s c.given bs) ∷ ws, before) = step_marks mark.Bar _ refl d.folds (ap (λ (b : Binders). Some (becomes (open_at (filter s c.given b)))) d.all) in
      let end_it = ap (λ (e : Tree). Some (ends (node (spanning s t) (trees.filtered_each e bs f)))) c.is_body in
      ended 10 false (Goes-cons open_it (Goes-append c.goes (Goes-append d.goes (Goes-cons bar_it (Goes-append g.goes (Goes-one (step_ends mark.CloseBrace _ refl (g.folds 2 (omega arith)) end_it)))))))

  lists_come : {us : List Placed} {xs : Trees} → AreElements us xs → (s : Span) (ws : List Waiting) → ListComes s ws us xs
  lists_come (grammar.one_element {a = a} p) s ws =
      let c = complete p (open_at (list s none) ∷ ws) (omega arith) in
      record { now = c.now; fresh = c.fresh; last = c.last; goes = c.goes; earlier = none; item = a; folds = c.folds 2 (omega arith); all = refl }
  lists_come (grammar.more_elements {xs = xs} {a = a} x p q) s ws =
      let c = lists_come p s ws in
      let d = complete q (open_at (list s xs) ∷ ws) (omega arith) in
      let comma : Steps (c.now, behind c.fresh c.last) (sign_at sign.Comma x) (open_at (list s xs) ∷ ws, before) = subst (λ (ys : Trees). Steps (c.now, behind c.fresh c.last) (sign_at sign.Comma x) (open_at (list s ys) ∷ ws, before)) c.all (step_lists x c.folds) in
      record { now = d.now; fresh = d.fresh; last = d.last; goes = Goes-append c.goes (Goes-cons comma d.goes); earlier = xs; item = a; folds = d.folds 2 (omega arith); all = refl }

  binds_come : {x : Lexeme} {us : List Placed} {bs : Binders} → AreBinders x us bs → (g : Group) → x ≡ separator g → (o : Opening) → Begins g o no_binders → (ws : List Waiting) → BindsCome g o ws us bs
  binds_come (grammar.one_binder {x = x} {us = us} {vs = vs} {p = p} {e = e} s i q) g h o b ws =
      let c = binds_at g o no_binders x s ws h b i in
      let d = complete q (open_at (value g no_binders p) ∷ ws) (omega arith) in
      record { now = d.now; fresh = d.fresh; last = d.last; goes = regroup us vs (token_at x s) _ _ _ c d.goes; earlier = no_binders; bound_to = p; item = e; folds = d.folds 2 (omega arith); all = refl }
  binds_come (grammar.more_binders {x = x} {us = us} {vs = vs} {bs = bs} {p = p} {e = e} y s r i q) g h o b ws =
      let a = binds_come r g h o b ws in
      let c = binds_at g (binders g bs) bs x s ws h (binders_begin g bs) i in
      let d = complete q (open_at (value g bs p) ∷ ws) (omega arith) in
      let semicolon : Steps (a.now, behind a.fresh a.last) (sign_at sign.Semicolon y) (open_at (binders g bs) ∷ ws, before) = step_marks mark.Semicolon _ refl a.folds (ap (λ (cs : Binders). Some (becomes (open_at (binders g cs)))) a.all) in
      record { now = d.now; fresh = d.fresh; last = d.last; goes = Goes-append a.goes (Goes-cons semicolon (regroup us vs (token_at x s) _ _ _ c d.goes)); earlier = bs; bound_to = p; item = e; folds = d.folds 2 (omega arith); all = refl }

  body_comes : {us : List Placed} {bs : Binders} {e : Tree} → IsBody us bs e → (s : Span) (ws : List Waiting) → BodyComes s ws us bs e
  body_comes (grammar.body {e = e} x p) s ws =
      let c = complete p (open_at (brace s) ∷ ws) (omega arith) in
      record { given = Some e; start = binders (each_group s (Some e)) no_binders; goes = Goes-append c.goes (Goes-one (step_marks mark.Colon _ refl (c.folds 2 (omega arith)) refl)); begins = binders_begin (each_group s (Some e)) no_binders; is_body = refl }
  body_comes grammar.bodiless s ws = record { given = None; start = brace s; goes = Goes-none _; begins = brace_begins s; is_body = refl }

expression_from : (ts : List Placed) (e : Tree) → Comes [] ts 2 e → expression ts ≡ Some e
expression_from ts e c = rw c.goes.goes (ap (on_both alone) (c.folds 2 (omega arith)))

-- the tree that the grammar gives is the one that is read
pub reads_it : {ts : List Placed} {e : Tree} → IsExpression 2 ts e → expression ts ≡ Some e
reads_it {ts = ts} {e = e} p = expression_from ts e (complete p [] (omega arith))

-- so there is one
pub one_tree : {ts : List Placed} {a b : Tree} → IsExpression 2 ts a → IsExpression 2 ts b → a ≡ b
one_tree p q = let e = reads_it p in let f = reads_it q in cc

-- the same of a pattern and of a type
pub reads_pattern : {ts : List Placed} {p : PatternTree} → IsPattern ts p → option_and_then pattern_in (expression ts) ≡ Some p
reads_pattern {ts = ts} {p = p} i = rw (expression_from ts (tree_of_pattern p) (loosely (omega arith) (pattern_comes i []))) (pattern_read p)

pub reads_type : {ts : List Placed} {a : TypeTree} → IsType ts a → written_type ts ≡ Some a
reads_type i = let g = type_comes i [] in rw g.goes refl

pub one_pattern : {ts : List Placed} {p q : PatternTree} → IsPattern ts p → IsPattern ts q → p ≡ q
one_pattern i j = let e = reads_pattern i in let f = reads_pattern j in cc

pub one_type : {ts : List Placed} {a b : TypeTree} → IsType ts a → IsType ts b → a ≡ b
one_type i j = let e = reads_type i in let f = reads_type j in cc
