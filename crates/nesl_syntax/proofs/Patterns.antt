-- An expression that is read as a pattern is one.
use Rattle.std.proofs.Common.{◌≡◌, ℕ, ◌≤◌, List, [], ◌∷◌, Option, Some, None, refl, ap, sym, subst, ◌∙◌, arith}
use Rattle.nesl_lex.specs.Tokens.{Placed}
use Rattle.nesl_lex.specs.declared.token.Span.{Span}
use Rattle.nesl_syntax_tree.specs.Trees.{Tree, Shape, PatternTree, PatternShape, node, pattern, span_of, pattern_span, tree_on, pattern_on}
use Rattle.nesl_syntax_tree.specs.Trees as trees
use Rattle.nesl_syntax_tree.specs.Grammar as grammar
use Rattle.nesl_syntax_tree.specs.Grammar.{spanning, IsPattern, ArePatterns, IsExpression}
use Rattle.nesl_syntax_tree.specs.Patterns.{pattern_in, pattern_shape_in, shape_pair, shape_record, with_span}

-- a phrase that is read as a pattern
pub record PatternOf (n : ℕ) (ts : List Placed) (p : PatternTree) : Type 0 where
  pub many : ArePatterns ts p
  pub alone : 2 ≤ n → IsPattern ts p

alone_of : {n : ℕ} {ts : List Placed} {p : PatternTree} → IsPattern ts p → PatternOf n ts p
alone_of i = record { many = grammar.one_pattern i; alone = λ k. i }

-- the parts of what is read
pub record SpanOf (s : Span) (o : Option PatternShape) (p : PatternTree) : Type 0 where
  pub shape : PatternShape
  pub is_some : o ≡ Some shape
  pub is_pattern : p ≡ pattern s shape

span_parts : (s : Span) (o : Option PatternShape) (p : PatternTree) → with_span s o ≡ Some p → SpanOf s o p
span_parts s None p h = cc
span_parts s (Some k) p h = record { shape = k; is_some = refl; is_pattern = cc }

pub record PairOf (a b : Option PatternTree) (k : PatternShape) : Type 0 where
  pub left : PatternTree
  pub right : PatternTree
  pub is_left : a ≡ Some left
  pub is_right : b ≡ Some right
  pub is_pair : k ≡ trees.pair_pattern left right

pair_parts : (a b : Option PatternTree) (k : PatternShape) → shape_pair a b ≡ Some k → PairOf a b k
pair_parts None b k h = cc
pair_parts (Some a) None k h = cc
pair_parts (Some a) (Some b) k h = record { left = a; right = b; is_left = refl; is_right = refl; is_pair = cc }

pub record RecordOf (x : List ℕ) (a : Option PatternTree) (k : PatternShape) : Type 0 where
  pub part : PatternTree
  pub is_part : a ≡ Some part
  pub is_record : k ≡ trees.record_pattern x part

record_parts : (x : List ℕ) (a : Option PatternTree) (k : PatternShape) → shape_record x a ≡ Some k → RecordOf x a k
record_parts x None k h = cc
record_parts x (Some a) k h = record { part = a; is_part = refl; is_record = cc }

-- a pattern's span is its expression's
span_kept : (e : Tree) (p : PatternTree) → pattern_in e ≡ Some p → pattern_span p ≡ span_of e
span_kept (node s k) p h = let r = span_parts s (pattern_shape_in k) p h in ap pattern_span r.is_pattern

-- without the parentheses
pub record NarrowOf (s : Span) (e : Tree) (p : PatternTree) : Type 0 where
  pub narrow : PatternTree
  pub reads : pattern_in e ≡ Some narrow
  pub wide : pattern_on s narrow ≡ p

narrowed : (s : Span) (e : Tree) (p : PatternTree) → pattern_in (tree_on s e) ≡ Some p → NarrowOf s e p
narrowed s (node t k) p h =
    let r = span_parts s (pattern_shape_in k) p h in
    record { narrow = pattern t r.shape; reads = ap (with_span t) r.is_some; wide = sym r.is_pattern }

name_is : {n : ℕ} (x : List ℕ) (s : Span) (p : PatternTree) → pattern_in (node s (trees.variable x)) ≡ Some p → PatternOf n (grammar.name_at x s ∷ []) p
name_is {n = n} x s p h = let e : pattern s (trees.name_pattern x) ≡ p = cc in subst (λ (q : PatternTree). PatternOf n (grammar.name_at x s ∷ []) q) e (alone_of (grammar.pattern_name x s))

are_as : {ts : List Placed} (a b : PatternTree) → a ≡ b → ArePatterns ts a → ArePatterns ts b
are_as {ts = ts} a b h i = subst (λ (x : PatternTree). ArePatterns ts x) h i

is_as : {ts : List Placed} (a b : PatternTree) → a ≡ b → IsPattern ts a → IsPattern ts b
is_as {ts = ts} a b h i = subst (λ (x : PatternTree). IsPattern ts x) h i

pub pattern_of_phrase : {n : ℕ} {ts : List Placed} {e : Tree} → IsExpression n ts e → 1 ≤ n → (p : PatternTree) → pattern_in e ≡ Some p → PatternOf n ts p
pattern_of_phrase (grammar.looser q) i p h = let r = pattern_of_phrase q (omega arith) p h in alone_of (r.alone (omega arith))
pattern_of_phrase (grammar.pairs {us = us} {vs = vs} {a = a} {b = b} s q r) i p h =
    let t = span_parts (spanning (span_of a) (span_of b)) (shape_pair (pattern_in a) (pattern_in b)) p h in
    let k = pair_parts (pattern_in a) (pattern_in b) t.shape t.is_some in
    let l = pattern_of_phrase q (omega arith) k.left k.is_left in
    let m = pattern_of_phrase r (omega arith) k.right k.is_right in
    let whole : pattern (spanning (pattern_span k.left) (pattern_span k.right)) (trees.pair_pattern k.left k.right) ≡ p = rw (span_kept a k.left k.is_left, span_kept b k.right k.is_right) (ap (pattern (spanning (span_of a) (span_of b))) (sym k.is_pair) ∙ sym t.is_pattern) in
    record { many = are_as _ _ whole (grammar.pattern_pairs s (l.alone (omega arith)) m.many); alone = λ j. absurd (omega arith) }
pattern_of_phrase (grammar.names x s) i p h = name_is x s p h
pattern_of_phrase (grammar.calls {a = a} x s t u q) i p h =
    let r = span_parts (spanning s u) (shape_record x (pattern_in a)) p h in
    let k = record_parts x (pattern_in a) r.shape r.is_some in
    let m = pattern_of_phrase q (omega arith) k.part k.is_part in
    let whole : pattern (spanning s u) (trees.record_pattern x k.part) ≡ p = ap (pattern (spanning s u)) (sym k.is_record) ∙ sym r.is_pattern in
    alone_of (is_as _ _ whole (grammar.pattern_record x s t u m.many))
pattern_of_phrase (grammar.rounds {a = a} s t q) i p h =
    let r = narrowed (spanning s t) a p h in
    let m = pattern_of_phrase q (omega arith) r.narrow r.reads in
    alone_of (is_as _ _ r.wide (grammar.pattern_rounds s t m.many))
pattern_of_phrase _ i p h = cc
