-- Each node has a token of its own besides its parts, so its span differs from theirs.
use Rattle.std.proofs.Common.{◌≡◌, ℕ, ◌+◌, ◌≤◌, ◌<◌, List, [], ◌∷◌, ◌++◌, refl, ap, sym, ◌∙◌, subst, arith, append_assoc}
use Rattle.std.specs.List.{AllByRecursion as All, AllPairs}
use Rattle.std.proofs.lemmas.List.Elements.{All-from_recursion}
use Rattle.std.proofs.lemmas.List.Kept.{AllPairs-cons}
use Rattle.nesl_lex.specs.Tokens.{Placed, Lexeme}
use Rattle.nesl_lex.specs.Places.{InOrder, none_left, more_left}
use Rattle.nesl_lex.specs.declared.token.Span.{Span}
use Rattle.nesl_lex.specs.declared.token.Word.TheVariants as word
use Rattle.nesl_lex.specs.declared.token.Sign.TheVariants as sign
use Rattle.nesl_syntax_tree.specs.Trees.{Tree, Shape, Trees, Binders, PatternTree, TypeTree, FormTree, node, pattern, written, span_of, pattern_span, type_span, tree_on, pattern_on, type_on, with_last, with_last_binder, none, more, no_binders, binder}
use Rattle.nesl_syntax_tree.specs.Trees as trees
use Rattle.nesl_syntax_tree.specs.Grammar as grammar
use Rattle.nesl_syntax_tree.specs.Grammar.{spanning, token_at, sign_at, word_at, name_at, IsType, IsPattern, IsExpression, AreElements, AreBinders, IsBody, unwritten_body}
use Rattle.nesl_syntax_tree.specs.Lines as lines
use Rattle.nesl_syntax_tree.specs.Lines.{IsForm}
use Rattle.nesl_cost_spans.specs.Names.{spans, spans_below, spans_of, bound_spans, line_spans}

-- a span with a byte at least, between two places
record IsIn (i j : ℕ) (s : Span) : Type 0 where
  low : i ≤ s.start
  some : s.start < s.end
  high : s.end ≤ j

-- no two spans are the same, by recursion on the list
abbrev AllDiffer : List Span → Type 0
AllDiffer [] = Unit {0}
AllDiffer (s ∷ ss) = All (λ t. s ≡ t → ⊥) ss × AllDiffer ss

all_pairs : (ss : List Span) → AllDiffer ss → AllPairs (λ (s t : Span). s ≡ t → ⊥) ss
all_pairs [] d = λ i j x l m. absurd (omega (arith, l, m))
all_pairs (s ∷ ss) d =
    AllPairs-cons (λ (a b : Span). a ≡ b → ⊥) s ss (All-from_recursion (λ t. s ≡ t → ⊥) ss d.0) (all_pairs ss d.1)

All-append : {X : Type 0} (P : X → Type 0) (xs ys : List X) → All P xs → All P ys → All P (xs ++ ys)
All-append P [] ys a b = b
All-append P (x ∷ xs) ys a b = (a.0, All-append P xs ys a.1 b)

-- spans between two places, no two the same
record Apart (i : ℕ) (ss : List Span) (j : ℕ) : Type 0 where
  order : i ≤ j
  within : All (IsIn i j) ss
  differ : AllDiffer ss

-- a span with a byte at least, within a larger one
record IsBelow (s t : Span) : Type 0 where
  low : s.start ≤ t.start
  some : t.start < t.end
  high : t.end ≤ s.end
  less : t.end + s.start < s.end + t.start

none_apart : {i j : ℕ} → i ≤ j → Apart i [] j
none_apart h = record { order = h; within = tt; differ = tt }

none_at : (n : ℕ) → Apart n [] n
none_at n = none_apart (omega arith)

all_wider : {i j : ℕ} (k l : ℕ) (ss : List Span) → k ≤ i → j ≤ l → All (IsIn i j) ss → All (IsIn k l) ss
all_wider k l [] h g a = tt
all_wider k l (s ∷ ss) h g a =
    let b = a.0 in
    let low = b.low in
    let high = b.high in
    (record { low = omega (arith, low, h); some = b.some; high = omega (arith, high, g) }, all_wider k l ss h g a.1)

wider : {i j : ℕ} {ss : List Span} (k l : ℕ) → k ≤ i → j ≤ l → Apart i ss j → Apart k ss l
wider {ss = ss} k l h g a =
    let o = a.order in record { order = omega (arith, o, h, g); within = all_wider k l ss h g a.within; differ = a.differ }

-- a span before a place differs from all behind it
before_all : {i m : ℕ} (n j : ℕ) (s : Span) (ss : List Span) → IsIn i m s → m ≤ n → All (IsIn n j) ss → All (λ t. s ≡ t → ⊥) ss
before_all n j s [] h o a = tt
before_all {m = m} n j s (t ∷ ss) h o a = (differs, before_all n j s ss h o a.1)
  where
    differs : s ≡ t → ⊥
    differs e =
        let same : s.end ≡ t.end = ap (λ (x : Span). x.end) e in
        let b = a.0 in
        let high = h.high in
        let low = b.low in
        let some = b.some in
        omega (arith, same, high, low, some, o)

all_differ : (i m n j : ℕ) (xs ys : List Span) → All (IsIn i m) xs → AllDiffer xs → m ≤ n → All (IsIn n j) ys → AllDiffer ys → AllDiffer (xs ++ ys)
all_differ i m n j [] ys a d o b e = e
all_differ i m n j (x ∷ xs) ys a d o b e =
    (All-append (λ t. x ≡ t → ⊥) xs ys d.0 (before_all n j x ys a.0 o b), all_differ i m n j xs ys a.1 d.1 o b e)

-- one row after another
both : {i m n j : ℕ} {xs ys : List Span} → Apart i xs m → m ≤ n → Apart n ys j → Apart i (xs ++ ys) j
both {i = i} {m = m} {n = n} {j = j} {xs = xs} {ys = ys} a o b =
    let p = a.order in
    let q = b.order in
    record {
      order = omega (arith, p, q, o);
      within = All-append (IsIn i j) xs ys (all_wider i j xs (omega arith) (omega (arith, q, o)) a.within) (all_wider i j ys (omega (arith, p, o)) (omega arith) b.within);
      differ = all_differ i m n j xs ys a.within a.differ o b.within b.differ;
    }

-- what is in less than a span is below it
below_all : {i j : ℕ} (s : Span) (ss : List Span) → s.start ≤ i → j ≤ s.end → j + s.start < s.end + i → All (IsIn i j) ss → All (IsBelow s) ss
below_all s [] h g l a = tt
below_all s (t ∷ ss) h g l a =
    let b = a.0 in
    let low = b.low in
    let high = b.high in (
      record { low = omega (arith, low, h); some = b.some; high = omega (arith, high, g); less = omega (arith, low, high, l) },
      below_all s ss h g l a.1,
    )

abbrev below_of : Tree → List Span
below_of (node s k) = spans_below k

-- a node between two places, whose parts have smaller spans than it has
record Named (i : ℕ) (e : Tree) (j : ℕ) : Type 0 where
  low : i ≤ (span_of e).start
  some : (span_of e).start < (span_of e).end
  high : (span_of e).end ≤ j
  below : All (IsBelow (span_of e)) (below_of e)
  differ : AllDiffer (below_of e)

in_all : (s : Span) (ss : List Span) → All (IsBelow s) ss → All (IsIn s.start s.end) ss
in_all s [] a = tt
in_all s (t ∷ ss) a = let b = a.0 in (record { low = b.low; some = b.some; high = b.high }, in_all s ss a.1)

first_differs : (s : Span) (ss : List Span) → All (IsBelow s) ss → All (λ t. s ≡ t → ⊥) ss
first_differs s [] a = tt
first_differs s (t ∷ ss) a = (differs, first_differs s ss a.1)
  where
    differs : s ≡ t → ⊥
    differs e =
        let p : s.start ≡ t.start = ap (λ (x : Span). x.start) e in
        let q : s.end ≡ t.end = ap (λ (x : Span). x.end) e in
        let b = a.0 in
        let less = b.less in
        omega (arith, p, q, less)

apart_of : {i j : ℕ} (e : Tree) → Named i e j → Apart (span_of e).start (spans e) (span_of e).end
apart_of (node s k) n =
    let some = n.some in
    record {
      order = omega (arith, some);
      within = (record { low = omega arith; some = some; high = omega arith }, in_all s (spans_below k) n.below);
      differ = (first_differs s (spans_below k) n.below, n.differ);
    }

from_low : {i j : ℕ} (e : Tree) → Named i e j → Apart i (spans e) (span_of e).end
from_low {i = i} e n = wider i (span_of e).end n.low (omega arith) (apart_of e n)

to_high : {i j : ℕ} (e : Tree) → Named i e j → Apart (span_of e).start (spans e) j
to_high {j = j} e n = wider (span_of e).start j (omega arith) n.high (apart_of e n)

apart_in : {i j : ℕ} (e : Tree) → Named i e j → Apart i (spans e) j
apart_in {i = i} {j = j} e n = wider i j n.low n.high (apart_of e n)

-- a node whose parts are in less than its span
node_named : {i j a b : ℕ} (s : Span) (k : Shape) → i ≤ s.start → s.start < s.end → s.end ≤ j → s.start ≤ a → b ≤ s.end → b + s.start < s.end + a →
    Apart a (spans_below k) b → Named i (node s k) j
node_named s k l m h f g d p = record { low = l; some = m; high = h; below = below_all s (spans_below k) f g d p.within; differ = p.differ }

-- a node from the first byte of one part to the last of another, which is behind that one
two_named : {i j m n : ℕ} (a b : Tree) (k : Shape) → spans_below k ≡ spans a ++ spans b → Named i a m → m ≤ n → Named n b j →
    Named i (node (spanning (span_of a) (span_of b)) k) j
two_named {i = i} {j = j} {m = m} {n = n} a b k e p o q =
    let s = spanning (span_of a) (span_of b) in
    let x = apart_of a p in
    let y = apart_of b q in
    let some-a = p.some in
    let some-b = q.some in
    let high-a = p.high in
    let low-b = q.low in
    let r : (span_of a).end ≤ (span_of b).start = omega (arith, high-a, low-b, o) in
    let all = both x r y in
    record {
      low = p.low;
      some = omega (arith, some-a, some-b, r);
      high = q.high;
      below = subst (λ (l : List Span). All (IsBelow s) l) (sym e)
          (All-append (IsBelow s) (spans a) (spans b)
          (below_all s (spans a) (omega arith) (omega (arith, some-b, r)) (omega (arith, some-b, r)) x.within)
          (below_all s (spans b) (omega (arith, some-a, r)) (omega arith) (omega (arith, some-a, r)) y.within));
      differ = subst (λ (l : List Span). AllDiffer l) (sym e) all.differ;
    }

all_below_wider : (s t : Span) (us : List Span) → s.start ≤ t.start → t.end ≤ s.end → All (IsBelow t) us → All (IsBelow s) us
all_below_wider s t [] h g a = tt
all_below_wider s t (u ∷ us) h g a =
    let b = a.0 in
    let low = b.low in
    let high = b.high in
    let less = b.less in (
      record { low = omega (arith, low, h); some = b.some; high = omega (arith, high, g); less = omega (arith, less, h, g) },
      all_below_wider s t us h g a.1,
    )

widened : {i j x y : ℕ} (s : Span) (e : Tree) → Named x e y → i ≤ s.start → s.end ≤ j → s.start ≤ (span_of e).start → (span_of e).end ≤ s.end →
    Named i (tree_on s e) j
widened s (node t k) n l m h g =
    let some = n.some in
    record { low = l; some = omega (arith, some, h, g); high = m; below = all_below_wider s t (spans_below k) h g n.below; differ = n.differ }

-- tokens in two parts
record Parted (i : ℕ) (us vs : List Placed) (j : ℕ) : Type 0 where
  mid : ℕ
  first : InOrder i us mid
  rest : InOrder mid vs j

parted : {i j : ℕ} (us vs : List Placed) → InOrder i (us ++ vs) j → Parted i us vs j
parted {i = i} [] vs h = record { mid = i; first = none_left (omega arith); rest = h }
parted (u ∷ us) vs (more_left a b r) = let p = parted us vs r in record { mid = p.mid; first = more_left a b p.first; rest = p.rest }

-- a token and what is after it
record Fronted (i : ℕ) (t : Placed) (ts : List Placed) (j : ℕ) : Type 0 where
  low : i ≤ t.span.start
  own : t.span.start < t.span.end
  rest : InOrder t.span.end ts j

fronted : {i j : ℕ} {t : Placed} {ts : List Placed} → InOrder i (t ∷ ts) j → Fronted i t ts j
fronted (more_left a b r) = record { low = a; own = b; rest = r }

ended : {i j : ℕ} → InOrder i [] j → i ≤ j
ended (none_left h) = h

in_order_low : {i j : ℕ} {ts : List Placed} → InOrder i ts j → i ≤ j
in_order_low (none_left h) = h
in_order_low (more_left a b r) = let c = in_order_low r in omega (arith, a, b, c)

leaf_named : {i j : ℕ} {t : Placed} (k : Shape) → spans_below k ≡ [] → InOrder i (t ∷ []) j → Named i (node t.span k) j
leaf_named {t = t} k e h =
    let f = fronted h in
    record {
      low = f.low;
      some = f.own;
      high = ended f.rest;
      below = subst (λ (l : List Span). All (IsBelow t.span) l) (sym e) tt;
      differ = subst (λ (l : List Span). AllDiffer l) (sym e) tt;
    }

wide_pattern : (s : Span) (a : PatternTree) → pattern_span (pattern_on s a) ≡ s
wide_pattern s (pattern t k) = refl

pattern_in : {us : List Placed} {p : PatternTree} {i j : ℕ} → IsPattern us p → InOrder i us j → IsIn i j (pattern_span p)
pattern_in (grammar.pattern_name x s) h = let f = fronted h in record { low = f.low; some = f.own; high = ended f.rest }
pattern_in (grammar.pattern_record {us = us} x s t u q) h =
    let f = fronted h in
    let o = fronted f.rest in
    let c = parted us (sign_at sign.CloseParenthesis u ∷ []) o.rest in
    let g = fronted c.rest in
    let d = in_order_low c.first in
    record { low = f.low; some = omega (arith, f.own, o.low, o.own, d, g.low, g.own); high = ended g.rest }
pattern_in {i = i} {j = j} (grammar.pattern_rounds {us = us} {p = a} s t q) h =
    let f = fronted h in
    let c = parted us (sign_at sign.CloseParenthesis t ∷ []) f.rest in
    let g = fronted c.rest in
    let d = in_order_low c.first in
    let in_rounds : IsIn i j (spanning s t) =
    record { low = f.low; some = omega (arith, f.own, d, g.low, g.own); high = ended g.rest } in
    subst (λ (x : Span). IsIn i j x) (sym (wide_pattern (spanning s t) a)) in_rounds

wide_tree : (s : Span) (a : Tree) → span_of (tree_on s a) ≡ s
wide_tree s (node t k) = refl

spans_and_then : (xs : Trees) (a : Tree) → spans_of (with_last xs a) ≡ spans_of xs ++ spans a
spans_and_then none a = append_nil (spans a)
  where
    append_nil : (l : List Span) → l ++ [] ≡ l
    append_nil [] = refl
    append_nil (x ∷ l) = ap (λ (y : List Span). x ∷ y) (append_nil l)
spans_and_then (more t ts) a =
    ap (λ (x : List Span). spans t ++ x) (spans_and_then ts a) ∙ sym (append_assoc (spans t) (spans_of ts) (spans a))

-- the span of the first pattern, which a body that isn't written has
abbrev first_span : Binders → List Span
first_span no_binders = []
first_span (binder p e bs) = pattern_span p ∷ []

abbrev with_first : Binders → List Span
with_first bs = first_span bs ++ bound_spans bs

bound_and_then : (bs : Binders) (p : PatternTree) (e : Tree) → bound_spans (with_last_binder bs p e) ≡ bound_spans bs ++ spans e
bound_and_then no_binders p e = append_nil (spans e)
  where
    append_nil : (l : List Span) → l ++ [] ≡ l
    append_nil [] = refl
    append_nil (x ∷ l) = ap (λ (y : List Span). x ∷ y) (append_nil l)
bound_and_then (binder q d bs) p e =
    ap (λ (x : List Span). spans d ++ x) (bound_and_then bs p e) ∙ sym (append_assoc (spans d) (bound_spans bs) (spans e))

one_span : {i j : ℕ} (s : Span) → IsIn i j s → Apart i (s ∷ []) j
one_span s h = let low = h.low in let some = h.some in let high = h.high in
    record { order = omega (arith, low, some, high); within = (h, tt); differ = (tt, tt) }

rest_apart : {i j : ℕ} (s : Span) (ss : List Span) → Apart i (s ∷ ss) j → Apart i ss j
rest_apart s ss a = record { order = a.order; within = a.within.1; differ = a.differ.1 }

-- no tokens are no binders
some_binder : {x : Lexeme} {us : List Placed} → AreBinders x us no_binders → ⊥
some_binder b = by b refl
  where
    by : {x : Lexeme} {us : List Placed} {bs : Binders} → AreBinders x us bs → bs ≡ no_binders → ⊥
    by (grammar.one_binder s p q) e = cc
    by (grammar.more_binders {bs = no_binders} {p = p} {e = t} c s b q r) e = cc
    by (grammar.more_binders {bs = binder p t cs} c s b q r) e = cc

with_first_and_then : {x : Lexeme} {us : List Placed} (bs : Binders) (p : PatternTree) (e : Tree) → AreBinders x us bs → with_first (with_last_binder bs p e) ≡ with_first bs ++ spans e
with_first_and_then no_binders p e b = absurd (some_binder b)
with_first_and_then (binder q d bs) p e b = ap (λ (l : List Span). pattern_span q ∷ l) (bound_and_then (binder q d bs) p e)

-- a type is between the places of its tokens
wide_type : (s : Span) (a : TypeTree) → type_span (type_on s a) ≡ s
wide_type s (written t k) = refl

type_in : {us : List Placed} {a : TypeTree} {i j : ℕ} → IsType us a → InOrder i us j → IsIn i j (type_span a)
type_in (grammar.type_int s) h = let f = fronted h in record { low = f.low; some = f.own; high = ended f.rest }
type_in (grammar.type_bool s) h = let f = fronted h in record { low = f.low; some = f.own; high = ended f.rest }
type_in (grammar.type_char s) h = let f = fronted h in record { low = f.low; some = f.own; high = ended f.rest }
type_in (grammar.type_name x s) h = let f = fronted h in record { low = f.low; some = f.own; high = ended f.rest }
type_in (grammar.type_sequence {us = us} s t q) h =
    let f = fronted h in
    let c = parted us (sign_at sign.CloseBracket t ∷ []) f.rest in
    let g = fronted c.rest in
    let d = in_order_low c.first in
    record { low = f.low; some = omega (arith, f.own, d, g.low, g.own); high = ended g.rest }
type_in {i = i} {j = j} (grammar.type_rounds {us = us} {a = a} s t q) h =
    let f = fronted h in
    let c = parted us (sign_at sign.CloseParenthesis t ∷ []) f.rest in
    let g = fronted c.rest in
    let d = in_order_low c.first in
    let in_rounds : IsIn i j (spanning s t) =
    record { low = f.low; some = omega (arith, f.own, d, g.low, g.own); high = ended g.rest } in
    subst (λ (x : Span). IsIn i j x) (sym (wide_type (spanning s t) a)) in_rounds

without_first : {i j : ℕ} (bs : Binders) → Apart i (with_first bs) j → Apart i (bound_spans bs) j
without_first no_binders a = a
without_first (binder p e bs) a = rest_apart (pattern_span p) (bound_spans (binder p e bs)) a

mutual
  named : {n : ℕ} {ts : List Placed} {e : Tree} {i j : ℕ} → IsExpression n ts e → InOrder i ts j → Named i e j
  named (grammar.looser p) h = named p h
  named (grammar.pairs {us = us} {vs = vs} {a = a} {b = b} s p q) h =
      let c = parted us (sign_at sign.Comma s ∷ vs) h in
      let f = fronted c.rest in
      two_named a b (trees.pair a b) refl (named p c.first) (omega (arith, f.low, f.own)) (named q f.rest)
  named (grammar.lets {us = us} {vs = vs} {bs = bs} {e = e} i t p q) h =
      let f = fronted h in
      let c = parted us (word_at word.In t ∷ vs) f.rest in
      let g = fronted c.rest in
      let l = without_first bs (binds_apart p c.first) in
      let a = named q g.rest in
      let k = both l (omega (arith, g.low, g.own)) (from_low e a) in
      let o = l.order in
      let y = a.low in
      let z = a.some in
      node_named (spanning i (span_of e)) (trees.let_in bs e) f.low (omega (arith, f.own, o, g.low, g.own, y, z)) a.high (omega (arith, f.own)) (omega arith)
      (omega (arith, f.own)) k
  named (grammar.closed_lets {us = us} {vs = vs} {bs = bs} {e = e} i s t p q) h =
      let f = fronted h in
      let c = parted us (sign_at sign.Semicolon s ∷ (word_at word.In t ∷ vs)) f.rest in
      let g = fronted c.rest in
      let r = fronted g.rest in
      let l = without_first bs (binds_apart p c.first) in
      let a = named q r.rest in
      let k = both l (omega (arith, g.low, g.own, r.low, r.own)) (from_low e a) in
      let o = l.order in
      let y = a.low in
      let z = a.some in
      node_named (spanning i (span_of e)) (trees.let_in bs e) f.low (omega (arith, f.own, o, g.low, g.own, r.low, r.own, y, z)) a.high (omega (arith, f.own)) (omega arith)
      (omega (arith, f.own)) k
  named (grammar.chooses {us = us} {vs = vs} {ws = ws} {a = x} {b = y} {c = z} i t l p q r) h =
      let f = fronted h in
      let c = parted us (word_at word.Then t ∷ (vs ++ (word_at word.Else l ∷ ws))) f.rest in
      let g = fronted c.rest in
      let d = parted vs (word_at word.Else l ∷ ws) g.rest in
      let k = fronted d.rest in
      let a = apart_in x (named p c.first) in
      let b = apart_in y (named q d.first) in
      let e = named r k.rest in
      let m = both a (omega (arith, g.low, g.own)) (both b (omega (arith, k.low, k.own)) (from_low z e)) in
      let o = a.order in
      let u = b.order in
      let v = e.low in
      let w = e.some in
      node_named (spanning i (span_of z)) (trees.choice x y z) f.low (omega (arith, f.own, o, u, g.low, g.own, k.low, k.own, v, w)) e.high (omega (arith, f.own))
      (omega arith) (omega (arith, f.own)) m
  named (grammar.joins {us = us} {vs = vs} {a = a} {b = b} o s p q) h =
      let c = parted us (token_at _ s ∷ vs) h in
      let f = fronted c.rest in
      two_named a b (trees.infix_of o a b) refl (named p c.first) (omega (arith, f.low, f.own)) (named q f.rest)
  named (grammar.prefixes {a = x} o s p) h =
      let f = fronted h in
      let a = named p f.rest in
      let y = a.low in
      let z = a.some in
      node_named (spanning s (span_of x)) (trees.prefix_of o x) f.low (omega (arith, f.own, y, z)) a.high (omega (arith, f.own)) (omega arith) (omega (arith, f.own))
      (from_low x a)
  named (grammar.picks {us = us} {vs = vs} {a = x} {b = y} s t p q) h =
      let c = parted us (sign_at sign.OpenBracket s ∷ (vs ++ (sign_at sign.CloseBracket t ∷ []))) h in
      let f = fronted c.rest in
      let d = parted vs (sign_at sign.CloseBracket t ∷ []) f.rest in
      let g = fronted d.rest in
      let a = named p c.first in
      let b = apart_in y (named q d.first) in
      let m = both (to_high x a) (omega (arith, f.low, f.own)) b in
      let o = b.order in
      let u = a.some in
      let v = a.high in
      node_named (spanning (span_of x) t) (trees.index x y) a.low (omega (arith, u, v, f.low, f.own, o, g.low, g.own)) (ended g.rest) (omega arith) (omega (arith, g.low, g.own))
      (omega (arith, g.low, g.own)) m
  named (grammar.numbers n s) h = leaf_named (trees.number n) refl h
  named (grammar.truths b s) h = leaf_named (trees.truth b) refl h
  named (grammar.characters c s) h = leaf_named (trees.character c) refl h
  named (grammar.texts bytes s) h = leaf_named (trees.text bytes) refl h
  named (grammar.names x s) h = leaf_named (trees.variable x) refl h
  named (grammar.calls {us = us} {a = x} n s t u p) h =
      let f = fronted h in
      let o = fronted f.rest in
      let c = parted us (sign_at sign.CloseParenthesis u ∷ []) o.rest in
      let g = fronted c.rest in
      let a = apart_in x (named p c.first) in
      let d = a.order in
      node_named (spanning s u) (trees.call n x) f.low (omega (arith, f.own, o.low, o.own, d, g.low, g.own)) (ended g.rest) (omega (arith, f.own, o.low, o.own))
      (omega (arith, g.low, g.own)) (omega (arith, f.own, o.low, o.own, g.low, g.own)) a
  named {i = i} {j = j} (grammar.rounds {us = us} {a = x} s t p) h =
      let f = fronted h in
      let c = parted us (sign_at sign.CloseParenthesis t ∷ []) f.rest in
      let g = fronted c.rest in
      let a = named p c.first in
      let y = a.low in
      let z = a.high in
      widened (spanning s t) x a f.low (ended g.rest) (omega (arith, f.own, y)) (omega (arith, z, g.low, g.own))
  named (grammar.empties {us = us} {a = x} s t q) h =
      let f = fronted h in
      let g = fronted f.rest in
      let a = type_in q g.rest in
      node_named (spanning s (type_span x)) (trees.empty x) f.low (omega (arith, f.own, g.low, g.own, a.low, a.some)) a.high (omega arith) (omega arith)
      (omega (arith, f.own, g.low, g.own, a.low, a.some)) (none_at s.start)
  named (grammar.sequences {us = us} {xs = xs} s t p) h =
      let f = fronted h in
      let c = parted us (sign_at sign.CloseBracket t ∷ []) f.rest in
      let g = fronted c.rest in
      let l = lists_apart p c.first in
      let d = l.order in
      node_named (spanning s t) (trees.sequence xs) f.low (omega (arith, f.own, d, g.low, g.own)) (ended g.rest) (omega (arith, f.own)) (omega (arith, g.low, g.own))
      (omega (arith, f.own, g.low, g.own)) l
  named (grammar.ranges {us = us} {vs = vs} {a = y} {b = z} s x t p q) h =
      let f = fronted h in
      let c = parted us (sign_at sign.Colon x ∷ (vs ++ (sign_at sign.CloseBracket t ∷ []))) f.rest in
      let g = fronted c.rest in
      let d = parted vs (sign_at sign.CloseBracket t ∷ []) g.rest in
      let k = fronted d.rest in
      let m = both (apart_in y (named p c.first)) (omega (arith, g.low, g.own)) (apart_in z (named q d.first)) in
      let o = m.order in
      node_named (spanning s t) (trees.range y z) f.low (omega (arith, f.own, o, k.low, k.own)) (ended k.rest) (omega (arith, f.own)) (omega (arith, k.low, k.own))
      (omega (arith, f.own, k.low, k.own)) m
  named (grammar.strides {us = us} {vs = vs} {ws = ws} {a = u} {b = v} {e = w} s x y t p q r) h =
      let f = fronted h in
      let c = parted us (sign_at sign.Colon x ∷ (vs ++ (sign_at sign.Colon y ∷ (ws ++ (sign_at sign.CloseBracket t ∷ []))))) f.rest in
      let g = fronted c.rest in
      let d = parted vs (sign_at sign.Colon y ∷ (ws ++ (sign_at sign.CloseBracket t ∷ []))) g.rest in
      let k = fronted d.rest in
      let m = parted ws (sign_at sign.CloseBracket t ∷ []) k.rest in
      let l = fronted m.rest in
      let a = both (apart_in u (named p c.first)) (omega (arith, g.low, g.own)) (both (apart_in v (named q d.first)) (omega (arith, k.low, k.own)) (apart_in w (named r m.first))) in
      let o = a.order in
      node_named (spanning s t) (trees.strided_range u v w) f.low (omega (arith, f.own, o, l.low, l.own)) (ended l.rest) (omega (arith, f.own)) (omega (arith, l.low, l.own))
      (omega (arith, f.own, l.low, l.own)) a
  named (grammar.eaches {us = us} {vs = vs} {e = e} {bs = bs} s t p q) h =
      let f = fronted h in
      let c = parted us (vs ++ (sign_at sign.CloseBrace t ∷ [])) f.rest in
      let d = parted vs (sign_at sign.CloseBrace t ∷ []) c.rest in
      let g = fronted d.rest in
      let a = body_apart p q (binds_apart q d.first) c.first in
      let o = a.order in
      node_named (spanning s t) (trees.each e bs) f.low (omega (arith, f.own, o, g.low, g.own)) (ended g.rest) (omega (arith, f.own)) (omega (arith, g.low, g.own))
      (omega (arith, f.own, g.low, g.own)) a
  named (grammar.filters {us = us} {vs = vs} {ws = ws} {e = e} {f = y} {bs = bs} s x t p q r) h =
      let f = fronted h in
      let c = parted us (vs ++ (sign_at sign.Bar x ∷ (ws ++ (sign_at sign.CloseBrace t ∷ [])))) f.rest in
      let d = parted vs (sign_at sign.Bar x ∷ (ws ++ (sign_at sign.CloseBrace t ∷ []))) c.rest in
      let k = fronted d.rest in
      let m = parted ws (sign_at sign.CloseBrace t ∷ []) k.rest in
      let g = fronted m.rest in
      let a = both (body_apart p q (binds_apart q d.first) c.first) (omega (arith, k.low, k.own)) (apart_in y (named r m.first)) in
      let b = subst (λ (l : List Span). Apart s.end l m.mid) (append_assoc (spans e) (bound_spans bs) (spans y)) a in
      let o = a.order in
      node_named (spanning s t) (trees.filtered_each e bs y) f.low (omega (arith, f.own, o, g.low, g.own)) (ended g.rest) (omega (arith, f.own)) (omega (arith, g.low, g.own))
      (omega (arith, f.own, g.low, g.own)) b

  lists_apart : {us : List Placed} {xs : Trees} {i j : ℕ} → AreElements us xs → InOrder i us j → Apart i (spans_of xs) j
  lists_apart {i = i} {j = j} (grammar.one_element {a = a} p) h =
      subst (λ (l : List Span). Apart i l j) (sym (spans_and_then none a)) (apart_in a (named p h))
  lists_apart {i = i} {j = j} (grammar.more_elements {us = us} {vs = vs} {xs = xs} {a = a} s p q) h =
      let c = parted us (sign_at sign.Comma s ∷ vs) h in
      let f = fronted c.rest in
      subst (λ (l : List Span). Apart i l j) (sym (spans_and_then xs a)) (both (lists_apart p c.first) (omega (arith, f.low, f.own)) (apart_in a (named q f.rest)))

  -- with the first pattern before them
  binds_apart : {x : Lexeme} {us : List Placed} {bs : Binders} {i j : ℕ} → AreBinders x us bs → InOrder i us j → Apart i (with_first bs) j
  binds_apart {i = i} {j = j} (grammar.one_binder {x = x} {us = us} {vs = vs} {p = p} {e = e} s q r) h =
      let c = parted us (token_at x s ∷ vs) h in
      let f = fronted c.rest in
      subst (λ (l : List Span). Apart i (pattern_span p ∷ l) j) (sym (bound_and_then no_binders p e))
      (both (one_span (pattern_span p) (pattern_in q c.first)) (omega (arith, f.low, f.own)) (apart_in e (named r f.rest)))
  binds_apart {i = i} {j = j} (grammar.more_binders {x = x} {ts = ts} {us = us} {vs = vs} {bs = bs} {p = p} {e = e} y s b q r) h =
      let c = parted ts (sign_at sign.Semicolon y ∷ (us ++ (token_at x s ∷ vs))) h in
      let f = fronted c.rest in
      let d = parted us (token_at x s ∷ vs) f.rest in
      let g = fronted d.rest in
      let k = pattern_in q d.first in
      let o = k.low in
      let m = k.some in
      let n = k.high in
      let all = both (binds_apart b c.first) (omega (arith, f.low, f.own, o, m, n, g.low, g.own)) (apart_in e (named r g.rest)) in
      subst (λ (l : List Span). Apart i l j) (sym (with_first_and_then bs p e b)) all

  body_apart : {us vs : List Placed} {bs : Binders} {e : Tree} {x : Lexeme} {i m j : ℕ} → IsBody us bs e → AreBinders x vs bs → Apart m (with_first bs) j → InOrder i us m →
      Apart i (spans e ++ bound_spans bs) j
  body_apart {bs = bs} (grammar.body {us = us} {e = e} y p) q l h =
      let c = parted us (sign_at sign.Colon y ∷ []) h in
      let f = fronted c.rest in
      let z = ended f.rest in
      both (apart_in e (named p c.first)) (omega (arith, f.low, f.own, z)) (without_first bs l)
  body_apart (grammar.bodiless {bs = no_binders}) q l h = absurd (some_binder q)
  body_apart {i = i} {j = j} (grammar.bodiless {bs = binder p e bs}) q l h = wider i j (ended h) (omega arith) l

line_differs : {ts : List Placed} {l : FormTree} {i j : ℕ} → IsForm ts l → InOrder i ts j → AllDiffer (line_spans l)
line_differs lines.no_tokens h = tt
line_differs (lines.functions {us = us} {vs = vs} {e = e} x i j t u p q) h =
    let f = fronted h in
    let n = fronted f.rest in
    let c = parted us (sign_at sign.Equal t ∷ (vs ++ (sign_at sign.Semicolon u ∷ []))) n.rest in
    let g = fronted c.rest in
    let d = parted vs (sign_at sign.Semicolon u ∷ []) g.rest in
    (apart_in e (named q d.first)).differ
line_differs (lines.datatypes x i j u p) h = tt
line_differs (lines.binds {us = us} {e = e} x s t u p) h =
    let f = fronted h in
    let n = fronted f.rest in
    let c = parted us (sign_at sign.Semicolon u ∷ []) n.rest in
    (apart_in e (named p c.first)).differ
line_differs (lines.evaluates {us = us} {e = e} u p) h =
    let c = parted us (sign_at sign.Semicolon u ∷ []) h in
    (apart_in e (named p c.first)).differ
line_differs (lines.names_shown c s) h = tt
line_differs (lines.budget_shown c s) h = tt
line_differs (lines.type_shown {us = us} {e = e} x s u p) h =
    let f = fronted h in
    let n = fronted f.rest in
    let c = parted us (sign_at sign.Semicolon u ∷ []) n.rest in
    (apart_in e (named p c.first)).differ

pub spans_differ : {ts : List Placed} {l : FormTree} {i j : ℕ} → IsForm ts l → InOrder i ts j → AllPairs (λ (s t : Span). s ≡ t → ⊥) (line_spans l)
spans_differ {l = l} p h = all_pairs (line_spans l) (line_differs p h)
