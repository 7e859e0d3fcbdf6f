-- Spans lie in order within the line.
use Rattle.std.proofs.Common.{◌≡◌, ℕ, ◌≤◌, List, [], ◌∷◌, ◌++◌, Option, Some, refl, ap, sym, subst, arith}
use Rattle.nesl_lex.specs.Tokens.{Placed, Lexeme}
use Rattle.nesl_lex.specs.Places.{InOrder, none_left, more_left}
use Rattle.nesl_lex.specs.declared.token.Span.{Span}
use Rattle.nesl_lex.specs.declared.token.Word.TheVariants as word
use Rattle.nesl_lex.specs.declared.token.Sign.TheVariants as sign
use Rattle.nesl_syntax_tree.specs.Trees.{Tree, Trees, Binders, PatternTree, TypeTree, SignatureTree, MemberTree, FormTree, node, pattern, written, span_of, pattern_span, type_span, tree_on, pattern_on, type_on, with_last, with_last_binder, none, more, no_binders, binder}
use Rattle.nesl_syntax_tree.specs.Trees as trees
use Rattle.nesl_syntax_tree.specs.Grammar as grammar
use Rattle.nesl_syntax_tree.specs.Grammar.{spanning, token_at, sign_at, word_at, name_at, IsType, AreTypes, IsPattern, ArePatterns, IsExpression, AreElements, AreBinders, IsBody}
use Rattle.nesl_syntax_tree.specs.Lines as lines
use Rattle.nesl_syntax_tree.specs.Lines.{IsSignature, IsHead, IsForm}
use Rattle.nesl_syntax_tree.specs.Spans.{Item, exp_item, pattern_item, type_item, item_span, items_of, bound_items, body_items, parts_of, Lined, none_lined, more_lined, Orderly, orderly, signature_items, line_items}

-- a node between two places
record Stands (i : ℕ) (x : Item) (j : ℕ) : Type 0 where
  low : i ≤ (item_span x).start
  own : Orderly x
  high : (item_span x).end ≤ j

mutual
  lined_low : {i j : ℕ} {xs : List Item} → Lined i xs j → i ≤ j
  lined_low (none_lined h) = h
  lined_low (more_lined h o r) = let a = orderly_low o in let b = lined_low r in omega arith

  orderly_low : {x : Item} → Orderly x → (item_span x).start ≤ (item_span x).end
  orderly_low (orderly l) = lined_low l

from_place : {i j : ℕ} {xs : List Item} (k : ℕ) → k ≤ i → Lined i xs j → Lined k xs j
from_place k h (none_lined g) = none_lined (omega arith)
from_place k h (more_lined g o r) = more_lined (omega arith) o r

to_place : {i j : ℕ} {xs : List Item} (k : ℕ) → j ≤ k → Lined i xs j → Lined i xs k
to_place k h (none_lined g) = none_lined (omega arith)
to_place k h (more_lined g o r) = more_lined g o (to_place k h r)

-- one row after another
behind : {i m n j : ℕ} {xs ys : List Item} → Lined i xs m → m ≤ n → Lined n ys j → Lined i (xs ++ ys) j
behind (none_lined g) h r = from_place _ (omega arith) r
behind (more_lined g o l) h r = more_lined g o (behind l h r)

exactly : {x : Item} → Orderly x → Lined (item_span x).start (x ∷ []) (item_span x).end
exactly o = more_lined (omega arith) o (none_lined (omega arith))

one_lined : {i j : ℕ} {x : Item} → Stands i x j → Lined i (x ∷ []) j
one_lined s = more_lined s.low s.own (none_lined s.high)

-- between wider places
within : {i j : ℕ} {xs : List Item} (k l : ℕ) → k ≤ i → j ≤ l → Lined i xs j → Lined k xs l
within k l h g r = from_place k h (to_place l g r)

widen_tree : (s : Span) (a : Tree) → Orderly (exp_item a) → s.start ≤ (span_of a).start → (span_of a).end ≤ s.end → Orderly (exp_item (tree_on s a))
widen_tree s (node t k) (orderly l) h g = orderly (within s.start s.end h g l)

widen_pattern : (s : Span) (a : PatternTree) → Orderly (pattern_item a) → s.start ≤ (pattern_span a).start → (pattern_span a).end ≤ s.end → Orderly (pattern_item (pattern_on s a))
widen_pattern s (pattern t k) (orderly l) h g = orderly (within s.start s.end h g l)

widen_type : (s : Span) (a : TypeTree) → Orderly (type_item a) → s.start ≤ (type_span a).start → (type_span a).end ≤ s.end → Orderly (type_item (type_on s a))
widen_type s (written t k) (orderly l) h g = orderly (within s.start s.end h g l)

wide_tree : (s : Span) (a : Tree) → item_span (exp_item (tree_on s a)) ≡ s
wide_tree s (node t k) = refl

wide_pattern : (s : Span) (a : PatternTree) → item_span (pattern_item (pattern_on s a)) ≡ s
wide_pattern s (pattern t k) = refl

wide_type : (s : Span) (a : TypeTree) → item_span (type_item (type_on s a)) ≡ s
wide_type s (written t k) = refl

-- tokens in two parts
record Parted (i : ℕ) (us vs : List Placed) (j : ℕ) : Type 0 where
  mid : ℕ
  first : InOrder i us mid
  rest : InOrder mid vs j

parted : {i j : ℕ} (us vs : List Placed) → InOrder i (us ++ vs) j → Parted i us vs j
parted {i = i} [] vs h = record { mid = i; first = none_left (omega arith); rest = h }
parted (u ∷ us) vs (more_left a b r) = let p = parted us vs r in record { mid = p.mid; first = more_left a b p.first; rest = p.rest }

-- a token and what is after it
record Fronted (i : ℕ) (t : Placed) (ts : List Placed) (j : ℕ) : Type 0 where
  low : i ≤ t.span.start
  own : t.span.start ≤ t.span.end
  rest : InOrder t.span.end ts j

fronted : {i j : ℕ} {t : Placed} {ts : List Placed} → InOrder i (t ∷ ts) j → Fronted i t ts j
fronted (more_left a b r) = record { low = a; own = omega arith; rest = r }

ended : {i j : ℕ} → InOrder i [] j → i ≤ j
ended (none_left h) = h

in_order_low : {i j : ℕ} {ts : List Placed} → InOrder i ts j → i ≤ j
in_order_low (none_left h) = h
in_order_low (more_left a b r) = let c = in_order_low r in omega arith

mutual
  type_stands : {us : List Placed} {a : TypeTree} {i j : ℕ} → IsType us a → InOrder i us j → Stands i (type_item a) j
  type_stands (grammar.type_int s) h = let f = fronted h in record { low = f.low; own = orderly (none_lined f.own); high = ended f.rest }
  type_stands (grammar.type_bool s) h = let f = fronted h in record { low = f.low; own = orderly (none_lined f.own); high = ended f.rest }
  type_stands (grammar.type_char s) h = let f = fronted h in record { low = f.low; own = orderly (none_lined f.own); high = ended f.rest }
  type_stands (grammar.type_name x s) h = let f = fronted h in record { low = f.low; own = orderly (exactly (orderly (none_lined f.own))); high = ended f.rest }
  type_stands (grammar.type_sequence {us = us} s t q) h =
      let f = fronted h in
      let p = parted us (sign_at sign.CloseBracket t ∷ []) f.rest in
      let g = fronted p.rest in
      let a = type_stands q p.first in
      record { low = f.low; own = orderly (within s.start t.end (omega arith) (omega arith) (one_lined a)); high = ended g.rest }
  type_stands (grammar.type_rounds {us = us} {a = a} s t q) h =
      let f = fronted h in
      let p = parted us (sign_at sign.CloseParenthesis t ∷ []) f.rest in
      let g = fronted p.rest in
      let k = types_stand q p.first in
      let e = wide_type (spanning s t) a in
      let z = ended g.rest in
      record { low = rw e f.low; own = widen_type (spanning s t) a k.own (omega arith) (omega arith); high = rw e z }

  types_stand : {us : List Placed} {a : TypeTree} {i j : ℕ} → AreTypes us a → InOrder i us j → Stands i (type_item a) j
  types_stand (grammar.one_type q) h = type_stands q h
  types_stand (grammar.type_pairs {us = us} {vs = vs} s q r) h =
      let p = parted us (sign_at sign.Comma s ∷ vs) h in
      let f = fronted p.rest in
      let a = type_stands q p.first in
      let b = types_stand r f.rest in
      record { low = a.low; own = orderly (behind (exactly a.own) (omega arith) (exactly b.own)); high = b.high }

mutual
  pattern_stands : {us : List Placed} {p : PatternTree} {i j : ℕ} → IsPattern us p → InOrder i us j → Stands i (pattern_item p) j
  pattern_stands (grammar.pattern_name x s) h = let f = fronted h in record { low = f.low; own = orderly (none_lined f.own); high = ended f.rest }
  pattern_stands (grammar.pattern_record {us = us} x s t u q) h =
      let f = fronted h in
      let o = fronted f.rest in
      let p = parted us (sign_at sign.CloseParenthesis u ∷ []) o.rest in
      let g = fronted p.rest in
      let a = patterns_stand q p.first in
      record { low = f.low; own = orderly (within s.start u.end (omega arith) (omega arith) (one_lined a)); high = ended g.rest }
  pattern_stands (grammar.pattern_rounds {us = us} {p = a} s t q) h =
      let f = fronted h in
      let p = parted us (sign_at sign.CloseParenthesis t ∷ []) f.rest in
      let g = fronted p.rest in
      let k = patterns_stand q p.first in
      let e = wide_pattern (spanning s t) a in
      let z = ended g.rest in
      record { low = rw e f.low; own = widen_pattern (spanning s t) a k.own (omega arith) (omega arith); high = rw e z }

  patterns_stand : {us : List Placed} {p : PatternTree} {i j : ℕ} → ArePatterns us p → InOrder i us j → Stands i (pattern_item p) j
  patterns_stand (grammar.one_pattern q) h = pattern_stands q h
  patterns_stand (grammar.pattern_pairs {us = us} {vs = vs} s q r) h =
      let p = parted us (sign_at sign.Comma s ∷ vs) h in
      let f = fronted p.rest in
      let a = pattern_stands q p.first in
      let b = patterns_stand r f.rest in
      record { low = a.low; own = orderly (behind (exactly a.own) (omega arith) (exactly b.own)); high = b.high }

items_and_then : (xs : Trees) (a : Tree) → items_of (with_last xs a) ≡ items_of xs ++ (exp_item a ∷ [])
items_and_then none a = refl
items_and_then (more t ts) a = ap (λ (x : List Item). exp_item t ∷ x) (items_and_then ts a)

items_and_bind : (bs : Binders) (p : PatternTree) (e : Tree) → bound_items (with_last_binder bs p e) ≡ bound_items bs ++ (pattern_item p ∷ (exp_item e ∷ []))
items_and_bind no_binders p e = refl
items_and_bind (binder q d bs) p e = ap (λ (x : List Item). pattern_item q ∷ (exp_item d ∷ x)) (items_and_bind bs p e)

body_lined : {i j : ℕ} (e : Tree) → Stands i (exp_item e) j → Lined i (body_items e) j
body_lined (node s trees.element) h = let o = orderly_low h.own in let l = h.low in let g = h.high in none_lined (omega arith)
body_lined e h = one_lined h

-- a leaf
leaf_stands : {i j : ℕ} {t : Placed} (x : Item) → item_span x ≡ t.span → parts_of x ≡ [] → InOrder i (t ∷ []) j → Stands i x j
leaf_stands {i = i} {j = j} {t = t} x e k h =
    let f = fronted h in
    let z = ended f.rest in
    let low : i ≤ (item_span x).start = rw e f.low in
    let high : (item_span x).end ≤ j = rw e z in
    let own : (item_span x).start ≤ (item_span x).end = rw e f.own in
    record { low = low; own = orderly (subst (λ (xs : List Item). Lined (item_span x).start xs (item_span x).end) (sym k) (none_lined own)); high = high }

mutual
  stands : {n : ℕ} {ts : List Placed} {e : Tree} {i j : ℕ} → IsExpression n ts e → InOrder i ts j → Stands i (exp_item e) j
  stands (grammar.looser p) h = stands p h
  stands (grammar.pairs {us = us} {vs = vs} s p q) h =
      let c = parted us (sign_at sign.Comma s ∷ vs) h in
      let f = fronted c.rest in
      let a = stands p c.first in
      let b = stands q f.rest in
      record { low = a.low; own = orderly (behind (exactly a.own) (omega arith) (exactly b.own)); high = b.high }
  stands (grammar.lets {us = us} {vs = vs} {e = e} i t p q) h =
      let f = fronted h in
      let c = parted us (word_at word.In t ∷ vs) f.rest in
      let g = fronted c.rest in
      let l = binds_lined p c.first in
      let a = stands q g.rest in
      record { low = f.low; own = orderly (from_place i.start (omega arith) (behind l (omega arith) (exactly a.own))); high = a.high }
  stands (grammar.closed_lets {us = us} {vs = vs} {e = e} i s t p q) h =
      let f = fronted h in
      let c = parted us (sign_at sign.Semicolon s ∷ (word_at word.In t ∷ vs)) f.rest in
      let g = fronted c.rest in
      let k = fronted g.rest in
      let l = binds_lined p c.first in
      let a = stands q k.rest in
      record { low = f.low; own = orderly (from_place i.start (omega arith) (behind l (omega arith) (exactly a.own))); high = a.high }
  stands (grammar.chooses {us = us} {vs = vs} {ws = ws} i t l p q r) h =
      let f = fronted h in
      let c = parted us (word_at word.Then t ∷ (vs ++ (word_at word.Else l ∷ ws))) f.rest in
      let g = fronted c.rest in
      let d = parted vs (word_at word.Else l ∷ ws) g.rest in
      let k = fronted d.rest in
      let a = stands p c.first in
      let b = stands q d.first in
      let e = stands r k.rest in
      record { low = f.low; own = orderly (from_place i.start (omega arith) (behind (one_lined a) (omega arith) (behind (one_lined b) (omega arith) (exactly e.own)))); high = e.high }
  stands (grammar.joins {us = us} {vs = vs} o s p q) h =
      let c = parted us (token_at _ s ∷ vs) h in
      let f = fronted c.rest in
      let a = stands p c.first in
      let b = stands q f.rest in
      record { low = a.low; own = orderly (behind (exactly a.own) (omega arith) (exactly b.own)); high = b.high }
  stands (grammar.prefixes o s p) h =
      let f = fronted h in
      let a = stands p f.rest in
      record { low = f.low; own = orderly (from_place s.start (omega arith) (exactly a.own)); high = a.high }
  stands (grammar.picks {us = us} {vs = vs} s t p q) h =
      let c = parted us (sign_at sign.OpenBracket s ∷ (vs ++ (sign_at sign.CloseBracket t ∷ []))) h in
      let f = fronted c.rest in
      let d = parted vs (sign_at sign.CloseBracket t ∷ []) f.rest in
      let g = fronted d.rest in
      let a = stands p c.first in
      let b = stands q d.first in
      record { low = a.low; own = orderly (to_place t.end (omega arith) (behind (exactly a.own) (omega arith) (one_lined b))); high = ended g.rest }
  stands (grammar.numbers n s) h = leaf_stands _ refl refl h
  stands (grammar.truths b s) h = leaf_stands _ refl refl h
  stands (grammar.characters c s) h = leaf_stands _ refl refl h
  stands (grammar.texts bytes s) h = leaf_stands _ refl refl h
  stands (grammar.names x s) h = leaf_stands _ refl refl h
  stands (grammar.calls {us = us} x s t u p) h =
      let f = fronted h in
      let o = fronted f.rest in
      let c = parted us (sign_at sign.CloseParenthesis u ∷ []) o.rest in
      let g = fronted c.rest in
      let a = stands p c.first in
      record { low = f.low; own = orderly (within s.start u.end (omega arith) (omega arith) (one_lined a)); high = ended g.rest }
  stands (grammar.rounds {us = us} {a = x} s t p) h =
      let f = fronted h in
      let c = parted us (sign_at sign.CloseParenthesis t ∷ []) f.rest in
      let g = fronted c.rest in
      let k = stands p c.first in
      let e = wide_tree (spanning s t) x in
      let z = ended g.rest in
      record { low = rw e f.low; own = widen_tree (spanning s t) x k.own (omega arith) (omega arith); high = rw e z }
  stands (grammar.empties {us = us} {a = x} s t q) h =
      let f = fronted h in
      let g = fronted f.rest in
      let a = type_stands q g.rest in
      record { low = f.low; own = orderly (within s.start (type_span x).end (omega arith) (omega arith) (exactly a.own)); high = a.high }
  stands (grammar.sequences {us = us} s t p) h =
      let f = fronted h in
      let c = parted us (sign_at sign.CloseBracket t ∷ []) f.rest in
      let g = fronted c.rest in
      let l = lists_lined p c.first in
      record { low = f.low; own = orderly (within s.start t.end (omega arith) (omega arith) l); high = ended g.rest }
  stands (grammar.ranges {us = us} {vs = vs} s x t p q) h =
      let f = fronted h in
      let c = parted us (sign_at sign.Colon x ∷ (vs ++ (sign_at sign.CloseBracket t ∷ []))) f.rest in
      let g = fronted c.rest in
      let d = parted vs (sign_at sign.CloseBracket t ∷ []) g.rest in
      let k = fronted d.rest in
      let a = stands p c.first in
      let b = stands q d.first in
      record { low = f.low; own = orderly (within s.start t.end (omega arith) (omega arith) (behind (one_lined a) (omega arith) (one_lined b))); high = ended k.rest }
  stands (grammar.strides {us = us} {vs = vs} {ws = ws} s x y t p q r) h =
      let f = fronted h in
      let c = parted us (sign_at sign.Colon x ∷ (vs ++ (sign_at sign.Colon y ∷ (ws ++ (sign_at sign.CloseBracket t ∷ []))))) f.rest in
      let g = fronted c.rest in
      let d = parted vs (sign_at sign.Colon y ∷ (ws ++ (sign_at sign.CloseBracket t ∷ []))) g.rest in
      let k = fronted d.rest in
      let m = parted ws (sign_at sign.CloseBracket t ∷ []) k.rest in
      let l = fronted m.rest in
      let a = stands p c.first in
      let b = stands q d.first in
      let e = stands r m.first in
      record { low = f.low; own = orderly (within s.start t.end (omega arith) (omega arith) (behind (one_lined a) (omega arith) (behind (one_lined b) (omega arith) (one_lined e)))); high = ended l.rest }
  stands (grammar.eaches {us = us} {vs = vs} s t p q) h =
      let f = fronted h in
      let c = parted us (vs ++ (sign_at sign.CloseBrace t ∷ [])) f.rest in
      let d = parted vs (sign_at sign.CloseBrace t ∷ []) c.rest in
      let g = fronted d.rest in
      let a = bodies_lined p c.first in
      let l = binds_lined q d.first in
      record { low = f.low; own = orderly (within s.start t.end (omega arith) (omega arith) (behind a (omega arith) l)); high = ended g.rest }
  stands (grammar.filters {us = us} {vs = vs} {ws = ws} s x t p q r) h =
      let f = fronted h in
      let c = parted us (vs ++ (sign_at sign.Bar x ∷ (ws ++ (sign_at sign.CloseBrace t ∷ [])))) f.rest in
      let d = parted vs (sign_at sign.Bar x ∷ (ws ++ (sign_at sign.CloseBrace t ∷ []))) c.rest in
      let k = fronted d.rest in
      let m = parted ws (sign_at sign.CloseBrace t ∷ []) k.rest in
      let g = fronted m.rest in
      let a = bodies_lined p c.first in
      let l = binds_lined q d.first in
      let b = stands r m.first in
      record { low = f.low; own = orderly (within s.start t.end (omega arith) (omega arith) (behind a (omega arith) (behind l (omega arith) (one_lined b)))); high = ended g.rest }

  lists_lined : {us : List Placed} {xs : Trees} {i j : ℕ} → AreElements us xs → InOrder i us j → Lined i (items_of xs) j
  lists_lined (grammar.one_element p) h = one_lined (stands p h)
  lists_lined {i = i} {j = j} (grammar.more_elements {us = us} {vs = vs} {xs = xs} {a = a} s p q) h =
      let c = parted us (sign_at sign.Comma s ∷ vs) h in
      let f = fronted c.rest in
      subst (λ (ys : List Item). Lined i ys j) (sym (items_and_then xs a)) (behind (lists_lined p c.first) (omega arith) (one_lined (stands q f.rest)))

  binds_lined : {x : Lexeme} {us : List Placed} {bs : Binders} {i j : ℕ} → AreBinders x us bs → InOrder i us j → Lined i (bound_items bs) j
  binds_lined (grammar.one_binder {x = x} {us = us} {vs = vs} s p q) h =
      let c = parted us (token_at x s ∷ vs) h in
      let f = fronted c.rest in
      behind (one_lined (pattern_stands p c.first)) (omega arith) (one_lined (stands q f.rest))
  binds_lined {i = i} {j = j} (grammar.more_binders {x = x} {ts = ts} {us = us} {vs = vs} {bs = bs} {p = p} {e = e} y s b q r) h =
      let c = parted ts (sign_at sign.Semicolon y ∷ (us ++ (token_at x s ∷ vs))) h in
      let f = fronted c.rest in
      let d = parted us (token_at x s ∷ vs) f.rest in
      let g = fronted d.rest in
      subst (λ (ys : List Item). Lined i ys j) (sym (items_and_bind bs p e)) (behind (binds_lined b c.first) (omega arith) (behind (one_lined (pattern_stands q d.first)) (omega arith) (one_lined (stands r g.rest))))

  bodies_lined : {us : List Placed} {bs : Binders} {e : Tree} {i j : ℕ} → IsBody us bs e → InOrder i us j → Lined i (body_items e) j
  bodies_lined (grammar.body {us = us} {e = e} x p) h =
      let c = parted us (sign_at sign.Colon x ∷ []) h in
      let f = fronted c.rest in
      let z = ended f.rest in
      to_place _ (omega arith) (body_lined e (stands p c.first))
  bodies_lined (grammar.bodiless {bs = no_binders}) h = none_lined (ended h)
  bodies_lined (grammar.bodiless {bs = binder p e bs}) h = none_lined (ended h)

signature_lined : {us : List Placed} {s : SignatureTree} {i j : ℕ} → IsSignature us s → InOrder i us j → Lined i (signature_items (Some s)) j
signature_lined (lines.plain_signature {us = us} {vs = vs} s p q) h =
    let c = parted us (sign_at sign.RightArrow s ∷ vs) h in
    let f = fronted c.rest in
    behind (one_lined (type_stands p c.first)) (omega arith) (one_lined (type_stands q f.rest))
signature_lined (lines.signature_of_members {us = us} {vs = vs} {ws = ws} s d t u p q m) h =
    let c = parted us (sign_at sign.RightArrow s ∷ (vs ++ (sign_at sign.DoubleColon d ∷ (sign_at sign.OpenParenthesis t ∷ (ws ++ (sign_at sign.CloseParenthesis u ∷ [])))))) h in
    let f = fronted c.rest in
    let e = parted vs (sign_at sign.DoubleColon d ∷ (sign_at sign.OpenParenthesis t ∷ (ws ++ (sign_at sign.CloseParenthesis u ∷ [])))) f.rest in
    let z = in_order_low e.rest in
    behind (one_lined (type_stands p c.first)) (omega arith) (to_place _ (omega arith) (one_lined (type_stands q e.first)))

head_lined : {us : List Placed} {p : PatternTree} {s : Option SignatureTree} {i j : ℕ} → IsHead us p s → InOrder i us j → Lined i (pattern_item p ∷ signature_items s) j
head_lined (lines.plain_head p) h = one_lined (pattern_stands p h)
head_lined (lines.signed_head {us = us} {vs = vs} s p q) h =
    let c = parted us (sign_at sign.Colon s ∷ vs) h in
    let f = fronted c.rest in
    behind (one_lined (pattern_stands p c.first)) (omega arith) (signature_lined q f.rest)

pub line_lined : {ts : List Placed} {l : FormTree} {i j : ℕ} → IsForm ts l → InOrder i ts j → Lined i (line_items l) j
line_lined lines.no_tokens h = none_lined (ended h)
line_lined (lines.functions {us = us} {vs = vs} x i j t u p q) h =
    let f = fronted h in
    let n = fronted f.rest in
    let c = parted us (sign_at sign.Equal t ∷ (vs ++ (sign_at sign.Semicolon u ∷ []))) n.rest in
    let g = fronted c.rest in
    let d = parted vs (sign_at sign.Semicolon u ∷ []) g.rest in
    let z = in_order_low d.rest in
    from_place _ (omega arith) (to_place _ (omega arith) (behind (head_lined p c.first) (omega arith) (one_lined (stands q d.first))))
line_lined (lines.datatypes {us = us} x i j u p) h =
    let f = fronted h in
    let n = fronted f.rest in
    let c = parted us (sign_at sign.Semicolon u ∷ []) n.rest in
    let z = in_order_low c.rest in
    within _ _ (omega arith) (omega arith) (one_lined (type_stands p c.first))
line_lined (lines.binds {us = us} x s t u p) h =
    let f = fronted h in
    let n = fronted f.rest in
    let c = parted us (sign_at sign.Semicolon u ∷ []) n.rest in
    let z = in_order_low c.rest in
    within _ _ (omega arith) (omega arith) (one_lined (stands p c.first))
line_lined (lines.evaluates {us = us} u p) h =
    let c = parted us (sign_at sign.Semicolon u ∷ []) h in
    let z = in_order_low c.rest in
    to_place _ (omega arith) (one_lined (stands p c.first))
line_lined (lines.names_shown c s) h = none_lined (in_order_low h)
line_lined (lines.budget_shown c s) h = none_lined (in_order_low h)
line_lined (lines.type_shown {us = us} x s u p) h =
    let f = fronted h in
    let n = fronted f.rest in
    let c = parted us (sign_at sign.Semicolon u ∷ []) n.rest in
    let z = in_order_low c.rest in
    within _ _ (omega arith) (omega arith) (one_lined (stands p c.first))
