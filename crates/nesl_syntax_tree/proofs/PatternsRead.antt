-- Patterns that are read from expressions.
use Rattle.std.proofs.Common.{◌≡◌, ℕ, ◌≤◌, ◌<◌, subst, Bool, true, false, ◌&&◌, Option, Some, None, ◌⊎◌, inl, inr, refl, ap, sym, ◌∙◌, arith, Box, Global}
use Rattle.nesl_syntax_tree.specs.declared.tree.Exp.{Exp}
use Rattle.nesl_syntax_tree.specs.declared.parts.pattern.PatternPart.TheVariants as patterns
use Rattle.nesl_syntax_tree.specs.Parts.{PatternGiven}
use Rattle.nesl_syntax_tree.specs.Trees.{Tree, Shape, PatternTree, PatternShape, node, pattern, height, height_of, pattern_height, pattern_height_of}
use Rattle.nesl_syntax_tree.specs.Trees as trees
use Rattle.nesl_syntax_tree.specs.Views.{tree_of}
use Rattle.nesl_syntax_tree.specs.Patterns.{is_pattern, is_pattern_shape, pattern_in, pattern_shape_in, shape_pair, shape_record, with_span}

-- an expression that may be a pattern is read as one, as high as it is
pub record Reads (t : Tree) : Type 0 where
  pub form : PatternTree
  pub reads : pattern_in t ≡ Some form
  pub high : pattern_height form ≡ height t

record ReadsShape (k : Shape) : Type 0 where
  form : PatternShape
  reads : pattern_shape_in k ≡ Some form
  high : pattern_height_of form ≡ height_of k

both_true : (a b : Bool) → (a && b) ≡ true → (a ≡ true) × (b ≡ true)
both_true true true h = (refl, refl)
both_true true false h = cc
both_true false b h = cc

mutual
  pub reads_of : (t : Tree) → is_pattern t ≡ true → Reads t
  reads_of (node s k) h = let r = reads_shape k h in record { form = pattern s r.form; reads = ap (with_span s) r.reads; high = r.high }

  reads_shape : (k : Shape) → is_pattern_shape k ≡ true → ReadsShape k
  reads_shape (trees.variable x) h = record { form = trees.name_pattern x; reads = refl; high = refl }
  reads_shape (trees.pair a b) h =
      let both = both_true (is_pattern a) (is_pattern b) h in
      let p = reads_of a both.0 in
      let q = reads_of b both.1 in
      record { form = trees.pair_pattern p.form q.form; reads = rw (p.reads, q.reads) refl; high = omega (arith, p.high, q.high) }
  reads_shape (trees.call x a) h = let p = reads_of a h in record { form = trees.record_pattern x p.form; reads = rw p.reads refl; high = omega (arith, p.high) }
  reads_shape _ h = cc

-- an expression of another kind is no pattern
no_pair : (a b : Option PatternTree) → ((a ≡ None) ⊎ (b ≡ None)) → shape_pair a b ≡ None
no_pair None b h = refl
no_pair (Some a) None h = refl
no_pair (Some a) (Some b) h = elim h [ inl e ↦ cc | inr e ↦ cc ]

one_false : (a b : Bool) → (a && b) ≡ false → (a ≡ false) ⊎ (b ≡ false)
one_false true true h = cc
one_false true false h = inr refl
one_false false b h = inl refl

mutual
  pub no_reads : (t : Tree) → is_pattern t ≡ false → pattern_in t ≡ None
  no_reads (node s k) h = ap (with_span s) (no_reads_shape k h)

  no_reads_shape : (k : Shape) → is_pattern_shape k ≡ false → pattern_shape_in k ≡ None
  no_reads_shape (trees.variable x) h = cc
  no_reads_shape (trees.pair a b) h = no_pair (pattern_in a) (pattern_in b) (elim (one_false (is_pattern a) (is_pattern b) h) [ inl e ↦ inl (no_reads a e) | inr e ↦ inr (no_reads b e) ])
  no_reads_shape (trees.call x a) h = ap (shape_record x) (no_reads a h)
  no_reads_shape _ h = refl

pub given_some : (e : Box Exp Global) (h : ℕ) (x : Tree) → tree_of e.value ≡ x → h ≡ height x → h ≤ 100 → true ≡ is_pattern x → PatternGiven (Some (patterns.Built h e)) (pattern_in x)
given_some e h x same high low flag = let r = reads_of x (sym flag) in subst (λ (o : Option PatternTree). PatternGiven (Some (patterns.Built h e)) o) (sym r.reads) (ap pattern_in same ∙ r.reads, omega (arith, r.high), low)

pub given_high : (x : Tree) → 100 < height x → true ≡ is_pattern x → PatternGiven (Some patterns.High) (pattern_in x)
given_high x l e = let r = reads_of x (sym e) in subst (λ (o : Option PatternTree). PatternGiven (Some patterns.High) o) (sym r.reads) (omega (arith, r.high))

pub given_none : (x : Tree) → false ≡ is_pattern x → PatternGiven None (pattern_in x)
given_none x e = subst (λ (o : Option PatternTree). PatternGiven None o) (sym (no_reads x (sym e))) tt
