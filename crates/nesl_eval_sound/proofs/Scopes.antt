-- Names that are bound to values of their types.
use Rattle.std.proofs.Common.{◌≡◌, ℕ, Bool, true, false, cond, [], ◌∷◌, ◌++◌, Option, Some, None, option_and_then, subst, sym, ap, append_assoc, ◌∙◌}
use Rattle.nesl_lex.specs.declared.token.Span.{Span}
use Rattle.std.specs.Str.{bytes_eq}
use Rattle.nesl_values.specs.Tree as values
use Rattle.nesl_values.specs.Parts.{as_pair, as_tagged}
use Rattle.nesl_types_shared.specs.Term.{Term, named, pair_of}
use Rattle.nesl_syntax_tree.specs.Trees.{PatternTree, PatternShape, pattern, name_pattern, pair_pattern, record_pattern}
use Rattle.nesl_infer_rules.specs.World.{Assumptions}
use Rattle.nesl_infer_rules.specs.Typing.{LocalTypes, local_type, newest_type, is_element, name, element, PatternAdds}
use Rattle.nesl_infer_rules.specs.Typing.{PatternShapeAdds}
use Rattle.nesl_eval_meaning.specs.Names.{Name, Value, Locals, bound}
use Rattle.nesl_builtins.specs.Named.{look_up}
use Rattle.nesl_eval_meaning.specs.Names as evaluated
use Rattle.nesl_eval_sound.specs.HasType.{HasType, Holding}
use Rattle.nesl_eval_sound.specs.Sound.{ground}
use Rattle.nesl_eval_sound.proofs.Each.{Reads}

module _ (held : ℕ → Option Term) where
  -- what a name means has the type of the name
  abbrev pub Agree : Option Value → Option Term → Type 0
  Agree None None = Unit {0}
  Agree None (Some t) = ⊥
  Agree (Some v) None = ⊥
  Agree (Some v) (Some t) = HasType held v (ground t)

  -- each name has a value of its type, and so has the element
  pub record Fits (names : Locals) (first : Option Value) (ts : LocalTypes) : Type 0 where
    pub names_fit : (x : Name) → Agree (look_up names x) (local_type x ts)
    pub first_fits : Agree first (newest_type is_element ts)

  pub nothing_fits : Fits [] None []
  nothing_fits = record { names_fit = λ x. tt; first_fits = tt }

  pub name_added : (x : Name) (v : Value) (t : Term) → HasType held v (ground t) → (names : Locals) (first : Option Value) (ts : LocalTypes) → Fits names first ts
      → Fits ((x, v) ∷ names) first ((name x, t) ∷ ts)
  name_added x v t j names first ts h = record { names_fit = λ y. either (bytes_eq y x) (look_up names y) (local_type y ts) (h.names_fit y); first_fits = h.first_fits }
    where
      either : (c : Bool) (o : Option Value) (p : Option Term) → Agree o p → Agree (cond c (Some v) o) (cond c (Some t) p)
      either true o p k = j
      either false o p k = k

  pub element_added : (o : Option Value) (t : Term) → Agree o (Some t) → (names : Locals) (first : Option Value) (ts : LocalTypes) → Fits names first ts → Fits names o ((element, t) ∷ ts)
  element_added o t j names first ts h = record { names_fit = h.names_fit; first_fits = j }

  -- what a pair's parts are
  pair_parts : (v : Value) (t u : Term) → HasType held v (pair_of t u) → Reads (as_pair v) (λ p. HasType held p.0 t × HasType held p.1 u)
  pair_parts (values.pair l r) t u h = h
  pair_parts v t u h = absurd h

  record_part : (v : Value) (tag : ℕ) (t : Term) → held tag ≡ Some t → HasType held v (named tag) → Reads (as_tagged v) (λ p. HasType held p.1 t)
  record_part (values.tagged n v) tag t e h = subst (λ o. Holding o (λ t. HasType held v t)) (ap held h.0 ∙ e) h.1
  record_part v tag t e h = absurd h

  pub then_read : {X Y : Type 0} (P : X → Type 0) (Q : Y → Type 0) (o : Option X) (f : X → Option Y) → Reads o P → ((x : X) → P x → Reads (f x) Q) → Reads (option_and_then f o) Q
  then_read P Q None f r k = absurd r
  then_read P Q (Some x) f r k = k x r

  -- a datatype's values hold what it holds
  abbrev pub KnowsDatatypes : Assumptions → Type 0
  KnowsDatatypes w = (x : Name) (d : ℕ × Term) → w.names.datatypes x ≡ Some d → (held d.0 ≡ Some d.1) × (ground d.1 ≡ d.1)

  module _ (w : Assumptions) (knows : KnowsDatatypes w) where
    mutual
      pub binds : (p : PatternTree) (t : Term) (ns : LocalTypes) → PatternAdds w p t ns → (v : Value) → HasType held v (ground t) → (names : Locals) (first : Option Value) (ts : LocalTypes) → Fits names first ts
          → Reads (bound p v names) (λ us. Fits us first (ns ++ ts))
      binds (pattern s k) t ns h = binds_shape s k t ns h.1

      pub binds_shape : (s : Span) (k : PatternShape) (t : Term) (ns : LocalTypes) → PatternShapeAdds w k t ns → (v : Value) → HasType held v (ground t) → (names : Locals) (first : Option Value) (ts : LocalTypes)
          → Fits names first ts → Reads (bound (pattern s k) v names) (λ us. Fits us first (ns ++ ts))
      binds_shape s (name_pattern x) t ns h v j names first ts f = subst (λ ns. Fits ((x, v) ∷ names) first (ns ++ ts)) (sym h) (name_added x v t j names first ts f)
      binds_shape s (pair_pattern p q) t ns (a, b, ms, os, e, hp, hq, es) v j names first ts f =
          subst (λ ns. Reads (bound (pattern s (pair_pattern p q)) v names) (λ us. Fits us first (ns ++ ts))) (sym es)
          (then_read (λ c. HasType held c.0 (ground a) × HasType held c.1 (ground b)) (λ us. Fits us first ((os ++ ms) ++ ts)) (as_pair v) (λ c. option_and_then (bound q c.1) (bound p c.0 names))
          (pair_parts v (ground a) (ground b) (subst (λ t. HasType held v (ground t)) e j))
          (λ c jc. then_read (λ us. Fits us first (ms ++ ts)) (λ us. Fits us first ((os ++ ms) ++ ts)) (bound p c.0 names) (bound q c.1)
          (binds p a ms hp c.0 jc.0 names first ts f)
          (λ us g. subst (λ l. Reads (bound q c.1 us) (λ us. Fits us first l)) (sym (append_assoc os ms ts)) (binds q b os hq c.1 jc.1 us first (ms ++ ts) g))))
      binds_shape s (record_pattern x p) t ns (u, (d, e, et, eu), hp) v j names first ts f =
          then_read (λ c. HasType held c.1 d.1) (λ us. Fits us first (ns ++ ts)) (as_tagged v) (λ c. bound p c.1 names)
          (record_part v d.0 d.1 (knows x d e).0 (subst (λ t. HasType held v (ground t)) et j))
          (λ c jc. binds p u ns hp c.1 (subst (λ t. HasType held c.1 (ground t)) (sym eu) (subst (HasType held c.1) (sym (knows x d e).1) jc)) names first ts f)
