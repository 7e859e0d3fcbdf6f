-- A verdict excludes each other one.
use Rattle.std.proofs.Common.{◌≡◌, ◌<◌, ◌≤◌, ℕ, List, [], ◌∷◌, sym, ap, ◌∙◌, subst, arith}
use Rattle.std.specs.Prelude.{Option, Some, None}
use Rattle.nesl_lex.specs.declared.token.Span.{Span}
use Rattle.nesl_types.specs.declared.classes.Class.{Class}
use Rattle.nesl_types.specs.Class.{class_at}
use Rattle.nesl_types_shared.specs.Numbering.{variables}
use Rattle.nesl_types_shared.specs.Term.{Term, nodes}
use Rattle.nesl_syntax_tree.specs.Trees.{TypeTree, PatternTree, Tree, SignatureTree}
use Rattle.nesl_builtins.specs.FunctionTypes.{FunctionType}
use Rattle.nesl_infer_names.specs.Firsts.{first}
use Rattle.nesl_infer_names.specs.Names.{Names, unknown_types}
use Rattle.nesl_infer.specs.Uses.{uses, uses_of_function, unknown}
use Rattle.nesl_infer.specs.Verdicts.{Verdict, typed, unknown_at, ill_typed, ambiguous, IsTypeBy, IsFunctionBy, IsContentBy}
use Rattle.nesl_infer_rules.specs.Principal.{TypedBy, TypedFunctionBy, IsPrincipalType}
use Rattle.nesl_infer_rules.proofs.Applied.{closed-kept}
use Rattle.nesl_infer_rules.proofs.Leaves.{written-unique}
use Rattle.nesl_infer.proofs.Closed.{none_below}
use Rattle.nesl_infer.proofs.Unique.{one_function}

-- where nothing is unknown, nothing is the first unknown
none_unknown : (ss : List Span) (s : Span) → ss ≡ [] → first ss ≡ Some s → ⊥
none_unknown [] s e f = cc
none_unknown (r ∷ ss) s e f = cc

same_span : (s r : Span) → Some s ≡ Some r → s ≡ r
same_span s r e = cc

-- a most general type without variables is the only one
closed_one : (F : (ℕ → Class) → Term → Type 0) (t u : Term) → IsPrincipalType F t → IsPrincipalType F u → variables t ≡ [] → t ≡ u
closed_one F t u a b closed = let i = a.1.most_general b.0 u b.1.fits in sym (i.same ∙ closed-kept i.put t (none_below t closed))

-- so that no most general type has a variable then
no_other : (F : (ℕ → Class) → Term → Type 0) (t u : Term) → IsPrincipalType F t → IsPrincipalType F u → variables t ≡ [] → (variables u ≡ [] → ⊥) → ⊥
no_other F t u a b closed other = other (subst (λ (v : Term). variables v ≡ []) (closed_one F t u a b closed) closed)

too_many : (t u : Term) → t ≡ u → nodes t ≤ 4096 → 4096 < nodes u → ⊥
too_many t u e h k = let same : nodes t ≡ nodes u = ap nodes e in omega (arith, same, h, k)

pub one_of_expression : (known : Option (List ℕ) → Names) (e : Tree) (v u : Verdict Term) → IsTypeBy known e v → IsTypeBy known e u → v ≡ u
one_of_expression known e (typed t) (typed u) a b = ap typed (closed_one (TypedBy known e) t u a.1 b.1 a.2)
one_of_expression known e (typed t) (unknown_at s) a b = absurd (none_unknown (unknown (known None) (uses [] e)) s a.0 b)
one_of_expression known e (typed t) ill_typed a b = absurd (b.1 a.1.0 t a.1.1.fits)
one_of_expression known e (typed t) ambiguous a b = absurd (no_other (TypedBy known e) t b.1.0 a.1 b.1.1 a.2 b.1.2)
one_of_expression known e (unknown_at s) (typed u) a b = absurd (none_unknown (unknown (known None) (uses [] e)) s b.0 a)
one_of_expression known e (unknown_at s) (unknown_at r) a b = ap unknown_at (same_span s r (sym a ∙ b))
one_of_expression known e (unknown_at s) ill_typed a b = absurd (none_unknown (unknown (known None) (uses [] e)) s b.0 a)
one_of_expression known e (unknown_at s) ambiguous a b = absurd (none_unknown (unknown (known None) (uses [] e)) s b.0 a)
one_of_expression known e ill_typed (typed u) a b = absurd (a.1 b.1.0 u b.1.1.fits)
one_of_expression known e ill_typed (unknown_at r) a b = absurd (none_unknown (unknown (known None) (uses [] e)) r a.0 b)
one_of_expression known e ill_typed ill_typed a b = λ i. ill_typed
one_of_expression known e ill_typed ambiguous a b = absurd (a.1 b.1.1.0 b.1.0 b.1.1.1.fits)
one_of_expression known e ambiguous (typed u) a b = absurd (no_other (TypedBy known e) u a.1.0 b.1 a.1.1 b.2 a.1.2)
one_of_expression known e ambiguous (unknown_at r) a b = absurd (none_unknown (unknown (known None) (uses [] e)) r a.0 b)
one_of_expression known e ambiguous ill_typed a b = absurd (b.1 a.1.1.0 a.1.0 a.1.1.1.fits)
one_of_expression known e ambiguous ambiguous a b = λ i. ambiguous

pub one_of_function : (known : Option (List ℕ) → Names) (x : List ℕ) (p : PatternTree) (g : Option SignatureTree) (e : Tree) (v u : Verdict FunctionType) → IsFunctionBy known x p g e v → IsFunctionBy known x p g e u → v ≡ u
one_of_function known x p g e (typed f) (typed h) a b = ap typed (one_function (TypedFunctionBy known x p g e) f h a.2 b.2 a.1 b.1)
one_of_function known x p g e (typed f) (unknown_at s) a b = absurd (none_unknown (unknown (known (Some x)) (uses_of_function p e)) s a.0 b)
one_of_function known x p g e (typed f) ill_typed a b = absurd (b.1 (class_at f.classes) f.argument f.result a.1.fits)
one_of_function known x p g e (typed f) ambiguous a b = absurd b
one_of_function known x p g e (unknown_at s) (typed h) a b = absurd (none_unknown (unknown (known (Some x)) (uses_of_function p e)) s b.0 a)
one_of_function known x p g e (unknown_at s) (unknown_at r) a b = ap unknown_at (same_span s r (sym a ∙ b))
one_of_function known x p g e (unknown_at s) ill_typed a b = absurd (none_unknown (unknown (known (Some x)) (uses_of_function p e)) s b.0 a)
one_of_function known x p g e (unknown_at s) ambiguous a b = absurd b
one_of_function known x p g e ill_typed (typed h) a b = absurd (a.1 (class_at h.classes) h.argument h.result b.1.fits)
one_of_function known x p g e ill_typed (unknown_at r) a b = absurd (none_unknown (unknown (known (Some x)) (uses_of_function p e)) r a.0 b)
one_of_function known x p g e ill_typed ill_typed a b = λ i. ill_typed
one_of_function known x p g e ill_typed ambiguous a b = absurd b
one_of_function known x p g e ambiguous u a b = absurd a

pub one_of_content : (known : Option (List ℕ) → Names) (w : TypeTree) (v u : Verdict Term) → IsContentBy known w v → IsContentBy known w u → v ≡ u
one_of_content known w (typed t) (typed u) a b = ap typed (sym (written-unique (known None).datatypes w t u a.1 b.1))
one_of_content known w (typed t) (unknown_at s) a b = absurd (none_unknown (unknown_types (known None).datatypes w) s a.0 b)
one_of_content known w (typed t) ill_typed a b = absurd (too_many t b.1 (written-unique (known None).datatypes w b.1 t b.2 a.1) a.2 b.3)
one_of_content known w (typed t) ambiguous a b = absurd b
one_of_content known w (unknown_at s) (typed u) a b = absurd (none_unknown (unknown_types (known None).datatypes w) s b.0 a)
one_of_content known w (unknown_at s) (unknown_at r) a b = ap unknown_at (same_span s r (sym a ∙ b))
one_of_content known w (unknown_at s) ill_typed a b = absurd (none_unknown (unknown_types (known None).datatypes w) s b.0 a)
one_of_content known w (unknown_at s) ambiguous a b = absurd b
one_of_content known w ill_typed (typed u) a b = absurd (too_many u a.1 (written-unique (known None).datatypes w a.1 u a.2 b.1) b.2 a.3)
one_of_content known w ill_typed (unknown_at r) a b = absurd (none_unknown (unknown_types (known None).datatypes w) r a.0 b)
one_of_content known w ill_typed ill_typed a b = λ i. ill_typed
one_of_content known w ill_typed ambiguous a b = absurd b
one_of_content known w ambiguous u a b = absurd a
