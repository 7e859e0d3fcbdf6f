-- Names that mean the same, as far as an expression refers to them.
use Rattle.std.specs.Prelude.{◌≡◌, ℕ, false, List, [], ◌∷◌, ◌++◌, Option}
use Rattle.std.specs.List.{list_any}
use Rattle.std.specs.Str.{bytes_eq}
use Rattle.nesl_types.specs.declared.classes.Class.{Class}
use Rattle.nesl_types_shared.specs.Term.{Term}
use Rattle.nesl_syntax_tree.specs.Trees.{TypeTree, TypeShape, PatternTree, PatternShape, Tree, Shape, Trees, Binders}
use Rattle.nesl_syntax_tree.specs.Trees.{written, pattern, node, none, more, no_binders, binder}
use Rattle.nesl_syntax_tree.specs.Trees as trees
use Rattle.nesl_infer_names.specs.Names.{names_bound, all_names_bound}
use Rattle.nesl_infer_rules.specs.World.{TypedNames, DatatypesByName}
use Rattle.nesl_infer_rules.specs.Typing.{Key, LocalTypes, name, element, HasType}

-- the names of a written type
abbrev mutual
  pub SameTypes : DatatypesByName → DatatypesByName → TypeTree → Type 0
  SameTypes ds es (written s k) = SameTypesIn ds es k

  pub SameTypesIn : DatatypesByName → DatatypesByName → TypeShape → Type 0
  SameTypesIn ds es trees.int = Unit {0}
  SameTypesIn ds es trees.bool = Unit {0}
  SameTypesIn ds es trees.char = Unit {0}
  SameTypesIn ds es (trees.named x s) = ds x ≡ es x
  SameTypesIn ds es (trees.sequence_type a) = SameTypes ds es a
  SameTypesIn ds es (trees.pair_type a b) = SameTypes ds es a × SameTypes ds es b

-- the names of record patterns
abbrev mutual
  pub SameRecords : DatatypesByName → DatatypesByName → PatternTree → Type 0
  SameRecords ds es (pattern s k) = SameRecordsIn ds es k

  pub SameRecordsIn : DatatypesByName → DatatypesByName → PatternShape → Type 0
  SameRecordsIn ds es (trees.name_pattern x) = Unit {0}
  SameRecordsIn ds es (trees.pair_pattern p q) = SameRecords ds es p × SameRecords ds es q
  SameRecordsIn ds es (trees.record_pattern x p) = (ds x ≡ es x) × SameRecords ds es p

-- an expression refers to its variables that are no local names, to its names before `(`, and to the datatypes of its
-- patterns and types; `ls` are the local names
abbrev mutual
  pub Same : TypedNames → TypedNames → List (List ℕ) → Tree → Type 0
  Same N M ls (node s k) = SameIn N M ls k

  pub SameIn : TypedNames → TypedNames → List (List ℕ) → Shape → Type 0
  SameIn N M ls (trees.number n) = Unit {0}
  SameIn N M ls (trees.truth b) = Unit {0}
  SameIn N M ls (trees.character c) = Unit {0}
  SameIn N M ls (trees.text bytes) = Unit {0}
  SameIn N M ls (trees.variable x) = list_any (bytes_eq x) ls ≡ false → N.variables x ≡ M.variables x
  SameIn N M ls (trees.call f a) = (N.functions f ≡ M.functions f) × Same N M ls a
  SameIn N M ls (trees.pair a b) = Same N M ls a × Same N M ls b
  SameIn N M ls (trees.prefix_of o a) = Same N M ls a
  SameIn N M ls (trees.infix_of o a b) = Same N M ls a × Same N M ls b
  SameIn N M ls (trees.index a i) = Same N M ls a × Same N M ls i
  SameIn N M ls (trees.choice a b c) = Same N M ls a × Same N M ls b × Same N M ls c
  SameIn N M ls (trees.sequence es) = AllSame N M ls es
  SameIn N M ls (trees.empty a) = SameTypes N.datatypes M.datatypes a
  SameIn N M ls (trees.range a b) = Same N M ls a × Same N M ls b
  SameIn N M ls (trees.strided_range a b c) = Same N M ls a × Same N M ls b × Same N M ls c
  SameIn N M ls (trees.let_in bs e) = SameBound N M ls bs × Same N M (all_names_bound bs ++ ls) e
  SameIn N M ls (trees.each e bs) = Same N M (all_names_bound bs ++ ls) e × SameDrawn N M ls bs
  SameIn N M ls (trees.filtered_each e bs f) =
      Same N M (all_names_bound bs ++ ls) e × SameDrawn N M ls bs × Same N M (all_names_bound bs ++ ls) f
  SameIn N M ls trees.element = Unit {0}

  pub AllSame : TypedNames → TypedNames → List (List ℕ) → Trees → Type 0
  AllSame N M ls none = Unit {0}
  AllSame N M ls (more e es) = Same N M ls e × AllSame N M ls es

  -- of a `let`: each value sees the names before it
  pub SameBound : TypedNames → TypedNames → List (List ℕ) → Binders → Type 0
  SameBound N M ls no_binders = Unit {0}
  SameBound N M ls (binder p e bs) =
      SameRecords N.datatypes M.datatypes p × Same N M ls e × SameBound N M (names_bound p ++ ls) bs

  -- of an apply-to-each: the sequences don't see the binders
  pub SameDrawn : TypedNames → TypedNames → List (List ℕ) → Binders → Type 0
  SameDrawn N M ls no_binders = Unit {0}
  SameDrawn N M ls (binder p e bs) =
      SameRecords N.datatypes M.datatypes p × Same N M ls e × SameDrawn N M ls bs

-- the names of a scope, the newest first
abbrev pub with_key : Key → List (List ℕ) → List (List ℕ)
with_key (name x) ls = x ∷ ls
with_key element ls = ls

abbrev pub names_of : LocalTypes → List (List ℕ)
names_of [] = []
names_of (b ∷ sc) = with_key b.0 (names_of sc)

-- a typing depends on what the names that the expression refers to mean, and on no other name
abbrev pub TypingsDependOnReferences : Type 0
TypingsDependOnReferences =
    (N M : TypedNames) (of : ℕ → Class) (limit : Option ℕ) (e : Tree) (sc : LocalTypes) (t : Term) →
    Same N M (names_of sc) e →
    HasType (record { names = N; of = of; limit = limit }) sc e t →
    HasType (record { names = M; of = of; limit = limit }) sc e t
