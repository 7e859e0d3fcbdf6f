-- Which types an expression has: one rule for each kind of node. Types are guessed.
use Rattle.std.specs.Prelude.{◌≡◌, ℕ, Bool, true, false, List, [], ◌∷◌, ◌++◌, Option, Some, None, All, if◌then◌else◌}
use Rattle.std.specs.Str.{bytes_eq}
use Rattle.nesl_types.specs.declared.classes.Class.{Class}
use Rattle.nesl_types.specs.declared.classes.Class.TheVariants as classes
use Rattle.nesl_types_shared.specs.Term.{Term, int, bool, char, seq_of, pair_of, named}
use Rattle.nesl_types.specs.Class.{IsIn, class_at}
use Rattle.nesl_types_shared.specs.Substitution.{substitute}
use Rattle.nesl_syntax_tree.specs.declared.tree.Class as written_classes
use Rattle.nesl_syntax_tree.specs.Trees.{TypeTree, TypeShape, PatternTree, PatternShape, Tree, Shape, Trees, Binders}
use Rattle.nesl_syntax_tree.specs.Trees.{MemberTree, SignatureTree}
use Rattle.nesl_syntax_tree.specs.Trees.{written, pattern, node, none, more, no_binders, binder}
use Rattle.nesl_syntax_tree.specs.Trees as trees
use Rattle.nesl_builtins.specs.FunctionTypes.{FunctionType, builtin_type}
use Rattle.nesl_builtins.specs.Named.{prefix_builtin, infix_builtin}
use Rattle.nesl_infer_rules.specs.World.{Assumptions, TypedNames, Callable, general, single, DatatypesByName, IsAllowed}

-- what has a local type: a name, or the element that an apply-to-each without a body gives
pub data Key : Type 0 where
  name : List ℕ → Key
  element : Key

-- the local types, the newest first
abbrev pub LocalTypes : Type 0
LocalTypes = List (Key × Term)

abbrev pub is_name : List ℕ → Key → Bool
is_name x (name y) = bytes_eq x y
is_name x element = false

abbrev pub is_element : Key → Bool
is_element (name y) = false
is_element element = true

abbrev pub newest_type : (Key → Bool) → LocalTypes → Option Term
newest_type test [] = None
newest_type test (b ∷ bs) = if test b.0 then Some b.1 else newest_type test bs

abbrev pub local_type : List ℕ → LocalTypes → Option Term
local_type x sc = newest_type (is_name x) sc

-- t to u is an instance of a function's type: each variable stands for a type of its class
pub record IsInstanceOf (f : FunctionType) (of : ℕ → Class) (t u : Term) : Type 0 where
  pub put : ℕ → Term
  pub within : (v : ℕ) → IsIn of (class_at f.classes v) (put v)
  pub argument : t ≡ substitute put f.argument
  pub result : u ≡ substitute put f.result

-- what a name before `(` means takes t and gives u
abbrev pub CallableTakes : (ℕ → Class) → Callable → Term → Term → Type 0
CallableTakes of (general f) t u = IsInstanceOf f of t u
CallableTakes of (single takes gives) t u = (t ≡ takes) × (u ≡ gives)

-- the name f takes t and gives u
abbrev pub NameTakes : TypedNames → (ℕ → Class) → List ℕ → Term → Term → Type 0
NameTakes ns of f t u = (m : Callable) × (ns.functions f ≡ Some m) × CallableTakes of m t u

-- a name that is no local one is a variable of the top level
abbrev pub IsVariable : Assumptions → List ℕ → Option Term → Term → Type 0
IsVariable w x (Some u) t = t ≡ u
IsVariable w x None t = w.names.variables x ≡ Some t

-- the name is a datatype, whose records have the type t and hold the type u
abbrev pub IsRecord : DatatypesByName → List ℕ → Term → Term → Type 0
IsRecord ds x t u = (d : ℕ × Term) × (ds x ≡ Some d) × (t ≡ named d.0) × (u ≡ d.1)

-- a written type, in which each name is a datatype, is the type t
abbrev mutual
  pub IsWritten : DatatypesByName → TypeTree → Term → Type 0
  IsWritten ds (written s k) t = IsWrittenShape ds k t

  pub IsWrittenShape : DatatypesByName → TypeShape → Term → Type 0
  IsWrittenShape ds trees.int t = t ≡ int
  IsWrittenShape ds trees.bool t = t ≡ bool
  IsWrittenShape ds trees.char t = t ≡ char
  IsWrittenShape ds (trees.named x s) t = (d : ℕ × Term) × (ds x ≡ Some d) × (t ≡ named d.0)
  IsWrittenShape ds (trees.sequence_type a) t = (u : Term) × IsWritten ds a u × (t ≡ seq_of u)
  IsWrittenShape ds (trees.pair_type a b) t =
      (u : Term) × (v : Term) × IsWritten ds a u × IsWritten ds b v × (t ≡ pair_of u v)

-- a pattern takes a type t apart into names with their types, the last name first
abbrev mutual
  pub PatternAdds : Assumptions → PatternTree → Term → LocalTypes → Type 0
  PatternAdds w (pattern s k) t ns = IsAllowed w.limit t × PatternShapeAdds w k t ns

  pub PatternShapeAdds : Assumptions → PatternShape → Term → LocalTypes → Type 0
  PatternShapeAdds w (trees.name_pattern x) t ns = ns ≡ (name x, t) ∷ []
  PatternShapeAdds w (trees.pair_pattern p q) t ns =
      (u : Term) × (v : Term) × (ms : LocalTypes) × (os : LocalTypes) ×
      (t ≡ pair_of u v) × PatternAdds w p u ms × PatternAdds w q v os × (ns ≡ os ++ ms)
  PatternShapeAdds w (trees.record_pattern x p) t ns =
      (u : Term) × IsRecord w.names.datatypes x t u × PatternAdds w p u ns

-- the patterns of an apply-to-each take elements of the types `items` apart
abbrev pub PatternsAdd : Assumptions → Binders → List Term → LocalTypes → Type 0
PatternsAdd w no_binders [] ns = ns ≡ []
PatternsAdd w no_binders (i ∷ is) ns = ⊥
PatternsAdd w (binder p e bs) [] ns = ⊥
PatternsAdd w (binder p e bs) (i ∷ is) ns =
    (ms : LocalTypes) × (os : LocalTypes) × PatternAdds w p i ms × PatternsAdd w bs is os × (ns ≡ os ++ ms)

-- the names that the binders of an apply-to-each add, over the first one's element; there is a binder
abbrev pub BindersAdd : Assumptions → Binders → List Term → LocalTypes → Type 0
BindersAdd w bs [] ns = ⊥
BindersAdd w bs (i ∷ is) ns = (ms : LocalTypes) × PatternsAdd w bs (i ∷ is) ms × (ns ≡ ms ++ (element, i) ∷ [])

abbrev mutual
  -- an expression has the type t, where the local names have the types of `sc`
  pub HasType : Assumptions → LocalTypes → Tree → Term → Type 0
  HasType w sc (node s k) t = IsAllowed w.limit t × HasShapeType w sc k t

  pub HasShapeType : Assumptions → LocalTypes → Shape → Term → Type 0
  HasShapeType w sc (trees.number n) t = t ≡ int
  HasShapeType w sc (trees.truth b) t = t ≡ bool
  HasShapeType w sc (trees.character c) t = t ≡ char
  HasShapeType w sc (trees.text bytes) t = t ≡ seq_of char
  HasShapeType w sc (trees.variable x) t = IsVariable w x (local_type x sc) t
  HasShapeType w sc (trees.call f a) t = (u : Term) × HasType w sc a u × NameTakes w.names w.of f u t
  HasShapeType w sc (trees.pair a b) t =
      (u : Term) × (v : Term) × HasType w sc a u × HasType w sc b v × (t ≡ pair_of u v)
  HasShapeType w sc (trees.prefix_of o a) t =
      (u : Term) × HasType w sc a u × IsInstanceOf (builtin_type (prefix_builtin o)) w.of u t
  HasShapeType w sc (trees.infix_of o a b) t =
      (u : Term) × (v : Term) × HasType w sc a u × HasType w sc b v ×
      IsInstanceOf (builtin_type (infix_builtin o)) w.of (pair_of u v) t
  HasShapeType w sc (trees.index a i) t = HasType w sc a (seq_of t) × HasType w sc i int
  HasShapeType w sc (trees.choice a b c) t = HasType w sc a bool × HasType w sc b t × HasType w sc c t
  HasShapeType w sc (trees.sequence es) t = (u : Term) × HaveType w sc es u × (t ≡ seq_of u)
  HasShapeType w sc (trees.empty a) t = (u : Term) × IsWritten w.names.datatypes a u × (t ≡ seq_of u)
  HasShapeType w sc (trees.range a b) t = HasType w sc a int × HasType w sc b int × (t ≡ seq_of int)
  HasShapeType w sc (trees.strided_range a b c) t =
      HasType w sc a int × HasType w sc b int × HasType w sc c int × (t ≡ seq_of int)
  HasShapeType w sc (trees.let_in bs e) t = (ns : LocalTypes) × BindingsAdd w sc bs ns × HasType w (ns ++ sc) e t
  HasShapeType w sc (trees.each e bs) t =
      (is : List Term) × (ns : LocalTypes) × (u : Term) × HaveElements w sc bs is × BindersAdd w bs is ns ×
      HasType w (ns ++ sc) e u × (t ≡ seq_of u)
  HasShapeType w sc (trees.filtered_each e bs f) t =
      (is : List Term) × (ns : LocalTypes) × (u : Term) × HaveElements w sc bs is × BindersAdd w bs is ns ×
      HasType w (ns ++ sc) e u × HasType w (ns ++ sc) f bool × (t ≡ seq_of u)
  HasShapeType w sc trees.element t = newest_type is_element sc ≡ Some t

  -- all have the type t
  pub HaveType : Assumptions → LocalTypes → Trees → Term → Type 0
  HaveType w sc none t = Unit {0}
  HaveType w sc (more e es) t = HasType w sc e t × HaveType w sc es t

  -- the names that the bindings of a `let` add, the newest first; each binding sees the names before it
  pub BindingsAdd : Assumptions → LocalTypes → Binders → LocalTypes → Type 0
  BindingsAdd w sc no_binders ns = ns ≡ []
  BindingsAdd w sc (binder p e bs) ns =
      (u : Term) × (ms : LocalTypes) × (os : LocalTypes) ×
      HasType w sc e u × PatternAdds w p u ms × BindingsAdd w (ms ++ sc) bs os × (ns ≡ os ++ ms)

  -- the sequences have elements of the types `items`
  pub HaveElements : Assumptions → LocalTypes → Binders → List Term → Type 0
  HaveElements w sc no_binders [] = Unit {0}
  HaveElements w sc no_binders (i ∷ is) = ⊥
  HaveElements w sc (binder p e bs) [] = ⊥
  HaveElements w sc (binder p e bs) (i ∷ is) = HasType w sc e (seq_of i) × HaveElements w sc bs is

-- a type as it is written in a signature: a name that is no datatype means what `put` gives it
abbrev pub name_in_signature : Option (ℕ × Term) → Term → Term
name_in_signature (Some d) t = named d.0
name_in_signature None t = t

abbrev mutual
  pub signed : DatatypesByName → (List ℕ → Term) → TypeTree → Term
  signed ds put (written s k) = signed_shape ds put k

  pub signed_shape : DatatypesByName → (List ℕ → Term) → TypeShape → Term
  signed_shape ds put trees.int = int
  signed_shape ds put trees.bool = bool
  signed_shape ds put trees.char = char
  signed_shape ds put (trees.named x s) = name_in_signature (ds x) (put x)
  signed_shape ds put (trees.sequence_type a) = seq_of (signed ds put a)
  signed_shape ds put (trees.pair_type a b) = pair_of (signed ds put a) (signed ds put b)

abbrev pub class_of : written_classes.Class → Class
class_of written_classes.TheVariants.Any = classes.Any
class_of written_classes.TheVariants.Ordinal = classes.Ordinal
class_of written_classes.TheVariants.Number = classes.Number
class_of written_classes.TheVariants.Logical = classes.Logical

-- what a name means is in the class that it is put in
abbrev pub IsInItsClass : DatatypesByName → (ℕ → Class) → (List ℕ → Term) → MemberTree → Type 0
IsInItsClass ds of put m = IsIn of (class_of m.class) (name_in_signature (ds m.name) (put m.name))

-- t to u is the type of a signature, where there is one, with a type for each name that is no datatype
abbrev pub FitsSignature : DatatypesByName → (ℕ → Class) → SignatureTree → (List ℕ → Term) → Term → Term → Type 0
FitsSignature ds of s put t u =
    (t ≡ signed ds put s.from) × (u ≡ signed ds put s.to) × All (IsInItsClass ds of put) s.members

abbrev pub IsSigned : DatatypesByName → (ℕ → Class) → Option SignatureTree → Term → Term → Type 0
IsSigned ds of None t u = Unit {0}
IsSigned ds of (Some s) t u = (put : List ℕ → Term) × FitsSignature ds of s put t u
