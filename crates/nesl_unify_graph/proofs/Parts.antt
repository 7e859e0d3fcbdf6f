-- The parts of a type.
use Rattle.std.proofs.Common.{◌≡◌, ℕ, ◌+◌, ◌<◌, ◌≤◌, ◌++◌, ◌∷◌, [], true, false, Bool, cond, List, All, length, refl, sym, subst, arith, length-append}
use Rattle.std.specs.List.{list_any}
use Rattle.std.proofs.lemmas.List.Elements.{All-nil, All-push}
use Rattle.nesl_types_shared.specs.Term.{Term, int, bool, char, variable, seq_of, pair_of, named, nodes}
use Rattle.nesl_types_shared.specs.Numbering.{IsBelow}
use Rattle.nesl_types_shared.specs.Substitution.{substitute}
use Rattle.nesl_types_shared.specs.declared.shape.Shape.{Shape}
use Rattle.nesl_types_shared.specs.declared.shape.Shape.TheVariants.{Int, Bool as Bool', Char, Var, Named, SeqOf, Both}
use Rattle.nesl_types_shared.specs.Shapes.{IsShapeBelow, shape_type}
use Rattle.nesl_types_shared.specs.Types.{type_at}
use Rattle.nesl_types_shared.specs.Lists.{is_same, with_type, with_parts, parts_of}

-- what holds of the parts of a type, each of which is added where it isn't yet
with_type_all : (P : Term → Type 0) (ts : List Term) (t : Term) → All P ts → P t → All P (with_type ts t)
with_type_all P ts t a h = by (list_any (is_same t) ts)
  where
    by : (b : Bool) → All P (cond b ts (ts ++ t ∷ []))
    by true = a
    by false = All-push P ts t a h

-- the parts of a type have no variables but its own
with_parts_below : (n : ℕ) (ts : List Term) (t : Term) → All (IsBelow n) ts → IsBelow n t → All (IsBelow n) (with_parts ts t)
with_parts_below n ts int a h = with_type_all (IsBelow n) ts int a h
with_parts_below n ts bool a h = with_type_all (IsBelow n) ts bool a h
with_parts_below n ts char a h = with_type_all (IsBelow n) ts char a h
with_parts_below n ts (variable v) a h = with_type_all (IsBelow n) ts (variable v) a h
with_parts_below n ts (seq_of t) a h = with_type_all (IsBelow n) (with_parts ts t) (seq_of t) (with_parts_below n ts t a h) h
with_parts_below n ts (pair_of t u) a h =
    with_type_all (IsBelow n) (with_parts (with_parts ts t) u) (pair_of t u) (with_parts_below n (with_parts ts t) u (with_parts_below n ts t a h.0) h.1) h
with_parts_below n ts (named m) a h = with_type_all (IsBelow n) ts (named m) a h

pub part_below : (n p : ℕ) (ts : List Term) (t : Term) → ts ≡ parts_of t → p < length ts → IsBelow n t → IsBelow n (type_at ts p)
part_below n p ts t e l h = subst (All (IsBelow n)) (sym e) (with_parts_below n [] t (All-nil (IsBelow n)) h) p int l

-- where two substitutions make one type of a type, they do so of its parts
abbrev IsOne : (f g : ℕ → Term) → Term → Type 0
IsOne f g t = substitute f t ≡ substitute g t

with_parts_one : (f g : ℕ → Term) (ts : List Term) (t : Term) → All (IsOne f g) ts → IsOne f g t → All (IsOne f g) (with_parts ts t)
with_parts_one f g ts int a h = with_type_all (IsOne f g) ts int a h
with_parts_one f g ts bool a h = with_type_all (IsOne f g) ts bool a h
with_parts_one f g ts char a h = with_type_all (IsOne f g) ts char a h
with_parts_one f g ts (variable v) a h = with_type_all (IsOne f g) ts (variable v) a h
with_parts_one f g ts (seq_of t) a h =
    let x : IsOne f g t = cc in
    with_type_all (IsOne f g) (with_parts ts t) (seq_of t) (with_parts_one f g ts t a x) h
with_parts_one f g ts (pair_of t u) a h =
    let x : IsOne f g t = cc in
    let y : IsOne f g u = cc in
    with_type_all (IsOne f g) (with_parts (with_parts ts t) u) (pair_of t u) (with_parts_one f g (with_parts ts t) u (with_parts_one f g ts t a x) y) h
with_parts_one f g ts (named m) a h = with_type_all (IsOne f g) ts (named m) a h

pub part_one : (f g : ℕ → Term) (p : ℕ) (ts : List Term) (t : Term) → ts ≡ parts_of t → p < length ts → substitute f t ≡ substitute g t → substitute f (type_at ts p) ≡ substitute g (type_at ts p)
part_one f g p ts t e l h = subst (All (IsOne f g)) (sym e) (with_parts_one f g [] t (All-nil (IsOne f g)) h) p int l

-- a type has no more parts than nodes
with_type_long : (ts : List Term) (t : Term) → length (with_type ts t) ≤ length ts + 1
with_type_long ts t = by (list_any (is_same t) ts)
  where
    by : (b : Bool) → length (cond b ts (ts ++ t ∷ [])) ≤ length ts + 1
    by true = omega arith
    by false = omega (arith, length-append ts (t ∷ []))

with_parts_long : (ts : List Term) (t : Term) → length (with_parts ts t) ≤ length ts + nodes t
with_parts_long ts int = with_type_long ts int
with_parts_long ts bool = with_type_long ts bool
with_parts_long ts char = with_type_long ts char
with_parts_long ts (variable v) = with_type_long ts (variable v)
with_parts_long ts (seq_of t) = omega (arith, with_type_long (with_parts ts t) (seq_of t), with_parts_long ts t)
with_parts_long ts (pair_of t u) = omega (arith, with_type_long (with_parts (with_parts ts t) u) (pair_of t u), with_parts_long (with_parts ts t) u, with_parts_long ts t)
with_parts_long ts (named m) = with_type_long ts (named m)

pub parts_long : (ts : List Term) (t : Term) → ts ≡ parts_of t → length ts ≤ nodes t
parts_long ts t e =
    let l : length (parts_of t) ≤ nodes t = omega (arith, with_parts_long [] t) in
    subst (λ (xs : List Term). length xs ≤ nodes t) (sym e) l

-- the type of a shape, of whose parts two substitutions make one type each
pub shape_one : (f g : ℕ → Term) (h : ℕ → Term) (p : ℕ) (s : Shape) → IsShapeBelow p s → ((q : ℕ) → q < p → substitute f (h q) ≡ substitute g (h q)) → ((v : ℕ) → s ≡ Var v → f v ≡ g v) →
    substitute f (shape_type h s) ≡ substitute g (shape_type h s)
shape_one f g h p Int b e i = refl
shape_one f g h p Bool' b e i = refl
shape_one f g h p Char b e i = refl
shape_one f g h p (Var v) b e i = i v refl
shape_one f g h p (Named m) b e i = refl
shape_one f g h p (SeqOf q) b e i = let x = e q b in cc
shape_one f g h p (Both q r) b e i = let x = e q b.0 in let y = e r b.1 in cc
