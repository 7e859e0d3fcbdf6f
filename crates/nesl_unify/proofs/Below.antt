-- Types whose variables are below a number, by their parts.
use Rattle.std.proofs.Common.{◌≡◌, ℕ, ◌<◌, ◌++◌, ◌∷◌, [], true, false, Bool, cond, List, All, length, refl, sym, subst}
use Rattle.std.specs.List.{list_any}
use Rattle.std.proofs.lemmas.List.Elements.{All-nil, All-push}
use Rattle.nesl_types_shared.specs.Term.{Term, int, bool, char, variable, seq_of, pair_of, named}
use Rattle.nesl_types_shared.specs.Numbering.{IsBelow}
use Rattle.nesl_types_shared.specs.declared.shape.Shape.{Shape}
use Rattle.nesl_types_shared.specs.declared.shape.Shape.TheVariants.{Int, Bool as Bool', Char, Var, Named, SeqOf, Both}
use Rattle.nesl_types_shared.specs.Shapes.{IsShapeBelow, shape_type}
use Rattle.nesl_types_shared.specs.Types.{type_at}
use Rattle.nesl_types_shared.specs.Lists.{is_same, with_type, with_parts, parts_of}

-- the parts of a type have no variables but its own
with_type_below : (n : ℕ) (ts : List Term) (t : Term) → All (IsBelow n) ts → IsBelow n t → All (IsBelow n) (with_type ts t)
with_type_below n ts t a h = by (list_any (is_same t) ts)
  where
    by : (b : Bool) → All (IsBelow n) (cond b ts (ts ++ t ∷ []))
    by true = a
    by false = All-push (IsBelow n) ts t a h

with_parts_below : (n : ℕ) (ts : List Term) (t : Term) → All (IsBelow n) ts → IsBelow n t → All (IsBelow n) (with_parts ts t)
with_parts_below n ts int a h = with_type_below n ts int a h
with_parts_below n ts bool a h = with_type_below n ts bool a h
with_parts_below n ts char a h = with_type_below n ts char a h
with_parts_below n ts (variable v) a h = with_type_below n ts (variable v) a h
with_parts_below n ts (seq_of t) a h = with_type_below n (with_parts ts t) (seq_of t) (with_parts_below n ts t a h) h
with_parts_below n ts (pair_of t u) a h =
    with_type_below n (with_parts (with_parts ts t) u) (pair_of t u) (with_parts_below n (with_parts ts t) u (with_parts_below n ts t a h.0) h.1) h
with_parts_below n ts (named m) a h = with_type_below n ts (named m) a h

pub part_below : (n p : ℕ) (ts : List Term) (t : Term) → ts ≡ parts_of t → p < length ts → IsBelow n t → IsBelow n (type_at ts p)
part_below n p ts t e l h = subst (All (IsBelow n)) (sym e) (with_parts_below n [] t (All-nil (IsBelow n)) h) p int l

-- the type of a shape whose parts have such variables
pub shape_below : (n k : ℕ) (f : ℕ → Term) (s : Shape) → IsShapeBelow k s → ((p : ℕ) → p < k → IsBelow n (f p)) → ((v : ℕ) → s ≡ Var v → v < n) → IsBelow n (shape_type f s)
shape_below n k f Int b h i = tt
shape_below n k f Bool' b h i = tt
shape_below n k f Char b h i = tt
shape_below n k f (Var v) b h i = i v refl
shape_below n k f (Named m) b h i = tt
shape_below n k f (SeqOf p) b h i = h p b
shape_below n k f (Both p q) b h i = (h p b.0, h q b.1)
