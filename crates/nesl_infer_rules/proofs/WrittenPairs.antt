-- Types that are written, in a bank.
use Rattle.std.proofs.Common.{◌<◌, ℕ, List, length, sym, subst, refl}
use Rattle.nesl_types_shared.specs.Term.{Term, pair_of}
use Rattle.nesl_types_shared.specs.Numbering.{IsBelow}
use Rattle.nesl_types_shared.specs.Types.{type_at, Extends, IsPut}
use Rattle.nesl_syntax_tree.specs.Trees.{TypeTree, pair_type}
use Rattle.nesl_infer_rules.specs.World.{DatatypesByName}
use Rattle.nesl_infer_rules.specs.Typing.{IsWritten, IsWrittenShape}

-- the type that is written is at place p
abbrev pub IsAt : DatatypesByName → TypeTree → List Term → ℕ → Type 0
IsAt ds a ts p = (p < length ts) × IsWritten ds a (type_at ts p) × IsBelow 0 (type_at ts p)

-- the pairs of two that are there are put in
pub pair_at : (ds : DatatypesByName) (a b : TypeTree) (one two three : List Term) (p q r : ℕ) → IsAt ds a one p → Extends one two → IsAt ds b two q → IsPut two three (pair_of (type_at two p) (type_at two q)) r →
    (r < length three) × IsWrittenShape ds (pair_type a b) (type_at three r) × IsBelow 0 (type_at three r)
pair_at ds a b one two three p q r x e y put =
    let kept = sym (e.kept p x.0) in
    let left = subst (λ (t : Term). IsWritten ds a t) kept x.1 in
    let low = subst (λ (t : Term). IsBelow 0 t) kept x.2 in (
      put.within,
      subst (λ (t : Term). IsWrittenShape ds (pair_type a b) t) (sym put.here) (type_at two p, type_at two q, left, y.1, refl),
      subst (λ (t : Term). IsBelow 0 t) (sym put.here) (low, y.2),
    )
