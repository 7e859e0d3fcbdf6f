-- Laws of outcomes.
use Rattle.std.proofs.Common.{◌≡◌, ℕ, ◌+◌, refl, sym, ◌∙◌, ap, arith, List, [], ◌∷◌, Option, Some, None, Bool}
use Rattle.nesl_eval_meaning.specs.Names.{Value}
use Rattle.nesl_eval_meaning.specs.Out.{Out, value, fault, stuck, after_cost, and_then, given, beside, all_beside}
use Rattle.nesl_eval_meaning.specs.Outcome.{branch}

value_is : {X : Type 0} {x : X} {v w d e : ℕ} → v ≡ w → d ≡ e → value x v d ≡ value x w e
value_is p q = cc

pub added_none : {X : Type 0} (o : Out X) → after_cost 0 0 o ≡ o
added_none (value x w d) = value_is (omega arith) (omega arith)
added_none (fault t s w) = ap (λ n. fault t s n) (omega arith)
added_none stuck = refl

added_added : {X : Type 0} (w d v e : ℕ) (o : Out X) → after_cost w d (after_cost v e o) ≡ after_cost (w + v) (d + e) o
added_added w d v e (value x w' d') = value_is (omega arith) (omega arith)
added_added w d v e (fault t s w') = ap (λ n. fault t s n) (omega arith)
added_added w d v e stuck = refl

then_added : {X Y : Type 0} (w d : ℕ) (o : Out X) (k : X → Out Y) → and_then (after_cost w d o) k ≡ after_cost w d (and_then o k)
then_added w d (value x v e) k = sym (added_added w d v e (k x))
then_added w d (fault t s v) k = refl
then_added w d stuck k = refl

pub then_assoc : {X Y Z : Type 0} (o : Out X) (k : X → Out Y) (j : Y → Out Z) →
    and_then (and_then o k) j ≡ and_then o (λ x. and_then (k x) j)
then_assoc (value x w d) k j = then_added w d (k x) j
then_assoc (fault t s w) k j = refl
then_assoc stuck k j = refl

pub then_same : {X Y : Type 0} (o : Out X) (k j : X → Out Y) → ((x : X) → k x ≡ j x) → and_then o k ≡ and_then o j
then_same (value x w d) k j h = ap (after_cost w d) (h x)
then_same (fault t s w) k j h = refl
then_same stuck k j h = refl

-- a value alone
pub then_value : {X : Type 0} (o : Out X) → and_then o (λ v. value v 0 0) ≡ o
then_value (value x w d) = value_is (omega arith) (omega arith)
then_value (fault t s w) = refl
then_value stuck = refl

pub given_same : {X Y : Type 0} (o : Option X) (f g : X → Out Y) → ((x : X) → f x ≡ g x) → given o f ≡ given o g
given_same (Some x) f g h = h x
given_same None f g h = refl

pub branch_same : (b : Option Bool) (o o' p p' : Out Value) → o ≡ o' → p ≡ p' → branch b o p ≡ branch b o' p'
branch_same b o o' p p' e f = ap (λ q. branch b q p) e ∙ ap (branch b o') f

pub all_same : {I X : Type 0} (f g : I → Out (List X)) → ((i : I) → f i ≡ g i) → (is : List I) → all_beside f is ≡ all_beside g is
all_same f g h [] = refl
all_same f g h (i ∷ is) = ap (λ o. beside o (all_beside f is)) (h i) ∙ ap (beside (g i)) (all_same f g h is)
