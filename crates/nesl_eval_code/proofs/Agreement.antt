-- Outcomes that agree, put together.
use Rattle.std.proofs.Common.{◌≡◌, ℕ, ◌+◌, refl, ◌∙◌, ap, subst, arith, List, [], ◌∷◌, Option, Some, None, Bool, true, false}
use Rattle.nesl_lex.specs.declared.token.Span.{Span}
use Rattle.nesl_eval_meaning.specs.Names.{Value}
use Rattle.nesl_eval_meaning.specs.Out.{Out, value, fault, stuck, after_cost, and_then, given, at_call, beside}
use Rattle.nesl_eval_meaning.specs.Out.{all_beside}
use Rattle.nesl_eval_meaning.specs.Outcome.{branch}
use Rattle.nesl_eval_code.specs.Means.{Agrees}

pub same : {X : Type 0} (o : Out X) → Agrees o o
same o n = refl

pub equal : {X : Type 0} {r o p : Out X} → Agrees r o → o ≡ p → Agrees r p
equal {X} {r} {o} {p} h e = let F : Out X → Type 0 = λ q. Agrees r q in subst F e h

pub equal_left : {X : Type 0} {r q o : Out X} → q ≡ r → Agrees r o → Agrees q o
equal_left e h n = e ∙ h n

pub agrees_added : {X : Type 0} (w d : ℕ) (r o : Out X) → Agrees r o → Agrees (after_cost w d r) (after_cost w d o)
agrees_added w d r stuck h n = absurd (n refl)
agrees_added w d r (value x w' d') h n = ap (after_cost w d) (h (λ e. cc))
agrees_added w d r (fault t s w') h n = ap (after_cost w d) (h (λ e. cc))

pub agrees_then : {X Y : Type 0} (r o : Out X) (h k : X → Out Y) → Agrees r o → ((x : X) → Agrees (h x) (k x)) →
    Agrees (and_then r h) (and_then o k)
agrees_then r stuck h k a f n = absurd (n refl)
agrees_then r (fault t s w) h k a f n = ap (λ q. and_then q h) (a (λ e. cc))
agrees_then r (value x w d) h k a f n =
    ap (λ q. and_then q h) (a (λ e. cc)) ∙ agrees_added w d (h x) (k x) (f x) n

pub agrees_given : {X Y : Type 0} (b : Option X) (h k : X → Out Y) → ((x : X) → Agrees (h x) (k x)) →
    Agrees (given b h) (given b k)
agrees_given None h k f n = refl
agrees_given (Some x) h k f n = f x n

pub agrees_branch : (b : Option Bool) (r1 r2 o1 o2 : Out Value) → Agrees r1 o1 → Agrees r2 o2 →
    Agrees (branch b r1 r2) (branch b o1 o2)
agrees_branch None r1 r2 o1 o2 f g = λ n. refl
agrees_branch (Some true) r1 r2 o1 o2 f g = f
agrees_branch (Some false) r1 r2 o1 o2 f g = g

pub agrees_call : {X : Type 0} (s : Span) (r o : Out X) → Agrees r o → Agrees (at_call s r) (at_call s o)
agrees_call s r stuck h n = absurd (n refl)
agrees_call s r (value x w d) h n = ap (at_call s) (h (λ e. cc))
agrees_call s r (fault t u w) h n = ap (at_call s) (h (λ e. cc))

agrees_after : {X : Type 0} (xs : List X) (w d : ℕ) (r o : Out (List X)) → Agrees r o →
    Agrees (beside (value xs w d) r) (beside (value xs w d) o)
agrees_after xs w d r stuck h n = absurd (n refl)
agrees_after xs w d r (value ys v e) h n = ap (beside (value xs w d)) (h (λ q. cc))
agrees_after xs w d r (fault t u v) h n = ap (beside (value xs w d)) (h (λ q. cc))

pub agrees_beside : {X : Type 0} (r o q p : Out (List X)) → Agrees r o → Agrees q p → Agrees (beside r q) (beside o p)
agrees_beside r stuck q p h k n = absurd (n refl)
agrees_beside r (fault t s w) q p h k n = ap (λ x. beside x q) (h (λ e. cc))
agrees_beside r (value xs w d) q p h k n =
    ap (λ x. beside x q) (h (λ e. cc)) ∙ agrees_after xs w d q p k n

pub agrees_all : {I X : Type 0} (f g : I → Out (List X)) (is : List I) → ((i : I) → Agrees (f i) (g i)) →
    Agrees (all_beside f is) (all_beside g is)
agrees_all f g [] h = same (value [] 0 0)
agrees_all f g (i ∷ is) h = agrees_beside (f i) (g i) (all_beside f is) (all_beside g is) (h i) (agrees_all f g is h)

added_added : {X : Type 0} (w d v e : ℕ) (o : Out X) → after_cost (w + v) (d + e) o ≡ after_cost w d (after_cost v e o)
added_added w d v e stuck = refl
added_added w d v e (fault t s u) = ap (λ n. fault t s n) (omega arith)
added_added w d v e (value x u f) = two (omega arith) (omega arith)
  where
    two : {X : Type 0} {x : X} {m n i j : ℕ} → m ≡ n → i ≡ j → value x m i ≡ value x n j
    two p q = cc

then_added : {X Y : Type 0} (w d : ℕ) (o : Out X) (k : X → Out Y) → and_then (after_cost w d o) k ≡ after_cost w d (and_then o k)
then_added w d stuck k = refl
then_added w d (fault t s v) k = refl
then_added w d (value x v e) k = added_added w d v e (k x)

pub then_then : {X Y Z : Type 0} (o : Out X) (h : X → Out Y) (k : Y → Out Z) →
    and_then (and_then o h) k ≡ and_then o (λ x. and_then (h x) k)
then_then stuck h k = refl
then_then (fault t s w) h k = refl
then_then (value x w d) h k = then_added w d (h x) k

pub then_value : {X : Type 0} (o : Out X) → and_then o (λ x. value x 0 0) ≡ o
then_value stuck = refl
then_value (fault t s w) = refl
then_value (value x w d) = two (omega arith) (omega arith)
  where
    two : {X : Type 0} {x : X} {m n i j : ℕ} → m ≡ n → i ≡ j → value x m i ≡ value x n j
    two p q = cc

-- what follows may be any function that evaluates to the same
pub then_same : {X Y : Type 0} (o : Out X) (h k : X → Out Y) → ((x : X) → h x ≡ k x) → and_then o h ≡ and_then o k
then_same stuck h k e = refl
then_same (fault t s w) h k e = refl
then_same (value x w d) h k e = ap (after_cost w d) (e x)
