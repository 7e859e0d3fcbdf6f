-- Laws of outcomes.
use Rattle.std.proofs.Common.{◌≡◌, ℕ, ◌+◌, refl, sym, ◌∙◌, ap, arith, List, [], ◌++◌, append_assoc, append-nil}
use Rattle.std.specs.Prelude.{max}
use Rattle.nesl_lex.specs.declared.token.Span.{Span}
use Rattle.nesl_scalars.specs.declared.trap.Trap.{Trap}
use Rattle.nesl_eval_meaning.specs.Names.{Value}
use Rattle.nesl_eval_meaning.specs.Out.{Out, value, fault, stuck, after_cost, and_then, at_call, beside}
use Rattle.nesl_eval_rounds.specs.Rounds.{gathering}

value_is : {X : Type 0} {x : X} {v w d e : ℕ} → v ≡ w → d ≡ e → value x v d ≡ value x w e
value_is p q = cc

pub after_none : {X : Type 0} (o : Out X) → after_cost 0 0 o ≡ o
after_none (value x w d) = value_is (omega arith) (omega arith)
after_none (fault t s w) = ap (λ n. fault t s n) (omega arith)
after_none stuck = refl

pub after_after : {X : Type 0} (w d v e : ℕ) (o : Out X) → after_cost w d (after_cost v e o) ≡ after_cost (w + v) (d + e) o
after_after w d v e (value x w' d') = value_is (omega arith) (omega arith)
after_after w d v e (fault t s w') = ap (λ n. fault t s n) (omega arith)
after_after w d v e stuck = refl

pub then_after : {X Y : Type 0} (w d : ℕ) (o : Out X) (k : X → Out Y) → and_then (after_cost w d o) k ≡ after_cost w d (and_then o k)
then_after w d (value x v e) k = sym (after_after w d v e (k x))
then_after w d (fault t s v) k = refl
then_after w d stuck k = refl

-- work is taken out before depth
pub swapped : {X : Type 0} (d w : ℕ) (o : Out X) → after_cost 0 d (after_cost w 0 o) ≡ after_cost w 0 (after_cost 0 d o)
swapped d w o =
    let p : 0 + w ≡ w + 0 = omega arith in
    let q : d + 0 ≡ 0 + d = omega arith in
    after_after 0 d w 0 o ∙ ap (λ n. after_cost n (d + 0) o) p ∙ ap (λ n. after_cost (w + 0) n o) q ∙ sym (after_after w 0 0 d o)

pub moved : {X : Type 0} (D w d e : ℕ) (o : Out X) → e ≡ D + d → after_cost 0 D (after_cost w d o) ≡ after_cost w 0 (after_cost 0 e o)
moved D w d e o h =
    let p : 0 + w ≡ w + 0 = omega arith in
    let q : D + d ≡ 0 + e = omega arith in
    after_after 0 D w d o ∙ ap (λ n. after_cost n (D + d) o) p ∙ ap (λ n. after_cost (w + 0) n o) q ∙ sym (after_after w 0 0 e o)

pub at_call_after : {X : Type 0} (s : Span) (w d : ℕ) (o : Out X) → at_call s (after_cost w d o) ≡ after_cost w d (at_call s o)
at_call_after s w d (value x v e) = refl
at_call_after s w d (fault t s' v) = refl
at_call_after s w d stuck = refl

list_value : {X : Type 0} {x y : List X} {w w' d d' : ℕ} → x ≡ y → w ≡ w' → d ≡ d' → value x w d ≡ value y w' d'
list_value o p q = cc

beside_assoc : {X : Type 0} (o p q : Out (List X)) → beside (beside o p) q ≡ beside o (beside p q)
beside_assoc stuck p q = refl
beside_assoc (fault t s w) p q = refl
beside_assoc (value xs w d) stuck q = refl
beside_assoc (value xs w d) (fault t s w') q = refl
beside_assoc (value xs w d) (value ys w' d') stuck = refl
beside_assoc (value xs w d) (value ys w' d') (fault t s v) = ap (λ n. fault t s n) (omega arith)
beside_assoc (value xs w d) (value ys w' d') (value zs v e) = list_value (append_assoc xs ys zs) (omega arith) (omega arith)

beside_none : {X : Type 0} (o : Out (List X)) → beside (value [] 0 0) o ≡ o
beside_none stuck = refl
beside_none (fault t s w) = ap (λ n. fault t s n) (omega arith)
beside_none (value xs w d) = value_is (omega arith) (omega arith)

beside_after : {X : Type 0} (w : ℕ) (o p : Out (List X)) → beside (after_cost w 0 o) p ≡ after_cost w 0 (beside o p)
beside_after w (value xs v d) (value ys v' d') = value_is (omega arith) (omega arith)
beside_after w (value xs v d) (fault t s v') = ap (λ n. fault t s n) (omega arith)
beside_after w (value xs v d) stuck = refl
beside_after w (fault t s v) p = refl
beside_after w stuck p = refl

beside_later : {X : Type 0} (xs : List X) (m w : ℕ) (o : Out (List X)) → beside (value xs 0 m) (after_cost w 0 o) ≡ after_cost w 0 (beside (value xs 0 m) o)
beside_later xs m w (value ys v d) = value_is (omega arith) (omega arith)
beside_later xs m w (fault t s v) = ap (λ n. fault t s n) (omega arith)
beside_later xs m w stuck = refl

-- work that was done in a turn comes out of its round
pub gathering_after : {X : Type 0} (start most : ℕ) (done : List X) (w : ℕ) (o l : Out (List X)) (k : List X → Out Value) →
    gathering start most done (beside (after_cost w 0 o) l) k ≡ after_cost w 0 (gathering start most done (beside o l) k)
gathering_after start most done w o l k =
    ap (λ p. gathering start most done p k) (beside_after w o l)
    ∙ ap (λ p. after_cost 0 start (and_then p k)) (beside_later done most w (beside o l))
    ∙ ap (after_cost 0 start) (then_after w 0 (beside (value done 0 most) (beside o l)) k)
    ∙ swapped start w (and_then (beside (value done 0 most) (beside o l)) k)

pub fault_twice : (X : Type 0) (t : Trap) (s : Span) (w : ℕ) → ◌≡◌ {A = Out X} (fault t s (0 + (0 + w))) (fault t s w)
fault_twice X t s w = let e : 0 + (0 + w) ≡ w = omega arith in ap (λ n. fault t s n) e

-- what a turn gave is among what its round gave so far
pub gathering_more : {X : Type 0} (start most : ℕ) (done xs : List X) (w d : ℕ) (l : Out (List X)) (k : List X → Out Value) →
    gathering start most done (beside (value xs w d) l) k ≡ after_cost w 0 (gathering start (max most d) (done ++ xs) l k)
gathering_more start most done xs w d l k =
    ap (λ p. after_cost 0 start (and_then p k)) (sym (beside_assoc (value done 0 most) (value xs w d) l))
    ∙ ap (λ p. after_cost 0 start (and_then (beside p l) k)) (list_value refl (omega arith) (omega arith))
    ∙ ap (λ p. after_cost 0 start (and_then p k)) (beside_after w (value (done ++ xs) 0 (max most d)) l)
    ∙ ap (after_cost 0 start) (then_after w 0 (beside (value (done ++ xs) 0 (max most d)) l) k)
    ∙ swapped start w (and_then (beside (value (done ++ xs) 0 (max most d)) l) k)

-- no turn is left
pub gathering_done : {X : Type 0} (start most : ℕ) (done : List X) (k : List X → Out Value) →
    gathering start most done (value [] 0 0) k ≡ after_cost 0 (start + most) (k done)
gathering_done start most done k =
    let nothing : 0 + 0 ≡ 0 = omega arith in
    ap (λ o. after_cost 0 start (and_then o k)) (list_value (append-nil done) (omega arith) (omega arith))
    ∙ after_after 0 start 0 most (k done)
    ∙ ap (λ w. after_cost w (start + most) (k done)) nothing

-- no turn was begun
pub gathering_first : {X : Type 0} (start : ℕ) (l : Out (List X)) (k : List X → Out Value) →
    gathering start 0 [] l k ≡ after_cost 0 start (and_then l k)
gathering_first start l k = ap (λ o. after_cost 0 start (and_then o k)) (beside_none l)
