-- What turns find.
use Rattle.std.proofs.Common.{◌≡◌, ℕ, ◌+◌, arith, Bool, cond, refl, sym, ◌∙◌, ap, subst, List, [], ◌∷◌, ◌++◌, Result, Ok, Err, Option, Some, None, Vec, Bor, Global}
use Rattle.std.specs.Prelude.{max, slice_range, MatchResult}
use Rattle.nesl_values.specs.Tree.{ValueTree}
use Rattle.nesl_values.specs.Parts.{as_bool}
use Rattle.nesl_values.specs.View.{tree_of}
use Rattle.nesl_values.specs.declared.value.Value as code
use Rattle.nesl_values_builder.specs.Elements.{elements_of}
use Rattle.nesl_values_builder.specs.declared.builder.SequenceBuilder.{SequenceBuilder}
use Rattle.nesl_eval_meaning.specs.Out.{Out, value, fault, stuck, given, beside, all_beside}
use Rattle.nesl_eval_meaning.specs.Outcome.{place_if_true, body_value}
use Rattle.nesl_eval_nodes.specs.declared.meter.Meter.{Meter}
use Rattle.nesl_eval_nodes.specs.declared.meter.Stop.{Stop}
use Rattle.nesl_eval_nodes.specs.declared.meter.Stop.TheVariants.{Fault, Over, Memory, Stuck}
use Rattle.nesl_eval_nodes.specs.Meets.{Meets}
use Rattle.nesl_eval_nodes.specs.Sides.{Has, IsOne}
use Rattle.nesl_eval_nodes.proofs.Runs.{LeadsTo, memory_any}
use Rattle.nesl_eval_nodes.proofs.Sides.{meter, after, next_side}
use Rattle.nesl_split.specs.declared.found.Wanted.{Wanted}
use Rattle.nesl_split.specs.declared.found.Wanted.TheVariants.{Places, Values}
use Rattle.nesl_split.specs.declared.found.Found.{Found}
use Rattle.nesl_split.specs.declared.found.Found.TheVariants as found
use Rattle.nesl_eval_helpers.specs.Halves.{after_cost}
use Rattle.nesl_eval_helpers.specs.declared.halving.Half.{Half}
use Rattle.nesl_split.specs.Finding.{Element, of_value, found_at, IsOf, Are, Adds}

-- the same run in other words
pub meets_as : {R S X : Type 0} (T : R → X → Type 0) (U : S → X → Type 0) (m n : Meter) (v : R) (u : S) (o : Out X) → ((x : X) → T v x → U u x) → Meets T m (Ok v) n o → Meets U m (Ok u) n o
meets_as T U m n v u stuck k h = tt
meets_as T U m n v u (value x w d) k h = (k x h.0, h.1, h.2)
meets_as T U m n v u (fault f s w) k h = h

pub err_as : {R S X : Type 0} (T : R → X → Type 0) (U : S → X → Type 0) (m n : Meter) (e : Stop) (o : Out X) → Meets T m (Err e) n o → Meets U m (Err e) n o
err_as T U m n e stuck h = tt
err_as T U m n (Fault k s) (value x w d) h = h
err_as T U m n Over (value x w d) h = h
err_as T U m n Memory (value x w d) h = tt
err_as T U m n Stuck (value x w d) h = h
err_as T U m n (Fault k s) (fault k' s' w) h = h
err_as T U m n Over (fault k' s' w) h = h
err_as T U m n Memory (fault k' s' w) h = tt
err_as T U m n Stuck (fault k' s' w) h = h

-- what can't be is met where the outcome is stuck alone
pub only_stuck : {R X : Type 0} (T : R → X → Type 0) (m n : Meter) (v : R) (o : Out X) → ((x : X) → T v x → ⊥) → Meets T m (Ok v) n o → o ≡ stuck
only_stuck T m n v stuck k h = refl
only_stuck T m n v (value x w d) k h = absurd (k x h.0)
only_stuck T m n v (fault f s w) k h = absurd h

-- one more turn, which gave what was added
next_more : {R S X : Type 0} (T : R → List X → Type 0) (f0 start most : ℕ) (xs xs' : List X) (m : Meter) (v : S) (p o : Out (List X)) → Meets (λ u zs. xs' ≡ xs ++ zs) (meter f0 0) (Ok v) m p →
    LeadsTo T (meter m.fuel start) (after xs' (max most m.depth) o) (meter f0 start) (after xs most (beside p o))
next_more T f0 start most xs xs' m v stuck o h = λ r l q. tt
next_more T f0 start most xs xs' m v (fault k s w) o h = absurd h
next_more {X = X} T f0 start most xs xs' m v (value zs w d) o h = λ r l q.
    next_side T (λ u ys. ys ≡ zs) f0 start most xs zs m v (value zs w d) o (λ ys e. e) (refl, h.1, h.2) r l
    (subst (λ (ys : List X). Meets T (meter m.fuel start) r l (after ys (max most m.depth) o)) h.0 q)

pub turn_more : {I R S X : Type 0} (T : R → List X → Type 0) (p : I → Out (List X)) (is rest : List I) (i : I) (f0 start most most' : ℕ) (xs xs' : List X) (m0 m : Meter) (v : S) (o : Out (List X)) →
    is ≡ i ∷ rest → most' ≡ max most m.depth → LeadsTo T (meter f0 start) (after xs most (all_beside p is)) m0 o → Meets (λ u zs. xs' ≡ xs ++ zs) (meter f0 0) (Ok v) m (p i) →
    LeadsTo T (meter m.fuel start) (after xs' most' (all_beside p rest)) m0 o
turn_more T p is rest i f0 start most most' xs xs' m0 m v o eq greatest leads h = λ r l q.
    leads r l (subst (λ z. Meets T (meter f0 start) r l (after xs most (all_beside p z))) (sym eq)
    (next_more T f0 start most xs xs' m v (p i) (all_beside p rest) h r l (subst (λ n. Meets T (meter m.fuel start) r l (after xs' n (all_beside p rest))) greatest q)))

-- a place that is kept, or not
pub place_kept : (ks ks' : List ℕ) (i : ℕ) (v : ValueTree) (b : Bool) (m : Meter) (r : Result (Unit {0}) Stop) → as_bool v ≡ Some b → MatchResult r (λ u. ks' ≡ ks ++ cond b (i ∷ []) []) (λ e. e ≡ Memory) →
    Meets (λ (u : Unit {0}) is. ks' ≡ ks ++ is) m r m (place_if_true i v)
place_kept ks ks' i v b m (Ok u) e h =
    subst (λ o. Meets (λ (u : Unit {0}) is. ks' ≡ ks ++ is) m (Ok u) m (given o (λ x. value (cond x (i ∷ []) []) 0 0))) (sym e) (h, omega arith, omega arith)
place_kept ks ks' i v b m (Err x) e h =
    subst (λ y. Meets (λ (u : Unit {0}) is. ks' ≡ ks ++ is) m (Err y) m (place_if_true i v)) (sym h) (memory_any (λ (u : Unit {0}) is. ks' ≡ ks ++ is) m m (place_if_true i v))

-- a value that was paid for
pub value_added : (ts ts' : List ValueTree) (v : ValueTree) (paid : code.Value Global) (m n : Meter) (r : Result (Unit {0}) Stop) → Meets (IsOne {A = Global}) m (Ok paid) n (body_value v) →
    MatchResult r (λ u. ts' ≡ ts ++ tree_of paid ∷ []) (λ e. e ≡ Memory) → Meets (λ (u : Unit {0}) us. ts' ≡ ts ++ us) m r n (body_value v)
value_added ts ts' v paid m n (Ok u) p h = (h ∙ ap (λ l. ts ++ l) p.0, p.1, p.2)
value_added ts ts' v paid m n (Err x) p h =
    subst (λ y. Meets (λ (u : Unit {0}) us. ts' ≡ ts ++ us) m (Err y) n (body_value v)) (sym h) (memory_any (λ (u : Unit {0}) us. ts' ≡ ts ++ us) m n (body_value v))

-- nothing yet
pub no_places : (w : Wanted) (ks : Vec ℕ Global) → w ≡ Places → ks.items ≡ [] → Are w (found.Places ks) []
no_places w ks e h = subst (λ u. Are u (found.Places ks) []) (sym e) (refl, h)

pub no_values : (w : Wanted) (b : SequenceBuilder Global) → w ≡ Values → elements_of b ≡ [] → Are w (found.Values b) []
no_values w b e h = subst (λ u. Are u (found.Values b) []) (sym e) (refl, h)

-- one more turn's
pub place_adds : (w : Wanted) (ks ks' : Vec ℕ Global) (i : ℕ) (v : ValueTree) (m n : Meter) (r : Result (Unit {0}) Stop) → IsOf w (found.Places ks) →
    Meets (λ (u : Unit {0}) is. ks'.items ≡ ks.items ++ is) m r n (place_if_true i v) → Meets (Adds w (found.Places ks) (found.Places ks')) m r n (of_value w i v)
place_adds Places ks ks' i v m n r e h = h
place_adds Values ks ks' i v m n r e h = absurd (cc e)

pub value_adds : (w : Wanted) (b b' : SequenceBuilder Global) (i : ℕ) (v : ValueTree) (m n : Meter) (r : Result (Unit {0}) Stop) → IsOf w (found.Values b) →
    Meets (λ (u : Unit {0}) ts. elements_of b' ≡ elements_of b ++ ts) m r n (body_value v) → Meets (Adds w (found.Values b) (found.Values b')) m r n (of_value w i v)
value_adds Places b b' i v m n r e h = absurd (cc e)
value_adds Values b b' i v m n r e h = h

-- what was found is of the one kind or of the other
pub places_not : (b : SequenceBuilder Global) (xs : List (Element Places)) → Are Places (found.Values b) xs → ⊥
places_not b xs h = absurd (cc h.0)

pub values_not : (ks : Vec ℕ Global) (xs : List (Element Values)) → Are Values (found.Places ks) xs → ⊥
values_not ks xs h = absurd (cc h.0)

-- what both halves found, in other words
abbrev pub JoinsTo : (w : Wanted) → Meter → Meter → Half Found → Half Found → Result Found Stop → Type 0
JoinsTo w m n left right y =
    (o p : Out (List (Element w))) → Meets (Are w) m left.found (after_cost m left.cost) o → Meets (Are w) m right.found (after_cost m right.cost) p → Meets (Are w) m y n (beside o p)

pub joins : {V : Type 0} (u w : Wanted) (A : V → List (Element u) → Type 0) (m n : Meter) (left right : Half Found) (l r : Half V) (x : Result V Stop) (y : Result Found Stop) → w ≡ u →
    l.cost ≡ left.cost → r.cost ≡ right.cost →
    ((m n : Meter) (o : Out (List (Element u))) → Meets (Are u) m left.found n o → Meets A m l.found n o) →
    ((m n : Meter) (o : Out (List (Element u))) → Meets (Are u) m right.found n o → Meets A m r.found n o) →
    ((o p : Out (List (Element u))) → Meets A m l.found (after_cost m l.cost) o → Meets A m r.found (after_cost m r.cost) p → Meets A m x n (beside o p)) →
    ((o : Out (List (Element u))) → Meets A m x n o → Meets (Are u) m y n o) → JoinsTo w m n left right y
joins u w A m n left right l r x y e lc rc lm rm joined out =
    subst (λ v. JoinsTo v m n left right y) (sym e)
    (λ o p h k. out (beside o p) (joined o p
    (subst (λ c. Meets A m l.found (after_cost m c) o) (sym lc) (lm m (after_cost m left.cost) o h))
    (subst (λ c. Meets A m r.found (after_cost m c) p) (sym rc) (rm m (after_cost m right.cost) p k))))

-- what was found in columns
pub in_other_words : {V : Type 0} (u w : Wanted) (A : V → List (Element u) → Type 0) (m n : Meter) (v : V) (f : Found) (turn : ℕ → Out ValueTree) (is : List ℕ) → w ≡ u → ((xs : List (Element u)) → A v xs → Are u f xs) →
    Meets A m (Ok v) n (found_at u turn is) → Meets (Are w) m (Ok f) n (found_at w turn is)
in_other_words u w A m n v f turn is e k h =
    subst (λ q. Meets (Are q) m (Ok f) n (found_at q turn is)) (sym e) (meets_as A (Are u) m n v f (found_at u turn is) k h)
