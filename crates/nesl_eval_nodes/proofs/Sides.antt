-- Places side by side.
use Rattle.std.proofs.Common.{◌≡◌, ℕ, ◌+◌, ◌<◌, Result, Ok, Err, ap, sym, ◌∙◌, arith, subst, List, [], ◌∷◌, ◌++◌, append_assoc, max}
use Rattle.std.proofs.lemmas.List.{append-nil}
use Rattle.nesl_eval_nodes.specs.declared.meter.Meter.{Meter}
use Rattle.nesl_eval_nodes.specs.declared.meter.Stop.{Stop}
use Rattle.nesl_eval_nodes.specs.declared.meter.Stop.TheVariants.{Fault, Over, Memory, Stuck}
use Rattle.nesl_eval_meaning.specs.Out.{Out, value, fault, stuck, beside, all_beside}
use Rattle.nesl_eval_nodes.specs.Meets.{Meets}
use Rattle.nesl_eval_nodes.proofs.Runs.{LeadsTo, memory_any}

abbrev pub meter : ℕ → ℕ → Meter
meter f d = record { fuel = f; depth = d }

-- what is before has its list and its greatest depth, and its work has been taken
abbrev pub after : {X : Type 0} → List X → ℕ → Out (List X) → Out (List X)
after xs most o = beside (value xs 0 most) o

-- a place that evaluated to a list: from less fuel, what is left leads to the whole
side_value : {R X : Type 0} (T : R → List X → Type 0) (f0 f1 start w d most : ℕ) (xs ys : List X) (l : Meter) (r : Result R Stop) (o : Out (List X)) → f0 ≡ f1 + w → Meets T (meter f1 start) r l (after (xs ++ ys) (max most d) o) → Meets T (meter f0 start) r l (after xs most (beside (value ys w d) o))
side_value T f0 f1 start w d most xs ys l r stuck e h = tt
side_value T f0 f1 start w d most xs ys l (Ok v) (value zs w' d') e h = (subst (λ q. T v q) (append_assoc xs ys zs) h.0, omega (arith, h.1), h.2 ∙ ap (λ q. start + q) (omega arith))
side_value T f0 f1 start w d most xs ys l (Ok v) (fault k s w') e h = h
side_value T f0 f1 start w d most xs ys l (Err (Fault k' s')) (value zs w' d') e h = h
side_value T f0 f1 start w d most xs ys l (Err (Fault k' s')) (fault k s w') e h = (h.0, h.1, omega (arith, h.2))
side_value T f0 f1 start w d most xs ys l (Err Over) (value zs w' d') e h = omega (arith, h)
side_value T f0 f1 start w d most xs ys l (Err Over) (fault k s w') e h = omega (arith, h)
side_value T f0 f1 start w d most xs ys l (Err Memory) (value zs w' d') e h = tt
side_value T f0 f1 start w d most xs ys l (Err Memory) (fault k s w') e h = tt
side_value T f0 f1 start w d most xs ys l (Err Stuck) (value zs w' d') e h = h
side_value T f0 f1 start w d most xs ys l (Err Stuck) (fault k s w') e h = h

pub next_side : {R S X : Type 0} (T : R → List X → Type 0) (U : S → List X → Type 0) (f0 start most : ℕ) (xs ys : List X) (m : Meter) (v : S) (p o : Out (List X)) → ((zs : List X) → U v zs → zs ≡ ys) → Meets U (meter f0 0) (Ok v) m p → LeadsTo T (meter m.fuel start) (after (xs ++ ys) (max most m.depth) o) (meter f0 start) (after xs most (beside p o))
next_side T U f0 start most xs ys m v stuck o only h = λ r l q. tt
next_side T U f0 start most xs ys m v (fault k s w) o only h = absurd h
next_side T U f0 start most xs ys m v (value zs w d) o only h = λ r l q.
    let same : m.depth ≡ d = omega (arith, h.2) in
    let its : ys ≡ zs = sym (only zs h.0) in
    side_value T f0 m.fuel start w d most xs zs l r o h.1 (subst (λ n. Meets T (meter m.fuel start) r l (after (xs ++ zs) (max most n) o)) same (subst (λ q. Meets T (meter m.fuel start) r l (after (xs ++ q) (max most m.depth) o)) its q))

side_over : {R X : Type 0} (T : R → List X → Type 0) (f0 start w d most : ℕ) (xs ys : List X) (l : Meter) (o : Out (List X)) → f0 < w → Meets T (meter f0 start) (Err Over) l (after xs most (beside (value ys w d) o))
side_over T f0 start w d most xs ys l stuck h = tt
side_over T f0 start w d most xs ys l (value zs w' d') h = omega arith
side_over T f0 start w d most xs ys l (fault k s w') h = omega arith

-- a place that stopped: the first in order decides
pub side_stops : {R S X : Type 0} (T : R → List X → Type 0) (U : S → List X → Type 0) (f0 start most : ℕ) (xs : List X) (m : Meter) (e : Stop) (p o : Out (List X)) → Meets U (meter f0 0) (Err e) m p → Meets T (meter f0 start) (Err e) m (after xs most (beside p o))
side_stops T U f0 start most xs m e stuck o h = tt
side_stops T U f0 start most xs m (Fault k' s') (fault k s w) o h = (h.0, h.1, omega (arith, h.2))
side_stops T U f0 start most xs m Over (fault k s w) o h = omega (arith, h)
side_stops T U f0 start most xs m Memory (fault k s w) o h = tt
side_stops T U f0 start most xs m Stuck (fault k s w) o h = absurd h
side_stops T U f0 start most xs m (Fault k' s') (value ys w d) o h = absurd h
side_stops T U f0 start most xs m Over (value ys w d) o h = side_over T f0 start w d most xs ys m o h
side_stops T U f0 start most xs m Memory (value ys w d) o h = memory_any T (meter f0 start) m (after xs most (beside (value ys w d) o))
side_stops T U f0 start most xs m Stuck (value ys w d) o h = absurd h

-- one turn of a loop over places
pub turn_stops : {I R S X : Type 0} (T : R → List X → Type 0) (U : S → List X → Type 0) (p : I → Out (List X)) (is rest : List I) (i : I) (f0 start most : ℕ) (xs : List X) (m0 m : Meter) (e : Stop) (o : Out (List X)) → is ≡ i ∷ rest → LeadsTo T (meter f0 start) (after xs most (all_beside p is)) m0 o → Meets U (meter f0 0) (Err e) m (p i) → Meets T m0 (Err e) m o
turn_stops T U p is rest i f0 start most xs m0 m e o eq leads h =
    leads (Err e) m (subst (λ q. Meets T (meter f0 start) (Err e) m (after xs most (all_beside p q))) (sym eq) (side_stops T U f0 start most xs m e (p i) (all_beside p rest) h))

pub turn_next : {I R S X : Type 0} (T : R → List X → Type 0) (U : S → List X → Type 0) (p : I → Out (List X)) (is rest : List I) (i : I) (f0 start most most' : ℕ) (xs xs' ys : List X) (m0 m : Meter) (v : S) (o : Out (List X)) → is ≡ i ∷ rest → ((zs : List X) → U v zs → zs ≡ ys) → xs' ≡ xs ++ ys → most' ≡ max most m.depth → LeadsTo T (meter f0 start) (after xs most (all_beside p is)) m0 o → Meets U (meter f0 0) (Ok v) m (p i) → LeadsTo T (meter m.fuel start) (after xs' most' (all_beside p rest)) m0 o
turn_next T U p is rest i f0 start most most' xs xs' ys m0 m v o eq only more greatest leads h = λ r l q.
    leads r l (subst (λ z. Meets T (meter f0 start) r l (after xs most (all_beside p z))) (sym eq)
    (next_side T U f0 start most xs ys m v (p i) (all_beside p rest) only h r l
    (subst (λ n. Meets T (meter m.fuel start) r l (after (xs ++ ys) n (all_beside p rest))) greatest (subst (λ z. Meets T (meter m.fuel start) r l (after z most' (all_beside p rest))) more q))))

pub turns_done : {I R X : Type 0} (T : R → List X → Type 0) (p : I → Out (List X)) (is : List I) (f0 start most : ℕ) (xs : List X) (m0 : Meter) (v : R) (o : Out (List X)) → is ≡ [] → LeadsTo T (meter f0 start) (after xs most (all_beside p is)) m0 o → T v xs → Meets T m0 (Ok v) (meter f0 (start + most)) o
turns_done T p is f0 start most xs m0 v o none leads h =
    leads (Ok v) (meter f0 (start + most)) (subst (λ z. Meets T (meter f0 start) (Ok v) (meter f0 (start + most)) (after xs most (all_beside p z))) (sym none)
    (subst (T v) (sym (append-nil xs)) h, omega arith, ap (λ q. start + q) (omega arith)))
