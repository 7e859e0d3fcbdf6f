-- Turns of an apply-to-each, one after the other.
use Rattle.std.proofs.Common.{◌≡◌, ℕ, suc, ◌+◌, ◌<◌, ◌≤◌, refl, sym, ◌∙◌, ap, subst, arith, List, [], ◌∷◌, ◌++◌, append_assoc, append-nil, length, drop, Some, Result, Ok, Err}
use Rattle.std.specs.Prelude.{slice_get}
use Rattle.nesl_lex.specs.declared.token.Span.{Span}
use Rattle.nesl_cost_meaning.specs.Cost as cost
use Rattle.nesl_cost_meaning.specs.Cost.{Cost, free, work_in}
use Rattle.nesl_cost_meaning.specs.Traced.{Traced, value, fault, stuck, beside, all_beside}
use Rattle.nesl_cost_rows.specs.Written.{Note, turn, others, turned, written}
use Rattle.nesl_cost_eval.specs.declared.unfinished.Unfinished.{Unfinished}
use Rattle.nesl_cost_eval.specs.declared.unfinished.Unfinished.TheVariants.{Fault, Over, Memory, Stuck}
use Rattle.nesl_cost_eval.specs.Writes.{Book, Adds, Writes, noted, closings, closed}
use Rattle.nesl_cost_eval.proofs.Running.{adds_free, memory_any}
use Rattle.nesl_cost_eval.proofs.Lists.{Same, behind, behind_twice}
use Rattle.nesl_eval_nodes.proofs.Arms.{drop_next}
use Rattle.std.proofs.lemmas.List.{drop_all}

-- a turn's cost, written down, with that of the turns after it
turn_notes : (ns ms ks : List Note) (s : Span) (i : ℕ) (c e : Cost) → ms ≡ (ns ++ turn s i ∷ []) ++ written c → ks ≡ (ms ++ others ∷ []) ++ written e →
    ks ++ turned ∷ [] ≡ ns ++ written (cost.turn s i c e)
turn_notes ns ms ks s i c e p q =
    ap (λ (l : List Note). l ++ turned ∷ []) (q ∙ ap (λ (l : List Note). (l ++ others ∷ []) ++ written e) (p ∙ append_assoc ns (turn s i ∷ []) (written c)))
    ∙ ap (λ (l : List Note). (l ++ written e) ++ turned ∷ []) (append_assoc ns (turn s i ∷ written c) (others ∷ []))
    ∙ ap (λ (l : List Note). l ++ turned ∷ []) (append_assoc ns ((turn s i ∷ written c) ++ others ∷ []) (written e))
    ∙ append_assoc ns (((turn s i ∷ written c) ++ others ∷ []) ++ written e) (turned ∷ [])
    ∙ ap (λ (l : List Note). ns ++ turn s i ∷ l)
    (ap (λ (l : List Note). l ++ turned ∷ []) (append_assoc (written c) (others ∷ []) (written e)) ∙ append_assoc (written c) (others ∷ written e) (turned ∷ []))

-- a turn, and those after it
adds_turn : (a b d : Book) (s : Span) (i : ℕ) (c e : Cost) → Adds (noted (turn s i) a) b c → Adds (noted others b) d e → Adds a (noted turned d) (cost.turn s i c e)
adds_turn a b d s i c e h k = (turn_notes a.notes b.notes d.notes s i c e h.0 k.0, omega (arith, h.1, k.1))

-- a turn that ended without a value, and none after it
adds_last : (a b : Book) (s : Span) (i : ℕ) (c : Cost) → Adds (noted (turn s i) a) b c → Adds a (noted turned (noted others b)) (cost.turn s i c free)
adds_last a b s i c h = adds_turn a b (noted others b) s i c free h (adds_free (noted others b))

pub turn_ok : {R X : Type 0} (T : R → List X → Type 0) (s : Span) (i : ℕ) (v : R) (xs : List X) (a b d : Book) (o p : Traced (List X)) (q : Result (List X) Unfinished) →
    ((ys : List X) → T v ys → xs ≡ ys) → Writes T (noted (turn s i) a) (Ok v) b o → Writes Same (noted others b) q d p →
    Writes Same a (behind xs q) (noted turned d) (beside s i o p)
turn_ok {R} {X} T s i v xs a b d stuck p q f h k = tt
turn_ok {R} {X} T s i v xs a b d (fault t j r c) p q f h k = absurd h
turn_ok {R} {X} T s i v xs a b d (value ys c) stuck q f h k = tt
turn_ok {R} {X} T s i v xs a b d (value ys c) (value zs e) (Ok ws) f h k =
    (ap (λ (l : List X). l ++ ws) (f ys h.0) ∙ ap (λ (l : List X). ys ++ l) k.0, adds_turn a b d s i c e h.1 k.1)
turn_ok {R} {X} T s i v xs a b d (value ys c) (value zs e) (Err (Fault u j r)) f h k = absurd k
turn_ok {R} {X} T s i v xs a b d (value ys c) (value zs e) (Err Over) f h k = omega (arith, h.1.1, k)
turn_ok {R} {X} T s i v xs a b d (value ys c) (value zs e) (Err Memory) f h k = tt
turn_ok {R} {X} T s i v xs a b d (value ys c) (value zs e) (Err Stuck) f h k = absurd k
turn_ok {R} {X} T s i v xs a b d (value ys c) (fault t j r e) (Ok ws) f h k = absurd k
turn_ok {R} {X} T s i v xs a b d (value ys c) (fault t j r e) (Err (Fault u l m)) f h k = (k.0, k.1, k.2, adds_turn a b d s i c e h.1 k.3)
turn_ok {R} {X} T s i v xs a b d (value ys c) (fault t j r e) (Err Over) f h k = omega (arith, h.1.1, k)
turn_ok {R} {X} T s i v xs a b d (value ys c) (fault t j r e) (Err Memory) f h k = tt
turn_ok {R} {X} T s i v xs a b d (value ys c) (fault t j r e) (Err Stuck) f h k = absurd k

over_turn : {X : Type 0} (s : Span) (i : ℕ) (a b : Book) (c : Cost) (p : Traced (List X)) (xs : List X) → a.fuel < work_in c → Writes Same a (Err Over) b (beside s i (value xs c) p)
over_turn s i a b c (value zs e) xs h = omega (arith, h)
over_turn s i a b c (fault t j r e) xs h = omega (arith, h)
over_turn s i a b c stuck xs h = tt

pub turn_err : {R X : Type 0} (T : R → List X → Type 0) (s : Span) (i : ℕ) (k : Unfinished) (a b : Book) (o p : Traced (List X)) →
    Writes T (noted (turn s i) a) (Err k) b o → Writes Same a (Err k) (noted turned (noted others b)) (beside s i o p)
turn_err T s i k a b stuck p h = tt
turn_err T s i (Fault u l m) a b (value ys c) p h = absurd h
turn_err T s i Over a b (value ys c) p h = over_turn s i a (noted turned (noted others b)) c p ys h
turn_err T s i Memory a b (value ys c) p h = memory_any Same a (noted turned (noted others b)) (beside s i (value ys c) p)
turn_err T s i Stuck a b (value ys c) p h = absurd h
turn_err T s i (Fault u l m) a b (fault t j r c) p h = (h.0, h.1, h.2, adds_last a b s i c h.3)
turn_err T s i Over a b (fault t j r c) p h = omega (arith, h)
turn_err T s i Memory a b (fault t j r c) p h = tt
turn_err T s i Stuck a b (fault t j r c) p h = absurd h

-- whatever is written for the turns that are left is written for all, once the turns that were taken are closed
abbrev pub LeadsTurns : {X : Type 0} → ℕ → Book → List X → Traced (List X) → Book → Traced (List X) → Type 0
LeadsTurns {X} n b xs p a o = (q : Result (List X) Unfinished) (d : Book) → Writes Same b q d p → Writes Same a (behind xs q) (closed n d) o

close_one : (n : ℕ) (d : Book) → closed n (noted turned d) ≡ closed (n + 1) d
close_one n d =
    let F : List Note → Book = λ l. record { notes = l; fuel = d.fuel } in
    let one : suc n ≡ n + 1 = omega arith in
    ap F (append_assoc d.notes (turned ∷ []) (closings n) ∙ ap (λ (k : ℕ). d.notes ++ closings k) one)

none_closed : (d : Book) → closed 0 d ≡ d
none_closed d = let F : List Note → Book = λ l. record { notes = l; fuel = d.fuel } in ap F (append-nil d.notes)

pub turns_start : {X : Type 0} (a : Book) (o : Traced (List X)) → LeadsTurns 0 a [] o a o
turns_start {X} a o = λ q d h.
    subst (λ (b : Book). Writes Same a (behind [] q) b o) (sym (none_closed d)) (subst (λ (r : Result (List X) Unfinished). Writes Same a r d o) (as_is q) h)
  where
    as_is : (q : Result (List X) Unfinished) → q ≡ behind [] q
    as_is (Ok ys) = refl
    as_is (Err e) = refl

module _ {X : Type 0} (s : Span) (f : ℕ → Traced (List X)) (is : List ℕ) where
  rest_of : (n i : ℕ) → slice_get is n ≡ Some i → all_beside s f (drop n is) ≡ beside s i (f i) (all_beside s f (drop (n + 1) is))
  rest_of n i e = ap (all_beside s f) (drop_next is n i e)

  pub turns_step : {R : Type 0} (T : R → List X → Type 0) (n i : ℕ) (v : R) (xs ys : List X) (a b d : Book) (w : Traced (List X)) → slice_get is n ≡ Some i →
      ((zs : List X) → T v zs → ys ≡ zs) → LeadsTurns n b xs (all_beside s f (drop n is)) a w → Writes T (noted (turn s i) b) (Ok v) d (f i) →
      LeadsTurns (n + 1) (noted others d) (xs ++ ys) (all_beside s f (drop (n + 1) is)) a w
  turns_step T n i v xs ys a b d w e g l h = λ q k j.
      subst (λ (r : Result (List X) Unfinished). Writes Same a r (closed (n + 1) k) w) (behind_twice xs ys q)
      (subst (λ (x : Book). Writes Same a (behind xs (behind ys q)) x w) (close_one n k)
      (l (behind ys q) (noted turned k) (subst (λ (o : Traced (List X)). Writes Same b (behind ys q) (noted turned k) o) (sym (rest_of n i e))
      (turn_ok T s i v ys b d k (f i) (all_beside s f (drop (n + 1) is)) q g h j))))

  pub turns_stop : {R : Type 0} (T : R → List X → Type 0) (n i : ℕ) (k : Unfinished) (xs : List X) (a b d : Book) (w : Traced (List X)) →
      slice_get is n ≡ Some i → LeadsTurns n b xs (all_beside s f (drop n is)) a w → Writes T (noted (turn s i) b) (Err k) d (f i) →
      Writes Same a (Err k) (closed (n + 1) (noted others d)) w
  turns_stop T n i k xs a b d w e l h =
      subst (λ (x : Book). Writes Same a (Err k) x w) (close_one n (noted others d))
      (l (Err k) (noted turned (noted others d)) (subst (λ (o : Traced (List X)). Writes Same b (Err k) (noted turned (noted others d)) o) (sym (rest_of n i e))
      (turn_err T s i k b d (f i) (all_beside s f (drop (n + 1) is)) h)))

  pub turns_end : (n : ℕ) (xs : List X) (a b : Book) (w : Traced (List X)) → length is ≤ n → LeadsTurns n b xs (all_beside s f (drop n is)) a w →
      Writes Same a (Ok (xs ++ [])) (closed n b) w
  turns_end n xs a b w h l =
      l (Ok []) b (subst (λ (ks : List ℕ). Writes Same b (Ok []) b (all_beside s f ks)) (sym (drop_all n is h)) (refl, adds_free b))
