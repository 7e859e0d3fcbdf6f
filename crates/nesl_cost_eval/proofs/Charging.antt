-- What nodes do at once, as runs.
use Rattle.std.proofs.Common.{◌≡◌, ℕ, zero, suc, ◌+◌, ◌-◌, ◌<◌, ◌⊎◌, inl, inr, refl, sym, ◌∙◌, ap, subst, arith, List, [], ◌∷◌, ◌++◌, append_assoc, append-nil, Option, Some, None, Bool, Result, Ok, Err, Bor, Global}
use Rattle.std.specs.Prelude.{unwrap_or}
use Rattle.nesl_lex.specs.declared.token.Span.{Span}
use Rattle.nesl_values.specs.Tree.{size}
use Rattle.nesl_values.specs.Parts.{as_bool}
use Rattle.std.specs.Prelude.{MatchResult, cond}
use Rattle.nesl_eval_nodes.specs.Sides.{IsKeptPlace, IsOne}
use Rattle.nesl_eval_meaning.specs.Outcome.{body_value, place_if_true}
use Rattle.nesl_values.specs.declared.value.Value as code
use Rattle.nesl_scalars.specs.declared.trap.Trap.{Trap}
use Rattle.nesl_scalars.specs.declared.trap.Trap.TheVariants.{Deep}
use Rattle.nesl_syntax_tree.specs.Trees.{Tree, span_of}
use Rattle.nesl_eval_meaning.specs.Names.{Name, Value, Scope, Environment}
use Rattle.nesl_eval_meaning.specs.Out as out
use Rattle.nesl_eval_meaning.specs.Out.{Out}
use Rattle.nesl_eval_nodes.specs.declared.meter.Meter.{Meter}
use Rattle.nesl_eval_nodes.specs.declared.meter.Stop.{Stop}
use Rattle.nesl_eval_nodes.specs.declared.meter.Stop.TheVariants as stops
use Rattle.nesl_eval_nodes.specs.Meets.{Meets, Is}
use Rattle.nesl_cost_meaning.specs.Cost.{Cost, entered, spent, work_in, Place}
use Rattle.nesl_cost_meaning.specs.Cost as cost
use Rattle.nesl_cost_meaning.specs.Traced.{Traced, value, fault, stuck, given, charged, in_line, in_body, at_call, node_of, traced}
use Rattle.nesl_cost_rows.specs.Written.{Note, besides, called, returned, turned, written}
use Rattle.nesl_cost_rows.specs.Written as notes
use Rattle.nesl_cost_eval.specs.declared.unfinished.Source.{Source}
use Rattle.nesl_cost_eval.specs.declared.unfinished.Unfinished.{Unfinished}
use Rattle.nesl_cost_eval.specs.declared.unfinished.Unfinished.TheVariants.{Fault, Over, Memory, Stuck}
use Rattle.nesl_cost_eval.specs.Writes.{Book, Adds, Notes, Lacks, Writes, lifted, place_of, calling, returning, noted, closings, closed}
use Rattle.nesl_cost_eval.proofs.Running.{IsOf, adds_free, costing, lacking}

pub work_spent : (s : Span) (w d : ℕ) → work_in (spent s w d) ≡ w
work_spent s zero zero = refl
work_spent s zero (suc d) = refl
work_spent s (suc w) d = refl

same_spent : (s : Span) {w v d e : ℕ} → w ≡ v → d ≡ e → spent s w d ≡ spent s v e
same_spent s {w} {v} {d} {e} p q = ap (λ x. spent s x d) p ∙ ap (spent s v) q

nothing_spent : (s : Span) (w d : ℕ) (a : Book) → w ≡ 0 → d ≡ 0 → Adds a a (spent s w d)
nothing_spent s w d a p q = subst (λ (c : Cost). Adds a a c) (sym (same_spent s p q)) (adds_free a)

abbrev only : ℕ → Meter
only w = record { fuel = w; depth = 0 }

in_place : {s t : Span} → s ≡ t → place_of (record { home = None; span = s }) ≡ in_line t
in_place e = ap in_line e

-- what costs nothing
pub at_once : {R X : Type 0} (T : R → X → Type 0) (s : Span) (a : Book) (r : Result R Stop) (o : Out X) → ((m : Meter) → Meets T m r m o) →
    Writes T a (lifted r) a (charged s o)
at_once T s a r out.stuck h = tt
at_once T s a (Ok v) (out.value x w d) h = let k = h (only w) in (k.0, nothing_spent s w d a (omega (arith, k.1)) (omega (arith, k.2)))
at_once T s a (Ok v) (out.fault t i w) h = absurd (h (only w))
at_once T s a (Err (stops.Fault u j)) (out.value x w d) h = absurd (h (only w))
at_once T s a (Err (stops.Fault u j)) (out.fault t i w) h =
    let k = h (only w) in (k.0, k.1, in_place k.1, nothing_spent s w 0 a (omega (arith, k.2)) refl)
at_once T s a (Err stops.Over) (out.value x w d) h = absurd (omega (arith, h (only w)))
at_once T s a (Err stops.Over) (out.fault t i w) h = absurd (omega (arith, h (only w)))
at_once T s a (Err stops.Memory) (out.value x w d) h = tt
at_once T s a (Err stops.Memory) (out.fault t i w) h = tt
at_once T s a (Err stops.Stuck) (out.value x w d) h = absurd (h (only w))
at_once T s a (Err stops.Stuck) (out.fault t i w) h = absurd (h (only w))

pub given_charged : {X Y : Type 0} (s : Span) (o : Option X) (k : X → Out Y) → given o (λ x. charged s (k x)) ≡ charged s (out.given o k)
given_charged s (Some x) k = refl
given_charged s None k = refl

abbrev pub since : List Note → Meter → Book
since ns m = record { notes = ns; fuel = m.fuel }

adds_settled : (s : Span) (m n : Meter) (ns : List Note) (b : Book) (w d e : ℕ) → m.fuel ≡ n.fuel + w → d ≡ e →
    b.notes ≡ ns ++ written (spent s (m.fuel - n.fuel) e) → b.fuel ≡ n.fuel → Adds (since ns m) b (spent s w d)
adds_settled s m n ns b w d e f g h k =
    let same : m.fuel - n.fuel ≡ w = omega (arith, f) in
    (h ∙ ap (λ (c : Cost). ns ++ written c) (same_spent s same (sym g)), omega (arith, f, k, work_spent s w d))

-- what a meter lost and gained at a node is charged there
pub settled : {A : Type 0} (s : Span) (m n : Meter) (v : code.Value A) (o : Out Value) (ns : List Note) (b : Book) → Meets Is m (Ok v) n o →
    b.notes ≡ ns ++ written (spent s (m.fuel - n.fuel) (n.depth - m.depth)) → b.fuel ≡ n.fuel → Writes Is (since ns m) (Ok v) b (charged s o)
settled s m n v out.stuck ns b h e f = tt
settled s m n v (out.value x w d) ns b h e f =
    let deep : d ≡ n.depth - m.depth = omega (arith, h.2) in (h.0, adds_settled s m n ns b w d (n.depth - m.depth) h.1 deep e f)
settled s m n v (out.fault t i w) ns b h e f = absurd h

over_settled : (s : Span) (m : Meter) (w d : ℕ) → m.fuel < w → m.fuel < work_in (spent s w d)
over_settled s m w d h = omega (arith, h, work_spent s w d)

pub settled_stop : (s : Span) (m n : Meter) (k : Stop) (o : Out Value) (ns : List Note) (b : Book) → Meets (IsOf Global) m (Err k) n o →
    b.notes ≡ ns ++ written (spent s (m.fuel - n.fuel) 0) → b.fuel ≡ n.fuel → Writes (IsOf Global) (since ns m) (lifted (Err k)) b (charged s o)
settled_stop s m n k out.stuck ns b h e f = tt
settled_stop s m n (stops.Fault u j) (out.value x w d) ns b h e f = absurd h
settled_stop s m n (stops.Fault u j) (out.fault t i w) ns b h e f = (h.0, h.1, in_place h.1, adds_settled s m n ns b w 0 0 h.2 refl e f)
settled_stop s m n stops.Over (out.value x w d) ns b h e f = over_settled s m w d h
settled_stop s m n stops.Over (out.fault t i w) ns b h e f = over_settled s m w 0 h
settled_stop s m n stops.Memory (out.value x w d) ns b h e f = tt
settled_stop s m n stops.Memory (out.fault t i w) ns b h e f = tt
settled_stop s m n stops.Stuck (out.value x w d) ns b h e f = absurd h
settled_stop s m n stops.Stuck (out.fault t i w) ns b h e f = absurd h

pub settled_ok : {A : Type 0} (s : Span) (m n : Meter) (r : Result (code.Value A) Stop) (v : code.Value A) (o : Out Value) (a b : Book) (w d : ℕ) →
    r ≡ Ok v → w ≡ m.fuel - n.fuel → d ≡ n.depth - m.depth → a.fuel ≡ n.fuel → Notes a b (spent s w d) → Meets Is m r n o →
    Writes Is (since a.notes m) (Ok v) b (charged s o)
settled_ok {A} s m n r v o a b w d q p g e k h =
    settled s m n v o a.notes b (subst (λ (x : Result (code.Value A) Stop). Meets Is m x n o) q h)
    (k.0 ∙ ap (λ (c : Cost). a.notes ++ written c) (same_spent s p g)) (k.1 ∙ e)

pub settled_err : (s : Span) (m n : Meter) (r : Result (code.Value Global) Stop) (x : Stop) (o : Out Value) (a b : Book) (w : ℕ) →
    r ≡ Err x → w ≡ m.fuel - n.fuel → a.fuel ≡ n.fuel → Notes a b (spent s w 0) → Meets Is m r n o →
    Writes (IsOf Global) (since a.notes m) (lifted (Err x)) b (charged s o)
settled_err s m n r x o a b w q p e k h =
    settled_stop s m n x o a.notes b (subst (λ (y : Result (code.Value Global) Stop). Meets Is m y n o) q h)
    (k.0 ∙ ap (λ (y : ℕ). a.notes ++ written (spent s y 0)) p) (k.1 ∙ e)

-- nothing was spent, or it is noted
pub noted_nothing : (s : Span) (w d : ℕ) (ns : List Note) → w ≡ 0 → d ≡ 0 → ns ≡ ns ++ written (spent s w d)
noted_nothing s w d ns p q = sym (append-nil ns) ∙ ap (λ (c : Cost). ns ++ written c) (sym (same_spent s p q))

pub noted_spent : (s : Span) (w d : ℕ) → (w ≡ 0 → d ≡ 0 → ⊥) → spent s w d ≡ cost.besides s w d
noted_spent s zero zero h = absurd (h refl refl)
noted_spent s zero (suc d) h = refl
noted_spent s (suc w) d h = refl

pub spent_noted : (r : Result (Unit {0}) Unfinished) (s : Span) (w d : ℕ) (a b : Book) → (w ≡ 0 → d ≡ 0 → ⊥) → MatchResult r (λ _. b ≡ noted (besides s w d) a) (λ e. e ≡ Memory) →
    MatchResult r (λ _. Notes a b (spent s w d)) (λ e. e ≡ Memory)
spent_noted (Ok u) s w d a b n h =
    (ap (λ (x : Book). x.notes) h ∙ ap (λ (c : Cost). a.notes ++ written c) (sym (noted_spent s w d n)), ap (λ (x : Book). x.fuel) h)
spent_noted (Err e) s w d a b n h = h

-- what was taken off before is noted
pub entered_adds : (r : Result (Unit {0}) Unfinished) (s : Span) (a m b : Book) → m.notes ≡ a.notes → a.fuel ≡ m.fuel + 1 → MatchResult r (λ _. b ≡ noted (notes.entered s) m) (λ e. e ≡ Memory) →
    MatchResult r (λ _. Adds a b (entered s)) (λ e. Lacks a 1 e)
entered_adds (Ok u) s a m b p q h =
    let same : b.fuel ≡ m.fuel = ap (λ (x : Book). x.fuel) h in
    (ap (λ (x : Book). x.notes) h ∙ ap (λ (l : List Note). l ++ notes.entered s ∷ []) p, omega (arith, q, same))
entered_adds (Err e) s a m b p q h = inl h

pub spent_adds : (r : Result (Unit {0}) Unfinished) (s : Span) (w : ℕ) (a m b : Book) → m.notes ≡ a.notes → a.fuel ≡ m.fuel + w → MatchResult r (λ _. Notes m b (spent s w 0)) (λ e. e ≡ Memory) →
    MatchResult r (λ _. Adds a b (spent s w 0)) (λ e. Lacks a w e)
spent_adds (Ok u) s w a m b p q h =
    (h.0 ∙ ap (λ (l : List Note). l ++ written (spent s w 0)) p, omega (arith, q, h.1, work_spent s w 0))
spent_adds (Err e) s w a m b p q h = inl h

adds_called : (x : Name) (s : Span) (a b : Book) (c : Cost) → Adds (calling x s a) b c → Adds a (returning b) (cost.called x s c)
adds_called x s a b c h = (
  ap (λ (l : List Note). l ++ returned ∷ []) (h.0 ∙ append_assoc a.notes (called x s ∷ []) (written c))
      ∙ append_assoc a.notes (called x s ∷ written c) (returned ∷ []),
  h.1,
)

-- where a fault in a body is, in that body or in one that it called
pub in_function : (o : Option (Bor (List ℕ))) (x r : Bor (List ℕ)) (s : Span) → r ≡ unwrap_or o x →
    place_of (record { home = Some r; span = s }) ≡ in_body x.now (place_of (record { home = o; span = s }))
in_function o x r s e =
    let F : Bor (List ℕ) → Place = λ y. place_of (record { home = Some y; span = s }) in
    ap F e ∙ by o
  where
    by : (o : Option (Bor (List ℕ))) → place_of (record { home = Some (unwrap_or o x); span = s }) ≡ in_body x.now (place_of (record { home = o; span = s }))
    by (Some y) = refl
    by None = refl

-- what a body evaluated to, at its call
pub called_ok : {A : Type 0} (x : Name) (s : Span) (v : code.Value A) (a b : Book) (o : Traced Value) → Writes Is (calling x s a) (Ok v) b o →
    Writes Is a (Ok v) (returning b) (at_call x s o)
called_ok x s v a b stuck h = tt
called_ok x s v a b (value y c) h = (h.0, adds_called x s a b c h.1)
called_ok x s v a b (fault t i p c) h = absurd h

pub called_fault : (x : Name) (s i : Span) (u : Trap) (q r : Source) (a b : Book) (o : Traced Value) → place_of r ≡ in_body x (place_of q) →
    Writes (IsOf Global) (calling x s a) (Err (Fault u i q)) b o → Writes (IsOf Global) a (Err (Fault u s r)) (returning b) (at_call x s o)
called_fault x s i u q r a b stuck e h = tt
called_fault x s i u q r a b (value y c) e h = absurd h
called_fault x s i u q r a b (fault t j p c) e h = (h.0, refl, e ∙ ap (in_body x) h.2, adds_called x s a b c h.3)

pub called_other : (x : Name) (s : Span) (k : Unfinished) (a b : Book) (o : Traced Value) → (k ≡ Over) ⊎ ((k ≡ Memory) ⊎ (k ≡ Stuck)) →
    Writes (IsOf Global) (calling x s a) (Err k) b o → Writes (IsOf Global) a (Err k) (returning b) (at_call x s o)
called_other x s k a b stuck e h = tt
called_other x s (Fault u i q) a b (value y c) e h = absurd h
called_other x s Over a b (value y c) e h = h
called_other x s Memory a b (value y c) e h = tt
called_other x s Stuck a b (value y c) e h = absurd h
called_other x s (Fault u i q) a b (fault t j p c) (inl e) h = absurd (case e)
  where
    case : Fault u i q ≡ Over → ⊥
    case g = cc
called_other x s (Fault u i q) a b (fault t j p c) (inr (inl e)) h = absurd (case e)
  where
    case : Fault u i q ≡ Memory → ⊥
    case g = cc
called_other x s (Fault u i q) a b (fault t j p c) (inr (inr e)) h = absurd (case e)
  where
    case : Fault u i q ≡ Stuck → ⊥
    case g = cc
called_other x s Over a b (fault t j p c) e h = h
called_other x s Memory a b (fault t j p c) e h = tt
called_other x s Stuck a b (fault t j p c) e h = absurd h

-- no level is left
pub deep_stop : (n : ℕ) (env : Environment) (sc : Scope) (e : Tree) (s : Span) (a : Book) → n ≡ 0 → s ≡ span_of e →
    Writes (IsOf Global) a (Err (Fault Deep s (record { home = None; span = s }))) a (traced n env sc e)
unfolding traced
deep_stop zero env sc e s a z h = (refl, h, in_place h, adds_free a)
deep_stop (suc n) env sc e s a z h = absurd (omega (arith, z))

-- a node is entered, with its parts a level below
pub entering : {A : Type 0} (n : ℕ) (env : Environment) (sc : Scope) (e : Tree) (s : Span) (r : Result (code.Value A) Unfinished) (a b d : Book) →
    (n ≡ 0 → ⊥) → s ≡ span_of e → Adds a b (entered s) → Writes Is b r d (node_of (traced (n - 1) env) env sc e) → Writes Is a r d (traced n env sc e)
unfolding traced
entering zero env sc e s r a b d z h g j = absurd (z refl)
entering (suc n) env sc e s r a b d z h g j =
    let one : suc n - 1 ≡ n = omega arith in
    costing Is (entered (span_of e)) r a b d _ (subst (λ (x : Span). Adds a b (entered x)) h g)
    (subst (λ (m : ℕ). Writes Is b r d (node_of (traced m env) env sc e)) one j)

pub not_entered : (n : ℕ) (env : Environment) (sc : Scope) (e : Tree) (k : Unfinished) (a b : Book) → (n ≡ 0 → ⊥) → Lacks a 1 k →
    Writes (IsOf Global) a (Err k) b (traced n env sc e)
unfolding traced
not_entered zero env sc e k a b z h = absurd (z refl)
not_entered (suc n) env sc e k a b z h = lacking (IsOf Global) a b 1 (entered (span_of e)) k _ refl h

-- one turn more is closed
pub closed_more : (n : ℕ) (a : Book) → noted turned (closed n a) ≡ closed (n + 1) a
closed_more n a =
    let F : List Note → Book = λ l. record { notes = l; fuel = a.fuel } in
    ap F (append_assoc a.notes (closings n) (turned ∷ []) ∙ ap (λ (l : List Note). a.notes ++ l) (last n))
  where
    last : (k : ℕ) → closings k ++ turned ∷ [] ≡ closings (k + 1)
    last zero = refl
    last (suc k) =
        let one : suc (k + 1) ≡ suc k + 1 = omega arith in
        ap (λ (l : List Note). turned ∷ l) (last k) ∙ ap closings one

pub none_closed : (a : Book) → a ≡ closed 0 a
none_closed a = let F : List Note → Book = λ l. record { notes = l; fuel = a.fuel } in ap F (sym (append-nil a.notes))

-- the value of a body is alone in its list, where nothing shows the allocator
abbrev pub OneOf : (A : Type 0) → code.Value A → List Value → Type 0
OneOf A = IsOne

-- there is too little fuel for the nodes of a body's value
pub unpaid : (s : Span) (v : Value) (k : Unfinished) (a b : Book) → Lacks a (size v) k →
    Writes (OneOf Global) a (Err k) b (charged s (body_value v))
unpaid s v k a b (inl h) = rw h tt
unpaid s v k a b (inr h) = rw h.0 (omega (arith, h.1, work_spent s (size v) 0))

-- a filter's value at a place
pub kept_at : (s : Span) (i : ℕ) (r : Result Bool Unfinished) (v : Value) (a : Book) →
    MatchResult r (λ b. as_bool v ≡ Some b) (λ e. (e ≡ Stuck) × (as_bool v ≡ None)) → Writes (IsKeptPlace i) a r a (charged s (place_if_true i v))
kept_at s i (Ok b) v a h = subst (λ (o : Option Bool). Writes (IsKeptPlace i) a (Ok b) a (charged s (out.given o (λ c. out.value (cond c (i ∷ []) []) 0 0)))) (sym h) (refl, adds_free a)
kept_at s i (Err e) v a h = rw h.0 (subst (λ (o : Option Bool). Writes (IsKeptPlace i) a (Err Stuck) a (charged s (out.given o (λ c. out.value (cond c (i ∷ []) []) 0 0)))) (sym h.1) tt)
