-- Where the values of local names are.
use Rattle.std.proofs.Common.{◌≡◌, ℕ, zero, suc, refl, sym, ◌∙◌, ap, subst, List, [], ◌∷◌, Option, Some, None, Bool, true, false}
use Rattle.std.specs.Prelude.{slice_get, option_map, option_and_then, if◌then◌else◌, ◌||◌}
use Rattle.nesl_syntax_tree.specs.Trees.{PatternTree, pattern, name_pattern, pair_pattern, record_pattern}
use Rattle.nesl_values.specs.Parts.{as_pair, as_tagged}
use Rattle.nesl_eval_code.specs.declared.code.Step.{Step}
use Rattle.nesl_eval_code.specs.declared.code.Step.TheVariants.{Left, Right, Inside}
use Rattle.nesl_eval_meaning.specs.Names.{Name, Value, Locals, Scope, with_names, bound}
use Rattle.nesl_builtins.specs.Named.{look_up}
use Rattle.nesl_eval_code.specs.Frames.{followed, local_at, frame}
use Rattle.nesl_eval_code.specs.Means.{Layer, bindings, binders, bound_all, layered, binds, steps_to, last_binding, or_later, Spot, spot, patterns_of, IsSpotOf, IsNoLocal, IsElementSpot, with_element}

-- a pattern that doesn't bind the name leaves what the name means
or_none : (a b : Bool) → (a || b) ≡ false → (a ≡ false) × (b ≡ false)
or_none true b e = absurd cc
or_none false b e = (refl, e)

abbrev pub Leaves : Name → PatternTree → Type 0
Leaves x p = (v : Value) (ns ms : Locals) → binds x p ≡ false → bound p v ns ≡ Some ms → look_up ms x ≡ look_up ns x

pub unbound : (x : Name) (p : PatternTree) → Leaves x p
unbound x (pattern s (name_pattern y)) v ns ms f e =
    let q : ms ≡ (y, v) ∷ ns = cc in
    ap (λ l. look_up l x) q ∙ ap (λ b. if b then Some v else look_up ns x) f
unbound x (pattern s (record_pattern y p)) v ns ms f e = inside (unbound x p) (as_tagged v) e
  where
    inside : Leaves x p → (o : Option (ℕ × Value)) → option_and_then (λ b. bound p b.1 ns) o ≡ Some ms → look_up ms x ≡ look_up ns x
    inside ih None h = absurd cc
    inside ih (Some b) h = ih b.1 ns ms f h
unbound x (pattern s (pair_pattern p q)) v ns ms f e = parts (unbound x p) (unbound x q) (as_pair v) e
  where
    behind : Leaves x p → Leaves x q → (b : Value × Value) (o : Option Locals) → bound p b.0 ns ≡ o →
        option_and_then (bound q b.1) o ≡ Some ms → look_up ms x ≡ look_up ns x
    behind l r b None g h = absurd cc
    behind l r b (Some os) g h =
        r b.1 os ms (or_none (binds x q) (binds x p) f).0 h ∙ l b.0 ns os (or_none (binds x q) (binds x p) f).1 g

    parts : Leaves x p → Leaves x q → (o : Option (Value × Value)) →
        option_and_then (λ b. option_and_then (bound q b.1) (bound p b.0 ns)) o ≡ Some ms → look_up ms x ≡ look_up ns x
    parts l r None h = absurd cc
    parts l r (Some b) h = behind l r b (bound p b.0 ns) refl h

-- what a name means in a pattern's value
abbrev pub Leads : Name → List Step → Value → Locals → Type 0
Leads x steps v ms = (w : Value) × (followed steps v ≡ Some w) × (look_up ms x ≡ Some w)

abbrev pub There : Name → PatternTree → Type 0
There x p = (v : Value) (ns ms : Locals) → binds x p ≡ true → bound p v ns ≡ Some ms → Leads x (steps_to x p) v ms

pub bound_there : (x : Name) (p : PatternTree) → There x p
bound_there x (pattern s (name_pattern y)) v ns ms f e =
    let q : ms ≡ (y, v) ∷ ns = cc in
    (v, refl, ap (λ l. look_up l x) q ∙ ap (λ b. if b then Some v else look_up ns x) f)
bound_there x (pattern s (record_pattern y p)) v ns ms f e = inside (bound_there x p) (as_tagged v) refl e
  where
    inside : There x p → (o : Option (ℕ × Value)) → as_tagged v ≡ o → option_and_then (λ b. bound p b.1 ns) o ≡ Some ms →
        Leads x (Inside ∷ steps_to x p) v ms
    inside ih None g h = absurd cc
    inside ih (Some b) g h =
        let l = ih b.1 ns ms f h in
        (l.0, ap (option_and_then (λ b. followed (steps_to x p) b.1)) g ∙ l.1, l.2)
bound_there x (pattern s (pair_pattern p q)) v ns ms f e = parts (bound_there x p) (bound_there x q) (as_pair v) refl e
  where
    at_side : There x p → There x q → (b : Value × Value) (os : Locals) (side : Bool) → binds x q ≡ side → (side || binds x p) ≡ true →
        as_pair v ≡ Some b → bound p b.0 ns ≡ Some os → bound q b.1 os ≡ Some ms →
        Leads x (if side then Right ∷ steps_to x q else Left ∷ steps_to x p) v ms
    at_side tp tq b os true k f' g h i =
        let l = tq b.1 os ms k i in
        (l.0, ap (option_and_then (λ b. followed (steps_to x q) b.1)) g ∙ l.1, l.2)
    at_side tp tq b os false k f' g h i =
        let l = tp b.0 ns os f' h in
        (l.0, ap (option_and_then (λ b. followed (steps_to x p) b.0)) g ∙ l.1, unbound x q b.1 os ms k i ∙ l.2)

    behind : There x p → There x q → (b : Value × Value) (o : Option Locals) → bound p b.0 ns ≡ o → as_pair v ≡ Some b →
        option_and_then (bound q b.1) o ≡ Some ms → Leads x (if binds x q then Right ∷ steps_to x q else Left ∷ steps_to x p) v ms
    behind tp tq b None g a h = absurd cc
    behind tp tq b (Some os) g a h = at_side tp tq b os (binds x q) refl f a g h

    parts : There x p → There x q → (o : Option (Value × Value)) → as_pair v ≡ o →
        option_and_then (λ b. option_and_then (bound q b.1) (bound p b.0 ns)) o ≡ Some ms →
        Leads x (if binds x q then Right ∷ steps_to x q else Left ∷ steps_to x p) v ms
    parts tp tq None a h = absurd cc
    parts tp tq (Some b) a h = behind tp tq b (bound p b.0 ns) refl a h

-- the same of the patterns of a frame
no_later : (b : Bool) (o : Option ℕ) → or_later b o ≡ None → (b ≡ false) × (o ≡ None)
no_later b (Some i) e = absurd cc
no_later true None e = absurd cc
no_later false None e = (refl, refl)

pub all_unbound : (x : Name) (ps : List PatternTree) (vs : List Value) (ns ms : Locals) → last_binding x ps ≡ None →
    bound_all ps vs ns ≡ Some ms → look_up ms x ≡ look_up ns x
all_unbound x [] [] ns ms f e = let q : ms ≡ ns = cc in ap (λ l. look_up l x) q
all_unbound x [] (v ∷ vs) ns ms f e = absurd cc
all_unbound x (p ∷ ps) [] ns ms f e = absurd cc
all_unbound x (p ∷ ps) (v ∷ vs) ns ms f e = first (λ os h g. all_unbound x ps vs os ms h g) (bound p v ns) refl e
  where
    first : ((os : Locals) → last_binding x ps ≡ None → bound_all ps vs os ≡ Some ms → look_up ms x ≡ look_up os x) →
        (o : Option Locals) → bound p v ns ≡ o → option_and_then (bound_all ps vs) o ≡ Some ms → look_up ms x ≡ look_up ns x
    first ih None g h = absurd cc
    first ih (Some os) g h =
        ih os (no_later (binds x p) (last_binding x ps) f).1 h
        ∙ unbound x p v ns os (no_later (binds x p) (last_binding x ps) f).0 g

-- the pattern at an index leads there
abbrev pub LeadsAt : Name → PatternTree → ℕ → List Value → Locals → Type 0
LeadsAt x p i vs ms = (v : Value) × (slice_get vs i ≡ Some v) × Leads x (steps_to x p) v ms

module _ (x : Name) (q : PatternTree) (p : PatternTree) (ps : List PatternTree) (v : Value) (vs : List Value) (ns os ms : Locals)
    (g : bound p v ns ≡ Some os) (h : bound_all ps vs os ≡ Some ms)
    (ih : (j : ℕ) → last_binding x ps ≡ Some j → slice_get ps j ≡ Some q → LeadsAt x q j vs ms) where
  last_at : (b : Bool) (o : Option ℕ) → binds x p ≡ b → last_binding x ps ≡ o → (i : ℕ) → or_later b o ≡ Some i →
      slice_get (p ∷ ps) i ≡ Some q → LeadsAt x q i (v ∷ vs) ms
  last_at b (Some j) f k i e l =
      let n : suc j ≡ i = cc in
      let F : ℕ → Type 0 = λ m. slice_get (p ∷ ps) m ≡ Some q → LeadsAt x q m (v ∷ vs) ms in
      subst F n (λ r. ih j k r) l
  last_at true None f k i e l =
      let n : 0 ≡ i = cc in
      let F : ℕ → Type 0 = λ m. slice_get (p ∷ ps) m ≡ Some q → LeadsAt x q m (v ∷ vs) ms in
      subst F n (λ r. here r) l
    where
      here : Some p ≡ Some q → LeadsAt x q 0 (v ∷ vs) ms
      here r =
          let s : p ≡ q = cc in
          let G : PatternTree → Type 0 = λ y. LeadsAt x y 0 (v ∷ vs) ms in
          let w = bound_there x p v ns os f g in
          subst G s (v, refl, (w.0, w.1, all_unbound x ps vs os ms k h ∙ w.2))
  last_at false None f k i e l = absurd cc

pub all_bound_there : (x : Name) (q : PatternTree) (ps : List PatternTree) (vs : List Value) (ns ms : Locals) (i : ℕ) →
    last_binding x ps ≡ Some i → slice_get ps i ≡ Some q → bound_all ps vs ns ≡ Some ms → LeadsAt x q i vs ms
all_bound_there x q [] vs ns ms i f l e = absurd cc
all_bound_there x q (p ∷ ps) [] ns ms i f l e = absurd cc
all_bound_there x q (p ∷ ps) (v ∷ vs) ns ms i f l e =
    first (λ os j k r h. all_bound_there x q ps vs os ms j k r h) (bound p v ns) refl e
  where
    first : ((os : Locals) (j : ℕ) → last_binding x ps ≡ Some j → slice_get ps j ≡ Some q → bound_all ps vs os ≡ Some ms → LeadsAt x q j vs ms) →
        (o : Option Locals) → bound p v ns ≡ o → option_and_then (bound_all ps vs) o ≡ Some ms → LeadsAt x q i (v ∷ vs) ms
    first ih None g h = absurd cc
    first ih (Some os) g h =
        last_at x q p ps v vs ns os ms g h (λ j k r. ih os j k r h) (binds x p) (last_binding x ps) refl refl i f l

-- a frame of values
pub framed : (vs : List Value) (i : ℕ) → option_and_then (λ o. o) (slice_get (frame vs) i) ≡ slice_get vs i
framed [] i = refl
framed (v ∷ vs) zero = refl
framed (v ∷ vs) (suc i) = framed vs i

-- the names of an inner scope
pub layer_names : (l : Layer) (vs : List Value) (outer sc : Scope) → layered l vs outer ≡ Some sc →
    bound_all (patterns_of l) vs outer.names ≡ Some sc.names
layer_names (bindings ps) vs outer sc e = made (bound_all ps vs outer.names) e
  where
    made : (o : Option Locals) → option_map (with_names outer) o ≡ Some sc → o ≡ Some sc.names
    made None h = absurd cc
    made (Some ns) h = let q : with_names outer ns ≡ sc = cc in ap (λ s. Some s.names) q
layer_names (binders ps) vs outer sc e = made (bound_all ps vs outer.names) e
  where
    made : (o : Option Locals) → option_map (with_element (slice_get vs 0)) o ≡ Some sc → o ≡ Some sc.names
    made None h = absurd cc
    made (Some ns) h = let q : with_element (slice_get vs 0) ns ≡ sc = cc in ap (λ s. Some s.names) q

pub layer_element : (ps : List PatternTree) (vs : List Value) (outer sc : Scope) → layered (bindings ps) vs outer ≡ Some sc →
    outer.element ≡ sc.element
layer_element ps vs outer sc e = made (bound_all ps vs outer.names) e
  where
    made : (o : Option Locals) → option_map (with_names outer) o ≡ Some sc → outer.element ≡ sc.element
    made None h = absurd cc
    made (Some ns) h = let q : with_names outer ns ≡ sc = cc in ap (λ s. s.element) q

-- at top level no name is local
pub none_at_top : (x : Name) → IsNoLocal [] x
none_at_top x [] sc h = ap (λ s. look_up s.names x) h
none_at_top x (f ∷ fs) sc h = absurd h

-- a name that the newest frame's patterns bind
pub spot_here : (l : Layer) (ls : List Layer) (x : Name) (i : ℕ) (q : PatternTree) → last_binding x (patterns_of l) ≡ Some i →
    slice_get (patterns_of l) i ≡ Some q → IsSpotOf (l ∷ ls) x (spot 0 i (steps_to x q))
spot_here l ls x i q f g [] sc h = absurd h
spot_here l ls x i q f g (r ∷ fs) sc h =
    let vs = h.0 in
    let w = all_bound_there x q (patterns_of l) vs h.1.names sc.names i f g (layer_names l vs h.1 sc h.4) in (
      w.2.0,
      w.2.2,
      ap (λ y. local_at (y ∷ fs) 0 i (steps_to x q)) h.2
          ∙ ap (option_and_then (followed (steps_to x q))) (framed vs i ∙ w.1) ∙ w.2.1,
    )

-- else it is where the outer frames have it, one frame further up
pub spot_outside : (l : Layer) (ls : List Layer) (x : Name) (p : Spot) → last_binding x (patterns_of l) ≡ None →
    IsSpotOf ls x p → IsSpotOf (l ∷ ls) x (spot (suc p.up) p.index p.steps)
spot_outside l ls x p f k [] sc h = absurd h
spot_outside l ls x p f k (r ∷ fs) sc h =
    let w = k fs h.1 h.3 in
    (w.0, all_unbound x (patterns_of l) h.0 h.1.names sc.names f (layer_names l h.0 h.1 sc h.4) ∙ w.1, w.2)

pub none_here : (l : Layer) (ls : List Layer) (x : Name) → last_binding x (patterns_of l) ≡ None → IsNoLocal ls x →
    IsNoLocal (l ∷ ls) x
none_here l ls x f k [] sc h = absurd h
none_here l ls x f k (r ∷ fs) sc h =
    all_unbound x (patterns_of l) h.0 h.1.names sc.names f (layer_names l h.0 h.1 sc h.4) ∙ k fs h.1 h.3

-- where the element is
pub element_at_top : IsElementSpot [] (spot 0 0 [])
element_at_top [] sc h = ap (λ s. s.element) (sym h)
element_at_top (f ∷ fs) sc h = absurd h

pub element_here : (ps : List PatternTree) (ls : List Layer) → IsElementSpot (binders ps ∷ ls) (spot 0 0 [])
element_here ps ls [] sc h = absurd h
element_here ps ls (r ∷ fs) sc h =
    ap (λ y. local_at (y ∷ fs) 0 0 []) h.2 ∙ some (option_and_then (λ o. o) (slice_get (frame h.0) 0)) ∙ framed h.0 0
    ∙ made (bound_all ps h.0 h.1.names) h.4
  where
    some : (o : Option Value) → option_and_then (followed []) o ≡ o
    some None = refl
    some (Some v) = refl

    made : (o : Option Locals) → option_map (with_element (slice_get h.0 0)) o ≡ Some sc → slice_get h.0 0 ≡ sc.element
    made None e = absurd cc
    made (Some ns) e = let q : with_element (slice_get h.0 0) ns ≡ sc = cc in ap (λ s. s.element) q

pub element_outside : (ps : List PatternTree) (ls : List Layer) (p : Spot) → IsElementSpot ls p →
    IsElementSpot (bindings ps ∷ ls) (spot (suc p.up) p.index p.steps)
element_outside ps ls p k [] sc h = absurd h
element_outside ps ls p k (r ∷ fs) sc h = k fs h.1 h.3 ∙ layer_element ps h.0 h.1 sc h.4
