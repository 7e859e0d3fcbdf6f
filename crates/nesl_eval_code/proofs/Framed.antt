-- The names of a frame.
use Rattle.std.proofs.Common.{◌≡◌, ◌<◌, ◌+◌, ℕ, zero, suc, Bool, true, false, refl, sym, ◌∙◌, ap, subst, arith, ◌≤◌, List, [], ◌∷◌, ◌++◌, Option, Some, None, length, take, get_or, Vec, Global}
use Rattle.std.specs.Prelude.{if◌then◌else◌, slice_get, option_map}
use Rattle.std.specs.Map.{lookup}
use Rattle.std.specs.Ordering.{is_eq, nat_cmp}
use Rattle.std.specs.Cmp.Lexicographic.{slice_cmp}
use Rattle.std.specs.Str.{bytes_eq}
use Rattle.std.proofs.lemmas.List.{take_more, take_all, length-take-le}
use Rattle.nesl_syntax_tree.specs.declared.tree.Binding.{Binding}
use Rattle.nesl_syntax_tree.specs.Trees.{PatternTree}
use Rattle.nesl_syntax_tree.specs.Views.{pattern_tree, binders_in}
use Rattle.nesl_eval_code.specs.declared.code.Step.{Step}
use Rattle.nesl_eval_code.specs.declared.names.NamePlace.{NamePlace}
use Rattle.nesl_eval_meaning.specs.Names.{Name}
use Rattle.nesl_eval_code.specs.Means.{patterns, last_binding, or_later, binds, steps_to}
use Rattle.nesl_eval_code.specs.Noted.{noted_at}
use Rattle.nesl_eval_code.specs.Frame.{or_first, spot_in, FindsIn, AreNoted, patterns_before}

-- where no pattern has the name
pub spot_none : (x : Name) (ps : List PatternTree) → spot_in ps x ≡ None → last_binding x ps ≡ None
spot_none x [] e = refl
spot_none x (p ∷ ps) e = by (binds x p) (steps_to x p) (spot_in ps x) (spot_none x ps) e
  where
    by : (b : Bool) (s : List Step) (o : Option (ℕ × List Step)) → (o ≡ None → last_binding x ps ≡ None) → or_first b s o ≡ None →
        or_later b (last_binding x ps) ≡ None
    by b s (Some k) h f = absurd cc
    by true s None h f = absurd cc
    by false s None h f = ap (or_later false) (h refl)

-- where the last of the patterns that binds the name is
abbrev pub IsThere : Name → List PatternTree → ℕ → List Step → Type 0
IsThere x ps i s = (q : PatternTree) × (last_binding x ps ≡ Some i) × (slice_get ps i ≡ Some q) × (s ≡ steps_to x q)

abbrev index_of : Option (ℕ × List Step) → ℕ
index_of (Some e) = e.0
index_of None = 0

abbrev steps_of : Option (ℕ × List Step) → List Step
steps_of (Some e) = e.1
steps_of None = []

pub spot_some : (x : Name) (ps : List PatternTree) (i : ℕ) (s : List Step) → spot_in ps x ≡ Some (i, s) → IsThere x ps i s
spot_some x [] i s e = absurd cc
spot_some x (p ∷ ps) i s e = by (λ k t. spot_some x ps k t) (binds x p) refl (spot_in ps x) refl e
  where
    moved : (j : ℕ) (t : List Step) → ◌≡◌ {A = Option (ℕ × List Step)} (Some (j, t)) (Some (i, s)) → IsThere x (p ∷ ps) j t → IsThere x (p ∷ ps) i s
    moved j t h w =
        let u : j ≡ i = ap index_of h in
        let v : t ≡ s = ap steps_of h in
        subst (λ (n : ℕ). IsThere x (p ∷ ps) n s) u (w.0, w.1, w.2, sym v ∙ w.3)

    by : ((k : ℕ) (t : List Step) → spot_in ps x ≡ Some (k, t) → IsThere x ps k t) → (b : Bool) → binds x p ≡ b → (o : Option (ℕ × List Step)) → spot_in ps x ≡ o →
        or_first b (steps_to x p) o ≡ Some (i, s) → IsThere x (p ∷ ps) i s
    by ih b f (Some k) g h =
        let w = ih k.0 k.1 g in
        let last : or_later (binds x p) (last_binding x ps) ≡ Some (suc k.0) = ap (or_later (binds x p)) w.1 in
        let there : IsThere x (p ∷ ps) (suc k.0) k.1 = (w.0, last, w.2, w.3) in
        moved (suc k.0) k.1 h there
    by ih true f None g h =
        let last : or_later (binds x p) (last_binding x ps) ≡ Some 0 = ap (or_later (binds x p)) (spot_none x ps g) ∙ ap (λ c. or_later c None) f in
        let there : IsThere x (p ∷ ps) 0 (steps_to x p) = (p, last, refl, refl) in
        moved 0 (steps_to x p) h there
    by ih false f None g h = absurd cc

-- where the name is found one by one
pub spot_of_none : (x : Name) (ps : List PatternTree) → last_binding x ps ≡ None → spot_in ps x ≡ None
spot_of_none x [] e = refl
spot_of_none x (p ∷ ps) e = by (binds x p) (last_binding x ps) (spot_of_none x ps) e
  where
    by : (b : Bool) (o : Option ℕ) → (o ≡ None → spot_in ps x ≡ None) → or_later b o ≡ None → or_first b (steps_to x p) (spot_in ps x) ≡ None
    by b (Some k) h f = absurd cc
    by true None h f = absurd cc
    by false None h f = ap (or_first false (steps_to x p)) (h refl)

pub spot_of_last : (x : Name) (ps : List PatternTree) (i : ℕ) (q : PatternTree) → last_binding x ps ≡ Some i → slice_get ps i ≡ Some q →
    spot_in ps x ≡ Some (i, steps_to x q)
spot_of_last x [] i q e f = absurd cc
spot_of_last x (p ∷ ps) i q e f = by (λ k. spot_of_last x ps k q) (binds x p) refl (last_binding x ps) refl i e f
  where
    by : ((k : ℕ) → last_binding x ps ≡ Some k → slice_get ps k ≡ Some q → spot_in ps x ≡ Some (k, steps_to x q)) →
        (b : Bool) → binds x p ≡ b → (o : Option ℕ) → last_binding x ps ≡ o → (j : ℕ) → or_later b o ≡ Some j → slice_get (p ∷ ps) j ≡ Some q →
        or_first (binds x p) (steps_to x p) (spot_in ps x) ≡ Some (j, steps_to x q)
    by ih b g (Some k) h zero u v = absurd cc
    by ih b g (Some k) h (suc j) u v =
        let m : k ≡ j = cc in
        ap (or_first (binds x p) (steps_to x p)) (ih j (h ∙ ap Some m) v)
    by ih true g None h zero u v =
        let same : p ≡ q = cc in
        ap (or_first (binds x p) (steps_to x p)) (spot_of_none x ps h) ∙ ap (λ c. or_first c (steps_to x p) None) g ∙ ap (λ y. Some (0, steps_to x y)) same
    by ih true g None h (suc j) u v = absurd cc
    by ih false g None h j u v = absurd cc

-- one binding more
abbrev pub chosen : Bool → ℕ → List Step → Option (ℕ × List Step) → Option (ℕ × List Step)
chosen b i s o = if b then Some (i, s) else o

first_more : (b c : Bool) (s t : List Step) (o : Option (ℕ × List Step)) (n : ℕ) → or_first b s (chosen c n t o) ≡ chosen c (suc n) t (or_first b s o)
first_more b true s t o n = refl
first_more b false s t o n = refl

spot_more : (x : Name) (bs : List Binding) (b : Binding) →
    spot_in (patterns (binders_in (bs ++ b ∷ []))) x
    ≡ chosen (binds x (pattern_tree b.pattern)) (length bs) (steps_to x (pattern_tree b.pattern)) (spot_in (patterns (binders_in bs)) x)
spot_more x [] b = by (binds x (pattern_tree b.pattern)) (steps_to x (pattern_tree b.pattern))
  where
    by : (c : Bool) (s : List Step) → or_first c s None ≡ chosen c 0 s None
    by true s = refl
    by false s = refl
spot_more x (a ∷ bs) b =
    ap (or_first (binds x (pattern_tree a.pattern)) (steps_to x (pattern_tree a.pattern))) (spot_more x bs b)
    ∙ first_more (binds x (pattern_tree a.pattern)) (binds x (pattern_tree b.pattern)) (steps_to x (pattern_tree a.pattern)) (steps_to x (pattern_tree b.pattern)) (spot_in (patterns (binders_in bs)) x) (length bs)

pub spot_next : (x : Name) (bs : List Binding) (i : ℕ) (b : Binding) → i < length bs → b ≡ get_or bs i b →
    spot_in (patterns_before bs (i + 1)) x
    ≡ chosen (binds x (pattern_tree b.pattern)) i (steps_to x (pattern_tree b.pattern)) (spot_in (patterns_before bs i) x)
spot_next x bs i b l e =
    ap (λ y. spot_in (patterns (binders_in y)) x) (take_more bs i b l ∙ ap (λ y. take i bs ++ y ∷ []) (sym e))
    ∙ spot_more x (take i bs) b
    ∙ ap (λ k. chosen (binds x (pattern_tree b.pattern)) k (steps_to x (pattern_tree b.pattern)) (spot_in (patterns_before bs i) x)) (length-take-le i bs (omega arith))

-- the names of one pattern more are noted
pub noted_next : (bs : List Binding) (i : ℕ) (b : Binding) (old new : List (Vec ℕ Global × NamePlace)) → i < length bs → b ≡ get_or bs i b →
    AreNoted (patterns_before bs i) old →
    ((x : Name) → noted_at new x ≡ chosen (binds x (pattern_tree b.pattern)) i (steps_to x (pattern_tree b.pattern)) (noted_at old x)) →
    AreNoted (patterns_before bs (i + 1)) new
noted_next bs i b old new l e h n x =
    n x ∙ ap (chosen (binds x (pattern_tree b.pattern)) i (steps_to x (pattern_tree b.pattern))) (h x) ∙ sym (spot_next x bs i b l e)

pub noted_only : (p : PatternTree) (new : List (Vec ℕ Global × NamePlace)) →
    ((x : Name) → noted_at new x ≡ chosen (binds x p) 0 (steps_to x p) (noted_at [] x)) → AreNoted (p ∷ []) new
noted_only p new n x = n x ∙ by (binds x p) (steps_to x p)
  where
    by : (c : Bool) (s : List Step) → chosen c 0 s None ≡ or_first c s None
    by true s = refl
    by false s = refl

-- the last binding that binds a name
later_more : (b c : Bool) (o : Option ℕ) (n : ℕ) → or_later b (if c then Some n else o) ≡ (if c then Some (suc n) else or_later b o)
later_more b true o n = refl
later_more b false o n = refl

last_more : (x : Name) (bs : List Binding) (b : Binding) →
    last_binding x (patterns (binders_in (bs ++ b ∷ [])))
    ≡ (if binds x (pattern_tree b.pattern) then Some (length bs) else last_binding x (patterns (binders_in bs)))
last_more x [] b = by (binds x (pattern_tree b.pattern))
  where
    by : (c : Bool) → or_later c None ≡ (if c then Some 0 else None)
    by true = refl
    by false = refl
last_more x (a ∷ bs) b =
    ap (or_later (binds x (pattern_tree a.pattern))) (last_more x bs b)
    ∙ later_more (binds x (pattern_tree a.pattern)) (binds x (pattern_tree b.pattern)) (last_binding x (patterns (binders_in bs))) (length bs)

pub last_step : (x : Name) (bs : List Binding) (i : ℕ) (b : Binding) → i < length bs → b ≡ get_or bs i b →
    last_binding x (patterns (binders_in (take (i + 1) bs)))
    ≡ (if binds x (pattern_tree b.pattern) then Some (length (take i bs)) else last_binding x (patterns (binders_in (take i bs))))
last_step x bs i b l e =
    ap (λ y. last_binding x (patterns (binders_in y))) (take_more bs i b l ∙ ap (λ y. take i bs ++ y ∷ []) (sym e))
    ∙ last_more x (take i bs) b

pub last_here : (x : Name) (bs : List Binding) (i : ℕ) (b : Binding) (q : Bool) → i < length bs → b ≡ get_or bs i b →
    q ≡ binds x (pattern_tree b.pattern) → q ≡ true → Some i ≡ last_binding x (patterns (binders_in (take (i + 1) bs)))
last_here x bs i b q l e f h =
    let k : length (take i bs) ≡ i = length-take-le i bs (omega arith) in
    sym (last_step x bs i b l e
    ∙ ap (λ c. if c then Some (length (take i bs)) else last_binding x (patterns (binders_in (take i bs)))) (sym f ∙ h) ∙ ap Some k)

pub last_before : (x : Name) (bs : List Binding) (i : ℕ) (b : Binding) (q : Bool) (o : Option ℕ) → i < length bs → b ≡ get_or bs i b →
    q ≡ binds x (pattern_tree b.pattern) → q ≡ false → o ≡ last_binding x (patterns (binders_in (take i bs))) →
    o ≡ last_binding x (patterns (binders_in (take (i + 1) bs)))
last_before x bs i b q o l e f h k =
    k ∙ sym (last_step x bs i b l e
    ∙ ap (λ c. if c then Some (length (take i bs)) else last_binding x (patterns (binders_in (take i bs)))) (sym f ∙ h))

pub last_all : (x : Name) (bs : List Binding) (i : ℕ) (o : Option ℕ) → length bs ≤ i →
    o ≡ last_binding x (patterns (binders_in (take i bs))) → o ≡ last_binding x (patterns (binders_in bs))
last_all x bs i o l h = h ∙ ap (λ y. last_binding x (patterns (binders_in y))) (take_all i bs l)

-- the pattern at a place
pub pattern_at : (bs : List Binding) (i : ℕ) (b : Binding) → i < length bs → b ≡ get_or bs i b →
    slice_get (patterns (binders_in bs)) i ≡ Some (pattern_tree b.pattern)
pattern_at [] i b l e = absurd (omega arith)
pattern_at (a ∷ bs) zero b l e = ap (λ y. Some (pattern_tree y.pattern)) (sym e)
pattern_at (a ∷ bs) (suc i) b l e = pattern_at bs i b (omega arith) e

-- found one by one
pub found_last : (x : Name) (bs : List Binding) (i : ℕ) (b : Binding) (n : NamePlace) → i < length bs → b ≡ get_or bs i b →
    Some i ≡ last_binding x (patterns (binders_in bs)) → n.index ≡ i → n.steps.items ≡ steps_to x (pattern_tree b.pattern) →
    FindsIn (patterns (binders_in bs)) x (Some n)
found_last x bs i b n l e f k t =
    ap (λ j. Some (j, n.steps.items)) k ∙ ap (λ y. Some (i, y)) t ∙ sym (spot_of_last x (patterns (binders_in bs)) i (pattern_tree b.pattern) (sym f) (pattern_at bs i b l e))

pub found_nowhere : (x : Name) (bs : List Binding) → None ≡ last_binding x (patterns (binders_in bs)) → FindsIn (patterns (binders_in bs)) x None
found_nowhere x bs f = sym (spot_of_none x (patterns (binders_in bs)) (sym f))

-- all of some bindings
pub noted_all : (bs : List Binding) (i : ℕ) (es : List (Vec ℕ Global × NamePlace)) → length bs ≤ i → AreNoted (patterns_before bs i) es → AreNoted (patterns (binders_in bs)) es
noted_all bs i es l h x = h x ∙ ap (λ y. spot_in (patterns (binders_in y)) x) (take_all i bs l)

-- the patterns of a frame of which `n` bindings are seen
pub before_is : (fs bs : List Binding) (n i : ℕ) → fs ≡ bs → n ≡ i → patterns_before fs n ≡ patterns_before bs i
before_is fs bs n i e f = ap (λ (y : List Binding). patterns_before y n) e ∙ ap (λ (k : ℕ). patterns_before bs k) f

pub all_seen : (fs bs : List Binding) (n : ℕ) → fs ≡ bs → n ≡ length bs → patterns_before fs n ≡ patterns (binders_in bs)
all_seen fs bs n e f = before_is fs bs n n e refl ∙ ap (λ (y : List Binding). patterns (binders_in y)) (take_all n bs (omega (arith, f)))
