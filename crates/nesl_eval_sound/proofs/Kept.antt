-- Bindings stay well typed.
use Rattle.std.proofs.Common.{◌≡◌, ◌⊎◌, inl, inr, ℕ, Bool, true, false, cond, List, [], Option, Some, None, refl, ap, subst, sym, ◌∙◌}
use Rattle.std.specs.Prelude.{◌||◌, codes}
use Rattle.std.specs.Str.{bytes_eq}
use Rattle.std.proofs.lemmas.List.{append-nil}
use Rattle.std.proofs.lemmas.Slice.Eq.{bytes_eq-Decides}
use Rattle.nesl_values.specs.Tree as value
use Rattle.nesl_types.specs.declared.bindings.Top.{Top}
use Rattle.nesl_types.specs.declared.bindings.Top.TheVariants as top
use Rattle.nesl_types.specs.declared.classes.Class.{Class}
use Rattle.nesl_types.specs.declared.schemes.Scheme.{Scheme}
use Rattle.nesl_types.specs.Class.{IsIn, class_at}
use Rattle.nesl_types.specs.Scheme.{IsSameScheme}
use Rattle.nesl_types_shared.specs.Substitution.{substitute}
use Rattle.nesl_types_shared.specs.Term.{Term, int, bool, char, variable, seq_of, pair_of}
use Rattle.nesl_types_shared.specs.Term as type
use Rattle.nesl_syntax_tree.specs.Trees.{PatternTree, Tree}
use Rattle.nesl_builtins.specs.declared.builtin.Builtin.{Builtin}
use Rattle.nesl_builtins.specs.Named.{builtin_named, look_up}
use Rattle.nesl_builtins.specs.FunctionTypes.{builtin_type, function_type}
use Rattle.nesl_infer_names.specs.Names.{top_in, as_variable, as_datatype, as_function, built_in_or, itself}
use Rattle.nesl_infer_rules.specs.World.{Assumptions, Callable, general, single, callable_of}
use Rattle.nesl_infer_rules.specs.Typing.{CallableTakes}
use Rattle.nesl_infer.specs.Laws.{scope_with}
use Rattle.nesl_eval_meaning.specs.Names.{Name, Value, Environment, variable_of, function_of, datatype_of, nothing}
use Rattle.nesl_eval_meaning.specs.Names as evaluated
use Rattle.nesl_eval_sound.specs.HasType as values
use Rattle.nesl_eval_sound.specs.Refers.{binds, body_refers}
use Rattle.nesl_eval_sound.specs.Sound.{HasBodyType, AreWellTyped, IsWellTyped, IsGround, IsValue, IsBody, world}
use Rattle.nesl_eval_sound.specs.Lines.{IsUnchanged}
use Rattle.nesl_eval_sound.proofs.Ground.{substitute-ground}
use Rattle.nesl_eval_sound.proofs.Instances.{MapsAt, Maps, Hides, hides_parts, parts_map, typed_map, instance_maps}
use Rattle.nesl_eval_sound.proofs.Meanings.{top_meaning, known_or, meaning_is}

module _ {P : Type 0} (old new : List (List ℕ × Top × P)) where
  -- only the name x changes, which was no datatype; where another function's body refers to it, it means what it meant
  pub record Redefines (x : Name) (env env' : Environment) : Type 0 where
    pub tops : (y : Name) → bytes_eq y x ≡ false → top_in new y ≡ top_in old y
    pub values : (y : Name) → bytes_eq y x ≡ false → look_up env' y ≡ look_up env y
    pub no_datatype : as_datatype (top_in old x) ≡ None
    pub no_retype : (y : Name) (p : PatternTree) (e : Tree) → bytes_eq y x ≡ false → look_up env y ≡ Some (function_of p e) → body_refers x p e ≡ true → IsUnchanged (top_in old x) (top_in new x)

  module _ (held : ℕ → Option Term) (env' : Environment) (x : Name) where
    -- the name is a variable with a value of its type, which has no variables
    pub record BindsVariable (t : Term) (v : Value) : Type 0 where
      pub typed : top_in new x ≡ Some (top.Variable t)
      pub bound : look_up env' x ≡ Some (variable_of v)
      pub has_type : values.HasType held v t
      pub ground : IsGround t

    -- the name is a function whose body has the types of its scheme in the bindings before, where types may have any size or a limited one
    pub record BindsFunction (s : Scheme) (p : PatternTree) (e : Tree) : Type 0 where
      pub typed : top_in new x ≡ Some (top.Function s)
      pub bound : look_up env' x ≡ Some (function_of p e)
      pub limit : Option ℕ
      pub has_types : HasBodyType (world old (class_at s.classes.items) limit) x p e s.argument s.result

    -- the name is a datatype of that tag
    pub record BindsDatatype (tag : ℕ) (t : Term) : Type 0 where
      pub typed : top_in new x ≡ Some (top.Datatype tag t)
      pub bound : look_up env' x ≡ Some (datatype_of tag)
      pub holds : held tag ≡ Some t
      pub ground : IsGround t

    -- one of these
    abbrev pub Binds : Type 0
    Binds = ((t : Term) × (v : Value) × BindsVariable t v) ⊎ ((s : Scheme) × (p : PatternTree) × (e : Tree) × BindsFunction s p e) ⊎ ((tag : ℕ) × (t : Term) × BindsDatatype tag t)

  -- bindings stay well typed where a name is bound anew; a new datatype is added to what datatypes hold
  abbrev pub StayWellTyped : Type 0
  StayWellTyped = (held held' : ℕ → Option Term) (env env' : Environment) (x : Name) → ((n : ℕ) (t : Term) → held n ≡ Some t → held' n ≡ Some t)
      → Redefines x env env' → Binds held' env' x → AreWellTyped old held env → AreWellTyped new held' env'

-- each variable in its own place changes nothing
pub substitute-variable : (t : Term) → substitute variable t ≡ t
substitute-variable int = refl
substitute-variable bool = refl
substitute-variable char = refl
substitute-variable (variable v) = refl
substitute-variable (seq_of t) = ap seq_of (substitute-variable t)
substitute-variable (pair_of t u) = let e = substitute-variable t in let d = substitute-variable u in cc
substitute-variable (type.named n) = refl

-- what a name meant it still means
pub record StillMeans (old new : Option Top) : Type 0 where
  pub variables : (t : Term) → as_variable old ≡ Some t → as_variable new ≡ Some t
  pub functions : (m : Callable) → top_meaning old ≡ Some m → top_meaning new ≡ Some m

same_type : (f g : Scheme) → IsSameScheme f g → function_type f ≡ function_type g
same_type f g h = let a = h.argument in let b = h.result in let c = h.classes in cc

unchanged_means : (o n : Option Top) → as_datatype o ≡ None → IsUnchanged o n → StillMeans o n
unchanged_means (Some (top.Variable t)) (Some (top.Variable u)) d h = record { variables = λ a e. ap Some (sym h) ∙ e; functions = λ m e. cc }
unchanged_means (Some (top.Function f)) (Some (top.Function g)) d h = record { variables = λ a e. cc; functions = λ m e. ap (λ t. Some (general t)) (sym (same_type f g h)) ∙ e }
unchanged_means (Some (top.Datatype n t)) o d h = cc
unchanged_means (Some t) o d h = absurd h
unchanged_means None o d h = record { variables = λ a e. cc; functions = λ m e. cc }

module _ {P : Type 0} (old new : List (List ℕ × Top × P)) (held : ℕ → Option Term) (env : Environment) (bindings_hold : AreWellTyped old held env) where
  -- types at the top level have no variables, but for those of functions
  ground_variable : (s : ℕ → Term) (y : Name) (t : Term) (o : Option Top) → top_in old y ≡ o → as_variable o ≡ Some t → substitute s t ≡ t
  ground_variable s y t (Some (top.Variable u)) e h = let q : u ≡ t = cc in subst (λ t. substitute s t ≡ t) q (substitute-ground s u ((bindings_hold y).variables u e).1)
  ground_variable s y t (Some (top.Function f)) e h = cc
  ground_variable s y t (Some (top.Datatype n u)) e h = cc
  ground_variable s y t None e h = cc

  ground_datatype : (s : ℕ → Term) (y : Name) (d : ℕ × Term) (o : Option Top) → top_in old y ≡ o → as_datatype o ≡ Some d → substitute s d.1 ≡ d.1
  ground_datatype s y d (Some (top.Variable u)) e h = cc
  ground_datatype s y d (Some (top.Function f)) e h = cc
  ground_datatype s y d (Some (top.Datatype n u)) e h = let q : (n, u) ≡ d = cc in subst (λ d. substitute s d.1 ≡ d.1) q (substitute-ground s u ((bindings_hold y).datatypes n u e).2)
  ground_datatype s y d None e h = cc

  module _ (of of' : ℕ → Class) (s : ℕ → Term) (classes : (v : ℕ) → IsIn of' (of v) (s v)) where
    takes_top : (y : Name) (m : Callable) (t u : Term) (o : Option Top) → top_in old y ≡ o → top_meaning o ≡ Some m → CallableTakes of m t u → CallableTakes of' m (substitute s t) (substitute s u)
    takes_top y m t u (Some (top.Variable w)) e h k = cc
    takes_top y m t u (Some (top.Function f)) e h k =
        let q : general (function_type f) ≡ m = cc in
        subst (λ m. CallableTakes of' m (substitute s t) (substitute s u)) q (instance_maps of of' s classes (function_type f) t u (subst (λ m. CallableTakes of m t u) (sym q) k))
    takes_top y m t u (Some (top.Datatype n w)) e h k =
        let q : single w (type.named n) ≡ m = cc in
        let i : (t ≡ w) × (u ≡ type.named n) = subst (λ m. CallableTakes of m t u) (sym q) k in
        subst (λ m. CallableTakes of' m (substitute s t) (substitute s u)) q
        (ap (substitute s) i.0 ∙ substitute-ground s w ((bindings_hold y).datatypes n w e).2, ap (substitute s) i.1)
    takes_top y m t u None e h k = cc

    named_takes : (y : Name) (m : Callable) (t u : Term) (b : Option Builtin) → StillMeans (top_in old y) (top_in new y) → known_or b (top_meaning (top_in old y)) ≡ Some m → CallableTakes of m t u
        → (m' : Callable) × (known_or b (top_meaning (top_in new y)) ≡ Some m') × CallableTakes of' m' (substitute s t) (substitute s u)
    named_takes y m t u (Some b) w h k =
        let q : general (builtin_type b) ≡ m = cc in
        (general (builtin_type b), refl, instance_maps of of' s classes (builtin_type b) t u (subst (λ m. CallableTakes of m t u) (sym q) k))
    named_takes y m t u None w h k = (m, w.functions m h, takes_top y m t u (top_in old y) refl h k)

    module _ (limit : Option ℕ) (f : Name) (a b : Term) where
      own_maps : (y : Name) → (bytes_eq y f ≡ false → StillMeans (top_in old y) (top_in new y))
          → MapsAt s (world old of limit (Some (f, a, b))) (world new of' None (Some (f, substitute s a, substitute s b))) y
      own_maps y still = record {
        variables = λ t h. variables (bytes_eq y f) (bytes_eq y (codes "it")) refl t h;
        functions = λ m t u h k. functions (bytes_eq y f) refl m t u h k;
      }
        where
          variables : (c d : Bool) → bytes_eq y f ≡ c → (t : Term) → cond (c || d) None (as_variable (top_in old y)) ≡ Some t → cond (c || d) None (as_variable (top_in new y)) ≡ Some (substitute s t)
          variables true d e t h = cc
          variables false true e t h = cc
          variables false false e t h = (still e).variables t h ∙ ap Some (sym (ground_variable s y t (top_in old y) refl h))

          functions : (c : Bool) → bytes_eq y f ≡ c → (m : Callable) (t u : Term)
              → callable_of (Some (f, a, b)) (cond c (Some itself) (built_in_or (builtin_named y) (as_function (top_in old y)))) ≡ Some m → CallableTakes of m t u
              → (m' : Callable) × (callable_of (Some (f, substitute s a, substitute s b)) (cond c (Some itself) (built_in_or (builtin_named y) (as_function (top_in new y)))) ≡ Some m')
              × CallableTakes of' m' (substitute s t) (substitute s u)
          functions true e m t u h k =
              let q : single a b ≡ m = cc in
              let i : (t ≡ a) × (u ≡ b) = subst (λ m. CallableTakes of m t u) (sym q) k in
              (single (substitute s a) (substitute s b), refl, (ap (substitute s) i.0, ap (substitute s) i.1))
          functions false e m t u h k =
              let r = named_takes y m t u (builtin_named y) (still e) (sym (meaning_is (Some (f, a, b)) (builtin_named y) (top_in old y)) ∙ h) k in
              (r.0, meaning_is (Some (f, substitute s a, substitute s b)) (builtin_named y) (top_in new y) ∙ r.1, r.2)

    -- a body keeps its types, at the types put for variables
    body_map : (limit : Option ℕ) (f : Name) (p : PatternTree) (e : Tree) (a b : Term)
        → ((y : Name) (d : ℕ × Term) → as_datatype (top_in old y) ≡ Some d → as_datatype (top_in new y) ≡ Some d)
        → ((y : Name) → bytes_eq y f ≡ false → body_refers y p e ≡ true → StillMeans (top_in old y) (top_in new y))
        → HasBodyType (world old of limit) f p e a b → HasBodyType (world new of' None) f p e (substitute s a) (substitute s b)
    body_map limit f p e a b tags still h =
        let w : Assumptions = world old of limit (Some (f, a, b)) in
        let w' : Assumptions = world new of' None (Some (f, substitute s a, substitute s b)) in
        let maps : Maps s w w' = record { classes = classes; datatypes = λ y d q. (tags y d q, ground_datatype s y d (top_in old y) refl q); allowed = λ t q. tt } in
        let hides : Hides (λ y. binds y p) h.parts = subst (Hides (λ y. binds y p)) (append-nil h.parts) (hides_parts w p a h.parts h.taken (λ x. false) [] (λ x q. refl)) in
        record {
          parts = scope_with s h.parts;
          taken = parts_map s w w' maps p a h.parts h.taken;
          signed = tt;
          given = typed_map s w w' maps e (λ y. binds y p) h.parts b hides (λ y q. own_maps limit f a b y (λ n. still y n q)) h.given;
        }

  -- a body still has the types that it had
  body_same : (of : ℕ → Class) (f : Name) (p : PatternTree) (e : Tree) (a b : Term)
      → ((y : Name) (d : ℕ × Term) → as_datatype (top_in old y) ≡ Some d → as_datatype (top_in new y) ≡ Some d)
      → ((y : Name) → bytes_eq y f ≡ false → body_refers y p e ≡ true → StillMeans (top_in old y) (top_in new y))
      → HasBodyType (world old of None) f p e a b → HasBodyType (world new of None) f p e a b
  body_same of f p e a b tags still h =
      subst (λ a. HasBodyType (world new of None) f p e a b) (substitute-variable a)
      (subst (HasBodyType (world new of None) f p e (substitute variable a)) (substitute-variable b) (body_map of of variable (λ v t m. m) None f p e a b tags still h))

held_more : (held held' : ℕ → Option Term) → ((n : ℕ) (t : Term) → held n ≡ Some t → held' n ≡ Some t) → (n : ℕ) (P Q : Term → Type 0) → ((t : Term) → P t → Q t)
    → (o : Option Term) → held n ≡ o → values.Holding o P → values.Holding (held' n) Q
held_more held held' g n P Q f None e h = absurd h
held_more held held' g n P Q f (Some t) e h = subst (λ o. values.Holding o Q) (sym (g n t e)) (f t h)

-- values keep their types where a datatype is added
mutual
  pub grows : (held held' : ℕ → Option Term) → ((n : ℕ) (t : Term) → held n ≡ Some t → held' n ≡ Some t) → (v : Value) (t : Term) → values.HasType held v t → values.HasType held' v t
  grows held held' g (value.int n) int h = h
  grows held held' g (value.boolean b) bool h = h
  grows held held' g (value.character c) char h = h
  grows held held' g (value.pair l r) (pair_of t u) h = (grows held held' g l t h.0, grows held held' g r u h.1)
  grows held held' g (value.seq vs) (seq_of t) h = each_grows held held' g vs t h
  grows held held' g (value.tagged n v) (type.named m) h =
      (h.0, held_more held held' g n (λ t. values.HasType held v t) (λ t. values.HasType held' v t) (λ t k. grows held held' g v t k) (held n) refl h.1)
  grows held held' g v t h = absurd h

  pub each_grows : (held held' : ℕ → Option Term) → ((n : ℕ) (t : Term) → held n ≡ Some t → held' n ≡ Some t) → (vs : value.ValueTrees) (t : Term) → values.EachHasType held vs t → values.EachHasType held' vs t
  each_grows held held' g value.no_trees t h = tt
  each_grows held held' g (value.tree_then v vs) t h = (grows held held' g v t h.0, each_grows held held' g vs t h.1)

module _ {P : Type 0} (old new : List (List ℕ × Top × P)) (held held' : ℕ → Option Term) (env env' : Environment) (x : Name) (bindings_hold : AreWellTyped old held env)
    (more : (n : ℕ) (t : Term) → held n ≡ Some t → held' n ≡ Some t) (redefines : Redefines old new x env env') where
  -- a datatype stays what it is
  tags_stay : (y : Name) (d : ℕ × Term) → as_datatype (top_in old y) ≡ Some d → as_datatype (top_in new y) ≡ Some d
  tags_stay y d h = other (bytes_eq y x) refl
    where
      other : (c : Bool) → bytes_eq y x ≡ c → as_datatype (top_in new y) ≡ Some d
      other true e =
          let q : y ≡ x = (bytes_eq-Decides y x).0 e in
          let n : as_datatype (top_in old y) ≡ None = subst (λ z. as_datatype (top_in old z) ≡ None) (sym q) redefines.no_datatype in cc
      other false e = subst (λ o. as_datatype o ≡ Some d) (sym (redefines.tops y e)) h

  value_stays : (t : Term) (o : Option evaluated.Top) → IsValue held t o → IsValue held' t o
  value_stays t (Some (variable_of v)) h = grows held held' more v t h
  value_stays t (Some (function_of p e)) h = absurd h
  value_stays t (Some (datatype_of n)) h = absurd h
  value_stays t (Some nothing) h = absurd h
  value_stays t None h = absurd h

  body_stays : (y : Name) (g : Scheme) (o : Option evaluated.Top) → bytes_eq y x ≡ false → look_up env y ≡ o → IsBody old y g o → IsBody new y g o
  body_stays y g (Some (function_of p e)) n q h = λ of t u i. body_same old new held env bindings_hold of y p e t u tags_stay (λ z f r. still z (bytes_eq z x) refl r) (h of t u i)
    where
      still : (z : Name) (c : Bool) → bytes_eq z x ≡ c → body_refers z p e ≡ true → StillMeans (top_in old z) (top_in new z)
      still z true k r =
          let s : z ≡ x = (bytes_eq-Decides z x).0 k in
          subst (λ z. StillMeans (top_in old z) (top_in new z)) (sym s) (unchanged_means (top_in old x) (top_in new x) redefines.no_datatype (redefines.no_retype y p e n q (subst (λ z. body_refers z p e ≡ true) s r)))
      still z false k r = subst (StillMeans (top_in old z)) (sym (redefines.tops z k)) (record { variables = λ t h. h; functions = λ m h. h })
  body_stays y g (Some (variable_of v)) n q h = absurd h
  body_stays y g (Some (datatype_of k)) n q h = absurd h
  body_stays y g (Some nothing) n q h = absurd h
  body_stays y g None n q h = absurd h

  other_stays : (y : Name) → bytes_eq y x ≡ false → IsWellTyped new held' env' y
  other_stays y n =
      let same = redefines.tops y n in
      let in_env = redefines.values y n in
      record {
        variables = λ t h. let r = (bindings_hold y).variables t (sym same ∙ h) in (subst (IsValue held' t) (sym in_env) (value_stays t (look_up env y) r.0), r.1);
        functions = λ g h. let r = (bindings_hold y).functions g (sym same ∙ h) in subst (IsBody new y g) (sym in_env) (body_stays y g (look_up env y) n refl r);
        datatypes = λ k t h. let r = (bindings_hold y).datatypes k t (sym same ∙ h) in (in_env ∙ r.0, more k t r.1, r.2);
      }

  -- all bindings stay well typed
  pub all_stay : IsWellTyped new held' env' x → AreWellTyped new held' env'
  all_stay there y = either (bytes_eq y x) refl
    where
      either : (c : Bool) → bytes_eq y x ≡ c → IsWellTyped new held' env' y
      either true e = subst (IsWellTyped new held' env') (sym ((bytes_eq-Decides y x).0 e)) there
      either false e = other_stays y e

  others_mean : (z : Name) → bytes_eq z x ≡ false → StillMeans (top_in old z) (top_in new z)
  others_mean z k = subst (StillMeans (top_in old z)) (sym (redefines.tops z k)) (record { variables = λ t h. h; functions = λ m h. h })

  variable_there : (t : Term) (v : Value) → BindsVariable old new held' env' x t v → IsWellTyped new held' env' x
  variable_there t v h = record {
    variables = λ u e.
        let q : t ≡ u = top_variable_same t u (sym h.typed ∙ e) in
        subst (λ u. IsValue held' u (look_up env' x) × IsGround u) q (subst (IsValue held' t) (sym h.bound) h.has_type, h.ground);
    functions = λ s e. let q = sym h.typed ∙ e in cc;
    datatypes = λ n u e. let q = sym h.typed ∙ e in cc;
  }
    where
      top_variable_same : (t u : Term) → Some (top.Variable t) ≡ Some (top.Variable u) → t ≡ u
      top_variable_same t u e = cc

  datatype_there : (n : ℕ) (t : Term) → BindsDatatype old new held' env' x n t → IsWellTyped new held' env' x
  datatype_there n t h = record {
    variables = λ u e. let q = sym h.typed ∙ e in cc;
    functions = λ s e. let q = sym h.typed ∙ e in cc;
    datatypes = λ m u e.
        let q = same n m t u (sym h.typed ∙ e) in
        subst (λ m. (look_up env' x ≡ Some (datatype_of m)) × (held' m ≡ Some u) × IsGround u) q.0
        (subst (λ u. (look_up env' x ≡ Some (datatype_of n)) × (held' n ≡ Some u) × IsGround u) q.1 (h.bound, h.holds, h.ground));
  }
    where
      same : (n m : ℕ) (t u : Term) → Some (top.Datatype n t) ≡ Some (top.Datatype m u) → (n ≡ m) × (t ≡ u)
      same n m t u e = (cc, cc)

  function_there : (s : Scheme) (p : PatternTree) (e : Tree) → BindsFunction old new held' env' x s p e → IsWellTyped new held' env' x
  function_there s p e h = record {
    variables = λ u q. let q' = sym h.typed ∙ q in cc;
    functions = λ g q. let i : s ≡ g = same s g (sym h.typed ∙ q) in
        subst (λ g. IsBody new x g (look_up env' x)) i (subst (IsBody new x s) (sym h.bound) whole);
    datatypes = λ m u q. let q' = sym h.typed ∙ q in cc;
  }
    where
      same : (s g : Scheme) → Some (top.Function s) ≡ Some (top.Function g) → s ≡ g
      same s g e = cc

      whole : IsBody new x s (Some (function_of p e))
      whole of t u i =
          subst (λ t. HasBodyType (world new of None) x p e t u) (sym i.argument)
          (subst (HasBodyType (world new of None) x p e (substitute i.put s.argument)) (sym i.result)
          (body_map old new held env bindings_hold (class_at s.classes.items) of i.put i.within h.limit x p e s.argument s.result tags_stay (λ y n r. others_mean y n) h.has_types))

  pub one_stays : Binds old new held' env' x → AreWellTyped new held' env'
  one_stays (inl (t, v, h)) = all_stay (variable_there t v h)
  one_stays (inr (inl (s, p, e, h))) = all_stay (function_there s p e h)
  one_stays (inr (inr (n, t, h))) = all_stay (datatype_there n t h)

pub stay_well_typed : {P : Type 0} (old new : List (List ℕ × Top × P)) → StayWellTyped old new
stay_well_typed old new held held' env env' x more redefines h bindings_hold = one_stays old new held held' env env' x bindings_hold more redefines h
