-- Each node keeps types, where its parts do.
use Rattle.std.proofs.Common.{◌≡◌, ℕ, zero, suc, ◌<◌, ◌+◌, Bool, true, false, cond, List, [], ◌∷◌, ◌++◌, length, map, Option, Some, None, option_and_then, refl, subst, sym, ap, ◌∙◌, arith, slice_get, pos, append_assoc}
use Rattle.std.specs.Str.{bytes_eq}
use Rattle.std.specs.List.{list_all, range_with_len}
use Rattle.std.specs.Prelude.{◌==◌, ◌||◌, codes}
use Rattle.std.proofs.lemmas.Bool.{and_parts}
use Rattle.std.proofs.Common.{eqb-true}
use Rattle.std.proofs.lemmas.List.{append-nil}
use Rattle.std.proofs.lemmas.Slice.Eq.{bytes_eq-Decides}
use Rattle.nesl_lex.specs.declared.token.Span.{Span}
use Rattle.nesl_values.specs.Tree as values
use Rattle.nesl_values.specs.Parts.{as_bool, elements}
use Rattle.nesl_types.specs.declared.bindings.Top.{Top}
use Rattle.nesl_types.specs.declared.bindings.Top.TheVariants as top
use Rattle.nesl_types.specs.declared.classes.Class.{Class}
use Rattle.nesl_types.specs.declared.schemes.Scheme.{Scheme}
use Rattle.nesl_types_shared.specs.Term.{Term, seq_of}
use Rattle.nesl_types_shared.specs.Term as type
use Rattle.nesl_scalars.specs.declared.trap.Trap.TheVariants as trap
use Rattle.nesl_seqs_base.specs.declared.seq_fn.SeqFn.TheVariants as seq
use Rattle.nesl_seqs_base.specs.Meaning.{outcome_of}
use Rattle.nesl_syntax_tree.specs.Trees.{Tree, Trees, Shape, Binders, node, none, more, no_binders, binder}
use Rattle.nesl_syntax_tree.specs.Trees as trees
use Rattle.nesl_builtins.specs.declared.builtin.Builtin.{Builtin}
use Rattle.nesl_builtins.specs.declared.builtin.Builtin.TheVariants.{OfSequences}
use Rattle.nesl_builtins.specs.FunctionTypes.{builtin_type, function_type}
use Rattle.nesl_builtins.specs.Named.{prefix_builtin, infix_builtin, builtin_named, look_up}
use Rattle.nesl_infer_names.specs.Names.{top_in, as_variable, as_datatype, as_function, built_in_or, itself}
use Rattle.nesl_infer_rules.specs.World.{Assumptions, OwnFunction, Callable, general, single, callable_of, meanings_in}
use Rattle.nesl_infer_rules.specs.Typing.{LocalTypes, local_type, newest_type, is_element, element, HasShapeType, HaveType, BindingsAdd, HaveElements, PatternsAdd, BindersAdd, IsVariable, IsInstanceOf, CallableTakes}
use Rattle.nesl_infer_rules.specs.Typing as typing
use Rattle.nesl_eval_meaning.specs.Names.{Name, Value, Locals, with_names, outside, Environment, variable_of, function_of, datatype_of, nothing, bound}
use Rattle.nesl_eval_meaning.specs.Names as evaluated
use Rattle.nesl_eval_meaning.specs.Out.{Out, value, fault, and_then, given, all_beside}
use Rattle.nesl_eval_meaning.specs.Outcome.{PartOutcomes, denoted, node_of, small_enough, apply_builtin, variable_in, call_name, branch, two_parts, all_parts, let_of, sources, common_places, lengths, bound_at, first_at, scope_at, out_at, place_if_true, body_value, kept_places, body_values, over_places, out}
use Rattle.nesl_eval_sound.specs.HasType.{HasType, Holding}
use Rattle.nesl_eval_sound.specs.Sound.{IsFine, ground, HasBodyType, IsValue, IsBody, world, AreWellTyped, TypesAreKept}
use Rattle.nesl_eval_sound.proofs.Each.{Each, Reads, each_weaker, each_of_all}
use Rattle.nesl_eval_sound.proofs.Ground.{substitute-ground, substituted}
use Rattle.nesl_eval_sound.proofs.Fine.{fine_added, fine_then, fine_given, fine_at_call, fine_all, fine_made, fine_on_sequence}
use Rattle.nesl_eval_sound.proofs.Scopes.{Fits, Agree, nothing_fits, element_added, KnowsDatatypes, binds, then_read}
use Rattle.nesl_eval_sound.proofs.Meanings.{top_meaning, known_or, meaning_is}
use Rattle.nesl_eval_sound.proofs.Applied.{fine_applied}
use Rattle.nesl_eval_sound.proofs.Sequences.{keeps_index, keeps_range, keeps_range_by, in_sequence}
use Rattle.nesl_eval_sound.proofs.Readers.{each_listed, read_map}

module _ (P : Type 0) (context : List (List ℕ × Top × P)) (held : ℕ → Option Term) (env : Environment) (bindings_hold : AreWellTyped context held env) where
  -- of the type that a type is at int
  abbrev Of : Term → Value → Type 0
  Of t v = HasType held v (ground t)

  -- the function that is being defined is at hand
  abbrev pub IsOwn : (ℕ → Class) → OwnFunction → Option evaluated.Top → Type 0
  IsOwn of (Some own) (Some (function_of p e)) = HasBodyType (world context of None) own.0 p e own.1 own.2 × (builtin_named own.0 ≡ None)
  IsOwn of (Some own) o = ⊥
  IsOwn of None o = Unit {0}

  abbrev pub name_of : OwnFunction → Name
  name_of (Some own) = own.0
  name_of None = []

  abbrev pub IsKnown : (ℕ → Class) → OwnFunction → Type 0
  IsKnown of own = IsOwn of own (look_up env (name_of own))

  -- parts keep types
  abbrev pub KeepTypes : PartOutcomes → Type 0
  KeepTypes f = (of : ℕ → Class) (limit : Option ℕ) (own : OwnFunction) → IsKnown of own → (vs : evaluated.Scope) (ts : LocalTypes) → Fits held vs.names vs.element ts
      → (e : Tree) (t : Term) → typing.HasType (world context of limit own) ts e t → IsFine (Of t) (f vs e)

  -- what is fine at a type is fine at an equal one
  at_type : (t u : Term) → t ≡ u → (o : Out Value) → IsFine (Of u) o → IsFine (Of t) o
  at_type t u e o h = subst (λ t. IsFine (Of t) o) (sym e) h

  value_fine : (t : Term) (o : Option evaluated.Top) → IsValue held t o → IsFine (Of t) (variable_in None o)
  value_fine t (Some (variable_of v)) h = substituted held (λ x. type.int) v t h
  value_fine t (Some (function_of p e)) h = absurd h
  value_fine t (Some (datatype_of n)) h = absurd h
  value_fine t (Some nothing) h = absurd h
  value_fine t None h = absurd h

  top_variable : (x : Name) (t : Term) (o : Option Top) → top_in context x ≡ o → as_variable o ≡ Some t → IsFine (Of t) (variable_in None (look_up env x))
  top_variable x t (Some (top.Variable u)) e h =
      let q : u ≡ t = cc in subst (λ t. IsFine (Of t) (variable_in None (look_up env x))) q (value_fine u (look_up env x) ((bindings_hold x).variables u e).0)
  top_variable x t (Some (top.Function f)) e h = cc
  top_variable x t (Some (top.Datatype n u)) e h = cc
  top_variable x t None e h = cc

  variable_fine : (own : OwnFunction) (x : Name) (t : Term) → (meanings_in context own).variables x ≡ Some t → IsFine (Of t) (variable_in None (look_up env x))
  variable_fine None x t h = top_variable x t (top_in context x) refl h
  variable_fine (Some own) x t h = hidden (bytes_eq x own.0 || bytes_eq x (codes "it")) h
    where
      hidden : (c : Bool) → cond c None (as_variable (top_in context x)) ≡ Some t → IsFine (Of t) (variable_in None (look_up env x))
      hidden true h = cc
      hidden false h = top_variable x t (top_in context x) refl h

  -- a local name, or else a top-level variable
  name_fine : (of : ℕ → Class) (limit : Option ℕ) (own : OwnFunction) (x : Name) (t : Term) (a : Option Value) (b : Option Term) → Agree held a b
      → IsVariable (world context of limit own) x b t → IsFine (Of t) (variable_in a (look_up env x))
  name_fine of limit own x t None None h k = variable_fine own x t k
  name_fine of limit own x t None (Some u) h k = absurd h
  name_fine of limit own x t (Some v) None h k = absurd h
  name_fine of limit own x t (Some v) (Some u) h k = subst (λ t. HasType held v (ground t)) (sym k) h

  top_datatype : (x : Name) (d : ℕ × Term) (o : Option Top) → top_in context x ≡ o → as_datatype o ≡ Some d → (held d.0 ≡ Some d.1) × (ground d.1 ≡ d.1)
  top_datatype x d (Some (top.Variable u)) e h = cc
  top_datatype x d (Some (top.Function f)) e h = cc
  top_datatype x d (Some (top.Datatype n u)) e h =
      let q : (n, u) ≡ d = cc in
      let k = (bindings_hold x).datatypes n u e in
      subst (λ d. (held d.0 ≡ Some d.1) × (ground d.1 ≡ d.1)) q (k.1, substitute-ground (λ x. type.int) u k.2)
  top_datatype x d None e h = cc

  knows : (of : ℕ → Class) (limit : Option ℕ) (own : OwnFunction) → KnowsDatatypes held (world context of limit own)
  knows of limit own x d h = top_datatype x d (top_in context x) refl h

  module _ (f : PartOutcomes) (keeps : KeepTypes f) (s : Span) (of : ℕ → Class) where
    -- a call of a user's function whose body has the type
    user_fine : (x : Name) (t u : Term) (o : Option evaluated.Top) → IsOwn of (Some (x, t, u)) o → look_up env x ≡ o → (v : Value) → Of t v → IsFine (Of u) (call_name f s None o v)
    user_fine x t u (Some (function_of p e)) h q v j =
        fine_at_call (Of u) s (given (bound p v []) (λ names. f (with_names (outside []) names) e))
        (fine_given (λ us. Fits held us None (h.0.parts ++ [])) (Of u) (bound p v []) (λ names. f (with_names (outside []) names) e)
        (binds held (world context of None (Some (x, t, u))) (knows of None (Some (x, t, u))) p t h.0.parts h.0.taken v j [] None [] (nothing_fits held))
        (λ us k. keeps of None (Some (x, t, u)) (subst (IsOwn of (Some (x, t, u))) (sym q) h) (with_names (outside []) us) h.0.parts (subst (Fits held us None) (append-nil h.0.parts) k) e u h.0.given))
    user_fine x t u (Some (variable_of w)) h q v j = absurd h
    user_fine x t u (Some (datatype_of n)) h q v j = absurd h
    user_fine x t u (Some nothing) h q v j = absurd h
    user_fine x t u None h q v j = absurd h

    body_known : (x : Name) (t u : Term) (g : Scheme) (o : Option evaluated.Top) → IsBody context x g o → (builtin_named x ≡ None) → IsInstanceOf (function_type g) of t u → IsOwn of (Some (x, t, u)) o
    body_known x t u g (Some (function_of p e)) h b k = (h of t u k, b)
    body_known x t u g (Some (variable_of w)) h b k = absurd h
    body_known x t u g (Some (datatype_of n)) h b k = absurd h
    body_known x t u g (Some nothing) h b k = absurd h
    body_known x t u g None h b k = absurd h

    -- a call of a top-level name, which is no built-in function
    top_called : (x : Name) → builtin_named x ≡ None → (m : Callable) (t u : Term) (o : Option Top) → top_in context x ≡ o → top_meaning o ≡ Some m → CallableTakes of m t u → (v : Value) → Of t v
        → IsFine (Of u) (call_name f s None (look_up env x) v)
    top_called x free m t u (Some (top.Variable w)) e h k v j = cc
    top_called x free m t u (Some (top.Function g)) e h k v j =
        let q : general (function_type g) ≡ m = cc in
        let i : IsInstanceOf (function_type g) of t u = subst (λ m. CallableTakes of m t u) (sym q) k in
        user_fine x t u (look_up env x) (body_known x t u g (look_up env x) ((bindings_hold x).functions g e) free i) refl v j
    top_called x free m t u (Some (top.Datatype n w)) e h k v j =
        let q : single w (type.named n) ≡ m = cc in
        let i : (t ≡ w) × (u ≡ type.named n) = subst (λ m. CallableTakes of m t u) (sym q) k in
        let d = (bindings_hold x).datatypes n w e in
        let inside : HasType held v w = subst (HasType held v) (substitute-ground (λ x. type.int) w d.2) (subst (λ t. HasType held v (ground t)) i.0 j) in
        subst (λ o. IsFine (Of u) (call_name f s None o v)) (sym d.0)
        (at_type u (type.named n) i.1 (small_enough s (values.tagged n v))
        (fine_made held s (values.tagged n v) (type.named n) (refl, subst (λ o. Holding o (λ t. HasType held v t)) (sym d.1) inside)))
    top_called x free m t u None e h k v j = cc

    named_called : (x : Name) (m : Callable) (t u : Term) (b : Option Builtin) → builtin_named x ≡ b → known_or b (top_meaning (top_in context x)) ≡ Some m → CallableTakes of m t u → (v : Value) → Of t v
        → IsFine (Of u) (call_name f s b (look_up env x) v)
    named_called x m t u (Some b) e h k v j =
        let q : general (builtin_type b) ≡ m = cc in
        fine_applied held s b of t u (subst (λ m. CallableTakes of m t u) (sym q) k) v j
    named_called x m t u None e h k v j = top_called x e m t u (top_in context x) refl h k v j

    own_unnamed : (x : Name) (t u : Term) (o : Option evaluated.Top) → IsOwn of (Some (x, t, u)) o → builtin_named x ≡ None
    own_unnamed x t u (Some (function_of p e)) h = h.1
    own_unnamed x t u (Some (variable_of w)) h = absurd h
    own_unnamed x t u (Some (datatype_of n)) h = absurd h
    own_unnamed x t u (Some nothing) h = absurd h
    own_unnamed x t u None h = absurd h

    own_called : (x y : Name) (m : Callable) (t u t' u' : Term) → IsKnown of (Some (y, t', u')) → x ≡ y → Some (single t' u') ≡ Some m → CallableTakes of m t u → (v : Value) → Of t v
        → IsFine (Of u) (call_name f s (builtin_named x) (look_up env x) v)
    own_called x y m t u t' u' known e h k v j =
        let q : single t' u' ≡ m = cc in
        let i : (t ≡ t') × (u ≡ u') = subst (λ m. CallableTakes of m t u) (sym q) k in
        let here : IsOwn of (Some (x, t', u')) (look_up env x) = subst (λ z. IsOwn of (Some (z, t', u')) (look_up env z)) (sym e) known in
        let so : IsOwn of (Some (x, t, u)) (look_up env x) =
        subst (λ a. IsOwn of (Some (x, a, u)) (look_up env x)) (sym i.0) (subst (λ b. IsOwn of (Some (x, t', b)) (look_up env x)) (sym i.1) here) in
        subst (λ b. IsFine (Of u) (call_name f s b (look_up env x) v)) (sym (own_unnamed x t u (look_up env x) so)) (user_fine x t u (look_up env x) so refl v j)

    called_fine : (own : OwnFunction) → IsKnown of own → (x : Name) (m : Callable) (t u : Term) → (meanings_in context own).functions x ≡ Some m → CallableTakes of m t u → (v : Value) → Of t v
        → IsFine (Of u) (call_name f s (builtin_named x) (look_up env x) v)
    called_fine None known x m t u h k v j = named_called x m t u (builtin_named x) refl (sym (meaning_is None (builtin_named x) (top_in context x)) ∙ h) k v j
    called_fine (Some own) known x m t u h k v j = by_own (bytes_eq x own.0) refl h
      where
        by_own : (c : Bool) → bytes_eq x own.0 ≡ c → callable_of (Some own) (cond c (Some itself) (built_in_or (builtin_named x) (as_function (top_in context x)))) ≡ Some m
            → IsFine (Of u) (call_name f s (builtin_named x) (look_up env x) v)
        by_own true e h = own_called x own.0 m t u own.1 own.2 known ((bytes_eq-Decides x own.0).0 e) h k v j
        by_own false e h = named_called x m t u (builtin_named x) refl (sym (meaning_is (Some own) (builtin_named x) (top_in context x)) ∙ h) k v j

  -- the parts of a node, in a world and a scope
  module _ (f : PartOutcomes) (keeps : KeepTypes f) (of : ℕ → Class) (limit : Option ℕ) (own : OwnFunction) (known : IsKnown of own) where
    abbrev w : Assumptions
    w = world context of limit own

    part_fine : (vs : evaluated.Scope) (ts : LocalTypes) → Fits held vs.names vs.element ts → (e : Tree) (t : Term) → typing.HasType w ts e t → IsFine (Of t) (f vs e)
    part_fine = keeps of limit own known

    -- all parts have one type
    all_fine : (vs : evaluated.Scope) (ts : LocalTypes) → Fits held vs.names vs.element ts → (es : Trees) (t : Term) → HaveType w ts es t → IsFine (Each (Of t)) (all_parts f vs es)
    all_fine vs ts g none t h = tt
    all_fine vs ts g (more e es) t h =
        fine_then (Of t) (Each (Of t)) (f vs e) (λ v. and_then (all_parts f vs es) (λ us. value (v ∷ us) 0 0)) (part_fine vs ts g e t h.0)
        (λ v j. fine_then (Each (Of t)) (Each (Of t)) (all_parts f vs es) (λ us. value (v ∷ us) 0 0) (all_fine vs ts g es t h.1) (λ us k. (j, k)))

    let_fine : (bs : Binders) (e : Tree) (t : Term) (ns : LocalTypes) (vs : evaluated.Scope) (ts : LocalTypes) → Fits held vs.names vs.element ts → BindingsAdd w ts bs ns → typing.HasType w (ns ++ ts) e t
        → IsFine (Of t) (let_of f bs e vs)
    let_fine no_binders e t ns vs ts g h k = part_fine vs ts g e t (subst (λ ns. typing.HasType w (ns ++ ts) e t) h k)
    let_fine (binder p b bs) e t ns vs ts g (u, ms, os, hb, hp, hs, es) k =
        fine_then (Of u) (Of t) (f vs b) (λ v. given (bound p v vs.names) (λ names. let_of f bs e (with_names vs names))) (part_fine vs ts g b u hb)
        (λ v j. fine_given (λ us. Fits held us vs.element (ms ++ ts)) (Of t) (bound p v vs.names) (λ names. let_of f bs e (with_names vs names))
        (binds held w (knows of limit own) p u ms hp v j vs.names vs.element ts g)
        (λ us i. let_fine bs e t os (with_names vs us) (ms ++ ts) i hs (subst (λ sc. typing.HasType w sc e t) (append_assoc os ms ts) (subst (λ ns. typing.HasType w (ns ++ ts) e t) es k))))

    branch_fine : (v : Value) (t : Term) (o p : Out Value) → HasType held v type.bool → IsFine (Of t) o → IsFine (Of t) p → IsFine (Of t) (branch (as_bool v) o p)
    branch_fine (values.boolean true) t o p h j k = j
    branch_fine (values.boolean false) t o p h j k = k
    branch_fine v t o p h j k = absurd h

    two_fine : (vs : evaluated.Scope) (ts : LocalTypes) → Fits held vs.names vs.element ts → (a b : Tree) (t u r : Term) → typing.HasType w ts a t → typing.HasType w ts b u
        → (k : Value → Value → Out Value) → ((x y : Value) → Of t x → Of u y → IsFine (Of r) (k x y)) → IsFine (Of r) (two_parts f vs a b k)
    two_fine vs ts g a b t u r ha hb k j =
        fine_then (Of t) (Of r) (f vs a) (λ x. and_then (f vs b) (k x)) (part_fine vs ts g a t ha)
        (λ x hx. fine_then (Of u) (Of r) (f vs b) (k x) (part_fine vs ts g b u hb) (λ y hy. j x y hx hy))

    local_fine : (s : Span) (a : Option Value) (b : Option Term) (t : Term) → Agree held a b → b ≡ Some t → IsFine (Of t) (given a (λ v. value v 0 0))
    local_fine s None None t h k = cc
    local_fine s None (Some u) t h k = absurd h
    local_fine s (Some v) None t h k = absurd h
    local_fine s (Some v) (Some u) t h k = let q : u ≡ t = cc in subst (λ t. Of t v) q h

    -- the sequences of an apply-to-each
    abbrev pub Rows : List Value → List Term → Type 0
    Rows [] [] = Unit {0}
    Rows [] (i ∷ is) = ⊥
    Rows (v ∷ us) [] = ⊥
    Rows (v ∷ us) (i ∷ is) = Of (seq_of i) v × Rows us is

    -- a place of each of them
    abbrev pub IsPlace : List Value → ℕ → Type 0
    IsPlace [] k = ⊥
    IsPlace (v ∷ us) k = (k < length (elements v)) × Each (λ u. k < length (elements u)) us

    abbrev pub AreLengths : List Value → List ℕ → Type 0
    AreLengths [] [] = Unit {0}
    AreLengths [] (n ∷ ns) = ⊥
    AreLengths (v ∷ us) [] = ⊥
    AreLengths (v ∷ us) (n ∷ ns) = (length (elements v) ≡ n) × AreLengths us ns

    sources_fine : (vs : evaluated.Scope) (ts : LocalTypes) → Fits held vs.names vs.element ts → (bs : Binders) (is : List Term) → HaveElements w ts bs is → IsFine (λ us. Rows us is) (all_parts f vs (sources bs))
    sources_fine vs ts g no_binders [] h = tt
    sources_fine vs ts g no_binders (i ∷ is) h = absurd h
    sources_fine vs ts g (binder p e bs) [] h = absurd h
    sources_fine vs ts g (binder p e bs) (i ∷ is) h =
        fine_then (Of (seq_of i)) (λ us. Rows us (i ∷ is)) (f vs e) (λ v. and_then (all_parts f vs (sources bs)) (λ us. value (v ∷ us) 0 0)) (part_fine vs ts g e (seq_of i) h.0)
        (λ v j. fine_then (λ us. Rows us is) (λ us. Rows us (i ∷ is)) (all_parts f vs (sources bs)) (λ us. value (v ∷ us) 0 0) (sources_fine vs ts g bs is h.1) (λ us k. (j, k)))

    lengths_read : (us : List Value) (is : List Term) → Rows us is → Reads (lengths us) (AreLengths us)
    lengths_read [] [] h = tt
    lengths_read [] (i ∷ is) h = absurd h
    lengths_read (v ∷ us) [] h = absurd h
    lengths_read (values.seq ws ∷ us) (i ∷ is) h =
        read_map (AreLengths us) (AreLengths (values.seq ws ∷ us)) (lengths us) (λ ns. length (elements (values.seq ws)) ∷ ns) (lengths_read us is h.1) (λ ns k. (refl, k))
    lengths_read (v ∷ us) (i ∷ is) h = absurd h.0

    range_below : (m n : ℕ) → Each (λ k. k < m + n) (range_with_len m n)
    range_below m zero = tt
    range_below m (suc n) = (omega arith, each_weaker (λ k. k < (m + 1) + n) (λ k. k < m + suc n) (range_with_len (m + 1) n) (λ k h. omega arith) (range_below (m + 1) n))

    same_lengths : (n : ℕ) (us : List Value) (ns : List ℕ) → AreLengths us ns → list_all (λ m. m == n) ns ≡ true → (k : ℕ) → k < n → Each (λ u. k < length (elements u)) us
    same_lengths n [] [] h e k l = tt
    same_lengths n [] (m ∷ ns) h e k l = absurd h
    same_lengths n (u ∷ us) [] h e k l = absurd h
    same_lengths n (u ∷ us) (m ∷ ns) h e k l =
        let q = and_parts (m == n) (list_all (λ m. m == n) ns) e in
        let d : m ≡ n = eqb-true m n q.0 in
        let below : k < length (elements u) = omega (arith, h.0) in
        (below, same_lengths n us ns h.1 q.1 k l)

    places_fine : (s : Span) (us : List Value) (i : Term) (is : List Term) → Rows us (i ∷ is) → (ns : List ℕ) → AreLengths us ns → IsFine (Each (IsPlace us)) (common_places s ns)
    places_fine s [] i is r ns h = absurd r
    places_fine s (v ∷ us) i is r [] h = absurd h
    places_fine s (v ∷ us) i is r (n ∷ ns) h = whole (list_all (λ m. m == n) ns) refl
      where
        whole : (c : Bool) → list_all (λ m. m == n) ns ≡ c → IsFine (Each (IsPlace (v ∷ us))) (cond c (value (range_with_len 0 n) 0 0) (fault trap.Length s 0))
        whole true e =
            each_weaker (λ k. k < 0 + n) (IsPlace (v ∷ us)) (range_with_len 0 n)
            (λ k l. let here : k < length (elements v) = omega (arith, h.0) in let below : k < n = omega arith in (here, same_lengths n us ns h.1 e k below)) (range_below 0 n)
        whole false e = tt

    get_read : {X : Type 0} (Q : X → Type 0) (xs : List X) (k : ℕ) → k < length xs → Each Q xs → Reads (slice_get xs k) Q
    get_read Q [] k l h = absurd (omega arith)
    get_read Q (x ∷ xs) zero l h = h.0
    get_read Q (x ∷ xs) (suc k) l h = get_read Q xs k (omega arith) h.1

    element_read : (v : Value) (i : Term) (k : ℕ) → Of (seq_of i) v → k < length (elements v) → Reads (slice_get (elements v) k) (Of i)
    element_read (values.seq ws) i k h l = get_read (Of i) (elements (values.seq ws)) k l (each_listed held ws (ground i) h)
    element_read v i k h l = absurd h

    read_agrees : (o : Option Value) (i : Term) → Reads o (Of i) → Agree held o (Some i)
    read_agrees None i h = absurd h
    read_agrees (Some v) i h = h

    bound_at_read : (k : ℕ) (bs : Binders) (us : List Value) (is : List Term) (ns : LocalTypes) → Rows us is → PatternsAdd w bs is ns → Each (λ u. k < length (elements u)) us
        → (names : Locals) (first : Option Value) (ts : LocalTypes) → Fits held names first ts → Reads (bound_at bs us k names) (λ xs. Fits held xs first (ns ++ ts))
    bound_at_read k no_binders [] [] ns r h l names first ts g = subst (λ ns. Fits held names first (ns ++ ts)) (sym h) g
    bound_at_read k no_binders (v ∷ us) [] ns r h l names first ts g = absurd r
    bound_at_read k no_binders us (i ∷ is) ns r h l names first ts g = absurd h
    bound_at_read k (binder p e bs) us [] ns r h l names first ts g = absurd h
    bound_at_read k (binder p e bs) [] (i ∷ is) ns r h l names first ts g = absurd r
    bound_at_read k (binder p e bs) (v ∷ us) (i ∷ is) ns r (ms, os, hp, hs, es) l names first ts g =
        subst (λ ns. Reads (bound_at (binder p e bs) (v ∷ us) k names) (λ xs. Fits held xs first (ns ++ ts))) (sym es)
        (then_read held (Of i) (λ xs. Fits held xs first ((os ++ ms) ++ ts)) (slice_get (elements v) k) (λ x. option_and_then (bound_at bs us k) (bound p x names)) (element_read v i k r.0 l.0)
        (λ x hx. then_read held (λ xs. Fits held xs first (ms ++ ts)) (λ xs. Fits held xs first ((os ++ ms) ++ ts)) (bound p x names) (bound_at bs us k)
        (binds held w (knows of limit own) p i ms hp x hx names first ts g)
        (λ xs j. subst (λ t. Reads (bound_at bs us k xs) (λ ys. Fits held ys first t)) (sym (append_assoc os ms ts)) (bound_at_read k bs us is os r.1 hs l.1 xs first (ms ++ ts) j))))

    scope_at_read : (k : ℕ) (bs : Binders) (us : List Value) (is : List Term) (ns : LocalTypes) → Rows us is → BindersAdd w bs is ns → IsPlace us k
        → (vs : evaluated.Scope) (ts : LocalTypes) → Fits held vs.names vs.element ts → Reads (scope_at bs us vs k) (λ xs. Fits held xs.names xs.element (ns ++ ts))
    scope_at_read k bs us [] ns r h l vs ts g = absurd h
    scope_at_read k bs [] (i ∷ is) ns r h l vs ts g = absurd r
    scope_at_read k bs (v ∷ us) (i ∷ is) ns r (ms, hp, es) l vs ts g =
        subst (λ l. Reads (scope_at bs (v ∷ us) vs k) (λ xs. Fits held xs.names xs.element l)) (sym (ap (λ ns. ns ++ ts) es ∙ append_assoc ms ((element, i) ∷ []) ts))
        (read_map (λ names. Fits held names (first_at (v ∷ us) k) (ms ++ (element, i) ∷ ts)) (λ xs. Fits held xs.names xs.element (ms ++ (element, i) ∷ ts)) (bound_at bs (v ∷ us) k vs.names)
        (λ names. record { names = names; element = first_at (v ∷ us) k })
        (bound_at_read k bs (v ∷ us) (i ∷ is) ms r hp (l.0, l.1) vs.names (first_at (v ∷ us) k) ((element, i) ∷ ts)
        (element_added held (first_at (v ∷ us) k) i (read_agrees (first_at (v ∷ us) k) i (element_read v i k r.0 l.0)) vs.names vs.element ts g))
        (λ names j. j))

    module _ (bs : Binders) (is : List Term) (ns : LocalTypes) (parts : BindersAdd w bs is ns) (vs : evaluated.Scope) (ts : LocalTypes) (g : Fits held vs.names vs.element ts) (us : List Value) (rows : Rows us is) where
      at_fine : (e : Tree) (t : Term) → typing.HasType w (ns ++ ts) e t → (k : ℕ) → IsPlace us k → IsFine (Of t) (out_at f bs us vs e k)
      at_fine e t h k l =
          fine_given (λ xs. Fits held xs.names xs.element (ns ++ ts)) (Of t) (scope_at bs us vs k) (λ xs. f xs e) (scope_at_read k bs us is ns rows parts l vs ts g)
          (λ xs j. part_fine xs (ns ++ ts) j e t h)

      kept_fine : (k : ℕ) → IsPlace us k → (v : Value) → HasType held v type.bool → IsFine (Each (IsPlace us)) (place_if_true k v)
      kept_fine k l (values.boolean true) h = (l, tt)
      kept_fine k l (values.boolean false) h = tt
      kept_fine k l v h = absurd h

      filters_fine : (c : Tree) → typing.HasType w (ns ++ ts) c type.bool → (ks : List ℕ) → Each (IsPlace us) ks → IsFine (Each (IsPlace us)) (kept_places f bs us vs c ks)
      filters_fine c h ks l =
          fine_all (IsPlace us) (IsPlace us) (λ k. and_then (out_at f bs us vs c k) (place_if_true k)) ks l
          (λ k lk. fine_then (Of type.bool) (Each (IsPlace us)) (out_at f bs us vs c k) (place_if_true k) (at_fine c type.bool h k lk) (kept_fine k lk))

      bodies_fine : (e : Tree) (t : Term) → typing.HasType w (ns ++ ts) e t → (ks : List ℕ) → Each (IsPlace us) ks → IsFine (Of (seq_of t)) (body_values f bs us vs e ks)
      bodies_fine e t h ks l =
          fine_then (Each (Of t)) (Of (seq_of t)) (all_beside (λ k. and_then (out_at f bs us vs e k) body_value) ks) (λ xs. value (values.sequence xs) 0 0)
          (fine_all (IsPlace us) (Of t) (λ k. and_then (out_at f bs us vs e k) body_value) ks l
          (λ k lk. fine_then (Of t) (Each (Of t)) (out_at f bs us vs e k) body_value (at_fine e t h k lk) (λ v j. (j, tt))))
          (λ xs j. in_sequence held xs (ground t) j)

    drawn_places : (s : Span) (bs : Binders) (is : List Term) (ns : LocalTypes) → BindersAdd w bs is ns → (us : List Value) → Rows us is → (ks : List ℕ) → AreLengths us ks → IsFine (Each (IsPlace us)) (common_places s ks)
    drawn_places s bs [] ns h us r ks l = absurd h
    drawn_places s bs (i ∷ is) ns h us r ks l = places_fine s us i is r ks l

    over_fine : (s : Span) (bs : Binders) (is : List Term) (ns : LocalTypes) → BindersAdd w bs is ns → (vs : evaluated.Scope) (ts : LocalTypes) → Fits held vs.names vs.element ts → HaveElements w ts bs is
        → (t : Term) (k : List Value → List ℕ → Out Value)
        → ((us : List Value) → Rows us is → (ks : List ℕ) → Each (IsPlace us) ks → IsFine (Of t) (k us ks)) → IsFine (Of t) (over_places f s bs vs k)
    over_fine s bs is ns d vs ts g h t k j =
        fine_then (λ us. Rows us is) (Of t) (all_parts f vs (sources bs)) (λ us. given (lengths us) (λ ns. and_then (common_places s ns) (k us))) (sources_fine vs ts g bs is h)
        (λ us r. fine_given (AreLengths us) (Of t) (lengths us) (λ ns. and_then (common_places s ns) (k us)) (lengths_read us is r)
        (λ ks l. fine_then (Each (IsPlace us)) (Of t) (common_places s ks) (k us) (drawn_places s bs is ns d us r ks l) (j us r)))

    -- each node
    node_fine : (s : Span) (k : Shape) (t : Term) (vs : evaluated.Scope) (ts : LocalTypes) → Fits held vs.names vs.element ts → HasShapeType w ts k t → IsFine (Of t) (node_of f env vs (node s k))
    node_fine s (trees.number n) t vs ts g h = at_type t type.int h (value (values.int (denoted n)) 0 0) tt
    node_fine s (trees.truth b) t vs ts g h = at_type t type.bool h (value (values.boolean b) 0 0) tt
    node_fine s (trees.character c) t vs ts g h = at_type t type.char h (value (values.character c) 0 0) tt
    node_fine s (trees.text cs) t vs ts g h =
        at_type t (seq_of type.char) h (value (values.sequence (map values.character cs)) (length cs) 0)
        (in_sequence held (map values.character cs) type.char (each_of_all (λ v. HasType held v type.char) values.character cs (λ c. tt)))
    node_fine s (trees.variable x) t vs ts g h = name_fine of limit own x t (look_up vs.names x) (local_type x ts) (g.names_fit x) h
    node_fine s (trees.call x a) t vs ts g (u, ha, (m, hm, ht)) =
        fine_then (Of u) (Of t) (f vs a) (call_name f s (builtin_named x) (look_up env x)) (part_fine vs ts g a u ha)
        (λ v j. called_fine f keeps s of own known x m u t hm ht v j)
    node_fine s (trees.pair a b) t vs ts g (u, v, ha, hb, e) =
        two_fine vs ts g a b u v t ha hb (λ x y. small_enough s (values.pair x y))
        (λ x y hx hy. at_type t (type.pair_of u v) e (small_enough s (values.pair x y)) (fine_made held s (values.pair x y) (ground (type.pair_of u v)) (hx, hy)))
    node_fine s (trees.prefix_of o a) t vs ts g (u, ha, i) =
        fine_then (Of u) (Of t) (f vs a) (apply_builtin s (prefix_builtin o)) (part_fine vs ts g a u ha) (λ v j. fine_applied held s (prefix_builtin o) of u t i v j)
    node_fine s (trees.infix_of o a b) t vs ts g (u, v, ha, hb, i) =
        two_fine vs ts g a b u v t ha hb (λ x y. apply_builtin s (infix_builtin o) (values.pair x y))
        (λ x y hx hy. fine_applied held s (infix_builtin o) of (type.pair_of u v) t i (values.pair x y) (hx, hy))
    node_fine s (trees.index a b) t vs ts g h =
        two_fine vs ts g a b (seq_of t) type.int t h.0 h.1 (λ x y. apply_builtin s (OfSequences seq.ElementAt) (values.pair x y))
        (λ x y hx hy. fine_on_sequence held s seq.ElementAt (values.pair x y) (outcome_of seq.ElementAt (values.pair x y)) (ground t) (keeps_index held (ground t) (values.pair x y) (hx, hy)))
    node_fine s (trees.choice a b c) t vs ts g h =
        fine_then (Of type.bool) (Of t) (f vs a) (λ x. branch (as_bool x) (f vs b) (f vs c)) (part_fine vs ts g a type.bool h.0)
        (λ x hx. branch_fine x t (f vs b) (f vs c) hx (part_fine vs ts g b t h.1) (part_fine vs ts g c t h.2))
    node_fine s (trees.sequence es) t vs ts g (u, h, e) =
        fine_then (Each (Of u)) (Of t) (all_parts f vs es) (λ us. small_enough s (values.sequence us)) (all_fine vs ts g es u h)
        (λ us j. at_type t (seq_of u) e (small_enough s (values.sequence us)) (fine_made held s (values.sequence us) (ground (seq_of u)) (in_sequence held us (ground u) j)))
    node_fine s (trees.empty a) t vs ts g (u, h, e) = at_type t (seq_of u) e (value (values.sequence []) 0 0) tt
    node_fine s (trees.range a b) t vs ts g h =
        two_fine vs ts g a b type.int type.int t h.0 h.1 (λ x y. apply_builtin s (OfSequences seq.Range) (values.pair x y))
        (λ x y hx hy. at_type t (seq_of type.int) h.2 (apply_builtin s (OfSequences seq.Range) (values.pair x y))
        (fine_on_sequence held s seq.Range (values.pair x y) (outcome_of seq.Range (values.pair x y)) (seq_of type.int) (keeps_range held (values.pair x y) (hx, hy))))
    node_fine s (trees.strided_range a b c) t vs ts g h =
        fine_then (Of type.int) (Of t) (f vs a) (λ x. two_parts f vs b c (λ y z. apply_builtin s (OfSequences seq.RangeBy) (values.pair x (values.pair y z)))) (part_fine vs ts g a type.int h.0)
        (λ x hx. two_fine vs ts g b c type.int type.int t h.1 h.2 (λ y z. apply_builtin s (OfSequences seq.RangeBy) (values.pair x (values.pair y z)))
        (λ y z hy hz. at_type t (seq_of type.int) h.3 (apply_builtin s (OfSequences seq.RangeBy) (values.pair x (values.pair y z)))
        (fine_on_sequence held s seq.RangeBy (values.pair x (values.pair y z)) (outcome_of seq.RangeBy (values.pair x (values.pair y z))) (seq_of type.int)
        (keeps_range_by held (values.pair x (values.pair y z)) (hx, (hy, hz))))))
    node_fine s (trees.let_in bs e) t vs ts g (ns, hb, he) = let_fine bs e t ns vs ts g hb he
    node_fine s (trees.each e bs) t vs ts g (is, ns, u, hs, hp, he, q) =
        at_type t (seq_of u) q (over_places f s bs vs (λ us ks. body_values f bs us vs e ks))
        (over_fine s bs is ns hp vs ts g hs (seq_of u) (λ us ks. body_values f bs us vs e ks) (λ us r ks l. bodies_fine bs is ns hp vs ts g us r e u he ks l))
    node_fine s (trees.filtered_each e bs c) t vs ts g (is, ns, u, hs, hp, he, hc, q) =
        at_type t (seq_of u) q (over_places f s bs vs (λ us ks. and_then (kept_places f bs us vs c ks) (body_values f bs us vs e)))
        (over_fine s bs is ns hp vs ts g hs (seq_of u) (λ us ks. and_then (kept_places f bs us vs c ks) (body_values f bs us vs e))
        (λ us r ks l. fine_then (Each (IsPlace us)) (Of (seq_of u)) (kept_places f bs us vs c ks) (body_values f bs us vs e)
        (filters_fine bs is ns hp vs ts g us r c hc ks l) (λ js i. bodies_fine bs is ns hp vs ts g us r e u he js i)))
    node_fine s trees.element t vs ts g h = local_fine s vs.element (newest_type is_element ts) t g.first_fits h

  -- each level keeps types
  pub levels_keep : (n : ℕ) → KeepTypes (out n env)
  unfolding out
  levels_keep zero of limit own known vs ts g e t h = tt
  levels_keep (suc n) of limit own known vs ts g (node s k) t h =
      fine_added (Of t) 1 1 (node_of (out n env) env vs (node s k)) (node_fine (out n env) (levels_keep n) of limit own known s k t vs ts g h.1)

pub types_kept : {P : Type 0} (context : List (List ℕ × Top × P)) → TypesAreKept context
types_kept {P} context held env bindings_hold of limit e t h n =
    levels_keep P context held env bindings_hold n of limit None tt (outside []) [] (nothing_fits held) e t h
