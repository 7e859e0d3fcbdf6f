-- Lines keep the bindings sound.
use Rattle.std.proofs.Common.{◌≡◌, ◌≤◌, ◌+◌, inl, inr, ℕ, suc, Bool, true, false, cond, List, [], ◌∷◌, ◌++◌, Option, Some, None, option_map, option_and_then, refl, ap, subst, sym, ◌∙◌, eq-eqb, eqb-true, arith}
use Rattle.std.specs.Prelude.{◌==◌, ◌&&◌, ◌||◌, not}
use Rattle.std.specs.Str.{bytes_eq}
use Rattle.std.proofs.lemmas.Slice.Eq.{bytes_eq-Decides}
use Rattle.nesl_types.specs.declared.bindings.Top.{Top}
use Rattle.nesl_types.specs.declared.bindings.Top.TheVariants as top
use Rattle.nesl_types.specs.Names.{found, with_name, is_datatype, datatype_at}
use Rattle.nesl_types_shared.specs.Term.{Term}
use Rattle.nesl_types_shared.specs.Term as type
use Rattle.nesl_syntax_tree.specs.Trees.{PatternTree, Tree}
use Rattle.nesl_infer_names.specs.Names.{top_in, as_datatype}
use Rattle.nesl_eval_meaning.specs.Names.{Name, Environment, variable_of, function_of, datatype_of}
use Rattle.nesl_builtins.specs.Named.{look_up}
use Rattle.nesl_eval_meaning.specs.Names as evaluated
use Rattle.nesl_eval_sound.specs.HasType.{HasType}
use Rattle.nesl_eval_sound.specs.Sound.{IsFine, ground}
use Rattle.nesl_eval_sound.specs.Lines.{IsUnchanged, held_by, is_type, held_in, datatypes, values_of, IsSound, IsRedefinable, VariablesStaySound, FunctionsStaySound, DatatypesStaySound, NothingIsSound}
use Rattle.nesl_eval_sound.specs.Refers.{body_refers, top_refers, is_referred}
use Rattle.nesl_eval_sound.proofs.Ground.{substitute-ground}
use Rattle.nesl_eval_sound.proofs.Kept.{Redefines, Binds, stay_well_typed, grows}
use Rattle.nesl_eval_sound.proofs.Nodes.{types_kept}

same_name : (x : Name) → bytes_eq x x ≡ true
same_name x = (bytes_eq-Decides x x).1 refl

module _ {P : Type 0} where
  pub found-with_name : (x : Name) (t : Top) (v : P) (bs : List (List ℕ × Top × P)) → found x (with_name x t v bs) ≡ Some (t, v)
  found-with_name x t v [] = ap (λ c. cond c (Some (t, v)) None) (same_name x)
  found-with_name x t v (b ∷ bs) = either (bytes_eq x b.0) refl (found-with_name x t v bs)
    where
      either : (c : Bool) → bytes_eq x b.0 ≡ c → found x (with_name x t v bs) ≡ Some (t, v) → found x (cond c ((b.0, t, v) ∷ bs) (b ∷ with_name x t v bs)) ≡ Some (t, v)
      either true e h = ap (λ c. cond c (Some (t, v)) (found x bs)) e
      either false e h = ap (λ c. cond c (Some (b.1, b.2)) (found x (with_name x t v bs))) e ∙ h

  pub found-other : (x y : Name) (t : Top) (v : P) (bs : List (List ℕ × Top × P)) → bytes_eq y x ≡ false → found y (with_name x t v bs) ≡ found y bs
  found-other x y t v [] n = ap (λ c. cond c (Some (t, v)) None) n
  found-other x y t v (b ∷ bs) n = either (bytes_eq x b.0) refl (found-other x y t v bs n)
    where
      either : (c : Bool) → bytes_eq x b.0 ≡ c → found y (with_name x t v bs) ≡ found y bs → found y (cond c ((b.0, t, v) ∷ bs) (b ∷ with_name x t v bs)) ≡ found y (b ∷ bs)
      either true e h =
          let q : bytes_eq y b.0 ≡ false = subst (λ z. bytes_eq y z ≡ false) ((bytes_eq-Decides x b.0).0 e) n in
          ap (λ c. cond c (Some (t, v)) (found y bs)) q ∙ sym (ap (λ c. cond c (Some (b.1, b.2)) (found y bs)) q)
      either false e h = ap (cond (bytes_eq y b.0) (Some (b.1, b.2))) h

-- a function of another name that refers to the name is among them
is_referred_by : (x : Name) (env : Environment) (y : Name) (p : PatternTree) (e : Tree) → bytes_eq y x ≡ false → look_up env y ≡ Some (function_of p e) → body_refers x p e ≡ true → is_referred x env ≡ true
is_referred_by x [] y p e n h r = cc
is_referred_by x (b ∷ env) y p e n h r = either (bytes_eq y b.0) refl h (is_referred_by x env y p e n)
  where
    first_true : (a b c : Bool) → a ≡ false → b ≡ true → ((not a && b) || c) ≡ true
    first_true true b c d h = cc
    first_true false true c d h = refl
    first_true false false c d h = cc

    last_true : (a c : Bool) → c ≡ true → (a || c) ≡ true
    last_true true c h = refl
    last_true false c h = h

    either : (c : Bool) → bytes_eq y b.0 ≡ c → cond c (Some b.1) (look_up env y) ≡ Some (function_of p e) → (look_up env y ≡ Some (function_of p e) → body_refers x p e ≡ true → is_referred x env ≡ true)
        → ((not (bytes_eq b.0 x) && top_refers x b.1) || is_referred x env) ≡ true
    either true d k j =
        let q : b.1 ≡ function_of p e = cc in
        let other : bytes_eq b.0 x ≡ false = subst (λ z. bytes_eq z x ≡ false) ((bytes_eq-Decides y b.0).0 d) n in
        let here : top_refers x b.1 ≡ true = subst (λ o. top_refers x o ≡ true) (sym q) r in
        first_true (bytes_eq b.0 x) (top_refers x b.1) (is_referred x env) other here
    either false d k j = last_true (not (bytes_eq b.0 x) && top_refers x b.1) (is_referred x env) (j k r)

-- what there is first, or else the second
abbrev or_else : {X : Type 0} → Option X → Option X → Option X
or_else (Some x) o = Some x
or_else None o = o

-- what is no datatype
plain : (n : ℕ) (t : Top) → is_type t ≡ false → is_datatype n t ≡ false
plain n (top.Variable t) e = refl
plain n (top.Function s) e = refl
plain n (top.Datatype tag t) e = cc

module _ {P : Type 0} where
  abbrev pub IsNoDatatype : Name → List (List ℕ × Top × P) → Type 0
  IsNoDatatype x bs = (tag : ℕ) (u : Term) → top_in bs x ≡ Some (top.Datatype tag u) → ⊥

  first_plain : (x k : Name) (o : Top) (w : P) (bs : List (List ℕ × Top × P)) → IsNoDatatype x ((k, o, w) ∷ bs) → bytes_eq x k ≡ true → is_type o ≡ false
  first_plain x k (top.Datatype tag t) w bs free e = absurd (free tag t (ap (λ c. option_map (λ b. b.0) (cond c (Some (top.Datatype tag t, w)) (found x bs))) e))
  first_plain x k (top.Variable t) w bs free e = refl
  first_plain x k (top.Function s) w bs free e = refl

  rest_free : (x k : Name) (o : Top) (w : P) (bs : List (List ℕ × Top × P)) → IsNoDatatype x ((k, o, w) ∷ bs) → bytes_eq x k ≡ false → IsNoDatatype x bs
  rest_free x k o w bs free e tag u h = free tag u (ap (λ c. option_map (λ b. b.0) (cond c (Some (o, w)) (found x bs))) e ∙ h)

  -- a name that is no datatype before and after changes none
  same_datatypes : (x : Name) (t : Top) (q : P) (bs : List (List ℕ × Top × P)) → is_type t ≡ false → IsNoDatatype x bs → (n : ℕ) → datatype_at (with_name x t q bs) n ≡ datatype_at bs n
  same_datatypes x t q [] p free n = ap (λ c. cond c (Some (x, t, q)) None) (plain n t p)
  same_datatypes x t q ((k, o, w) ∷ bs) p free n = either (bytes_eq x k) refl (λ e. same_datatypes x t q bs p (rest_free x k o w bs free e) n)
    where
      either : (c : Bool) → bytes_eq x k ≡ c → (bytes_eq x k ≡ false → datatype_at (with_name x t q bs) n ≡ datatype_at bs n)
          → datatype_at (cond c ((k, t, q) ∷ bs) ((k, o, w) ∷ with_name x t q bs)) n ≡ datatype_at ((k, o, w) ∷ bs) n
      either true e j =
          ap (λ c. cond c (Some (k, t, q)) (datatype_at bs n)) (plain n t p) ∙ sym (ap (λ c. cond c (Some (k, o, w)) (datatype_at bs n)) (plain n o (first_plain x k o w bs free e)))
      either false e j = ap (cond (is_datatype n o) (Some (k, o, w))) (j e)

  same_number : (x : Name) (t : Top) (q : P) (bs : List (List ℕ × Top × P)) → is_type t ≡ false → IsNoDatatype x bs → datatypes (with_name x t q bs) ≡ datatypes bs
  same_number x t q [] p free = ap (λ c. cond c 1 0) p
  same_number x t q ((k, o, w) ∷ bs) p free = either (bytes_eq x k) refl (λ e. same_number x t q bs p (rest_free x k o w bs free e))
    where
      either : (c : Bool) → bytes_eq x k ≡ c → (bytes_eq x k ≡ false → datatypes (with_name x t q bs) ≡ datatypes bs)
          → datatypes (cond c ((k, t, q) ∷ bs) ((k, o, w) ∷ with_name x t q bs)) ≡ datatypes ((k, o, w) ∷ bs)
      either true e j = ap (λ c. cond c (1 + datatypes bs) (datatypes bs)) (p ∙ sym (first_plain x k o w bs free e))
      either false e j = ap (λ n. cond (is_type o) (1 + n) n) (j e)

  -- a new name goes last
  new_last : (x : Name) (t : Top) (q : P) (bs : List (List ℕ × Top × P)) → found x bs ≡ None → with_name x t q bs ≡ bs ++ (x, t, q) ∷ []
  new_last x t q [] e = refl
  new_last x t q ((k, o, w) ∷ bs) e = either (bytes_eq x k) e (new_last x t q bs)
    where
      either : (c : Bool) → cond c (Some (o, w)) (found x bs) ≡ None → (found x bs ≡ None → with_name x t q bs ≡ bs ++ (x, t, q) ∷ [])
          → cond c ((k, t, q) ∷ bs) ((k, o, w) ∷ with_name x t q bs) ≡ ((k, o, w) ∷ bs) ++ (x, t, q) ∷ []
      either true e j = cc
      either false e j = ap (λ l. (k, o, w) ∷ l) (j e)

  datatype_at-append : (bs cs : List (List ℕ × Top × P)) (n : ℕ) → datatype_at (bs ++ cs) n ≡ or_else (datatype_at bs n) (datatype_at cs n)
  datatype_at-append [] cs n = refl
  datatype_at-append (b ∷ bs) cs n = either (is_datatype n b.1) (datatype_at-append bs cs n)
    where
      either : (c : Bool) → datatype_at (bs ++ cs) n ≡ or_else (datatype_at bs n) (datatype_at cs n)
          → cond c (Some b) (datatype_at (bs ++ cs) n) ≡ or_else (cond c (Some b) (datatype_at bs n)) (datatype_at cs n)
      either true e = refl
      either false e = e

  more_datatypes : (x : Name) (n : ℕ) (t : Term) (q : P) (bs : List (List ℕ × Top × P)) → datatypes (bs ++ (x, top.Datatype n t, q) ∷ []) ≡ suc (datatypes bs)
  more_datatypes x n t q [] = refl
  more_datatypes x n t q (b ∷ bs) = either (is_type b.1) (more_datatypes x n t q bs)
    where
      either : (c : Bool) → datatypes (bs ++ (x, top.Datatype n t, q) ∷ []) ≡ suc (datatypes bs) →
          cond c (1 + datatypes (bs ++ (x, top.Datatype n t, q) ∷ [])) (datatypes (bs ++ (x, top.Datatype n t, q) ∷ [])) ≡ suc (cond c (1 + datatypes bs) (datatypes bs))
      either true e = omega (arith, e)
      either false e = e

  held_first : (bs cs : List (List ℕ × Top × P)) (n : ℕ) (u : Term) (o : Option (List ℕ × Top × P)) → datatype_at bs n ≡ o → option_and_then (λ b. held_by b.1) o ≡ Some u → held_in (bs ++ cs) n ≡ Some u
  held_first bs cs n u None e h = cc
  held_first bs cs n u (Some b) e h = ap (option_and_then (λ b. held_by b.1)) (datatype_at-append bs cs n ∙ ap (λ o. or_else o (datatype_at cs n)) e) ∙ h

  not_there : (m n : ℕ) (b : List ℕ × Top × P) → suc m ≤ n → cond (m == n) (Some b) None ≡ None
  not_there m n b l = either (m == n) refl
    where
      either : (c : Bool) → (m == n) ≡ c → cond c (Some b) None ≡ None
      either true e = let q : m ≡ n = eqb-true m n e in absurd (omega (arith, q))
      either false e = refl

module _ {P : Type 0} (seen : Top → P → evaluated.Top) where
  pub named-values : (x : Name) (bs : List (List ℕ × Top × P)) → look_up (values_of seen bs) x ≡ option_map (λ b. seen b.0 b.1) (found x bs)
  named-values x [] = refl
  named-values x (b ∷ bs) = either (bytes_eq x b.0) (named-values x bs)
    where
      either : (c : Bool) → look_up (values_of seen bs) x ≡ option_map (λ b. seen b.0 b.1) (found x bs)
          → cond c (Some (seen b.1 b.2)) (look_up (values_of seen bs) x) ≡ option_map (λ b. seen b.0 b.1) (cond c (Some (b.1, b.2)) (found x bs))
      either true h = refl
      either false h = h

  -- what the new datatype holds
  held_last : (bs : List (List ℕ × Top × P)) (x : Name) (t : Term) (q : P) → IsSound seen bs → held_in (bs ++ (x, top.Datatype (datatypes bs) t, q) ∷ []) (datatypes bs) ≡ Some t
  held_last bs x t q sound =
      let here : (datatypes bs == datatypes bs) ≡ true = eq-eqb (datatypes bs) (datatypes bs) refl in
      ap (option_and_then (λ b. held_by b.1)) (datatype_at-append bs ((x, top.Datatype (datatypes bs) t, q) ∷ []) (datatypes bs)
      ∙ ap (λ o. or_else o (datatype_at ((x, top.Datatype (datatypes bs) t, q) ∷ []) (datatypes bs))) (sound.numbered (datatypes bs) (omega arith))
      ∙ ap (λ c. cond c (Some (x, top.Datatype (datatypes bs) t, q)) None) here)

  -- and greater tags are none
  beyond : (bs : List (List ℕ × Top × P)) (x : Name) (t : Term) (q : P) → IsSound seen bs → (tag : ℕ) → suc (datatypes bs) ≤ tag → datatype_at (bs ++ (x, top.Datatype (datatypes bs) t, q) ∷ []) tag ≡ None
  beyond bs x t q sound tag l =
      datatype_at-append bs ((x, top.Datatype (datatypes bs) t, q) ∷ []) tag
      ∙ ap (λ o. or_else o (datatype_at ((x, top.Datatype (datatypes bs) t, q) ∷ []) tag)) (sound.numbered tag (omega (arith, l)))
      ∙ not_there (datatypes bs) tag (x, top.Datatype (datatypes bs) t, q) l

  -- a new name is redefinable
  new_free : (bs : List (List ℕ × Top × P)) (x : Name) (t : Top) → found x bs ≡ None → IsRedefinable seen bs x t
  new_free bs x t e = record {
    no_datatype = λ n u h. let d = ap (option_map (λ b. b.0)) e in cc;
    no_retype = λ r. subst (λ o. IsUnchanged (option_map (λ b. b.0) o) (Some t)) (sym e) tt;
  }

  module _ (bs : List (List ℕ × Top × P)) (x : Name) (t : Top) (q : P) (can : IsRedefinable seen bs x t) where
    top_new : top_in (with_name x t q bs) x ≡ Some t
    top_new = ap (option_map (λ b. b.0)) (found-with_name x t q bs)

    value_new : (v : evaluated.Top) → seen t q ≡ v → look_up (values_of seen (with_name x t q bs)) x ≡ Some v
    value_new v e = named-values x (with_name x t q bs) ∙ ap (option_map (λ b. seen b.0 b.1)) (found-with_name x t q bs) ∙ ap Some e

    no_tag : (o : Option Top) → top_in bs x ≡ o → as_datatype o ≡ None
    no_tag (Some (top.Variable u)) e = refl
    no_tag (Some (top.Function u)) e = refl
    no_tag (Some (top.Datatype n u)) e = absurd (can.no_datatype n u e)
    no_tag None e = refl

    redefined : Redefines bs (with_name x t q bs) x (values_of seen bs) (values_of seen (with_name x t q bs))
    redefined = record {
      tops = λ y n. ap (option_map (λ b. b.0)) (found-other x y t q bs n);
      values = λ y n. named-values y (with_name x t q bs) ∙ ap (option_map (λ b. seen b.0 b.1)) (found-other x y t q bs n) ∙ sym (named-values y bs);
      no_datatype = no_tag (top_in bs x) refl;
      no_retype = λ y p e n z r. subst (IsUnchanged (top_in bs x)) (sym top_new) (can.no_retype (is_referred_by x (values_of seen bs) y p e n z r));
    }

    pub one_line : ((n : ℕ) (u : Term) → held_in bs n ≡ Some u → held_in (with_name x t q bs) n ≡ Some u) → IsSound seen bs
        → Binds bs (with_name x t q bs) (held_in (with_name x t q bs)) (values_of seen (with_name x t q bs)) x
        → ((tag : ℕ) → datatypes (with_name x t q bs) ≤ tag → datatype_at (with_name x t q bs) tag ≡ None) → IsSound seen (with_name x t q bs)
    one_line more sound h numbered = record {
      typed = stay_well_typed bs (with_name x t q bs) (held_in bs) (held_in (with_name x t q bs)) (values_of seen bs) (values_of seen (with_name x t q bs)) x more redefined h sound.typed;
      numbered = numbered;
    }

    -- of what is no datatype
    plain_line : is_type t ≡ false → IsSound seen bs → Binds bs (with_name x t q bs) (held_in (with_name x t q bs)) (values_of seen (with_name x t q bs)) x → IsSound seen (with_name x t q bs)
    plain_line p sound h =
        one_line (λ n u e. ap (option_and_then (λ b. held_by b.1)) (same_datatypes x t q bs p can.no_datatype n) ∙ e) sound h
        (λ tag l. same_datatypes x t q bs p can.no_datatype tag ∙ sound.numbered tag (subst (λ n. n ≤ tag) (same_number x t q bs p can.no_datatype) l))

  pub functions_stay : FunctionsStaySound seen
  functions_stay bs sound x s p e limit h can q z =
      plain_line bs x (top.Function s) q can refl sound
      (inr (inl (s, p, e, record { typed = top_new bs x (top.Function s) q can; bound = value_new bs x (top.Function s) q can (function_of p e) z; limit = limit; has_types = h })))

  pub variables_stay : VariablesStaySound seen
  variables_stay bs sound x t e of limit h closed can n w d v k q z =
      plain_line bs x (top.Variable t) q can refl sound
      (inl (
        t,
        v,
        record {
          typed = top_new bs x (top.Variable t) q can;
          bound = value_new bs x (top.Variable t) q can (variable_of v) z;
          has_type = grows (held_in bs) (held_in (with_name x (top.Variable t) q bs))
              (λ m u j. ap (option_and_then (λ b. held_by b.1)) (same_datatypes x (top.Variable t) q bs refl can.no_datatype m) ∙ j) v t
              (subst (HasType (held_in bs) v) (substitute-ground (λ x. type.int) t closed)
              (subst (IsFine (λ v. HasType (held_in bs) v (ground t))) k (types_kept bs (held_in bs) (values_of seen bs) sound.typed of limit e t h n)));
          ground = closed;
        },
      ))

  pub datatypes_stay : DatatypesStaySound seen
  datatypes_stay bs sound x t closed e q z =
      let new : Top = top.Datatype (datatypes bs) t in
      let can = new_free bs x new e in
      let last : with_name x new q bs ≡ bs ++ (x, new, q) ∷ [] = new_last x new q bs e in
      one_line bs x new q can
      (λ n u h. subst (λ l. held_in l n ≡ Some u) (sym last) (held_first bs ((x, new, q) ∷ []) n u (datatype_at bs n) refl h)) sound
      (inr (inr (
        datatypes bs,
        t,
        record {
          typed = top_new bs x new q can;
          bound = value_new bs x new q can (datatype_of (datatypes bs)) z;
          holds = subst (λ l. held_in l (datatypes bs) ≡ Some t) (sym last) (held_last bs x t q sound);
          ground = closed;
        },
      )))
      (λ tag l. subst (λ m. datatype_at m tag ≡ None) (sym last)
      (beyond bs x t q sound tag (subst (λ n. n ≤ tag) (more_datatypes x (datatypes bs) t q bs) (subst (λ m. datatypes m ≤ tag) last l))))

  pub nothing_sound : NothingIsSound seen
  nothing_sound = record {
    typed = λ x. record { variables = λ t e. cc; functions = λ s e. cc; datatypes = λ n t e. cc };
    numbered = λ tag l. refl;
  }
