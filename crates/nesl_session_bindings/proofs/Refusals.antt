-- Why definitions are refused, by what is found of their names.
use Rattle.std.proofs.Common.{◌≡◌, Bool, true, false, refl, sym, ap, subst, ◌∙◌, List, Option, Some, None}
use Rattle.std.specs.Prelude.{◌↔◌, IsTrue, ◌&&◌, option_map}
use Rattle.std.proofs.lemmas.Bool.{false_from_ne_true, and_parts, and_from}
use Rattle.nesl_types.specs.declared.bindings.Top as kinds
use Rattle.nesl_types.specs.declared.bindings.Top.TheVariants as kind
use Rattle.nesl_types.specs.Names.{found}
use Rattle.nesl_eval_top_level.specs.declared.env.Payload.{Payload}
use Rattle.nesl_eval_top_level.specs.declared.env.Payload.TheVariants as payload
use Rattle.nesl_eval_meaning.specs.Names.{Name}
use Rattle.nesl_eval_top_level.specs.Stored as stored
use Rattle.nesl_eval_top_level.specs.Stored.{Entry}
use Rattle.nesl_eval_sound.specs.Lines.{is_type}
use Rattle.nesl_eval_sound.specs.Refers.{is_referred}
use Rattle.nesl_eval_sound.specs.Referred.{is_named_elsewhere}
use Rattle.nesl_eval_sound.proofs.Referred.{same_elsewhere}
use Rattle.nesl_session_bindings.specs.Known.{meaning_in, environment}
use Rattle.nesl_session_bindings.specs.Meanings.{Meaning}
use Rattle.nesl_session_bindings.specs.Redefinition.{Definition, a_variable, a_function, a_datatype, ChangesType, IsRetyped, is_in_use}
use Rattle.nesl_session_bindings.specs.Stored.{PayloadFits, meaning_of, bindings_of, AllFit}
use Rattle.nesl_session_bindings.proofs.Entries.{meaning_found, found-fits, environment_is}
use Rattle.nesl_session_bindings.proofs.Free.{kept_type}

-- a name that is kept
same_kept : (u : kinds.Top) (p : Payload) → PayloadFits u p → is_type u ≡ false → (k : Definition) (b : Bool) → (IsTrue b ↔ (k ≡ a_datatype)) → b ≡ is_in_use (Some (meaning_of u p)) k
same_kept (kind.Variable t) (payload.Variable v) f d (a_variable u) b e = false_from_ne_true b (λ q. let r = e.0 q in cc)
same_kept (kind.Variable t) (payload.Variable v) f d (a_function g) b e = false_from_ne_true b (λ q. let r = e.0 q in cc)
same_kept (kind.Variable t) (payload.Variable v) f d a_datatype b e = e.1 refl
same_kept (kind.Function s) (payload.Function p x) f d (a_variable u) b e = false_from_ne_true b (λ q. let r = e.0 q in cc)
same_kept (kind.Function s) (payload.Function p x) f d (a_function g) b e = false_from_ne_true b (λ q. let r = e.0 q in cc)
same_kept (kind.Function s) (payload.Function p x) f d a_datatype b e = e.1 refl
same_kept (kind.Datatype tag t) p f d k b e = absurd cc
same_kept (kind.Variable t) (payload.Function p x) f d k b e = absurd f
same_kept (kind.Variable t) payload.Datatype f d k b e = absurd f
same_kept (kind.Function s) (payload.Variable v) f d k b e = absurd f
same_kept (kind.Function s) payload.Datatype f d k b e = absurd f

module _ (es : List Entry) (fit : AllFit es) (x : Name) (k : Definition) where
  meant : (o : Option (kinds.Top × Payload)) → o ≡ found x es → option_map (λ b. meaning_of b.0 b.1) o ≡ meaning_in (bindings_of es) x
  meant o e = ap (option_map (λ b. meaning_of b.0 b.1)) e ∙ sym (meaning_found x es)

  pub kept_none : None ≡ found x es → false ≡ is_in_use (meaning_in (bindings_of es) x) k
  kept_none e = ap (λ (o : Option Meaning). is_in_use o k) (meant None e)

  pub kept_other : (t : kinds.Top) (p : Payload) → Some (t, p) ≡ found x es → is_type t ≡ false → (b : Bool) → (IsTrue b ↔ (k ≡ a_datatype)) → b ≡ is_in_use (meaning_in (bindings_of es) x) k
  kept_other t p e d b h = same_kept t p (found-fits x es fit t p e) d k b h ∙ ap (λ (o : Option Meaning). is_in_use o k) (meant (Some (t, p)) e)

  pub kept_datatype : (t : kinds.Top) (p : Payload) → Some (t, p) ≡ found x es → is_type t ≡ true → true ≡ is_in_use (meaning_in (bindings_of es) x) k
  kept_datatype t p e d =
      sym (kept_type t p (found-fits x es fit t p e) d k) ∙ ap (λ (o : Option Meaning). is_in_use o k) (meant (Some (t, p)) e)

  pub not_retyped : None ≡ found x es → IsRetyped (bindings_of es) x k → ⊥
  not_retyped e h = subst (λ (o : Option Meaning). ChangesType o k) (sym (meant None e)) h.1

  pub retyped_when : (t : kinds.Top) (p : Payload) → Some (t, p) ≡ found x es → (other referred : Bool)
      → ((q : Payload) → PayloadFits t q → (IsTrue other ↔ ChangesType (Some (meaning_of t q)) k)) → referred ≡ is_referred x (stored.environment es)
      → IsTrue (other && referred) ↔ IsRetyped (bindings_of es) x k
  retyped_when t p e other referred h r =
      let same = meant (Some (t, p)) e in
      let fits = h p (found-fits x es fit t p e) in
      let seen : is_named_elsewhere x (environment (bindings_of es)) ≡ referred =
      same_elsewhere x (environment (bindings_of es)) ∙ ap (is_referred x) (environment_is es fit) ∙ sym r in (
        λ q. let parts = and_parts other referred q in (seen ∙ parts.1, subst (λ (o : Option Meaning). ChangesType o k) same (fits.0 parts.0)),
        λ q. and_from other referred (fits.1 (subst (λ (o : Option Meaning). ChangesType o k) (sym same) q.1)) (sym seen ∙ q.0),
      )

  pub retyped_then : (t : kinds.Top) (p : Payload) → Some (t, p) ≡ found x es → (other referred : Bool)
      → ((q : Payload) → PayloadFits t q → (IsTrue other ↔ ChangesType (Some (meaning_of t q)) k)) → referred ≡ is_referred x (stored.environment es)
      → other ≡ true → IsTrue referred ↔ IsRetyped (bindings_of es) x k
  retyped_then t p e other referred h r q =
      subst (λ (o : Bool). IsTrue (o && referred) ↔ IsRetyped (bindings_of es) x k) q (retyped_when t p e other referred h r)

  pub retyped_else : (t : kinds.Top) (p : Payload) → Some (t, p) ≡ found x es → (other : Bool)
      → ((q : Payload) → PayloadFits t q → (IsTrue other ↔ ChangesType (Some (meaning_of t q)) k))
      → other ≡ false → IsTrue other ↔ IsRetyped (bindings_of es) x k
  retyped_else t p e other h q =
      let referred = is_referred x (stored.environment es) in
      subst (λ (o : Bool). IsTrue o ↔ IsRetyped (bindings_of es) x k) (sym q)
      (subst (λ (o : Bool). IsTrue (o && referred) ↔ IsRetyped (bindings_of es) x k) q (retyped_when t p e other referred h refl))
