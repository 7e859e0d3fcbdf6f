-- What is at top level.
use Rattle.std.proofs.Common.{◌≡◌, ◌<◌, ℕ, zero, suc, Bool, true, false, refl, sym, ◌∙◌, ap, subst, arith, List, [], ◌∷◌, ◌++◌, append_assoc, append-nil, Option, Some, None}
use Rattle.std.specs.Prelude.{option_map, option_and_then, slice_get, set, is_some, unwrap_or, if◌then◌else◌}
use Rattle.std.specs.Str.{bytes_eq}
use Rattle.nesl_types.specs.declared.bindings.Top as kinds
use Rattle.nesl_types.specs.declared.bindings.Top.TheVariants as kind
use Rattle.nesl_types.specs.Names.{with_name, with_name_at}
use Rattle.nesl_syntax_tree.specs.Trees.{Tree, PatternTree}
use Rattle.nesl_syntax_tree.specs.Views as syntax
use Rattle.nesl_eval_code.specs.declared.code.Code.{Code}
use Rattle.nesl_eval_top_level.specs.declared.env.Payload.{Payload}
use Rattle.nesl_eval_top_level.specs.declared.env.Payload.TheVariants as payload
use Rattle.nesl_eval_meaning.specs.Names.{Name, Value, Locals, Environment, outside, with_names, bound}
use Rattle.nesl_eval_code.specs.Frames.{frame}
use Rattle.nesl_eval_meaning.specs.Out.{given}
use Rattle.nesl_eval_meaning.specs.Outcome.{out, in_bound}
use Rattle.nesl_eval_code.specs.Run.{Table, Slot, run, slot_at, nothing_slot}
use Rattle.nesl_eval_code.specs.Means.{Agrees, Means, Layer, bindings, bound_all, StandsFor, AllStand, IsTableOf, Begins, names_of, place_of}
use Rattle.nesl_eval_top_level.specs.Stored.{Entry, Codes, top_of, slot_of, environment, table, HasCode, AllHaveCode, AreStored, names_in, with_place, put}

pub means_more : (ns more : List Name) (ls : List Layer) (c : Code) (e : Tree) → Means ns ls c e → Means (ns ++ more) ls c e
means_more ns more ls c e h = λ n t env b at. h n t env (more ++ b.0, b.1 ∙ append_assoc ns more b.0) at

code_more : (ns more : List Name) (p : Payload) (c : Option Code) → HasCode ns p c → HasCode (ns ++ more) p c
code_more ns more (payload.Variable v) c h = tt
code_more ns more (payload.Function p e) (Some c) h =
    means_more ns more (bindings (syntax.pattern_tree p ∷ []) ∷ []) c (syntax.tree_of e) h
code_more ns more (payload.Function p e) None h = absurd h
code_more ns more payload.Datatype c h = tt

all_more : (ns more : List Name) (bs : List Entry) (cs : Codes) → AllHaveCode ns bs cs → AllHaveCode (ns ++ more) bs cs
all_more ns more [] [] h = tt
all_more ns more [] (c ∷ cs) h = absurd h
all_more ns more (b ∷ bs) [] h = absurd h
all_more ns more (b ∷ bs) (c ∷ cs) h = (code_more ns more b.2 c h.0, all_more ns more bs cs h.1)

pub table_names : (bs : List Entry) (cs : Codes) → names_of (table bs cs) ≡ names_in bs
table_names [] cs = refl
table_names (b ∷ bs) [] = ap (λ y. b.0 ∷ y) (table_names bs [])
table_names (b ∷ bs) (c ∷ cs) = ap (λ y. b.0 ∷ y) (table_names bs cs)

-- a body, where the table means the environment
body_agrees : (ns : List Name) (p : PatternTree) (c : Code) (e : Tree) → Means ns (bindings (p ∷ []) ∷ []) c e → (m : ℕ) (t : Table) (env : Environment) →
    Begins ns t → IsTableOf m env t → (v : Value) → Agrees (run m t (frame (v ∷ []) ∷ []) c) (in_bound (out m env) p v (outside []) e)
body_agrees ns p c e h m t env b at v = by (bound p v []) refl
  where
    by : (o : Option Locals) → bound p v [] ≡ o →
        Agrees (run m t (frame (v ∷ []) ∷ []) c) (given o (λ names. out m env (with_names (outside []) names) e))
    by None q = λ k. absurd (k refl)
    by (Some ms) q =
        h m t env b at (frame (v ∷ []) ∷ []) (with_names (outside []) ms)
        (v ∷ [], outside [], refl, refl, ap (λ o. option_map (with_names (outside [])) (option_and_then (bound_all [] []) o)) q)

slot_stands : (ns : List Name) (n : ℕ) (t : Table) (env : Environment) → Begins ns t → ((m : ℕ) → m < n → IsTableOf m env t) →
    (k : kinds.Top) (p : Payload) (c : Option Code) → HasCode ns p c → StandsFor n t env (slot_of k p c) (top_of k p)
slot_stands ns n t env b at k (payload.Variable v) c h = refl
slot_stands ns n t env b at k (payload.Function p e) (Some c) h =
    λ m l v. body_agrees ns (syntax.pattern_tree p) c (syntax.tree_of e) h m t env b (at m l) v
slot_stands ns n t env b at k (payload.Function p e) None h = absurd h
slot_stands ns n t env b at (kind.Variable a) payload.Datatype c h = tt
slot_stands ns n t env b at (kind.Function s) payload.Datatype c h = tt
slot_stands ns n t env b at (kind.Datatype tag held) payload.Datatype c h = refl

slots_stand : (ns : List Name) (n : ℕ) (t : Table) (env : Environment) → Begins ns t → ((m : ℕ) → m < n → IsTableOf m env t) →
    (bs : List Entry) (cs : Codes) → AllHaveCode ns bs cs → AllStand n t env (table bs cs) (environment bs)
slots_stand ns n t env b at [] [] h = tt
slots_stand ns n t env b at [] (c ∷ cs) h = absurd h
slots_stand ns n t env b at (e ∷ es) [] h = absurd h
slots_stand ns n t env b at (e ∷ es) (c ∷ cs) h = (refl, slot_stands ns n t env b at e.1 e.2 c h.0, slots_stand ns n t env b at es cs h.1)

module _ (bs : List Entry) (cs : Codes) (h : AreStored bs cs) where
  begins : Begins (names_in bs) (table bs cs)
  begins = ([], table_names bs cs ∙ sym (append-nil (names_in bs)))

  below : (n m : ℕ) → m < n → IsTableOf m (environment bs) (table bs cs)
  below zero m l = absurd (omega arith)
  below (suc n) m l =
      slots_stand (names_in bs) m (table bs cs) (environment bs) begins (λ j k. below n j (omega arith)) bs cs h

  -- with any number of levels the table is the environment's
  pub stands : (n : ℕ) → IsTableOf n (environment bs) (table bs cs)
  stands n = below (suc n) n (omega arith)

-- a name is set
module _ (x : Name) (k : kinds.Top) (p : Payload) where
  pub set_names : (bs : List Entry) → names_in (with_name x k p bs) ≡ with_place x (names_in bs)
  set_names [] = refl
  set_names (b ∷ bs) = by (bytes_eq x b.0) (set_names bs)
    where
      later : (o : Option ℕ) → (if is_some o then names_in bs else names_in bs ++ x ∷ []) ≡ names_in (with_name x k p bs) →
          b.0 ∷ names_in (with_name x k p bs) ≡ (if is_some (option_map suc o) then b.0 ∷ names_in bs else b.0 ∷ names_in bs ++ x ∷ [])
      later None e = ap (λ y. b.0 ∷ y) (sym e)
      later (Some i) e = ap (λ y. b.0 ∷ y) (sym e)

      by : (q : Bool) → names_in (with_name x k p bs) ≡ with_place x (names_in bs) →
          names_in (if q then (b.0, k, p) ∷ bs else b ∷ with_name x k p bs)
          ≡ (if is_some (if q then Some 0 else option_map suc (place_of (names_in bs) x)) then b.0 ∷ names_in bs else b.0 ∷ names_in bs ++ x ∷ [])
      by true e = refl
      by false e = later (place_of (names_in bs) x) (sym e)

  module _ (ns : List Name) (code : Option Code) (here : HasCode ns p code) where
    set_codes : (bs : List Entry) (cs : Codes) → AllHaveCode ns bs cs → AllHaveCode ns (with_name x k p bs) (put (place_of (names_in bs) x) code cs)
    set_codes [] [] h = (here, tt)
    set_codes [] (c ∷ cs) h = absurd h
    set_codes (b ∷ bs) [] h = absurd h
    set_codes (b ∷ bs) (c ∷ cs) h = by (bytes_eq x b.0) (place_of (names_in bs) x) (set_codes bs cs h.1)
      where
        by : (q : Bool) (o : Option ℕ) → AllHaveCode ns (with_name x k p bs) (put o code cs) →
            AllHaveCode ns (if q then (b.0, k, p) ∷ bs else b ∷ with_name x k p bs) (put (if q then Some 0 else option_map suc o) code (c ∷ cs))
        by true o i = (here, h.1)
        by false None i = (h.0, i)
        by false (Some j) i = (h.0, i)

more_of : (x : Name) (ns : List Name) → (more : List Name) × (with_place x ns ≡ ns ++ more)
more_of x ns = by (is_some (place_of ns x))
  where
    by : (q : Bool) → (more : List Name) × ((if q then ns else ns ++ x ∷ []) ≡ ns ++ more)
    by true = ([], sym (append-nil ns))
    by false = (x ∷ [], refl)

pub set_stored : (x : Name) (k : kinds.Top) (p : Payload) (place : Option ℕ) (code : Option Code) (bs : List Entry) (cs : Codes) → AreStored bs cs →
    place ≡ place_of (names_in bs) x → HasCode (with_place x (names_in bs)) p code → AreStored (with_name x k p bs) (put place code cs)
set_stored x k p place code bs cs h q here =
    let more = more_of x (names_in bs) in
    let E : Option ℕ → Type 0 = λ o. AreStored (with_name x k p bs) (put o code cs) in
    let F : List Name → Type 0 = λ ns. AllHaveCode ns (with_name x k p bs) (put (place_of (names_in bs) x) code cs) in
    let G : List Name → Type 0 = λ ns. AllHaveCode ns bs cs in
    subst E (sym q) (subst F (sym (set_names x k p bs))
    (set_codes x k p (with_place x (names_in bs)) code here bs cs (subst G (sym more.1) (all_more (names_in bs) more.0 bs cs h))))

-- what is at a place is set
names_kept : (i : ℕ) (k : kinds.Top) (p : Payload) (bs : List Entry) → names_in (with_name_at i k p bs) ≡ names_in bs
names_kept i k p [] = refl
names_kept zero k p (b ∷ bs) = refl
names_kept (suc i) k p (b ∷ bs) = ap (λ y. b.0 ∷ y) (names_kept i k p bs)

codes_kept : (ns : List Name) (i : ℕ) (k : kinds.Top) (p : Payload) (c : Option Code) (bs : List Entry) (cs : Codes) → HasCode ns p c → AllHaveCode ns bs cs →
    AllHaveCode ns (with_name_at i k p bs) (set cs i c)
codes_kept ns i k p c [] [] q h = tt
codes_kept ns i k p c [] (d ∷ cs) q h = absurd h
codes_kept ns i k p c (b ∷ bs) [] q h = absurd h
codes_kept ns zero k p c (b ∷ bs) (d ∷ cs) q h = (q, h.1)
codes_kept ns (suc i) k p c (b ∷ bs) (d ∷ cs) q h = (h.0, codes_kept ns i k p c bs cs q h.1)

pub stored_at : (i : ℕ) (k : kinds.Top) (p : Payload) (c : Option Code) (bs : List Entry) (cs : Codes) → ((ns : List Name) → HasCode ns p c) → AreStored bs cs →
    AreStored (with_name_at i k p bs) (set cs i c)
stored_at i k p c bs cs q h =
    let F : List Name → Type 0 = λ ns. AllHaveCode ns (with_name_at i k p bs) (set cs i c) in
    subst F (sym (names_kept i k p bs)) (codes_kept (names_in bs) i k p c bs cs (q (names_in bs)) h)

no_first : (o : Option ℕ) → Some 0 ≡ option_map suc o → ⊥
no_first None e = cc
no_first (Some j) e = cc

before : (o : Option ℕ) (i : ℕ) → Some (suc i) ≡ option_map suc o → Some i ≡ o
before None i e = absurd cc
before (Some j) i e = let same : i ≡ j = cc in ap Some same

-- at its own place a name is set
pub set_at : (x : Name) (k : kinds.Top) (p : Payload) (i : ℕ) (bs : List Entry) → Some i ≡ place_of (names_in bs) x → with_name_at i k p bs ≡ with_name x k p bs
set_at x k p i [] h = absurd cc
set_at x k p i (b ∷ bs) h = by (bytes_eq x b.0) i h (λ j e. set_at x k p j bs e)
  where
    by : (q : Bool) (j : ℕ) → Some j ≡ (if q then Some 0 else option_map suc (place_of (names_in bs) x)) →
        ((m : ℕ) → Some m ≡ place_of (names_in bs) x → with_name_at m k p bs ≡ with_name x k p bs) →
        with_name_at j k p (b ∷ bs) ≡ (if q then (b.0, k, p) ∷ bs else b ∷ with_name x k p bs)
    by true zero e f = refl
    by true (suc j) e f = absurd cc
    by false zero e f = absurd (no_first (place_of (names_in bs) x) e)
    by false (suc j) e f = ap (λ y. b ∷ y) (f j (before (place_of (names_in bs) x) j e))

-- what is at a place
abbrev pub between : Option Entry → Option (Option Code) → Slot
between b None = nothing_slot
between None (Some c) = nothing_slot
between (Some b) (Some c) = slot_of b.1 b.2 c

slot_else : (b : Option Entry) → between b None ≡ nothing_slot
slot_else None = refl
slot_else (Some b) = refl

slot_unless : (c : Option (Option Code)) → between None c ≡ nothing_slot
slot_unless None = refl
slot_unless (Some c) = refl

pub slot_between : (bs : List Entry) (cs : Codes) (i : ℕ) → between (slice_get bs i) (slice_get cs i) ≡ unwrap_or (slot_at (table bs cs) i) nothing_slot
slot_between [] cs i = slot_unless (slice_get cs i)
slot_between (b ∷ bs) [] zero = refl
slot_between (b ∷ bs) [] (suc i) = sym (slot_else (slice_get bs i)) ∙ slot_between bs [] i
slot_between (b ∷ bs) (c ∷ cs) zero = refl
slot_between (b ∷ bs) (c ∷ cs) (suc i) = slot_between bs cs i

pub slot_of_no_name : (bs : List Entry) (cs : Codes) (i : ℕ) → None ≡ slice_get bs i → nothing_slot ≡ unwrap_or (slot_at (table bs cs) i) nothing_slot
slot_of_no_name bs cs i e = sym (slot_unless (slice_get cs i)) ∙ ap (λ b. between b (slice_get cs i)) e ∙ slot_between bs cs i

pub slot_of_no_code : (bs : List Entry) (cs : Codes) (i : ℕ) → None ≡ slice_get cs i → nothing_slot ≡ unwrap_or (slot_at (table bs cs) i) nothing_slot
slot_of_no_code bs cs i e = sym (slot_else (slice_get bs i)) ∙ ap (λ c. between (slice_get bs i) c) e ∙ slot_between bs cs i

pub slot_there : (bs : List Entry) (cs : Codes) (i : ℕ) (b : Entry) (c : Option Code) (s : Slot) → Some b ≡ slice_get bs i → Some c ≡ slice_get cs i →
    s ≡ slot_of b.1 b.2 c → s ≡ unwrap_or (slot_at (table bs cs) i) nothing_slot
slot_there bs cs i b c s e f g = g ∙ ap (λ o. between o (Some c)) e ∙ ap (λ o. between (slice_get bs i) o) f ∙ slot_between bs cs i
