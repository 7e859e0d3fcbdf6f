-- Entries as bindings: what holds of the ones by the others.
use Rattle.std.proofs.Common.{◌≡◌, ℕ, Bool, true, false, refl, sym, ap, subst, List, [], ◌∷◌, map, Option, Some, None}
use Rattle.std.specs.Prelude.{is_some, option_map, option_and_then, ◌+◌, ◌==◌, if◌then◌else◌}
use Rattle.std.specs.Option.{option_map_or}
use Rattle.std.specs.List.{find}
use Rattle.std.specs.Str.{bytes_eq}
use Rattle.nesl_types.specs.declared.bindings.Top as kinds
use Rattle.nesl_types.specs.declared.bindings.Top.TheVariants as kind
use Rattle.nesl_types.specs.Names as types
use Rattle.nesl_types.specs.Names.{found, with_name}
use Rattle.nesl_infer_names.specs.Names.{names_in, names_from, top_in, as_variable, as_function, as_datatype}
use Rattle.nesl_eval_top_level.specs.declared.env.Payload.{Payload}
use Rattle.nesl_eval_top_level.specs.declared.env.Payload.TheVariants as payload
use Rattle.nesl_eval_meaning.specs.Names.{Name}
use Rattle.nesl_eval_top_level.specs.Stored as stored
use Rattle.nesl_eval_top_level.specs.Stored.{Entry}
use Rattle.nesl_reply.specs.Values as replies
use Rattle.nesl_eval_sound.specs.Lines as lines
use Rattle.nesl_session_bindings.specs.Meanings.{Meaning}
use Rattle.nesl_session_bindings.specs.Known.{meaning_in, type_of, referent_of, record_of, known, top_of, environment, datatypes_of, datatype_count, put_binding}
use Rattle.nesl_session_bindings.specs.Stored.{PayloadFits, meaning_of, binding_of, bindings_of, AllFit}

-- what an entry is
variable_is : (t : kinds.Top) (p : Payload) → PayloadFits t p → type_of (meaning_of t p) ≡ as_variable (Some t)
variable_is (kind.Variable t) (payload.Variable v) h = refl
variable_is (kind.Function s) (payload.Function p e) h = refl
variable_is (kind.Datatype tag t) payload.Datatype h = refl
variable_is _ _ h = absurd h

function_is : (t : kinds.Top) (p : Payload) → PayloadFits t p → referent_of (meaning_of t p) ≡ as_function (Some t)
function_is (kind.Variable t) (payload.Variable v) h = refl
function_is (kind.Function s) (payload.Function p e) h = refl
function_is (kind.Datatype tag t) payload.Datatype h = refl
function_is _ _ h = absurd h

record_is : (t : kinds.Top) (p : Payload) → PayloadFits t p → record_of (meaning_of t p) ≡ as_datatype (Some t)
record_is (kind.Variable t) (payload.Variable v) h = refl
record_is (kind.Function s) (payload.Function p e) h = refl
record_is (kind.Datatype tag t) payload.Datatype h = refl
record_is _ _ h = absurd h

top_is : (t : kinds.Top) (p : Payload) → PayloadFits t p → top_of (meaning_of t p) ≡ stored.top_of t p
top_is (kind.Variable t) (payload.Variable v) h = refl
top_is (kind.Function s) (payload.Function p e) h = refl
top_is (kind.Datatype tag t) payload.Datatype h = refl
top_is _ _ h = absurd h

abbrev has_tag : ℕ → Meaning → Bool
has_tag tag m = option_map_or (λ r. r.0 == tag) (record_of m) false

tag_is : (tag : ℕ) (t : kinds.Top) (p : Payload) → PayloadFits t p → has_tag tag (meaning_of t p) ≡ types.is_datatype tag t
tag_is tag (kind.Variable t) (payload.Variable v) h = refl
tag_is tag (kind.Function s) (payload.Function p e) h = refl
tag_is tag (kind.Datatype n t) payload.Datatype h = refl
tag_is tag _ _ h = absurd h

content_is : (e : Entry) → PayloadFits e.1 e.2 → option_map (λ r. r.1) (record_of (meaning_of e.1 e.2)) ≡ replies.held_by (Some e)
content_is (x, kind.Variable t, payload.Variable v) h = refl
content_is (x, kind.Function s, payload.Function p e) h = refl
content_is (x, kind.Datatype tag t, payload.Datatype) h = refl
content_is (x, _, _) h = absurd h

sort_is : (t : kinds.Top) (p : Payload) → PayloadFits t p → is_some (record_of (meaning_of t p)) ≡ lines.is_type t
sort_is (kind.Variable t) (payload.Variable v) h = refl
sort_is (kind.Function s) (payload.Function p e) h = refl
sort_is (kind.Datatype tag t) payload.Datatype h = refl
sort_is _ _ h = absurd h

-- what a name means, whether its entry fits or not
pub meaning_found : (x : Name) (es : List Entry) → meaning_in (bindings_of es) x ≡ option_map (λ b. meaning_of b.0 b.1) (found x es)
meaning_found x [] = refl
meaning_found x (e ∷ es) = by (bytes_eq x e.0) (meaning_found x es)
  where
    by : (q : Bool) → meaning_in (bindings_of es) x ≡ option_map (λ b. meaning_of b.0 b.1) (found x es) →
        (if q then Some (meaning_of e.1 e.2) else meaning_in (bindings_of es) x) ≡ option_map (λ b. meaning_of b.0 b.1) (if q then Some (e.1, e.2) else found x es)
    by true i = refl
    by false i = i

-- an entry that is found fits
pub found-fits : (x : Name) (es : List Entry) → AllFit es → (t : kinds.Top) (p : Payload) → Some (t, p) ≡ found x es → PayloadFits t p
found-fits x [] h t p q = absurd cc
found-fits x (e ∷ es) h t p q = by (bytes_eq x e.0) (found-fits x es h.1 t p) q
  where
    by : (r : Bool) → (Some (t, p) ≡ found x es → PayloadFits t p) → Some (t, p) ≡ (if r then Some (e.1, e.2) else found x es) → PayloadFits t p
    by true i q =
        let same : ◌≡◌ {A = kinds.Top × Payload} (e.1, e.2) (t, p) = cc in subst (λ (b : kinds.Top × Payload). PayloadFits b.0 b.1) same h.0
    by false i q = i q

-- look-ups
module _ {X : Type 0} (f : Meaning → Option X) (g : Option kinds.Top → Option X) (none : g None ≡ None)
    (one : (t : kinds.Top) (p : Payload) → PayloadFits t p → f (meaning_of t p) ≡ g (Some t)) where
  looked_up : (x : Name) (es : List Entry) → AllFit es → option_and_then f (meaning_in (bindings_of es) x) ≡ g (top_in es x)
  looked_up x [] h = sym none
  looked_up x (e ∷ es) h = by (bytes_eq x e.0) (looked_up x es h.1)
    where
      by : (q : Bool) → option_and_then f (meaning_in (bindings_of es) x) ≡ g (top_in es x) →
          option_and_then f (if q then Some (meaning_of e.1 e.2) else meaning_in (bindings_of es) x) ≡ g (option_map (λ b. b.0) (if q then Some (e.1, e.2) else found x es))
      by true i = one e.1 e.2 h.0
      by false i = i

-- what names refer to
pub known_is : (es : List Entry) → AllFit es → known (bindings_of es) ≡ names_in es
known_is es h = λ i.
    names_from (λ x. looked_up type_of as_variable refl variable_is x es h i) (λ x. looked_up referent_of as_function refl function_is x es h i)
    (λ x. looked_up record_of as_datatype refl record_is x es h i)

-- what names mean
pub environment_is : (es : List Entry) → AllFit es → environment (bindings_of es) ≡ stored.environment es
environment_is [] h = refl
environment_is (e ∷ es) h = λ i. (e.0, top_is e.1 e.2 h.0 i) ∷ environment_is es h.1 i

-- the datatypes
module _ (tag : ℕ) where
  name_is : (es : List Entry) → AllFit es → (datatypes_of (bindings_of es)).name tag ≡ (replies.datatypes es).name tag
  name_is [] h = refl
  name_is (e ∷ es) h =
      subst (λ (q : Bool). option_map_or (λ b. b.name) (if q then Some (binding_of e) else find (λ b. has_tag tag b.meaning) (bindings_of es)) [] ≡ (replies.datatypes (e ∷ es)).name tag)
      (sym (tag_is tag e.1 e.2 h.0)) (by (types.is_datatype tag e.1) (name_is es h.1))
    where
      by : (q : Bool) → (datatypes_of (bindings_of es)).name tag ≡ (replies.datatypes es).name tag →
          option_map_or (λ b. b.name) (if q then Some (binding_of e) else find (λ b. has_tag tag b.meaning) (bindings_of es)) []
          ≡ option_map_or (λ b. b.0) (if q then Some e else types.datatype_at es tag) []
      by true i = refl
      by false i = i

  held_is : (es : List Entry) → AllFit es → (datatypes_of (bindings_of es)).held tag ≡ (replies.datatypes es).held tag
  held_is [] h = refl
  held_is (e ∷ es) h =
      subst (λ (q : Bool). option_and_then (λ b. option_map (λ r. r.1) (record_of b.meaning)) (if q then Some (binding_of e) else find (λ b. has_tag tag b.meaning) (bindings_of es)) ≡ (replies.datatypes (e ∷ es)).held tag)
      (sym (tag_is tag e.1 e.2 h.0)) (by (types.is_datatype tag e.1) (held_is es h.1))
    where
      by : (q : Bool) → (datatypes_of (bindings_of es)).held tag ≡ (replies.datatypes es).held tag →
          option_and_then (λ b. option_map (λ r. r.1) (record_of b.meaning)) (if q then Some (binding_of e) else find (λ b. has_tag tag b.meaning) (bindings_of es))
          ≡ replies.held_by (if q then Some e else types.datatype_at es tag)
      by true i = content_is e h.0
      by false i = i

pub datatypes_are : (es : List Entry) → AllFit es → datatypes_of (bindings_of es) ≡ replies.datatypes es
datatypes_are es h = λ i. record { name = λ tag. name_is tag es h i; held = λ tag. held_is tag es h i }

-- the names in order
pub names_are : (es : List Entry) → map (λ b. b.name) (bindings_of es) ≡ map (λ b. b.0) es
names_are [] = refl
names_are (e ∷ es) = ap (λ xs. e.0 ∷ xs) (names_are es)

-- how many datatypes there are
pub count_is : (es : List Entry) → AllFit es → datatype_count (bindings_of es) ≡ lines.datatypes es
count_is [] h = refl
count_is (e ∷ es) h = λ i. if sort_is e.1 e.2 h.0 i then 1 + count_is es h.1 i else count_is es h.1 i

-- a name is put where it is set
module _ (x : Name) (t : kinds.Top) (p : Payload) where
  pub put_is : (es : List Entry) → bindings_of (with_name x t p es) ≡ put_binding x (meaning_of t p) (bindings_of es)
  put_is [] = refl
  put_is (e ∷ es) = by (bytes_eq x e.0) (put_is es)
    where
      by : (q : Bool) → bindings_of (with_name x t p es) ≡ put_binding x (meaning_of t p) (bindings_of es) →
          bindings_of (if q then (e.0, t, p) ∷ es else e ∷ with_name x t p es)
          ≡ (if q then record { name = e.0; meaning = meaning_of t p } ∷ bindings_of es else binding_of e ∷ put_binding x (meaning_of t p) (bindings_of es))
      by true i = refl
      by false i = ap (λ bs. binding_of e ∷ bs) i

  pub fit_after : PayloadFits t p → (es : List Entry) → AllFit es → AllFit (with_name x t p es)
  fit_after f [] h = (f, tt)
  fit_after f (e ∷ es) h = by (bytes_eq x e.0) (fit_after f es h.1)
    where
      by : (q : Bool) → AllFit (with_name x t p es) → AllFit (if q then (e.0, t, p) ∷ es else e ∷ with_name x t p es)
      by true i = (f, h.1)
      by false i = (h.0, i)
