-- Local names and names of the top level.
use Rattle.std.proofs.Common.{◌≡◌, ℕ, ◌+◌, ◌<◌, ◌≤◌, refl, sym, ◌∙◌, ap, subst, Bool, true, false, List, [], ◌∷◌, ◌++◌, length, get_or, take, map, Option, Some, None, Result, Ok, Err, Global, arith}
use Rattle.std.specs.Prelude.{MatchResult, option_map, reverse, if◌then◌else◌}
use Rattle.std.specs.Str.{bytes_eq}
use Rattle.std.proofs.lemmas.List.{map-append, reverse-append, take_more, take_all}
use Rattle.nesl_types.specs.declared.bindings.Top as kinds
use Rattle.nesl_types.specs.declared.bindings.Top.TheVariants as kind
use Rattle.nesl_types.specs.Names.{found}
use Rattle.nesl_values.specs.View.{tree_of}
use Rattle.nesl_builtins.specs.Named.{look_up}
use Rattle.nesl_eval_meaning.specs.Names.{Name, Value, Locals, Top}
use Rattle.nesl_eval_meaning.specs.Outcome.{variable_in}
use Rattle.nesl_eval_top_level.specs.declared.env.Payload.{Payload}
use Rattle.nesl_eval_top_level.specs.declared.env.Payload.TheVariants as payload
use Rattle.nesl_eval_top_level.specs.Stored.{Entry, environment, top_of}
use Rattle.nesl_cost_eval.specs.declared.scope.Local.{Local}
use Rattle.nesl_cost_eval.specs.Scopes.{local_of, locals}
use Rattle.nesl_values.specs.declared.value.Value as code
use Rattle.nesl_eval_meaning.specs.Out as out
use Rattle.nesl_eval_nodes.specs.declared.meter.Meter.{Meter}
use Rattle.nesl_eval_nodes.specs.declared.meter.Stop.{Stop}
use Rattle.nesl_eval_nodes.specs.declared.meter.Stop.TheVariants.{Memory}
use Rattle.nesl_eval_nodes.specs.Meets.{Meets, Is}
use Rattle.nesl_cost_eval.proofs.Running.{IsOf}

pub locals_more : (ls : List Local) (l : Local) → locals (ls ++ l ∷ []) ≡ local_of l ∷ locals ls
locals_more ls l = ap reverse (map-append local_of ls (l ∷ [])) ∙ reverse-append (map local_of ls) (local_of l ∷ [])

pub locals_next : (ls : List Local) (i : ℕ) (l : Local) → i < length ls → l ≡ get_or ls i l → locals (take (i + 1) ls) ≡ local_of l ∷ locals (take i ls)
locals_next ls i l h e = ap locals (take_more ls i l h ∙ ap (λ y. take i ls ++ y ∷ []) (sym e)) ∙ locals_more (take i ls) l

pub locals_all : (ls : List Local) (i : ℕ) → length ls ≤ i → locals (take i ls) ≡ locals ls
locals_all ls i h = ap locals (take_all i ls h)

-- the name is this one, or another one
pub named_here : (x : Name) (ls : List Local) (i : ℕ) (l : Local) → i < length ls → l ≡ get_or ls i l → bytes_eq x l.name.now ≡ true →
    Some (tree_of l.value) ≡ look_up (locals (take (i + 1) ls)) x
named_here x ls i l h e q =
    sym (ap (λ (ns : Locals). look_up ns x) (locals_next ls i l h e)
    ∙ ap (λ (b : Bool). if b then Some (tree_of l.value) else look_up (locals (take i ls)) x) q)

pub named_before : (x : Name) (ls : List Local) (i : ℕ) (l : Local) (o : Option Value) → i < length ls → l ≡ get_or ls i l → bytes_eq x l.name.now ≡ false →
    o ≡ look_up (locals (take i ls)) x → o ≡ look_up (locals (take (i + 1) ls)) x
named_before x ls i l o h e q f =
    f ∙ sym (ap (λ (ns : Locals). look_up ns x) (locals_next ls i l h e)
    ∙ ap (λ (b : Bool). if b then Some (tree_of l.value) else look_up (locals (take i ls)) x) q)

-- what a name of the top level means
abbrev meaning : kinds.Top × Payload → Top
meaning b = top_of b.0 b.1

pub meaning_found : (bs : List Entry) (x : Name) → look_up (environment bs) x ≡ option_map meaning (found x bs)
meaning_found [] x = refl
meaning_found (b ∷ bs) x =
    elim (bytes_eq x b.0) as (λ v. (if v then Some (top_of b.1 b.2) else look_up (environment bs) x) ≡ option_map meaning (if v then Some (b.1, b.2) else found x bs))
    [ true ↦ refl | false ↦ meaning_found bs x ]

-- what is found is what the name means
pub found_meaning : (bs : List Entry) (x : Name) (t : kinds.Top) (p : Payload) → Some (t, p) ≡ found x bs → look_up (environment bs) x ≡ Some (top_of t p)
found_meaning bs x t p h = meaning_found bs x ∙ ap (option_map meaning) (sym h)

pub none_meaning : (bs : List Entry) (x : Name) → None ≡ found x bs → look_up (environment bs) x ≡ None
none_meaning bs x h = meaning_found bs x ∙ ap (option_map meaning) (sym h)

-- a value that is shared
pub shared_top : (r : Result (code.Value Global) Stop) (v : Value) (m : Meter) → MatchResult r (λ w. tree_of w ≡ v) (λ e. e ≡ Memory) → Meets Is m r m (out.value v 0 0)
shared_top (Ok w) v m h = (h, omega arith, omega arith)
shared_top (Err e) v m h = subst (λ (k : Stop). Meets (IsOf Global) m (Err k) m (out.value v 0 0)) (sym h) tt

-- a datatype is no variable
pub datatype_varies : (t : kinds.Top) → variable_in None (Some (top_of t payload.Datatype)) ≡ out.stuck
datatype_varies (kind.Variable a) = refl
datatype_varies (kind.Function a) = refl
datatype_varies (kind.Datatype k a) = refl
