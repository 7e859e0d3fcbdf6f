-- What is at the places of a table, and what names mean.
use Rattle.std.proofs.Common.{◌≡◌, ℕ, suc, refl, ◌∙◌, ap, subst, arith, List, [], ◌∷◌, ◌++◌, Option, Some, None, Bool, true, false}
use Rattle.std.specs.Prelude.{option_map, if◌then◌else◌}
use Rattle.std.specs.Str.{bytes_eq}
use Rattle.nesl_lex.specs.declared.token.Span.{Span}
use Rattle.nesl_eval_meaning.specs.Names.{Name, Value, Environment, Top, variable_of, function_of, datatype_of, nothing}
use Rattle.nesl_builtins.specs.Named.{look_up}
use Rattle.nesl_eval_meaning.specs.Out.{stuck}
use Rattle.nesl_eval_meaning.specs.Outcome.{variable_in, call_name, out}
use Rattle.nesl_eval_code.specs.Run.{Table, Slot, variable_slot, function_slot, datatype_slot, nothing_slot, slot_at, run_top, run_called, run}
use Rattle.nesl_eval_code.specs.Means.{Agrees, StandsFor, AllStand, IsTableOf, names_of, place_of, Begins}
use Rattle.nesl_eval_code.proofs.Agreement.{same, agrees_call}

-- of what may not be there
abbrev pub Stands : ℕ → Table → Environment → Option Slot → Option Top → Type 0
Stands n t env (Some s) (Some b) = StandsFor n t env s b
Stands n t env None None = Unit {0}
Stands n t env _ _ = ⊥

pub fewer_for : (n : ℕ) (t : Table) (env : Environment) (s : Slot) (b : Top) → StandsFor (suc n) t env s b → StandsFor n t env s b
fewer_for n t env (variable_slot v) (variable_of w) h = h
fewer_for n t env (variable_slot v) (function_of p e) h = absurd h
fewer_for n t env (variable_slot v) (datatype_of k) h = absurd h
fewer_for n t env (variable_slot v) nothing h = absurd h
fewer_for n t env (function_slot c) (variable_of w) h = absurd h
fewer_for n t env (function_slot c) (function_of p e) h = λ m l v. h m (omega arith) v
fewer_for n t env (function_slot c) (datatype_of k) h = absurd h
fewer_for n t env (function_slot c) nothing h = absurd h
fewer_for n t env (datatype_slot j) (variable_of w) h = absurd h
fewer_for n t env (datatype_slot j) (function_of p e) h = absurd h
fewer_for n t env (datatype_slot j) (datatype_of k) h = h
fewer_for n t env (datatype_slot j) nothing h = absurd h
fewer_for n t env nothing_slot (variable_of w) h = absurd h
fewer_for n t env nothing_slot (function_of p e) h = absurd h
fewer_for n t env nothing_slot (datatype_of k) h = absurd h
fewer_for n t env nothing_slot nothing h = tt

fewer_all : (n : ℕ) (t : Table) (env : Environment) (ss : Table) (bs : Environment) → AllStand (suc n) t env ss bs → AllStand n t env ss bs
fewer_all n t env [] [] h = tt
fewer_all n t env [] (b ∷ bs) h = absurd h
fewer_all n t env (s ∷ ss) [] h = absurd h
fewer_all n t env (s ∷ ss) (b ∷ bs) h = (h.0, fewer_for n t env s.1 b.1 h.1, fewer_all n t env ss bs h.2)

-- a table for a number of levels is one for a level less
pub fewer : (n : ℕ) (env : Environment) (t : Table) → IsTableOf (suc n) env t → IsTableOf n env t
fewer n env t h = fewer_all n t env t env h

module _ (n : ℕ) (t : Table) (env : Environment) (s : Name × Slot) (b : Name × Top) (ss : Table) (bs : Environment) (x : Name)
    (here : StandsFor n t env s.1 b.1) where
  by_name : (q : Bool) → Stands n t env (look_up ss x) (look_up bs x) →
      Stands n t env (if q then Some s.1 else look_up ss x) (if q then Some b.1 else look_up bs x)
  by_name true h = here
  by_name false h = h

  module _ (ih : (k : ℕ) → place_of (names_of ss) x ≡ Some k → Stands n t env (slot_at ss k) (look_up bs x)) where
    next_place : (o : Option ℕ) → place_of (names_of ss) x ≡ o → (k : ℕ) → option_map suc o ≡ Some k →
        Stands n t env (slot_at (s ∷ ss) k) (look_up bs x)
    next_place None e k h = absurd cc
    next_place (Some j) e k h =
        let i : suc j ≡ k = cc in
        let F : ℕ → Type 0 = λ m. Stands n t env (slot_at (s ∷ ss) m) (look_up bs x) in subst F i (ih j e)

    by_place : (q : Bool) (k : ℕ) → (if q then Some 0 else option_map suc (place_of (names_of ss) x)) ≡ Some k →
        Stands n t env (slot_at (s ∷ ss) k) (if q then Some b.1 else look_up bs x)
    by_place true k h =
        let e : 0 ≡ k = cc in
        let F : ℕ → Type 0 = λ m. Stands n t env (slot_at (s ∷ ss) m) (Some b.1) in subst F e here
    by_place false k h = next_place (place_of (names_of ss) x) refl k h

-- a name is found with what it means
pub found_named : (n : ℕ) (t : Table) (env : Environment) (ss : Table) (bs : Environment) (x : Name) →
    AllStand n t env ss bs → Stands n t env (look_up ss x) (look_up bs x)
found_named n t env [] [] x h = tt
found_named n t env [] (b ∷ bs) x h = absurd h
found_named n t env (s ∷ ss) [] x h = absurd h
found_named n t env (s ∷ ss) (b ∷ bs) x h =
    let F : Name → Type 0 = λ y. Stands n t env (if bytes_eq x s.0 then Some s.1 else look_up ss x) (if bytes_eq x y then Some b.1 else look_up bs x) in
    subst F h.0 (by_name n t env s b ss bs x h.1 (bytes_eq x s.0) (found_named n t env ss bs x h.2))

-- and so it is at a name's place
pub found_placed : (n : ℕ) (t : Table) (env : Environment) (ss : Table) (bs : Environment) (x : Name) (k : ℕ) →
    AllStand n t env ss bs → place_of (names_of ss) x ≡ Some k → Stands n t env (slot_at ss k) (look_up bs x)
found_placed n t env [] [] x k h p = absurd cc
found_placed n t env [] (b ∷ bs) x k h p = absurd h
found_placed n t env (s ∷ ss) [] x k h p = absurd h
found_placed n t env (s ∷ ss) (b ∷ bs) x k h p =
    let F : Name → Type 0 = λ y. Stands n t env (slot_at (s ∷ ss) k) (if bytes_eq x y then Some b.1 else look_up bs x) in
    subst F h.0 (by_place n t env s b ss bs x h.1 (λ j e. found_placed n t env ss bs x j h.2 e) (bytes_eq x s.0) k p)

-- a variable, and a call, where the one means the other
pub same_variable : (n : ℕ) (t : Table) (env : Environment) (o : Option Slot) (b : Option Top) → Stands n t env o b →
    run_top o ≡ variable_in None b
same_variable n t env None None h = refl
same_variable n t env None (Some b) h = absurd h
same_variable n t env (Some s) None h = absurd h
same_variable n t env (Some (variable_slot v)) (Some (variable_of w)) h = ap (λ u. variable_in None (Some (variable_of u))) h
same_variable n t env (Some (variable_slot v)) (Some (function_of p e)) h = absurd h
same_variable n t env (Some (variable_slot v)) (Some (datatype_of k)) h = absurd h
same_variable n t env (Some (variable_slot v)) (Some nothing) h = absurd h
same_variable n t env (Some (function_slot c)) (Some (variable_of w)) h = absurd h
same_variable n t env (Some (function_slot c)) (Some (function_of p e)) h = refl
same_variable n t env (Some (function_slot c)) (Some (datatype_of k)) h = refl
same_variable n t env (Some (function_slot c)) (Some nothing) h = refl
same_variable n t env (Some (datatype_slot j)) (Some (variable_of w)) h = absurd h
same_variable n t env (Some (datatype_slot j)) (Some (function_of p e)) h = refl
same_variable n t env (Some (datatype_slot j)) (Some (datatype_of k)) h = refl
same_variable n t env (Some (datatype_slot j)) (Some nothing) h = refl
same_variable n t env (Some nothing_slot) (Some (variable_of w)) h = absurd h
same_variable n t env (Some nothing_slot) (Some (function_of p e)) h = refl
same_variable n t env (Some nothing_slot) (Some (datatype_of k)) h = refl
same_variable n t env (Some nothing_slot) (Some nothing) h = refl

pub agrees_called : (n : ℕ) (t : Table) (env : Environment) (s : Span) (o : Option Slot) (b : Option Top) (v : Value) →
    Stands (suc n) t env o b → Agrees (run_called (run n t) s o v) (call_name (out n env) s None b v)
agrees_called n t env s None None v h = same stuck
agrees_called n t env s None (Some b) v h = absurd h
agrees_called n t env s (Some u) None v h = absurd h
agrees_called n t env s (Some (variable_slot w)) (Some (variable_of u)) v h = same stuck
agrees_called n t env s (Some (variable_slot w)) (Some (function_of p e)) v h = absurd h
agrees_called n t env s (Some (variable_slot w)) (Some (datatype_of k)) v h = absurd h
agrees_called n t env s (Some (variable_slot w)) (Some nothing) v h = absurd h
agrees_called n t env s (Some (function_slot c)) (Some (variable_of u)) v h = absurd h
agrees_called n t env s (Some (function_slot c)) (Some (function_of p e)) v h = agrees_call s _ _ (h n (omega arith) v)
agrees_called n t env s (Some (function_slot c)) (Some (datatype_of k)) v h = absurd h
agrees_called n t env s (Some (function_slot c)) (Some nothing) v h = absurd h
agrees_called n t env s (Some (datatype_slot j)) (Some (variable_of u)) v h = absurd h
agrees_called n t env s (Some (datatype_slot j)) (Some (function_of p e)) v h = absurd h
agrees_called n t env s (Some (datatype_slot j)) (Some (datatype_of k)) v h =
    λ m. ap (λ i. call_name (out n env) s None (Some (datatype_of i)) v) h
agrees_called n t env s (Some (datatype_slot j)) (Some nothing) v h = absurd h
agrees_called n t env s (Some nothing_slot) (Some (variable_of u)) v h = absurd h
agrees_called n t env s (Some nothing_slot) (Some (function_of p e)) v h = absurd h
agrees_called n t env s (Some nothing_slot) (Some (datatype_of k)) v h = absurd h
agrees_called n t env s (Some nothing_slot) (Some nothing) v h = same stuck

module _ (ys ms : List Name) (x : Name) (ih : (k : ℕ) → place_of ys x ≡ Some k → place_of (ys ++ ms) x ≡ Some k) where
  stays_next : (o : Option ℕ) → place_of ys x ≡ o → (k : ℕ) → option_map suc o ≡ Some k →
      option_map suc (place_of (ys ++ ms) x) ≡ Some k
  stays_next None e k h = absurd cc
  stays_next (Some j) e k h = ap (option_map suc) (ih j e) ∙ h

  stays_at : (q : Bool) (k : ℕ) → (if q then Some 0 else option_map suc (place_of ys x)) ≡ Some k →
      (if q then Some 0 else option_map suc (place_of (ys ++ ms) x)) ≡ Some k
  stays_at true k h = h
  stays_at false k h = stays_next (place_of ys x) refl k h

-- a name keeps its place when names are added
pub place_stays : (ns ms : List Name) (x : Name) (k : ℕ) → place_of ns x ≡ Some k → place_of (ns ++ ms) x ≡ Some k
place_stays [] ms x k h = absurd cc
place_stays (y ∷ ys) ms x k h = stays_at ys ms x (λ j e. place_stays ys ms x j e) (bytes_eq x y) k h

pub placed_in : (ns : List Name) (t : Table) (x : Name) (k : ℕ) → Begins ns t → place_of ns x ≡ Some k → place_of (names_of t) x ≡ Some k
placed_in ns t x k b p = ap (λ ms. place_of ms x) b.1 ∙ place_stays ns b.0 x k p
