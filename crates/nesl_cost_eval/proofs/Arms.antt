-- Nodes of each shape.
use Rattle.std.proofs.Common.{◌≡◌, ℕ, ◌∙◌, ap, sym, subst, refl, List, [], ◌++◌, append-nil, Option, Some, None, Bool, map, Result, Ok, Err, Vec, Global}
use Rattle.nesl_lex.specs.declared.token.Span.{Span}
use Rattle.nesl_values.specs.Parts.{as_bool}
use Rattle.nesl_values.specs.Tree as values
use Rattle.nesl_values.specs.View.{tree_of}
use Rattle.nesl_values.specs.declared.value.Value as code
use Rattle.nesl_syntax_tree.specs.declared.tree.Node as declared
use Rattle.nesl_syntax_tree.specs.Trees.{Shape, Tree, PatternTree, node}
use Rattle.nesl_syntax_tree.specs.Views.{shape_of}
use Rattle.nesl_builtins.specs.declared.builtin.Builtin.{Builtin}
use Rattle.nesl_eval_meaning.specs.Names.{Name, Value, Scope, Environment, Top, variable_of, function_of, datatype_of, nothing, bound, outside, with_names}
use Rattle.nesl_eval_meaning.specs.Outcome.{apply_builtin, small_enough, lengths, common_places}
use Rattle.nesl_eval_nodes.specs.Meets.{Is}
use Rattle.std.specs.Prelude.{option_map, MatchResult}
use Rattle.std.specs.List.{range_with_len}
use Rattle.nesl_cost_meaning.specs.Cost.{free}
use Rattle.nesl_cost_meaning.specs.Traced.{Parts, Traced, value, and_then, given, branch, charged, node_of, in_bound, call_name, at_call}
use Rattle.nesl_cost_eval.specs.declared.unfinished.Unfinished.{Unfinished}
use Rattle.nesl_cost_eval.specs.declared.unfinished.Unfinished.TheVariants.{Memory, Stuck}
use Rattle.nesl_cost_eval.specs.Scopes.{Calls}
use Rattle.nesl_cost_eval.specs.Writes.{Book, Writes, AreValues, LenIs}
use Rattle.nesl_cost_eval.proofs.Running.{IsOf, adds_free, memory_any, retold, chained, stopped}
use Rattle.nesl_cost_eval.proofs.Lists.{Same}

module _ (f : Parts) (env : Environment) (sc : Scope) (s : Span) where
  -- a node of this shape
  pub arm : (r : Result (code.Value Global) Unfinished) (a b : Book) (k : Shape) (d : declared.Node) → shape_of d ≡ k →
      Writes Is a r b (node_of f env sc (node s k)) → Writes Is a r b (node_of f env sc (node s (shape_of d)))
  arm r a b k d q h = let F : Shape → Type 0 = λ x. Writes Is a r b (node_of f env sc (node s x)) in subst F (sym q) h

-- a leaf of a tree
pub leaf : (v : code.Value Global) (x : Value) (a : Book) → tree_of v ≡ x → Writes Is a (Ok v) a (value x free)
leaf v x a h = (h, adds_free a)

-- one of two, by the test
pub chosen : (r : Result (code.Value Global) Unfinished) (a b : Book) (t : Value) (x : Bool) (o p : Traced Value) → as_bool t ≡ Some x →
    Writes Is a r b (branch (Some x) o p) → Writes Is a r b (branch (as_bool t) o p)
chosen r a b t x o p e h = let F : Option Bool → Type 0 = λ y. Writes Is a r b (branch y o p) in subst F (sym e) h

-- a name that is found in the first of two places
pub given_some : {X : Type 0} (r : Result (code.Value Global) Unfinished) (a b : Book) (o : Option X) (x : X) (k : X → Traced Value) → o ≡ Some x →
    Writes Is a r b (k x) → Writes Is a r b (given o k)
given_some {X} r a b o x k e h = let F : Option X → Type 0 = λ y. Writes Is a r b (given y k) in subst F (sym e) h

pub given_none : {X : Type 0} (r : Result (code.Value Global) Unfinished) (a b : Book) (o : Option X) (k : X → Traced Value) → o ≡ None →
    Writes Is a r b (given o k)
given_none {X} r a b o k e = let F : Option X → Type 0 = λ y. Writes Is a r b (given y k) in subst F (sym e) tt

-- what a body sees
pub in_scope : (f : Parts) (p : PatternTree) (v : Value) (e : Tree) →
    in_bound f p v (outside []) e ≡ given (option_map (with_names (outside [])) (bound p v [])) (λ sc. f sc e)
in_scope f p v e = by (bound p v [])
  where
    by : (o : Option (List (Name × Value))) → given o (λ names. f (with_names (outside []) names) e) ≡ given (option_map (with_names (outside [])) o) (λ sc. f sc e)
    by (Some names) = refl
    by None = refl

-- a built-in function hides all others
pub call_builtin : (f : Parts) (x : Name) (s : Span) (b : Builtin) (o : Option Builtin) (t : Option Top) (v : Value) → Some b ≡ o →
    call_name f x s o t v ≡ charged s (apply_builtin s b v)
call_builtin f x s b o t v e = ap (λ y. call_name f x s y t v) (sym e)

pub call_function : (f : Parts) (x : Name) (s : Span) (o : Option Builtin) (t : Option Top) (p : PatternTree) (e : Tree) (v : Value) → None ≡ o → t ≡ Some (function_of p e) →
    call_name f x s o t v ≡ at_call x s (in_bound f p v (outside []) e)
call_function f x s o t p e v h g = ap (λ y. call_name f x s y t v) (sym h) ∙ ap (λ y. call_name f x s None y v) g

pub call_datatype : (f : Parts) (x : Name) (s : Span) (o : Option Builtin) (t : Option Top) (k : ℕ) (v : Value) → None ≡ o → t ≡ Some (datatype_of k) →
    call_name f x s o t v ≡ charged s (small_enough s (values.tagged k v))
call_datatype f x s o t k v h g = ap (λ y. call_name f x s y t v) (sym h) ∙ ap (λ y. call_name f x s None y v) g

-- what a call can't call
pub call_none : (f : Parts) (x : Name) (s : Span) (o : Option Builtin) (t : Option Top) (v : Value) (b : Book) → None ≡ o → Calls None t →
    Writes (IsOf Global) b (Err Stuck) b (call_name f x s o t v)
call_none f x s o t v b e h = subst (λ (y : Option Builtin). Writes (IsOf Global) b (Err Stuck) b (call_name f x s y t v)) e (by t h)
  where
    by : (t : Option Top) → Calls None t → Writes (IsOf Global) b (Err Stuck) b (call_name f x s None t v)
    by None h = tt
    by (Some (variable_of w)) h = tt
    by (Some (function_of p e)) h = absurd h
    by (Some (datatype_of k)) h = absurd h
    by (Some nothing) h = tt

-- an argument that the parameter doesn't fit
pub call_unbound : (f : Parts) (x : Name) (s : Span) (p : PatternTree) (v : Value) (e : Tree) (a : Book) → option_map (with_names (outside [])) (bound p v []) ≡ None →
    Writes (IsOf Global) a (Err Stuck) a (at_call x s (in_bound f p v (outside []) e))
call_unbound f x s p v e a h =
    let to : Option Scope → Traced Value = λ y. at_call x s (given y (λ sc. f sc e)) in
    retold (IsOf Global) (Err Stuck) a a (at_call x s (in_bound f p v (outside []) e)) (to (option_map (with_names (outside [])) (bound p v [])))
    (ap (at_call x s) (in_scope f p v e)) (subst (λ (y : Option Scope). Writes (IsOf Global) a (Err Stuck) a (to y)) (sym h) tt)

-- the sequence of what all turns gave
pub finished_end : (r : Result (code.Value Global) Unfinished) (xs : List Value) (a b : Book) (w : Traced (List Value)) →
    MatchResult r (λ v. tree_of v ≡ values.sequence xs) (λ e. e ≡ Memory) → Writes Same a (Ok (xs ++ [])) b w →
    Writes Is a r b (and_then w (λ us. value (values.sequence us) free))
finished_end (Ok v) xs a b w e h =
    chained Same Is (xs ++ []) (Ok v) a b b w (λ us. value (values.sequence us) free) h (λ us q. (e ∙ ap values.sequence (sym (append-nil xs) ∙ q), adds_free b))
finished_end (Err k) xs a b w e h =
    subst (λ (u : Unfinished). Writes (IsOf Global) a (Err u) b (and_then w (λ us. value (values.sequence us) free))) (sym e)
    (memory_any (IsOf Global) a b (and_then w (λ us. value (values.sequence us) free)))

given_then : {X Y Z : Type 0} (o : Option X) (g : X → Traced Y) (k : Y → Traced Z) → given o (λ x. and_then (g x) k) ≡ and_then (given o g) k
given_then (Some x) g k = refl
given_then None g k = refl

-- an apply-to-each, from its sequences and their length on
abbrev pub over : Span → (List Value → List ℕ → Traced Value) → List Value → Traced Value
over s k vs = given (lengths vs) (λ ns. and_then (charged s (common_places s ns)) (k vs))

abbrev pub places_at : Span → List Value → Traced (List ℕ)
places_at s vs = given (lengths vs) (λ ns. charged s (common_places s ns))

pub over_done : (s : Span) (k : List Value → List ℕ → Traced Value) (values : Vec (code.Value Global) Global) (n : ℕ) (r : Result (code.Value Global) Unfinished)
    (a b d : Book) (o : Traced (List Value)) → Writes AreValues a (Ok values) b o → Writes LenIs b (Ok n) b (places_at s (map tree_of values.items)) →
    Writes Is b r d (k (map tree_of values.items) (range_with_len 0 n)) → Writes Is a r d (and_then o (over s k))
over_done s k values n r a b d o h g j =
    let vs = map tree_of values.items in
    chained AreValues Is values r a b d o (over s k) h (λ ys e. subst (λ (zs : List Value). Writes Is b r d (over s k zs)) e
    (retold Is r b d (over s k vs) (and_then (places_at s vs) (k vs)) (given_then (lengths vs) (λ ns. charged s (common_places s ns)) (k vs))
    (chained LenIs Is n r b b d (places_at s vs) (k vs) g (λ is q. subst (λ (ks : List ℕ). Writes Is b r d (k vs ks)) q j))))

pub over_stopped : (s : Span) (k : List Value → List ℕ → Traced Value) (values : Vec (code.Value Global) Global) (e : Unfinished)
    (a b : Book) (o : Traced (List Value)) → Writes AreValues a (Ok values) b o → Writes LenIs b (Err e) b (places_at s (map tree_of values.items)) →
    Writes (IsOf Global) a (Err e) b (and_then o (over s k))
over_stopped s k values e a b o h g =
    let vs = map tree_of values.items in
    chained AreValues (IsOf Global) values (Err e) a b b o (over s k) h (λ ys q. subst (λ (zs : List Value). Writes (IsOf Global) b (Err e) b (over s k zs)) q
    (retold (IsOf Global) (Err e) b b (over s k vs) (and_then (places_at s vs) (k vs)) (given_then (lengths vs) (λ ns. charged s (common_places s ns)) (k vs))
    (stopped LenIs (IsOf Global) e b b (places_at s vs) (k vs) g)))
