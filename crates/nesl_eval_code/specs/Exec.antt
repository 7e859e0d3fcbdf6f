-- What blocks evaluate to.
use Rattle.std.specs.Prelude.{ℕ, zero, suc, ◌-◌, nat_lt, List, [], ◌∷◌, ◌++◌, map, length, take}
use Rattle.std.specs.Prelude.{slice_get, Option, Some, None, option_and_then, if◌then◌else◌}
use Rattle.nesl_lex.specs.declared.token.Span.{Span}
use Rattle.nesl_values.specs.Tree as values
use Rattle.nesl_values.specs.Parts.{as_bool}
use Rattle.nesl_scalars.specs.declared.trap.Trap.TheVariants.{Deep}
use Rattle.nesl_eval_meaning.specs.Names.{Value}
use Rattle.nesl_builtins.specs.Named.{look_up}
use Rattle.nesl_eval_meaning.specs.Out.{Out, value, fault, stuck, and_then, given, all_beside}
use Rattle.nesl_eval_meaning.specs.Outcome.{small_enough, apply_builtin, branch, common_places, lengths, place_if_true}
use Rattle.nesl_eval_meaning.specs.Outcome.{body_value}
use Rattle.nesl_eval_code.specs.Frames.{Frames, followed, row}
use Rattle.nesl_eval_code.specs.Run.{Slot, Table, slot_at, run, run_top, run_called, as_result}
use Rattle.nesl_eval_code.specs.Block.{What, number, truth, character, text, empty, local, missing, top, by_name}
use Rattle.nesl_eval_code.specs.Block.{Leaf}
use Rattle.nesl_eval_code.specs.Block.{Maker, of_one, of_two, of_three, of_pair, pairing, listing, Callee, placed}
use Rattle.nesl_eval_code.specs.Block.{called_by, Block, finish, push, enter, make, choose, last, call, bind, forget}
use Rattle.nesl_eval_code.specs.Block.{each, filtered}

-- the values of the local names; one may be missing where an expression has no type
abbrev pub Places : Type 0
Places = List (Option Value)

-- the frames end to end, the newest last
abbrev pub laid : Frames → Places
laid [] = []
laid (f ∷ fs) = laid fs ++ f

-- the value at a place
abbrev pub value_at : Places → ℕ → Option Value
value_at env k = option_and_then (λ o. o) (slice_get env k)

-- a node is entered at this height of a body with `n` levels, and costs its own 1
abbrev pub admitted : ℕ → ℕ → Span → Out (Unit {0})
admitted n h s = if nat_lt h n then value tt 1 1 else fault Deep s 0

-- what a leaf evaluates to, besides its own 1
abbrev pub leaf_value : Table → Places → What → Out Value
leaf_value t env (number z) = value (values.int z) 0 0
leaf_value t env (truth b) = value (values.boolean b) 0 0
leaf_value t env (character c) = value (values.character c) 0 0
leaf_value t env (text cs) = value (values.sequence (map values.character cs)) (length cs) 0
leaf_value t env empty = value (values.sequence []) 0 0
leaf_value t env (local k steps) = given (option_and_then (followed steps) (value_at env k)) (λ v. value v 0 0)
leaf_value t env missing = stuck
leaf_value t env (top k) = run_top (slot_at t k)
leaf_value t env (by_name x) = run_top (look_up t x)

abbrev pub leaf_out : Table → ℕ → ℕ → Places → Leaf → Out Value
leaf_out t n h env l = and_then (admitted n h l.span) (λ u. leaf_value t env l.what)

-- leaves from left to right, after the values `vs`, and then what depends on them all
abbrev pub with_leaves : Table → ℕ → ℕ → Places → List Value → List Leaf → (List Value → Out Value) → Out Value
with_leaves t n h env vs [] k = k vs
with_leaves t n h env vs (l ∷ ls) k = and_then (leaf_out t n h env l) (λ v. with_leaves t n h env (vs ++ v ∷ []) ls k)

-- what is made of values; where they are not as many as they should be, nothing
abbrev pub made_of : Span → Maker → List Value → Out Value
made_of s (of_one g) (x ∷ []) = apply_builtin s g x
made_of s (of_two g) (x ∷ y ∷ []) = apply_builtin s g (values.pair x y)
made_of s (of_three g) (x ∷ y ∷ z ∷ []) = apply_builtin s g (values.pair x (values.pair y z))
made_of s (of_pair w g) (x ∷ y ∷ []) = and_then (small_enough w (values.pair x y)) (apply_builtin s g)
made_of s pairing (x ∷ y ∷ []) = small_enough s (values.pair x y)
made_of s listing vs = small_enough s (values.sequence vs)
made_of s _ _ = stuck

-- this number of values off a stack, in the order in which they came, before those that were taken already; and the
-- stack that is left
abbrev pub taken : ℕ → List Value → List Value → Option (List Value × List Value)
taken zero vs us = Some (us, vs)
taken (suc k) [] us = None
taken (suc k) (v ∷ vs) us = taken k vs (v ∷ us)

-- what is there
abbrev pub slot_of : Table → Callee → Option Slot
slot_of t (placed k) = slot_at t k
slot_of t (called_by x) = look_up t x

-- the places of sequences, and then what depends on them
abbrev pub at_places : Span → List Value → (List ℕ → Out Value) → Out Value
at_places s vs k = given (lengths vs) (λ ns. and_then (common_places s ns) k)

-- the places at which a filter holds, and the sequence of the values of a body at places
abbrev pub kept_of : (ℕ → Out Value) → List ℕ → Out (List ℕ)
kept_of f = all_beside (λ i. and_then (f i) (place_if_true i))

abbrev pub values_of : (ℕ → Out Value) → List ℕ → Out Value
values_of f is = as_result (all_beside (λ i. and_then (f i) body_value) is)

-- what a block evaluates to in a body with `n` levels, with these values of local names and this stack: the one value
-- that is left
abbrev pub exec : Table → ℕ → Places → Block → List Value → Out Value
exec t n env finish [] = stuck
exec t n env finish (v ∷ []) = value v 0 0
exec t n env finish (v ∷ u ∷ vs) = stuck
exec t n env (push h l b) vs = and_then (leaf_out t n h env l) (λ v. exec t n env b (v ∷ vs))
exec t n env (enter h s b) vs = and_then (admitted n h s) (λ u. exec t n env b vs)
exec t n env (make h s m k ls b) vs =
    given (taken k vs []) (λ p. and_then (with_leaves t n h env p.0 ls (made_of s m)) (λ v. exec t n env b (v ∷ p.1)))
exec t n env (choose c d b) [] = stuck
exec t n env (choose c d b) (x ∷ vs) =
    and_then (branch (as_bool x) (exec t n env c []) (exec t n env d [])) (λ v. exec t n env b (v ∷ vs))
exec t n env (last c d) [] = stuck
exec t n env (last c d) (x ∷ []) = branch (as_bool x) (exec t n env c []) (exec t n env d [])
exec t n env (last c d) (x ∷ y ∷ vs) = stuck
exec t n env (call h s f b) [] = stuck
exec t n env (call h s f b) (x ∷ vs) =
    and_then (run_called (run (n - suc h) t) s (slot_of t f) x) (λ v. exec t n env b (v ∷ vs))
exec t n env (bind b) [] = stuck
exec t n env (bind b) (v ∷ vs) = exec t n (env ++ Some v ∷ []) b vs
exec t n env (forget m b) vs = exec t n (take m env) b vs
exec t n env (each s k c b) vs =
    given (taken k vs [])
    (λ p. and_then (at_places s p.0 (values_of (λ i. exec t n (env ++ row i p.0) c [])))
    (λ v. exec t n env b (v ∷ p.1)))
exec t n env (filtered s k c d b) vs =
    given (taken k vs [])
    (λ p. and_then (at_places s p.0 (λ is. and_then (kept_of (λ i. exec t n (env ++ row i p.0) d []) is)
    (values_of (λ i. exec t n (env ++ row i p.0) c [])))) (λ v. exec t n env b (v ∷ p.1)))
