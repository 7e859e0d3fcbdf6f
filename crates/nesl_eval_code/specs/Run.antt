-- What code evaluates to with a number of levels: the same as the tree that it was made of.
use Rattle.std.specs.Prelude.{ℕ, zero, suc, List, [], ◌∷◌, ◌++◌, map, length, slice_get, Option, Some, option_map}
use Rattle.nesl_lex.specs.declared.token.Span.{Span}
use Rattle.nesl_values.specs.Tree as values
use Rattle.nesl_values.specs.Parts.{as_bool}
use Rattle.nesl_scalars.specs.declared.trap.Trap.TheVariants.{Deep}
use Rattle.nesl_eval_code.specs.declared.code.Code.{Code, Number, Truth, Character, Text, Local, Top, Named, Pair'}
use Rattle.nesl_eval_code.specs.declared.code.Code.{Apply'}
use Rattle.nesl_eval_code.specs.declared.code.Code.{ApplyTwo', ApplyThree', Call', CallNamed', Choice', Sequence'}
use Rattle.nesl_eval_code.specs.declared.code.Code.{Empty}
use Rattle.nesl_eval_code.specs.declared.code.Code.{Let', Each', FilteredEach', items-the_row-Code}
use Rattle.nesl_eval_meaning.specs.Names.{Name, Value}
use Rattle.nesl_builtins.specs.Named.{look_up}
use Rattle.nesl_eval_code.specs.Frames.{Frames, local_at, frame, row}
use Rattle.nesl_eval_meaning.specs.Out.{Out, value, fault, stuck, after_cost, and_then, given, at_call, all_beside}
use Rattle.nesl_eval_meaning.specs.Outcome.{small_enough, apply_builtin, branch, common_places, lengths, place_if_true}
use Rattle.nesl_eval_meaning.specs.Outcome.{body_value}

-- what is at a place of the top level: a variable's value, the code of a function's body, a datatype's tag, or
-- nothing
pub data Slot : Type 0 where
  variable_slot : Value → Slot
  function_slot : Code → Slot
  datatype_slot : ℕ → Slot
  nothing_slot : Slot

-- the top-level names and what each is, in order of first definition
abbrev pub Table : Type 0
Table = List (Name × Slot)

-- what is at a place, and what a name means
abbrev pub slot_at : Table → ℕ → Option Slot
slot_at t k = option_map (λ b. b.1) (slice_get t k)

-- what codes evaluate to, with values in these frames
abbrev pub Runs : Type 0
Runs = Frames → Code → Out Value

-- the span of the expression that the code was made of
abbrev pub code_span : Code → Span
code_span (Number s n) = s
code_span (Truth s b) = s
code_span (Character s c) = s
code_span (Text s cs) = s
code_span (Local s up i steps) = s
code_span (Top s k) = s
code_span (Named s x) = s
code_span (Pair' s p a q b) = s
code_span (Apply' s g p a) = s
code_span (ApplyTwo' s g p a q b) = s
code_span (ApplyThree' s g p a q b r c) = s
code_span (Call' s k p a) = s
code_span (CallNamed' s x p a) = s
code_span (Choice' s p a q b r c) = s
code_span (Sequence' s n cs) = s
code_span (Empty s) = s
code_span (Let' s n cs p e) = s
code_span (Each' s n cs p e) = s
code_span (FilteredEach' s n cs p e q c) = s

-- a top-level variable
abbrev pub run_top : Option Slot → Out Value
run_top (Some (variable_slot v)) = value v 0 0
run_top _ = stuck

-- a function's body, which sees its argument alone, or a record
abbrev pub run_called : Runs → Span → Option Slot → Value → Out Value
run_called f s (Some (function_slot c)) v = at_call s (f (frame (v ∷ []) ∷ []) c)
run_called f s (Some (datatype_slot k)) v = small_enough s (values.tagged k v)
run_called f s _ v = stuck

-- these parts, after those that evaluated to `vs`
abbrev pub run_all : Runs → Frames → List Value → List Code → Out (List Value)
run_all f fs vs [] = value vs 0 0
run_all f fs vs (c ∷ cs) = and_then (f fs c) (λ v. run_all f fs (vs ++ v ∷ []) cs)

-- a body in the frame of the bindings that evaluated to `vs` and of those that are left
abbrev pub run_let : Runs → Frames → List Value → List Code → Code → Out Value
run_let f fs vs [] e = f (frame vs ∷ fs) e
run_let f fs vs (c ∷ cs) e = and_then (f (frame vs ∷ fs) c) (λ v. run_let f fs (vs ++ v ∷ []) cs e)

-- code in the frame of the elements at a place
abbrev pub run_at : Runs → Frames → List Value → Code → ℕ → Out Value
run_at f fs vs e i = f (row i vs ∷ fs) e

-- the places at which a filter holds, and the values of a body at places
abbrev pub run_filters : Runs → Frames → List Value → Code → List ℕ → Out (List ℕ)
run_filters f fs vs c = all_beside (λ i. and_then (run_at f fs vs c i) (place_if_true i))

abbrev pub run_bodies : Runs → Frames → List Value → Code → List ℕ → Out (List Value)
run_bodies f fs vs e = all_beside (λ i. and_then (run_at f fs vs e i) body_value)

-- the sequence of these values
abbrev pub as_result : Out (List Value) → Out Value
as_result o = and_then o (λ us. value (values.sequence us) 0 0)

-- the sequences, and then what depends on them and on their places
abbrev pub run_over : Runs → Span → Frames → List Code → (List Value → List ℕ → Out Value) → Out Value
run_over f s fs cs k =
    and_then (run_all f fs [] cs) (λ vs. given (lengths vs) (λ ns. and_then (common_places s ns) (k vs)))

-- parts, from left to right
abbrev pub run_two : Runs → Frames → Code → Code → (Value → Value → Out Value) → Out Value
run_two f fs a b k = and_then (f fs a) (λ x. and_then (f fs b) (k x))

abbrev pub run_three : Runs → Frames → Code → Code → Code → (Value → Value → Value → Out Value) → Out Value
run_three f fs a b c k = and_then (f fs a) (λ x. run_two f fs b c (k x))

-- a node besides its own 1
abbrev pub run_node : Runs → Table → Frames → Code → Out Value
run_node f t fs (Number s n) = value (values.int n) 0 0
run_node f t fs (Truth s b) = value (values.boolean b) 0 0
run_node f t fs (Character s c) = value (values.character c) 0 0
run_node f t fs (Text s cs) = value (values.sequence (map values.character cs.items)) (length cs.items) 0
run_node f t fs (Local s up i steps) = given (local_at fs up i steps.items) (λ v. value v 0 0)
run_node f t fs (Top s k) = run_top (slot_at t k)
run_node f t fs (Named s x) = run_top (look_up t x.items)
run_node f t fs (Pair' s p a q b) = run_two f fs a b (λ x y. small_enough s (values.pair x y))
run_node f t fs (Apply' s g p a) = and_then (f fs a) (apply_builtin s g)
run_node f t fs (ApplyTwo' s g p a q b) = run_two f fs a b (λ x y. apply_builtin s g (values.pair x y))
run_node f t fs (ApplyThree' s g p a q b r c) =
    run_three f fs a b c (λ x y z. apply_builtin s g (values.pair x (values.pair y z)))
run_node f t fs (Call' s k p a) = and_then (f fs a) (run_called f s (slot_at t k))
run_node f t fs (CallNamed' s x p a) = and_then (f fs a) (run_called f s (look_up t x.items))
run_node f t fs (Choice' s p a q b r c) = and_then (f fs a) (λ x. branch (as_bool x) (f fs b) (f fs c))
run_node f t fs (Sequence' s n cs) =
    and_then (run_all f fs [] (items-the_row-Code _ cs)) (λ vs. small_enough s (values.sequence vs))
run_node f t fs (Empty s) = value (values.sequence []) 0 0
run_node f t fs (Let' s n cs p e) = run_let f fs [] (items-the_row-Code _ cs) e
run_node f t fs (Each' s n cs p e) =
    run_over f s fs (items-the_row-Code _ cs) (λ vs is. as_result (run_bodies f fs vs e is))
run_node f t fs (FilteredEach' s n cs p e q c) =
    run_over f s fs (items-the_row-Code _ cs)
    (λ vs is. and_then (run_filters f fs vs c is) (λ ks. as_result (run_bodies f fs vs e ks)))

-- with no level left a node faults and costs nothing; else it costs 1, and its parts have a level less
unfoldable pub run : ℕ → Table → Frames → Code → Out Value
run zero t fs c = fault Deep (code_span c) 0
run (suc n) t fs c = after_cost 1 1 (run_node (run n t) t fs c)
