-- When a run writes down what is traced.
use Rattle.std.specs.Prelude.{◌≡◌, ◌+◌, ◌<◌, ◌⊎◌, ℕ, zero, suc, List, [], ◌∷◌, ◌++◌, option_map, Result, Ok}
use Rattle.std.specs.Prelude.{Err, None, map}
use Rattle.std.specs.List.{range_with_len}
use Rattle.std.proofs.Common.{Vec, Global}
use Rattle.nesl_lex.specs.declared.token.Span.{Span}
use Rattle.nesl_values.specs.Tree as values
use Rattle.nesl_values.specs.View.{tree_of}
use Rattle.nesl_values.specs.declared.value.Value as code
use Rattle.nesl_eval_meaning.specs.Names.{Name, Value}
use Rattle.nesl_eval_meaning.specs.Outcome.{small_enough, apply_builtin}
use Rattle.nesl_seqs_base.specs.declared.seq_fn.SeqFn.TheVariants as seq
use Rattle.nesl_builtins.specs.declared.builtin.Builtin.TheVariants.{OfSequences}
use Rattle.nesl_eval_nodes.specs.Meets.{Is}
use Rattle.nesl_eval_nodes.specs.declared.meter.Stop.{Stop}
use Rattle.nesl_eval_nodes.specs.declared.meter.Stop.TheVariants as stops
use Rattle.nesl_cost_meaning.specs.Cost.{Cost, work_in, Place}
use Rattle.nesl_cost_meaning.specs.Traced.{Traced, value, fault, stuck, charged}
use Rattle.nesl_cost_rows.specs.Written.{Note, called, returned, turned, written, notes_of}
use Rattle.nesl_cost_eval.specs.declared.unfinished.Source.{Source}
use Rattle.nesl_cost_eval.specs.declared.unfinished.Unfinished.{Unfinished}
use Rattle.nesl_cost_eval.specs.declared.unfinished.Unfinished.TheVariants.{Fault, Over, Memory, Stuck}
use Rattle.nesl_cost_eval.specs.declared.run.Run.{Run}
use Rattle.nesl_cost_eval.specs.declared.run.Joined.{Joined}
use Rattle.nesl_cost_eval.specs.declared.run.Joined.TheVariants as joined

-- what is written down so far, and the fuel that is left
pub record Book : Type 0 where
  pub notes : List Note
  pub fuel : ℕ

abbrev pub book : Run → Book
book r = record { notes = notes_of r.trace; fuel = r.meter.fuel }

-- one note more, which costs nothing
abbrev pub noted : Note → Book → Book
noted n b = record { notes = b.notes ++ n ∷ []; fuel = b.fuel }

abbrev pub calling : Name → Span → Book → Book
calling x s b = noted (called x s) b

abbrev pub returning : Book → Book
returning b = noted returned b

-- so many turns are over, one in the others of the other
abbrev pub closings : ℕ → List Note
closings zero = []
closings (suc n) = turned ∷ closings n

abbrev pub closed : ℕ → Book → Book
closed n b = record { notes = b.notes ++ closings n; fuel = b.fuel }

-- where a fault is
abbrev pub place_of : Source → Place
place_of s = record { home = option_map (λ x. x.now) s.home; span = s.span }

-- the cost was written down, and its work was taken off the fuel
abbrev pub Adds : Book → Book → Cost → Type 0
Adds a b c = (b.notes ≡ a.notes ++ written c) × (a.fuel ≡ b.fuel + work_in c)

-- the cost was written down, and nothing more was taken off
abbrev pub Notes : Book → Book → Cost → Type 0
Notes a b c = (b.notes ≡ a.notes ++ written c) × (b.fuel ≡ a.fuel)

-- there was no memory, or too little fuel for this work
abbrev pub Lacks : Book → ℕ → Unfinished → Type 0
Lacks a w e = (e ≡ Memory) ⊎ ((e ≡ Over) × (a.fuel < w))

-- the run gave what is traced, and wrote its cost down; nothing is said where that is stuck, or memory ran out
abbrev pub Writes : {R X : Type 0} → (R → X → Type 0) → Book → Result R Unfinished → Book → Traced X → Type 0
Writes T a r b stuck = Unit {0}
Writes T a (Ok v) b (value x c) = (T v x) × Adds a b c
Writes T a (Ok v) b (fault t s p c) = ⊥
Writes T a (Err (Fault u i q)) b (value x c) = ⊥
Writes T a (Err (Fault u i q)) b (fault t s p c) = (u ≡ t) × (i ≡ s) × (place_of q ≡ p) × Adds a b c
Writes T a (Err Over) b (value x c) = a.fuel < work_in c
Writes T a (Err Over) b (fault t s p c) = a.fuel < work_in c
Writes T a (Err Memory) b (value x c) = Unit {0}
Writes T a (Err Memory) b (fault t s p c) = Unit {0}
Writes T a (Err Stuck) b (value x c) = ⊥
Writes T a (Err Stuck) b (fault t s p c) = ⊥

-- the run ended so, without a value
abbrev pub Halts : Book → Unfinished → Book → Traced Value → Type 0
Halts a e b o = Writes {R = code.Value Global} Is a (Err e) b o

-- what a node does at once, as a run
abbrev pub lifted : {R : Type 0} → Result R Stop → Result R Unfinished
lifted (Ok v) = Ok v
lifted (Err (stops.Fault t s)) = Err (Fault t s (record { home = None; span = s }))
lifted (Err stops.Over) = Err Over
lifted (Err stops.Memory) = Err Memory
lifted (Err stops.Stuck) = Err Stuck

-- the values are these trees
abbrev pub AreValues : Vec (code.Value Global) Global → List Value → Type 0
AreValues vs ts = map tree_of vs.items ≡ ts

-- the places are these
abbrev pub ArePlaces : Vec ℕ Global → List ℕ → Type 0
ArePlaces ps is = ps.items ≡ is

-- the places are those of a sequence of this length
abbrev pub LenIs : ℕ → List ℕ → Type 0
LenIs n is = range_with_len 0 n ≡ is

-- what becomes of two parts
abbrev pub joined_by : Span → Joined → Value → Value → Traced Value
joined_by s joined.Pair x y = charged s (small_enough s (values.pair x y))
joined_by s (joined.Argument f) x y = charged s (apply_builtin s f (values.pair x y))

-- a range with a stride
abbrev pub strided : Span → Value → Value → Value → Traced Value
strided s x y z = charged s (apply_builtin s (OfSequences seq.RangeBy) (values.pair x (values.pair y z)))
