-- Code in the order of evaluation. Values are on a stack, the last one first; the values of local names lie one
-- after the other, those of the newest frame last.
use Rattle.std.specs.Prelude.{ℕ, ℤ, Bool, List}
use Rattle.nesl_lex.specs.declared.token.Span.{Span}
use Rattle.nesl_builtins.specs.declared.builtin.Builtin.{Builtin}
use Rattle.nesl_eval_code.specs.declared.code.Step.{Step}
use Rattle.nesl_eval_meaning.specs.Names.{Name}

-- what has no parts: a literal, a local name by the place of its value and the steps from there, or a top-level name
pub data What : Type 0 where
  number : ℤ → What
  truth : Bool → What
  character : ℕ → What
  text : List ℕ → What
  empty : What
  local : ℕ → List Step → What
  missing : What
  top : ℕ → What
  by_name : Name → What

pub record Leaf : Type 0 where
  pub span : Span
  pub what : What

-- what is made of the values of a node's parts: a built-in function of one, two or three values, of two that are
-- written as a pair with a span of its own, a pair, or a sequence
pub data Maker : Type 0 where
  of_one : Builtin → Maker
  of_two : Builtin → Maker
  of_three : Builtin → Maker
  of_pair : Span → Builtin → Maker
  pairing : Maker
  listing : Maker

-- what is called: a place of the top level, or a name
pub data Callee : Type 0 where
  placed : ℕ → Callee
  called_by : Name → Callee

-- each operation with those after it. A height is that of a node in its body
pub data Block : Type 0 where
  -- nothing more: one value is left
  finish : Block
  -- a leaf's value
  push : ℕ → Leaf → Block → Block
  -- a node is entered
  enter : ℕ → Span → Block → Block
  -- a node's value at this height is made of some values of the stack, by their number, and of these leaves
  make : ℕ → Span → Maker → ℕ → List Leaf → Block → Block
  -- the one or the other, and then the rest
  choose : Block → Block → Block → Block
  -- the one or the other, after which nothing is left to do
  last : Block → Block → Block
  -- a call, whose parts and body have a level less than the node at this height
  call : ℕ → Span → Callee → Block → Block
  -- the value is that of one more local name
  bind : Block → Block
  -- only the first local names are left, as many as the number says
  forget : ℕ → Block → Block
  -- a body at all places of some sequences, by their number, or at those where a filter holds
  each : Span → ℕ → Block → Block → Block
  filtered : Span → ℕ → Block → Block → Block → Block
