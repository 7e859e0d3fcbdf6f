-- The types of the built-in functions, one line each.
use Rattle.std.specs.Prelude.{List, [], ◌∷◌}
use Rattle.nesl_types.specs.declared.classes.Class.{Class}
use Rattle.nesl_types.specs.declared.classes.Class.TheVariants.{Any, Ordinal, Number, Logical}
use Rattle.nesl_types.specs.declared.schemes.Scheme.{Scheme}
use Rattle.nesl_types_shared.specs.Term.{Term, int, bool, char, variable, seq_of, pair_of}
use Rattle.nesl_scalars.specs.declared.unary.Unary.{Unary}
use Rattle.nesl_scalars.specs.declared.unary.Unary.TheVariants as unary
use Rattle.nesl_scalars.specs.declared.binary.Binary.{Binary}
use Rattle.nesl_scalars.specs.declared.binary.Binary.TheVariants as binary
use Rattle.nesl_seqs_base.specs.declared.seq_fn.SeqFn.{SeqFn}
use Rattle.nesl_seqs_base.specs.declared.seq_fn.SeqFn.TheVariants as seq
use Rattle.nesl_builtins.specs.declared.builtin.Builtin.{Builtin}
use Rattle.nesl_builtins.specs.declared.builtin.Builtin.TheVariants.{OfOne, OfTwo, OfSequences}

-- what a function takes and gives, and the class of each variable of these types
pub record FunctionType : Type 0 where
  pub argument : Term
  pub result : Term
  pub classes : List Class

abbrev pub function_type : Scheme → FunctionType
function_type s = record { argument = s.argument; result = s.result; classes = s.classes.items }

-- a function whose types have the variable `a`, of a class; and one that takes and gives types without a class
abbrev pub a : Term
a = variable 0

abbrev pub b : Term
b = variable 1

abbrev pub in_class : Class → Term → Term → FunctionType
in_class c t u = record { argument = t; result = u; classes = c ∷ [] }

abbrev pub plain : Term → Term → FunctionType
plain t u = record { argument = t; result = u; classes = [] }

abbrev pub any_two : Term → Term → FunctionType
any_two t u = record { argument = t; result = u; classes = Any ∷ Any ∷ [] }

abbrev pub unary_type : Unary → FunctionType
unary_type unary.Not = in_class Logical a a
unary_type unary.Plusp = in_class Number a bool
unary_type unary.Minusp = in_class Number a bool
unary_type unary.Zerop = in_class Number a bool
unary_type unary.Oddp = plain int bool
unary_type unary.Evenp = plain int bool
unary_type unary.Negate = in_class Number a a
unary_type unary.Abs = in_class Number a a
unary_type unary.Isqrt = plain int int
unary_type unary.Btoi = plain bool int
unary_type unary.CharCode = plain char int
unary_type unary.CodeChar = plain int char

abbrev pub binary_type : Binary → FunctionType
binary_type binary.And = in_class Logical (pair_of a a) a
binary_type binary.Or = in_class Logical (pair_of a a) a
binary_type binary.Xor = in_class Logical (pair_of a a) a
binary_type binary.Nand = in_class Logical (pair_of a a) a
binary_type binary.Nor = in_class Logical (pair_of a a) a
binary_type binary.Equal = in_class Ordinal (pair_of a a) bool
binary_type binary.Unequal = in_class Ordinal (pair_of a a) bool
binary_type binary.Less = in_class Ordinal (pair_of a a) bool
binary_type binary.Greater = in_class Ordinal (pair_of a a) bool
binary_type binary.AtMost = in_class Ordinal (pair_of a a) bool
binary_type binary.AtLeast = in_class Ordinal (pair_of a a) bool
binary_type binary.Add = in_class Number (pair_of a a) a
binary_type binary.Subtract = in_class Number (pair_of a a) a
binary_type binary.Multiply = in_class Number (pair_of a a) a
binary_type binary.Divide = in_class Number (pair_of a a) a
binary_type binary.Rem = plain (pair_of int int) int
binary_type binary.Max = in_class Ordinal (pair_of a a) a
binary_type binary.Min = in_class Ordinal (pair_of a a) a
binary_type binary.Lshift = plain (pair_of int int) int
binary_type binary.Rshift = plain (pair_of int int) int

abbrev pub sequence_type : SeqFn → FunctionType
sequence_type seq.Length = in_class Any (seq_of a) int
sequence_type seq.ElementAt = in_class Any (pair_of (seq_of a) int) a
sequence_type seq.Append = in_class Any (pair_of (seq_of a) (seq_of a)) (seq_of a)
sequence_type seq.Dist = in_class Any (pair_of a int) (seq_of a)
sequence_type seq.Range = plain (pair_of int int) (seq_of int)
sequence_type seq.RangeBy = plain (pair_of int (pair_of int int)) (seq_of int)
sequence_type seq.Index = plain int (seq_of int)
sequence_type seq.Sum = in_class Number (seq_of a) a
sequence_type seq.Any = plain (seq_of bool) bool
sequence_type seq.All = plain (seq_of bool) bool
sequence_type seq.Count = plain (seq_of bool) int
sequence_type seq.Bottop = in_class Any (seq_of a) (seq_of (seq_of a))
sequence_type seq.Take = in_class Any (pair_of (seq_of a) int) (seq_of a)
sequence_type seq.Drop = in_class Any (pair_of (seq_of a) int) (seq_of a)
sequence_type seq.Reverse = in_class Any (seq_of a) (seq_of a)
sequence_type seq.Rotate = in_class Any (pair_of (seq_of a) int) (seq_of a)
sequence_type seq.Zip = any_two (pair_of (seq_of a) (seq_of b)) (seq_of (pair_of a b))
sequence_type seq.Rep = in_class Any (pair_of (seq_of a) (pair_of a int)) (seq_of a)
sequence_type seq.Eql = in_class Any (pair_of a a) bool
sequence_type seq.MaxVal = in_class Ordinal (seq_of a) a
sequence_type seq.MinVal = in_class Ordinal (seq_of a) a
sequence_type seq.MaxIndex = in_class Ordinal (seq_of a) int
sequence_type seq.MinIndex = in_class Ordinal (seq_of a) int
sequence_type seq.PlusScan = in_class Number (seq_of a) (seq_of a)
sequence_type seq.OrScan = in_class Logical (seq_of a) (seq_of a)
sequence_type seq.AndScan = in_class Logical (seq_of a) (seq_of a)
sequence_type seq.Flatten = in_class Any (seq_of (seq_of a)) (seq_of a)
sequence_type seq.Unzip = any_two (seq_of (pair_of a b)) (pair_of (seq_of a) (seq_of b))
sequence_type seq.OddElts = in_class Any (seq_of a) (seq_of a)
sequence_type seq.EvenElts = in_class Any (seq_of a) (seq_of a)
sequence_type seq.Interleave = in_class Any (pair_of (seq_of a) (seq_of a)) (seq_of a)
sequence_type seq.Gather = in_class Any (pair_of (seq_of a) (seq_of int)) (seq_of a)
sequence_type seq.Permute = in_class Any (pair_of (seq_of a) (seq_of int)) (seq_of a)
sequence_type seq.Split = in_class Any (pair_of (seq_of a) (seq_of bool)) (seq_of (seq_of a))
sequence_type seq.Partition = in_class Any (pair_of (seq_of a) (seq_of int)) (seq_of (seq_of a))
sequence_type seq.Write = in_class Any (pair_of (seq_of a) (seq_of (pair_of int a))) (seq_of a)

abbrev pub builtin_type : Builtin → FunctionType
builtin_type (OfOne f) = unary_type f
builtin_type (OfTwo f) = binary_type f
builtin_type (OfSequences f) = sequence_type f
