-- The variables of each built-in are numbered in the order in which they first occur, and each has a class.
use Rattle.std.proofs.Common.{◌≡◌, ◌++◌, length, refl}
use Rattle.nesl_types_shared.specs.Numbering.{IsBelow, variables, first_occurrences, numbers_below}
use Rattle.nesl_types_shared.proofs.Numbers.{numbered-below}
use Rattle.nesl_builtins.specs.declared.builtin.Builtin.{Builtin}
use Rattle.nesl_builtins.specs.declared.builtin.Builtin.TheVariants.{OfOne, OfTwo, OfSequences}
use Rattle.nesl_builtins.specs.FunctionTypes.{FunctionType, builtin_type}
use Rattle.nesl_scalars.specs.declared.unary.Unary.{Unary}
use Rattle.nesl_scalars.specs.declared.unary.Unary.TheVariants as unary
use Rattle.nesl_scalars.specs.declared.binary.Binary.{Binary}
use Rattle.nesl_scalars.specs.declared.binary.Binary.TheVariants as binary
use Rattle.nesl_seqs_base.specs.declared.seq_fn.SeqFn.{SeqFn}
use Rattle.nesl_seqs_base.specs.declared.seq_fn.SeqFn.TheVariants as seq

abbrev IsNumbered : FunctionType → Type 0
IsNumbered f = first_occurrences (variables f.argument ++ variables f.result) ≡ numbers_below (length f.classes)

of_one : (f : Unary) → IsNumbered (builtin_type (OfOne f))
of_one unary.Not = refl
of_one unary.Plusp = refl
of_one unary.Minusp = refl
of_one unary.Zerop = refl
of_one unary.Oddp = refl
of_one unary.Evenp = refl
of_one unary.Negate = refl
of_one unary.Abs = refl
of_one unary.Isqrt = refl
of_one unary.Btoi = refl
of_one unary.CharCode = refl
of_one unary.CodeChar = refl

of_two : (f : Binary) → IsNumbered (builtin_type (OfTwo f))
of_two binary.And = refl
of_two binary.Or = refl
of_two binary.Xor = refl
of_two binary.Nand = refl
of_two binary.Nor = refl
of_two binary.Equal = refl
of_two binary.Unequal = refl
of_two binary.Less = refl
of_two binary.Greater = refl
of_two binary.AtMost = refl
of_two binary.AtLeast = refl
of_two binary.Add = refl
of_two binary.Subtract = refl
of_two binary.Multiply = refl
of_two binary.Divide = refl
of_two binary.Rem = refl
of_two binary.Max = refl
of_two binary.Min = refl
of_two binary.Lshift = refl
of_two binary.Rshift = refl

of_sequences : (f : SeqFn) → IsNumbered (builtin_type (OfSequences f))
of_sequences seq.Length = refl
of_sequences seq.ElementAt = refl
of_sequences seq.Append = refl
of_sequences seq.Dist = refl
of_sequences seq.Range = refl
of_sequences seq.RangeBy = refl
of_sequences seq.Index = refl
of_sequences seq.Sum = refl
of_sequences seq.Any = refl
of_sequences seq.All = refl
of_sequences seq.Count = refl
of_sequences seq.Bottop = refl
of_sequences seq.Take = refl
of_sequences seq.Drop = refl
of_sequences seq.Reverse = refl
of_sequences seq.Rotate = refl
of_sequences seq.Zip = refl
of_sequences seq.Rep = refl
of_sequences seq.Eql = refl
of_sequences seq.MaxVal = refl
of_sequences seq.MinVal = refl
of_sequences seq.MaxIndex = refl
of_sequences seq.MinIndex = refl
of_sequences seq.PlusScan = refl
of_sequences seq.OrScan = refl
of_sequences seq.AndScan = refl
of_sequences seq.Flatten = refl
of_sequences seq.Unzip = refl
of_sequences seq.OddElts = refl
of_sequences seq.EvenElts = refl
of_sequences seq.Interleave = refl
of_sequences seq.Gather = refl
of_sequences seq.Permute = refl
of_sequences seq.Split = refl
of_sequences seq.Partition = refl
of_sequences seq.Write = refl

pub numbered : (b : Builtin) → IsNumbered (builtin_type b)
numbered (OfOne f) = of_one f
numbered (OfTwo f) = of_two f
numbered (OfSequences f) = of_sequences f

-- each variable of what a built-in takes and gives has a class
pub within : (b : Builtin) → IsBelow (length (builtin_type b).classes) (builtin_type b).argument × IsBelow (length (builtin_type b).classes) (builtin_type b).result
within b = numbered-below (builtin_type b).argument (builtin_type b).result (length (builtin_type b).classes) (numbered b)
