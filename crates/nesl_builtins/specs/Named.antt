-- Which built-in a name before `(` is, and which one an operator is.
use Rattle.std.specs.Prelude.{ℕ, List, [], ◌∷◌, Option, Some, None, codes, if◌then◌else◌}
use Rattle.std.specs.Str.{bytes_eq}
use Rattle.nesl_syntax_tree.specs.declared.tree.Operator.{Operator}
use Rattle.nesl_syntax_tree.specs.declared.tree.Operator.TheVariants as ops
use Rattle.nesl_syntax_tree.specs.declared.tree.Prefix.{Prefix}
use Rattle.nesl_syntax_tree.specs.declared.tree.Prefix.TheVariants as pre
use Rattle.nesl_scalars.specs.declared.unary.Unary.TheVariants as unary
use Rattle.nesl_scalars.specs.declared.binary.Binary.TheVariants as binary
use Rattle.nesl_seqs_base.specs.declared.seq_fn.SeqFn.TheVariants as seq
use Rattle.nesl_builtins.specs.declared.builtin.Builtin.{Builtin}
use Rattle.nesl_builtins.specs.declared.builtin.Builtin.TheVariants.{OfOne, OfTwo, OfSequences}

abbrev pub prefix_builtin : Prefix → Builtin
prefix_builtin pre.Length = OfSequences seq.Length
prefix_builtin pre.Negate = OfOne unary.Negate

abbrev pub infix_builtin : Operator → Builtin
infix_builtin ops.Or = OfTwo binary.Or
infix_builtin ops.Nor = OfTwo binary.Nor
infix_builtin ops.Xor = OfTwo binary.Xor
infix_builtin ops.And = OfTwo binary.And
infix_builtin ops.Nand = OfTwo binary.Nand
infix_builtin ops.Equal = OfTwo binary.Equal
infix_builtin ops.NotEqual = OfTwo binary.Unequal
infix_builtin ops.Less = OfTwo binary.Less
infix_builtin ops.Greater = OfTwo binary.Greater
infix_builtin ops.LessOrEqual = OfTwo binary.AtMost
infix_builtin ops.GreaterOrEqual = OfTwo binary.AtLeast
infix_builtin ops.Plus = OfTwo binary.Add
infix_builtin ops.Minus = OfTwo binary.Subtract
infix_builtin ops.Append = OfSequences seq.Append
infix_builtin ops.Write = OfSequences seq.Write
infix_builtin ops.Times = OfTwo binary.Multiply
infix_builtin ops.Divide = OfTwo binary.Divide
infix_builtin ops.Read = OfSequences seq.Gather

-- what the first of these names means
abbrev pub look_up : {X : Type 0} → List (List ℕ × X) → List ℕ → Option X
look_up [] x = None
look_up (e ∷ es) x = if bytes_eq x e.0 then Some e.1 else look_up es x

-- the built-ins that are called by a name
abbrev pub builtins : List (List ℕ × Builtin)
builtins =
    (codes "not", OfOne unary.Not) ∷ (codes "plusp", OfOne unary.Plusp) ∷
    (codes "minusp", OfOne unary.Minusp) ∷ (codes "zerop", OfOne unary.Zerop) ∷
    (codes "oddp", OfOne unary.Oddp) ∷ (codes "evenp", OfOne unary.Evenp) ∷
    (codes "negate", OfOne unary.Negate) ∷ (codes "abs", OfOne unary.Abs) ∷
    (codes "isqrt", OfOne unary.Isqrt) ∷ (codes "btoi", OfOne unary.Btoi) ∷
    (codes "char_code", OfOne unary.CharCode) ∷ (codes "code_char", OfOne unary.CodeChar) ∷
    (codes "rem", OfTwo binary.Rem) ∷ (codes "max", OfTwo binary.Max) ∷
    (codes "min", OfTwo binary.Min) ∷ (codes "lshift", OfTwo binary.Lshift) ∷
    (codes "rshift", OfTwo binary.Rshift) ∷ (codes "dist", OfSequences seq.Dist) ∷
    (codes "index", OfSequences seq.Index) ∷ (codes "sum", OfSequences seq.Sum) ∷
    (codes "max_val", OfSequences seq.MaxVal) ∷ (codes "min_val", OfSequences seq.MinVal) ∷
    (codes "any", OfSequences seq.Any) ∷ (codes "all", OfSequences seq.All) ∷
    (codes "count", OfSequences seq.Count) ∷ (codes "max_index", OfSequences seq.MaxIndex) ∷
    (codes "min_index", OfSequences seq.MinIndex) ∷ (codes "plus_scan", OfSequences seq.PlusScan) ∷
    (codes "or_scan", OfSequences seq.OrScan) ∷ (codes "and_scan", OfSequences seq.AndScan) ∷
    (codes "flatten", OfSequences seq.Flatten) ∷ (codes "partition", OfSequences seq.Partition) ∷
    (codes "split", OfSequences seq.Split) ∷ (codes "bottop", OfSequences seq.Bottop) ∷
    (codes "take", OfSequences seq.Take) ∷ (codes "drop", OfSequences seq.Drop) ∷
    (codes "reverse", OfSequences seq.Reverse) ∷ (codes "rotate", OfSequences seq.Rotate) ∷
    (codes "odd_elts", OfSequences seq.OddElts) ∷ (codes "even_elts", OfSequences seq.EvenElts) ∷
    (codes "interleave", OfSequences seq.Interleave) ∷ (codes "zip", OfSequences seq.Zip) ∷
    (codes "unzip", OfSequences seq.Unzip) ∷ (codes "permute", OfSequences seq.Permute) ∷
    (codes "rep", OfSequences seq.Rep) ∷ (codes "eql", OfSequences seq.Eql) ∷ []

unfoldable pub builtin_named : List ℕ → Option Builtin
builtin_named x = look_up builtins x
