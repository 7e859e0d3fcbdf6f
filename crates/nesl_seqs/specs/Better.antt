-- The best so far.
use Rattle.std.specs.Prelude.{ℤ, pos, ◌≤ℤ◌, ◌<ℤ◌, Option, Some, None, cond}
use Rattle.nesl_seqs_base.specs.Extremes.{leads}
use Rattle.nesl_seqs_base.specs.declared.order.Best.{Best}
use Rattle.nesl_seqs_base.specs.declared.order.Order.{Order}
use Rattle.nesl_seqs_base.specs.declared.order.Kind.{Kind}
use Rattle.nesl_seqs_base.specs.declared.order.Kind.TheVariants.{Numbers, Codes}

-- the better of the best so far, if there is one, and the next
abbrev pub better : Order → Option Best → Best → Best
better o None n = n
better o (Some b) n = cond (leads o b.key n.key) b n

-- the number of an element of this kind: a character's code is a byte
abbrev pub IsKey : Kind → ℤ → Type 0
IsKey Numbers z = Unit {0}
IsKey Codes z = (pos 0 ≤ℤ z) × (z <ℤ pos 256)
