-- What a file in memory has.
use Rattle.std.specs.Prelude.{ℕ, List}
use Rattle.nesl_keep.specs.declared.memory.Memory.{Memory}

-- its bytes
abbrev pub memory_bytes : Memory → List ℕ
memory_bytes m = m.bytes.items
