-- What is charged within a part of a text.
use Rattle.std.specs.Prelude.{ℕ, Bool, ◌&&◌, List, nat_le, if◌then◌else◌}
use Rattle.std.specs.List.{sum_by}
use Rattle.nesl_lex.specs.declared.token.Span.{Span}
use Rattle.nesl_cost_rows.specs.declared.charge.Charge.{Charge}

-- whether the first span is within the second one
abbrev pub is_in : Span → Span → Bool
is_in s t = nat_le t.start s.start && nat_le s.end t.end

abbrev pub work_in_span : Span → Charge → ℕ
work_in_span s c = if is_in c.span s then c.work else 0

abbrev pub depth_in_span : Span → Charge → ℕ
depth_in_span s c = if is_in c.span s then c.depth else 0

-- the work, and the depth, that is charged within a span
abbrev pub work_within : Span → List Charge → ℕ
work_within s cs = sum_by (λ c. work_in_span s c) cs

abbrev pub depth_within : Span → List Charge → ℕ
depth_within s cs = sum_by (λ c. depth_in_span s c) cs
