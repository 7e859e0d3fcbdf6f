-- Where the work and the depth of an evaluation come from.
use Rattle.std.specs.Prelude.{ℕ, zero, suc, ◌+◌, max, nat_le, List, [], ◌∷◌, ◌++◌, Option, Some, None, if◌then◌else◌}
use Rattle.nesl_lex.specs.declared.token.Span.{Span}
use Rattle.nesl_eval_meaning.specs.Names.{Name}

-- what an evaluation cost, in order: nothing; a node was entered, which costs 1 of both; what a node cost besides; one
-- thing after another; a turn of an apply-to-each, at its place, beside the turns after it; and the body of a function,
-- called at a span. Spans below `called` are in the text of that function
pub data Cost : Type 0 where
  free : Cost
  entered : Span → Cost
  besides : Span → (work depth : ℕ) → Cost
  after : Cost → Cost → Cost
  turn : Span → (at : ℕ) → Cost → (others : Cost) → Cost
  called : Name → Span → Cost → Cost

-- what a node cost besides, if it is anything
abbrev pub spent : Span → (work depth : ℕ) → Cost
spent s zero zero = free
spent s zero (suc d) = besides s zero (suc d)
spent s (suc w) d = besides s (suc w) d

-- works add
abbrev pub work_in : Cost → ℕ
work_in free = 0
work_in (entered s) = 1
work_in (besides s w d) = w
work_in (after c e) = work_in c + work_in e
work_in (turn s i c cs) = work_in c + work_in cs
work_in (called x s c) = work_in c

-- depths add in sequence, and of turns the greatest counts
abbrev pub depth_in : Cost → ℕ
depth_in free = 0
depth_in (entered s) = 1
depth_in (besides s w d) = d
depth_in (after c e) = depth_in c + depth_in e
depth_in (turn s i c cs) = max (depth_in c) (depth_in cs)
depth_in (called x s c) = depth_in c

-- where a node is: in the line, or in the body of a function
pub record Place : Type 0 where
  pub home : Option Name
  pub span : Span

-- what is charged at a place: how often it was entered, work and depth; or, at no cost, the place of the turn that
-- decides there
pub record Charge : Type 0 where
  pub place : Place
  pub entries : ℕ
  pub work : ℕ
  pub depth : ℕ
  pub decides : Option ℕ

abbrev pub charge_at : Option Name → Span → ℕ → ℕ → ℕ → Charge
charge_at h s n w d = record { place = record { home = h; span = s }; entries = n; work = w; depth = d; decides = None }

abbrev pub decision : Option Name → Span → ℕ → Charge
decision h s i =
    record { place = record { home = h; span = s }; entries = 0; work = 0; depth = 0; decides = Some i }

-- all charges, in order
abbrev pub charges : Option Name → Cost → List Charge
charges h free = []
charges h (entered s) = charge_at h s 1 1 1 ∷ []
charges h (besides s w d) = charge_at h s 0 w d ∷ []
charges h (after c e) = charges h c ++ charges h e
charges h (turn s i c cs) = charges h c ++ charges h cs
charges h (called x s c) = charges (Some x) c

-- the charges on the critical path: of turns those of the deepest one, the first such
abbrev pub path : Option Name → Cost → List Charge
path h free = []
path h (entered s) = charge_at h s 1 1 1 ∷ []
path h (besides s w d) = charge_at h s 0 w d ∷ []
path h (after c e) = path h c ++ path h e
path h (turn s i c cs) = if nat_le (depth_in cs) (depth_in c) then decision h s i ∷ path h c else path h cs
path h (called x s c) = path (Some x) c

-- the work and the depth of charges together
abbrev pub works : List Charge → ℕ
works [] = 0
works (c ∷ cs) = c.work + works cs

abbrev pub depths : List Charge → ℕ
depths [] = 0
depths (c ∷ cs) = c.depth + depths cs
