-- How a trace is read.
use Rattle.std.specs.Prelude.{ℕ, nat_le, List, [], ◌∷◌, ◌++◌, map, reverse, Option, option_map, Some}
use Rattle.std.specs.Prelude.{if◌then◌else◌}
use Rattle.std.proofs.Common.{Bor}
use Rattle.nesl_eval_meaning.specs.Names.{Name}
use Rattle.nesl_cost_meaning.specs.Cost as cost
use Rattle.nesl_cost_meaning.specs.Cost.{charge_at, decision, depths}
use Rattle.nesl_cost_rows.specs.Charges.{charge_of}
use Rattle.nesl_cost_rows.specs.declared.charge.Path.{Path}
use Rattle.nesl_cost_rows.specs.declared.reading.Reading.{Reading}
use Rattle.nesl_cost_rows.specs.Written.{Note, entered, besides, turn, others, turned, called, returned}

-- the charges of a path
abbrev pub charges_in : Path → List cost.Charge
charges_in p = map charge_of p.charges.items

-- the deeper one, the first such
abbrev pub deeper_of : List cost.Charge → List cost.Charge → List cost.Charge
deeper_of cs ds = if nat_le (depths ds) (depths cs) then cs else ds

-- where the next mark is, and where the functions were called that are not over, the newest first; all charges so far;
-- the path so far, and the paths before it and beside it, the newest first
pub record State : Type 0 where
  pub home : Option Name
  pub callers : List (Option Name)
  pub all : List cost.Charge
  pub path : List cost.Charge
  pub waiting : List (List cost.Charge)

abbrev pub state : Option Name → List (Option Name) → List cost.Charge → List cost.Charge → List (List cost.Charge)
    → State
state h hs cs p ps = record { home = h; callers = hs; all = cs; path = p; waiting = ps }

abbrev pub home_of : Option (Bor (List ℕ)) → Option Name
home_of h = option_map (λ x. x.now) h

abbrev pub state_of : Reading → State
state_of r =
    state (home_of r.home) (reverse (map home_of r.callers.items)) (map charge_of r.charges.items) (charges_in r.path)
    (reverse (map charges_in r.waiting.items))

abbrev pub charged : cost.Charge → State → State
charged c st = state st.home st.callers (st.all ++ c ∷ []) (st.path ++ c ∷ []) st.waiting

abbrev pub set_apart : List cost.Charge → State → State
set_apart p st = state st.home st.callers st.all p (st.path ∷ st.waiting)

-- the turn's path is beside that of the others, and both after what was before
abbrev pub joined : State → State
joined st = by st.waiting
  where
    by : List (List cost.Charge) → State
    by (t ∷ before ∷ ps) = state st.home st.callers st.all (before ++ deeper_of t st.path) ps
    by ps = st

abbrev pub inside : Name → State → State
inside x st = state (Some x) (st.home ∷ st.callers) st.all st.path st.waiting

abbrev pub outside : State → State
outside st = by st.callers
  where
    by : List (Option Name) → State
    by (h ∷ hs) = state h hs st.all st.path st.waiting
    by [] = st

abbrev pub step : Note → State → State
step (entered s) st = charged (charge_at st.home s 1 1 1) st
step (besides s w d) st = charged (charge_at st.home s 0 w d) st
step (turn s i) st = set_apart (decision st.home s i ∷ []) st
step others st = set_apart [] st
step turned st = joined st
step (called x s) st = inside x st
step returned st = outside st

abbrev pub read_on : List Note → State → State
read_on [] st = st
read_on (n ∷ ns) st = read_on ns (step n st)
