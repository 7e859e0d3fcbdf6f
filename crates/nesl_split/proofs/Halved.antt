-- What a half finds.
use Rattle.std.proofs.Common.{◌≡◌, ℕ, ◌+◌, ◌-◌, ◌≤◌, ◌++◌, sym, ◌∙◌, ap, Result, Ok, Err, arith}
use Rattle.std.specs.Prelude.{slice_range}
use Rattle.nesl_scalars.specs.declared.cost.Cost.{Cost}
use Rattle.nesl_eval_meaning.specs.Out.{Out, value, fault, stuck, and_then, beside, all_beside}
use Rattle.nesl_eval_meaning.proofs.Joins.{all_halved}
use Rattle.nesl_eval_code.specs.Run.{Table}
use Rattle.nesl_eval_nodes.specs.Sides.{places_of}
use Rattle.nesl_eval_nodes.specs.declared.meter.Meter.{Meter}
use Rattle.nesl_eval_nodes.specs.declared.meter.Stop.{Stop}
use Rattle.nesl_eval_nodes.specs.declared.meter.Stop.TheVariants.{Fault, Over, Memory, Stuck}
use Rattle.nesl_eval_nodes.specs.Meets.{Meets}
use Rattle.nesl_eval_helpers.specs.Halves.{after_cost}
use Rattle.nesl_eval_helpers.specs.declared.halving.Half.{Half}
use Rattle.nesl_split.specs.declared.turns.Turns.{Turns}
use Rattle.nesl_split.specs.declared.turns.Interval.{Interval}
use Rattle.nesl_split.specs.Finding.{of_value}
use Rattle.nesl_split.specs.Intervals.{at_turn, found_in, AreHalves}
use Rattle.nesl_split.specs.Halves.{Within, HalfFinds}
use Rattle.nesl_split.proofs.Ranges.{range_cut}

-- the same run from another depth
moved : {V X : Type 0} (T : V → X → Type 0) (m begun last : Meter) (r : Result V Stop) (c : Cost) (o : Out X) → m.fuel ≡ begun.fuel → begun.depth ≡ 0 → c.work ≡ begun.fuel - last.fuel → c.depth ≡ last.depth - begun.depth → Meets T begun r last o → Meets T m r (after_cost m c) o
moved T m begun last r c stuck e z w d h = tt
moved T m begun last (Ok v) c (value x a b) e z w d h = (h.0, omega (arith, h.1), omega (arith, h.2))
moved T m begun last (Ok v) c (fault k s a) e z w d h = h
moved T m begun last (Err (Fault k' s')) c (value x a b) e z w d h = h
moved T m begun last (Err (Fault k' s')) c (fault k s a) e z w d h = (h.0, h.1, omega (arith, h.2))
moved T m begun last (Err Over) c (value x a b) e z w d h = omega (arith, h)
moved T m begun last (Err Over) c (fault k s a) e z w d h = omega (arith, h)
moved T m begun last (Err Memory) c (value x a b) e z w d h = tt
moved T m begun last (Err Memory) c (fault k s a) e z w d h = tt
moved T m begun last (Err Stuck) c (value x a b) e z w d h = h
moved T m begun last (Err Stuck) c (fault k s a) e z w d h = h

-- a run that began with the whole fuel, at no depth
pub within : {V : Type 0} (begun last : Meter) (h : Half V) → begun.depth ≡ 0 → last.fuel + last.depth ≤ begun.fuel + begun.depth → h.cost.work ≡ begun.fuel - last.fuel → h.cost.depth ≡ last.depth - begun.depth → Within begun.fuel h
within begun last h z spent w d = λ m e. (omega arith, omega arith)

pub finds : {V X : Type 0} (T : V → X → Type 0) (begun last : Meter) (r : Result V Stop) (c : Cost) (o : Out X) → begun.depth ≡ 0 → c.work ≡ begun.fuel - last.fuel → c.depth ≡ last.depth - begun.depth → Meets T begun r last o → HalfFinds T begun.fuel (record { found = r; cost = c }) o
finds T begun last r c o z w d h = λ m e. moved T m begun last r c o e z w d h

-- both halves come to the whole
pub found_halved : {R H G T : Type 0} (table : T → Table) (i : Interval R H G T) (ts left right : Turns) → AreHalves ts left right →
    found_in table i ts ≡ beside (found_in table i left) (found_in table i right)
found_halved table i ts left right h =
    let is = places_of i.places in
    let q = λ (k : ℕ). and_then (at_turn table i k) (of_value i.wanted k) in
    let cut : slice_range is ts.from ts.to ≡ slice_range is left.from left.to ++ slice_range is right.from right.to =
    range_cut is ts.from left.to ts.to h.3 h.4
    ∙ ap (λ k. slice_range is k left.to ++ slice_range is left.to ts.to) (sym h.0)
    ∙ ap (λ k. slice_range is left.from left.to ++ slice_range is k ts.to) (sym h.1)
    ∙ ap (λ k. slice_range is left.from left.to ++ slice_range is right.from k) (sym h.2) in
    ap (all_beside q) cut ∙ all_halved q (slice_range is left.from left.to) (slice_range is right.from right.to)
