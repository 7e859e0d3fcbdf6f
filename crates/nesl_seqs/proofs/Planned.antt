-- What is planned, and its price.
use Rattle.std.proofs.Common.{◌≡◌, ◌∙◌, ℕ, ◌+◌, ◌-◌, ◌^◌, ◌<◌, ◌≤◌, Option, Some, None, Result, Ok, Err, IfOk, IsSome, SomeIff, refl, ap, sym, subst, arith}
use Rattle.nesl_scalars.specs.declared.trap.Trap.{Trap}
use Rattle.nesl_values.specs.Tree.{ValueTree, size}
use Rattle.nesl_values.specs.View.{tree_of}
use Rattle.nesl_values.specs.declared.value.Value.{Value}
use Rattle.nesl_seqs_base.specs.Lent.{argument_tree}
use Rattle.nesl_seqs_base.specs.Meaning.{outcome_of}
use Rattle.nesl_seqs_base.specs.Outcome.{Outcome, IsGiven, gives}
use Rattle.nesl_seqs_base.specs.Prices.{Prices, price, depth_of}
use Rattle.nesl_seqs_base.specs.declared.argument.Argument.{Argument}
use Rattle.nesl_seqs_base.specs.declared.price.Price.{Price}
use Rattle.nesl_seqs_base.specs.declared.seq_fn.SeqFn.{SeqFn}
use Rattle.nesl_seqs_base.specs.declared.seq_fn.SeqFn.TheVariants.{Dist}
use Rattle.nesl_seqs_base.proofs.Sizes.{size_positive}
use Rattle.nesl_seqs.specs.Few.{HasFewNodes}
use Rattle.nesl_seqs.specs.Plans.{Plans, built, read_by, depth_by}
use Rattle.nesl_seqs.specs.declared.plans.Plan.{Plan}
use Rattle.nesl_seqs.proofs.Bounds.{Fits}
use Rattle.nesl_seqs.proofs.Depths.{depth_fits}

-- what has a plan has a result
pub plan_given : {A : Type 0} (o : Outcome) (read depth : ℕ) (p : Plan A) → Plans o read depth (Ok p) → IsGiven o
plan_given o read depth p h = subst IsGiven (sym h.0) tt

-- what is returned as the price of a plan
abbrev pub IsTold : {A : Type 0} → Plan A → ℕ → Option Price → Type 0
IsTold p limit r = SomeIff r (1 + read_by p + (size (built p) - 1) ≤ limit) (price (read_by p) (depth_by p) (built p))

price_told : {A : Type 0} (p : Plan A) (limit : ℕ) (r : Option Price) (q : Price) → r ≡ Some q → IsTold p limit r → q ≡ price (read_by p) (depth_by p) (built p)
price_told p limit r q is told =
    let within : IsTold p limit (Some q) = subst (IsTold p limit) is told in
    within.1

-- it is the price of the outcome
pub plan_priced : {A : Type 0} (o : Outcome) (read depth limit : ℕ) (p : Plan A) (r : Option Price) (q : Price) → Plans o read depth (Ok p) → r ≡ Some q → IsTold p limit r → Prices o read depth (Ok q)
plan_priced o read depth limit p r q h is told =
    let steps : q ≡ price (read_by p) depth (built p) = subst (λ d. q ≡ price (read_by p) d (built p)) h.2 (price_told p limit r q is told) in
    let same : q ≡ price read depth (built p) = subst (λ n. q ≡ price n depth (built p)) h.1 steps in
    subst (λ u. Prices u read depth (Ok q)) (sym h.0) same

-- its depth is at least 1, and at most its work
pub plan_deep : {A : Type 0} (p : Plan A) (limit : ℕ) (r : Option Price) (q : Price) → (1 ≤ depth_by p) × (depth_by p ≤ 1 + read_by p) → r ≡ Some q → IsTold p limit r → (1 ≤ q.depth) × (q.depth ≤ q.work)
plan_deep p limit r q h is told =
    subst (λ (x : Price). (1 ≤ x.depth) × (x.depth ≤ x.work)) (sym (price_told p limit r q is told)) (h.0, omega (arith, h.1))

pub plan_built : {A E : Type 0} (o : Outcome) (read depth : ℕ) (p : Plan A) (r : Result (Value A) E) → Plans o read depth (Ok p) → IfOk r (λ v. tree_of v ≡ built p) → IfOk r (λ v. o ≡ gives (tree_of v))
plan_built o read depth p (Ok v) h made = h.0 ∙ ap gives (sym made)
plan_built o read depth p (Err e) h made = tt

-- a plan whose work fits has a price where there is no limit
abbrev pub HasRoom : {A : Type 0} → Plan A → Type 0
HasRoom p = 1 + read_by p + (size (built p) - 1) < 2 ^ 128

pub always_priced : {A : Type 0} (p : Plan A) (limit : ℕ) (r : Option Price) → HasRoom p → limit ≡ 2 ^ 128 - 1 → IsTold p limit r → IsSome r
always_priced p limit (Some x) room is h = refl
always_priced p limit None room is h = absurd (h (omega arith))

fits_gives : (o : Outcome) (t : ValueTree) (read n : ℕ) → o ≡ gives t → n ≡ read → Fits o read → 1 + n + (size t - 1) < 2 ^ 128
fits_gives o t read n is same fits =
    let room : Outcome → Type 0 = λ q. Fits q read in
    subst (λ m. 1 + m + (size t - 1) < 2 ^ 128) (sym same) (subst room is fits)

pub planned_fits : {A : Type 0} (o : Outcome) (read depth : ℕ) (r : Result (Plan A) Trap) → Fits o read → Plans o read depth r → IfOk r HasRoom
planned_fits o read depth (Ok p) fits h = fits_gives o (built p) read (read_by p) h.0 h.1 fits
planned_fits o read depth (Err e) fits h = tt

pub unread_fits : {A : Type 0} (o : Outcome) (depth : ℕ) (r : Result (Plan A) Trap) → Plans o 0 depth r → IfOk r (λ p. size (built p) < 2 ^ 65) → IfOk r HasRoom
unread_fits o depth (Ok p) h small =
    let none = h.1 in
    omega arith
unread_fits o depth (Err e) h small = tt

few_fits : {A : Type 0} (o : Outcome) (depth : ℕ) (r : Result (Plan A) Trap) → Plans o 0 depth r → IfOk r (λ p. size (built p) < 2 ^ 128) → IfOk r HasRoom
few_fits o depth (Ok p) h small =
    let none = h.1 in
    let positive : 0 < size (built p) = size_positive (built p) in
    omega arith
few_fits o depth (Err e) h small = tt

-- three parts are no argument of `dist`
pub dist_fits : {A : Type 0} (x : Argument A) (depth : ℕ) (r : Result (Plan A) Trap) → HasFewNodes x → Plans (outcome_of Dist (argument_tree x)) 0 depth r → (size (argument_tree x) < 2 ^ 65 → IfOk r (λ p. size (built p) < 2 ^ 128)) → IfOk r HasRoom
dist_fits (Argument.One x) depth r h plans small = few_fits (outcome_of Dist (argument_tree (Argument.One x))) depth r plans (small (omega (arith, h)))
dist_fits (Argument.Two x y) depth r h plans small = few_fits (outcome_of Dist (argument_tree (Argument.Two x y))) depth r plans (small (omega (arith, h.0, h.1)))
dist_fits (Argument.Three x y z) depth (Ok p) h plans small = absurd (cc plans.0)
dist_fits (Argument.Three x y z) depth (Err e) h plans small = tt

pub planned_deep : {A : Type 0} (f : SeqFn) (o : Outcome) (read : ℕ) (r : Result (Plan A) Trap) → Plans o read (depth_of f read) r → IfOk r (λ p. (1 ≤ depth_by p) × (depth_by p ≤ 1 + read_by p))
planned_deep f o read (Ok p) h =
    let from : ℕ → Type 0 = λ n. (1 ≤ depth_by p) × (depth_by p ≤ 1 + n) in
    let deep : ℕ → Type 0 = λ d. (1 ≤ d) × (d ≤ 1 + read) in
    subst from (sym h.1) (subst deep (sym h.2) (depth_fits f read))
planned_deep f o read (Err e) h = tt
