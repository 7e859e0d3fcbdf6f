-- What plans build, and for which price.
use Rattle.std.proofs.Common.{◌≡◌, ◌∙◌, ℕ, ◌+◌, ◌<◌, ◌^◌, ℤ, arith, List, [], length, Option, Some, None, option_map, option_and_then, unwrap_or, IsSome, Ok, Err, ap, sym, subst, refl}
use Rattle.std.proofs.lemmas.Option.{some_pair_parts}
use Rattle.nesl_scalars.specs.declared.trap.Trap.{Trap}
use Rattle.nesl_values.specs.Tree.{ValueTree, int, pair, size}
use Rattle.nesl_values.specs.Parts.{as_pair, as_sequence}
use Rattle.nesl_seqs_base.specs.Arguments.{both_parts, two_sequences, tree_and_int}
use Rattle.nesl_seqs_base.specs.Outcome.{Outcome, if_there, gives, traps}
use Rattle.nesl_seqs_base.specs.Prices.{length_of}
use Rattle.nesl_seqs_base.specs.Reductions.{all_of}
use Rattle.nesl_seqs_base.proofs.Priced.{second_read}
use Rattle.nesl_seqs_base.proofs.Shapes.{length_all}
use Rattle.nesl_seqs_build.specs.Plans.{Plans, built, read_by, IsSound}
use Rattle.nesl_seqs_build.specs.declared.plan.Plan.{Plan}

-- the plan of what a part of the argument gives
pub plan_given : {A X : Type 0} (o : Option X) (x : X) (f : X → Outcome) (read : X → ℕ) (p : Plan A) → Some x ≡ o → f x ≡ gives (built p) → read_by p ≡ read x → IsSound p → Plans (if_there o f) (unwrap_or (option_map read o) 0) (Ok p)
plan_given o x f read p e is len sound = subst (λ q. Plans (if_there q f) (unwrap_or (option_map read q) 0) (Ok p)) e (is, len, sound)

-- of which no element is read
pub plan_unread : {A X : Type 0} (o : Option X) (x : X) (f : X → Outcome) (p : Plan A) → Some x ≡ o → f x ≡ gives (built p) → read_by p ≡ 0 → IsSound p → Plans (if_there o f) 0 (Ok p)
plan_unread o x f p e is len sound = subst (λ q. Plans (if_there q f) 0 (Ok p)) e (is, len, sound)

given_same : {X : Type 0} (o : Option X) (g : X → Outcome) (u : ValueTree) → IsSome o → ((x : X) → o ≡ Some x → g x ≡ gives u) → if_there o g ≡ gives u
given_same None g u h k = absurd (cc h)
given_same (Some x) g u h k = k x refl

-- the plan of what is read from each element
pub reading_planned : {A X : Type 0} (read : ValueTree → Option X) (g : List X → Outcome) (t : ValueTree) (ts : List ValueTree) (p : Plan A) → as_sequence t ≡ Some ts → IsSome (all_of read ts) → ((xs : List X) → all_of read ts ≡ Some xs → g xs ≡ gives (built p)) → read_by p ≡ length ts → IsSound p
    → Plans (if_there (option_and_then (all_of read) (as_sequence t)) g) (length_of t) (Ok p)
reading_planned read g t ts p e some k len sound =
    (ap (λ o. if_there (option_and_then (all_of read) o) g) e ∙ given_same (all_of read ts) g (built p) some k, len ∙ sym (ap (λ o. unwrap_or (option_map length o) 0) e), sound)

after_second : {X : Type 0} (o : Option (List X)) (g : List ValueTree → List X → Outcome) (ts : List ValueTree) (u : ValueTree) → IsSome o → ((xs : List X) → o ≡ Some xs → g ts xs ≡ gives u) → if_there {X = List ValueTree × List X} (option_map (λ xs. (ts, xs)) o) (λ p. g p.0 p.1) ≡ gives u
after_second None g ts u h k = absurd (cc h)
after_second (Some xs) g ts u h k = k xs refl

-- of a sequence, and what is read from each element of a second
pub second_planned : {A X : Type 0} (read : ValueTree → Option X) (g : List ValueTree → List X → Outcome) (t : ValueTree) (ts us : List ValueTree) (p : Plan A) → two_sequences t ≡ Some (ts, us) → IsSome (all_of read us) → ((xs : List X) → all_of read us ≡ Some xs → g ts xs ≡ gives (built p)) → read_by p ≡ length ts + length us → IsSound p
    → Plans (if_there (option_and_then (λ q. both_parts (as_sequence q.0) (option_and_then (all_of read) (as_sequence q.1))) (as_pair t)) (λ q. g q.0 q.1)) (unwrap_or (option_map (λ q. length q.0 + length q.1) (two_sequences t)) 0) (Ok p)
second_planned {A} {X} read g t ts us p h some k len sound =
    let lengths : List ValueTree × List ValueTree → ℕ = λ q. length q.0 + length q.1 in
    let outcome : Option (List ValueTree × List X) → Outcome = λ o. if_there {X = List ValueTree × List X} o (λ q. g q.0 q.1) in
    (ap outcome (second_read read t ts us h) ∙ after_second (all_of read us) g ts (built p) some k, len ∙ sym (ap (λ o. unwrap_or (option_map lengths o) 0) h), sound)

refused_after : (A : Type 0) {X : Type 0} (o : Option (List X)) (g : List ValueTree → List X → Outcome) (ts : List ValueTree) (read : ℕ) (e : Trap) → ((xs : List X) → o ≡ Some xs → g ts xs ≡ traps e) → Plans {A = A} (if_there {X = List ValueTree × List X} (option_map (λ xs. (ts, xs)) o) (λ q. g q.0 q.1)) read (Err e)
refused_after A None g ts read e k = tt
refused_after A (Some xs) g ts read e k =
    let reads : Outcome → Type 0 = λ q. Plans {A = A} q read (Err e) in
    subst reads (sym (k xs refl)) refl

pub second_refused : (A : Type 0) {X : Type 0} (read : ValueTree → Option X) (g : List ValueTree → List X → Outcome) (t : ValueTree) (ts us : List ValueTree) (n : ℕ) (e : Trap) → two_sequences t ≡ Some (ts, us) → ((xs : List X) → all_of read us ≡ Some xs → g ts xs ≡ traps e)
    → Plans {A = A} (if_there (option_and_then (λ q. both_parts (as_sequence q.0) (option_and_then (all_of read) (as_sequence q.1))) (as_pair t)) (λ q. g q.0 q.1)) n (Err e)
second_refused A {X} read g t ts us n e h k =
    let plans : Option (List ValueTree × List X) → Type 0 = λ o. Plans {A = A} (if_there {X = List ValueTree × List X} o (λ q. g q.0 q.1)) n (Err e) in
    subst plans (sym (second_read read t ts us h)) (refused_after A (all_of read us) g ts n e k)

pub read_in : {X : Type 0} (o : Option (List X)) → IsSome o → o ≡ Some (unwrap_or o [])
read_in (Some xs) some = refl
read_in None some = absurd (cc some)

pub length_in : {X : Type 0} (read : ValueTree → Option X) (ts : List ValueTree) → IsSome (all_of read ts) → length (unwrap_or (all_of read ts) []) ≡ length ts
length_in read ts some = length_all read ts (unwrap_or (all_of read ts) []) (read_in (all_of read ts) some)

-- a part has no more nodes than the whole
pub item_small : (t u : ValueTree) (k : ℤ) → Some (u, k) ≡ tree_and_int t → size t < 2 ^ 65 → size u < 2 ^ 65
item_small (pair l (int z)) u k e small =
    omega (arith, ap size (some_pair_parts u l k z e).0)
item_small t u k e small = absurd (cc e)
