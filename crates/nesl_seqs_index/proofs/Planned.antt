-- What plans build, and for which price.
use Rattle.std.proofs.Common.{◌≡◌, ◌∙◌, ℕ, ◌+◌, true, false, List, length, map, is_some, Option, Some, option_map, unwrap_or, Result, Ok, Err, IfOk, ap, refl, sym, subst}
use Rattle.std.specs.List.{list_all}
use Rattle.std.proofs.lemmas.List.{length-map}
use Rattle.nesl_scalars.specs.declared.trap.Trap.{Trap}
use Rattle.nesl_scalars.specs.declared.trap.Trap.TheVariants.{Range}
use Rattle.nesl_values.specs.Tree.{ValueTree, sequence}
use Rattle.nesl_values.specs.Parts.{as_int}
use Rattle.nesl_values.specs.View.{tree_of}
use Rattle.nesl_values.specs.declared.value.Value.{Value}
use Rattle.nesl_seqs_base.specs.Outcome.{Outcome, OutcomeGives, IsGiven, if_there, gives, traps, undefined}
use Rattle.nesl_seqs_base.specs.Permute.{permuted, rearranged}
use Rattle.nesl_seqs_base.specs.Places.{places_of}
use Rattle.nesl_seqs_base.specs.Reductions.{all_of}
use Rattle.nesl_seqs_base.specs.Write.{int_and_tree, overwritten, written, write_of, writes_of}
use Rattle.nesl_seqs_index.specs.Marks.{own_places}
use Rattle.nesl_seqs_index.specs.Plans.{Plans, built, read_by, IsSound}
use Rattle.nesl_seqs_index.specs.declared.plan.Plan.{Plan}
use Rattle.nesl_seqs_index.proofs.Picking.{IsRefused}
use Rattle.nesl_seqs_index.proofs.Permuting.{arranged_given, is_arranged}
use Rattle.nesl_seqs_index.proofs.Writing.{given_written, refused_write}
use Rattle.nesl_seqs_index.proofs.Tables.{refused_places, are_named, are_apart_all}

-- a refusal of an outcome is one of each result
pub refusal : {X : Type 0} (R : ValueTree → X → Type 0) (o : Outcome) (e : Trap) → IsRefused o e → OutcomeGives R o (Err e)
refusal R (gives t) e h = h
refusal R (traps d) e h = h
refusal R undefined e h = h

-- and of a plan
pub refused_plan : (A : Type 0) {X : Type 0} (R : ValueTree → X → Type 0) (o : Outcome) (read : ℕ) (e : Trap) → OutcomeGives R o (Err e) → Plans {A = A} o read (Err e)
refused_plan A R (gives t) read e h = h
refused_plan A R (traps d) read e h = h
refused_plan A R undefined read e h = h

pub refusal_planned : (A : Type 0) (o : Outcome) (read : ℕ) (e : Trap) → IsRefused o e → Plans {A = A} o read (Err e)
refusal_planned A (gives t) read e h = h
refusal_planned A (traps d) read e h = h
refusal_planned A undefined read e h = h

-- the tree that a result shows to be given
pub answered : {X : Type 0} (R : ValueTree → X → Type 0) (o : Outcome) (x : X) → OutcomeGives R o (Ok x) → (t : ValueTree) × (o ≡ gives t) × R t x
answered R (gives t) x h = (t, refl, h)
answered R (traps d) x h = absurd h
answered R undefined x h = absurd h

pub answered_given : {X : Type 0} (R : ValueTree → X → Type 0) (o : Outcome) (x : X) → OutcomeGives R o (Ok x) → IsGiven o
answered_given R (gives t) x h = tt
answered_given R (traps d) x h = absurd h
answered_given R undefined x h = absurd h

-- indices that each have a place of their own, or the fault
pub own_planned : {I : Type 0} (f : I → ValueTree) (is : List I) (ts : List ValueTree) (r : Result (Unit {0}) Trap) → length ts ≡ length is → own_places (length ts) (map f is) ≡ r
    → OutcomeGives (λ t u. t ≡ sequence (rearranged ts (places_of (length ts) (map f is)))) (if_there (all_of as_int (map f is)) (permuted ts)) r
own_planned f is ts (Err e) same own = refusal _ _ e (refused_places f is ts e same own)
own_planned f is ts (Ok u) same own =
    let R : ValueTree → Unit {0} → Type 0 = λ t v. t ≡ sequence (rearranged ts (places_of (length ts) (map f is))) in
    subst (λ o. OutcomeGives R o (Ok u)) (sym (arranged_given f is ts same (are_named f (length ts) is own) (are_apart_all f (length ts) is own))) refl

-- the plan of two sequences of which one is read
pub pair_planned : {A X : Type 0} (R : ValueTree → X → Type 0) (o : Option (List ValueTree × List ValueTree)) (h : List ValueTree → List ValueTree → Outcome) (ts us : List ValueTree) (x : X) (p : Plan A) → Some (ts, us) ≡ o → OutcomeGives R (h ts us) (Ok x) → ((t : ValueTree) → R t x → t ≡ built p) → read_by p ≡ length ts + length us → IsSound p
    → Plans (if_there o (λ q. h q.0 q.1)) (unwrap_or (option_map (λ q. length q.0 + length q.1) o) 0) (Ok p)
pair_planned {A} {X} R o h ts us x p e answers same len sound =
    let there = answered R (h ts us) x answers in
    let lengths : List ValueTree × List ValueTree → ℕ = λ q. length q.0 + length q.1 in
    subst (λ q. Plans (if_there q (λ w. h w.0 w.1)) (unwrap_or (option_map lengths q) 0) (Ok p)) e (there.1 ∙ ap gives (same there.0 there.2), len, sound)

pub pair_refused : (A : Type 0) {X : Type 0} (R : ValueTree → X → Type 0) (o : Option (List ValueTree × List ValueTree)) (h : List ValueTree → List ValueTree → Outcome) (ts us : List ValueTree) (n : ℕ) (e : Trap) → Some (ts, us) ≡ o → OutcomeGives R (h ts us) (Err e) → Plans {A = A} (if_there o (λ q. h q.0 q.1)) n (Err e)
pair_refused A {X} R o h ts us n e is answers =
    subst (λ q. Plans {A = A} (if_there q (λ w. h w.0 w.1)) n (Err e)) is (refused_plan A R (h ts us) n e answers)

-- what was made where it is given
pub permuted_made : {A E I : Type 0} (f : I → ValueTree) (is : List I) (ts : List ValueTree) (r : Result (Value A) E) → IsGiven (if_there (all_of as_int (map f is)) (permuted ts)) → IfOk r (λ v. if_there (all_of as_int (map f is)) (permuted ts) ≡ gives (tree_of v))
    → IfOk r (λ v. tree_of v ≡ sequence (rearranged ts (places_of (length ts) (map f is))))
permuted_made f is ts (Ok v) there made =
    let arranged = (is_arranged f is ts there).is in
    let same : gives (tree_of v) ≡ gives (sequence (rearranged ts (places_of (length ts) (map f is)))) = sym made ∙ arranged in
    cc same
permuted_made f is ts (Err e) there made = tt

-- the plan of what is written
pub written_planned : {A : Type 0} (o : Option (List ValueTree × List ValueTree)) (p : Plan A) (ts us : List ValueTree) (ps : List (Value A)) → Some (ts, us) ≡ o → map tree_of ps ≡ us → list_all (λ w. is_some (write_of (length ts) (tree_of w))) ps ≡ true
    → built p ≡ sequence (overwritten ts (writes_of (length ts) (map tree_of ps))) → read_by p ≡ length ts + length ps → IsSound p
    → Plans (if_there o (λ q. if_there (all_of int_and_tree q.1) (written q.0))) (unwrap_or (option_map (λ q. length q.0 + length q.1) o) 0) (Ok p)
written_planned o p ts us ps e same all is len sound =
    let lengths : List ValueTree × List ValueTree → ℕ = λ q. length q.0 + length q.1 in
    subst (λ q. Plans (if_there q (λ w. if_there (all_of int_and_tree w.1) (written w.0))) (unwrap_or (option_map lengths q) 0) (Ok p)) e
    (ap (λ vs. if_there (all_of int_and_tree vs) (written ts)) (sym same) ∙ given_written tree_of ps ts all ∙ ap gives (sym is), len ∙ ap (λ n. length ts + n) (sym (length-map ps tree_of) ∙ ap length same), sound)

pub written_refused : {A : Type 0} (o : Option (List ValueTree × List ValueTree)) (ts us : List ValueTree) (ps : List (Value A)) (n : ℕ) → Some (ts, us) ≡ o → map tree_of ps ≡ us → list_all (λ w. is_some (write_of (length ts) (tree_of w))) ps ≡ false
    → Plans {A = A} (if_there o (λ q. if_there (all_of int_and_tree q.1) (written q.0))) n (Err Range)
written_refused {A = A} o ts us ps n e same none =
    subst (λ q. Plans {A = A} (if_there q (λ w. if_there (all_of int_and_tree w.1) (written w.0))) n (Err Range)) e
    (subst (λ vs. Plans {A = A} (if_there (all_of int_and_tree vs) (written ts)) n (Err Range)) same (refusal_planned A (if_there (all_of int_and_tree (map tree_of ps)) (written ts)) n Range (refused_write tree_of ps ts none)))
