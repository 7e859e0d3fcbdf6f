-- Prices, and results that are made of what is read of each element.
use Rattle.std.proofs.lemmas.Option.{some_pair_parts}
use Rattle.nesl_seqs_base.specs.Arguments.{both_parts, two_sequences}
use Rattle.std.proofs.Common.{◌≡◌, option_map, ℕ, ◌+◌, ◌-◌, ◌≤◌, List, Option, Some, None, option_and_then, refl, ap, ◌∙◌, subst, arith, Result, Ok, Err, IfOk, SomeIff}
use Rattle.nesl_values.specs.Tree.{ValueTree, int, boolean, character, pair, seq, tagged, size}
use Rattle.nesl_values.specs.Parts.{as_pair, as_sequence}
use Rattle.nesl_values.specs.View.{tree_of}
use Rattle.nesl_values.specs.declared.value.Value.{Value}
use Rattle.nesl_seqs_base.specs.Reductions.{all_of}
use Rattle.nesl_seqs_base.specs.Prices.{price}
use Rattle.nesl_seqs_base.specs.declared.price.Price.{Price}
use Rattle.nesl_seqs_base.proofs.Sizes.{size_positive}

same_price : (work work' nodes nodes' : ℕ) → work ≡ work' → nodes ≡ nodes' → ◌≡◌ {A = Price} (record { work = work; depth = 1; nodes = nodes }) (record { work = work'; depth = 1; nodes = nodes' })
same_price work work' nodes nodes' h k = cc

-- one element, of which only the nodes are paid
pub element_priced : (t : ValueTree) (limit nodes : ℕ) → nodes ≡ size t → size t ≤ limit
    → (1 + 0 + (size t - 1) ≤ limit) × ◌≡◌ {A = Price} (record { work = nodes; depth = 1; nodes = nodes }) (price 0 1 t)
element_priced t limit nodes is within =
    (omega (arith, size_positive t), same_price nodes (1 + 0 + (size t - 1)) nodes (size t) (omega (arith, size_positive t)) is)

pub price_of_rest : (more total n limit : ℕ) (t : ValueTree) → 1 ≤ more → n ≤ total → total ≤ limit - more → more ≤ limit → size t + n ≡ more + total
    → (1 + n + (size t - 1) ≤ limit) × ◌≡◌ {A = Price} (record { work = more + total; depth = 1; nodes = more + (total - n) }) (price n 1 t)
price_of_rest more total n limit t h roots within room is =
    (omega arith, same_price (more + total) (1 + n + (size t - 1)) (more + (total - n)) (size t) (omega arith) (omega arith))

-- a result that is made from what is read
pub made_of : {A E X : Type 0} (f : List X → ValueTree) (r : Result (Value A) E) (ys : List X) (o : Option (List X)) → IfOk r (λ v. tree_of v ≡ f ys) → ((zs : List X) → o ≡ Some zs → ys ≡ zs) → IfOk r (λ v. (zs : List X) → o ≡ Some zs → tree_of v ≡ f zs)
made_of f (Ok v) ys o made same = λ zs h. made ∙ ap f (same zs h)
made_of f (Err e) ys o made same = made

both_with : {X Y : Type 0} (a : X) (q : Option Y) → both_parts (Some a) q ≡ option_map (λ x. (a, x)) q
both_with a None = refl
both_with a (Some x) = refl

both_then : {X : Type 0} (o p : Option (List ValueTree)) (f : List ValueTree → Option X) (ts us : List ValueTree) → both_parts o p ≡ Some (ts, us) → both_parts o (option_and_then f p) ≡ option_map (λ x. (ts, x)) (f us)
both_then None p f ts us h = absurd (cc h)
both_then (Some a) None f ts us h = absurd (cc h)
both_then (Some a) (Some b) f ts us h =
    let same = some_pair_parts a ts b us h in
    both_with a (f b) ∙ ap (λ c. option_map (λ x. (c, x)) (f b)) same.0 ∙ ap (λ c. option_map (λ x. (ts, x)) (f c)) same.1

-- a sequence, and what is read from each element of the second
pub second_read : {X : Type 0} (read : ValueTree → Option X) (t : ValueTree) (ts us : List ValueTree) → two_sequences t ≡ Some (ts, us) → option_and_then (λ p. both_parts (as_sequence p.0) (option_and_then (all_of read) (as_sequence p.1))) (as_pair t) ≡ option_map (λ xs. (ts, xs)) (all_of read us)
second_read read (pair l r) ts us h = both_then (as_sequence l) (as_sequence r) (all_of read) ts us h
second_read read (int n) ts us h = absurd (cc h)
second_read read (boolean b) ts us h = absurd (cc h)
second_read read (character c) ts us h = absurd (cc h)
second_read read (seq vs) ts us h = absurd (cc h)
second_read read (tagged n u) ts us h = absurd (cc h)

-- a price stays what it is if the elements that were read are counted otherwise
pub read_alike : (r : Option Price) (t : ValueTree) (m n limit : ℕ) → m ≡ n → SomeIff r (1 + m + (size t - 1) ≤ limit) (price m 1 t) → SomeIff r (1 + n + (size t - 1) ≤ limit) (price n 1 t)
read_alike r t m n limit same h = subst (λ k. SomeIff r (1 + k + (size t - 1) ≤ limit) (price k 1 t)) same h
