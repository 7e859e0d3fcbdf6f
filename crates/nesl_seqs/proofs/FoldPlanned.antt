-- What plans build, and for which price.
use Rattle.std.proofs.Common.{◌≡◌, ℕ, ◌+◌, ◌-◌, ◌≤◌, SomeIff, subst, ℤ, Bool, true, false, nat_eq, cond, List, [], ◌∷◌, length, map, Option, Some, None, option_map, unwrap_or, is_some, refl, ap, sym, ◌∙◌}
use Rattle.std.specs.Bool.{then_some}
use Rattle.std.proofs.lemmas.Simd.{map-map}
use Rattle.std.specs.List.{list_all}
use Rattle.nesl_scalars.specs.declared.trap.Trap.TheVariants.{Overflow}
use Rattle.nesl_values.specs.Tree.{ValueTree, int, boolean, sequence, size}
use Rattle.nesl_values.specs.Parts.{as_int, as_bool}
use Rattle.nesl_seqs_base.specs.Outcome.{gives, traps, if_there, if_there_or, fits}
use Rattle.nesl_seqs_base.specs.Prices.{price, digits}
use Rattle.nesl_seqs_base.specs.Reductions.{all_of, total}
use Rattle.nesl_seqs_base.specs.Scans.{before_each, plus_scanned, joined_truths, joined_bits}
use Rattle.nesl_seqs_base.specs.declared.joint.Joint.{Joint}
use Rattle.nesl_seqs_base.specs.declared.price.Price.{Price}
use Rattle.nesl_seqs.specs.Elements.{number_in, wrapped_total}
use Rattle.nesl_seqs.specs.Leaves.{logic_of}
use Rattle.nesl_seqs_base.proofs.Shapes.{all_is_some, read_or, empty_if_read, none_if_read}
use Rattle.nesl_seqs.proofs.Before.{sums_same}

told : {N X : Type 0} (f : N → List X) (n : N) (b : Bool) (o : Option (List X)) → b ≡ is_some o → ((xs : List X) → o ≡ Some xs → f n ≡ xs) → option_map f (then_some b n) ≡ o
told f n true None h k = absurd (cc h)
told f n true (Some xs) h k = ap Some (k xs refl)
told f n false None h k = refl
told f n false (Some xs) h k = absurd (cc h)

-- items that are read where all can be
pub loose_read : {N X V : Type 0} (f : N → List X) (n : N) (b : Bool) (read : ValueTree → Option X) (view : V → ValueTree) (d : X) (vs : List V) → b ≡ list_all (λ v. is_some (read (view v))) vs → f n ≡ map (λ t. unwrap_or (read t) d) (map view vs)
    → option_map f (then_some b n) ≡ all_of read (map view vs)
loose_read f n b read view d vs h same =
    told f n b (all_of read (map view vs)) (h ∙ all_is_some read view vs) (λ xs e. same ∙ map-map (λ t. unwrap_or (read t) d) view vs ∙ read_or read view d vs xs e)

-- items of which none can be read
pub none_read : {N X Y : Type 0} (f : N → List X) (n : N) (b : Bool) (read : ValueTree → Option X) (leaf : Y → ValueTree) (ys : List Y) → ((y : Y) → read (leaf y) ≡ None) → f n ≡ [] → b ≡ nat_eq (length ys) 0 → option_map f (then_some b n) ≡ all_of read (map leaf ys)
none_read f n b read leaf ys unread empty h =
    told f n b (all_of read (map leaf ys)) (h ∙ empty_if_read read leaf unread ys) (λ xs e. empty ∙ none_if_read read leaf unread ys xs e)

pub numbers_packed : (zs : List ℤ) → map number_in (map int zs) ≡ zs
numbers_packed [] = refl
numbers_packed (z ∷ zs) = ap (λ ys. z ∷ ys) (numbers_packed zs)

-- the sums, where they fit
pub sums_planned : (o : Option (List ℤ)) (zs : List ℤ) → Some zs ≡ o → list_all fits (before_each total zs) ≡ true → if_there o plus_scanned ≡ gives (sequence (map int (before_each wrapped_total zs)))
sums_planned o zs e fit =
    ap (λ p. if_there p plus_scanned) (sym e) ∙ ap (λ b. cond b (gives (sequence (map int (before_each total zs)))) (traps Overflow)) fit
    ∙ ap (λ ys. gives (sequence (map int ys))) (sym (sums_same zs fit))

pub truths_planned : (j : Joint) (ts : List ValueTree) (bs : List Bool) → Some bs ≡ all_of as_bool ts → logic_of j ts ≡ gives (sequence (map boolean (before_each (joined_truths j) bs)))
truths_planned j ts bs e =
    ap (λ o. if_there_or o (λ cs. gives (sequence (map boolean (before_each (joined_truths j) cs)))) (if_there (all_of as_int ts) (λ zs. gives (sequence (map int (before_each (joined_bits j) zs)))))) (sym e)

pub numbers_planned : (j : Joint) (ts : List ValueTree) (zs : List ℤ) → None ≡ all_of as_bool ts → Some zs ≡ all_of as_int ts → logic_of j ts ≡ gives (sequence (map int (before_each (joined_bits j) zs)))
numbers_planned j ts zs none e =
    ap (λ o. if_there_or o (λ cs. gives (sequence (map boolean (before_each (joined_truths j) cs)))) (if_there (all_of as_int ts) (λ us. gives (sequence (map int (before_each (joined_bits j) us)))))) (sym none)
    ∙ ap (λ o. if_there o (λ us. gives (sequence (map int (before_each (joined_bits j) us))))) (sym e)

-- the price of a root over leaves, where these are counted otherwise
pub scan_priced : (r : Option Price) (t : ValueTree) (n len limit : ℕ) → n ≡ len → size t ≡ 1 + len → ((u : ValueTree) → size u ≡ 1 + n → SomeIff r (1 + n + (size u - 1) ≤ limit) (price n (1 + digits n) u)) → SomeIff r (1 + len + (size t - 1) ≤ limit) (price len (1 + digits len) t)
scan_priced r t n len limit same leaves priced =
    subst (λ m. SomeIff r (1 + m + (size t - 1) ≤ limit) (price m (1 + digits m) t)) same (priced t (leaves ∙ ap (λ m. 1 + m) (sym same)))
