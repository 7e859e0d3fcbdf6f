-- What is read from each tree of a list.
use Rattle.std.proofs.Common.{◌≡◌, nat_eq, unwrap_or, ◌++◌, ℕ, ℤ, Bor, zero, suc, ◌+◌, ◌<◌, Bool, true, false, ◌&&◌, List, [], ◌∷◌, length, map, take, Option, Some, None, option_map, option_and_then, refl, ap, sym, ◌∙◌, arith, get_or, slice_get, IsSome}
use Rattle.std.proofs.lemmas.Bool.Decides.{nat_tests}
use Rattle.std.proofs.lemmas.List.{map_more}
use Rattle.std.specs.Option.{is_some}
use Rattle.std.specs.List.{list_all}
use Rattle.nesl_values.specs.Tree.{ValueTree, int, boolean, character}
use Rattle.nesl_values.specs.declared.value.Value.{Value}
use Rattle.nesl_values.specs.View.{item_trees}
use Rattle.nesl_values.specs.declared.items.Items.{Items}
use Rattle.nesl_seqs_base.specs.Reductions.{all_of}

-- a list from which something is read is one whose first and others are read
joined_some : {X : Type 0} (o : Option X) (p : Option (List X)) → is_some o ≡ true → IsSome p → IsSome (option_and_then (λ x. option_map (λ xs. x ∷ xs) p) o)
joined_some (Some x) (Some xs) h k = k
joined_some (Some x) None h k = k
joined_some None p h k = absurd (cc h)

pub false_if_not : (b : Bool) → (b ≡ true → ⊥) → b ≡ false
false_if_not true h = absurd (h refl)
false_if_not false h = refl

pub and_left : (b c : Bool) → (b && c) ≡ true → b ≡ true
and_left true c h = refl
and_left false c h = h

pub and_right : (b c : Bool) → (b && c) ≡ true → c ≡ true
and_right true c h = h
and_right false c h = absurd (cc h)

pub all_read : {X V : Type 0} (read : ValueTree → Option X) (f : V → ValueTree) (vs : List V) → list_all (λ v. is_some (read (f v))) vs ≡ true → IsSome (all_of read (map f vs))
all_read read f [] h = refl
all_read read f (v ∷ vs) h =
    joined_some (read (f v)) (all_of read (map f vs)) (and_left (is_some (read (f v))) _ h) (all_read read f vs (and_right (is_some (read (f v))) _ h))

none_after : {X : Type 0} (o : Option X) → option_and_then (λ x. option_map (λ xs. x ∷ xs) None) o ≡ None
none_after None = refl
none_after (Some x) = refl

none_first : {X : Type 0} (o : Option X) (p : Option (List X)) → is_some o ≡ false → option_and_then (λ x. option_map (λ xs. x ∷ xs) p) o ≡ None
none_first None p h = refl
none_first (Some x) p h = absurd (cc h)

either_false : (b c : Bool) (P : Type 0) → (b && c) ≡ false → (b ≡ false → P) → (c ≡ false → P) → P
either_false true c P h left right = right h
either_false false c P h left right = left refl

pub some_unread : {X V : Type 0} (read : ValueTree → Option X) (f : V → ValueTree) (vs : List V) → list_all (λ v. is_some (read (f v))) vs ≡ false → all_of read (map f vs) ≡ None
some_unread read f [] h = absurd (cc h)
some_unread read f (v ∷ vs) h =
    either_false (is_some (read (f v))) (list_all (λ w. is_some (read (f w))) vs) _ h (none_first (read (f v)) (all_of read (map f vs))) (λ k. ap (λ p. option_and_then (λ x. option_map (λ xs. x ∷ xs) p) (read (f v))) (some_unread read f vs k) ∙ none_after (read (f v)))

-- what is read from the first, and from the others
pub first_read : {X : Type 0} (o : Option X) (p : Option (List X)) (ys : List X) → option_and_then (λ x. option_map (λ xs. x ∷ xs) p) o ≡ Some ys → (P : Type 0) → ((x : X) (xs : List X) → o ≡ Some x → p ≡ Some xs → ys ≡ x ∷ xs → P) → P
first_read None p ys h P k = absurd (cc h)
first_read (Some x) None ys h P k = absurd (cc h)
first_read (Some x) (Some xs) ys h P k = k x xs refl refl (cc h)

leaves_unread : {X Y : Type 0} (read : ValueTree → Option X) (leaf : Y → ValueTree) → ((y : Y) → read (leaf y) ≡ None) → (ys : List Y) → (length (map leaf ys) ≡ 0 → ⊥) → all_of read (map leaf ys) ≡ None
leaves_unread read leaf none [] some = absurd (some refl)
leaves_unread read leaf none (y ∷ ys) some = ap (option_and_then (λ x. option_map (λ xs. x ∷ xs) (all_of read (map leaf ys)))) (none y)

-- packed leaves are not what is read
pub packed_unread : {A X : Type 0} (read : ValueTree → Option X) → ((n : ℤ) → read (int n) ≡ None) → ((b : Bool) → read (boolean b) ≡ None) → ((c : ℕ) → read (character c) ≡ None) → (items : Items A) → ((s : Bor (List (Value A))) → items ≡ Items.Values s → ⊥)
    → (length (item_trees items) ≡ 0 → ⊥) → all_of read (item_trees items) ≡ None
packed_unread read i b c (Items.Ints s) other some = leaves_unread read int i s.now some
packed_unread read i b c (Items.Bools s) other some = leaves_unread read boolean b s.now some
packed_unread read i b c (Items.Chars s) other some = leaves_unread read character c s.now some
packed_unread read i b c (Items.Values s) other some = absurd (other s refl)

-- what is read from the item at a place
pub read_at : {X V : Type 0} (read : ValueTree → Option X) (f : V → ValueTree) (vs : List V) (xs : List X) (i : ℕ) (v : V) → all_of read (map f vs) ≡ Some xs → i < length vs → v ≡ get_or vs i v → read (f v) ≡ slice_get xs i
read_at read f [] xs i v h within at = absurd (omega arith)
read_at read f (w ∷ ws) xs zero v h within at =
    first_read (read (f w)) (all_of read (map f ws)) xs h _ (λ y ys first rest is. ap (λ u. read (f u)) at ∙ first ∙ ap (λ zs. slice_get zs zero) (sym is))
read_at read f (w ∷ ws) xs (suc i) v h within at =
    first_read (read (f w)) (all_of read (map f ws)) xs h _ (λ y ys first rest is. read_at read f ws ys i v rest (omega arith) at ∙ ap (λ zs. slice_get zs (suc i)) (sym is))

pub length_read : {X V : Type 0} (read : ValueTree → Option X) (f : V → ValueTree) (vs : List V) (xs : List X) → all_of read (map f vs) ≡ Some xs → length xs ≡ length vs
length_read read f [] xs h =
    let none : xs ≡ [] = cc h in
    ap length none
length_read read f (w ∷ ws) xs h =
    first_read (read (f w)) (all_of read (map f ws)) xs h _ (λ y ys first rest is. ap length is ∙ ap suc (length_read read f ws ys rest))

pub some_within : {X : Type 0} (xs : List X) (i : ℕ) → i < length xs → None ≡ slice_get xs i → ⊥
some_within [] i h none = absurd (omega arith)
some_within (x ∷ xs) zero h none = absurd (cc none)
some_within (x ∷ xs) (suc i) h none = some_within xs i (omega arith) none

pub length_all : {X : Type 0} (read : ValueTree → Option X) (ts : List ValueTree) (xs : List X) → all_of read ts ≡ Some xs → length xs ≡ length ts
length_all read [] xs h =
    let none : xs ≡ [] = cc h in
    ap length none
length_all read (t ∷ ts) xs h =
    first_read (read t) (all_of read ts) xs h _ (λ y ys first rest is. ap length is ∙ ap suc (length_all read ts ys rest))

both_some : {X : Type 0} (o : Option X) (p : Option (List X)) → (is_some o && is_some p) ≡ is_some (option_and_then (λ x. option_map (λ xs. x ∷ xs) p) o)
both_some None p = refl
both_some (Some x) None = refl
both_some (Some x) (Some xs) = refl

pub all_is_some : {X V : Type 0} (read : ValueTree → Option X) (f : V → ValueTree) (vs : List V) → list_all (λ v. is_some (read (f v))) vs ≡ is_some (all_of read (map f vs))
all_is_some read f [] = refl
all_is_some read f (v ∷ vs) =
    ap (λ b. is_some (read (f v)) && b) (all_is_some read f vs) ∙ both_some (read (f v)) (all_of read (map f vs))

-- leaves that are read, and leaves that are not
pub leaves_read : {X : Type 0} (read : ValueTree → Option X) (leaf : X → ValueTree) → ((x : X) → read (leaf x) ≡ Some x) → (xs : List X) → all_of read (map leaf xs) ≡ Some xs
leaves_read read leaf one [] = refl
leaves_read read leaf one (x ∷ xs) =
    ap (option_and_then (λ y. option_map (λ ys. y ∷ ys) (all_of read (map leaf xs)))) (one x) ∙ ap (option_map (λ ys. x ∷ ys)) (leaves_read read leaf one xs)

more_than_none : (n : ℕ) → nat_eq (suc n) 0 ≡ false
more_than_none n = grind (arith, nat_tests)

pub empty_if_read : {X Y : Type 0} (read : ValueTree → Option X) (leaf : Y → ValueTree) → ((y : Y) → read (leaf y) ≡ None) → (ys : List Y) → nat_eq (length ys) 0 ≡ is_some (all_of read (map leaf ys))
empty_if_read read leaf none [] = refl
empty_if_read read leaf none (y ∷ ys) = more_than_none (length ys) ∙ ap (λ o. is_some (option_and_then (λ x. option_map (λ xs. x ∷ xs) (all_of read (map leaf ys))) o)) (sym (none y))

-- what is read, with something else for what is not
pub read_or : {X V : Type 0} (read : ValueTree → Option X) (f : V → ValueTree) (d : X) (vs : List V) (xs : List X) → all_of read (map f vs) ≡ Some xs → map (λ v. unwrap_or (read (f v)) d) vs ≡ xs
read_or read f d [] xs h = cc h
read_or read f d (v ∷ vs) xs h =
    first_read (read (f v)) (all_of read (map f vs)) xs h _ (λ y ys first rest is.
    ap (λ o. unwrap_or o d ∷ map (λ v. unwrap_or (read (f v)) d) vs) first ∙ ap (λ zs. y ∷ zs) (read_or read f d vs ys rest) ∙ sym is)

pub none_if_read : {X Y : Type 0} (read : ValueTree → Option X) (leaf : Y → ValueTree) → ((y : Y) → read (leaf y) ≡ None) → (ys : List Y) (xs : List X) → all_of read (map leaf ys) ≡ Some xs → [] ≡ xs
none_if_read read leaf none [] xs h = cc h
none_if_read read leaf none (y ∷ ys) xs h =
    first_read (read (leaf y)) (all_of read (map leaf ys)) xs h _ (λ z zs first rest is. absurd (no_some z (sym (none y) ∙ first)))
  where
    no_some : {Z : Type 0} (z : Z) → None ≡ Some z → ⊥
    no_some z e = absurd (cc e)

-- one more turn of a loop that makes a list of what `f` gives of each item
pub map_turn : {X Y : Type 0} (f : X → Y) (xs : List X) (i : ℕ) (x : X) (y : Y) (old now : List Y) → i < length xs → x ≡ get_or xs i x → old ≡ map f (take i xs) → now ≡ old ++ y ∷ [] → y ≡ f x → now ≡ map f (take (i + 1) xs)
map_turn f xs i x y old now h at before push is =
    push ∙ ap (λ ys. ys ++ y ∷ []) before ∙ ap (λ z. map f (take i xs) ++ z ∷ []) (is ∙ ap f at) ∙ sym (map_more f xs i x h)

pub leaves_same : {X : Type 0} (read : ValueTree → Option X) (leaf : X → ValueTree) → ((x : X) → read (leaf x) ≡ Some x) → (xs ys : List X) → all_of read (map leaf xs) ≡ Some ys → xs ≡ ys
leaves_same read leaf one xs ys h = let same : Some xs ≡ Some ys = sym (leaves_read read leaf one xs) ∙ h in cc same
