-- Parts that are read side by side.
use Rattle.std.proofs.Common.{◌≡◌, ◌∙◌, Option, Some, None, IfSome, option_map, option_and_then, ap, refl}
use Rattle.std.specs.Option.{option_zip}
use Rattle.nesl_values.specs.Tree.{ValueTree}
use Rattle.nesl_seqs_base.specs.Arguments.{both_parts}

zipped : {X Y U V : Type 0} (f : X → U) (g : Y → V) (o : Option X) (q : Option Y) → option_map (λ (p : X × Y). (f p.0, g p.1)) (option_zip o q) ≡ both_parts (option_map f o) (option_map g q)
zipped f g (Some x) (Some y) = refl
zipped f g (Some x) None = refl
zipped f g None q = refl

mapped_same : {X : Type 0} (o : Option X) → option_map (λ (x : X). x) o ≡ o
mapped_same (Some x) = refl
mapped_same None = refl

both_same : {X Y : Type 0} (o : Option X) (q : Option Y) → option_zip o q ≡ both_parts o q
both_same (Some x) (Some y) = refl
both_same (Some x) None = refl
both_same None q = refl

-- what is read from both parts of a pair
pub both_read : {X Y U V : Type 0} (f : X → U) (g : Y → V) (read : ValueTree → Option U) (next : ValueTree → Option V) (o : Option X) (q : Option Y) (r : Option (X × Y)) (l m : ValueTree) (p : Option (ValueTree × ValueTree)) → r ≡ option_zip o q → option_map f o ≡ read l → option_map g q ≡ next m
    → Some (l, m) ≡ p → option_map (λ (x : X × Y). (f x.0, g x.1)) r ≡ option_and_then (λ z. both_parts (read z.0) (next z.1)) p
both_read {X = X} {Y = Y} f g read next o q r l m p zip first second is =
    ap (option_map (λ (x : X × Y). (f x.0, g x.1))) zip ∙ zipped f g o q ∙ ap (λ u. both_parts u (option_map g q)) first ∙ ap (both_parts (read l)) second ∙ ap (option_and_then (λ z. both_parts (read z.0) (next z.1))) is

pub first_read : {X Y U : Type 0} (f : X → U) (read : ValueTree → Option U) (next : ValueTree → Option Y) (o : Option X) (q : Option Y) (r : Option (X × Y)) (l m : ValueTree) (p : Option (ValueTree × ValueTree)) → r ≡ option_zip o q → option_map f o ≡ read l → q ≡ next m → Some (l, m) ≡ p
    → option_map (λ (x : X × Y). (f x.0, x.1)) r ≡ option_and_then (λ z. both_parts (read z.0) (next z.1)) p
first_read f read next o q r l m p zip first second is =
    both_read f (λ y. y) read next o q r l m p zip first (mapped_same q ∙ second) is

pub neither_read : {X Y : Type 0} (read : ValueTree → Option X) (next : ValueTree → Option Y) (o : Option X) (q : Option Y) (r : Option (X × Y)) (l m : ValueTree) (p : Option (ValueTree × ValueTree)) → r ≡ option_zip o q → o ≡ read l → q ≡ next m → Some (l, m) ≡ p
    → r ≡ option_and_then (λ z. both_parts (read z.0) (next z.1)) p
neither_read read next o q r l m p zip first second is =
    zip ∙ both_same o q ∙ ap (λ u. both_parts u q) first ∙ ap (both_parts (read l)) second ∙ ap (option_and_then (λ z. both_parts (read z.0) (next z.1))) is

pub zipped_first : {X Y : Type 0} (P : X → Type 0) (o : Option X) (q : Option Y) → IfSome o P → IfSome (option_zip o q) (λ (p : X × Y). P p.0)
zipped_first P (Some x) (Some y) h = h
zipped_first P (Some x) None h = tt
zipped_first P None q h = tt
