-- One more place.
use Rattle.std.proofs.Common.{◌≡◌, ℕ, suc, ◌+◌, ◌<◌, ◌≤◌, List, [], ◌∷◌, ◌++◌, map, length, get_or, take, take_all, drop, set, sym, ap, ◌∙◌, subst, arith, refl, Bool, true, false, ◌&&◌, IsTrue, Option, Some, None}
use Rattle.std.specs.Prelude.{IfSome}
use Rattle.std.proofs.lemmas.List.{take-append-le}
use Rattle.std.proofs.lemmas.Grind.{take_at_read, take-set_at}
use Rattle.nesl_eval_columns.specs.Each.{EachTwo, EachThree}

module _ {X Y Z : Type 0} (P : X → Y → Z → Type 0) where
  pub three_push : (xs : List X) (ys : List Y) (zs : List Z) (x : X) (y : Y) (z : Z) → EachThree P xs ys zs → P x y z → EachThree P (xs ++ x ∷ []) (ys ++ y ∷ []) (zs ++ z ∷ [])
  three_push [] [] [] x y z h p = (p, tt)
  three_push (a ∷ xs) (b ∷ ys) (c ∷ zs) x y z h p = (h.0, three_push xs ys zs x y z h.1 p)
  three_push _ _ _ x y z h p = absurd h

  pub three_next : (xs : List X) (ys : List Y) (zs : List Z) (i : ℕ) (x : X) (y : Y) (z : Z) → i < length xs → i < length ys → i < length zs → x ≡ get_or xs i x → y ≡ get_or ys i y → EachThree P (take i xs) (take i ys) (take i zs) → P x y z → EachThree P (take (i + 1) xs) (take (i + 1) ys) (take (i + 1) (set zs i z))
  three_next xs ys zs i x y z hx hy hz ex ey h p =
      let front : take (i + 1) xs ≡ take i xs ++ x ∷ [] = subst (λ q. take (i + 1) xs ≡ take i xs ++ q ∷ []) (sym ex) (take_at_read xs i x hx).1 in
      let second : take (i + 1) ys ≡ take i ys ++ y ∷ [] = subst (λ q. take (i + 1) ys ≡ take i ys ++ q ∷ []) (sym ey) (take_at_read ys i y hy).1 in
      let made : take (i + 1) (set zs i z) ≡ take i zs ++ z ∷ [] = take-set_at zs i (i + 1) z (omega arith) hz in
      rw (front, second, made) (three_push (take i xs) (take i ys) (take i zs) x y z h p)

both : (a b : Bool) → IsTrue (a && b) → IsTrue a × (b ≡ true)
both true b h = (refl, h)
both false b h = cc

pub three_turn : {X Y Z : Type 0} (P : X → Y → Z × Bool → Type 0) (xs : List X) (ys : List Y) (zs : List Z) (i : ℕ) (x : X) (y : Y) (r : Z × Bool) (all : Bool) → i < length xs → i < length ys → i < length zs → x ≡ get_or xs i x → y ≡ get_or ys i y → (IsTrue all → EachThree (λ x y z. P x y (z, true)) (take i xs) (take i ys) (take i zs)) → P x y r → IsTrue (all && r.1) → EachThree (λ x y z. P x y (z, true)) (take (i + 1) xs) (take (i + 1) ys) (take (i + 1) (set zs i r.0))
three_turn P xs ys zs i x y r all hx hy hz ex ey h p t =
    let b = both all r.1 t in
    three_next (λ x y z. P x y (z, true)) xs ys zs i x y r.0 hx hy hz ex ey (h b.0) (subst (λ q. P x y (r.0, q)) b.1 p)

pub three_whole : {X Y Z : Type 0} (P : X → Y → Z → Type 0) (xs : List X) (ys : List Y) (zs : List Z) (n : ℕ) → length xs ≤ n → length ys ≤ n → length zs ≤ n → EachThree P (take n xs) (take n ys) (take n zs) → EachThree P xs ys zs
three_whole P xs ys zs n a b c h =
    let e : take n xs ≡ xs = take_all n xs a in
    let f : take n ys ≡ ys = take_all n ys b in
    let g : take n zs ≡ zs = take_all n zs c in
    rw (← f, ← g) (subst (λ q. EachThree P q (take n ys) (take n zs)) e h)

module _ {X Z : Type 0} (P : X → Z → Type 0) where
  pub two_push : (xs : List X) (zs : List Z) (x : X) (z : Z) → EachTwo P xs zs → P x z → EachTwo P (xs ++ x ∷ []) (zs ++ z ∷ [])
  two_push [] [] x z h p = (p, tt)
  two_push (a ∷ xs) (c ∷ zs) x z h p = (h.0, two_push xs zs x z h.1 p)
  two_push _ _ x z h p = absurd h

  pub two_next : (xs : List X) (zs : List Z) (i : ℕ) (x : X) (z : Z) → i < length xs → i < length zs → x ≡ get_or xs i x → EachTwo P (take i xs) (take i zs) → P x z → EachTwo P (take (i + 1) xs) (take (i + 1) (set zs i z))
  two_next xs zs i x z hx hz ex h p =
      let front : take (i + 1) xs ≡ take i xs ++ x ∷ [] = subst (λ q. take (i + 1) xs ≡ take i xs ++ q ∷ []) (sym ex) (take_at_read xs i x hx).1 in
      let made : take (i + 1) (set zs i z) ≡ take i zs ++ z ∷ [] = take-set_at zs i (i + 1) z (omega arith) hz in
      rw (front, made) (two_push (take i xs) (take i zs) x z h p)

pub two_turn : {X Z : Type 0} (P : X → Z × Bool → Type 0) (xs : List X) (zs : List Z) (i : ℕ) (x : X) (r : Z × Bool) (all : Bool) → i < length xs → i < length zs → x ≡ get_or xs i x → (IsTrue all → EachTwo (λ x z. P x (z, true)) (take i xs) (take i zs)) → P x r → IsTrue (all && r.1) → EachTwo (λ x z. P x (z, true)) (take (i + 1) xs) (take (i + 1) (set zs i r.0))
two_turn P xs zs i x r all hx hz ex h p t =
    let b = both all r.1 t in
    two_next (λ x z. P x (z, true)) xs zs i x r.0 hx hz ex (h b.0) (subst (λ q. P x (r.0, q)) b.1 p)

pub two_whole : {X Z : Type 0} (P : X → Z → Type 0) (xs : List X) (zs : List Z) (n : ℕ) → length xs ≤ n → length zs ≤ n → EachTwo P (take n xs) (take n zs) → EachTwo P xs zs
two_whole P xs zs n a c h =
    let e : take n xs ≡ xs = take_all n xs a in
    let g : take n zs ≡ zs = take_all n zs c in
    rw (← g) (subst (λ q. EachTwo P q (take n zs)) e h)

pub three_mapped : {X Y Z U V W : Type 0} (P : X → Y → Z → Type 0) (Q : U → V → W → Type 0) (f : X → U) (g : Y → V) (h : Z → W) → ((x : X) (y : Y) (z : Z) → P x y z → Q (f x) (g y) (h z)) → (xs : List X) (ys : List Y) (zs : List Z) → EachThree P xs ys zs → EachThree Q (map f xs) (map g ys) (map h zs)
three_mapped P Q f g h law [] [] [] e = tt
three_mapped P Q f g h law (x ∷ xs) (y ∷ ys) (z ∷ zs) e = (law x y z e.0, three_mapped P Q f g h law xs ys zs e.1)
three_mapped P Q f g h law _ _ _ e = absurd e

pub two_mapped : {X Z U W : Type 0} (P : X → Z → Type 0) (Q : U → W → Type 0) (f : X → U) (h : Z → W) → ((x : X) (z : Z) → P x z → Q (f x) (h z)) → (xs : List X) (zs : List Z) → EachTwo P xs zs → EachTwo Q (map f xs) (map h zs)
two_mapped P Q f h law [] [] e = tt
two_mapped P Q f h law (x ∷ xs) (z ∷ zs) e = (law x z e.0, two_mapped P Q f h law xs zs e.1)
two_mapped P Q f h law _ _ e = absurd e

pub three_len : {X Y Z : Type 0} (P : X → Y → Z → Type 0) (xs : List X) (ys : List Y) (zs : List Z) → EachThree P xs ys zs → length zs ≡ length xs
three_len P [] [] [] e = refl
three_len P (x ∷ xs) (y ∷ ys) (z ∷ zs) e = ap suc (three_len P xs ys zs e.1)
three_len P _ _ _ e = absurd e

pub two_len : {X Z : Type 0} (P : X → Z → Type 0) (xs : List X) (zs : List Z) → EachTwo P xs zs → length zs ≡ length xs
two_len P [] [] e = refl
two_len P (x ∷ xs) (z ∷ zs) e = ap suc (two_len P xs zs e.1)
two_len P _ _ e = absurd e

-- what is written over the whole of a row
pub written : {Z : Type 0} (n : ℕ) (out items : List Z) → length out ≡ n → take n (out ++ drop (length out) items) ≡ out
written n out items e = let le : n ≤ length out = omega arith in take-append-le n out (drop (length out) items) le ∙ take_all n out (omega arith)

pub some_so : {X : Type 0} (P Q : X → Type 0) → ((x : X) → P x → Q x) → (o : Option X) → IfSome o P → IfSome o Q
some_so P Q law None h = tt
some_so P Q law (Some x) h = law x h
