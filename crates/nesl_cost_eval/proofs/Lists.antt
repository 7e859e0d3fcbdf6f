-- Values of parts, one after the other.
use Rattle.std.proofs.Common.{◌≡◌, ℕ, suc, ◌+◌, ◌<◌, ◌≤◌, refl, sym, ◌∙◌, ap, subst, arith, List, [], ◌∷◌, ◌++◌, append_assoc, append-nil, length, get_or, drop, drop-cons, map, Result, Ok, Err, Vec, Global}
use Rattle.std.proofs.lemmas.List.{map-append, drop_all}
use Rattle.nesl_values.specs.View.{tree_of}
use Rattle.nesl_values.specs.declared.value.Value as code
use Rattle.nesl_eval_meaning.specs.Names.{Value}
use Rattle.nesl_eval_nodes.specs.Meets.{Is}
use Rattle.nesl_cost_meaning.specs.Cost.{free, after}
use Rattle.nesl_cost_meaning.specs.Traced.{Traced, value, fault, stuck, and_then}
use Rattle.nesl_cost_rows.specs.Written.{written}
use Rattle.nesl_cost_eval.specs.declared.unfinished.Unfinished.{Unfinished}
use Rattle.nesl_cost_eval.specs.Writes.{Book, Writes, AreValues}
use Rattle.nesl_cost_eval.proofs.Running.{IsOf, adds_free, adds_then, chained_value, stopped, err_same}

-- the items of a list, as they are
abbrev pub Same : {X : Type 0} → List X → List X → Type 0
Same xs ys = xs ≡ ys

-- what was found, after these
abbrev pub behind : {X : Type 0} → List X → Result (List X) Unfinished → Result (List X) Unfinished
behind xs (Ok ys) = Ok (xs ++ ys)
behind xs (Err e) = Err e

pub behind_twice : {X : Type 0} (xs ys : List X) (q : Result (List X) Unfinished) → behind xs (behind ys q) ≡ behind (xs ++ ys) q
behind_twice xs ys (Ok zs) = ap Ok (sym (append_assoc xs ys zs))
behind_twice xs ys (Err e) = refl

-- whatever is written for the parts that are left is written for all, behind the values so far
abbrev pub LeadsAll : Book → List Value → Traced (List Value) → Book → Traced (List Value) → Type 0
LeadsAll b xs p a o = (q : Result (List Value) Unfinished) (d : Book) → Writes Same b q d p → Writes Same a (behind xs q) d o

abbrev pub with_first : Traced Value → Traced (List Value) → Traced (List Value)
with_first o p = and_then o (λ v. and_then p (λ vs. value (v ∷ vs) free))

-- the list of a value and those after it
listed : (x : Value) (q : Result (List Value) Unfinished) (a b : Book) (p : Traced (List Value)) → Writes Same a q b p →
    Writes Same a (behind (x ∷ []) q) b (and_then p (λ vs. value (x ∷ vs) free))
listed x q a b stuck h = tt
listed x (Ok ys) a b (value zs c) h = (ap (λ l. x ∷ l) h.0, adds_then a b b c free h.1 (adds_free b))
listed x (Ok ys) a b (fault t s p c) h = absurd h
listed x (Err e) a b (value zs c) h = stopped Same Same e a b (value zs c) (λ vs. value (x ∷ vs) free) h
listed x (Err e) a b (fault t s p c) h = stopped Same Same e a b (fault t s p c) (λ vs. value (x ∷ vs) free) h

pub all_step : {A : Type 0} (v : code.Value A) (a b d : Book) (xs : List Value) (o : Traced Value) (p w : Traced (List Value)) →
    LeadsAll b xs (with_first o p) a w → Writes Is b (Ok v) d o → LeadsAll d (xs ++ tree_of v ∷ []) p a w
all_step v a b d xs o p w l h = λ q e i.
    subst (λ (r : Result (List Value) Unfinished). Writes Same a r e w) (behind_twice xs (tree_of v ∷ []) q)
    (l (behind (tree_of v ∷ []) q) e
    (chained_value Same v (behind (tree_of v ∷ []) q) b d e o (λ x. and_then p (λ vs. value (x ∷ vs) free)) h (listed (tree_of v) q d e p i)))

pub all_stop : (k : Unfinished) (a b d : Book) (xs : List Value) (o : Traced Value) (p w : Traced (List Value)) →
    LeadsAll b xs (with_first o p) a w → Writes (IsOf Global) b (Err k) d o → Writes AreValues a (Err k) d w
all_stop k a b d xs o p w l h =
    err_same Same AreValues k a d w (l (Err k) d (stopped (IsOf Global) Same k b d o (λ x. and_then p (λ vs. value (x ∷ vs) free)) h))

pub all_start : (a : Book) (o : Traced (List Value)) → LeadsAll a [] o a o
all_start a o = λ q d h. subst (λ (r : Result (List Value) Unfinished). Writes Same a r d o) (as_is q) h
  where
    as_is : (q : Result (List Value) Unfinished) → q ≡ behind [] q
    as_is (Ok ys) = refl
    as_is (Err e) = refl

pub all_end : (v : Vec (code.Value Global) Global) (a b : Book) (xs : List Value) (p w : Traced (List Value)) →
    map tree_of v.items ≡ xs → p ≡ value [] free → LeadsAll b xs p a w → Writes AreValues a (Ok v) b w
all_end v a b xs p w e z l =
    let h : Writes Same a (Ok (xs ++ [])) b w =
    l (Ok []) b (subst (λ (o : Traced (List Value)). Writes Same b (Ok []) b o) (sym z) (refl, adds_free b)) in
    by w h
  where
    by : (w : Traced (List Value)) → Writes Same a (Ok (xs ++ [])) b w → Writes AreValues a (Ok v) b w
    by stuck h = tt
    by (value zs c) h = (e ∙ sym (append-nil xs) ∙ h.0, h.1)
    by (fault t s p c) h = absurd h

pub mapped_more : {A : Type 0} (vs ws : List (code.Value A)) (v : code.Value A) (xs : List Value) → map tree_of vs ≡ xs → ws ≡ vs ++ v ∷ [] → map tree_of ws ≡ xs ++ tree_of v ∷ []
mapped_more vs ws v xs h e = ap (map tree_of) e ∙ map-append tree_of vs (v ∷ []) ∙ ap (λ l. l ++ tree_of v ∷ []) h

-- the items of a list from an item on
pub dropped : {X : Type 0} (xs : List X) (i : ℕ) (x : X) → i < length xs → x ≡ get_or xs i x → drop i xs ≡ x ∷ drop (i + 1) xs
dropped xs i x l h =
    let one : suc i ≡ i + 1 = omega arith in
    drop-cons xs i x l ∙ ap (λ y. y ∷ drop (suc i) xs) (sym h) ∙ ap (λ n. x ∷ drop n xs) one

pub none_left : {X : Type 0} (xs : List X) (i : ℕ) → length xs ≤ i → drop i xs ≡ []
none_left xs i h = drop_all i xs h
