-- Instances of types that are looked for in a bank, from a type down to its parts.
use Rattle.std.proofs.Common.{◌≡◌, ◌≢◌, inl, inr, ℕ, zero, suc, ◌+◌, ◌<◌, ◌≤◌, List, Option, None, Some, length, get_or, refl, sym, ap, subst, ◌∙◌, arith}
use Rattle.std.proofs.lemmas.List.{get_or-set_same, get_or-set_other, length-set, get_or_read}
use Rattle.std.proofs.lemmas.Option.{none-some}
use Rattle.nesl_types_shared.specs.Term.{Term, seq_of, pair_of}
use Rattle.nesl_types_shared.specs.Substitution.{substitute}
use Rattle.nesl_types_shared.specs.declared.shape.Shape.{Shape}
use Rattle.nesl_types_shared.specs.declared.shape.Shape.TheVariants.{SeqOf, Both}
use Rattle.nesl_types_shared.specs.Shapes.{shape_type, IsShapeBelow}
use Rattle.nesl_types_shared.specs.Types.{type_at}
use Rattle.nesl_types_shared.specs.Lists.{moved_to}
use Rattle.nesl_types_shared.specs.Renames.{AreBelow, IsWanted, AreInstances, Matches}
use Rattle.nesl_types_shared.proofs.Visited.{cases_eq}

abbrev place_or : ℕ → Option ℕ → ℕ
place_or p None = p
place_or p (Some a) = a

same_place : (p a : ℕ) → Some p ≡ Some a → p ≡ a
same_place p a h = ap (place_or p) h

module _ (old new : List (Option ℕ)) (q p : ℕ) (inside : q < length old) (w : IsWanted old new q p) where
  pub wanted_len : length new ≡ length old
  wanted_len = ap length w.now ∙ length-set old q (Some p)

  pub wanted_here : moved_to new q ≡ Some p
  wanted_here = ap (λ ps. get_or ps q None) w.now ∙ get_or-set_same old q (Some p) None inside

  pub wanted_other : (r : ℕ) → r ≢ q → moved_to new r ≡ moved_to old r
  wanted_other r d = ap (λ ps. get_or ps r None) w.now ∙ get_or-set_other old q r (Some p) None d

  pub wanted_kept : (r a : ℕ) → moved_to old r ≡ Some a → moved_to new r ≡ Some a
  wanted_kept r a h = elim (cases_eq r q) [
    | inl e ↦ subst (λ k. moved_to new k ≡ Some a) (sym e) (wanted_here ∙ ap Some (sym (w.before a (subst (λ k. moved_to old k ≡ Some a) e h))))
    | inr d ↦ wanted_other r d ∙ h
  ]

  pub wanted_below : (n : ℕ) → p < n → AreBelow n old → AreBelow n new
  wanted_below n l b r a h = elim (cases_eq r q) [
    | inl e ↦ subst (λ k. k < n) (same_place p a (sym wanted_here ∙ subst (λ k. moved_to new k ≡ Some a) e h)) l
    | inr d ↦ b r a (sym (wanted_other r d) ∙ h)
  ]

module _ (s : ℕ → Term) (ts : List Term) (old : List (Option ℕ)) (p : ℕ) where
  -- a shape without parts
  pub matches_leaf : (x : Shape) → ((f : ℕ → Term) → type_at ts p ≡ substitute s (shape_type f x)) → Matches s ts old old x p
  matches_leaf x h = record {
    longer = refl;
    kept = λ q a e. e;
    others = λ n q b l. refl;
    below = λ b. b;
    here = λ n f b i. h f;
  }

  pub matches_seq : (new : List (Option ℕ)) (q a : ℕ) → q < length old → a < length ts → type_at ts p ≡ seq_of (type_at ts a) → IsWanted old new q a → Matches s ts old new (SeqOf q) p
  matches_seq new q a inside l t w = record {
    longer = wanted_len old new q a inside w;
    kept = wanted_kept old new q a inside w;
    others = λ n r b m. wanted_other old new q a inside w r (λ e. omega arith);
    below = wanted_below old new q a inside w (length ts) l;
    here = λ n f b i. t ∙ ap seq_of (i q a b (wanted_here old new q a inside w));
  }

  pub matches_both : (mid new : List (Option ℕ)) (q r a b : ℕ) → q < length old → r < length old → a < length ts → b < length ts → type_at ts p ≡ pair_of (type_at ts a) (type_at ts b) → IsWanted old mid r b → IsWanted mid new q a → Matches s ts old new (Both q r) p
  matches_both mid new q r a b left right la lb t v w =
      let len = wanted_len old mid r b right v in
      let inside : q < length mid = omega (arith, len, left) in
      record {
        longer = wanted_len mid new q a inside w ∙ len;
        kept = λ k c e. wanted_kept mid new q a inside w k c (wanted_kept old mid r b right v k c e);
        others = λ n k c m. wanted_other mid new q a inside w k (λ e. omega (arith, c.0)) ∙ wanted_other old mid r b right v k (λ e. omega (arith, c.1));
        below = λ c. wanted_below mid new q a inside w (length ts) la (wanted_below old mid r b right v (length ts) lb c);
        here = λ n f c i.
            let x = i q a c.0 (wanted_here mid new q a inside w) in
            let y = i r b c.1 (wanted_kept mid new q a inside w r b (wanted_here old mid r b right v)) in
            t ∙ ap (λ u. pair_of u (type_at ts b)) x ∙ ap (pair_of (substitute s (f q))) y;
      }

-- from `next` on, each part is what is at the place that is noted for it, where those before it are
pub record IsChecking (s : ℕ → Term) (ts from : List Term) (part place next : ℕ) (wanted : List (Option ℕ)) : Type 0 where
  pub inside : next ≤ length from
  pub len : length wanted ≡ length from
  pub top : moved_to wanted part ≡ Some place
  pub below : AreBelow (length ts) wanted
  pub checked : (q a : ℕ) → next ≤ q → moved_to wanted q ≡ Some a → AreInstances s ts wanted q (type_at from) → type_at ts a ≡ substitute s (type_at from q)

module _ (s : ℕ → Term) (ts from : List Term) (part place n k : ℕ) (wanted : List (Option ℕ)) (e : k + 1 ≡ n) (i : IsChecking s ts from part place n wanted) where
  -- a part for which no place is noted
  pub checking_none : moved_to wanted k ≡ None → IsChecking s ts from part place k wanted
  checking_none h = record {
    inside = omega (arith, i.inside);
    len = i.len;
    top = i.top;
    below = i.below;
    checked = λ q a l m. elim (cases_eq q k) [
      | inl o ↦ absurd (none-some a (sym h ∙ subst (λ r. moved_to wanted r ≡ Some a) o m))
      | inr d ↦ i.checked q a (omega arith) m
    ];
  }

  pub checking_some : (new : List (Option ℕ)) (p : ℕ) (x : Shape) → moved_to wanted k ≡ Some p → IsShapeBelow k x → type_at from k ≡ shape_type (type_at from) x → Matches s ts wanted new x p → IsChecking s ts from part place k new
  checking_some new p x h b t m = record {
    inside = omega (arith, i.inside);
    len = m.longer ∙ i.len;
    top = m.kept part place i.top;
    below = m.below i.below;
    checked = λ q a l o j. elim (cases_eq q k) [
      | inl same ↦
          let o' = subst (λ r. moved_to new r ≡ Some a) same o in
          let here : p ≡ a = same_place p a (sym (m.kept k p h) ∙ o') in
          subst (λ r. type_at ts a ≡ substitute s (type_at from r)) (sym same)
          (ap (type_at ts) (sym here) ∙ m.here k (type_at from) b (subst (λ r. AreInstances s ts new r (type_at from)) same j) ∙ ap (substitute s) (sym t))
      | inr d ↦ i.checked q a (omega arith) (sym (m.others k q b l) ∙ o) (λ r c u v. j r c u (m.kept r c v))
    ];
  }

-- where all are checked, each is what is at the place that is noted for it
all_checked : (s : ℕ → Term) (ts from : List Term) (part place : ℕ) (wanted : List (Option ℕ)) → IsChecking s ts from part place 0 wanted → (k : ℕ) → AreInstances s ts wanted k (type_at from)
all_checked s ts from part place wanted i zero q a l h = absurd (omega arith)
all_checked s ts from part place wanted i (suc k) q a l h =
    i.checked q a (omega arith) h (λ r b m e. all_checked s ts from part place wanted i k r b (omega arith) e)

pub checked_whole : (s : ℕ → Term) (ts from : List Term) (part place : ℕ) (wanted : List (Option ℕ)) → IsChecking s ts from part place 0 wanted → type_at ts place ≡ substitute s (type_at from part)
checked_whole s ts from part place wanted i = all_checked s ts from part place wanted i (part + 1) part place (omega arith) i.top

-- what was read at a place inside of a list
pub read_here : (wanted : List (Option ℕ)) (k : ℕ) (o : Option ℕ) → k < length wanted → o ≡ get_or wanted k o → moved_to wanted k ≡ o
read_here wanted k o l h = sym (get_or_read wanted k o l h None)
