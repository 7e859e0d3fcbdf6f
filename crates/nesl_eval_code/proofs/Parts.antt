-- Parts of a node, one after the other.
use Rattle.std.proofs.Common.{◌≡◌, ℕ, zero, suc, ◌+◌, ◌-◌, ◌<◌, Bool, true, false, refl, sym, ◌∙◌, ap, arith, List, [], ◌∷◌, ◌++◌, length, reverse, append_assoc, append-nil, Option, Some, None}
use Rattle.std.specs.Prelude.{nat_lt, if◌then◌else◌}
use Rattle.std.proofs.lemmas.Bool.Decides.{nat_tests}
use Rattle.std.proofs.lemmas.List.{reverse-append}
use Rattle.nesl_lex.specs.declared.token.Span.{Span}
use Rattle.nesl_scalars.specs.declared.trap.Trap.TheVariants.{Deep}
use Rattle.nesl_eval_code.specs.declared.code.Code.{Code}
use Rattle.nesl_eval_meaning.specs.Names.{Value}
use Rattle.nesl_eval_meaning.specs.Out.{Out, value, fault, and_then, given}
use Rattle.nesl_eval_code.specs.Frames.{Frames}
use Rattle.nesl_eval_code.specs.Run.{Runs, Table, run, run_node, run_all, code_span}
use Rattle.nesl_eval_code.specs.Block.{Leaf, Maker, Block, make}
use Rattle.nesl_eval_code.specs.Exec.{laid, admitted, leaf_out, with_leaves, made_of, taken, exec}
use Rattle.nesl_eval_code.specs.Flat.{Part, leaves_of, one_more, if_leaves, making, pushing}
use Rattle.nesl_eval_code.proofs.Outs.{added_none, then_assoc, then_same}

-- values that were pushed one by one are taken in that order
pub taken_is : (rs vs us : List Value) → taken (length rs) (rs ++ vs) us ≡ Some (reverse rs ++ us, vs)
taken_is [] vs us = refl
taken_is (r ∷ rs) vs us =
    taken_is rs vs (r ∷ us)
    ∙ ap (λ ws. Some (ws, vs)) (sym (append_assoc (reverse rs) (r ∷ []) us) ∙ ap (λ ws. ws ++ us) (sym (reverse-append (r ∷ []) rs)))

pub taken_all : (k : ℕ) (rs vs : List Value) → k ≡ length rs → taken k (rs ++ vs) [] ≡ Some (reverse rs, vs)
taken_all k rs vs e =
    ap (λ j. taken j (rs ++ vs) []) e ∙ taken_is rs vs [] ∙ ap (λ ws. Some (ws, vs)) (append-nil (reverse rs))

-- codes from left to right, after the values `vs`, and then what depends on them all
abbrev pub run_with : Runs → Frames → List Value → List Code → (List Value → Out Value) → Out Value
run_with f fs vs [] k = k vs
run_with f fs vs (c ∷ cs) k = and_then (f fs c) (λ v. run_with f fs (vs ++ v ∷ []) cs k)

pub run_with_is : (f : Runs) (fs : Frames) (vs : List Value) (cs : List Code) (k : List Value → Out Value) →
    run_with f fs vs cs k ≡ and_then (run_all f fs vs cs) k
run_with_is f fs vs [] k = sym (added_none (k vs))
run_with_is f fs vs (c ∷ cs) k =
    then_same (f fs c) _ _ (λ v. run_with_is f fs (vs ++ v ∷ []) cs k)
    ∙ sym (then_assoc (f fs c) (λ v. run_all f fs (vs ++ v ∷ []) cs) k)

above : (n h : ℕ) → nat_lt h n ≡ true → n - h ≡ suc (n - suc h)
above n h e = let lt : h < n = grind (arith, nat_tests) in omega arith

below : (n h : ℕ) → nat_lt h n ≡ false → n - h ≡ zero
below n h e = grind (arith, nat_tests)

abbrev one_entered : Bool → Span → Out (Unit {0})
one_entered b s = if b then value tt 1 1 else fault Deep s 0

module _ (t : Table) (n : ℕ) where
  -- a node at a height is entered there
  pub run_entered : (h : ℕ) (fs : Frames) (c : Code) →
      run (n - h) t fs c ≡ and_then (admitted n h (code_span c)) (λ u. run_node (run (n - suc h) t) t fs c)
  unfolding run
  run_entered h fs c = by_test (nat_lt h n) refl
    where
      by_test : (b : Bool) → nat_lt h n ≡ b →
          run (n - h) t fs c ≡ and_then (one_entered b (code_span c)) (λ u. run_node (run (n - suc h) t) t fs c)
      by_test true e = let same = above n h e in rw same refl
      by_test false e = let same = below n h e in rw same refl

  -- what follows a node that is entered
  pub then_node : (h : ℕ) (fs : Frames) (c : Code) (k : Value → Out Value) (o : Out Value) →
      o ≡ and_then (run_node (run (n - suc h) t) t fs c) k →
      and_then (admitted n h (code_span c)) (λ u. o) ≡ and_then (run (n - h) t fs c) k
  then_node h fs c k o e =
      ap (λ p. and_then (admitted n h (code_span c)) (λ u. p)) e
      ∙ sym (then_assoc (admitted n h (code_span c)) (λ u. run_node (run (n - suc h) t) t fs c) k)
      ∙ ap (λ p. and_then p k) (sym (run_entered h fs c))

  -- a part of a node at a height is this code
  pub record PartIs (h : ℕ) (fs : Frames) (p : Part) (c : Code) : Type 0 where
    pub before : (b : Block) (vs : List Value) →
        exec t n (laid fs) (p.before b) vs ≡ and_then (run (n - h) t fs c) (λ v. exec t n (laid fs) b (v ∷ vs))
    pub leaf : (l : Leaf) → p.leaf ≡ Some l → run (n - h) t fs c ≡ leaf_out t n h (laid fs) l

  abbrev pub AllAre : ℕ → Frames → List Part → List Code → Type 0
  AllAre h fs [] [] = Unit {0}
  AllAre h fs [] (c ∷ cs) = ⊥
  AllAre h fs (p ∷ ps) [] = ⊥
  AllAre h fs (p ∷ ps) (c ∷ cs) = PartIs h fs p c × AllAre h fs ps cs

  all_leaves : (h : ℕ) (fs : Frames) (ps : List Part) (cs : List Code) (ls : List Leaf) → AllAre h fs ps cs → leaves_of ps ≡ Some ls →
      (us : List Value) (k : List Value → Out Value) → with_leaves t n h (laid fs) us ls k ≡ run_with (run (n - h) t) fs us cs k
  all_leaves h fs [] [] [] a e us k = refl
  all_leaves h fs [] [] (l ∷ ls) a e us k = absurd (cc e)
  all_leaves h fs [] (c ∷ cs) ls a e us k = absurd a
  all_leaves h fs (p ∷ ps) [] ls a e us k = absurd a
  all_leaves h fs (p ∷ ps) (c ∷ cs) ls a e us k =
      by (λ ms r v. all_leaves h fs ps cs ms a.1 r (us ++ v ∷ []) k) p.leaf (leaves_of ps) refl refl e
    where
      by : ((ms : List Leaf) → leaves_of ps ≡ Some ms → (v : Value) →
          with_leaves t n h (laid fs) (us ++ v ∷ []) ms k ≡ run_with (run (n - h) t) fs (us ++ v ∷ []) cs k) →
          (x : Option Leaf) (y : Option (List Leaf)) → p.leaf ≡ x → leaves_of ps ≡ y → one_more x y ≡ Some ls →
          with_leaves t n h (laid fs) us ls k ≡ and_then (run (n - h) t fs c) (λ v. run_with (run (n - h) t) fs (us ++ v ∷ []) cs k)
      by ih None y q r s = absurd (cc s)
      by ih (Some l) None q r s = absurd (cc s)
      by ih (Some l) (Some ms) q r s =
          let same : ls ≡ l ∷ ms = cc s in
          ap (λ js. with_leaves t n h (laid fs) us js k) same
          ∙ ap (λ o. and_then o (λ v. with_leaves t n h (laid fs) (us ++ v ∷ []) ms k)) (sym (a.0.leaf l q))
          ∙ then_same (run (n - h) t fs c) _ _ (ih ms r)

  made_there : (h : ℕ) (fs : Frames) (s : Span) (m : Maker) (k : ℕ) (ls : List Leaf) (b : Block) (rs vs : List Value) → k ≡ length rs →
      exec t n (laid fs) (make h s m k ls b) (rs ++ vs)
      ≡ and_then (with_leaves t n h (laid fs) (reverse rs) ls (made_of s m)) (λ v. exec t n (laid fs) b (v ∷ vs))
  made_there h fs s m k ls b rs vs e =
      ap (λ o. given o (λ p. and_then (with_leaves t n h (laid fs) p.0 ls (made_of s m)) (λ v. exec t n (laid fs) b (v ∷ p.1))))
      (taken_all k rs vs e)

  -- what is made of parts, of which some have been pushed
  pub making_is : (h : ℕ) (fs : Frames) (s : Span) (m : Maker) (k : ℕ) (ps : List Part) (cs : List Code) → AllAre h fs ps cs →
      (b : Block) (rs vs : List Value) → k ≡ length rs →
      exec t n (laid fs) (making h s m k ps b) (rs ++ vs)
      ≡ and_then (run_with (run (n - h) t) fs (reverse rs) cs (made_of s m)) (λ v. exec t n (laid fs) b (v ∷ vs))
  making_is h fs s m k [] [] a b rs vs e = made_there h fs s m k [] b rs vs e
  making_is h fs s m k [] (c ∷ cs) a b rs vs e = absurd a
  making_is h fs s m k (p ∷ ps) [] a b rs vs e = absurd a
  making_is h fs s m k (p ∷ ps) (c ∷ cs) a b rs vs e =
      by (λ v. making_is h fs s m (suc k) ps cs a.1 b (v ∷ rs) vs (ap suc e)) (leaves_of (p ∷ ps)) refl
    where
      by : ((v : Value) →
          exec t n (laid fs) (making h s m (suc k) ps b) (v ∷ (rs ++ vs))
          ≡ and_then (run_with (run (n - h) t) fs (reverse (v ∷ rs)) cs (made_of s m)) (λ x. exec t n (laid fs) b (x ∷ vs))) →
          (y : Option (List Leaf)) → leaves_of (p ∷ ps) ≡ y →
          exec t n (laid fs) (if_leaves y (λ ls. make h s m k ls b) (p.before (making h s m (suc k) ps b))) (rs ++ vs)
          ≡ and_then (run_with (run (n - h) t) fs (reverse rs) (c ∷ cs) (made_of s m)) (λ v. exec t n (laid fs) b (v ∷ vs))
      by ih (Some ls) q =
          made_there h fs s m k ls b rs vs e
          ∙ ap (λ o. and_then o (λ v. exec t n (laid fs) b (v ∷ vs))) (all_leaves h fs (p ∷ ps) (c ∷ cs) ls a q (reverse rs) (made_of s m))
      by ih None q =
          a.0.before (making h s m (suc k) ps b) (rs ++ vs)
          ∙ then_same (run (n - h) t fs c) _ _ (λ v.
          ih v
          ∙ ap (λ us. and_then (run_with (run (n - h) t) fs us cs (made_of s m)) (λ x. exec t n (laid fs) b (x ∷ vs))) (reverse-append (v ∷ []) rs))
          ∙ sym (then_assoc (run (n - h) t fs c) (λ v. run_with (run (n - h) t) fs (reverse rs ++ v ∷ []) cs (made_of s m)) (λ v. exec t n (laid fs) b (v ∷ vs)))

  -- parts that are all pushed before a block
  pub pushing_is : (h : ℕ) (fs : Frames) (ps : List Part) (cs : List Code) → AllAre h fs ps cs → (b : Block) (rs vs : List Value) (m : ℕ) →
      (k : List Value → Out Value) → ((ws : List Value) → m ≡ length ws → exec t n (laid fs) b (ws ++ vs) ≡ k (reverse ws)) →
      m ≡ length cs + length rs → exec t n (laid fs) (pushing ps b) (rs ++ vs) ≡ run_with (run (n - h) t) fs (reverse rs) cs k
  pushing_is h fs [] [] a b rs vs m k f e = f rs (omega arith)
  pushing_is h fs [] (c ∷ cs) a b rs vs m k f e = absurd a
  pushing_is h fs (p ∷ ps) [] a b rs vs m k f e = absurd a
  pushing_is h fs (p ∷ ps) (c ∷ cs) a b rs vs m k f e =
      a.0.before (pushing ps b) (rs ++ vs)
      ∙ then_same (run (n - h) t fs c) _ _ (λ v.
      pushing_is h fs ps cs a.1 b (v ∷ rs) vs m k f (omega arith)
      ∙ ap (λ us. run_with (run (n - h) t) fs us cs k) (reverse-append (v ∷ []) rs))
