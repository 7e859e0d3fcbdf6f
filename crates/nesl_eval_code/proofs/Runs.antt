-- The block of code evaluates to what the code does.
use Rattle.std.proofs.Common.{◌≡◌, ℕ, suc, ◌+◌, ◌-◌, refl, sym, ◌∙◌, ap, arith, List, [], ◌∷◌, ◌++◌, length, reverse, append_assoc, append-nil, Option, Some, None}
use Rattle.std.specs.Prelude.{slice_get}
use Rattle.std.proofs.lemmas.List.{length-map, map-append, length-reverse}
use Rattle.std.proofs.Math.ListN.{length-append}
use Rattle.nesl_lex.specs.declared.token.Span.{Span}
use Rattle.nesl_values.specs.Tree as values
use Rattle.nesl_values.specs.Parts.{as_bool, elements}
use Rattle.nesl_builtins.specs.declared.builtin.Builtin.{Builtin}
use Rattle.nesl_eval_code.specs.declared.code.Code.{Code, Number, Truth, Character, Text, Local, Top, Named, Pair', Apply', ApplyTwo', ApplyThree', Call', CallNamed', Choice', Sequence', Empty, Let', Each', FilteredEach', Row_of-Code, end_of-Code, more_of-Code, items-the_row-Code}
use Rattle.nesl_eval_meaning.specs.Names.{Value}
use Rattle.nesl_builtins.specs.Named.{look_up}
use Rattle.nesl_eval_meaning.specs.Out.{Out, value, and_then, given}
use Rattle.nesl_eval_meaning.specs.Outcome.{small_enough, apply_builtin, branch, common_places, lengths, place_if_true}
use Rattle.nesl_eval_meaning.specs.Outcome.{body_value}
use Rattle.nesl_eval_code.specs.Frames.{Frames, frame, row}
use Rattle.nesl_eval_code.specs.Run.{Table, run, run_node, run_all, run_let, run_filters, run_bodies, run_called, as_result, slot_at, code_span}
use Rattle.nesl_eval_code.specs.Block.{What, Leaf, Maker, of_one, of_two, of_three, of_pair, pairing, listing, placed, called_by, Block, push, enter, call, bind, forget, each, filtered, number, truth, character, text, empty, top, by_name}
use Rattle.nesl_eval_code.specs.Exec.{laid, admitted, leaf_value, leaf_out, made_of, at_places, kept_of, values_of, exec}
use Rattle.nesl_eval_code.specs.Flat.{room, place_of, local_what, leaf, leaf_of, Part, part, making, pushing, rest, deciding, forgetting, flat, applying, parts_in, binding, length_of}
use Rattle.nesl_eval_code.specs.BlockLaws.{sizes, RunsAsCode, LeavesItsValue}
use Rattle.nesl_eval_code.proofs.Outs.{then_assoc, then_same, then_value, given_same, branch_same, all_same}
use Rattle.nesl_eval_code.proofs.LocalPlaces.{laid_alone, local_is}
use Rattle.nesl_eval_code.proofs.Parts.{run_with, run_with_is, run_entered, then_node, PartIs, AllAre, making_is, pushing_is, taken_all}

-- the stack is empty where nothing comes after
abbrev pub Open : Option Block → List Value → Type 0
Open None [] = Unit {0}
Open None (v ∷ vs) = ⊥
Open (Some b) vs = Unit {0}

longer : {X : Type 0} (ws : List X) (v : X) → suc (length ws) ≡ length (ws ++ v ∷ [])
longer ws v = let e = length-append ws (v ∷ []) in omega arith

module _ (t : Table) (n : ℕ) where
  abbrev then_exec : Frames → Option Block → List Value → Value → Out Value
  then_exec fs o vs v = exec t n (laid fs) (rest o) (v ∷ vs)

  abbrev Flat : ℕ → Code → Type 0
  Flat h c =
      (fs : Frames) (o : Option Block) (vs : List Value) → Open o vs →
      exec t n (laid fs) (flat h (sizes fs) c o) vs ≡ and_then (run (n - h) t fs c) (then_exec fs o vs)

  -- a part that is pushed
  before_is : (h : ℕ) (fs : Frames) (c : Code) → Flat h c → (b : Block) (vs : List Value) →
      exec t n (laid fs) (flat h (sizes fs) c (Some b)) vs ≡ and_then (run (n - h) t fs c) (λ v. exec t n (laid fs) b (v ∷ vs))
  before_is h fs c i b vs = i fs (Some b) vs tt

  -- a block of its own
  alone_is : (h : ℕ) (fs : Frames) (c : Code) → Flat h c → exec t n (laid fs) (flat h (sizes fs) c None) [] ≡ run (n - h) t fs c
  alone_is h fs c i = i fs None [] tt ∙ then_value (run (n - h) t fs c)

  leaf_runs : (h : ℕ) (fs : Frames) (c : Code) (w : What) → run_node (run (n - suc h) t) t fs c ≡ leaf_value t (laid fs) w →
      run (n - h) t fs c ≡ leaf_out t n h (laid fs) (leaf (code_span c) w)
  leaf_runs h fs c w e = run_entered t n h fs c ∙ ap (λ o. and_then (admitted n h (code_span c)) (λ u. o)) e

  some_leaf : (h : ℕ) (fs : Frames) (c : Code) (w : What) (l : Leaf) → run_node (run (n - suc h) t) t fs c ≡ leaf_value t (laid fs) w →
      Some (leaf (code_span c) w) ≡ Some l → run (n - h) t fs c ≡ leaf_out t n h (laid fs) l
  some_leaf h fs c w l e q = let same : leaf (code_span c) w ≡ l = cc q in leaf_runs h fs c w e ∙ ap (leaf_out t n h (laid fs)) same

  leaf_is : (h : ℕ) (fs : Frames) (c : Code) (l : Leaf) → leaf_of (sizes fs) c ≡ Some l → run (n - h) t fs c ≡ leaf_out t n h (laid fs) l
  leaf_is h fs (Number s z) l e = some_leaf h fs (Number s z) (number z) l refl e
  leaf_is h fs (Truth s b) l e = some_leaf h fs (Truth s b) (truth b) l refl e
  leaf_is h fs (Character s x) l e = some_leaf h fs (Character s x) (character x) l refl e
  leaf_is h fs (Text s x) l e = some_leaf h fs (Text s x) (text x.items) l refl e
  leaf_is h fs (Empty s) l e = some_leaf h fs (Empty s) empty l refl e
  leaf_is h fs (Local s up i steps) l e =
      some_leaf h fs (Local s up i steps) (local_what (place_of (sizes fs) up i) steps.items) l (local_is t fs up i steps.items) e
  leaf_is h fs (Top s k) l e = some_leaf h fs (Top s k) (top k) l refl e
  leaf_is h fs (Named s x) l e = some_leaf h fs (Named s x) (by_name x.items) l refl e
  leaf_is h fs (Pair' s p a q b) l e = absurd (cc e)
  leaf_is h fs (Apply' s g p a) l e = absurd (cc e)
  leaf_is h fs (ApplyTwo' s g p a q b) l e = absurd (cc e)
  leaf_is h fs (ApplyThree' s g p a q b r c) l e = absurd (cc e)
  leaf_is h fs (Call' s k p a) l e = absurd (cc e)
  leaf_is h fs (CallNamed' s x p a) l e = absurd (cc e)
  leaf_is h fs (Choice' s p a q b r c) l e = absurd (cc e)
  leaf_is h fs (Sequence' s v cs) l e = absurd (cc e)
  leaf_is h fs (Let' s v cs p c) l e = absurd (cc e)
  leaf_is h fs (Each' s v cs p c) l e = absurd (cc e)
  leaf_is h fs (FilteredEach' s v cs p c q d) l e = absurd (cc e)

  part_is : (h : ℕ) (fs : Frames) (c : Code) → Flat h c → PartIs t n h fs (part (leaf_of (sizes fs) c) (λ b. flat h (sizes fs) c (Some b))) c
  part_is h fs c i = record { before = before_is h fs c i; leaf = leaf_is h fs c }

  -- a leaf alone
  push_is : (h : ℕ) (c : Code) (w : Frames → What) → ((fs : Frames) → run_node (run (n - suc h) t) t fs c ≡ leaf_value t (laid fs) (w fs)) →
      (fs : Frames) (o : Option Block) (vs : List Value) →
      exec t n (laid fs) (push h (leaf (code_span c) (w fs)) (rest o)) vs ≡ and_then (run (n - h) t fs c) (then_exec fs o vs)
  push_is h c w e fs o vs = ap (λ p. and_then p (then_exec fs o vs)) (sym (leaf_runs h fs c (w fs) (e fs)))

  -- what is made of all parts of a node
  node_made : (h : ℕ) (fs : Frames) (c : Code) (m : Maker) (s : Span) (ps : List Part) (cs : List Code) → AllAre t n (suc h) fs ps cs →
      (o : Option Block) (vs : List Value) → run_with (run (n - suc h) t) fs [] cs (made_of s m) ≡ run_node (run (n - suc h) t) t fs c →
      exec t n (laid fs) (enter h (code_span c) (making (suc h) s m 0 ps (rest o))) vs ≡ and_then (run (n - h) t fs c) (then_exec fs o vs)
  node_made h fs c m s ps cs a o vs e =
      then_node t n h fs c (then_exec fs o vs) _
      (making_is t n (suc h) fs s m 0 ps cs a (rest o) [] vs refl ∙ ap (λ p. and_then p (then_exec fs o vs)) e)

  -- a function of one value
  one_is : (h : ℕ) (s : Span) (g : Builtin) (a : Code) → Flat h a → (fs : Frames) (o : Option Block) (vs : List Value) →
      exec t n (laid fs) (making h s (of_one g) 0 (part (leaf_of (sizes fs) a) (λ b. flat h (sizes fs) a (Some b)) ∷ []) (rest o)) vs
      ≡ and_then (and_then (run (n - h) t fs a) (apply_builtin s g)) (then_exec fs o vs)
  one_is h s g a i fs o vs = making_is t n h fs s (of_one g) 0 (part _ _ ∷ []) (a ∷ []) (part_is h fs a i, tt) (rest o) [] vs refl

  -- and of a pair that is written out
  pair_is : (h : ℕ) (s w : Span) (g : Builtin) (p : _) (a : Code) (q : _) (d : Code) → Flat (suc h) a → Flat (suc h) d →
      (fs : Frames) (o : Option Block) (vs : List Value) →
      exec t n (laid fs) (enter h w (making (suc h) s (of_pair w g) 0
      (part (leaf_of (sizes fs) a) (λ c. flat (suc h) (sizes fs) a (Some c)) ∷ part (leaf_of (sizes fs) d) (λ c. flat (suc h) (sizes fs) d (Some c)) ∷ [])
      (rest o))) vs
      ≡ and_then (and_then (run (n - h) t fs (Pair' w p a q d)) (apply_builtin s g)) (then_exec fs o vs)
  pair_is h s w g p a q d i j fs o vs =
      let x = run (n - suc h) t fs a in
      let y = run (n - suc h) t fs d in
      let m : Value → Value → Out Value = λ u v. small_enough w (values.pair u v) in
      let k : Value → Out Value = λ v. and_then (apply_builtin s g v) (then_exec fs o vs) in
      then_node t n h fs (Pair' w p a q d) k _
      (making_is t n (suc h) fs s (of_pair w g) 0 (part _ _ ∷ part _ _ ∷ []) (a ∷ d ∷ []) (part_is (suc h) fs a i, (part_is (suc h) fs d j, tt)) (rest o) [] vs refl
      ∙ ap (λ e. and_then e (then_exec fs o vs))
      (sym (then_assoc x (λ u. and_then y (m u)) (apply_builtin s g) ∙ then_same x _ _ (λ u. then_assoc y (m u) (apply_builtin s g))))
      ∙ then_assoc (and_then x (λ u. and_then y (m u))) (apply_builtin s g) (then_exec fs o vs))
      ∙ sym (then_assoc (run (n - h) t fs (Pair' w p a q d)) (apply_builtin s g) (then_exec fs o vs))

  call_is : (h : ℕ) (s : Span) (k : ℕ) (p : _) (a : Code) → Flat (suc h) a → Flat h (Call' s k p a)
  call_is h s k p a i fs o vs way =
      let q = run (n - suc h) t fs a in
      then_node t n h fs (Call' s k p a) (then_exec fs o vs) _
      (before_is (suc h) fs a i (call h s (placed k) (rest o)) vs
      ∙ sym (then_assoc q (run_called (run (n - suc h) t) s (slot_at t k)) (then_exec fs o vs)))

  call_named_is : (h : ℕ) (s : Span) (x : _) (p : _) (a : Code) → Flat (suc h) a → Flat h (CallNamed' s x p a)
  call_named_is h s x p a i fs o vs way =
      let q = run (n - suc h) t fs a in
      then_node t n h fs (CallNamed' s x p a) (then_exec fs o vs) _
      (before_is (suc h) fs a i (call h s (called_by x.items) (rest o)) vs
      ∙ sym (then_assoc q (run_called (run (n - suc h) t) s (look_up t x.items)) (then_exec fs o vs)))

  -- one of two blocks
  decided : (h : ℕ) (fs : Frames) (c d : Code) → Flat h c → Flat h d → (o : Option Block) (vs : List Value) → Open o vs → (x : Value) →
      exec t n (laid fs) (deciding (flat h (sizes fs) c None) (flat h (sizes fs) d None) o) (x ∷ vs)
      ≡ and_then (branch (as_bool x) (run (n - h) t fs c) (run (n - h) t fs d)) (then_exec fs o vs)
  decided h fs c d i j None [] way x =
      branch_same (as_bool x) _ _ _ _ (alone_is h fs c i) (alone_is h fs d j)
      ∙ sym (then_value (branch (as_bool x) (run (n - h) t fs c) (run (n - h) t fs d)))
  decided h fs c d i j None (v ∷ vs) way x = absurd way
  decided h fs c d i j (Some b) vs way x =
      ap (λ q. and_then q (λ v. exec t n (laid fs) b (v ∷ vs))) (branch_same (as_bool x) _ _ _ _ (alone_is h fs c i) (alone_is h fs d j))

  choice_is : (h : ℕ) (s : Span) (p : _) (a : Code) (q : _) (c : Code) (r : _) (d : Code) → Flat (suc h) a → Flat (suc h) c → Flat (suc h) d →
      Flat h (Choice' s p a q c r d)
  choice_is h s p a q c r d i j k fs o vs way =
      let x = run (n - suc h) t fs a in
      then_node t n h fs (Choice' s p a q c r d) (then_exec fs o vs) _
      (before_is (suc h) fs a i (deciding (flat (suc h) (sizes fs) c None) (flat (suc h) (sizes fs) d None) o) vs
      ∙ then_same x _ _ (λ v. decided (suc h) fs c d j k o vs way v)
      ∙ sym (then_assoc x (λ v. branch (as_bool v) (run (n - suc h) t fs c) (run (n - suc h) t fs d)) (then_exec fs o vs)))

  -- the body of a `let`
  inside_is : (h : ℕ) (e : Code) → Flat h e → (fs : Frames) (o : Option Block) (vs : List Value) → Open o vs → (us : List Value) →
      exec t n (laid fs ++ frame us) (flat h (length us ∷ sizes fs) e (forgetting (room (sizes fs)) o)) vs
      ≡ and_then (run (n - h) t (frame us ∷ fs) e) (then_exec fs o vs)
  inside_is h e i fs None (v ∷ vs) way us = absurd way
  inside_is h e i fs None [] way us =
      ap (λ k. exec t n (laid fs ++ frame us) (flat h (k ∷ sizes fs) e None) []) (sym (length-map us Some)) ∙ i (frame us ∷ fs) None [] tt
  inside_is h e i fs (Some b) vs way us =
      ap (λ k. exec t n (laid fs ++ frame us) (flat h (k ∷ sizes fs) e (Some (forget (room (sizes fs)) b))) vs) (sym (length-map us Some))
      ∙ i (frame us ∷ fs) (Some (forget (room (sizes fs)) b)) vs tt
      ∙ then_same (run (n - h) t (frame us ∷ fs) e) _ _ (λ v. ap (λ p. exec t n p b (v ∷ vs)) (laid_alone fs (frame us)))

  -- a body or a filter at a place
  at_is : (h : ℕ) (e : Code) → Flat h e → (fs : Frames) (us : List Value) (k : ℕ) → k ≡ length us → (i : ℕ) →
      exec t n (laid fs ++ row i us) (flat h (k ∷ sizes fs) e None) [] ≡ run (n - h) t (row i us ∷ fs) e
  at_is h e j fs us k len i =
      ap (λ m. exec t n (laid fs ++ row i us) (flat h (m ∷ sizes fs) e None) []) (len ∙ sym (length-map us (λ v. slice_get (elements v) i)))
      ∙ alone_is h (row i us ∷ fs) e j

  -- what depends on the sequences that were pushed
  over_is : (h : ℕ) (c : Code) (s : Span) (fs : Frames) (ps : List Part) (cs : List Code) → AllAre t n (suc h) fs ps cs → (k : ℕ) → k ≡ length cs →
      (b : Block) (o : Option Block) (vs : List Value) (f : List Value → List ℕ → Out Value) →
      ((ws : List Value) → k ≡ length ws → exec t n (laid fs) b (ws ++ vs) ≡ and_then (at_places s (reverse ws) (f (reverse ws))) (then_exec fs o vs)) →
      run_node (run (n - suc h) t) t fs c ≡ and_then (run_all (run (n - suc h) t) fs [] cs) (λ us. at_places s us (f us)) →
      exec t n (laid fs) (enter h (code_span c) (pushing ps b)) vs ≡ and_then (run (n - h) t fs c) (then_exec fs o vs)
  over_is h c s fs ps cs a k len b o vs f g e =
      let F = run (n - suc h) t in
      then_node t n h fs c (then_exec fs o vs) _
      (pushing_is t n (suc h) fs ps cs a b [] vs k (λ us. and_then (at_places s us (f us)) (then_exec fs o vs)) g (omega arith)
      ∙ run_with_is F fs [] cs (λ us. and_then (at_places s us (f us)) (then_exec fs o vs))
      ∙ sym (then_assoc (run_all F fs [] cs) (λ us. at_places s us (f us)) (then_exec fs o vs))
      ∙ ap (λ p. and_then p (then_exec fs o vs)) (sym e))

  places_same : (s : Span) (us : List Value) (f g : List ℕ → Out Value) → ((is : List ℕ) → f is ≡ g is) → at_places s us f ≡ at_places s us g
  places_same s us f g e = given_same (lengths us) _ _ (λ ns. then_same (common_places s ns) f g e)

  values_same : (f g : ℕ → Out Value) → ((i : ℕ) → f i ≡ g i) → (is : List ℕ) → values_of f is ≡ values_of g is
  values_same f g e is = ap as_result (all_same _ _ (λ i. ap (λ p. and_then p body_value) (e i)) is)

  kept_same : (f g : ℕ → Out Value) → ((i : ℕ) → f i ≡ g i) → (is : List ℕ) → kept_of f is ≡ kept_of g is
  kept_same f g e is = all_same _ _ (λ i. ap (λ p. and_then p (place_if_true i)) (e i)) is

  each_there : (h : ℕ) (e : Code) → Flat h e → (s : Span) (fs : Frames) (k : ℕ) (b : Block) (vs ws : List Value) → k ≡ length ws →
      exec t n (laid fs) (each s k (flat h (k ∷ sizes fs) e None) b) (ws ++ vs)
      ≡ and_then (at_places s (reverse ws) (λ is. as_result (run_bodies (run (n - h) t) fs (reverse ws) e is))) (λ v. exec t n (laid fs) b (v ∷ vs))
  each_there h e j s fs k b vs ws len =
      let long : k ≡ length (reverse ws) = len ∙ sym (length-reverse ws) in
      ap (λ o. given o (λ p. and_then (at_places s p.0 (values_of (λ i. exec t n (laid fs ++ row i p.0) (flat h (k ∷ sizes fs) e None) []))) (λ v. exec t n (laid fs) b (v ∷ p.1))))
      (taken_all k ws vs len)
      ∙ ap (λ o. and_then o (λ v. exec t n (laid fs) b (v ∷ vs))) (places_same s (reverse ws) _ _ (values_same _ _ (at_is h e j fs (reverse ws) k long)))

  filtered_there : (h : ℕ) (e c : Code) → Flat h e → Flat h c → (s : Span) (fs : Frames) (k : ℕ) (b : Block) (vs ws : List Value) → k ≡ length ws →
      exec t n (laid fs) (filtered s k (flat h (k ∷ sizes fs) e None) (flat h (k ∷ sizes fs) c None) b) (ws ++ vs)
      ≡ and_then (at_places s (reverse ws) (λ is. and_then (run_filters (run (n - h) t) fs (reverse ws) c is) (λ ks. as_result (run_bodies (run (n - h) t) fs (reverse ws) e ks)))) (λ v. exec t n (laid fs) b (v ∷ vs))
  filtered_there h e c j l s fs k b vs ws len =
      let long : k ≡ length (reverse ws) = len ∙ sym (length-reverse ws) in
      ap (λ o. given o (λ p. and_then (at_places s p.0 (λ is. and_then (kept_of (λ i. exec t n (laid fs ++ row i p.0) (flat h (k ∷ sizes fs) c None) []) is)
      (values_of (λ i. exec t n (laid fs ++ row i p.0) (flat h (k ∷ sizes fs) e None) [])))) (λ v. exec t n (laid fs) b (v ∷ p.1))))
      (taken_all k ws vs len)
      ∙ ap (λ o. and_then o (λ v. exec t n (laid fs) b (v ∷ vs))) (places_same s (reverse ws) _ _ (λ is.
      ap (λ o. and_then o (values_of (λ i. exec t n (laid fs ++ row i (reverse ws)) (flat h (k ∷ sizes fs) e None) []))) (kept_same _ _ (at_is h c l fs (reverse ws) k long) is)
      ∙ then_same (run_filters (run (n - h) t) fs (reverse ws) c is) _ _ (values_same _ _ (at_is h e j fs (reverse ws) k long))))

  length_is : {m : _} (cs : Row_of-Code m) → length_of cs ≡ length (items-the_row-Code _ cs)
  length_is end_of-Code = refl
  length_is (more_of-Code c cs) = ap suc (length_is cs)

  mutual
    pub flat_is : (h : ℕ) (c : Code) → Flat h c
    flat_is h (Number s z) fs o vs way = push_is h (Number s z) (λ gs. number z) (λ gs. refl) fs o vs
    flat_is h (Truth s b) fs o vs way = push_is h (Truth s b) (λ gs. truth b) (λ gs. refl) fs o vs
    flat_is h (Character s x) fs o vs way = push_is h (Character s x) (λ gs. character x) (λ gs. refl) fs o vs
    flat_is h (Text s x) fs o vs way = push_is h (Text s x) (λ gs. text x.items) (λ gs. refl) fs o vs
    flat_is h (Empty s) fs o vs way = push_is h (Empty s) (λ gs. empty) (λ gs. refl) fs o vs
    flat_is h (Local s up i steps) fs o vs way =
        push_is h (Local s up i steps) (λ gs. local_what (place_of (sizes gs) up i) steps.items) (λ gs. local_is t gs up i steps.items) fs o vs
    flat_is h (Top s k) fs o vs way = push_is h (Top s k) (λ gs. top k) (λ gs. refl) fs o vs
    flat_is h (Named s x) fs o vs way = push_is h (Named s x) (λ gs. by_name x.items) (λ gs. refl) fs o vs
    flat_is h (Pair' s p a q d) fs o vs way =
        node_made h fs (Pair' s p a q d) pairing s (part _ _ ∷ part _ _ ∷ []) (a ∷ d ∷ [])
        (part_is (suc h) fs a (flat_is (suc h) a), (part_is (suc h) fs d (flat_is (suc h) d), tt)) o vs refl
    flat_is h (Apply' s g p a) fs o vs way =
        then_node t n h fs (Apply' s g p a) (then_exec fs o vs) _ (applying_is (suc h) s g a (flat_is (suc h) a) fs o vs)
    flat_is h (ApplyTwo' s g p a q d) fs o vs way =
        node_made h fs (ApplyTwo' s g p a q d) (of_two g) s (part _ _ ∷ part _ _ ∷ []) (a ∷ d ∷ [])
        (part_is (suc h) fs a (flat_is (suc h) a), (part_is (suc h) fs d (flat_is (suc h) d), tt)) o vs refl
    flat_is h (ApplyThree' s g p a q d r e) fs o vs way =
        node_made h fs (ApplyThree' s g p a q d r e) (of_three g) s (part _ _ ∷ part _ _ ∷ part _ _ ∷ []) (a ∷ d ∷ e ∷ [])
        (part_is (suc h) fs a (flat_is (suc h) a), (part_is (suc h) fs d (flat_is (suc h) d), (part_is (suc h) fs e (flat_is (suc h) e), tt))) o vs refl
    flat_is h (Call' s k p a) fs o vs way = call_is h s k p a (flat_is (suc h) a) fs o vs way
    flat_is h (CallNamed' s x p a) fs o vs way = call_named_is h s x p a (flat_is (suc h) a) fs o vs way
    flat_is h (Choice' s p a q c r d) fs o vs way =
        choice_is h s p a q c r d (flat_is (suc h) a) (flat_is (suc h) c) (flat_is (suc h) d) fs o vs way
    flat_is h (Sequence' s v cs) fs o vs way =
        node_made h fs (Sequence' s v cs) listing s (parts_in (suc h) (sizes fs) cs) (items-the_row-Code _ cs) (parts_are (suc h) fs cs) o vs
        (run_with_is (run (n - suc h) t) fs [] (items-the_row-Code _ cs) (made_of s listing))
    flat_is h (Let' s v cs p e) fs o vs way =
        then_node t n h fs (Let' s v cs p e) (then_exec fs o vs) _
        (ap (λ q. exec t n q (binding (suc h) (sizes fs) 0 cs (λ k. flat (suc h) (k ∷ sizes fs) e (forgetting (room (sizes fs)) o))) vs) (sym (append-nil (laid fs)))
        ∙ bindings_are (suc h) fs cs [] (λ k. flat (suc h) (k ∷ sizes fs) e (forgetting (room (sizes fs)) o)) e vs (then_exec fs o vs)
        (inside_is (suc h) e (flat_is (suc h) e) fs o vs way))
    flat_is h (Each' s v cs p e) fs o vs way =
        over_is h (Each' s v cs p e) s fs (parts_in (suc h) (sizes fs) cs) (items-the_row-Code _ cs) (parts_are (suc h) fs cs) (length_of cs) (length_is cs)
        _ o vs (λ us is. as_result (run_bodies (run (n - suc h) t) fs us e is))
        (each_there (suc h) e (flat_is (suc h) e) s fs (length_of cs) (rest o) vs) refl
    flat_is h (FilteredEach' s v cs p e q c) fs o vs way =
        over_is h (FilteredEach' s v cs p e q c) s fs (parts_in (suc h) (sizes fs) cs) (items-the_row-Code _ cs) (parts_are (suc h) fs cs) (length_of cs) (length_is cs)
        _ o vs (λ us is. and_then (run_filters (run (n - suc h) t) fs us c is) (λ ks. as_result (run_bodies (run (n - suc h) t) fs us e ks)))
        (filtered_there (suc h) e c (flat_is (suc h) e) (flat_is (suc h) c) s fs (length_of cs) (rest o) vs) refl

    applying_is : (h : ℕ) (s : Span) (g : Builtin) (a : Code) → Flat h a → (fs : Frames) (o : Option Block) (vs : List Value) →
        exec t n (laid fs) (applying h (sizes fs) s g (λ b. flat h (sizes fs) a (Some b)) a (rest o)) vs
        ≡ and_then (and_then (run (n - h) t fs a) (apply_builtin s g)) (then_exec fs o vs)
    applying_is h s g (Pair' w p a q d) i fs o vs = pair_is h s w g p a q d (flat_is (suc h) a) (flat_is (suc h) d) fs o vs
    applying_is h s g a i fs o vs = one_is h s g a i fs o vs

    parts_are : {m : _} (h : ℕ) (fs : Frames) (cs : Row_of-Code m) → AllAre t n h fs (parts_in h (sizes fs) cs) (items-the_row-Code _ cs)
    parts_are h fs end_of-Code = tt
    parts_are h fs (more_of-Code c cs) = (part_is h fs c (flat_is h c), parts_are h fs cs)

    bindings_are : {m : _} (h : ℕ) (fs : Frames) (cs : Row_of-Code m) (ws : List Value) (f : ℕ → Block) (e : Code) (vs : List Value) (k : Value → Out Value) →
        ((us : List Value) → exec t n (laid fs ++ frame us) (f (length us)) vs ≡ and_then (run (n - h) t (frame us ∷ fs) e) k) →
        exec t n (laid fs ++ frame ws) (binding h (sizes fs) (length ws) cs f) vs ≡ and_then (run_let (run (n - h) t) fs ws (items-the_row-Code _ cs) e) k
    bindings_are h fs end_of-Code ws f e vs k i = i ws
    bindings_are h fs (more_of-Code c cs) ws f e vs k i =
        let B = bind (binding h (sizes fs) (suc (length ws)) cs f) in
        let x = run (n - h) t (frame ws ∷ fs) c in
        ap (λ j. exec t n (laid fs ++ frame ws) (flat h (j ∷ sizes fs) c (Some B)) vs) (sym (length-map ws Some))
        ∙ flat_is h c (frame ws ∷ fs) (Some B) vs tt
        ∙ then_same x _ _ (λ v.
        ap (λ q. exec t n q (binding h (sizes fs) (suc (length ws)) cs f) vs)
        (append_assoc (laid fs) (frame ws) (Some v ∷ []) ∙ ap (λ q. laid fs ++ q) (sym (map-append Some ws (v ∷ []))))
        ∙ ap (λ j. exec t n (laid fs ++ frame (ws ++ v ∷ [])) (binding h (sizes fs) j cs f) vs) (longer ws v)
        ∙ bindings_are h fs cs (ws ++ v ∷ []) f e vs k i)
        ∙ sym (then_assoc x (λ v. run_let (run (n - h) t) fs (ws ++ v ∷ []) (items-the_row-Code _ cs) e) k)

pub runs_as_code : RunsAsCode
runs_as_code t n fs c =
    let whole : n - 0 ≡ n = omega arith in
    alone_is t n 0 fs c (flat_is t n 0 c) ∙ ap (λ m. run m t fs c) whole

pub leaves_its_value : LeavesItsValue
leaves_its_value t n h fs c b vs = flat_is t n h c fs (Some b) vs tt
