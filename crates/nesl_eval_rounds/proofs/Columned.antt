-- Turns that are taken in columns.
use Rattle.std.proofs.Common.{◌≡◌, ℕ, ◌+◌, ◌-◌, ◌≤◌, refl, sym, ◌∙◌, ap, subst, arith, inl, inr, List, [], ◌∷◌, ◌++◌, append-nil, map, length, drop, Ok, Option, Some, None, Vec, Bor}
use Rattle.std.specs.Prelude.{max, min, slice_get, slice_range, IfSome, MatchOption}
use Rattle.std.proofs.lemmas.Grind.{common_steps}
use Rattle.std.proofs.lemmas.List.{length-map}
use Rattle.nesl_values.specs.Parts.{elements}
use Rattle.nesl_values.specs.View.{tree_of}
use Rattle.nesl_values.specs.declared.value.Value as code
use Rattle.nesl_values_builder.specs.Elements.{elements_of}
use Rattle.nesl_values_builder.specs.declared.builder.SequenceBuilder.{SequenceBuilder}
use Rattle.nesl_eval_meaning.specs.Names.{Value}
use Rattle.nesl_eval_meaning.specs.Out.{Out, value, fault, stuck, after_cost, and_then}
use Rattle.nesl_eval_meaning.specs.Outcome.{place_if_true, body_value}
use Rattle.nesl_eval_code.specs.declared.code.Code.{Code}
use Rattle.nesl_eval_code.specs.Frames.{Frames, row}
use Rattle.nesl_eval_code.specs.Run.{Table, run, run_at, run_filters, run_bodies}
use Rattle.nesl_eval_code.specs.Block.{Block}
use Rattle.nesl_eval_code.specs.Exec.{Places, laid, exec, kept_of}
use Rattle.nesl_eval_code.specs.Flat.{room, flat}
use Rattle.nesl_eval_code.specs.BlockLaws.{sizes}
use Rattle.nesl_eval_code.proofs.Outs.{all_same, then_value}
use Rattle.nesl_eval_code.proofs.Runs.{flat_is}
use Rattle.nesl_eval_ops.specs.View.{body_block}
use Rattle.nesl_eval_ops.specs.declared.ops.Body.{Body}
use Rattle.nesl_eval_nodes.specs.declared.meter.Meter.{Meter}
use Rattle.nesl_eval_nodes.specs.Meets.{Meets}
use Rattle.nesl_eval_nodes.specs.Sides.{Has}
use Rattle.nesl_eval_rounds.specs.declared.state.Round.{Round}
use Rattle.nesl_eval_rounds.specs.Slots.{places_of}
use Rattle.nesl_eval_rounds.specs.Rounds.{chosen_places, at_place, gathering, gathered_as, all_values, turn_of, places_left, between}
use Rattle.nesl_eval_rounds.specs.Leads.{Took, ArePlaces}
use Rattle.nesl_eval_rounds.proofs.Laws.{gathering_more, after_none, after_after}
use Rattle.nesl_eval_rounds.proofs.Gathering.{after_places, after_values}

-- a turn of code at a height is that of its block
module _ (t : Table) (n h : ℕ) (fs : Frames) (c : Code) (vs : List Value) (env : Places) (b : Block) (lies : laid fs ≡ env) (same : b ≡ flat h (length vs ∷ sizes fs) c None) where
  turn_is : (i : ℕ) → run_at (run (n - h) t) fs vs c i ≡ at_place t n env vs b i
  turn_is i =
      sym (flat_is t n h c (row i vs ∷ fs) None [] tt ∙ then_value (run (n - h) t (row i vs ∷ fs) c))
      ∙ ap (λ k. exec t n (laid fs ++ row i vs) (flat h (k ∷ sizes fs) c None) []) (length-map vs (λ v. slice_get (elements v) i))
      ∙ ap (λ e. exec t n (e ++ row i vs) (flat h (length vs ∷ sizes fs) c None) []) lies
      ∙ ap (λ d. exec t n (env ++ row i vs) d []) (sym same)

  pub filters_are : (is : List ℕ) → run_filters (run (n - h) t) fs vs c is ≡ kept_of (at_place t n env vs b) is
  filters_are is = all_same _ _ (λ i. ap (λ o. and_then o (place_if_true i)) (turn_is i)) is

  pub bodies_are : (is : List ℕ) → run_bodies (run (n - h) t) fs vs c is ≡ all_values (at_place t n env vs b) is
  bodies_are is = all_same _ _ (λ i. ap (λ o. and_then o body_value) (turn_is i)) is

-- the last places of a list
pub last_places : {X : Type 0} (xs : List X) (k n : ℕ) → n ≡ length xs → slice_range xs (min k n) n ≡ drop k xs
last_places xs k n e = grind (arith, common_steps)

pub room_next : (ks : List ℕ) (i k count rest left : ℕ) → (left ≡ room (drop i ks) → count ≡ room ks) → left ≡ rest + k → drop i ks ≡ k ∷ drop (i + 1) ks → rest ≡ room (drop (i + 1) ks) → count ≡ room ks
room_next ks i k count rest left h less next here = h (less ∙ ap (λ n. n + k) here ∙ sym (ap room next))

pub room_end : (ks : List ℕ) (i count left : ℕ) → (left ≡ room (drop i ks) → count ≡ room ks) → left ≡ 0 → length ks ≤ i → count ≡ room ks
room_end ks i count left h none past = h (none ∙ sym (ap room (nothing_behind ks i past)))
  where
    nothing_behind : (xs : List ℕ) (i : ℕ) → length xs ≤ i → drop i xs ≡ []
    nothing_behind xs i h = grind (arith, common_steps)

-- outcomes that lead to each other
pub took_none : (f : ℕ) (o p : Out Value) → o ≡ p → Took f f o p
took_none f o p e = inr (record {
  work = 0;
  spent = omega arith;
  same = e ∙ sym (after_none p);
  fits = tt;
})

pub twice : (w v : ℕ) (q : Out Value) → after_cost w 0 (after_cost v 0 q) ≡ after_cost (w + v) 0 q
twice w v q = let nothing : 0 + 0 ≡ 0 = omega arith in after_after w 0 v 0 q ∙ ap (λ d. after_cost (w + v) d q) nothing

pub took_then : (f f1 f2 : ℕ) (o p q : Out Value) → Took f f1 o p → Took f1 f2 p q → Took f f2 o q
took_then f f1 f2 o p q (inl e) k = inl e
took_then f f1 f2 o p q (inr h) (inl e) = inl (h.same ∙ ap (after_cost h.work 0) e)
took_then f f1 f2 o p q (inr h) (inr k) = inr (record {
  work = h.work + k.work;
  spent = omega (arith, h.spent, k.spent);
  same = h.same ∙ ap (after_cost h.work 0) k.same ∙ twice h.work k.work q;
  fits = tt;
})

list_value : {X : Type 0} {x y : List X} {w w' d d' : ℕ} → x ≡ y → w ≡ w' → d ≡ d' → value x w d ≡ value y w' d'
list_value o p q = cc

-- all turns, and then none
pub gathered : {X : Type 0} (start most : ℕ) (done xs : List X) (w d : ℕ) (k : List X → Out Value) →
    gathering start most done (value xs w d) k ≡ after_cost w 0 (gathering start (max most d) (done ++ xs) (value [] 0 0) k)
gathered start most done xs w d k =
    ap (λ p. gathering start most done p k) (list_value (sym (append-nil xs)) (omega arith) (omega arith))
    ∙ gathering_more start most done xs w d (value [] 0 0) k

gathering_took : {R X : Type 0} (T : R → List X → Type 0) (start most : ℕ) (done : List X) (k : List X → Out Value) (m m' : Meter) (v : R) (o : Out (List X)) (p : Out Value) →
    m.depth ≡ 0 → Meets T m (Ok v) m' o → ((xs : List X) → T v xs → p ≡ gathering start (max most m'.depth) (done ++ xs) (value [] 0 0) k) →
    Took m.fuel m'.fuel (gathering start most done o k) p
gathering_took T start most done k m m' v stuck p flat h same = inl refl
gathering_took T start most done k m m' v (fault f s w) p flat h same = absurd h
gathering_took T start most done k m m' v (value xs w d) p flat h same =
    let deep : d ≡ m'.depth = omega (arith, h.2, flat) in
    inr (record {
      work = w;
      spent = h.1;
      same =
          gathered start most done xs w d k
          ∙ ap (λ n. after_cost w 0 (gathering start (max most n) (done ++ xs) (value [] 0 0) k)) deep
          ∙ ap (after_cost w 0) (sym (same xs h.0));
      fits = tt;
    })

none_left : {X : Type 0} (xs : List X) → drop (length xs) xs ≡ []
none_left [] = refl
none_left (x ∷ xs) = none_left xs

module _ {A : Type 0} (t : Table) (n : ℕ) (b : Block) (env : Places) (st : List Value) where
  -- a filter's turns, and a body's
  pub filter_is : (r : Round A) (c : Bor Body) → r.body ≡ Some c →
      between t n b env st r ≡ gathering r.start r.most r.kept.items (kept_of (turn_of t n env r) (places_left r r.turns)) (after_places t n b env st (map tree_of r.sources.items) c)
  filter_is r c is =
      ap (λ g. gathered_as t n b env st (map tree_of r.sources.items) r.start r.most g r.kept.items (elements_of r.values) (kept_of (turn_of t n env r) (places_left r r.turns)) (all_values (turn_of t n env r) (places_left r r.turns))) is

  pub body_is : (r : Round A) → r.body ≡ None →
      between t n b env st r ≡ gathering r.start r.most (elements_of r.values) (all_values (turn_of t n env r) (places_left r r.turns)) (after_values t n b env st)
  body_is r is =
      ap (λ g. gathered_as t n b env st (map tree_of r.sources.items) r.start r.most g r.kept.items (elements_of r.values) (kept_of (turn_of t n env r) (places_left r r.turns)) (all_values (turn_of t n env r) (places_left r r.turns))) is

  filter_over : (r : Round A) (kept : Vec ℕ A) (c : Bor Body) (xs : List ℕ) (d : ℕ) → r.body ≡ Some c → kept.items ≡ r.kept.items ++ xs →
      between t n b env st (record r { kept = kept; turns = length (chosen_places r.chosen); most = max r.most d })
      ≡ gathering r.start (max r.most d) (r.kept.items ++ xs) (value [] 0 0) (after_places t n b env st (map tree_of r.sources.items) c)
  filter_over r kept c xs d is more =
      let K = after_places t n b env st (map tree_of r.sources.items) c in
      filter_is (record r { kept = kept; turns = length (chosen_places r.chosen); most = max r.most d }) c is
      ∙ ap (λ l. gathering r.start (max r.most d) kept.items (kept_of (turn_of t n env r) l) K) (none_left (chosen_places r.chosen))
      ∙ ap (λ l. gathering r.start (max r.most d) l (value [] 0 0) K) more

  body_over : (r : Round A) (made : SequenceBuilder A) (xs : List Value) (d : ℕ) → r.body ≡ None → elements_of made ≡ elements_of r.values ++ xs →
      between t n b env st (record r { values = made; turns = length (chosen_places r.chosen); most = max r.most d })
      ≡ gathering r.start (max r.most d) (elements_of r.values ++ xs) (value [] 0 0) (after_values t n b env st)
  body_over r made xs d is more =
      let K = after_values t n b env st in
      body_is (record r { values = made; turns = length (chosen_places r.chosen); most = max r.most d }) is
      ∙ ap (λ l. gathering r.start (max r.most d) (elements_of made) (all_values (turn_of t n env r) l) K) (none_left (chosen_places r.chosen))
      ∙ ap (λ l. gathering r.start (max r.most d) l (value [] 0 0) K) more

  -- all turns that were left were taken
  pub filter_took : (r r' : Round A) (c : Bor Body) (found : Vec ℕ A) (m m' : Meter) → r.body ≡ Some c → m.depth ≡ 0 →
      Meets ArePlaces m (Ok found) m' (kept_of (turn_of t n env r) (places_left r r.turns)) →
      r' ≡ record r { kept = r'.kept; turns = length (chosen_places r.chosen); most = max r.most m'.depth } → r'.kept.items ≡ r.kept.items ++ found.items →
      Took m.fuel m'.fuel (between t n b env st r) (between t n b env st r')
  filter_took r r' c found m m' is flat h same more =
      subst (λ q. Took m.fuel m'.fuel q (between t n b env st r')) (sym (filter_is r c is))
      (gathering_took ArePlaces r.start r.most r.kept.items (after_places t n b env st (map tree_of r.sources.items) c) m m' found _ (between t n b env st r') flat h
      (λ xs e. ap (between t n b env st) same ∙ filter_over r r'.kept c xs m'.depth is (more ∙ ap (λ l. r.kept.items ++ l) e)))

  pub body_took : (r r' : Round A) (made : SequenceBuilder A) (m m' : Meter) → r.body ≡ None → m.depth ≡ 0 →
      Meets Has m (Ok made) m' (all_values (turn_of t n env r) (places_left r r.turns)) →
      r' ≡ record r { values = r'.values; turns = length (chosen_places r.chosen); most = max r.most m'.depth } → elements_of r'.values ≡ elements_of r.values ++ elements_of made →
      Took m.fuel m'.fuel (between t n b env st r) (between t n b env st r')
  body_took r r' made m m' is flat h same more =
      subst (λ q. Took m.fuel m'.fuel q (between t n b env st r')) (sym (body_is r is))
      (gathering_took Has r.start r.most (elements_of r.values) (after_values t n b env st) m m' made _ (between t n b env st r') flat h
      (λ xs e. ap (between t n b env st) same ∙ body_over r r'.values xs m'.depth is (more ∙ ap (λ l. elements_of r.values ++ l) e)))

-- turns of code that the round keeps, in frames that lie end to end
module _ {A : Type 0} (t : Table) (n h : ℕ) (fs : Frames) (c : Code) (names us : List (code.Value A)) (ks : List ℕ) (r : Round A) (is : List ℕ) where
  the_block : ks ≡ length r.sources.items ∷ sizes fs → body_block r.block.now ≡ flat h ks c None → body_block r.block.now ≡ flat h (length (map tree_of r.sources.items) ∷ sizes fs) c None
  the_block e same = same ∙ ap (λ js. flat h js c None) (e ∙ ap (λ k. k ∷ sizes fs) (sym (length-map r.sources.items tree_of)))

  pub filter_turns : laid fs ≡ places_of names → ks ≡ length r.sources.items ∷ sizes fs → us ≡ r.sources.items → is ≡ places_left r r.turns → body_block r.block.now ≡ flat h ks c None →
      run_filters (run (n - h) t) fs (map tree_of us) c is ≡ kept_of (turn_of t n (places_of names) r) (places_left r r.turns)
  filter_turns lies e sources places same =
      ap (λ l. run_filters (run (n - h) t) fs (map tree_of l) c is) sources
      ∙ ap (run_filters (run (n - h) t) fs (map tree_of r.sources.items) c) places
      ∙ filters_are t n h fs c (map tree_of r.sources.items) (places_of names) (body_block r.block.now) lies (the_block e same) (places_left r r.turns)

  pub body_turns : laid fs ≡ places_of names → ks ≡ length r.sources.items ∷ sizes fs → us ≡ r.sources.items → is ≡ places_left r r.turns → body_block r.block.now ≡ flat h ks c None →
      run_bodies (run (n - h) t) fs (map tree_of us) c is ≡ all_values (turn_of t n (places_of names) r) (places_left r r.turns)
  body_turns lies e sources places same =
      ap (λ l. run_bodies (run (n - h) t) fs (map tree_of l) c is) sources
      ∙ ap (run_bodies (run (n - h) t) fs (map tree_of r.sources.items) c) places
      ∙ bodies_are t n h fs c (map tree_of r.sources.items) (places_of names) (body_block r.block.now) lies (the_block e same) (places_left r r.turns)

-- what is there meets another outcome too
pub some_meets : {R X : Type 0} (P : Type 0) (T : R → X → Type 0) (o : Option R) (m m' : Meter) (p q : Out X) → p ≡ q →
    MatchOption o P (λ v. Meets T m (Ok v) m' p) → IfSome o (λ v. Meets T m (Ok v) m' q)
some_meets P T (Some v) m m' p q e h = subst (Meets T m (Ok v) m') e h
some_meets P T None m m' p q e h = tt
