-- Rounds of an apply-to-each.
use Rattle.std.proofs.Common.{◌≡◌, ℕ, zero, suc, ◌+◌, ◌<◌, refl, sym, ◌∙◌, ap, subst, arith, Bool, true, false, cond, List, [], ◌∷◌, ◌++◌, map, drop, Result, Ok, Err, Option, Some, None, Vec, Bor}
use Rattle.std.specs.Prelude.{max, slice_get, is_some, MatchResult}
use Rattle.nesl_values.specs.Tree as values
use Rattle.nesl_values.specs.Tree.{size}
use Rattle.nesl_values.specs.Parts.{as_bool}
use Rattle.nesl_values.specs.View.{tree_of}
use Rattle.nesl_values_builder.specs.Elements.{elements_of}
use Rattle.nesl_values_builder.specs.declared.builder.SequenceBuilder.{SequenceBuilder}
use Rattle.nesl_eval_meaning.specs.Names.{Value}
use Rattle.nesl_eval_meaning.specs.Out.{Out, value, stuck, after_cost, and_then, given, beside}
use Rattle.nesl_eval_meaning.specs.Outcome.{place_if_true, body_value}
use Rattle.nesl_eval_code.specs.Run.{Table}
use Rattle.nesl_eval_code.specs.Block.{Block}
use Rattle.nesl_eval_code.specs.Exec.{Places, exec, kept_of, values_of}
use Rattle.nesl_eval_code.proofs.Outs.{then_assoc, then_same}
use Rattle.nesl_eval_ops.specs.declared.ops.Body.{Body}
use Rattle.nesl_eval_ops.specs.View.{body_block}
use Rattle.nesl_eval_nodes.specs.declared.meter.Meter.{Meter}
use Rattle.nesl_eval_nodes.specs.declared.meter.Stop.{Stop}
use Rattle.nesl_eval_nodes.specs.declared.meter.Stop.TheVariants.{Fault, Over, Memory, Stuck}
use Rattle.nesl_eval_nodes.specs.Meets.{Meets}
use Rattle.nesl_eval_nodes.specs.Sides.{IsOne}
use Rattle.nesl_eval_rounds.specs.declared.state.Chosen.TheVariants.{These}
use Rattle.nesl_eval_rounds.specs.declared.state.Round.{Round}
use Rattle.nesl_eval_rounds.specs.Rounds.{chosen_places, at_place, gathering, gathered_as, all_values, turn_of, places_left, between, in_turn}
use Rattle.nesl_eval_rounds.specs.Leads.{Leads, Gave}
use Rattle.nesl_eval_rounds.proofs.Laws.{after_none, gathering_more, gathering_done, gathering_first}

nothing : 0 + 0 ≡ 0
nothing = omega arith

none : {X : Type 0} (o : Out X) → after_cost (0 + 0) 0 o ≡ after_cost 0 0 o
none o = ap (λ w. after_cost w 0 o) nothing

rest_some : {X : Type 0} (xs : List X) (i : ℕ) (x : X) → slice_get xs i ≡ Some x → drop i xs ≡ x ∷ drop (suc i) xs
rest_some [] i x h = absurd (cc h)
rest_some (y ∷ xs) zero x h = let e : y ≡ x = cc h in ap (λ z. z ∷ xs) e
rest_some (y ∷ xs) (suc i) x h = rest_some xs i x h

rest_none : {X : Type 0} (xs : List X) (i : ℕ) → slice_get xs i ≡ None → drop i xs ≡ []
rest_none [] zero h = refl
rest_none [] (suc i) h = refl
rest_none (y ∷ xs) zero h = absurd (cc h)
rest_none (y ∷ xs) (suc i) h = rest_none xs i h

module _ (t : Table) (n : ℕ) (b : Block) (env : Places) (st : List Value) where
  -- what comes after the places of a filter, and after the values of a body
  abbrev pub after_places : List Value → Bor Body → List ℕ → Out Value
  after_places vs c ks = and_then (values_of (at_place t n env vs (body_block c.now)) ks) (λ v. exec t n env b (v ∷ st))

  abbrev pub after_values : List Value → Out Value
  after_values us = exec t n env b (values.sequence us ∷ st)

  pub then_result : (o : Out (List Value)) (k : Value → Out Value) → and_then (and_then o (λ us. value (values.sequence us) 0 0)) k ≡ and_then o (λ us. k (values.sequence us))
  then_result o k = then_assoc o (λ us. value (values.sequence us) 0 0) k ∙ then_same o _ _ (λ us. after_none (k (values.sequence us)))

module _ {A : Type 0} (t : Table) (n : ℕ) (b : Block) (env : Places) (st : List Value) where
  -- one more place of a filter
  place_leads : (r : Round A) (kept : Vec ℕ A) (c : Bor Body) (v : Value) (q : Bool) (D f : ℕ) → r.body ≡ Some c → as_bool v ≡ Some q →
      kept.items ≡ r.kept.items ++ cond q (r.place ∷ []) [] →
      Leads f f (in_turn t n b env st r (value v 0 D)) (between t n b env st (record r { kept = kept; turns = suc r.turns; most = max r.most D })) (Unit {0})
  place_leads r kept c v q D f is holds more =
      let vs = map tree_of r.sources.items in
      let ps = kept_of (turn_of t n env r) (places_left r (suc r.turns)) in
      let us = all_values (turn_of t n env r) (places_left r (suc r.turns)) in
      let xs = cond q (r.place ∷ []) [] in
      let d : D + 0 ≡ D = omega arith in
      record {
        work = 0;
        spent = omega arith;
        same =
            ap (λ g. gathered_as t n b env st vs r.start r.most g r.kept.items (elements_of r.values) (beside (and_then (value v 0 D) (place_if_true r.place)) ps) (beside (and_then (value v 0 D) body_value) us)) is
            ∙ ap (λ p. gathering r.start r.most r.kept.items (beside (after_cost 0 D (given p (λ x. value (cond x (r.place ∷ []) []) 0 0))) ps) (after_places t n b env st vs c)) holds
            ∙ gathering_more r.start r.most r.kept.items xs (0 + 0) (D + 0) ps (after_places t n b env st vs c)
            ∙ none _
            ∙ ap (λ e. after_cost 0 0 (gathering r.start (max r.most e) (r.kept.items ++ xs) ps (after_places t n b env st vs c))) d
            ∙ ap (λ l. after_cost 0 0 (gathering r.start (max r.most D) l ps (after_places t n b env st vs c))) (sym more)
            ∙ ap (λ g. after_cost 0 0 (gathered_as t n b env st vs r.start (max r.most D) g kept.items (elements_of r.values) ps us)) (sym is);
        fits = tt;
      }

  pub place_gave : (r r' : Round A) (kept : Vec ℕ A) (c : Bor Body) (v : Value) (q : Bool) (D f : ℕ) (u : Result (Unit {0}) Stop) → r.body ≡ Some c → as_bool v ≡ Some q →
      kept.items ≡ r.kept.items ++ cond q (r.place ∷ []) [] →
      MatchResult u (λ x. r' ≡ record r { kept = kept; turns = suc r.turns; most = max r.most D }) (λ e. e ≡ Memory) →
      Gave f u f (in_turn t n b env st r (value v 0 D)) (between t n b env st r')
  place_gave r r' kept c v q D f (Ok x) is holds more h =
      subst (λ y. Leads f f (in_turn t n b env st r (value v 0 D)) (between t n b env st y) (Unit {0})) (sym h) (place_leads r kept c v q D f is holds more)
  place_gave r r' kept c v q D f (Err e) is holds more h =
      subst (λ y. Gave {U = Unit {0}} f (Err y) f (in_turn t n b env st r (value v 0 D)) (between t n b env st r')) (sym h) tt

  -- a filter's value is no truth value
  pub no_place : (r : Round A) (c : Bor Body) (v : Value) (D : ℕ) → r.body ≡ Some c → as_bool v ≡ None → in_turn t n b env st r (value v 0 D) ≡ stuck
  no_place r c v D is holds =
      let vs = map tree_of r.sources.items in
      let ps = kept_of (turn_of t n env r) (places_left r (suc r.turns)) in
      let us = all_values (turn_of t n env r) (places_left r (suc r.turns)) in
      ap (λ g. gathered_as t n b env st vs r.start r.most g r.kept.items (elements_of r.values) (beside (and_then (value v 0 D) (place_if_true r.place)) ps) (beside (and_then (value v 0 D) body_value) us)) is
      ∙ ap (λ p. gathering r.start r.most r.kept.items (beside (after_cost 0 D (given p (λ x. value (cond x (r.place ∷ []) []) 0 0))) ps) (after_places t n b env st vs c)) holds

  -- one more value of a body
  value_same : (r : Round A) (v : Value) (D : ℕ) (made : List Value) → r.body ≡ None → made ≡ elements_of r.values ++ v ∷ [] →
      in_turn t n b env st r (value v 0 D)
      ≡ after_cost (size v) 0 (gathered_as t n b env st (map tree_of r.sources.items) r.start (max r.most D) r.body r.kept.items made
      (kept_of (turn_of t n env r) (places_left r (suc r.turns))) (all_values (turn_of t n env r) (places_left r (suc r.turns))))
  value_same r v D made is more =
      let vs = map tree_of r.sources.items in
      let ps = kept_of (turn_of t n env r) (places_left r (suc r.turns)) in
      let us = all_values (turn_of t n env r) (places_left r (suc r.turns)) in
      let d : D + 0 ≡ D = omega arith in
      let w : 0 + size v ≡ size v = omega arith in
      ap (λ g. gathered_as t n b env st vs r.start r.most g r.kept.items (elements_of r.values) (beside (and_then (value v 0 D) (place_if_true r.place)) ps) (beside (and_then (value v 0 D) body_value) us)) is
      ∙ gathering_more r.start r.most (elements_of r.values) (v ∷ []) (0 + size v) (D + 0) us (after_values t n b env st)
      ∙ ap (λ k. after_cost k 0 (gathering r.start (max r.most (D + 0)) (elements_of r.values ++ v ∷ []) us (after_values t n b env st))) w
      ∙ ap (λ e. after_cost (size v) 0 (gathering r.start (max r.most e) (elements_of r.values ++ v ∷ []) us (after_values t n b env st))) d
      ∙ ap (λ l. after_cost (size v) 0 (gathering r.start (max r.most D) l us (after_values t n b env st))) (sym more)
      ∙ ap (λ g. after_cost (size v) 0 (gathered_as t n b env st vs r.start (max r.most D) g r.kept.items made ps us)) (sym is)

  pub value_gave : (r r' : Round A) (made : SequenceBuilder A) (v : Value) (D f f' : ℕ) (u : Result (Unit {0}) Stop) → r.body ≡ None →
      elements_of made ≡ elements_of r.values ++ v ∷ [] → f ≡ f' + size v →
      MatchResult u (λ x. r' ≡ record r { values = made; turns = suc r.turns; most = max r.most D }) (λ e. e ≡ Memory) →
      Gave f u f' (in_turn t n b env st r (value v 0 D)) (between t n b env st r')
  value_gave r r' made v D f f' (Ok x) is more paid h =
      subst (λ y. Leads f f' (in_turn t n b env st r (value v 0 D)) (between t n b env st y) (Unit {0})) (sym h)
      (record { work = size v; spent = paid; same = value_same r v D (elements_of made) is more; fits = tt })
  value_gave r r' made v D f f' (Err e) is more paid h =
      subst (λ y. Gave {U = Unit {0}} f (Err y) f' (in_turn t n b env st r (value v 0 D)) (between t n b env st r')) (sym h) tt

  -- a body's value that costs too much
  pub value_over : (r : Round A) (v : Value) (D f : ℕ) → r.body ≡ None → f < size v →
      (w : ℕ) × (q : Out Value) × (in_turn t n b env st r (value v 0 D) ≡ after_cost w 0 q) × (f < w)
  value_over r v D f is over = (size v, _, value_same r v D (elements_of r.values ++ v ∷ []) is refl, over)

  -- a body's value that is not paid
  pub pay_stops : (U : Type 0) (r : Round A) (v : Value) (D f' : ℕ) (m n' : Meter) (e : Stop) (p : Out Value) → r.body ≡ None → Meets (IsOne {A = A}) m (Err e) n' (body_value v) →
      Gave {U = U} m.fuel (Err e) f' (in_turn t n b env st r (value v 0 D)) p
  pay_stops U r v D f' m n' (Fault k s) p is h = absurd h
  pay_stops U r v D f' m n' Over p is h = value_over r v D m.fuel is h
  pay_stops U r v D f' m n' Memory p is h = tt
  pay_stops U r v D f' m n' Stuck p is h = absurd h

  -- the body's round comes after that of a filter
  pub body_next : (r r' : Round A) (c : Bor Body) (kept : Vec ℕ A) → r.body ≡ Some c → slice_get (chosen_places r.chosen) r.turns ≡ None →
      r'.body ≡ None → r'.block ≡ c → r'.sources ≡ r.sources → r'.chosen ≡ These kept → kept.items ≡ r.kept.items → r'.turns ≡ 0 → r'.start ≡ r.start + r.most →
      r'.most ≡ 0 → elements_of r'.values ≡ [] →
      between t n b env st r ≡ between t n b env st r'
  body_next r r' c kept is none_left body block sources chosen same turns start most made =
      let vs = map tree_of r.sources.items in
      let f = turn_of t n env r in
      let f' = at_place t n env vs (body_block c.now) in
      let left = rest_none (chosen_places r.chosen) r.turns none_left in
      let K : Value → Out Value = λ v. exec t n env b (v ∷ st) in
      ap (λ g. gathered_as t n b env st vs r.start r.most g r.kept.items (elements_of r.values) (kept_of f (places_left r r.turns)) (all_values f (places_left r r.turns))) is
      ∙ ap (λ l. gathering r.start r.most r.kept.items (kept_of f l) (after_places t n b env st vs c)) left
      ∙ gathering_done r.start r.most r.kept.items (after_places t n b env st vs c)
      ∙ ap (after_cost 0 (r.start + r.most)) (then_result t n b env st (all_values f' r.kept.items) K)
      ∙ sym (gathering_first (r.start + r.most) (all_values f' r.kept.items) (after_values t n b env st))
      ∙ ap (λ s. gathering s 0 [] (all_values f' r.kept.items) (after_values t n b env st)) (sym start)
      ∙ ap (λ k. gathering r'.start k [] (all_values f' r.kept.items) (after_values t n b env st)) (sym most)
      ∙ ap (λ l. gathering r'.start r'.most l (all_values f' r.kept.items) (after_values t n b env st)) (sym made)
      ∙ ap (λ l. gathering r'.start r'.most (elements_of r'.values) (all_values f' l) (after_values t n b env st)) (sym same)
      ∙ ap (λ h. gathering r'.start r'.most (elements_of r'.values) (all_values f' (drop 0 (chosen_places h))) (after_values t n b env st)) (sym chosen)
      ∙ ap (λ k. gathering r'.start r'.most (elements_of r'.values) (all_values f' (places_left r' k)) (after_values t n b env st)) (sym turns)
      ∙ ap (λ h. gathering r'.start r'.most (elements_of r'.values) (all_values (at_place t n env vs (body_block h.now)) (places_left r' r'.turns)) (after_values t n b env st)) (sym block)
      ∙ ap (λ h. gathering r'.start r'.most (elements_of r'.values) (all_values (at_place t n env (map tree_of h.items) (body_block r'.block.now)) (places_left r' r'.turns)) (after_values t n b env st)) (sym sources)
      ∙ ap (λ g. gathered_as t n b env st (map tree_of r'.sources.items) r'.start r'.most g r'.kept.items (elements_of r'.values) (kept_of (turn_of t n env r') (places_left r' r'.turns)) (all_values (turn_of t n env r') (places_left r' r'.turns))) (sym body)

  -- the next turn
  pub turn_next : (r r' : Round A) (i : ℕ) (o : Out Value) → slice_get (chosen_places r.chosen) r.turns ≡ Some i → r' ≡ record r { place = i } → o ≡ turn_of t n env r i →
      between t n b env st r ≡ in_turn t n b env st r' o
  turn_next r r' i o there is same =
      let f = turn_of t n env r in
      ap (λ l. gathered_as t n b env st (map tree_of r.sources.items) r.start r.most r.body r.kept.items (elements_of r.values) (kept_of f l) (all_values f l)) (rest_some (chosen_places r.chosen) r.turns i there)
      ∙ ap (in_turn t n b env st (record r { place = i })) (sym same)
      ∙ ap (λ y. in_turn t n b env st y o) (sym is)

  -- no turn is left of a body
  pub round_done : (r : Round A) (d : ℕ) → r.body ≡ None → slice_get (chosen_places r.chosen) r.turns ≡ None → d ≡ r.start + r.most →
      between t n b env st r ≡ after_cost 0 d (exec t n env b (values.sequence (elements_of r.values) ∷ st))
  round_done r d is none_left deep =
      let f = turn_of t n env r in
      ap (λ g. gathered_as t n b env st (map tree_of r.sources.items) r.start r.most g r.kept.items (elements_of r.values) (kept_of f (places_left r r.turns)) (all_values f (places_left r r.turns))) is
      ∙ ap (λ l. gathering r.start r.most (elements_of r.values) (all_values f l) (after_values t n b env st)) (rest_none (chosen_places r.chosen) r.turns none_left)
      ∙ gathering_done r.start r.most (elements_of r.values) (after_values t n b env st)
      ∙ ap (λ k. after_cost 0 k (after_values t n b env st (elements_of r.values))) (sym deep)

pub some_there : {X : Type 0} (o : Option X) → is_some o ≡ true → (x : X) × (o ≡ Some x)
some_there (Some x) e = (x, refl)
some_there None e = absurd (cc e)

pub next_round : {U : Type 0} {P Q : Type 0} (r : Result U Stop) → MatchResult r (λ x. P) (λ e. e ≡ Memory) → (P → Q) → MatchResult r (λ x. Q) (λ e. e ≡ Memory)
next_round (Ok u) h f = f h
next_round (Err e) h f = h

pub none_there : {X : Type 0} (o : Option X) → is_some o ≡ false → o ≡ None
none_there (Some x) e = absurd (cc e)
none_there None e = refl
