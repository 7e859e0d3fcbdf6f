-- All turns that a round has left.
use Rattle.std.proofs.Common.{◌≡◌, ℕ, ◌+◌, ◌-◌, arith, take, refl, sym, ◌∙◌, ap, subst, List, ◌++◌, map, length, drop, Result, Ok, Err, Option, Some, None, Vec, Bor, Global}
use Rattle.std.specs.Prelude.{max, min, slice_range, MatchResult}
use Rattle.std.proofs.lemmas.Grind.{common_steps}
use Rattle.std.proofs.lemmas.List.{length-map}
use Rattle.nesl_values.specs.View.{tree_of}
use Rattle.nesl_values_builder.specs.Elements.{elements_of}
use Rattle.nesl_values_builder.specs.declared.builder.SequenceBuilder.{SequenceBuilder}
use Rattle.nesl_values.specs.declared.value.Value as code
use Rattle.nesl_eval_meaning.specs.Names.{Value}
use Rattle.nesl_eval_meaning.specs.Out.{Out}
use Rattle.nesl_eval_code.specs.Run.{Table}
use Rattle.nesl_eval_code.specs.Block.{Block}
use Rattle.nesl_eval_code.specs.Exec.{Places}
use Rattle.nesl_eval_ops.specs.declared.ops.Body.{Body}
use Rattle.nesl_eval_ops.specs.View.{body_block}
use Rattle.nesl_eval_nodes.specs.declared.meter.Meter.{Meter}
use Rattle.nesl_eval_nodes.specs.declared.meter.Stop.{Stop}
use Rattle.nesl_eval_nodes.specs.declared.meter.Stop.TheVariants.{Memory}
use Rattle.nesl_eval_nodes.specs.Meets.{Meets}
use Rattle.nesl_eval_nodes.specs.Sides as nodes
use Rattle.nesl_eval_nodes.specs.Sides.{Has}
use Rattle.nesl_eval_rounds.specs.declared.state.Round.{Round}
use Rattle.nesl_eval_rounds.specs.Leads.{ArePlaces}
use Rattle.nesl_eval_rounds.specs.Rounds.{chosen_places, at_place, gathering, turn_of, places_left, between}
use Rattle.nesl_eval_rounds.proofs.Columned.{filter_is, body_is, filter_took, body_took}
use Rattle.nesl_eval_rounds.proofs.Gathering.{after_places, after_values}
use Rattle.nesl_eval_machine.specs.State.{places_of}
use Rattle.nesl_eval_machine.proofs.Columned.{env_there}
use Rattle.nesl_split.specs.declared.found.Wanted.TheVariants as wanted
use Rattle.nesl_split.specs.declared.found.Found.{Found}
use Rattle.nesl_split.specs.declared.found.Found.TheVariants as found
use Rattle.nesl_split.specs.declared.turns.Room.{Room}
use Rattle.nesl_split.specs.declared.turns.Turns.{Turns}
use Rattle.nesl_split.specs.declared.turns.Interval.{Interval}
use Rattle.nesl_split.specs.declared.crew.Crew.{Crew}
use Rattle.nesl_split.specs.Finding.{Are, found_at, wanted_with}
use Rattle.nesl_split.specs.Intervals.{at_turn, found_in}
use Rattle.nesl_split.specs.Halves.{Came}
use Rattle.nesl_split.proofs.Finding.{meets_as, only_stuck, places_not, values_not}
use Rattle.nesl_split.proofs.Taken.{came_stuck, gathering_stops, add_ends}

-- this was found in them
abbrev pub FindsLeft : Table → ℕ → Places → Round Global → Option (Bor Body) → Meter → Result Found Stop → Meter → Type 0
FindsLeft t n env r q m x m' = Meets (Are (wanted_with q)) m x m' (found_at (wanted_with q) (turn_of t n env r) (places_left r r.turns))

module _ (t : Table) (n : ℕ) (b : Block) (env : Places) (st : List Value) (r : Round Global) (m m' : Meter) where
  pub left_stops : (U : Type 0) (e : Stop) (p : Out Value) → FindsLeft t n env r r.body m (Err e) m' → Came {U = U} m.fuel (Err e) m'.fuel (between t n b env st r) p
  left_stops U e p h = by_body r.body refl h
    where
      by_body : (q : Option (Bor Body)) → r.body ≡ q → FindsLeft t n env r q m (Err e) m' → Came {U = U} m.fuel (Err e) m'.fuel (between t n b env st r) p
      by_body (Some c) is h =
          subst (λ o. Came {U = U} m.fuel (Err e) m'.fuel o p) (sym (filter_is t n b env st r c is))
          (gathering_stops U (Are wanted.Places) r.start r.most r.kept.items (after_places t n b env st (map tree_of r.sources.items) c) m m' e _ p h)
      by_body None is h =
          subst (λ o. Came {U = U} m.fuel (Err e) m'.fuel o p) (sym (body_is t n b env st r is))
          (gathering_stops U (Are wanted.Values) r.start r.most (elements_of r.values) (after_values t n b env st) m m' e _ p h)

  pub left_places : {U : Type 0} (ks : Vec ℕ Global) (is : List ℕ) (r' : Round Global) (u : Result U Stop) → m.depth ≡ 0 → is ≡ ks.items → FindsLeft t n env r r.body m (Ok (found.Places ks)) m' →
      MatchResult u (λ x. (r' ≡ record r { kept = r'.kept; turns = length (chosen_places r.chosen); most = max r.most m'.depth }) × (r'.kept.items ≡ r.kept.items ++ is)) (λ e. e ≡ Memory) →
      Came m.fuel u m'.fuel (between t n b env st r) (between t n b env st r')
  left_places {U} ks is r' u flat same h adds = by_body r.body refl h
    where
      by_body : (q : Option (Bor Body)) → r.body ≡ q → FindsLeft t n env r q m (Ok (found.Places ks)) m' → Came m.fuel u m'.fuel (between t n b env st r) (between t n b env st r')
      by_body (Some c) is h =
          add_ends m.fuel m'.fuel u _ _ adds
          (λ x k. filter_took t n b env st r r' c ks m m' is flat (meets_as (Are wanted.Places) ArePlaces m m' (found.Places ks) ks _ (λ xs e. e.1) h) k.0 (k.1 ∙ ap (λ l. r.kept.items ++ l) same))
      by_body None is h =
          came_stuck m.fuel u m'.fuel _ _
          (body_is t n b env st r is ∙ ap (λ o. gathering r.start r.most (elements_of r.values) o (after_values t n b env st)) (only_stuck (Are wanted.Values) m m' (found.Places ks) _ (values_not ks) h))

  pub left_values : {U : Type 0} (made : SequenceBuilder Global) (r' : Round Global) (u : Result U Stop) → m.depth ≡ 0 → FindsLeft t n env r r.body m (Ok (found.Values made)) m' →
      MatchResult u (λ x. (r' ≡ record r { values = r'.values; turns = length (chosen_places r.chosen); most = max r.most m'.depth }) × (elements_of r'.values ≡ elements_of r.values ++ elements_of made)) (λ e. e ≡ Memory) →
      Came m.fuel u m'.fuel (between t n b env st r) (between t n b env st r')
  left_values {U} made r' u flat h adds = by_body r.body refl h
    where
      by_body : (q : Option (Bor Body)) → r.body ≡ q → FindsLeft t n env r q m (Ok (found.Values made)) m' → Came m.fuel u m'.fuel (between t n b env st r) (between t n b env st r')
      by_body None is h =
          add_ends m.fuel m'.fuel u _ _ adds
          (λ x k. body_took t n b env st r r' made m m' is flat (meets_as (Are wanted.Values) Has m m' (found.Values made) made _ (λ xs e. e.1) h) k.0 k.1)
      by_body (Some c) is h =
          came_stuck m.fuel u m'.fuel _ _
          (filter_is t n b env st r c is ∙ ap (λ o. gathering r.start r.most r.kept.items o (after_places t n b env st (map tree_of r.sources.items) c)) (only_stuck (Are wanted.Places) m m' (found.Values made) _ (places_not made) h))

-- the interval of a round
pub interval_finds : {R H G T : Type 0} (table : T → Table) (i : Interval R H G T) (ts : Turns) (room : Room) (crew : Crew R H G T) (r : Round Global) (m m' : Meter) (x : Result Found Stop) →
    i.wanted ≡ wanted_with r.body → i.room.now ≡ room → i.block.now ≡ r.block.now → i.sources.now ≡ r.sources.items → nodes.places_of i.places ≡ chosen_places r.chosen → i.crew.now ≡ crew →
    slice_range (chosen_places r.chosen) ts.from ts.to ≡ places_left r r.turns → Meets (Are i.wanted) m x m' (found_in table i ts) →
    FindsLeft (table crew.tops.now) room.levels (places_of room.names.now) r r.body m x m'
interval_finds table i ts room crew r m m' x wants in_room block sources places by left h =
    subst (λ w. Meets (Are w) m x m' (found_at w (turn_of (table crew.tops.now) room.levels (places_of room.names.now) r) (places_left r r.turns))) wants
    (subst (λ f. Meets (Are i.wanted) m x m' (found_at i.wanted f (places_left r r.turns))) turn
    (subst (λ l. Meets (Are i.wanted) m x m' (found_at i.wanted (at_turn table i) l)) (ap (λ l. slice_range l ts.from ts.to) places ∙ left) h))
  where
    turn : at_turn table i ≡ turn_of (table crew.tops.now) room.levels (places_of room.names.now) r
    turn =
        ap (λ (c : Crew _ _ _ _). at_place (table c.tops.now) i.room.now.levels (places_of i.room.now.names.now) (map tree_of i.sources.now) (body_block i.block.now)) by
        ∙ ap (λ (q : Room). at_place (table crew.tops.now) q.levels (places_of q.names.now) (map tree_of i.sources.now) (body_block i.block.now)) in_room
        ∙ ap (λ (vs : List (code.Value Global)). at_place (table crew.tops.now) room.levels (places_of room.names.now) (map tree_of vs) (body_block i.block.now)) sources
        ∙ ap (λ (k : Body). at_place (table crew.tops.now) room.levels (places_of room.names.now) (map tree_of r.sources.items) (body_block k)) block

-- turns that were taken over local names that were lent
pub lent_came : {U : Type 0} (t : Table) (n n' : ℕ) (b : Block) (st : List Value) (f f' last : ℕ) (x : Result U Stop) (env env' : Places) (r0 r0' r1 : Round Global) → n ≡ n' → env ≡ env' → f ≡ f' → r0 ≡ r0' →
    Came {U = U} f x last (between t n b env st r0) (between t n b env st r1) → Came {U = U} f' x last (between t n' b env' st r0') (between t n' b env' st r1)
lent_came {U} t n n' b st f f' last x env env' r0 r0' r1 levels names fuel same h =
    subst (λ k. Came {U = U} f' x last (between t k b env' st r0') (between t k b env' st r1)) levels
    (subst (λ e. Came {U = U} f' x last (between t n b e st r0') (between t n b e st r1)) names
    (subst (λ k. Came {U = U} k x last (between t n b env st r0') (between t n b env st r1)) fuel
    (subst (λ r. Came {U = U} f x last (between t n b env st r) (between t n b env st r1)) same h)))

-- the names that a block sees
pub names_seen : (b n : ℕ) (xs ds : List (code.Value Global)) → ds ≡ xs → n ≡ length xs → places_of (take (length ds - min b n) (drop (min b n) ds)) ≡ drop b (places_of xs)
names_seen b n xs ds e long = env_there (min b n) xs ds e ∙ within b n (places_of xs) (long ∙ sym (length-map xs tree_of) ∙ sym (length-map (map tree_of xs) Some))
  where
    within : {X : Type 0} (b n : ℕ) (ys : List X) → n ≡ length ys → drop (min b n) ys ≡ drop b ys
    within b n ys h = grind (arith, common_steps)
