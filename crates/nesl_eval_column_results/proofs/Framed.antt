-- The frames at the turns of a block.
use Rattle.std.proofs.Common.{◌≡◌, ℕ, List, [], ◌∷◌, Option, Some, None, Bor, refl, sym, ap, ◌∙◌, subst, rules}
use Rattle.std.specs.Prelude.{slice_get, option_map, option_and_then, IsSomeAnd}
use Rattle.std.proofs.lemmas.Option.{same_Some, none-some}
use Rattle.nesl_eval_meaning.specs.Names.{Value}
use Rattle.nesl_eval_code.specs.Frames.{Frames}
use Rattle.nesl_eval_meaning.specs.Out.{Out}
use Rattle.nesl_eval_column_results.specs.declared.block.Block.{Block}
use Rattle.nesl_eval_column_results.specs.declared.columns.Columns.{Columns}
use Rattle.nesl_eval_column_results.specs.declared.scopes.Scopes.{Scopes, Rows, Let, Call, Turns, the_lemmas}
use Rattle.nesl_eval_column_results.specs.Columns.{value_at}
use Rattle.nesl_eval_column_results.specs.Blocks.{block_places, frames_at}
use Rattle.nesl_eval_column_results.specs.Frames.{bound_at, frames_in, IsAt, AreAt}

pub mapped_some : {X Y : Type 0} (h : X → Y) (o : Option X) (y : Y) → option_map h o ≡ Some y → (x : X) × (o ≡ Some x) × (h x ≡ y)
mapped_some h (Some x) y e = (x, refl, same_Some (h x) y e)
mapped_some h None y e = absurd (none-some y e)

pub some_and : {X : Type 0} (o : Option X) (P : X → Type 0) → IsSomeAnd o P → (x : X) × (o ≡ Some x) × P x
some_and (Some x) P h = (x, refl, h)
some_and None P h = absurd h

pub frames-Rows : {A T : Type 0} (b : Block A T) (k : ℕ) → frames_in b Rows k ≡ option_map (frames_at b) (slice_get (block_places b) k)
frames-Rows b k = search (rules, the_lemmas)

pub frames-Let : {A T : Type 0} (b : Block A T) (cs : Bor (List (Columns A))) (rest : Bor (Scopes A)) (k : ℕ) → frames_in b (Let cs rest) k ≡ option_map (λ fs. bound_at cs.now k ∷ fs) (frames_in b rest.now k)
frames-Let b cs rest k = search (rules, the_lemmas)

pub frames-Call : {A T : Type 0} (b : Block A T) (c : Bor (Columns A)) (rest : Bor (Scopes A)) (k : ℕ) → frames_in b (Call c rest) k ≡ option_map (λ fs. (value_at c.now k ∷ []) ∷ []) (frames_in b rest.now k)
frames-Call b c rest k = search (rules, the_lemmas)

pub frames-Turns : {A T : Type 0} (b : Block A T) (ts : Bor (List ℕ)) (rest : Bor (Scopes A)) (k : ℕ) → frames_in b (Turns ts rest) k ≡ option_and_then (frames_in b rest.now) (slice_get ts.now k)
frames-Turns b ts rest k = search (rules, the_lemmas)

then_some : {X Y : Type 0} (h : X → Option Y) (o : Option X) (y : Y) → option_and_then h o ≡ Some y → (x : X) × (o ≡ Some x) × (h x ≡ Some y)
then_some h (Some x) y e = (x, refl, e)
then_some h None y e = absurd (none-some y e)

module _ {A T : Type 0} (b : Block A T) (s : Scopes A) (k : ℕ) (fs : Frames) where
  -- at a turn of the rows
  pub at_row : s ≡ Rows → frames_in b s k ≡ Some fs → (i : ℕ) × (slice_get (block_places b) k ≡ Some i) × (frames_at b i ≡ fs)
  at_row is e = mapped_some (frames_at b) (slice_get (block_places b) k) fs (sym (frames-Rows b k) ∙ ap (λ t. frames_in b t k) (sym is) ∙ e)

  -- at a turn of a `let`
  pub at_let : (cs : Bor (List (Columns A))) (rest : Bor (Scopes A)) → s ≡ Let cs rest → frames_in b s k ≡ Some fs → (gs : Frames) × (frames_in b rest.now k ≡ Some gs) × (bound_at cs.now k ∷ gs ≡ fs)
  at_let cs rest is e = mapped_some (λ gs. bound_at cs.now k ∷ gs) (frames_in b rest.now k) fs (sym (frames-Let b cs rest k) ∙ ap (λ t. frames_in b t k) (sym is) ∙ e)

  -- at a turn of a call
  pub at_call : (c : Bor (Columns A)) (rest : Bor (Scopes A)) → s ≡ Call c rest → frames_in b s k ≡ Some fs → (gs : Frames) × (frames_in b rest.now k ≡ Some gs) × ((value_at c.now k ∷ []) ∷ [] ≡ fs)
  at_call c rest is e = mapped_some (λ gs. (value_at c.now k ∷ []) ∷ []) (frames_in b rest.now k) fs (sym (frames-Call b c rest k) ∙ ap (λ t. frames_in b t k) (sym is) ∙ e)

  -- at one of some turns
  pub at_turn : (ts : Bor (List ℕ)) (rest : Bor (Scopes A)) → s ≡ Turns ts rest → frames_in b s k ≡ Some fs → (j : ℕ) × (slice_get ts.now k ≡ Some j) × (frames_in b rest.now j ≡ Some fs)
  at_turn ts rest is e = then_some (frames_in b rest.now) (slice_get ts.now k) fs (sym (frames-Turns b ts rest k) ∙ ap (λ t. frames_in b t k) (sym is) ∙ e)

-- what is found at some of the turns
pub turns_find : {A T : Type 0} (b : Block A T) (s : Scopes A) (ts : Bor (List ℕ)) (rest : Bor (Scopes A)) (p : Frames → Out Value) (us vs : ℕ → Option Value) (ms ns : ℕ → Option ℕ) → s ≡ Turns ts rest → AreAt p (frames_in b rest.now) us ms → ((k j : ℕ) → slice_get ts.now k ≡ Some j → (vs k ≡ us j) × (ns k ≡ ms j)) → AreAt p (frames_in b s) vs ns
turns_find b s ts rest p us vs ms ns is h same = λ k fs e.
    let w = at_turn b s k fs ts rest is e in
    let x = h w.0 fs w.2 in
    let z = same k w.0 w.1 in
    (x.0, x.1, z.0 ∙ x.2, z.1 ∙ x.3, x.4)

-- what is found below the frame of a `let`
pub below_let : {A T : Type 0} (b : Block A T) (s : Scopes A) (cs : Bor (List (Columns A))) (rest : Bor (Scopes A)) (p q : Frames → Out Value) (vs : ℕ → Option Value) (ns : ℕ → Option ℕ) → s ≡ Let cs rest → ((x : List (Option Value)) (gs : Frames) → p (x ∷ gs) ≡ q gs) → AreAt q (frames_in b rest.now) vs ns → AreAt p (frames_in b s) vs ns
below_let b s cs rest p q vs ns is law h = λ k fs e.
    let w = at_let b s k fs cs rest is e in
    subst (λ hs. IsAt vs ns k (p hs)) w.2 (subst (λ o. IsAt vs ns k o) (sym (law (bound_at cs.now k) w.0)) (h k w.0 w.1))
