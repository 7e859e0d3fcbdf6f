-- One pair after another.
use Rattle.std.proofs.Common.{◌≡◌, ℕ, pos, ◌<◌, ◌+◌, Bool, true, false, ◌&&◌, cond, List, [], ◌∷◌, ◌++◌, length, map, take, set, get_or, refl, sym, ap, subst, ◌∙◌, arith, Some, None, is_some, option_map}
use Rattle.std.specs.List.{list_all}
use Rattle.std.proofs.lemmas.Bool.Decides.{Decides-ltb}
use Rattle.std.proofs.lemmas.List.{map-id, take_all, length-append, get_or-append-add}
use Rattle.std.proofs.lemmas.List.Folds.{list_all-append}
use Rattle.std.proofs.Math.Seq.{take-append_seam}
use Rattle.nesl_scalars.specs.declared.trap.Trap.TheVariants.{Range}
use Rattle.nesl_values.specs.Tree.{ValueTree, int, pair, sequence, trees_of}
use Rattle.nesl_values.specs.Parts.{list_of}
use Rattle.nesl_seqs_base.specs.Outcome.{Outcome, gives, if_there}
use Rattle.nesl_seqs_base.specs.Reductions.{all_of}
use Rattle.nesl_seqs_base.specs.Meaning.{outcome_of}
use Rattle.nesl_seqs_base.specs.Write.{int_and_tree, overwritten, written, write_of, writes_of}
use Rattle.nesl_seqs_base.specs.declared.seq_fn.SeqFn.TheVariants as function
use Rattle.nesl_seqs_index.proofs.Picking.{IsRefused}
use Rattle.nesl_seqs_index.proofs.Writing.{given_written, refused_write, overwritten_none, overwritten_turn}
use Rattle.nesl_seqs.proofs.Moves.{list_back, same_elements}
use Rattle.nesl_seqs_laws.specs.Laws.{WritesNone, WritesInOrder}

-- what `<-` gives, by the lists
abbrev giving : List ValueTree → List ValueTree → Outcome
giving ts ps = if_there (all_of int_and_tree ps) (written ts)

listed : (ts ps : List ValueTree) → outcome_of function.Write (pair (sequence ts) (sequence ps)) ≡ giving ts ps
listed ts ps = ap (λ xs. giving xs (list_of (trees_of ps))) (list_back ts) ∙ ap (giving ts) (list_back ps)

pub none_written : WritesNone
none_written ts = listed ts [] ∙ given_written (λ p. p) [] ts refl ∙ ap (λ us. gives (sequence us)) (overwritten_none ts)

-- where each pair names a place, all are written
abbrev all_name : List ValueTree → List ValueTree → Bool
all_name ts ps = list_all (λ p. is_some (write_of (length ts) p)) ps

all_written : (ts ps : List ValueTree) → all_name ts ps ≡ true → giving ts ps ≡ gives (sequence (overwritten ts (writes_of (length ts) ps)))
all_written ts ps named =
    ap (giving ts) (sym (map-id ps)) ∙ given_written (λ p. p) ps ts named ∙ ap (λ qs. gives (sequence (overwritten ts (writes_of (length ts) qs)))) (map-id ps)

-- and where something is given, each does
each_names : (ts ps us : List ValueTree) → giving ts ps ≡ gives (sequence us) → all_name ts ps ≡ true
each_names ts ps us given = by (all_name ts ps) refl
  where
    by : (b : Bool) → all_name ts ps ≡ b → all_name ts ps ≡ true
    by true e = e
    by false e = absurd (subst (λ o. IsRefused o Range) (ap (giving ts) (map-id ps) ∙ given) (refused_write (λ p. p) ps ts e))

-- the place of a number that is below the length
place_named : (n k : ℕ) (t : ValueTree) → k < n → write_of n (pair (int (pos k)) t) ≡ Some (k, t)
place_named n k t h = ap (λ b. option_map (λ j. (j, t)) (cond b (Some k) None)) ((Decides-ltb k n).1 h)

pub written_in_order : WritesInOrder
written_in_order ts ps us k t h given =
    let n = length ts in
    let p : ValueTree = pair (int (pos k)) t in
    let before : giving ts ps ≡ gives (sequence us) = sym (listed ts ps) ∙ given in
    let named = each_names ts ps us before in
    let place = place_named (length ts) k t h in
    let old : us ≡ overwritten ts (writes_of (length ts) ps) = sym (same_elements _ _ (sym (all_written ts ps named) ∙ before)) in
    let all : all_name ts (ps ++ p ∷ []) ≡ true =
    list_all-append (λ q. is_some (write_of (length ts) q)) ps (p ∷ []) ∙ ap (λ b. b && (is_some (write_of (length ts) p) && true)) named ∙ ap (λ o. is_some o && true) place in
    let long : length (ps ++ p ∷ []) ≡ length ps + 1 = length-append ps (p ∷ []) in
    let front : map (λ q. q) (take (length ps) (ps ++ p ∷ [])) ≡ ps = map-id (take (length ps) (ps ++ p ∷ [])) ∙ take-append_seam ps (p ∷ []) in
    let whole : map (λ q. q) (take (length ps + 1) (ps ++ p ∷ [])) ≡ ps ++ p ∷ [] =
    map-id (take (length ps + 1) (ps ++ p ∷ [])) ∙ take_all (length ps + 1) (ps ++ p ∷ []) (omega (arith, long)) in
    let at : p ≡ get_or (ps ++ p ∷ []) (length ps) p = sym (ap (λ j. get_or (ps ++ p ∷ []) j p) (omega arith) ∙ get_or-append-add ps (p ∷ []) 0 p) in
    let new : set us k t ≡ overwritten ts (writes_of (length ts) (ps ++ p ∷ [])) =
    overwritten_turn (λ q. q) ts (length ts) (ps ++ p ∷ []) (length ps) p k t us (set us k t) (omega (arith, long)) at (sym place)
    (old ∙ ap (λ qs. overwritten ts (writes_of (length ts) qs)) (sym front)) refl
    ∙ ap (λ qs. overwritten ts (writes_of (length ts) qs)) whole in
    listed ts (ps ++ p ∷ []) ∙ all_written ts (ps ++ p ∷ []) all ∙ ap (λ vs. gives (sequence vs)) (sym new)
