-- Elements of a sequence that is the same at all places, and its length.
use Rattle.std.proofs.Common.{◌≡◌, ℕ, ℤ, pos, negsuc, List, [], ◌∷◌, map, length, refl, sym, ap, ◌∙◌, Option, Some, None}
use Rattle.std.specs.Prelude.{slice_get, option_map, unwrap_or}
use Rattle.std.proofs.lemmas.Option.{slice_get-map}
use Rattle.nesl_lex.specs.declared.token.Span.{Span}
use Rattle.nesl_values.specs.Tree.{int, size}
use Rattle.nesl_values.specs.Parts.{as_sequence, elements}
use Rattle.nesl_seqs_base.specs.declared.seq_fn.SeqFn.TheVariants.{Length}
use Rattle.nesl_seqs_base.specs.Outcome as seqs
use Rattle.nesl_builtins.specs.declared.builtin.Builtin.TheVariants.{OfSequences}
use Rattle.nesl_eval_meaning.specs.Names.{Value}
use Rattle.nesl_eval_meaning.specs.Out.{value}
use Rattle.nesl_eval_meaning.specs.Outcome.{apply_builtin, on_sequence}
use Rattle.nesl_eval_columns.specs.Each.{EachTwo}
use Rattle.nesl_eval_column_results.specs.Picked.{at_number, Picks, IsLength}

-- what is a sequence of `n` elements
pub is_sequence : (v : Value) (ts : List Value) (n : ℕ) → Some n ≡ option_map length (as_sequence v) → ts ≡ elements v → as_sequence v ≡ Some ts
is_sequence v ts n h e = by (as_sequence v) refl
  where
    by : (o : Option (List Value)) → as_sequence v ≡ o → as_sequence v ≡ Some ts
    by (Some us) q = q ∙ ap Some (sym (e ∙ ap (λ o. unwrap_or o []) q))
    by None q = let no : Some n ≡ None = h ∙ ap (option_map length) q in absurd cc

-- an item at the place that a number names
pub item_picked : {X : Type 0} (leaf : X → Value) (xs : List X) (v : Value) (k : ℤ) (x : X) → as_sequence v ≡ Some (map leaf xs) → ((y : X) → size (leaf y) ≡ 1) → at_number xs k ≡ Some x → Picks v (int k) (leaf x)
item_picked leaf xs v (pos n) x is small h =
    let e : slice_get (map leaf xs) n ≡ Some (leaf x) = slice_get-map leaf xs n ∙ ap (option_map leaf) h in
    (rw (is, e) refl, small x)
item_picked leaf xs v (negsuc n) x is small h = absurd cc

pub items_picked : {X : Type 0} (leaf : X → Value) (xs : List X) (v : Value) → as_sequence v ≡ Some (map leaf xs) → ((y : X) → size (leaf y) ≡ 1) → (ks : List ℤ) (ys : List X) → EachTwo (λ k x. at_number xs k ≡ Some x) ks ys → EachTwo (Picks v) (map int ks) (map leaf ys)
items_picked leaf xs v is small [] [] h = tt
items_picked leaf xs v is small [] (y ∷ ys) h = absurd h
items_picked leaf xs v is small (k ∷ ks) [] h = absurd h
items_picked leaf xs v is small (k ∷ ks) (y ∷ ys) h = (item_picked leaf xs v k y is small h.0, items_picked leaf xs v is small ks ys h.1)

-- the length
pub length_is : (s : Span) (v y : Value) → IsLength v y → apply_builtin s (OfSequences Length) v ≡ value y 0 0
length_is s v y h =
    ap (λ o. on_sequence s Length v (seqs.if_there o (λ ts. seqs.gives (int (pos (length ts)))))) h.1 ∙ ap (λ u. value u 0 0) (sym h.2)
