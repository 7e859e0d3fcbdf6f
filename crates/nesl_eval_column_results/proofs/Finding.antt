-- What is found without a part: one value at all turns, and what functions have for columns.
use Rattle.std.proofs.Common.{◌≡◌, ℕ, List, Option, Some, None, refl, sym, ap, ◌∙◌}
use Rattle.std.specs.Prelude.{slice_get, unwrap_or}
use Rattle.std.proofs.lemmas.Option.{same_Some}
use Rattle.nesl_lex.specs.declared.token.Span.{Span}
use Rattle.nesl_scalars.specs.declared.unary.Unary.{Unary}
use Rattle.nesl_scalars.specs.declared.binary.Binary.{Binary}
use Rattle.nesl_scalars.specs.Outcomes.{gives}
use Rattle.nesl_scalars.specs.Scalars.{unary, binary}
use Rattle.nesl_builtins.specs.declared.builtin.Builtin.TheVariants.{OfOne, OfTwo, OfSequences}
use Rattle.nesl_seqs_base.specs.declared.seq_fn.SeqFn.TheVariants.{Length}
use Rattle.nesl_eval_code.specs.declared.code.Code.{Code}
use Rattle.nesl_eval_meaning.specs.Names.{Value}
use Rattle.nesl_eval_code.specs.Frames.{Frames}
use Rattle.nesl_eval_meaning.specs.Out.{Out, value}
use Rattle.nesl_eval_meaning.specs.Outcome.{apply_builtin, on_scalars}
use Rattle.nesl_eval_code.specs.Run.{Slot, function_slot, nothing_slot}
use Rattle.nesl_eval_columns.specs.Columns.{Makes, MapsColumn}
use Rattle.nesl_eval_column_results.specs.declared.columns.Columns.{Columns}
use Rattle.nesl_eval_column_results.specs.Columns.{value_at, both, SameUpTo, Applies}
use Rattle.nesl_eval_column_results.specs.Picked.{IsLength}
use Rattle.nesl_eval_column_results.specs.Frames.{AreAt, AllAre}
use Rattle.nesl_eval_column_results.proofs.Elements.{length_is}
use Rattle.nesl_eval_column_results.proofs.Valued.{both_some}
use Rattle.nesl_eval_column_results.proofs.Each.{each_at, three_at}

pub all_are : (p : Frames → Out Value) (at : ℕ → Option Frames) (v : Value) (vs : ℕ → Option Value) → ((k : ℕ) → vs k ≡ Some v) → AllAre p at (value v 0 0) → AreAt p at vs (λ k. Some 0)
all_are p at v vs same law = λ k fs e. (v, 0, same k, refl, law k fs e)

-- functions at the leaves of columns
pub one_applies : {A : Type 0} (s : Span) (g : Unary) (n : ℕ) (xs : ℕ → Option Value) (us zs : List Value) (c : Columns A) → SameUpTo n xs (slice_get us) → MapsColumn g us zs → ((k : ℕ) → value_at c k ≡ slice_get zs k) → Applies (OfOne g) s n xs c
one_applies s g n xs us zs c same e its = λ k x l q.
    let z = each_at (λ x z. unary g x ≡ gives z) us zs k x e (same k l ∙ q) in
    (z.0, its k ∙ z.1, ap (on_scalars s) z.2)

pub two_apply : {A : Type 0} (s : Span) (g : Binary) (n : ℕ) (xs : ℕ → Option Value) (us vs zs : List Value) (c : Columns A) → SameUpTo n xs (λ k. both (slice_get us k) (slice_get vs k)) → Makes g us vs zs → ((k : ℕ) → value_at c k ≡ slice_get zs k) → Applies (OfTwo g) s n xs c
two_apply s g n xs us vs zs c same e its = λ k x l q.
    let w = both_some (slice_get us k) (slice_get vs k) x (same k l ∙ q) in
    let z = three_at (λ x y z. binary g x y ≡ gives z) us vs zs k w.0 w.1 e w.2 w.3 in
    (z.0, its k ∙ z.1, ap (apply_builtin s (OfTwo g)) w.4 ∙ ap (on_scalars s) z.2)

pub length_applies : {A : Type 0} (s : Span) (n : ℕ) (xs : ℕ → Option Value) (v y : Value) (c : Columns A) → ((k : ℕ) → xs k ≡ Some v) → IsLength v y → ((k : ℕ) → value_at c k ≡ Some y) → Applies (OfSequences Length) s n xs c
length_applies s n xs v y c same is its = λ k x l q.
    let own : v ≡ x = same_Some v x (sym (same k) ∙ q) in
    (y, its k, ap (apply_builtin s (OfSequences Length)) (sym own) ∙ length_is s v y is)

-- what is at the place of a function
pub function_there : (o : Option Slot) (c : Code) → function_slot c ≡ unwrap_or o nothing_slot → o ≡ Some (function_slot c)
function_there (Some s) c e = ap Some (sym e)
function_there None c e = absurd cc
