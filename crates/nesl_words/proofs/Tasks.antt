-- What follows `batch`.
use Rattle.std.proofs.Common.{◌≡◌, ℕ, Bool, List, Option, Some, None, option_map, sym, ap, ◌∙◌}
use Rattle.nesl_words.specs.Words.{LimitWords, a_batch, some_costs, batch_among}

-- values were read: costs are wanted
pub costs_found : {S : Type 0} (text : S → List ℕ) (read : Option S) (values : S) (found : Option (List ℕ)) (heap among : Option ℕ) (hinted : Bool) (limits limited : LimitWords) → read ≡ Some values → option_map text read ≡ found → heap ≡ among → limits ≡ limited
    → some_costs (record { values = text values; heap = heap; limits = limits }) ≡ batch_among found among hinted limited
costs_found text read values found heap among hinted limits limited there same size most =
    ap (λ x. some_costs (record { values = text values; heap = x; limits = limits })) size ∙ ap (λ x. some_costs (record { values = text values; heap = among; limits = x })) most ∙ ap (λ x. batch_among x among hinted limited) (sym (ap (option_map text) there) ∙ same)

-- none were: a batch is wanted
pub batch_found : {S : Type 0} (text : S → List ℕ) (read : Option S) (found : Option (List ℕ)) (heap among : Option ℕ) (is_hinted hinted : Bool) (limits limited : LimitWords) → read ≡ None → option_map text read ≡ found → heap ≡ among → is_hinted ≡ hinted → limits ≡ limited
    → a_batch (record { heap = heap; is_hinted = is_hinted; limits = limits }) ≡ batch_among found among hinted limited
batch_found text read found heap among is_hinted hinted limits limited there same size told most =
    ap (λ x. a_batch (record { heap = x; is_hinted = is_hinted; limits = limits })) size ∙ ap (λ x. a_batch (record { heap = among; is_hinted = x; limits = limits })) told ∙ ap (λ x. a_batch (record { heap = among; is_hinted = hinted; limits = x })) most ∙ ap (λ x. batch_among x among hinted limited) (sym (ap (option_map text) there) ∙ same)
