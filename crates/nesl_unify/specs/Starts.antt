-- The tables of facts.
use Rattle.std.specs.Prelude.{◌≡◌, ◌<◌, ◌+◌, ℕ, List, length, get_or}
use Rattle.nesl_unify_graph.specs.declared.node.Node.{Node}
use Rattle.nesl_unify_graph.specs.declared.node.Node.TheVariants.{Free}
use Rattle.nesl_unify_graph.specs.declared.unify.Pair.{Pair}
use Rattle.nesl_unify_graph.specs.Graph.{node_at}
use Rattle.nesl_unify.specs.declared.fact.Fact.{Fact}

-- the variables are free, the nodes of the first n facts are after them, and each fact's variable is to be one with the
-- place of its node
pub record IsStart (count n : ℕ) (facts : List Fact) (nodes : List Node) (pairs : List Pair) : Type 0 where
  pub long : length nodes ≡ count + n
  pub paired : length pairs ≡ n
  pub free : (p : ℕ) → p < count → node_at nodes p ≡ Free
  pub said : (k : ℕ) (e : Fact) → k < n → node_at nodes (count + k) ≡ (get_or facts k e).node
  pub ends : (k : ℕ) (d : Pair) (e : Fact) → k < n →
      get_or pairs k d ≡ record { first = (get_or facts k e).variable; second = count + k }
