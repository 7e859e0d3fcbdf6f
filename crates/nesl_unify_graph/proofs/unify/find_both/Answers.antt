use Rattle.std.proofs.Common.{◌∙◌, sym, subst}
use Rattle.nesl_unify_graph.specs.Graph.{IsRoot}
use Rattle.nesl_unify_graph.proofs.Steps.{ends_equal, ends_turned}
use Rattle.nesl_unify_graph.proofs.unify.find_both.Goals as goal

pub find-first-requires-clause-links : goal.find-first-requires-clause-links
find-first-requires-clause-links c = c.requires.links

pub find-second-requires-clause-links : goal.find-second-requires-clause-links
find-second-requires-clause-links c = c.find-first.ensures.links

pub returns-then-first-second-clause-first : goal.returns-then-first-second-clause-first
returns-then-first-second-clause-first c = subst IsRoot (sym (c.find-second.ensures.kept c.find-first.result c.find-first.ensures.root)) c.find-first.ensures.root

pub returns-then-first-second-clause-second : goal.returns-then-first-second-clause-second
returns-then-first-second-clause-second c = c.find-second.ensures.root

pub returns-then-first-second-clause-found : goal.returns-then-first-second-clause-found
returns-then-first-second-clause-found c = λ i.
    let a = c.find-first.ensures in
    let b = c.find-second.ensures in
    record {
      len = c.find-second.auto.nodes ∙ c.find-first.auto.nodes;
      same = λ w. (λ f. (a.same i w).0 ((b.same i w).0 f), λ f. (b.same i w).1 ((a.same i w).1 f));
      equal = λ w f. ends_equal w c.args.pair.first c.args.pair.second c.find-first.result c.find-second.result (a.equal i w ((b.same i w).0 f)) (b.equal i w f);
      table = λ count t. b.table i count (a.table i count t);
      weight = b.weight i ∙ a.weight i;
    }

pub returns-else-first-second-clause-second : goal.returns-else-first-second-clause-second
returns-else-first-second-clause-second c = subst IsRoot (sym (c.find-second.ensures.kept c.find-first.result c.find-first.ensures.root)) c.find-first.ensures.root

pub returns-else-first-second-clause-first : goal.returns-else-first-second-clause-first
returns-else-first-second-clause-first c = c.find-second.ensures.root

pub returns-else-first-second-clause-found : goal.returns-else-first-second-clause-found
returns-else-first-second-clause-found c = λ i.
    let a = c.find-first.ensures in
    let b = c.find-second.ensures in
    record {
      len = c.find-second.auto.nodes ∙ c.find-first.auto.nodes;
      same = λ w. (λ f. (a.same i w).0 ((b.same i w).0 f), λ f. (b.same i w).1 ((a.same i w).1 f));
      equal = λ w f. ends_turned w c.args.pair.first c.args.pair.second c.find-first.result c.find-second.result (a.equal i w ((b.same i w).0 f)) (b.equal i w f);
      table = λ count t. b.table i count (a.table i count t);
      weight = b.weight i ∙ a.weight i;
    }
