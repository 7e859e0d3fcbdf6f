use Rattle.std.proofs.Common.{◌≡◌, ap, length, ℕ, get_or, subst, arith}
use Rattle.std.proofs.lemmas.List.{get_or_default}
use Rattle.nesl_unify_graph.specs.declared.unify.Pair.{Pair}
use Rattle.nesl_unify.specs.declared.fact.Fact.{Fact}
use Rattle.nesl_unify.specs.Starts.{IsStart}
use Rattle.nesl_unify.proofs.Starts.{no_fact, start_first, start_more}
use Rattle.nesl_unify.proofs.start.start_table.Goals as goal

pub loop-fact-init : goal.loop-fact-init
loop-fact-init c = start_first c.args.count c.args.facts.now c.in_ok-nodes.nodes.items c.in_ok-pairs.pairs.items c.in_ok-nodes.ensures c.in_ok-pairs.ensures.items

pub loop-fact-preserved : goal.loop-fact-preserved
loop-fact-preserved c =
    let facts = c.args.facts.now in
    let k = c.loop-fact.fact-index in
    let ns = c.loop-fact.nodes.items in
    let f : Fact = get_or facts k no_fact in
    let is : f ≡ get_or facts k f = get_or_default facts k no_fact f c.loop-fact-test.true in
    let p : Pair = record { first = f.variable; second = c.len-second.result } in
    let n : c.len-second.result ≡ length ns = omega (arith, c.len-second.ensures, c.loop-fact.nodes.ok.0) in
    let e : ◌≡◌ {A = Pair} p (record { first = f.variable; second = length ns }) = ap (λ (q : ℕ). record { first = f.variable; second = q }) n in
    start_more c.args.count k facts f p ns c.push.new.self.items c.loop-fact.pairs.items c.push-in-loop-fact.new.self.items c.loop-fact.invariant c.loop-fact-test.true is e
    c.in_ok-push.ensures.items c.in_ok-push-2.ensures.items

pub returns : goal.returns
returns c =
    let n : c.loop-fact.fact-index ≡ length c.args.facts.now = omega arith in
    subst (λ (k : ℕ). IsStart c.args.count k c.args.facts.now c.loop-fact.nodes.items c.loop-fact.pairs.items) n c.loop-fact.invariant
