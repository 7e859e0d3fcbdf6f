use Rattle.std.proofs.Common.{◌∙◌, ℕ, subst, take, sym, ap, arith}
use Rattle.std.specs.Io.KnownBytes.{Consumes}
use Rattle.std.proofs.lemmas.List.{length-take}
use Rattle.nesl_line.specs.Tally.{flushed_by}
use Rattle.nesl_line.proofs.Exchanges.{begins, read_fault_exchange, stopped_exchange, halted_exchange, last_stopped_exchange, input_exchange, goes_on_more, reads_spent}
use Rattle.nesl_line.proofs.Tallies.{flushed_none, made_none, made_more, made_failed}
use Rattle.nesl_line.proofs.exchange.converse.Goals as goal

pub reads-init : goal.reads-init
reads-init g c = record {
  so_far = begins _ _ (g.H.Hearer.heard c.args.hearer.now c.args.world.now c.args.hearer.now c.args.world.now) c.args.talk.now c.requires.nothing_heard c.requires.fresh;
  ready = c.requires.ready;
  reads = made_none _;
  writes = flushed_none _ ∙ ap (λ n. flushed_by n (g.W.Sink.tally c.args.writer.now)) (sym c.requires.fresh.none);
  few = omega (arith, c.requires.fresh.none);
}

pub returns-in-Err-clause-exchange : goal.returns-in-Err-clause-exchange
returns-in-Err-clause-exchange g c =
    read_fault_exchange _ _ _ _ _ (g.H.Hearer.heard c.args.hearer.now c.args.world.now c.reads.hearer c.reads.world) _ c.reads.talk c.reads.invariant.so_far c.in-Err.ensures.bytes

pub returns-in-Err-clause-reads : goal.returns-in-Err-clause-reads
returns-in-Err-clause-reads g c = made_failed c.reads.read_count _ (g.S.Source.tally c.reads.reader) _ c.reads.invariant.reads c.in-Err.ensures.tally c.reads-test.true

pub reads-preserved : goal.reads-preserved
reads-preserved g c = let s = c.reads.invariant.so_far in record {
  so_far =
      goes_on_more _ _ _ _ _ (g.H.Hearer.heard c.args.hearer.now c.args.world.now c.take_in.new.hearer c.take_in.new.world) (g.H.Hearer.over c.take_in.new.hearer) c.take_in.new.self s.read _ s.consumed c.in-Ok.ensures.bytes.0
      (c.in-On.ensures.talk c.args.hearer.now c.args.world.now (g.W.Sink.held c.args.writer.now) s.read s.progress);
  ready = c.in-On.ensures.ready;
  reads = made_more c.reads.read_count _ (g.S.Source.tally c.reads.reader) _ c.reads.invariant.reads c.in-Ok.ensures.tally;
  writes = c.in-On.ensures.tally (g.W.Sink.tally c.args.writer.now) c.reads.invariant.writes;
  few = omega (arith, c.reads.invariant.few, c.take_in.ensures.few, length-take c.in-Ok.n c.read.new.buf, c.read.auto.buf);
}

pub returns-in-Over-clause-exchange : goal.returns-in-Over-clause-exchange
returns-in-Over-clause-exchange g c =
    let s = c.reads.invariant.so_far in
    halted_exchange _ _ _ _ _ (g.H.Hearer.heard c.args.hearer.now c.args.world.now c.take_in.new.hearer c.take_in.new.world) _ c.take_in.new.self s.read _ s.consumed c.in-Ok.ensures.bytes.0 c.in-Over.ensures.ready
    (c.in-Over.ensures.talk c.args.hearer.now c.args.world.now (g.W.Sink.held c.args.writer.now) s.read s.progress)

pub returns-in-Broken-clause-exchange : goal.returns-in-Broken-clause-exchange
returns-in-Broken-clause-exchange g c =
    let s = c.reads.invariant.so_far in
    stopped_exchange _ _ _ _ _ (g.H.Hearer.heard c.args.hearer.now c.args.world.now c.take_in.new.hearer c.take_in.new.world) _ c.take_in.new.self s.read _ s.consumed c.in-Ok.ensures.bytes.0
    (c.in-Broken.ensures.talk c.args.hearer.now c.args.world.now (g.W.Sink.held c.args.writer.now) s.read s.progress)

pub returns-then-not-end_input-clause-exchange : goal.returns-then-not-end_input-clause-exchange
returns-then-not-end_input-clause-exchange g c =
    let s = c.reads.invariant.so_far in
    let P : ℕ → Type 0 = λ k. Consumes (g.S.Source.left c.reads.reader) (g.S.Source.left c.read.new.self) (take k c.read.new.buf) in
    last_stopped_exchange _ _ _ _ _ (g.H.Hearer.heard c.args.hearer.now c.args.world.now c.end_input.new.hearer c.end_input.new.world) _ c.end_input.new.self s.read s.consumed (subst P c.in-Ok-eq0.field-0-test c.in-Ok-eq0.ensures.bytes.0)
    (c.in-Ok-eq0.ensures.bytes.1 c.in-Ok-eq0.field-0-test (omega (arith, c.read.auto.buf))) (c.if-not-end_input.ensures.talk c.args.hearer.now c.args.world.now (g.W.Sink.held c.args.writer.now) s.read s.progress)

pub returns-in-Ok-eq0-clause-exchange : goal.returns-in-Ok-eq0-clause-exchange
returns-in-Ok-eq0-clause-exchange g c =
    let s = c.reads.invariant.so_far in
    let P : ℕ → Type 0 = λ k. Consumes (g.S.Source.left c.reads.reader) (g.S.Source.left c.read.new.self) (take k c.read.new.buf) in
    input_exchange _ _ _ _ _ (g.H.Hearer.heard c.args.hearer.now c.args.world.now c.end_input.new.hearer c.end_input.new.world) _ c.end_input.new.self s.read s.consumed (subst P c.in-Ok-eq0.field-0-test c.in-Ok-eq0.ensures.bytes.0)
    (c.in-Ok-eq0.ensures.bytes.1 c.in-Ok-eq0.field-0-test (omega (arith, c.read.auto.buf))) (c.if-not-end_input.ensures.talk c.args.hearer.now c.args.world.now (g.W.Sink.held c.args.writer.now) s.read s.progress)

pub returns-clause-exchange : goal.returns-clause-exchange
returns-clause-exchange g c = reads_spent _ _ _ _ (g.H.Hearer.heard c.args.hearer.now c.args.world.now c.reads.hearer c.reads.world) _ c.reads.talk c.reads.invariant.so_far
