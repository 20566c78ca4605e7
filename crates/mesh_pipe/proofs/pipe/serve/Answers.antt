use Rattle.std.proofs.Common.{Err, ap, refl, sym, ◌∙◌, add-zero, arith, lit<}
use Rattle.std.proofs.KnownBytes.{Consumes-kept}
use Rattle.mesh_pipe.proofs.Text.Serves.{read_first, read_on, not_over, served_again, broke_off, no_read_failed, writes_failed, whole_text, whole_beginning, read_to_end, begun_text, closed_text}
use Rattle.mesh_pipe.proofs.pipe.serve.Goals as goal

pub returns-in_err-answer_all-clause-text : goal.returns-in_err-answer_all-clause-text
returns-in_err-answer_all-clause-text g c =
    let reads = read_first c.args.conn.now c.args.server.now _ _ c.requires.asks c.requires.new in
    broke_off _ c.in_err-answer_all.field-0.0 _ _ reads.read _ _ _ _ c.from_residual.ensures.1
    c.in_err-answer_all.ensures.failures reads.consumed
    (begun_text c.args.conn.now c.args.server.now _ _ _ _ _ reads c.in_err-answer_all.ensures.answers)

pub returns-in_err-answer_all-clause-reads : goal.returns-in_err-answer_all-clause-reads
returns-in_err-answer_all-clause-reads g c =
    no_read_failed _ c.in_err-answer_all.field-0.0 _ _ _ _ _ _ c.from_residual.ensures.1
    c.in_err-answer_all.ensures.failures refl

pub returns-in_err-answer_all-clause-writes : goal.returns-in_err-answer_all-clause-writes
returns-in_err-answer_all-clause-writes g c =
    writes_failed _ c.in_err-answer_all.field-0.0 _ _ _ c.from_residual.ensures.1 c.in_err-answer_all.ensures.failures
    refl

pub returns-in-Closed-clause-text : goal.returns-in-Closed-clause-text
returns-in-Closed-clause-text g c =
    let reads = read_first c.args.conn.now c.args.server.now _ _ c.requires.asks c.requires.new in
    let finished = rw c.in-Closed.is at c.in_ok-answer_all.ensures.answers in
    record {
      read = reads.read;
      consumed = reads.consumed;
      answers = closed_text c.args.conn.now c.args.server.now _ _ _ _ _ reads finished;
    }

pub loop-init : goal.loop-init
loop-init g c =
    let reads = read_first c.args.conn.now c.args.server.now _ _ c.requires.asks c.requires.new in
    let answered = rw c.in-Open.is at c.in_ok-answer_all.ensures.answers in (
      served_again c.args.conn.now c.answer_all.new.conn c.args.server.now c.answer_all.new.server _ _ _ _ _ reads
          answered,
      sym (add-zero _),
      refl,
      c.in_ok-answer_all.ensures.failures,
    )

pub returns-in-Err-OutOfMemory-clause-text : goal.returns-in-Err-OutOfMemory-clause-text
returns-in-Err-OutOfMemory-clause-text g c =
    let serves = c.loop.invariant.0 in
    record {
      read = serves.reads.read;
      consumed = Consumes-kept _ _ _ serves.reads.read serves.reads.consumed c.in-Err-OutOfMemory.ensures.kept;
      answers = whole_beginning c.loop.conn c.loop.server _ _ _ _ serves;
    }

pub returns-in-Err-Failed-clause-text : goal.returns-in-Err-Failed-clause-text
returns-in-Err-Failed-clause-text g c =
    let serves = c.loop.invariant.0 in
    record {
      read = serves.reads.read;
      consumed = Consumes-kept _ _ _ serves.reads.read serves.reads.consumed c.in-Err-Failed.ensures.kept;
      answers = whole_text c.loop.conn c.loop.server _ _ _ _ serves;
    }

pub unreachable-requires : goal.unreachable-requires
unreachable-requires g c =
    not_over c.loop.conn c.loop.server _ _ _ _ c.loop.invariant.0
    (c.in-Err-Closed.ensures.closed.only (ap Err c.in-Err-Closed.field-0-is))

pub returns-then-count-eq0-clause-text : goal.returns-then-count-eq0-clause-text
returns-then-count-eq0-clause-text g c =
    let serves = c.loop.invariant.0 in
    let gains = c.in-Ok.ensures.ok in
    record {
      read = serves.reads.read;
      consumed =
          read_to_end c.loop.conn c.read_from.new.self c.loop.server _ _ _ _ _ _ _ serves gains c.if-count-eq0.true;
      answers = (whole_text c.loop.conn c.loop.server _ _ _ _ serves, gains.end c.if-count-eq0.true (lit< tt));
    }

pub returns-in_err-answer_all-2-clause-text : goal.returns-in_err-answer_all-2-clause-text
returns-in_err-answer_all-2-clause-text g c =
    let reads =
    read_on c.loop.conn c.read_from.new.self c.loop.server _ _ _ _ _ _ _ c.loop.invariant.0 c.in-Ok.ensures.ok in
    broke_off _ c.in_err-answer_all-2.field-0.0 _ _ reads.read _ _ _ _ c.from_residual-in_err-answer_all-2.ensures.1
    c.in_err-answer_all-2.ensures.failures reads.consumed
    (begun_text c.read_from.new.self c.loop.server _ _ _ _ _ reads c.in_err-answer_all-2.ensures.answers)

pub returns-in_err-answer_all-2-clause-reads : goal.returns-in_err-answer_all-2-clause-reads
returns-in_err-answer_all-2-clause-reads g c =
    no_read_failed _ c.in_err-answer_all-2.field-0.0 _ _ _ _ _ _ c.from_residual-in_err-answer_all-2.ensures.1
    c.in_err-answer_all-2.ensures.failures (c.in-Ok.ensures.read.1 ∙ c.loop.invariant.2)

pub returns-in_err-answer_all-2-clause-writes : goal.returns-in_err-answer_all-2-clause-writes
returns-in_err-answer_all-2-clause-writes g c =
    writes_failed _ c.in_err-answer_all-2.field-0.0 _ _ _ c.from_residual-in_err-answer_all-2.ensures.1
    c.in_err-answer_all-2.ensures.failures c.loop.invariant.3

pub returns-in-Closed-2-clause-text : goal.returns-in-Closed-2-clause-text
returns-in-Closed-2-clause-text g c =
    let reads =
    read_on c.loop.conn c.read_from.new.self c.loop.server _ _ _ _ _ _ _ c.loop.invariant.0 c.in-Ok.ensures.ok in
    let finished = rw c.in-Closed-2.is at c.in_ok-answer_all-2.ensures.answers in
    record {
      read = reads.read;
      consumed = reads.consumed;
      answers = closed_text c.read_from.new.self c.loop.server _ _ _ _ _ reads finished;
    }

pub loop-preserved : goal.loop-preserved
loop-preserved g c =
    let reads =
    read_on c.loop.conn c.read_from.new.self c.loop.server _ _ _ _ _ _ _ c.loop.invariant.0 c.in-Ok.ensures.ok in
    let answered = rw c.in-Open-2.is at c.in_ok-answer_all-2.ensures.answers in (
      served_again c.read_from.new.self c.answer_all-in-loop.new.conn c.loop.server c.answer_all-in-loop.new.server _ _
          _ _ _ reads answered,
      omega (arith, c.in-Ok.ensures.read.0, c.loop.invariant.1),
      c.in-Ok.ensures.read.1 ∙ c.loop.invariant.2,
      c.in_ok-answer_all-2.ensures.failures ∙ c.loop.invariant.3,
    )

pub answer_all-requires-clause-step : goal.answer_all-requires-clause-step
answer_all-requires-clause-step g c =
    (read_first c.args.conn.now c.args.server.now (g.S.Source.remaining c.args.source.now)
    (g.W.Sink.written c.args.sink.now) c.requires.asks c.requires.new).in_step

pub answer_all-requires-in-loop-clause-step : goal.answer_all-requires-in-loop-clause-step
answer_all-requires-in-loop-clause-step g c =
    (read_on c.loop.conn c.read_from.new.self c.loop.server _ _ _ _ _ _ _ c.loop.invariant.0 c.in-Ok.ensures.ok).in_step

pub returns-clause-text : goal.returns-clause-text
returns-clause-text g c =
    let serves = c.loop.invariant.0 in
    record {
      read = serves.reads.read;
      consumed = serves.reads.consumed;
      answers = whole_text c.loop.conn c.loop.server _ _ _ _ serves;
    }
