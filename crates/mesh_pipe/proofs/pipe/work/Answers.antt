use Rattle.std.proofs.Common.{refl, ◌∙◌}
use Rattle.mesh_pipe.proofs.Text.Runs.{nothing_moved, moved_further, moved_and_flushed, moved_to_end, begun_by_moves, begun_by_front, works_begun}
use Rattle.mesh_pipe.proofs.pipe.work.Goals as goal

pub loop-server-init : goal.loop-server-init
loop-server-init g c = (nothing_moved c.args.conn.now c.args.server.now _ c.requires, refl)

pub returns-in_err-look-clause-works : goal.returns-in_err-look-clause-works
returns-in_err-look-clause-works g c =
    works_begun _ c.args.conn.now c.look.new.conn c.args.server.now c.look.new.server _ _ c.from_residual.ensures.0
    (begun_by_moves c.args.conn.now c.loop-server.conn c.args.server.now c.loop-server.server _ _
    c.loop-server.invariant.0)

pub returns-in-Some-Closed-clause-works : goal.returns-in-Some-Closed-clause-works
returns-in-Some-Closed-clause-works g c =
    let closed = rw (c.in-Some-Closed.is, c.in-Some-Closed.field-0-is) at c.in_ok-look.ensures in
    moved_to_end c.args.conn.now c.loop-server.conn c.args.server.now c.loop-server.server c.look.new.server _ _
    c.loop-server.invariant.0 closed

pub loop-server-preserved : goal.loop-server-preserved
loop-server-preserved g c =
    let worked = rw (c.in-Some-Open.is, c.in-Some-Open.field-0-is) at c.in_ok-look.ensures in
    let moved = moved_further c.args.conn.now c.loop-server.conn c.look.new.conn c.args.server.now c.loop-server.server
    c.look.new.server (g.W.Sink.written c.args.sink.now) (g.W.Sink.written c.loop-server.sink) c.loop-server.invariant.0
    worked in (
      moved_and_flushed c.args.conn.now c.look.new.conn c.args.server.now c.look.new.server c.flush.new.server _ _ _
          moved c.in_ok-flush.ensures.ok,
      c.in_ok-flush.ensures.failures ∙ c.loop-server.invariant.1,
    )

pub loop-server-preserved-then-output-lt-READ_BYTES : goal.loop-server-preserved-then-output-lt-READ_BYTES
loop-server-preserved-then-output-lt-READ_BYTES g c =
    let worked = rw (c.in-Some-Open.is, c.in-Some-Open.field-0-is) at c.in_ok-look.ensures in (
      moved_further c.args.conn.now c.loop-server.conn c.look.new.conn c.args.server.now c.loop-server.server
          c.look.new.server (g.W.Sink.written c.args.sink.now) (g.W.Sink.written c.loop-server.sink)
          c.loop-server.invariant.0 worked,
      c.loop-server.invariant.1,
    )

pub returns-in_err-flush-clause-works : goal.returns-in_err-flush-clause-works
returns-in_err-flush-clause-works g c =
    let worked = rw (c.in-Some-Open.is, c.in-Some-Open.field-0-is) at c.in_ok-look.ensures in
    let moved = moved_further c.args.conn.now c.loop-server.conn c.look.new.conn c.args.server.now c.loop-server.server
    c.look.new.server (g.W.Sink.written c.args.sink.now) (g.W.Sink.written c.loop-server.sink) c.loop-server.invariant.0
    worked in
    works_begun _ c.args.conn.now c.look.new.conn c.args.server.now c.flush.new.server _ _
    c.from_residual-in_err-flush.ensures.0
    (begun_by_front c.args.conn.now c.look.new.conn c.args.server.now c.look.new.server _ _ _ moved
    c.in_err-flush.ensures.err)
