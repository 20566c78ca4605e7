use Rattle.std.proofs.Common.{◌≡◌, ◌++◌, ◌+◌, drop, sym, ap, ◌∙◌, arith}
use Rattle.std.proofs.lemmas.Result.{on_ok_weaker}
use Rattle.std.proofs.lemmas.List.{at_drop_all}
use Rattle.list_laws.proofs.Changes.{append_nil}
use Rattle.settled_law.specs.Orders.{frames_order}
use Rattle.mesh_script.specs.Owed.{events_in}
use Rattle.mesh_script.proofs.settled_order.Orders.{frame_here, frame_next}
use Rattle.mesh_script.proofs.settled_order.order.put_frames.Goals as goal

pub returns-then-is_for : goal.returns-then-is_for
returns-then-is_for c =
    let o = c.args.origin.now in
    let m = c.args.node in
    let x = c.frame-item.result in
    let here =
    sym (frame_here o.names.now m o.shards c.loop-frame.number c.loop-frame.frame-index c.args.frames.now x
    c.loop-frame-test.true c.frame-item.is (sym c.is_for.ensures ∙ c.if-is_for.true))
    ∙ c.loop-frame.invariant.rest in
    on_ok_weaker c.put_frame.result (λ put. put ∙ (λ i. events_in (c.loop-frame.invariant.events i) ++ here i))
    c.put_frame.ensures

pub loop-frame-preserved : goal.loop-frame-preserved
loop-frame-preserved c =
    let o = c.args.origin.now in
    let m = c.args.node in
    let i = c.loop-frame.frame-index in
    let x = c.frame-item.result in
    let next : c.in-Some.next ≡ c.loop-frame.number + 1 = omega (arith, c.in-Some.ensures) in
    record {
      events = c.loop-frame.invariant.events;
      rest =
          ap (λ k. frames_order o.names.now m o.shards k (drop (i + 1) c.args.frames.now)) next
          ∙ sym (frame_next o.names.now m o.shards c.loop-frame.number i c.args.frames.now x c.loop-frame-test.true
          c.frame-item.is (sym c.is_for.ensures ∙ c.if-is_for.false))
          ∙ c.loop-frame.invariant.rest;
    }

pub returns : goal.returns
returns c =
    let o = c.args.origin.now in
    let none =
    sym (at_drop_all (frames_order o.names.now c.args.node o.shards c.loop-frame.number) c.args.frames.now
    c.loop-frame.frame-index c.loop-frame-test.false)
    ∙ c.loop-frame.invariant.rest in
    ap events_in c.loop-frame.invariant.events
    ∙ sym (append_nil (events_in c.args.events.now))
    ∙ ap (λ l. events_in c.args.events.now ++ l) none
