use Rattle.std.proofs.Common.{subst}
use Rattle.thread_node.specs.Told.{HubNotes}
use Rattle.thread_node.specs.declared.hub_entries.HubEvent.TheVariants as event
use Rattle.thread_node.proofs.Telling.{receive_noted}
use Rattle.thread_node.proofs.locked.LockedHub.receive.Goals as goal

pub invariant_of-self : goal.invariant_of-self
invariant_of-self g c =
    let s = c.self.inside in
    let i = c.self.invariant in
    let frame = c.args.frame.now in
    let v = c.receive-done.new.self in
    let more = c.note_hub.new.tape in
    let noted = c.note_hub.ensures (event.Receive frame c.finished-finished.result) c.receive_event-event.ensures in
    let seen = subst (λ f. HubNotes (event.Receive frame f) c.told_received-told.result s.tape more)
    c.finished-finished.ensures noted in
    let told =
    subst (λ t. HubNotes (event.Receive frame v.finished) t s.tape more) c.told_received-told.ensures seen in (
      i.0,
      receive_noted g.N.NodeName.race.shards s.state v frame c.receive-done.result s.tape more i.1
          c.receive-done.ensures told,
    )
