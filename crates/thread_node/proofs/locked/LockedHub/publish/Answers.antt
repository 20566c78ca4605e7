use Rattle.std.proofs.Common.{subst}
use Rattle.thread_node.specs.Told.{HubNotes}
use Rattle.thread_node.specs.declared.hub_entries.HubEvent.TheVariants as event
use Rattle.thread_node.proofs.Telling.{publish_noted}
use Rattle.thread_node.proofs.locked.LockedHub.publish.Goals as goal

pub invariant_of-self : goal.invariant_of-self
invariant_of-self g c =
    let s = c.self.inside in
    let i = c.self.invariant in
    let conn = c.args.conn in
    let said = c.args.publication.now in
    let word = c.args.word in
    let v = c.publish-done.new.self in
    let more = c.note_hub.new.tape in
    let noted =
    c.note_hub.ensures (event.Publish conn said word c.finished-finished.result) c.publish_event-event.ensures in
    let seen = subst (λ f. HubNotes (event.Publish conn said word f) c.told_issued-told.result s.tape more)
    c.finished-finished.ensures noted in
    let told =
    subst (λ t. HubNotes (event.Publish conn said word v.finished) t s.tape more) c.told_issued-told.ensures seen in (
      i.0,
      publish_noted g.N.NodeName.race.shards s.state v conn word said c.publish-done.result s.tape more i.1
          c.publish-done.ensures told,
    )
