use Rattle.std.proofs.Common.{◌≡◌, refl, subst}
use Rattle.shard_core.specs.ShardEvents as of_shard
use Rattle.shard_core.specs.ShardSteps.{shard_refusal}
use Rattle.node_threads.specs.AtWork.{Does}
use Rattle.node_threads.specs.declared.shard_entries.ShardEvent.TheVariants as event
use Rattle.thread_node.specs.Told.{ShardNotes, of_decision}
use Rattle.thread_node.proofs.Telling.{answered_so, tape_answered}
use Rattle.thread_node.proofs.locked.LockedShard.set_headers.Goals as goal

pub invariant_of-self : goal.invariant_of-self
invariant_of-self g c =
    let s = c.self.inside in
    let i = c.self.invariant in
    let asks = of_shard.SetHeaders c.args.conn c.args.on in
    let named = event.SetHeaders c.args.conn c.args.on in
    let more = c.note_shard.new.tape in
    let noted =
    subst (λ told. ShardNotes named told s.tape more) c.told_headers-told.ensures (c.note_shard.ensures named refl) in
    let v = c.set_headers-done.new.self in
    let answered = answered_so (shard_refusal s.state.state asks) (λ x. Does s.state asks (of_shard.HeadersSet) v)
    (v ≡ s.state) c.set_headers-done.result c.set_headers-done.ensures in (
      i.0,
      tape_answered g.N.NodeName.race.shards s.state c.set_headers-done.new.self asks named (λ x. of_shard.HeadersSet)
          (of_decision c.set_headers-done.result) s.tape more i.1 refl (λ a. refl) answered noted,
    )
