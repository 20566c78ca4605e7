use Rattle.std.proofs.Common.{◌≡◌, refl, subst}
use Rattle.shard_core.specs.ShardEvents as of_shard
use Rattle.shard_core.specs.ShardSteps.{shard_refusal}
use Rattle.node_threads.specs.AtWork.{Does}
use Rattle.node_threads.specs.declared.shard_entries.ShardEvent.TheVariants as event
use Rattle.thread_node.specs.Told.{ShardNotes, of_decision}
use Rattle.thread_node.proofs.Telling.{answered_so, tape_answered}
use Rattle.thread_node.proofs.locked.LockedShard.drain.Goals as goal

pub invariant_of-self : goal.invariant_of-self
invariant_of-self g c =
    let s = c.self.inside in
    let i = c.self.invariant in
    let asks = of_shard.Drain in
    let named = event.Drain in
    let more = c.note_shard.new.tape in
    let noted =
    subst (λ told. ShardNotes named told s.tape more) c.told_drained-told.ensures (c.note_shard.ensures named refl) in
    let v = c.drain-done.new.self in
    let answered = answered_so (shard_refusal s.state.state asks) (λ x. Does s.state asks (of_shard.Drains) v)
    (v ≡ s.state) c.drain-done.result c.drain-done.ensures in (
      i.0,
      tape_answered g.N.NodeName.race.shards s.state c.drain-done.new.self asks named (λ x. of_shard.Drains)
          (of_decision c.drain-done.result) s.tape more i.1 refl (λ a. refl) answered noted,
    )
