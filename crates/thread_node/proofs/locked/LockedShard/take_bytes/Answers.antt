use Rattle.std.proofs.Common.{refl, subst}
use Rattle.node_threads.specs.declared.shard_entries.ShardEvent.TheVariants as event
use Rattle.thread_node.specs.Told.{ShardNotes}
use Rattle.thread_node.proofs.Telling.{tape_took}
use Rattle.thread_node.proofs.locked.LockedShard.take_bytes.Goals as goal

pub invariant_of-self : goal.invariant_of-self
invariant_of-self g c =
    let s = c.self.inside in
    let i = c.self.invariant in
    let named = event.Take c.args.conn c.args.count in
    let more = c.note_shard.new.tape in
    let noted =
    subst (λ told. ShardNotes named told s.tape more) c.told_bytes-told.ensures (c.note_shard.ensures named refl) in (
      i.0,
      tape_took g.N.NodeName.race.shards s.state c.take_bytes-done.new.self c.args.conn c.args.count
          c.args.out.now.items c.take_bytes-done.new.out.items c.take_bytes-done.result s.tape more i.1
          c.take_bytes-done.ensures noted,
    )
