use Rattle.std.proofs.Common.{rules, ◌≡◌, None, [], true}
use Rattle.node_net.specs.Taking.{client_in}
use Rattle.node_net.proofs.TakingLemmas.{lends_other, lends_waiting, lends_failed}
use Rattle.node_net.proofs.connection.Connection.take_from.Goals as goal
use Rattle.node_net.proofs.connection.Connection.take_from.Goals.{then-not-is_flushed-via-then-not-is_flushed, then-not-is_flushed-via-else-not-is_flushed+then-has_failed}

pub returns-in_default : goal.returns-in_default
returns-in_default g c =
    let none : client_in c.shard.result c.args.self.now.link ≡ None = search rules in
    lends_other g.H.ShardCalls.takes g.H.ShardCalls.number c.args.self.now c.args.lent.now.items c.args.shard.now
    c.shard.result c.shard.ensures none

pub returns-then-not-is_flushed : goal.returns-then-not-is_flushed
returns-then-not-is_flushed g c = elim c.then-not-is_flushed.branch [
  | then-not-is_flushed-via-then-not-is_flushed w ↦
      let waits : ¬ (c.args.self.now.out ≡ []) = search rules in
      lends_waiting g.H.ShardCalls.takes g.H.ShardCalls.number c.args.self.now c.args.lent.now.items c.args.shard.now
      waits
  | then-not-is_flushed-via-else-not-is_flushed+then-has_failed w ↦
      let failed : c.args.self.now.wire.has_failed ≡ true = search rules in
      lends_failed g.H.ShardCalls.takes g.H.ShardCalls.number c.args.self.now c.args.lent.now.items c.args.shard.now
      failed
]
