use Rattle.std.proofs.Common.{◌≡◌, false, take}
use Rattle.std.specs.Prelude.{filter}
use Rattle.sub_table.specs.Subscriptions.{gets}
use Rattle.shard_core.specs.Tallies.{Follows, walk_matching}
use Rattle.shard_core.proofs.receiver_walk.put_each.Given as goal

-- the walk over the subscriptions that the receivers so far are
abbrev pub invariant-loop-receiver : goal.invariant-loop-receiver
invariant-loop-receiver g l = record {
  shown : l.conns.shown ≡ l.fn.conns.shown;
  copies : l.buffer.copies ≡ false;
  so_far : Follows l.openings.subs l.job
      (λ s w. walk_matching s l.job (take l.receiver-index (filter (gets l.job.message.subject) l.openings.subs)) w)
      l.fn.conns.next l.fn.buffer l.conns.next l.buffer;
}
