use Rattle.std.proofs.Common.{◌≡◌, take}
use Rattle.shard_core.specs.Tallies.{Follows, walk_matching, lent_subs}
use Rattle.shard_core.proofs.delivery_buffer.DeliveryBuffer.put_each.Given as goal

-- the walk over what was looked at so far
abbrev pub invariant-loop-sub : goal.invariant-loop-sub
invariant-loop-sub g l = record {
  shown : l.conns.shown ≡ l.fn.conns.shown;
  so_far : Follows l.openings.subs l.job (λ s w. walk_matching s l.job (lent_subs (take l.sub-index l.matching)) w)
      l.fn.conns.next l.fn.self l.conns.next l.self;
}
