use Rattle.std.proofs.Common.{◌≡◌, ℕ, ◌+◌}
use Rattle.shard_core.specs.ClaimMembers.{HasWorked, IsOpenFor, IsShardAt, KeepsOrder}
use Rattle.shard_core.specs.Dirty.{AreTold}
use Rattle.shard_core.specs.Shards.{State}
use Rattle.shard_core.proofs.claim_run.work_claims.Given as goal

-- as many jobs are worked as the place says, and the run is open for the others
abbrev pub invariant-loop-place : goal.invariant-loop-place
invariant-loop-place g l = record {
  fixed : g.C.Claims.fixed l.seat ≡ g.C.Claims.fixed l.fn.seat;
  next : (g.C.Claims.part l.seat).next ≡ 0;
  finished : (g.C.Claims.part l.seat).finished ≡ (g.C.Claims.part l.fn.seat).finished + l.place;
  seen : (g.C.Claims.part l.seat).seen ≡ (g.C.Claims.part l.fn.seat).seen;
  settled : l.conns.next ≡ l.conns.shown;
  ready : (count : ℕ)
      → count + 1 + l.place ≡ l.most
      → IsOpenFor (count + 1) l.claims.first l.claims.name.now l.openings.subs l.conns.next l.buffer.members.items;
  so_far : (s : State)
      → IsShardAt s l.claims.shard l.fn.conns l.fn.openings
      → (g.C.Claims.part l.fn.seat).finished ≡ s.finished
      → HasWorked s l.claims.jobs l.place l.conns l.openings (g.C.Claims.part l.fn.seat) (g.C.Claims.part l.seat);
  keeps : KeepsOrder l.place l.fn.conns.shown l.conns.shown l.fn.openings.subs l.openings.subs;
  told : AreTold l.fn.conns.shown l.conns.shown l.fn.dirty_conns l.dirty_conns;
}
