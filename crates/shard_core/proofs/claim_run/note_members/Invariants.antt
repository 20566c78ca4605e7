use Rattle.std.proofs.Common.{◌≡◌, ◌≤◌, [], filter, length, take}
use Rattle.list_laws.specs.Lists.{Along}
use Rattle.shard_core.specs.ClaimMembers.{IsMember, is_asked}
use Rattle.shard_core.specs.ReceiverSteps.{is_due_to}
use Rattle.shard_core.proofs.claim_run.note_members.Given as goal

-- those so far
abbrev pub invariant-loop-place : goal.invariant-loop-place
invariant-loop-place l = record {
  few : l.most ≤ length l.claims.jobs;
  undue : filter (is_due_to l.claims.first) (take l.place l.receivers) ≡ [];
  members : Along (IsMember l.most l.receivers l.conns.next) l.members.items
      (filter (is_asked l.claims.first l.claims.name.now) (take l.place l.receivers));
}
