-- What a server promises of all that it did.
use Rattle.std.specs.Prelude.{◌≡◌, ℕ, List, length, if◌then◌else◌}
use Rattle.std.specs.List.{list_any}
use Rattle.subj.specs.Servers.{ServerIdentity, IsListed}
use Rattle.node_law.specs.AsLaw.{waits_at}
use Rattle.node_law.specs.CountsOpen.{CountsAreOpen}
use Rattle.node_law.specs.OneServer.{HasOneWinner, HasOneJob, EndedAll, claims_of, ends_of, is_tried}
use Rattle.node_law.specs.Outboxes.{IsKnown, history_of, is_shut_at}
use Rattle.node_law.specs.PeersKept.{PeersAreKept, seen_of_run}
use Rattle.node_law.specs.PlacedOnce.{all_placed}
use Rattle.node_law.specs.Runs.{Done, Ran}
use Rattle.node_law.specs.State.{Node}

-- One server end to end, of all that it did since its start.
pub record KeepsPromises (server : ServerIdentity) (h : List Done) (a : Node) : Type 0 where
  -- of the Claims of one queue name of a job, over all shards, exactly one won where any had a
  -- candidate, and none otherwise;
  pub winners : HasOneWinner (claims_of h)
  -- just that one was placed: one message where any had a candidate with room, and else none
  pub placed : (turn index : ℕ)
      → length (all_placed turn index h)
      ≡ (if list_any (is_tried turn index) (claims_of h) then 1 else 0)
  -- a shard that made its End of a turn made one Claim of each queue name of the job, and all are
  -- of the one job of their turn
  pub ended : EndedAll (claims_of h) (ends_of h)
  pub jobs : HasOneJob server h
  -- what was taken from an outbox and what waits there are the replies and the owed messages, in
  -- order, and the last line of one that is shut
  pub outboxes : (place conn : ℕ)
      → IsKnown (history_of server h place conn) (waits_at a place conn) (is_shut_at a place conn)
  -- what the hub counts and what the shards have still to tell are the open subscriptions
  pub counts : CountsAreOpen server a
  -- a peer is up just where a session with it is kept
  pub peers : PeersAreKept a (seen_of_run server h)

abbrev pub OneServerKeeps : Type 0
OneServerKeeps =
    (server : ServerIdentity) (h : List Done) (a : Node)
    → IsListed server
    → Ran server h a
    → KeepsPromises server h a
