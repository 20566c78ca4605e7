-- What every shard of a server keeps over its runs.
use Rattle.std.specs.Prelude.{◌≡◌, ℕ, ◌≤◌, List, slice_get, Some}
use Rattle.list_laws.specs.Lists.{Each}
use Rattle.subj.specs.Servers.{ServerIdentity, IsListed}
use Rattle.shard_core.specs.Causes.{AreHeld}
use Rattle.shard_core.specs.Limits.{HasLimits}
use Rattle.node_law.specs.Runs.{Done, Ran}
use Rattle.node_law.specs.State.{ShardWithJobs, Node}
use Rattle.node_law.specs.Steps.{conn_place}

-- Its open subscriptions are of connections that take events, and below their maxima. Its
-- connections have the router's limits; and their numbers tell the shard: an event of such a
-- connection comes to this place.
pub record IsHeld (server : ServerIdentity) (place : ℕ) (line : ShardWithJobs) : Type 0 where
  pub subs : AreHeld line.shard
  pub limits : Each HasLimits line.shard.clients
  pub numbers : Each (λ client. (1 ≤ client.number) × (conn_place server client.number ≡ place))
      line.shard.clients

abbrev pub ShardsAreHeld : ServerIdentity → Node → Type 0
ShardsAreHeld server a =
    (place : ℕ) (line : ShardWithJobs)
    → slice_get a.lines place ≡ Some line
    → IsHeld server place line

-- of every run of a server from its start
abbrev pub ShardsStayHeld : Type 0
ShardsStayHeld =
    (server : ServerIdentity) (h : List Done) (a : Node)
    → IsListed server
    → Ran server h a
    → ShardsAreHeld server a
