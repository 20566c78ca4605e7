-- Whether a server is at rest, and knows another one as it runs (profile).
use Rattle.std.specs.Prelude.{ℕ, Bool, ◌&&◌, is_none, slice_get}
use Rattle.std.specs.List.{list_all}
use Rattle.list_laws.specs.Lists.{is_empty}
use Rattle.subj.specs.Messages.{Content}
use Rattle.route_session.specs.State.{has_session}
use Rattle.hub_core.specs.Settled.{knows_at, goes_on}
use Rattle.shard_core.specs.Room.{has_room_for}
use Rattle.node_law.specs.State.{ShardWithJobs, Node}

-- no job waits or is in hand, and the hub was told of all
abbrev pub is_line_settled : ShardWithJobs → Bool
is_line_settled line =
    is_empty line.waiting && (is_none line.shard.hand && is_empty line.shard.deltas)

-- it does not drain, and one more publication and one more turn can be numbered
abbrev pub is_node_settled : Node → Bool
is_node_settled node = list_all is_line_settled node.lines && goes_on node.hub

-- a session with the other one, at place q and in this incarnation, is kept; it is up, its interest
-- is known, and there is room for a frame to it
abbrev pub is_peer_settled : Node → Node → ℕ → ℕ → Bool
is_peer_settled node other inc q =
    has_session q inc node.sessions.standing
    && knows_at (slice_get node.hub.peers q) inc other.hub.counts

-- each connection of the shard has room for the messages of all its open matching subscriptions
-- together
abbrev pub has_room_in : Content → ShardWithJobs → Bool
has_room_in message line = has_room_for message line.shard
