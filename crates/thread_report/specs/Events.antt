-- What a step that is written down was asked, as an event of the server. What crossed a lock is no
-- part of it.
use Rattle.std.specs.Prelude.{ℕ}
use Rattle.node_law.specs.declared.events.ConnEvent.TheVariants as of_conn
use Rattle.node_law.specs.declared.events.NodeEvent.{NodeEvent}
use Rattle.node_law.specs.declared.events.NodeEvent.TheVariants.{Own, Receive, OnInfo, OnConnect}
use Rattle.node_law.specs.declared.events.OwnEvent.TheVariants as own
use Rattle.node_law.specs.declared.events.ShardWork.TheVariants as work
use Rattle.node_threads.specs.declared.shard_entries.ShardEvent.{ShardEvent}
use Rattle.node_threads.specs.declared.shard_entries.ShardEvent.TheVariants as shard_event
use Rattle.thread_node.specs.declared.hub_entries.HubEvent.{HubEvent}
use Rattle.thread_node.specs.declared.hub_entries.HubEvent.TheVariants as hub_event

-- of the hub or its sessions: without what the shards had finished, and without the deltas
abbrev pub event_of_hub : HubEvent → NodeEvent
event_of_hub (hub_event.Publish conn publication word finished) =
    Own (own.Publish conn publication word)
event_of_hub (hub_event.Receive frame finished) = Receive frame
event_of_hub (hub_event.Collect shard deltas) = Own (own.Collect shard)
event_of_hub hub_event.Drain = Own own.Drain
event_of_hub (hub_event.TakeFrames peer count) = Own (own.TakeFrames peer count)
event_of_hub (hub_event.Dial peer) = Own (own.Dial peer)
event_of_hub hub_event.Accept = Own own.Accept
event_of_hub (hub_event.Info session info) = OnInfo session info
event_of_hub (hub_event.Connect session connect) = OnConnect session connect
event_of_hub (hub_event.Cut session) = Own (own.CutSession session)

-- of the shard of this number: without jobs, deltas, who won a claim, and what was placed
abbrev pub event_of_shard : ℕ → ShardEvent → NodeEvent
event_of_shard shard shard_event.Attach = Own (own.AtShard shard work.Attach)
event_of_shard shard (shard_event.Subscribe conn key sid) =
    Own (own.OfConn conn (of_conn.Subscribe key sid))
event_of_shard shard (shard_event.Unsubscribe conn sid max) =
    Own (own.OfConn conn (of_conn.Unsubscribe sid max))
event_of_shard shard (shard_event.Reply conn frame) = Own (own.OfConn conn (of_conn.Reply frame))
event_of_shard shard (shard_event.SetHeaders conn on) =
    Own (own.OfConn conn (of_conn.SetHeaders on))
event_of_shard shard (shard_event.Shut conn text) = Own (own.OfConn conn (of_conn.Shut text))
event_of_shard shard (shard_event.Detach conn) = Own (own.OfConn conn of_conn.Detach)
event_of_shard shard (shard_event.Take conn count) = Own (own.OfConn conn (of_conn.Take count))
event_of_shard shard (shard_event.Begin job placed) = Own (own.AtShard shard work.Begin)
event_of_shard shard (shard_event.Claim index won placed) =
    Own (own.AtShard shard (work.Claim index))
event_of_shard shard shard_event.End = Own (own.AtShard shard work.End)
event_of_shard shard (shard_event.DropJob job) = Own (own.AtShard shard work.DropJob)
event_of_shard shard shard_event.Drain = Own (own.AtShard shard work.DrainShard)
event_of_shard shard (shard_event.Collect deltas) = Own (own.Collect shard)
