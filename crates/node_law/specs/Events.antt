-- What a server is asked. Shards and sessions are counted from 1, and servers are named by their
-- places.
use Rattle.std.specs.Prelude.{ℕ}
use Rattle.hub_core.specs.Publishing.{Publication}
use Rattle.route_values.specs.Frames.{Frame}
use Rattle.route_values.specs.Records.{Info, Connect}
-- of a connection; and of a shard: its connections are attached, and the first job that waits is
-- begun
pub use Rattle.node_law.specs.declared.events.ConnEvent.{ConnEvent}
pub use Rattle.node_law.specs.declared.events.ConnEvent.TheVariants.{Subscribe, Unsubscribe, Reply, Shut, SetHeaders, Detach, Take}
pub use Rattle.node_law.specs.declared.events.ShardWork.{ShardWork}
pub use Rattle.node_law.specs.declared.events.ShardWork.TheVariants.{Attach, Begin, Claim, End, DropJob, DrainShard}

-- of the server itself
pub data OwnEvent : Type 0 where
  OfConn : (conn : ℕ) (event : ConnEvent) → OwnEvent
  AtShard : (shard : ℕ) (work : ShardWork) → OwnEvent
  Publish : (publication : Publication) → OwnEvent
  Collect : (shard : ℕ) → OwnEvent
  Drain : OwnEvent
  Dial : (peer : ℕ) → OwnEvent
  Accept : OwnEvent
  CutSession : (session : ℕ) → OwnEvent
  TakeFrames : (peer count : ℕ) → OwnEvent

-- or of a frame of another server: a numbered one; an INFO or a CONNECT on a session
pub data NodeEvent : Type 0 where
  Own : (event : OwnEvent) → NodeEvent
  Receive : (frame : Frame) → NodeEvent
  OnInfo : (session : ℕ) (info : Info) → NodeEvent
  OnConnect : (session : ℕ) (connect : Connect) → NodeEvent
