-- What a hub does with its sessions is its part of a server's step.
use Rattle.std.specs.Prelude.{◌≡◌, Bool, Option, Some, None}
use Rattle.subj.specs.Servers.{ServerIdentity}
use Rattle.claim_race.specs.Race.{RaceState}
use Rattle.hub_core.specs.Events as of_hub
use Rattle.route_session.specs.Events as of_sessions
use Rattle.node_law.specs.Events.{NodeEvent, Own, OfConn, AtShard, Publish, Collect, Drain, Dial, Accept, CutSession, TakeFrames, Receive, OnInfo, OnConnect}
use Rattle.node_law.specs.State.{Node, finished_turns}
use Rattle.node_law.specs.Steps.{NodeStep, shard_line, deltas_at, seen_name}
use Rattle.node_parts.specs.Sides.{HubWithSessions, Event, ByHub, BySessions, side_answer, IsDone}

abbrev pub side_at : ServerIdentity → Node → HubWithSessions
side_at server a = record { server = server; hub = a.hub; sessions = a.sessions }

-- what the hub or the sessions are asked at an event of their server, with what crosses a lock; of
-- connections and shards they hear nothing
abbrev pub part_of : ServerIdentity → Node → NodeEvent → Option Event
part_of server a (Own (OfConn conn event)) = None
part_of server a (Own (AtShard shard work)) = None
part_of server a (Own (Publish p)) = Some (ByHub (of_hub.Publish p (finished_turns a.lines)))
part_of server a (Own (Collect shard)) =
    Some (ByHub (of_hub.Collect shard (deltas_at (shard_line a shard))))
part_of server a (Own Drain) = Some (ByHub of_hub.Drain)
part_of server a (Own (Dial q)) = Some (BySessions (of_sessions.Dial q))
part_of server a (Own Accept) = Some (BySessions of_sessions.Accept)
part_of server a (Own (CutSession session)) = Some (BySessions (of_sessions.Cut session))
part_of server a (Own (TakeFrames q count)) = Some (ByHub (of_hub.TakeFrom q count))
part_of server a (Receive frame) = Some (ByHub (of_hub.Receive frame (finished_turns a.lines)))
part_of server a (OnInfo session info) =
    Some (BySessions (of_sessions.OnInfo session info (seen_name server a info.server_name)))
part_of server a (OnConnect session connect) =
    Some
    (BySessions (of_sessions.OnConnect session connect (seen_name server a connect.server_name)))

abbrev pub HasDonePart : ServerIdentity → Node → Node → Option Event → Type 0
HasDonePart server a b None = side_at server b ≡ side_at server a
HasDonePart server a b (Some e) =
    IsDone (side_at server a) e (side_answer (side_at server a) e) (side_at server b)

abbrev pub SidesAreParts : Type 0
SidesAreParts =
    (server : ServerIdentity) (a : Node) (event : NodeEvent) (won : Bool) (race : RaceState)
    (b : Node)
    → NodeStep server a event won race b
    → HasDonePart server a b (part_of server a event)
