-- What a cluster is asked. Servers are named by their places; frames by their numbers among all
-- that were sent, from 1.
use Rattle.std.specs.Prelude.{ℕ, zero, suc, List, Option, Some, None, slice_get}
use Rattle.route_values.specs.declared.frames.RouteFrame.{RouteFrame}
use Rattle.route_values.specs.declared.frames.RouteFrame.TheVariants as route
use Rattle.node_law.specs.Events as of_node
use Rattle.node_law.specs.Events.{OwnEvent, NodeEvent, Own}
use Rattle.world_law.specs.State.{World}

pub data Event : Type 0 where
  -- with an incarnation that the server never had
  Start : (node inc : ℕ) → Event
  -- all that the server knew is lost
  Stop : (node : ℕ) → Event
  -- a frame that was sent is handed over, at any time and any number of times: a numbered one,
  Receive : (node frame : ℕ) → Event
  -- or an INFO or a CONNECT on a session
  OnInfo : (node session frame : ℕ) → Event
  OnConnect : (node session frame : ℕ) → Event
  -- an event of the server's own
  At : (node : ℕ) (event : OwnEvent) → Event

-- the frame of this number
abbrev pub frame_at : ℕ → List RouteFrame → Option RouteFrame
frame_at zero sent = None
frame_at (suc k) sent = slice_get sent k

-- ---- what the frame is to the server: nothing, where it is of another kind

abbrev pub numbered_event : Option RouteFrame → Option NodeEvent
numbered_event None = None
numbered_event (Some (route.Numbered frame)) = Some (of_node.Receive frame)
numbered_event (Some (route.Info info)) = None
numbered_event (Some (route.Connect connect)) = None

abbrev pub info_on : ℕ → Option RouteFrame → Option NodeEvent
info_on session None = None
info_on session (Some (route.Numbered frame)) = None
info_on session (Some (route.Info info)) = Some (of_node.OnInfo session info)
info_on session (Some (route.Connect connect)) = None

abbrev pub connect_on : ℕ → Option RouteFrame → Option NodeEvent
connect_on session None = None
connect_on session (Some (route.Numbered frame)) = None
connect_on session (Some (route.Info info)) = None
connect_on session (Some (route.Connect connect)) = Some (of_node.OnConnect session connect)

-- what an event is to the server that it is for
abbrev pub event_for : World → Event → Option NodeEvent
event_for w (Start n inc) = None
event_for w (Stop n) = None
event_for w (Receive n k) = numbered_event (frame_at k w.sent)
event_for w (OnInfo n session k) = info_on session (frame_at k w.sent)
event_for w (OnConnect n session k) = connect_on session (frame_at k w.sent)
event_for w (At n event) = Some (Own event)
