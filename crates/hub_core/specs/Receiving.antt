-- Receive: which numbered frames of peers are taken, and what they change (profile). Nothing is
-- sent on: a message goes one hop (NATS documentation, "Cluster Protocol").
use Rattle.std.specs.Prelude.{ℕ, ◌+◌, Bool, true, false, not, nat_eq, nat_lt, nat_le, List, Option, Some, None, if◌then◌else◌}
use Rattle.std.specs.Option.{option_map, option_or}
use Rattle.std.specs.Str.{bytes_eq}
use Rattle.subj.specs.declared.jobs.Job.{Job}
use Rattle.subj.specs.declared.limits.TheConstants.{MAX_COUNTER}
use Rattle.subj.specs.Messages.{Content}
use Rattle.subj.specs.Servers.{ServerIdentity, own_name, place}
use Rattle.interest.specs.declared.changes.Change.TheVariants.{Up, Gone}
use Rattle.interest.specs.Heard.{Changed, Whole, news_fault, heard_after}
use Rattle.route_values.specs.declared.bodies.Body.{Body}
use Rattle.route_values.specs.declared.bodies.Body.TheVariants.{Plus, Minus, Snapshot, Msg}
use Rattle.route_values.specs.Frames.{Frame}
use Rattle.hub_core.specs.declared.faults.HubFault.{HubFault}
use Rattle.hub_core.specs.declared.faults.HubFault.TheVariants.{Spent, NotMe, OtherMe, NotInCluster, StaleOrigin, Late}
use Rattle.hub_core.specs.Faults.{fault_of_interest}
use Rattle.hub_core.specs.Publishing.{busy_fault}
use Rattle.hub_core.specs.State.{State, Peer, peer_of, peer_in_life, changed_at}

-- ---- refusals: 63, 64, 65, 66, then 67, 60, 62 of a message, and 67, 68, 69 of interest; all of
-- them as against what is known of the frame's incarnation

-- a number at or below the mark was taken already; numbers above it may be left out
abbrev pub message_fault : ServerIdentity → State → Peer → ℕ → List ℕ → Option HubFault
message_fault server hub base number finished =
    if nat_le number base.mark then Some Late
    else option_or (busy_fault server hub finished)
    (if nat_le MAX_COUNTER hub.issued then Some Spent else None)

abbrev pub body_fault : ServerIdentity → State → Peer → ℕ → List ℕ → Body → Option HubFault
body_fault server hub base number finished (Plus weighted) =
    option_map fault_of_interest (news_fault base.heard (Changed number (Up weighted)))
body_fault server hub base number finished (Minus key) =
    option_map fault_of_interest (news_fault base.heard (Changed number (Gone key)))
body_fault server hub base number finished (Snapshot keys) =
    option_map fault_of_interest (news_fault base.heard (Whole number keys))
body_fault server hub base number finished (Msg content queues) =
    message_fault server hub base number finished

abbrev pub origin_fault : ServerIdentity → State → List ℕ → Frame → Option Peer → Option HubFault
origin_fault server hub finished frame None = Some NotInCluster
origin_fault server hub finished frame (Some peer) =
    if nat_lt frame.inc peer.seen then Some StaleOrigin
    else body_fault server hub (peer_in_life peer frame.inc) frame.number finished frame.body

abbrev pub receive_refusal : ServerIdentity → State → List ℕ → Frame → Option HubFault
receive_refusal server hub finished frame =
    if not (bytes_eq frame.to (own_name server)) then Some NotMe
    else (if not (nat_eq frame.to_inc server.inc) then Some OtherMe
    else origin_fault server hub finished frame (peer_of server hub frame.from))

-- ---- after

-- of a message its number is the mark now; a change or a snapshot is heard
abbrev pub told_by : Body → ℕ → Peer → Peer
told_by (Plus weighted) number base = record base {
  heard = heard_after base.heard (Changed number (Up weighted));
}
told_by (Minus key) number base = record base {
  heard = heard_after base.heard (Changed number (Gone key));
}
told_by (Snapshot keys) number base = record base {
  heard = heard_after base.heard (Whole number keys);
}
told_by (Msg content queues) number base = record base { mark = number }

abbrev pub has_message : Body → Bool
has_message (Plus weighted) = false
has_message (Minus key) = false
has_message (Snapshot keys) = false
has_message (Msg content queues) = true

-- a message takes the next turn
abbrev pub after_receive : ServerIdentity → State → Frame → State
after_receive server hub frame = record hub {
  issued = (if has_message frame.body then hub.issued + 1 else hub.issued);
  peers =
      changed_at (λ peer. told_by frame.body frame.number (peer_in_life peer frame.inc))
      (place server frame.from) hub.peers;
}

-- the job of a message, with the queue names that its origin has picked this server for
abbrev pub routed_job : State → Frame → Content → List (List ℕ) → Job
routed_job hub frame content queues = record {
  turn = hub.issued + 1;
  id = record { origin = frame.from; inc = frame.inc; number = frame.number };
  message = content;
  publisher = None;
  echo = true;
  queues = queues;
}
