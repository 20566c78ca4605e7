-- What is kept in writing of what a hub and its sessions did and refused.
use Rattle.std.specs.Prelude.{◌≡◌, List, [], ◌∷◌, ◌++◌, length, map, Option, Some}
use Rattle.std.specs.Option.{option_map}
use Rattle.hub_core.specs.Events as of_hub
use Rattle.hub_core.specs.Steps.{hub_refusal}
use Rattle.route_session.specs.Events as of_sessions
use Rattle.route_session.specs.Steps.{session_refusal}
use Rattle.subj.specs.Servers.{ServerIdentity}
use Rattle.node_law.specs.declared.faults.NodeFault.{NodeFault}
use Rattle.node_law.specs.declared.faults.NodeFault.TheVariants.{Hub, Session}
use Rattle.node_parts.specs.Sides.{HubWithSessions, new_side, Event, ByHub, BySessions, Answer, OfHub, OfSessions, IsAsked, IsDone, Done, jobs_of}
use Rattle.node_parts.specs.declared.told.Received.{Received}
use Rattle.node_parts.specs.declared.told.Received.TheVariants.{Routed, Heard}
use Rattle.node_threads.specs.AtHub.{AtHub}
use Rattle.node_threads.specs.Tapes.{Grows}
use Rattle.thread_node.specs.declared.hub_entries.HubEvent.{HubEvent}
use Rattle.thread_node.specs.declared.hub_entries.HubEvent.TheVariants as event
use Rattle.thread_node.specs.declared.hub_entries.HubTold.{HubTold}
use Rattle.thread_node.specs.declared.hub_entries.HubTold.TheVariants as told
use Rattle.thread_node.specs.declared.hub_entries.HubEntry.{HubEntry}

-- ---- what was done and what was refused, the newest first

-- why an event is refused, the first cause first
abbrev pub side_refusal : HubWithSessions → Event → Option NodeFault
side_refusal s (ByHub event) = option_map (λ fault. Hub fault) (hub_refusal s.server s.hub event)
side_refusal s (BySessions event) =
    option_map (λ fault. Session fault) (session_refusal s.server s.sessions event)

-- what may be asked is refused by this cause
pub record Refuses (s : HubWithSessions) (event : Event) (why : NodeFault) : Type 0 where
  pub asked : IsAsked s event
  pub cause : side_refusal s event ≡ Some why

-- a step was made, or an event was refused in this state
pub data Made : Type 0 where
  Did : (step : Done) → Made
  WasRefused : (before : HubWithSessions) (event : Event) (why : NodeFault) → Made

-- Each step is the hub's and the sessions', the first of them from this state, and they lead to
-- that one. What was refused was refused in the state between the steps, which that left as it was.
abbrev pub Logs : HubWithSessions → List Made → HubWithSessions → Type 0
Logs from [] to = to ≡ from
Logs from (Did d ∷ earlier) to = IsDone d.before d.event d.answer to × Logs from earlier d.before
Logs from (WasRefused before event why ∷ earlier) to =
    Refuses before event why × (to ≡ before) × Logs from earlier before

-- the steps alone
abbrev pub steps_in : List Made → List Done
steps_in [] = []
steps_in (Did d ∷ earlier) = d ∷ steps_in earlier
steps_in (WasRefused before event why ∷ earlier) = steps_in earlier

-- ---- an answer, its lists in numbers; a peer comes up and is cut by its session alone, whose
-- answer tells of it

abbrev pub told_by_hub : of_hub.Answer → List HubTold
told_by_hub (of_hub.Issued job frames) = told.Issued job.turn (length frames) ∷ []
told_by_hub (of_hub.Routed job) = told.Routed job.turn ∷ []
told_by_hub (of_hub.Heard mark) = told.Heard mark ∷ []
told_by_hub (of_hub.Collected changes frames cut) =
    told.Collected (length changes) (length cut) ∷ []
told_by_hub (of_hub.Drained frames cut) = told.Collected 1 (length cut) ∷ []
told_by_hub (of_hub.IsUp snapshot) = []
told_by_hub of_hub.WasCut = []
told_by_hub (of_hub.Taken frames) = told.Taken (length frames) ∷ []

abbrev pub told_by_sessions : of_sessions.Answer → List HubTold
told_by_sessions (of_sessions.Dialed session) = told.Dialed session ∷ []
told_by_sessions (of_sessions.Accepted session info) = told.Accepted session info ∷ []
told_by_sessions (of_sessions.KeptAfterInfo instead_of connect) =
    told.KeptAfterInfo instead_of connect ∷ []
told_by_sessions (of_sessions.Kept instead_of) = told.Kept instead_of ∷ []
told_by_sessions (of_sessions.WasCut peer) = told.WasCut peer ∷ []

abbrev pub told_by : Answer → List HubTold
told_by (OfHub answer) = told_by_hub answer
told_by (OfSessions answer) = told_by_sessions answer

-- of a frame of a peer
abbrev pub of_received : Received → HubTold
of_received (Routed turn) = told.Routed turn
of_received (Heard mark) = told.Heard mark

-- ---- an event; the greatest incarnation that the hub has seen of a sender follows from what was
-- done before

abbrev pub asked_of_hub : of_hub.Event → List HubEvent
asked_of_hub (of_hub.Publish p finished) = event.Publish p.conn p.publication p.word finished ∷ []
asked_of_hub (of_hub.Receive frame finished) = event.Receive frame finished ∷ []
asked_of_hub (of_hub.Collect shard deltas) = event.Collect shard deltas ∷ []
asked_of_hub of_hub.Drain = event.Drain ∷ []
asked_of_hub (of_hub.Up peer inc) = []
asked_of_hub (of_hub.Cut peer) = []
asked_of_hub (of_hub.TakeFrom peer count) = event.TakeFrames peer count ∷ []

abbrev pub asked_of_sessions : of_sessions.Event → List HubEvent
asked_of_sessions (of_sessions.Dial peer) = event.Dial peer ∷ []
asked_of_sessions of_sessions.Accept = event.Accept ∷ []
asked_of_sessions (of_sessions.OnInfo session info least) = event.Info session info ∷ []
asked_of_sessions (of_sessions.OnConnect session connect least) = event.Connect session connect ∷ []
asked_of_sessions (of_sessions.Cut session) = event.Cut session ∷ []

abbrev pub asked_of : Event → List HubEvent
asked_of (ByHub event) = asked_of_hub event
asked_of (BySessions event) = asked_of_sessions event

-- ---- what an entry says of a step

abbrev pub hub_entry : HubEvent → HubTold → HubEntry
hub_entry event told = record { event = event; told = told }

abbrev pub entries_with : List HubEvent → List HubTold → List HubEntry
entries_with [] told = []
entries_with (event ∷ events) told = map (hub_entry event) told

-- one, of whatever may be asked
abbrev pub entries_in : Event → Answer → List HubEntry
entries_in event answer = entries_with (asked_of event) (told_by answer)

-- of all that was done and refused, the newest of which stands first in the list, and last on the
-- tape
abbrev pub hub_entries : List Made → List HubEntry
hub_entries [] = []
hub_entries (Did d ∷ earlier) = hub_entries earlier ++ entries_in d.event d.answer
hub_entries (WasRefused before event why ∷ earlier) =
    hub_entries earlier ++ entries_with (asked_of event) (told.Refused why ∷ [])

-- ---- a hub at work, and its tape

-- It is that of this server. All that it did and refused since its start is on its tape, where that
-- is kept; and what it gave to the shards is what its answers say.
pub record IsHubTape (server : ServerIdentity) (w : AtHub) (tape : Option (List HubEntry)) :
    Type 0 where
  pub whose : w.side.server ≡ server
  pub log : List Made
  pub led : Logs (new_side w.side.server) log w.side
  pub gave : w.issued ≡ jobs_of (steps_in log)
  pub grows : Grows (Some []) (hub_entries log) tape
