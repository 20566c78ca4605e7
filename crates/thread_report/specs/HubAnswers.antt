-- What the hub and the sessions answered at each entry of their tape, with the lists that the tape
-- has in numbers: what their definition answers in the state to which the entries before lead.
use Rattle.std.specs.Prelude.{◌≡◌, ℕ, Bool, true, false, cond, List, [], ◌∷◌}
use Rattle.interest.specs.declared.changes.Change.{Change}
use Rattle.route_values.specs.Frames.{Frame}
use Rattle.hub_core.specs.Chosen.{publication_by}
use Rattle.hub_core.specs.Events as of_hub
use Rattle.route_session.specs.Events as of_sessions
use Rattle.node_parts.specs.Sides.{HubWithSessions, seen_name, Event, ByHub, BySessions, Answer, OfHub, OfSessions, IsDone, Done, side_after, side_answer}
use Rattle.thread_node.specs.HubTapes.{Made, Logs, entries_in, hub_entries}
use Rattle.thread_node.specs.declared.hub_entries.HubEntry.{HubEntry}
use Rattle.thread_node.specs.declared.hub_entries.HubEvent.{HubEvent}
use Rattle.thread_node.specs.declared.hub_entries.HubEvent.TheVariants as event
use Rattle.thread_node.specs.declared.hub_entries.HubTold.{HubTold}
use Rattle.thread_node.specs.declared.hub_entries.HubTold.TheVariants as told

-- ---- the lists of an answer: the changes that peers are told, the frames that were taken for a
-- peer, and the peers that were cut

pub record HubLists : Type 0 where
  pub changes : List Change
  pub frames : List Frame
  pub cut : List ℕ

abbrev pub no_lists : HubLists
no_lists = record { changes = []; frames = []; cut = [] }

abbrev pub frame_lists : List Frame → HubLists
frame_lists frames = record { changes = []; frames = frames; cut = [] }

abbrev pub cut_lists : List ℕ → HubLists
cut_lists cut = record { changes = []; frames = []; cut = cut }

abbrev pub collected_lists : (List Change × List ℕ) → HubLists
collected_lists told = record { changes = told.0; frames = []; cut = told.1 }

abbrev pub lists_of_hub : of_hub.Answer → HubLists
lists_of_hub (of_hub.Issued job frames) = no_lists
lists_of_hub (of_hub.Routed job) = no_lists
lists_of_hub (of_hub.Heard mark) = no_lists
lists_of_hub (of_hub.Collected changes frames cut) = collected_lists (changes, cut)
lists_of_hub (of_hub.Drained frames cut) = cut_lists cut
lists_of_hub (of_hub.IsUp snapshot) = no_lists
lists_of_hub of_hub.WasCut = no_lists
lists_of_hub (of_hub.Taken frames) = frame_lists frames

abbrev pub lists_of : Answer → HubLists
lists_of (OfHub answer) = lists_of_hub answer
lists_of (OfSessions answer) = no_lists

-- ---- what an entry says of a step from this state: an INFO and a CONNECT come with the greatest
-- incarnation that the hub has seen of their sender

abbrev pub asked : HubWithSessions → HubEvent → Event
asked s (event.Publish conn publication word finished) =
    ByHub (of_hub.Publish (publication_by conn publication word) finished)
asked s (event.Receive frame finished) = ByHub (of_hub.Receive frame finished)
asked s (event.Collect shard deltas) = ByHub (of_hub.Collect shard deltas)
asked s event.Drain = ByHub of_hub.Drain
asked s (event.TakeFrames peer count) = ByHub (of_hub.TakeFrom peer count)
asked s (event.Dial peer) = BySessions (of_sessions.Dial peer)
asked s event.Accept = BySessions of_sessions.Accept
asked s (event.Info session info) =
    BySessions (of_sessions.OnInfo session info (seen_name s info.server_name))
asked s (event.Connect session connect) =
    BySessions (of_sessions.OnConnect session connect (seen_name s connect.server_name))
asked s (event.Cut session) = BySessions (of_sessions.Cut session)

-- a step was made, and not refused
abbrev pub is_made : HubTold → Bool
is_made (told.Issued turn frames) = true
is_made (told.Routed turn) = true
is_made (told.Heard mark) = true
is_made (told.Collected changes cut) = true
is_made (told.Taken frames) = true
is_made (told.Dialed session) = true
is_made (told.Accepted session info) = true
is_made (told.KeptAfterInfo instead_of connect) = true
is_made (told.Kept instead_of) = true
is_made (told.WasCut peer) = true
is_made (told.Refused why) = false

-- the lists that were answered in this state
abbrev pub lists_at : HubWithSessions → HubEntry → HubLists
lists_at s entry =
    cond (is_made entry.told) (lists_of (side_answer s (asked s entry.event))) no_lists

-- the state behind an entry
abbrev pub state_behind : HubWithSessions → HubEntry → HubWithSessions
state_behind s entry = cond (is_made entry.told) (side_after s (asked s entry.event)) s

-- the state behind all of these
abbrev pub state_after : HubWithSessions → List HubEntry → HubWithSessions
state_after s [] = s
state_after s (entry ∷ tape) = state_after (state_behind s entry) tape

-- a hub with its sessions that is asked this again stands so behind it, and has answered with these
-- lists
pub record DoesAgain (old : HubWithSessions) (event : Event) (lists : HubLists)
    (new : HubWithSessions) : Type 0 where
  pub lists_are : lists ≡ lists_of (side_answer old event)
  pub after : new ≡ side_after old event

-- ---- the same of a run: its tape leads to the run's own states, and each step has one entry, at
-- which the lists are those of the step's answer

pub record AreAnswered : Type 0 where
  pub states : (from to : HubWithSessions) (log : List Made)
      → Logs from log to
      → state_after from (hub_entries log) ≡ to
  pub lists : (d : Done) (to : HubWithSessions)
      → IsDone d.before d.event d.answer to
      → (entry : HubEntry)
      × (entries_in d.event d.answer ≡ entry ∷ [])
      × (lists_at d.before entry ≡ lists_of d.answer)
