-- What a choice finds in code, and what a publish owes by it.
use Rattle.std.specs.Prelude.{◌≡◌, ℕ, suc, ◌<◌, ◌≤◌, Bool, true, false, nat_le, ◌&&◌, ◌||◌, List, [], ◌∷◌, ◌++◌, length, Option, Some, None, Result, Ok, Err, if◌then◌else◌, slice_get}
use Rattle.subj.specs.declared.limits.TheConstants.{MAX_COUNTER, MAX_QUEUE_NAMES}
use Rattle.std.specs.Option.{option_or}
use Rattle.subj.specs.declared.messages.Pub.{Pub}
use Rattle.subj.specs.Messages.{Content}
use Rattle.subj.specs.QueueNames.{is_named, are_queue_names}
use Rattle.subj.specs.declared.jobs.Job.{Job}
use Rattle.subj.specs.Servers.{ServerIdentity, name_of, own_name}
use Rattle.route_values.specs.declared.bodies.Body.TheVariants.{Msg}
use Rattle.route_values.specs.Frames.{Frame}
use Rattle.hub_core.specs.declared.faults.HubFault.{HubFault}
use Rattle.hub_core.specs.declared.faults.HubFault.TheVariants.{Spent}
use Rattle.hub_core.specs.State.{State, Peer}
use Rattle.interest.specs.Matches.{has_plain_match, has_queue_match}
use Rattle.hub_core.specs.Choice.{is_eligible}
use Rattle.hub_core.specs.Publishing.{Publication, busy_fault, is_owed, own_job, frames_of}

-- an eligible peer, from the one at place q on, has a key with a queue name that matches
abbrev pub wants_name_from : ServerIdentity → List ℕ → ℕ → List Peer → Bool
wants_name_from server subject q [] = false
wants_name_from server subject q (peer ∷ peers) =
    (is_eligible server q peer && has_queue_match subject peer.heard.keys)
    || wants_name_from server subject (suc q) peers

-- all names are found, or they are more than a publication may have
abbrev pub AreFound : {T E : Type 0} → List (List ℕ) → List (List ℕ) → Result T E → Type 0
AreFound all names (Ok done) = (names ≡ all) × (length all ≤ MAX_QUEUE_NAMES)
AreFound all names (Err fault) = MAX_QUEUE_NAMES < length all

-- of names, each with the server that was chosen for it, those of one server
abbrev pub chosen_for : List ℕ → List (List ℕ) → List (Option (List ℕ)) → List (List ℕ)
chosen_for server_name [] servers = []
chosen_for server_name (name ∷ names) [] = []
chosen_for server_name (name ∷ names) (server ∷ servers) =
    if is_named server_name server then name ∷ chosen_for server_name names servers
    else chosen_for server_name names servers

-- of the peer at place q it is known whether a plain key of it matches the subject, if of any
abbrev pub KnowsPlain : Option (List Bool) → List ℕ → ℕ → Peer → Type 0
KnowsPlain None subject q peer = Unit {0}
KnowsPlain (Some plain) subject q peer =
    slice_get plain q ≡ Some (has_plain_match subject peer.heard.keys)

-- ---- the frames of a message, by what queue names each server serves

abbrev pub message_frame : ServerIdentity → ℕ → Content → List (List ℕ) → ℕ → Peer → Frame
message_frame server number content queues q peer = record {
  from = own_name server;
  inc = server.inc;
  to = name_of server q;
  to_inc = peer.seen;
  number = number;
  body = Msg content queues;
}

abbrev pub frame_at : ServerIdentity → ℕ → Content → List (List ℕ) → ℕ → Peer → List Frame
frame_at server number content queues q peer =
    if is_eligible server q peer && is_owed content.subject queues peer
    then message_frame server number content queues q peer ∷ []
    else []

abbrev pub sent_from : ServerIdentity → ℕ → Content → (List ℕ → List (List ℕ)) → ℕ → List Peer
    → List Frame
sent_from server number content queues_of q [] = []
sent_from server number content queues_of q (peer ∷ peers) =
    frame_at server number content (queues_of (name_of server q)) q peer
    ++ sent_from server number content queues_of (suc q) peers

-- ---- a publication whose names are split over the servers

-- each name has its server, and the names of each server are queue names
pub record IsSplit (names : List (List ℕ)) (servers : List (Option (List ℕ))) : Type 0 where
  pub few : length names ≤ length servers
  pub ordered : (server_name : List ℕ)
      → are_queue_names (chosen_for server_name names servers) ≡ true

-- what a publish owes; nothing is changed yet
pub record IsPlanOf (server : ServerIdentity) (hub : State) (p : Publication) (its_job : Job)
    (sent : List Frame) : Type 0 where
  pub job : its_job ≡ own_job server hub p
  pub frames : sent ≡ frames_of server hub p

-- a publication of its parts
abbrev pub publication_by : ℕ → Pub → ℕ → Publication
publication_by conn publication word = record {
  conn = conn;
  publication = publication;
  word = word;
}

-- why no turn is issued: 60, 62
abbrev pub turn_refusal : ServerIdentity → State → List ℕ → Option HubFault
turn_refusal server hub finished =
    option_or (busy_fault server hub finished)
    (if nat_le MAX_COUNTER hub.published || nat_le MAX_COUNTER hub.issued then Some Spent else None)
