-- Publish: the next number and turn, one job, and one frame to each peer that is owed one.
-- (Profile, but where another source stands.)
use Rattle.std.specs.Prelude.{ℕ, suc, ◌+◌, Bool, not, ◌&&◌, ◌||◌, nat_lt, nat_le, List, [], ◌∷◌, ◌++◌, length, take, filter, Option, Some, None, if◌then◌else◌}
use Rattle.std.specs.Option.{option_map, option_or}
use Rattle.std.specs.Str.{bytes_eq}
use Rattle.subj.specs.declared.identities.PubId.{PubId}
use Rattle.subj.specs.declared.jobs.Job.{Job}
use Rattle.subj.specs.declared.limits.TheConstants.{MAX_COUNTER, MAX_QUEUE_NAMES}
use Rattle.subj.specs.declared.messages.Pub.{Pub}
use Rattle.subj.specs.Messages.{Content}
use Rattle.list_laws.specs.Lists.{is_empty}
use Rattle.subj.specs.Servers.{ServerIdentity, name_of, own_name}
use Rattle.claim_race.specs.Race.{busy_of}
use Rattle.interest.specs.Matches.{has_plain_match}
use Rattle.route_values.specs.declared.bodies.Body.TheVariants.{Msg}
use Rattle.route_values.specs.Frames.{Frame}
use Rattle.hub_core.specs.declared.faults.HubFault.{HubFault}
use Rattle.hub_core.specs.declared.faults.HubFault.TheVariants.{Busy, TooManyQueues, Spent}
use Rattle.hub_core.specs.State.{State, Peer}
use Rattle.hub_core.specs.Choice.{is_eligible, server_for, names_for, queue_names}

-- what a client publishes: the number of its connection, the publication, and the word that decides
-- the choice
pub record Publication : Type 0 where
  pub conn : ℕ
  pub publication : Pub
  pub word : ℕ

abbrev pub subject_of : Publication → List ℕ
subject_of p = p.publication.message.subject

abbrev pub names_of : ServerIdentity → State → Publication → List (List ℕ)
names_of server hub p = queue_names server hub (subject_of p)

abbrev pub choice_of : ServerIdentity → State → Publication → List ℕ → Option (List ℕ)
choice_of server hub p = server_for server hub (subject_of p) p.word

-- ---- refusals, the first cause first: 60, 62, 61

-- the first shard that is a window behind, of the last turns that the shards of the server
-- finished; of shards that it doesn't have nothing is asked
abbrev pub busy_fault : ServerIdentity → State → List ℕ → Option HubFault
busy_fault server hub finished = option_map Busy (busy_of hub.issued (take server.shards finished))

abbrev pub publish_fault : ServerIdentity → State → Publication → Option HubFault
publish_fault server hub p =
    if nat_le MAX_COUNTER hub.published || nat_le MAX_COUNTER hub.issued then Some Spent
    else (if nat_lt MAX_QUEUE_NAMES (length (names_of server hub p)) then Some TooManyQueues
    else None)

abbrev pub publish_refusal : ServerIdentity → State → Publication → List ℕ → Option HubFault
publish_refusal server hub p finished =
    option_or (busy_fault server hub finished) (publish_fault server hub p)

-- ---- what is owed

abbrev pub next_id : ServerIdentity → State → PubId
next_id server hub = record {
  origin = own_name server;
  inc = server.inc;
  number = hub.published + 1;
}

-- the job of this server's own shards, with the queue names for which it was picked; there is
-- always one
abbrev pub own_job : ServerIdentity → State → Publication → Job
own_job server hub p = record {
  turn = hub.issued + 1;
  id = next_id server hub;
  message = p.publication.message;
  publisher = Some p.conn;
  echo = p.publication.echo;
  queues = names_for (choice_of server hub p) (own_name server) (names_of server hub p);
}

-- NATS documentation, "Cluster Protocol" (`RMSG`) and "Queue Groups": a peer that has a plain key
-- that matches, or that was picked for a queue name
abbrev pub is_owed : List ℕ → List (List ℕ) → Peer → Bool
is_owed subject names peer = has_plain_match subject peer.heard.keys || not (is_empty names)

-- one frame to each eligible peer that is owed one, with the names for which it was picked, to the
-- incarnation that it is up at; from the peer at place q
abbrev pub frames_from : ServerIdentity → ℕ → Content → (List ℕ → Option (List ℕ)) → List (List ℕ)
    → ℕ → List Peer → List Frame
frames_from server number content choice names q [] = []
frames_from server number content choice names q (peer ∷ peers) =
    (if is_eligible server q peer
    && is_owed content.subject (names_for choice (name_of server q) names) peer
    then record {
      from = own_name server;
      inc = server.inc;
      to = name_of server q;
      to_inc = peer.seen;
      number = number;
      body = Msg content (names_for choice (name_of server q) names);
    } ∷ []
    else [])
    ++ frames_from server number content choice names (suc q) peers

abbrev pub frames_of : ServerIdentity → State → Publication → List Frame
frames_of server hub p =
    frames_from server (hub.published + 1) p.publication.message (choice_of server hub p)
    (names_of server hub p) 0 hub.peers

-- ---- frames go to the outboxes of their peers

abbrev pub is_to : ServerIdentity → ℕ → Frame → Bool
is_to server q frame = bytes_eq frame.to (name_of server q)

abbrev pub with_frames : ServerIdentity → List Frame → ℕ → List Peer → List Peer
with_frames server frames q [] = []
with_frames server frames q (peer ∷ peers) =
    record peer { outbox = peer.outbox ++ filter (is_to server q) frames }
    ∷ with_frames server frames (suc q) peers

abbrev pub after_publish : ServerIdentity → State → Publication → State
after_publish server hub p = record hub {
  issued = hub.issued + 1;
  published = hub.published + 1;
  peers = with_frames server (frames_of server hub p) 0 hub.peers;
}
