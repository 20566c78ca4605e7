-- A local publication: it owes the server's own shards a job, and nothing else.
use Rattle.std.specs.Prelude.{◌≡◌, ℕ, suc, ◌+◌, ◌<◌, Bool, true, false, ◌&&◌, ◌||◌, List, [], ◌∷◌, length, Some, None}
use Rattle.list_laws.specs.Lists.{In}
use Rattle.subj.specs.declared.jobs.Job.{Job}
use Rattle.subj.specs.QueueNames.{are_queue_names}
use Rattle.subj.specs.Servers.{ServerIdentity, IsListed, own_name}
use Rattle.interest.specs.Matches.{has_plain_match}
use Rattle.hub_core.specs.State.{State, Peer}
use Rattle.hub_core.specs.Calls.{after_frames}
use Rattle.hub_core.specs.Chosen.{turn_refusal}
use Rattle.hub_core.specs.Choice.{is_eligible, queue_names, server_for}
use Rattle.hub_core.specs.Publishing.{Publication, subject_of, next_id, own_job, frames_of, publish_refusal, after_publish}

-- an eligible peer, from the one at place q on, has a plain key that matches
abbrev pub wants_plain_from : ServerIdentity → List ℕ → ℕ → List Peer → Bool
wants_plain_from server subject q [] = false
wants_plain_from server subject q (peer ∷ peers) =
    (is_eligible server q peer && has_plain_match subject peer.heard.keys)
    || wants_plain_from server subject (suc q) peers

pub record OwesLocalJob (server : ServerIdentity) (hub : State) (subject : List ℕ)
    (queues : List (List ℕ)) : Type 0 where
  -- each peer has its place, and a name of its own: what this server serves, no peer does
  pub listed : IsListed server
  pub placed : length hub.peers ≡ length server.names
  -- just these queue names want the subject, and they are no more than a publication may have
  pub wanted : queue_names server hub subject ≡ queues
  pub few : are_queue_names queues ≡ true
  -- whatever the word, this server serves each of them
  pub served : (word : ℕ) (name : List ℕ) → In name queues
      → server_for server hub subject word name ≡ Some (own_name server)
  -- and no eligible peer has a plain key that matches
  pub unsent : wants_plain_from server subject 0 hub.peers ≡ false

-- the hub behind so many local publications
abbrev pub behind_local : ℕ → State → State
behind_local count hub = record hub {
  issued = hub.issued + count;
  published = hub.published + count;
}

-- so many can be issued one after the other, by these loads
abbrev pub HasTurnsFor : ServerIdentity → State → List ℕ → ℕ → Type 0
HasTurnsFor server hub finished room =
    (count : ℕ) → count < room → turn_refusal server (behind_local count hub) finished ≡ None

-- ---- what is owed then

abbrev pub local_job : ServerIdentity → State → Publication → List (List ℕ) → Job
local_job server hub p queues = record {
  turn = hub.issued + 1;
  id = next_id server hub;
  message = p.publication.message;
  publisher = Some p.conn;
  echo = p.publication.echo;
  queues = queues;
}

-- it is refused just where no turn is issued, and its word decides nothing
pub record IsLocal (server : ServerIdentity) (hub : State) (p : Publication)
    (queues : List (List ℕ)) : Type 0 where
  pub refusal : (finished : List ℕ)
      → publish_refusal server hub p finished ≡ turn_refusal server hub finished
  pub job : own_job server hub p ≡ local_job server hub p queues
  pub frames : frames_of server hub p ≡ []
  pub after : after_publish server hub p ≡ behind_local 1 hub

-- each publication on such a subject is local, behind any number of others that are
pub record LocalJobsFollow : Type 0 where
  pub local : (server : ServerIdentity) (hub : State) (p : Publication) (queues : List (List ℕ))
      → OwesLocalJob server hub (subject_of p) queues
      → IsLocal server hub p queues
  pub stays : (server : ServerIdentity) (hub : State) (subject : List ℕ)
      (queues : List (List ℕ)) (count : ℕ)
      → OwesLocalJob server hub subject queues
      → OwesLocalJob server (behind_local count hub) subject queues
  pub no_frames : (server : ServerIdentity) (hub : State)
      → after_frames server hub [] ≡ behind_local 1 hub
