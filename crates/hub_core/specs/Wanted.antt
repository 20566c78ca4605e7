-- The queue names of a publication: in order, and just those that are wanted.
use Rattle.std.specs.Prelude.{◌≡◌, ◌⊎◌, ◌↔◌, ℕ, true, List, slice_get, Some}
use Rattle.list_laws.specs.Lists.{In}
use Rattle.subj.specs.declared.keys.Key.{Key}
use Rattle.subj.specs.Matching.{subject_matches}
use Rattle.subj.specs.QueueNames.{are_rising}
use Rattle.subj.specs.Servers.{ServerIdentity}
use Rattle.hub_core.specs.State.{State, Peer}
use Rattle.hub_core.specs.Choice.{is_eligible, queue_names}

-- the key has the queue name, and matches
pub record Wants (subject name : List ℕ) (entry : Key × ℕ) : Type 0 where
  pub queue : entry.0.queue ≡ Some name
  pub matches : subject_matches entry.0.pattern subject ≡ true

abbrev pub SomeWants : List ℕ → List ℕ → List (Key × ℕ) → Type 0
SomeWants subject name keys = (entry : Key × ℕ) × In entry keys × Wants subject name entry

-- an eligible peer has told of such a key
pub record PeerWants (server : ServerIdentity) (hub : State) (subject name : List ℕ) : Type 0 where
  pub place : ℕ
  pub peer : Peer
  pub at : slice_get hub.peers place ≡ Some peer
  pub eligible : is_eligible server place peer ≡ true
  pub wants : SomeWants subject name peer.heard.keys

-- a name is there just where it is wanted, by its own counts or by an eligible peer
pub record NamesAreWanted : Type 0 where
  pub rising : (server : ServerIdentity) (hub : State) (subject : List ℕ)
      → are_rising (queue_names server hub subject) ≡ true
  pub wanted : (server : ServerIdentity) (hub : State) (subject name : List ℕ)
      → In name (queue_names server hub subject)
      ↔ (SomeWants subject name hub.counts ⊎ PeerWants server hub subject name)
