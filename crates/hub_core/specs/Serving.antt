-- Who serves the queue names of a publication, as it is found in code.
use Rattle.std.specs.Prelude.{◌≡◌, ℕ, suc, ◌≤◌, Bool, true, not, ◌&&◌, List, [], ◌∷◌, length, take, map, Option}
use Rattle.subj.specs.declared.limits.TheConstants.{MAX_QUEUE_NAMES}
use Rattle.subj.specs.Servers.{ServerIdentity}
use Rattle.hub_core.specs.State.{State, Peer}
use Rattle.hub_core.specs.Choice.{is_eligible}
use Rattle.hub_core.specs.InMind.{AreInMind}
use Rattle.hub_core.specs.Publishing.{Publication, choice_of}

-- each of the names has its place, where the server stands that was chosen for it
pub record IsServed (server : ServerIdentity) (hub : State) (p : Publication)
    (names : List (List ℕ)) (servers : List (Option (List ℕ))) : Type 0 where
  pub few : length names ≤ MAX_QUEUE_NAMES
  pub room : length names ≤ length servers
  pub picks : take (length names) servers ≡ map (choice_of server hub p) names

-- ---- a server that serves all names itself

-- no peer is eligible, from the one at place q on
abbrev pub is_alone_from : ServerIdentity → ℕ → List Peer → Bool
is_alone_from server q [] = true
is_alone_from server q (peer ∷ peers) =
    not (is_eligible server q peer) && is_alone_from server (suc q) peers

-- no peer is eligible, and these names of its own counts want the subject
pub record ServesAlone (server : ServerIdentity) (hub : State) (subject : List ℕ)
    (names : List (List ℕ)) : Type 0 where
  pub alone : is_alone_from server 0 hub.peers ≡ true
  pub in_mind : AreInMind hub.counts subject names
