-- The choice: which server serves a queue name of a publication (profile).
use Rattle.std.specs.Prelude.{ℕ, suc, Bool, not, ◌&&◌, nat_eq, nat_lt, List, [], ◌∷◌, length, filter, Option, if◌then◌else◌}
use Rattle.subj.specs.declared.limits.TheConstants.{ROUTE_FRAMES}
use Rattle.subj.specs.QueueNames.{is_named}
use Rattle.subj.specs.Servers.{ServerIdentity, name_of}
use Rattle.pick.specs.Pick.{Weighted, pick_of}
use Rattle.interest.specs.Counts.{Counts}
use Rattle.interest.specs.Matches.{names_in, weight_in}
use Rattle.hub_core.specs.State.{State, Peer}

-- a peer that is up, with room for one frame more
abbrev pub is_eligible : ServerIdentity → ℕ → Peer → Bool
is_eligible server q peer =
    not (nat_eq q server.me) && (peer.up && nat_lt (length peer.outbox) ROUTE_FRAMES)

-- what a server weighs for a queue name (profile): its own by its counts, which are those that were
-- collected from its shards; an eligible peer by what it has told; and no other
abbrev pub weight_at : ServerIdentity → Counts → List ℕ → List ℕ → ℕ → Peer → ℕ
weight_at server counts subject name q peer =
    if nat_eq q server.me then weight_in subject name counts
    else (if is_eligible server q peer then weight_in subject name peer.heard.keys else 0)

-- each server with its weight, in the order of the servers, from the one at place q
abbrev pub weights_from : ServerIdentity → Counts → List ℕ → List ℕ → ℕ → List Peer → List Weighted
weights_from server counts subject name q [] = []
weights_from server counts subject name q (peer ∷ peers) =
    (name_of server q, weight_at server counts subject name q peer)
    ∷ weights_from server counts subject name (suc q) peers

abbrev pub weights : ServerIdentity → State → List ℕ → List ℕ → List Weighted
weights server hub subject name = weights_from server hub.counts subject name 0 hub.peers

-- the server that serves the queue name; one word serves all names
abbrev pub server_for : ServerIdentity → State → List ℕ → ℕ → List ℕ → Option (List ℕ)
server_for server hub subject word name = pick_of (weights server hub subject name) word

-- ---- the queue names that a server serves

abbrev pub names_for : (List ℕ → Option (List ℕ)) → List ℕ → List (List ℕ) → List (List ℕ)
names_for choice server_name names = filter (λ name. is_named server_name (choice name)) names

-- ---- all queue names that want the subject: those of its own counts, and of eligible peers

abbrev pub names_from : ServerIdentity → List ℕ → ℕ → List Peer → List (List ℕ) → List (List ℕ)
names_from server subject q [] names = names
names_from server subject q (peer ∷ peers) names =
    names_from server subject (suc q) peers
    (if is_eligible server q peer then names_in subject peer.heard.keys names else names)

abbrev pub queue_names : ServerIdentity → State → List ℕ → List (List ℕ)
queue_names server hub subject =
    names_from server subject 0 hub.peers (names_in subject hub.counts [])
