-- Who wants a subject at all servers, and what of it may be kept in mind.
use Rattle.std.specs.Prelude.{◌≡◌, ℕ, suc, ◌≤◌, Bool, List, [], ◌∷◌, length, map, Option, Some, None}
use Rattle.subj.specs.declared.limits.TheConstants.{MAX_QUEUE_NAMES}
use Rattle.subj.specs.Servers.{ServerIdentity}
use Rattle.interest.specs.Counts.{Counts}
use Rattle.interest.specs.Heard.{Heard}
use Rattle.interest.specs.Matches.{names_in, has_plain_match}
use Rattle.hub_core.specs.declared.audience.Audience.{Audience}
use Rattle.hub_core.specs.declared.audience.AudienceMemo.{AudienceMemo}
use Rattle.hub_core.specs.State.{Peer}
use Rattle.hub_core.specs.Choice.{is_eligible, weights_from, names_from}

-- which servers are eligible peers, from the one at place q on
abbrev pub eligible_from : ServerIdentity → ℕ → List Peer → List Bool
eligible_from server q [] = []
eligible_from server q (peer ∷ peers) =
    is_eligible server q peer ∷ eligible_from server (suc q) peers

-- whether a plain key of each of them matches the subject
abbrev pub plain_of : List ℕ → List Peer → List Bool
plain_of subject peers = map (λ peer. has_plain_match subject peer.heard.keys) peers

-- what was heard of each of them
abbrev pub views_of : List Peer → List Heard
views_of peers = map (λ peer. peer.heard) peers

-- those who want the subject, of a server with these counts and peers
pub record IsAudience (server : ServerIdentity) (counts : Counts) (peers : List Peer)
    (subject : List ℕ) (audience : Audience) : Type 0 where
  pub few : length audience.names ≤ MAX_QUEUE_NAMES
  pub names : audience.names ≡ names_from server subject 0 peers (names_in subject counts [])
  pub weights : audience.weights.items
      ≡ map (λ name. weights_from server counts subject name 0 peers) audience.names
  pub plain : audience.plain.items ≡ plain_of subject peers

-- it is so as long as the same peers are eligible, and nothing else was heard of any
abbrev pub IsInMind : ServerIdentity → Counts → List Peer → Option AudienceMemo → Type 0
IsInMind server counts peers None = Unit {0}
IsInMind server counts peers (Some memo) =
    (others : List Peer)
    → views_of others ≡ views_of peers
    → eligible_from server 0 others ≡ memo.eligible.items
    → IsAudience server counts others memo.subject memo.audience
