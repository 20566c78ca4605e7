-- Whether a hub has nothing left to hear, and can go on (profile).
use Rattle.std.specs.Prelude.{ℕ, Bool, false, not, ◌&&◌, nat_eq, nat_lt, nat_le, List, length, Option, Some, None}
use Rattle.subj.specs.declared.limits.TheConstants.{MAX_COUNTER, MAX_QUEUE_NAMES, ROUTE_FRAMES}
use Rattle.subj.specs.Servers.{ServerIdentity}
use Rattle.interest.specs.Counts.{Counts}
use Rattle.interest.specs.Views.{same_views, told_view}
use Rattle.hub_core.specs.Choice.{queue_names}
use Rattle.hub_core.specs.State.{Peer, State}

-- the peer is up at this incarnation, what was heard of it is what these counts are told as, and
-- there is room for a frame
abbrev pub knows_at : Option Peer → ℕ → Counts → Bool
knows_at None inc counts = false
knows_at (Some peer) inc counts =
    peer.up
    && (nat_eq peer.seen inc
    && (same_views peer.heard.keys (told_view counts) && nat_lt (length peer.outbox) ROUTE_FRAMES))

-- one more turn and one more publication have a number
abbrev pub can_number : State → Bool
can_number hub = nat_lt hub.issued MAX_COUNTER && nat_lt hub.published MAX_COUNTER

-- it does not drain, and can number
abbrev pub goes_on : State → Bool
goes_on hub = not hub.draining && can_number hub

-- not too many queue names want the subject
abbrev pub has_few_names : ServerIdentity → State → List ℕ → Bool
has_few_names server hub subject = nat_le (length (queue_names server hub subject)) MAX_QUEUE_NAMES
