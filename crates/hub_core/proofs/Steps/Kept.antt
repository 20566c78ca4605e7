-- A hub stays kept by each event.
use Rattle.std.proofs.Common.{◌≡◌, ℕ, ◌≤◌, ◌<◌, true, not, nat_eq, nat_lt, length, subst, sym}
use Rattle.list_laws.proofs.Tests.{and_true, lt_true}
use Rattle.subj.specs.declared.limits.TheConstants.{MAX_COUNTER}
use Rattle.subj.specs.Servers.{ServerIdentity, is_peer}
use Rattle.hub_core.specs.State.{State, IsSound}
use Rattle.hub_core.specs.Events.{Event}
use Rattle.hub_core.specs.Steps.{IsAsked, hub_after}
use Rattle.hub_core.specs.Hubs.{Hub, IsKept}
use Rattle.hub_core.proofs.Steps.Sound.{after_sound}

pub kept_after : (server : ServerIdentity) (state : State) (event : Event) (new : State)
    → IsKept (record { server = server; state = state })
    → IsAsked server state event
    → new ≡ hub_after server state event
    → new.published ≤ MAX_COUNTER
    → new.changed ≤ MAX_COUNTER
    → IsKept (record { server = server; state = new })
kept_after server state event new kept asked is published changed = record {
  listed = kept.listed;
  sound = subst (λ s. IsSound server s) (sym is) (after_sound server state event kept.listed kept.sound asked);
  published = published;
  changed = changed;
}

-- a peer has its place
pub peer_within : (hub : Hub) (q : ℕ) → IsKept hub → is_peer hub.server q ≡ true → q < length hub.state.peers
peer_within hub q kept is =
    let below = lt_true q (length hub.server.names)
    (and_true (not (nat_eq q hub.server.me)) (nat_lt q (length hub.server.names)) is).1 in
    subst (λ n. q < n) (sym kept.sound.placed) below
