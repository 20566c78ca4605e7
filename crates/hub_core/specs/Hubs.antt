-- A hub with the server that it is of, and the calls on it.
use Rattle.std.specs.Prelude.{◌≡◌, ℕ, ◌≤◌, Bool, List, Option}
use Rattle.subj.specs.declared.limits.TheConstants.{MAX_COUNTER}
use Rattle.subj.specs.Servers.{ServerIdentity, IsListed}
use Rattle.interest.specs.Counts.{Counts}
use Rattle.hub_core.specs.declared.faults.HubFault.{HubFault}
use Rattle.hub_core.specs.State.{State, Peer, IsSound, new_hub}
use Rattle.hub_core.specs.Events.{Event, Answer}
use Rattle.hub_core.specs.Steps.{hub_refusal, hub_after, hub_answer}

pub record Hub : Type 0 where
  pub server : ServerIdentity
  pub state : State

abbrev pub hub_at_start : ServerIdentity → Hub
hub_at_start server = record { server = server; state = new_hub server }

-- the first cause for which the event is refused
abbrev pub refusal : Hub → Event → Option HubFault
refusal hub event = hub_refusal hub.server hub.state event

abbrev pub after : Hub → Event → Hub
after hub event = record { server = hub.server; state = hub_after hub.server hub.state event }

-- the hub's part of a server's step, of an event that is not refused
pub record DoesStep (old : Hub) (event : Event) (answer : Answer) (new : Hub) : Type 0 where
  pub answered : answer ≡ hub_answer old.server old.state event
  pub after : new ≡ after old event

-- ---- the fields of a hub in code

abbrev pub hub_of_parts : ServerIdentity → ℕ → ℕ → ℕ → Bool → Counts → List Peer → Hub
hub_of_parts server issued published changed draining counts peers = record {
  server = server;
  state = record {
    issued = issued;
    published = published;
    changed = changed;
    draining = draining;
    counts = counts;
    peers = peers;
  };
}

-- the server is one of its cluster, and no number is beyond its limit
pub record IsKept (hub : Hub) : Type 0 where
  pub listed : IsListed hub.server
  pub sound : IsSound hub.server hub.state
  pub published : hub.state.published ≤ MAX_COUNTER
  pub changed : hub.state.changed ≤ MAX_COUNTER
