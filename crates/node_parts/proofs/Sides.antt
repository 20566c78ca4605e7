-- Calls on the hub and on the sessions, as events of both.
use Rattle.std.proofs.Common.{◌≡◌, ℕ, List, [], None, sym, ap, ◌∙◌}
use Rattle.hub_core.specs.Events as of_hub
use Rattle.hub_core.specs.Hubs as hubs
use Rattle.hub_core.specs.Hubs.{Hub}
use Rattle.hub_core.specs.Telling.{collect_frames, slow_peers, drain_frames, peers_too_slow}
use Rattle.interest.specs.declared.changes.Change.{Change}
use Rattle.subj.specs.declared.keys.Delta.{Delta}
use Rattle.route_session.specs.Calls as calls
use Rattle.route_session.specs.Events as of_sessions
use Rattle.route_session.specs.Steps.{session_refusal, session_answer, session_after, without_peers}
use Rattle.node_parts.specs.Sides.{HubWithSessions, ByHub, BySessions, OfHub, OfSessions, IsAskedSessions, IsDone, hub_with}

-- the hub with the sessions
abbrev pub side_of : Hub → calls.Served → HubWithSessions
side_of hub s = record { server = hub.server; hub = hub.state; sessions = s.state }

-- ---- an INFO or a CONNECT

pub greeted : (hub new_hub : Hub) (old new : calls.Served) (e : of_sessions.Event) (answer : of_sessions.Answer)
    (q inc : ℕ)
    → old.server ≡ hub.server
    → IsAskedSessions (side_of hub old) e
    → hub_with (side_of hub old) e ≡ (hubs.after hub (of_hub.Up q inc)).state
    → calls.refusal old e ≡ None
    → calls.DoesStep old e answer new
    → new_hub ≡ hubs.after hub (of_hub.Up q inc)
    → IsDone (side_of hub old) (BySessions e) (OfSessions answer) (side_of new_hub new)
greeted hub new_hub old new e answer q inc same asked with free step up = record {
  free = ap (λ s. session_refusal s old.state e) (sym same) ∙ free;
  asked = asked;
  answered = ap OfSessions (step.answered ∙ ap (λ s. session_answer s old.state e) same);
  after =
      let is : new.state ≡ session_after hub.server old.state e =
      ap (λ (t : calls.Served). t.state) step.after ∙ ap (λ s. session_after s old.state e) same in
      let hub_is : new_hub.state ≡ hub_with (side_of hub old) e = ap (λ (t : Hub). t.state) up ∙ sym with in
      λ k. record { server = (up k).server; hub = hub_is k; sessions = is k };
}

-- the sessions stay those of their server
pub greeted_stays : (hub new_hub : Hub) (old new : calls.Served) (e : of_sessions.Event) (answer : of_sessions.Answer)
    (q inc : ℕ)
    → old.server ≡ hub.server
    → calls.DoesStep old e answer new
    → new_hub ≡ hubs.after hub (of_hub.Up q inc)
    → new.server ≡ new_hub.server
greeted_stays hub new_hub old new e answer q inc same step up =
    ap (λ (t : calls.Served). t.server) step.after ∙ same ∙ sym (ap (λ (t : Hub). t.server) up)

-- ---- a collect, and a drain

abbrev cut_of : of_hub.Answer → List ℕ
cut_of (of_hub.Issued job frames) = []
cut_of (of_hub.Routed job) = []
cut_of (of_hub.Heard mark) = []
cut_of (of_hub.Collected changes frames cut) = cut
cut_of (of_hub.Drained frames cut) = cut
cut_of (of_hub.IsUp snapshot) = []
cut_of of_hub.WasCut = []
cut_of (of_hub.Taken frames) = []

pub collect_done : (old new : Hub) (s t : calls.Served) (shard : ℕ) (deltas : List Delta) (changes : List Change)
    (cut given : List ℕ)
    → hubs.refusal old (of_hub.Collect shard deltas) ≡ None
    → hubs.DoesStep old (of_hub.Collect shard deltas)
    (of_hub.Collected changes (collect_frames old.server old.state deltas) cut) new
    → given ≡ cut
    → t ≡ record { server = s.server; state = without_peers given s.state }
    → IsDone (side_of old s) (ByHub (of_hub.Collect shard deltas))
    (OfHub (of_hub.Collected changes (collect_frames old.server old.state deltas) cut)) (side_of new t)
collect_done old new s t shard deltas changes cut given free step same dropped = record {
  free = free;
  asked = tt;
  answered = ap OfHub step.answered;
  after =
      let is : t.state ≡ without_peers (slow_peers old.state deltas) s.state =
      ap (λ (x : calls.Served). x.state) dropped ∙ ap (λ l. without_peers l s.state) (same ∙ ap cut_of step.answered) in
      λ k. record { server = (step.after k).server; hub = (step.after k).state; sessions = is k };
}

pub drain_done : (old new : Hub) (s t : calls.Served) (cut given : List ℕ)
    → hubs.refusal old of_hub.Drain ≡ None
    → hubs.DoesStep old of_hub.Drain (of_hub.Drained (drain_frames old.server old.state) cut) new
    → given ≡ cut
    → t ≡ record { server = s.server; state = without_peers given s.state }
    → IsDone (side_of old s) (ByHub of_hub.Drain) (OfHub (of_hub.Drained (drain_frames old.server old.state) cut))
    (side_of new t)
drain_done old new s t cut given free step same dropped = record {
  free = free;
  asked = tt;
  answered = ap OfHub step.answered;
  after =
      let is : t.state ≡ without_peers (peers_too_slow old.state) s.state =
      ap (λ (x : calls.Served). x.state) dropped ∙ ap (λ l. without_peers l s.state) (same ∙ ap cut_of step.answered) in
      λ k. record { server = (step.after k).server; hub = (step.after k).state; sessions = is k };
}

-- the sessions stay those of their server
pub collect_stays : (old new : Hub) (s t : calls.Served) (e : of_hub.Event) (answer : of_hub.Answer) (given : List ℕ)
    → s.server ≡ old.server
    → hubs.DoesStep old e answer new
    → t ≡ record { server = s.server; state = without_peers given s.state }
    → t.server ≡ new.server
collect_stays old new s t e answer given same step dropped =
    ap (λ (x : calls.Served). x.server) dropped ∙ same ∙ sym (ap (λ (x : Hub). x.server) step.after)
