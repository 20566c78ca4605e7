-- The peers are told that the server drains.
use Rattle.std.proofs.Common.{◌≡◌, ℕ, ◌+◌, ◌≤◌, true, nat_le, List, map, None, Some, sym, ap, ◌∙◌, subst, arith}
use Rattle.std.specs.Prelude.{if◌then◌else◌}
use Rattle.list_laws.proofs.Tests.{no_cause, le_false}
use Rattle.subj.specs.declared.limits.TheConstants.{MAX_COUNTER}
use Rattle.route_values.specs.Frames.{Frame}
use Rattle.hub_core.specs.declared.faults.HubFault.TheVariants.{Draining, Spent}
use Rattle.hub_core.specs.State.{State}
use Rattle.hub_core.specs.Publishing.{with_frames}
use Rattle.hub_core.specs.Telling.{without_slow, clearing, drain_refusal}
use Rattle.hub_core.specs.Events.{Drain}
use Rattle.hub_core.specs.Calls.{HasRoomFor, IsDrainOf}
use Rattle.hub_core.specs.Hubs.{Hub, IsKept}
use Rattle.hub_core.proofs.Steps.Kept.{kept_after}
use Rattle.hub_core.proofs.Steps.Sound.{changes_fit, changes_listed}

number_left : (hub : State) → drain_refusal hub ≡ None → hub.changed + 1 ≤ MAX_COUNTER
number_left hub taken =
    let counted =
    (no_cause hub.draining Draining (if nat_le MAX_COUNTER hub.changed then Some Spent else None) taken).1 in
    let below = le_false MAX_COUNTER hub.changed (no_cause (nat_le MAX_COUNTER hub.changed) Spent None counted).0 in
    omega arith

module _ (old : Hub) (frames : List Frame) (cut : List ℕ) (kept : IsKept old) (taken : drain_refusal old.state ≡ None)
    (plan : IsDrainOf old frames cut) where
  pub clearing_has_room : HasRoomFor old.server frames (map (without_slow 1) old.state.peers)
  clearing_has_room =
      subst (λ (frames : List Frame). HasRoomFor old.server frames (map (without_slow 1) old.state.peers))
      (sym plan.frames_are) (record {
        listed = changes_listed old.server kept.listed 1 old.state.changed clearing old.state.peers kept.sound.placed;
        room = changes_fit old.server old.state clearing kept.listed kept.sound;
      })

  -- the change is counted, and these frames wait
  abbrev pub cleared : State
  cleared = record old.state {
    changed = old.state.changed + 1;
    draining = true;
    peers = with_frames old.server frames 0 (map (without_slow 1) old.state.peers);
  }

  pub cleared_kept : (new : State) → new ≡ cleared → IsKept (record { server = old.server; state = new })
  cleared_kept new is =
      kept_after old.server old.state Drain new kept tt
      (is
      ∙ ap (λ (frames : List Frame). record old.state {
        changed = old.state.changed + 1;
        draining = true;
        peers = with_frames old.server frames 0 (map (without_slow 1) old.state.peers);
      })
      plan.frames_are)
      (subst (λ n. n ≤ MAX_COUNTER) (sym (ap (λ (s : State). s.published) is)) kept.published)
      (let n = ap (λ (s : State). s.changed) is in let left = number_left old.state taken in omega arith)
