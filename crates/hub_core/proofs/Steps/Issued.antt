-- A publication is issued.
use Rattle.std.proofs.Common.{◌≡◌, ℕ, ◌+◌, ◌<◌, ◌≤◌, Bool, true, false, cond, nat_lt, nat_le, ◌||◌, List, length, take, drop, ◌++◌, Option, Some, None, sym, ap, ◌∙◌, subst, arith, append-nil}
use Rattle.std.specs.Prelude.{if◌then◌else◌}
use Rattle.std.proofs.lemmas.List.{drop_all, take_all}
use Rattle.list_laws.proofs.Tests.{no_cause, or_false, le_false}
use Rattle.subj.specs.declared.limits.TheConstants.{MAX_COUNTER, MAX_QUEUE_NAMES}
use Rattle.subj.specs.Numbers.{next_turn}
use Rattle.std.proofs.lemmas.Option.{same_Some}
use Rattle.route_values.specs.Frames.{Frame}
use Rattle.hub_core.specs.declared.faults.HubFault.TheVariants.{Spent, TooManyQueues}
use Rattle.hub_core.specs.State.{State, Peer}
use Rattle.hub_core.specs.Publishing.{publish_fault, busy_fault, names_of, choice_of, with_frames}
use Rattle.hub_core.specs.Events.{Publish}
use Rattle.hub_core.specs.Calls.{HasRoomFor, IsPlanned, after_frames}
use Rattle.hub_core.specs.Hubs.{Hub, IsKept}
use Rattle.hub_core.proofs.Steps.Kept.{kept_after}
use Rattle.hub_core.proofs.Neighbours.Known.{frames_length}
use Rattle.hub_core.proofs.Steps.Rooms.{or_none}
use Rattle.hub_core.proofs.Steps.Sound.{frames_fit, frames_listed}

-- a list that was written as a part of its own list
pub rewritten : {A : Type 0} (len : ℕ) (new old : List A)
    → length new ≡ length old
    → len ≡ length old
    → take len (new ++ drop (length new) old) ≡ new
rewritten len new old same whole =
    ap (λ l. take len (new ++ l)) (drop_all (length new) old (omega arith))
    ∙ ap (take len) (append-nil new)
    ∙ take_all len new (omega arith)

pub next_turn_is : (b : Bool) (x y : ℕ) → cond b None (Some x) ≡ Some y → x ≡ y
next_turn_is true x y e = cc
next_turn_is false x y e = same_Some x y e

module _ (old : Hub) (frames : List Frame) (kept : IsKept old) (plan : IsPlanned old.server old.state frames) where
  pub frames_have_room : HasRoomFor old.server frames old.state.peers
  frames_have_room =
      subst (λ (frames : List Frame). HasRoomFor old.server frames old.state.peers) (sym plan.frames_are) (record {
        listed =
            frames_listed old.server kept.listed (old.state.published + 1) plan.publication.publication.message
            (choice_of old.server old.state plan.publication) (names_of old.server old.state plan.publication)
            old.state.peers kept.sound.placed;
        room =
            frames_fit old.server kept.listed (old.state.published + 1) plan.publication.publication.message
            (choice_of old.server old.state plan.publication) (names_of old.server old.state plan.publication)
            old.state.peers kept.sound.placed kept.sound.peers;
      })

  counters : (old.state.published < MAX_COUNTER) × (old.state.issued < MAX_COUNTER)
  counters =
      let f =
      (or_none (busy_fault old.server old.state plan.finished) (publish_fault old.server old.state plan.publication)
      plan.taken).1 in
      let g = or_false (nat_le MAX_COUNTER old.state.published) (nat_le MAX_COUNTER old.state.issued)
      (no_cause (nat_le MAX_COUNTER old.state.published || nat_le MAX_COUNTER old.state.issued) Spent
      (if nat_lt MAX_QUEUE_NAMES (length (names_of old.server old.state plan.publication)) then Some TooManyQueues
      else None)
      f).0 in
      (le_false MAX_COUNTER old.state.published g.0, le_false MAX_COUNTER old.state.issued g.1)

  pub number_left : old.state.published < MAX_COUNTER
  number_left = counters.0

  pub issued_kept : (new : State)
      → new ≡ after_frames old.server old.state frames
      → IsKept (record { server = old.server; state = new })
  issued_kept new is = kept_after old.server old.state (Publish plan.publication plan.finished) new kept tt
      (is ∙ ap (after_frames old.server old.state) plan.frames_are)
      (let n = ap (λ (s : State). s.published) is in let left = counters.0 in omega arith)
      (subst (λ n. n ≤ MAX_COUNTER) (sym (ap (λ (s : State). s.changed) is)) kept.changed)

  pub issued_is : (issued len : ℕ) (next : Option ℕ) (peers : List Peer)
      → next ≡ next_turn old.state.issued
      → next ≡ Some issued
      → len ≡ length old.state.peers
      → peers ≡ with_frames old.server frames 0 old.state.peers
      → record old.state {
        issued = issued;
        published = old.state.published + 1;
        peers = take len (peers ++ drop (length peers) old.state.peers);
      } ≡ after_frames old.server old.state frames
  issued_is issued len next peers next_is is whole peers_are =
      let same : length peers ≡ length old.state.peers =
      ap length peers_are ∙ frames_length old.server frames 0 old.state.peers in
      let turn : old.state.issued + 1 ≡ issued =
      next_turn_is (nat_lt MAX_COUNTER (old.state.issued + 1)) (old.state.issued + 1) issued (sym next_is ∙ is) in
      (λ i. record old.state {
        issued = sym turn i;
        published = old.state.published + 1;
        peers = (rewritten len peers old.state.peers same whole ∙ peers_are) i;
      })
