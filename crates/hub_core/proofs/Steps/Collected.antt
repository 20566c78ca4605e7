-- Deltas are counted, and told; where there are none, nothing is.
use Rattle.std.proofs.Common.{◌≡◌, ℕ, suc, ◌+◌, ◌≤◌, Bool, true, false, cond, not, ◌&&◌, nat_lt, nat_le, List, [], ◌∷◌, ◌++◌, map, length, Some, None, refl, sym, ap, ◌∙◌, subst, add-zero, arith}
use Rattle.std.specs.Prelude.{slice_get, if◌then◌else◌}
use Rattle.std.proofs.lemmas.Bool.Decides.{nat_tests}
use Rattle.list_laws.proofs.Tests.{no_cause, lt_false}
use Rattle.subj.specs.declared.limits.TheConstants.{MAX_COUNTER, ROUTE_FRAMES}
use Rattle.route_values.specs.Frames.{Frame}
use Rattle.subj.specs.declared.keys.Delta.{Delta}
use Rattle.interest.specs.declared.changes.Change.{Change}
use Rattle.interest.specs.Told.{are_refused, counts_told}
use Rattle.hub_core.specs.declared.faults.HubFault.TheVariants.{BadInterest, Spent}
use Rattle.hub_core.specs.State.{State, Peer}
use Rattle.hub_core.specs.Publishing.{with_frames}
use Rattle.hub_core.specs.Telling.{is_slow, slow_from, without_slow, count_of_changes, changes_of, frames_behind, collect_refusal, collect_frames, after_collect}
use Rattle.hub_core.specs.Events.{Collect, Collected}
use Rattle.hub_core.specs.Calls.{HasRoomFor, AreCounted, after_changes}
use Rattle.hub_core.specs.Hubs.{Hub, IsKept, DoesStep}
use Rattle.hub_core.proofs.Steps.Kept.{kept_after}
use Rattle.hub_core.proofs.Neighbours.Puts.{nothing_put}
use Rattle.hub_core.proofs.Steps.Sound.{changes_fit, changes_listed}

module _ (old : Hub) (deltas : List Delta) (count : ℕ) (frames : List Frame) (kept : IsKept old)
    (plan : AreCounted old.server old.state deltas count frames) where
  pub told_have_room : HasRoomFor old.server frames (map (without_slow count) old.state.peers)
  told_have_room =
      subst (λ n. HasRoomFor old.server frames (map (without_slow n) old.state.peers)) (sym plan.count_is)
      (subst (λ (frames : List Frame).
      HasRoomFor old.server frames (map (without_slow (count_of_changes old.state deltas)) old.state.peers))
      (sym plan.frames_are) (record {
        listed =
            changes_listed old.server kept.listed (count_of_changes old.state deltas) old.state.changed
            (changes_of old.state deltas) old.state.peers kept.sound.placed;
        room = changes_fit old.server old.state (changes_of old.state deltas) kept.listed kept.sound;
      }))

  pub numbers_left : old.state.changed + count ≤ MAX_COUNTER
  numbers_left =
      let f = no_cause (are_refused old.state.counts deltas) BadInterest
      (if nat_lt MAX_COUNTER (old.state.changed + count_of_changes old.state deltas) then Some Spent else None)
      plan.taken in
      let most = lt_false MAX_COUNTER (old.state.changed + count_of_changes old.state deltas)
      (no_cause (nat_lt MAX_COUNTER (old.state.changed + count_of_changes old.state deltas)) Spent None f.1).0 in
      let same = plan.count_is in
      omega arith

  told_is : after_changes old.server old.state (counts_told old.state.counts deltas) count frames
      ≡ after_collect old.server old.state deltas
  told_is =
      ap (λ n. after_changes old.server old.state (counts_told old.state.counts deltas) n frames) plan.count_is
      ∙ ap
      (after_changes old.server old.state (counts_told old.state.counts deltas) (count_of_changes old.state deltas))
      plan.frames_are

  pub told_kept : (new : State)
      → new ≡ after_changes old.server old.state (counts_told old.state.counts deltas) count frames
      → IsKept (record { server = old.server; state = new })
  told_kept new is = kept_after old.server old.state (Collect 1 deltas) new kept tt (is ∙ told_is)
      (subst (λ n. n ≤ MAX_COUNTER) (sym (ap (λ (s : State). s.published) is)) kept.published)
      (let n = ap (λ (s : State). s.changed) is in let left = numbers_left in omega arith)

-- ---- without deltas

-- there is room for no frames
abbrev HaveRoom : List Peer → Type 0
HaveRoom peers = (q : ℕ) (peer : Peer) → slice_get peers q ≡ Some peer → length peer.outbox ≤ ROUTE_FRAMES

fits : (peer : Peer) → length peer.outbox ≤ ROUTE_FRAMES → nat_le (length peer.outbox + 0) ROUTE_FRAMES ≡ true
fits peer room = grind (arith, nat_tests)

and_true : (b : Bool) → (b && true) ≡ b
and_true true = refl
and_true false = refl

and_false : (b : Bool) → (b && false) ≡ false
and_false true = refl
and_false false = refl

stays : (peer : Peer) → length peer.outbox ≤ ROUTE_FRAMES → without_slow 0 peer ≡ peer
stays peer room = λ i. record peer { up = (ap (λ b. peer.up && b) (fits peer room) ∙ and_true peer.up) i }

all_stay : (peers : List Peer) → HaveRoom peers → map (without_slow 0) peers ≡ peers
all_stay [] room = refl
all_stay (peer ∷ peers) room =
    λ i. stays peer (room 0 peer refl) i ∷ all_stay peers (λ q other at. room (suc q) other at) i

none_slow : (q : ℕ) (peers : List Peer) → HaveRoom peers → slow_from 0 q peers ≡ []
none_slow q [] room = refl
none_slow q (peer ∷ peers) room =
    let fast : is_slow 0 peer ≡ false = ap (λ b. peer.up && not b) (fits peer (room 0 peer refl)) ∙ and_false peer.up in
    (λ i. cond (fast i) (q ∷ []) [] ++ none_slow (suc q) peers (λ n other at. room (suc n) other at) i)

-- whether it drains or not, they change nothing
nothing_changes : (hub : State) → changes_of hub [] ≡ []
nothing_changes hub = go hub.draining
  where
    go : (draining : Bool) → let changes : List Change = if draining then [] else [] in changes ≡ []
    go true = refl
    go false = refl

-- nothing is refused, changed and told
module _ (hub : Hub) (kept : IsKept hub) where
  room : HaveRoom hub.state.peers
  room q peer at = (kept.sound.peers q peer at).room

  pub nothing_refused : collect_refusal hub.state [] ≡ None
  nothing_refused =
      let most = kept.changed in
      let within : nat_lt MAX_COUNTER (hub.state.changed + 0) ≡ false = grind (arith, nat_tests, most) in
      ap
      (λ (changes : List Change). if nat_lt MAX_COUNTER (hub.state.changed + length changes) then Some Spent else None)
      (nothing_changes hub.state)
      ∙ ap (λ b. if b then Some Spent else None) within

  -- the state once the peers are told these changes
  abbrev after_telling : List Change → State
  after_telling changes = record hub.state {
    changed = hub.state.changed + length changes;
    peers =
        with_frames hub.server (frames_behind hub.server (length changes) hub.state.changed changes hub.state.peers) 0
        (map (without_slow (length changes)) hub.state.peers);
  }

  same : after_collect hub.server hub.state [] ≡ hub.state
  same = ap after_telling (nothing_changes hub.state) ∙ (λ i. record hub.state {
    changed = add-zero hub.state.changed i;
    peers = (nothing_put hub.server 0 (map (without_slow 0) hub.state.peers) ∙ all_stay hub.state.peers room) i;
  })

  pub nothing_told : (shard : ℕ)
      → DoesStep hub (Collect shard []) (Collected [] (collect_frames hub.server hub.state []) []) hub
  nothing_told shard = record {
    answered =
        ap (λ cut. Collected [] (collect_frames hub.server hub.state []) cut) (sym (none_slow 0 hub.state.peers room))
        ∙ ap (λ (changes : List Change).
        Collected changes (collect_frames hub.server hub.state []) (slow_from (length changes) 0 hub.state.peers))
        (sym (nothing_changes hub.state));
    after = λ i. record hub { state = sym same i };
  }
