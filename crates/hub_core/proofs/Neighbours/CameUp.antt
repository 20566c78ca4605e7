-- A peer comes up.
use Rattle.std.proofs.Common.{◌≡◌, ℕ, true, List, [], ◌∷◌, get_or, ap, ◌∙◌}
use Rattle.std.specs.Prelude.{slice_set}
use Rattle.route_values.specs.Frames.{Frame}
use Rattle.hub_core.specs.State.{State, Peer, peer_in_life, changed_at}
use Rattle.hub_core.specs.Events.{Up, IsUp}
use Rattle.hub_core.specs.Peers.{snapshot_to}
use Rattle.hub_core.specs.Steps.{IsMeeting}
use Rattle.hub_core.specs.Hubs.{Hub, IsKept, DoesStep}
use Rattle.hub_core.proofs.Neighbours.Changed.{changed_is}
use Rattle.hub_core.proofs.Steps.Kept.{peer_within, kept_after}

module _ (old : Hub) (q inc : ℕ) (snapshot : Frame) (x base new : Peer) (kept : IsKept old)
    (asked : IsMeeting old.server old.state q inc) (planned : snapshot ≡ snapshot_to old.server old.state q inc)
    (at : x ≡ get_or old.state.peers q x) (looked : base ≡ peer_in_life x inc)
    (met : new ≡ record base { up = true; outbox = snapshot ∷ [] }) where
  abbrev pub later : State
  later = record old.state { peers = slice_set old.state.peers q new }

  peers_are : slice_set old.state.peers q new
      ≡ changed_at (λ (peer : Peer). record (peer_in_life peer inc) {
        up = true;
        outbox = snapshot_to old.server old.state q inc ∷ [];
      })
      q old.state.peers
  peers_are =
      changed_is (λ (peer : Peer). record (peer_in_life peer inc) {
        up = true;
        outbox = snapshot_to old.server old.state q inc ∷ [];
      })
      old.state.peers q x new (peer_within old q kept asked.other) at
      (met ∙ ap (λ (peer : Peer). record peer { up = true; outbox = snapshot ∷ [] }) looked
      ∙ ap (λ (frame : Frame). record (peer_in_life x inc) { up = true; outbox = frame ∷ [] }) planned)

  pub met_kept : IsKept (record { server = old.server; state = later })
  met_kept =
      kept_after old.server old.state (Up q inc) later kept asked
      (ap (λ (peers : List Peer). record old.state { peers = peers }) peers_are) kept.published kept.changed

  pub met_done : DoesStep old (Up q inc) (IsUp snapshot) (record { server = old.server; state = later })
  met_done = record {
    answered = ap IsUp planned;
    after = ap (λ (peers : List Peer). record old { state = record old.state { peers = peers } }) peers_are;
  }
