-- Frames are taken from an outbox.
use Rattle.std.proofs.Common.{◌≡◌, ℕ, Bool, true, false, List, get_or, take, drop, Some, None, cond, refl, sym, ap, ◌∙◌}
use Rattle.std.specs.Prelude.{slice_set}
use Rattle.std.proofs.lemmas.Option.{slice_get-get_or}
use Rattle.subj.specs.Servers.{is_peer}
use Rattle.route_values.specs.Frames.{Frame}
use Rattle.hub_core.specs.State.{State, Peer, changed_at}
use Rattle.hub_core.specs.Events.{TakeFrom, Taken}
use Rattle.hub_core.specs.Peers.{take_refusal, outbox_of}
use Rattle.hub_core.specs.declared.faults.HubFault.TheVariants.{NotInCluster}
use Rattle.hub_core.specs.Hubs.{Hub, IsKept, DoesStep}
use Rattle.hub_core.proofs.Neighbours.Changed.{changed_is}
use Rattle.hub_core.proofs.Steps.Kept.{peer_within, kept_after}

no_cause : (b : Bool) → b ≡ true → cond b None (Some NotInCluster) ≡ None
no_cause true e = refl
no_cause false e = cc

module _ (old : Hub) (q count : ℕ) (frames : List Frame) (x new : Peer) (kept : IsKept old)
    (is : is_peer old.server q ≡ true) (at : x ≡ get_or old.state.peers q x) (first : frames ≡ take count x.outbox)
    (left : new ≡ record x { outbox = drop count x.outbox }) where
  abbrev pub later : State
  later = record old.state { peers = slice_set old.state.peers q new }

  peers_are : slice_set old.state.peers q new
      ≡ changed_at (λ (peer : Peer). record peer { outbox = drop count peer.outbox }) q old.state.peers
  peers_are =
      changed_is (λ (peer : Peer). record peer { outbox = drop count peer.outbox }) old.state.peers q x new
      (peer_within old q kept is) at left

  pub taken_kept : IsKept (record { server = old.server; state = later })
  taken_kept =
      kept_after old.server old.state (TakeFrom q count) later kept tt
      (ap (λ (peers : List Peer). record old.state { peers = peers }) peers_are) kept.published kept.changed

  pub taken_done : (take_refusal old.server q ≡ None)
      × DoesStep old (TakeFrom q count) (Taken frames) (record { server = old.server; state = later })
  taken_done = (
    no_cause (is_peer old.server q) is,
    record {
      answered =
          ap Taken (first ∙ ap (λ (peer : Peer). take count peer.outbox) at
          ∙ sym
          (ap (λ o. take count (outbox_of o)) (slice_get-get_or old.state.peers q x (peer_within old q kept is))));
      after = ap (λ (peers : List Peer). record old { state = record old.state { peers = peers } }) peers_are;
    },
  )
