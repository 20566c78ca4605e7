-- A frame that is not refused is one that the law takes, and a session that is kept is met.
use Rattle.std.proofs.Common.{◌≡◌, ◌≢◌, ℕ, suc, ◌+◌, ◌≤◌, Bool, true, false, nat_eq, nat_lt, nat_le, not, List, [], ◌∷◌, drop, length, Option, Some, None, refl, sym, ap, ◌∙◌, arith}
use Rattle.std.specs.Prelude.{slice_get, if◌then◌else◌}
use Rattle.std.specs.Option.{option_or}
use Rattle.std.specs.Str.{bytes_eq}
use Rattle.std.proofs.lemmas.Option.{none-some}
use Rattle.list_laws.proofs.Changes.{get_map}
use Rattle.list_laws.proofs.Tests.{eq_true, lt_false, le_false, no_cause, not_false, same_bytes}
use Rattle.cluster_law.specs.Config.{Config}
use Rattle.subj.specs.declared.limits.TheConstants.{MAX_COUNTER, MAX_KEYS}
use Rattle.subj.specs.Servers.{ServerIdentity, IsListed, own_name, place, is_peer}
use Rattle.interest.specs.declared.changes.Change.{Change}
use Rattle.interest.specs.declared.changes.Change.TheVariants.{Up, Gone}
use Rattle.interest.specs.declared.faults.InterestFault.TheVariants as interest
use Rattle.interest.specs.Views.{View, view_with_change, follow_fault, change_fault, snapshot_fault}
use Rattle.route_values.specs.declared.bodies.Body.{Body}
use Rattle.route_values.specs.declared.bodies.Body.TheVariants.{Plus, Minus, Snapshot, Msg}
use Rattle.route_values.specs.Frames.{Frame}
use Rattle.hub_core.specs.declared.faults.HubFault.TheVariants.{NotMe, OtherMe, NotInCluster, StaleOrigin, Late, Spent}
use Rattle.hub_core.specs.Faults.{fault_of_interest}
use Rattle.hub_core.specs.State.{State, Peer, peer_in_life, peer_of as named_peer}
use Rattle.hub_core.specs.Publishing.{busy_fault}
use Rattle.hub_core.specs.Receiving.{body_fault, origin_fault, receive_refusal, told_by}
use Rattle.hub_core.specs.Peers.{snapshot_to}
use Rattle.hub_core.specs.AsLaw.{view_of, hub_of, peer_of, frame_of, TakenAs, ReceivesInLaw, MeetsInLaw, CutsUnseen, TakesUnseen}
use Rattle.hub_core.proofs.Choices.Places.{named, not_own}
use Rattle.hub_core.proofs.Neighbours.Views.{follows}
use Rattle.hub_core.proofs.Neighbours.Known.{known_is, peer_set, peer_unseen, changed_length}
use Rattle.hub_core.proofs.Steps.Rooms.{or_none, map_none, has_room}

-- what the tests say that each frame meets
pub record FromPeer (server : ServerIdentity) (hub : State) (finished : List ℕ) (frame : Frame) : Type 0 where
  pub me_is : place server frame.to ≡ server.me
  pub inc_is : frame.to_inc ≡ server.inc
  pub is : is_peer server (place server frame.from) ≡ true
  pub other : place server frame.from ≢ server.me
  pub peer : Peer
  pub at : slice_get hub.peers (place server frame.from) ≡ Some peer
  pub fresh : peer.seen ≤ frame.inc
  pub none : body_fault server hub (peer_in_life peer frame.inc) frame.number finished frame.body ≡ None

pub from_peer : (server : ServerIdentity)
    → IsListed server
    → (hub : State) (finished : List ℕ) (frame : Frame)
    → receive_refusal server hub finished frame ≡ None
    → FromPeer server hub finished frame
from_peer server is hub finished frame e =
    let f = no_cause (not (bytes_eq frame.to (own_name server))) NotMe
    (if not (nat_eq frame.to_inc server.inc) then Some OtherMe
    else origin_fault server hub finished frame (named_peer server hub frame.from))
    e in
    let g = no_cause (not (nat_eq frame.to_inc server.inc)) OtherMe
    (origin_fault server hub finished frame (named_peer server hub frame.from)) f.1 in
    by (is_peer server (place server frame.from)) refl (slice_get hub.peers (place server frame.from)) refl
    (ap (place server) (same_bytes frame.to (own_name server) (not_false (bytes_eq frame.to (own_name server)) f.0))
    ∙ named server is server.me is.listed)
    (eq_true frame.to_inc server.inc (not_false (nat_eq frame.to_inc server.inc) g.0)) g.1
  where
    by : (b : Bool)
        → is_peer server (place server frame.from) ≡ b
        → (o : Option Peer)
        → slice_get hub.peers (place server frame.from) ≡ o
        → place server frame.to ≡ server.me
        → frame.to_inc ≡ server.inc
        → origin_fault server hub finished frame (if b then o else None) ≡ None
        → FromPeer server hub finished frame
    by false f o at k l h = absurd (none-some NotInCluster (sym h))
    by true f None at k l h = absurd (none-some NotInCluster (sym h))
    by true f (Some peer) at k l h =
        let g = no_cause (nat_lt frame.inc peer.seen) StaleOrigin
        (body_fault server hub (peer_in_life peer frame.inc) frame.number finished frame.body) h in
        record {
          me_is = k;
          inc_is = l;
          is = f;
          other = not_own server (place server frame.from) f;
          peer = peer;
          at = at;
          fresh = lt_false frame.inc peer.seen g.0;
          none = g.1;
        }

-- a change that is taken is the next one
next : (mark number : ℕ) (view : View) (change : Change)
    → change_fault mark view number change ≡ None
    → number ≡ suc mark
next mark number view change e =
    let f = no_cause (nat_le number mark) interest.Late
    (if nat_lt (mark + 1) number then Some interest.Gap else follow_fault view change) e in
    let g = no_cause (nat_lt (mark + 1) number) interest.Gap (follow_fault view change) f.1 in
    let x = le_false number mark f.0 in
    let y = lt_false (mark + 1) number g.0 in
    omega arith

taken_as : (c : Config) (server : ServerIdentity)
    → IsListed server
    → (hub : State) (finished : List ℕ) (from : List ℕ) (inc : ℕ) (to : List ℕ) (to_inc number : ℕ) (body : Body)
    → FromPeer server hub finished
    (record { from = from; inc = inc; to = to; to_inc = to_inc; number = number; body = body })
    → TakenAs c server hub finished
    (record { from = from; inc = inc; to = to; to_inc = to_inc; number = number; body = body })
    (frame_of server (record { from = from; inc = inc; to = to; to_inc = to_inc; number = number; body = body }))
taken_as c server is hub finished from inc to to_inc number (Plus weighted) f =
    let base = peer_in_life f.peer inc in
    let none = map_none fault_of_interest (change_fault base.heard.mark base.heard.keys number (Up weighted)) f.none in
    record {
      for_me = record { me = f.me_is; my_inc = f.inc_is; other = f.other };
      peer = peer_of f.peer;
      peer_is = get_map peer_of hub.peers (place server from) f.peer f.at;
      base = peer_of (peer_in_life f.peer inc);
      known = known_is f.peer inc f.fresh;
      view = view_of (view_with_change (Up weighted) (peer_in_life f.peer inc).heard.keys);
      taken = (
        next base.heard.mark number base.heard.keys (Up weighted) none,
        sym (follows (Up weighted) (peer_in_life f.peer inc).heard.keys),
      );
      after = λ i. record (hub_of hub) {
        peers =
            peer_set (place server from) (λ peer. told_by (Plus weighted) number (peer_in_life peer inc)) f.peer
            hub.peers f.at i;
      };
    }
taken_as c server is hub finished from inc to to_inc number (Minus key) f =
    let base = peer_in_life f.peer inc in
    let none = map_none fault_of_interest (change_fault base.heard.mark base.heard.keys number (Gone key)) f.none in
    record {
      for_me = record { me = f.me_is; my_inc = f.inc_is; other = f.other };
      peer = peer_of f.peer;
      peer_is = get_map peer_of hub.peers (place server from) f.peer f.at;
      base = peer_of (peer_in_life f.peer inc);
      known = known_is f.peer inc f.fresh;
      view = view_of (view_with_change (Gone key) (peer_in_life f.peer inc).heard.keys);
      taken = (
        next base.heard.mark number base.heard.keys (Gone key) none,
        sym (follows (Gone key) (peer_in_life f.peer inc).heard.keys),
      );
      after = λ i. record (hub_of hub) {
        peers =
            peer_set (place server from) (λ peer. told_by (Minus key) number (peer_in_life peer inc)) f.peer hub.peers
            f.at i;
      };
    }
taken_as c server is hub finished from inc to to_inc number (Snapshot keys) f =
    let base = peer_in_life f.peer inc in
    let none = map_none fault_of_interest (snapshot_fault base.heard.mark number keys) f.none in
    record {
      for_me = record { me = f.me_is; my_inc = f.inc_is; other = f.other };
      peer = peer_of f.peer;
      peer_is = get_map peer_of hub.peers (place server from) f.peer f.at;
      base = peer_of (peer_in_life f.peer inc);
      known = known_is f.peer inc f.fresh;
      view = view_of keys;
      taken = (
        lt_false number base.heard.mark
            (no_cause (nat_lt number base.heard.mark) interest.Late
            (if nat_lt MAX_KEYS (length keys) then Some interest.TooManyKeys else None) none).0,
        refl,
      );
      after = λ i. record (hub_of hub) {
        peers =
            peer_set (place server from) (λ peer. told_by (Snapshot keys) number (peer_in_life peer inc)) f.peer
            hub.peers f.at i;
      };
    }
taken_as c server is hub finished from inc to to_inc number (Msg content queues) f =
    let base = peer_in_life f.peer inc in
    let late = no_cause (nat_le number base.mark) Late
    (option_or (busy_fault server hub finished) (if nat_le MAX_COUNTER hub.issued then Some Spent else None))
    f.none in (
      record {
        for_me = record { me = f.me_is; my_inc = f.inc_is; other = f.other };
        peer = peer_of f.peer;
        peer_is = get_map peer_of hub.peers (place server from) f.peer f.at;
        base = peer_of (peer_in_life f.peer inc);
        known = known_is f.peer inc f.fresh;
        above = le_false number base.mark late.0;
        after = λ i. record (hub_of hub) {
          peers =
              peer_set (place server from) (λ peer. told_by (Msg content queues) number (peer_in_life peer inc)) f.peer
              hub.peers f.at i;
        };
      },
      has_room server hub finished
          (or_none (busy_fault server hub finished) (if nat_le MAX_COUNTER hub.issued then Some Spent else None)
          late.1).0,
    )

pub receives_in_law : ReceivesInLaw
receives_in_law c server hub finished frame is size cause = (
  taken_as c server is hub finished frame.from frame.inc frame.to frame.to_inc frame.number frame.body
      (from_peer server is hub finished frame cause),
  changed_length (λ peer. told_by frame.body frame.number (peer_in_life peer frame.inc)) (place server frame.from)
      (slice_get hub.peers (place server frame.from)) hub.peers ∙ size,
)

-- ---- sessions

pub meets_in_law : MeetsInLaw
meets_in_law server hub q inc peer is size other at fresh = record {
  meets = record {
    other = other;
    peer = peer_of peer;
    peer_is = get_map peer_of hub.peers q peer at;
    base = peer_of (peer_in_life peer inc);
    known = known_is peer inc fresh;
    after = λ i. record (hub_of hub) { peers = peer_set q comes_up peer hub.peers at i };
  };
  snapshot = record { origin = named server is server.me is.listed; inc = refl; says = (refl, refl) };
  peers = changed_length comes_up q (slice_get hub.peers q) hub.peers ∙ size;
} where
  comes_up : Peer → Peer
  comes_up peer = record (peer_in_life peer inc) { up = true; outbox = snapshot_to server hub q inc ∷ [] }

-- ---- what is not seen

pub cuts_unseen : CutsUnseen
cuts_unseen server hub q size = record {
  hub_is = λ i. record (hub_of hub) {
    peers = peer_unseen q (λ peer. record peer { up = false }) (λ peer. refl) hub.peers i;
  };
  peers = changed_length (λ peer. record peer { up = false }) q (slice_get hub.peers q) hub.peers ∙ size;
}

pub takes_unseen : TakesUnseen
takes_unseen server hub q count size = record {
  hub_is = λ i. record (hub_of hub) {
    peers = peer_unseen q (λ peer. record peer { outbox = drop count peer.outbox }) (λ peer. refl) hub.peers i;
  };
  peers =
      changed_length (λ peer. record peer { outbox = drop count peer.outbox }) q (slice_get hub.peers q) hub.peers
      ∙ size;
}
