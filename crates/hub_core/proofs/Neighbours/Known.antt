-- Peers as the law sees them, where one is changed.
use Rattle.std.proofs.Common.{◌≡◌, ◌≢◌, ℕ, zero, suc, ◌<◌, ◌≤◌, Bool, true, false, cond, nat_lt, List, [], ◌∷◌, map, set, length, Option, Some, None, refl, ap, ◌∙◌, inl, inr, arith}
use Rattle.std.specs.Prelude.{slice_get}
use Rattle.list_laws.proofs.Changes.{map_set, map_set_same}
use Rattle.list_laws.proofs.Tests.{lt_true, lt_false}
use Rattle.cluster_law.specs.Config.{every_rule}
use Rattle.cluster_law.specs.Hub.{Known}
use Rattle.route_values.specs.Frames.{Frame}
use Rattle.subj.specs.Servers.{ServerIdentity}
use Rattle.interest.specs.Heard.{nothing_heard}
use Rattle.hub_core.specs.State.{Peer, peer_in_life, changed_in, changed_at}
use Rattle.hub_core.specs.Publishing.{with_frames}
use Rattle.hub_core.specs.AsLaw.{peer_of}

pub known_is : (peer : Peer) (inc : ℕ)
    → peer.seen ≤ inc
    → Known every_rule (peer_of peer) inc (peer_of (peer_in_life peer inc))
known_is peer inc le = go (nat_lt peer.seen inc) refl
  where
    go : (b : Bool)
        → nat_lt peer.seen inc ≡ b
        → Known every_rule (peer_of peer) inc
        (peer_of
        (cond b (record { seen = inc; mark = 0; heard = nothing_heard; up = false; outbox = peer.outbox }) peer))
    go true e = inl (λ same. apart (lt_true peer.seen inc e) same, lt_true peer.seen inc e, refl)
      where
        apart : peer.seen < inc → inc ≢ peer.seen
        apart below same = omega arith
    go false e = inr (same (lt_false peer.seen inc e), refl)
      where
        same : inc ≤ peer.seen → inc ≡ peer.seen
        same most = omega arith

pub set_length : {A : Type 0} (xs : List A) (n : ℕ) (b : A) → length (set xs n b) ≡ length xs
set_length [] n b = refl
set_length (x ∷ xs) zero b = omega arith
set_length (x ∷ xs) (suc n) b = let z = set_length xs n b in omega arith

pub map_length : {A B : Type 0} (f : A → B) (xs : List A) → length (map f xs) ≡ length xs
map_length f [] = refl
map_length f (x ∷ xs) = let z = map_length f xs in omega arith

-- one peer is changed
pub peer_set : (q : ℕ) (f : Peer → Peer) (peer : Peer) (peers : List Peer)
    → slice_get peers q ≡ Some peer
    → map peer_of (changed_at f q peers) ≡ set (map peer_of peers) q (peer_of (f peer))
peer_set q f peer peers at = ap (λ o. map peer_of (changed_in f q o peers)) at ∙ map_set peer_of peers q (f peer)

pub changed_length : (f : Peer → Peer) (q : ℕ) (o : Option Peer) (peers : List Peer)
    → length (changed_in f q o peers) ≡ length peers
changed_length f q None peers = refl
changed_length f q (Some peer) peers = set_length peers q (f peer)

-- a change that isn't seen
pub peer_unseen : (q : ℕ) (f : Peer → Peer)
    → ((x : Peer) → peer_of (f x) ≡ peer_of x)
    → (peers : List Peer)
    → map peer_of (changed_at f q peers) ≡ map peer_of peers
peer_unseen q f same peers = go (slice_get peers q) refl
  where
    go : (o : Option Peer) → slice_get peers q ≡ o → map peer_of (changed_in f q o peers) ≡ map peer_of peers
    go None at = refl
    go (Some peer) at = map_set_same peer_of peers q peer (f peer) at (same peer)

-- outboxes are not seen
pub frames_unseen : (server : ServerIdentity) (frames : List Frame) (q : ℕ) (peers : List Peer)
    → map peer_of (with_frames server frames q peers) ≡ map peer_of peers
frames_unseen server frames q [] = refl
frames_unseen server frames q (peer ∷ peers) = ap (λ t. peer_of peer ∷ t) (frames_unseen server frames (suc q) peers)

pub frames_length : (server : ServerIdentity) (frames : List Frame) (q : ℕ) (peers : List Peer)
    → length (with_frames server frames q peers) ≡ length peers
frames_length server frames q [] = refl
frames_length server frames q (peer ∷ peers) = let z = frames_length server frames (suc q) peers in omega arith
