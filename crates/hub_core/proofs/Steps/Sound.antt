-- A hub is sound at its start, and each step keeps it so.
use Rattle.std.proofs.Common.{◌≡◌, ℕ, zero, suc, ◌+◌, ◌<◌, ◌≤◌, Bool, true, false, true≢false, cond, not, nat_eq, nat_lt, ◌&&◌, List, [], ◌∷◌, ◌++◌, map, drop, length, replicate, Option, Some, None, Result, Ok, Err, refl, sym, ap, ◌∙◌, subst, arith, lit≤}
use Rattle.std.specs.Prelude.{filter, slice_get, All}
use Rattle.std.proofs.lemmas.List.Elements.{All-nil, All-append}
use Rattle.list_laws.proofs.Lists.{read_set, read_map, read_replicate}
use Rattle.list_laws.proofs.Changes.{filter_append}
use Rattle.list_laws.proofs.Tests.{lt_true, lt_false, le_true, and_true}
use Rattle.subj.specs.declared.limits.TheConstants.{ROUTE_FRAMES}
use Rattle.subj.specs.Messages.{Content}
use Rattle.subj.specs.Servers.{ServerIdentity, IsListed, name_of, own_name, place}
use Rattle.interest.specs.declared.changes.Change.{Change}
use Rattle.subj.specs.declared.keys.Delta.{Delta}
use Rattle.interest.specs.Heard.{nothing_heard}
use Rattle.route_values.specs.declared.bodies.Body.{Body}
use Rattle.route_values.specs.declared.bodies.Body.TheVariants.{Plus, Minus, Snapshot, Msg}
use Rattle.route_values.specs.Frames.{Frame}
use Rattle.hub_core.specs.declared.faults.HubFault.{HubFault}
use Rattle.hub_core.specs.State.{State, Peer, IsSound, IsSoundAt, peer_in_life, changed_in, changed_at, unknown_peer}
use Rattle.hub_core.specs.Choice.{is_eligible, names_for}
use Rattle.hub_core.specs.Publishing.{Publication, is_to, is_owed, names_of, choice_of, frames_from, frames_of, with_frames, after_publish}
use Rattle.hub_core.specs.Receiving.{told_by}
use Rattle.hub_core.specs.Telling.{changes_of, has_room_for, is_told, body_of, frames_of_change, frames_behind, without_slow, after_collect, clearing, after_drain}
use Rattle.hub_core.specs.Peers.{snapshot_to}
use Rattle.hub_core.specs.Events.{Event, Publish, Receive, Collect, Drain, Up, Cut, TakeFrom, Answer}
use Rattle.hub_core.specs.Steps.{IsAsked, HubStep, StaysSound, hub_after}
use Rattle.hub_core.proofs.Choices.Places.{not_own}
use Rattle.hub_core.proofs.Neighbours.Known.{changed_length, frames_length, map_length}
use Rattle.hub_core.proofs.Neighbours.Walks.{walk, at_most, all_listed, waits}

abbrev AllSound : ServerIdentity → List Peer → Type 0
AllSound server peers = (q : ℕ) (peer : Peer) → slice_get peers q ≡ Some peer → IsSoundAt server q peer

-- ---- one peer is changed

changed_sound : (server : ServerIdentity) (f : Peer → Peer) (q : ℕ) (peers : List Peer)
    → AllSound server peers
    → ((peer : Peer) → IsSoundAt server q peer → IsSoundAt server q (f peer))
    → AllSound server (changed_at f q peers)
changed_sound server f q peers sound stays = go (slice_get peers q) refl
  where
    go : (o : Option Peer) → slice_get peers q ≡ o → AllSound server (changed_in f q o peers)
    go None at = sound
    go (Some peer) at =
        read_set (IsSoundAt server) peers q (f peer) (λ n a other e. sound n a e) (stays peer (sound q peer at))

changed_hub : (server : ServerIdentity) (old : State) (f : Peer → Peer) (q : ℕ)
    → IsSound server old
    → ((peer : Peer) → IsSoundAt server q peer → IsSoundAt server q (f peer))
    → (length (changed_at f q old.peers) ≡ length server.names) × AllSound server (changed_at f q old.peers)
changed_hub server old f q sound stays = (
  changed_length f q (slice_get old.peers q) old.peers ∙ sound.placed,
  changed_sound server f q old.peers sound.peers stays,
)

known_sound : (server : ServerIdentity) (q inc : ℕ) (peer : Peer)
    → IsSoundAt server q peer
    → IsSoundAt server q (peer_in_life peer inc)
known_sound server q inc peer sound = go (nat_lt peer.seen inc)
  where
    go : (b : Bool)
        → IsSoundAt server q
        (cond b (record { seen = inc; mark = 0; heard = nothing_heard; up = false; outbox = peer.outbox }) peer)
    go true = record {
      other = λ e. absurd (true≢false (sym e));
      seen = λ e. absurd (true≢false (sym e));
      room = sound.room;
    }
    go false = sound

told_sound : (server : ServerIdentity) (q number : ℕ) (body : Body) (peer : Peer)
    → IsSoundAt server q peer
    → IsSoundAt server q (told_by body number peer)
told_sound server q number (Plus weighted) peer sound = record {
  other = sound.other;
  seen = sound.seen;
  room = sound.room;
}
told_sound server q number (Minus key) peer sound = record { other = sound.other; seen = sound.seen; room = sound.room }
told_sound server q number (Snapshot keys) peer sound = record {
  other = sound.other;
  seen = sound.seen;
  room = sound.room;
}
told_sound server q number (Msg content queues) peer sound = record {
  other = sound.other;
  seen = sound.seen;
  room = sound.room;
}

-- an incarnation from 1 on was seen
seen_now : (peer : Peer) (inc : ℕ) → 1 ≤ inc → 1 ≤ (peer_in_life peer inc).seen
seen_now peer inc some = go (nat_lt peer.seen inc) refl
  where
    go : (b : Bool)
        → nat_lt peer.seen inc ≡ b
        → 1
        ≤ (cond b (record { seen = inc; mark = 0; heard = nothing_heard; up = false; outbox = peer.outbox }) peer).seen
    go true e = some
    go false e = let least = lt_false peer.seen inc e in omega arith

fewer : {A : Type 0} (count : ℕ) (xs : List A) → length (drop count xs) ≤ length xs
fewer zero xs = omega arith
fewer (suc count) [] = omega arith
fewer (suc count) (x ∷ xs) = let less = fewer count xs in omega arith

-- ---- frames are put

long : {A : Type 0} (xs ys : List A) → length (xs ++ ys) ≡ length xs + length ys
long [] ys = omega arith
long (x ∷ xs) ys = let z = long xs ys in omega arith

put_sound : (server : ServerIdentity) (frames : List Frame) (peers : List Peer)
    → AllSound server peers
    → ((q : ℕ) (peer : Peer) → slice_get peers q ≡ Some peer
    → length peer.outbox + length (filter (is_to server q) frames) ≤ ROUTE_FRAMES)
    → AllSound server (with_frames server frames 0 peers)
put_sound server frames peers sound room q new at =
    let w = waits server frames q 0 q peers new (omega arith) at in
    let old = sound q w.peer w.at in
    let fits = room q w.peer w.at in
    subst (IsSoundAt server q) (sym w.is) (record {
      other = old.other;
      seen = old.seen;
      room = subst (λ count. count ≤ ROUTE_FRAMES) (sym (long w.peer.outbox (filter (is_to server q) frames))) fits;
    })

-- ---- a publish

module _ (server : ServerIdentity) (is : IsListed server) (number : ℕ) (content : Content)
    (choice : List ℕ → Option (List ℕ)) (all : List (List ℕ)) where
  abbrev is_sent : ℕ → Peer → Bool
  is_sent q peer = is_eligible server q peer && is_owed content.subject (names_for choice (name_of server q) all) peer

  abbrev message_to : ℕ → Peer → Frame
  message_to q peer = record {
    from = own_name server;
    inc = server.inc;
    to = name_of server q;
    to_inc = peer.seen;
    number = number;
    body = Msg content (names_for choice (name_of server q) all);
  }

  walked : (q : ℕ) (peers : List Peer)
      → frames_from server number content choice all q peers
      ≡ walk server is is_sent message_to (λ q peer. refl) q peers
  walked q [] = refl
  walked q (peer ∷ peers) = ap (λ t. cond (is_sent q peer) (message_to q peer ∷ []) [] ++ t) (walked (suc q) peers)

  sent_fits : (q : ℕ) (peer : Peer)
      → length peer.outbox ≤ ROUTE_FRAMES
      → (sent : ℕ)
      → sent ≤ cond (is_sent q peer) 1 0
      → length peer.outbox + sent ≤ ROUTE_FRAMES
  sent_fits q peer room sent most = go (is_sent q peer) refl most
    where
      go : (b : Bool) → is_sent q peer ≡ b → sent ≤ cond b 1 0 → length peer.outbox + sent ≤ ROUTE_FRAMES
      go true e le =
          let eligible = (and_true (is_eligible server q peer) _ e).0 in
          let below = lt_true (length peer.outbox) ROUTE_FRAMES
          (and_true peer.up _ (and_true (not (nat_eq q server.me)) _ eligible).1).1 in
          omega arith
      go false e le = omega arith

  pub frames_fit : (peers : List Peer)
      → length peers ≡ length server.names
      → AllSound server peers
      → (q : ℕ) (peer : Peer)
      → slice_get peers q ≡ Some peer
      → length peer.outbox + length (filter (is_to server q) (frames_from server number content choice all 0 peers))
      ≤ ROUTE_FRAMES
  frames_fit peers placed sound q peer at =
      sent_fits q peer (sound q peer at).room
      (length (filter (is_to server q) (frames_from server number content choice all 0 peers)))
      (subst (λ frames. length (filter (is_to server q) frames) ≤ cond (is_sent q peer) 1 0) (sym (walked 0 peers))
      (at_most server is is_sent message_to (λ q peer. refl) q 0 q peers peer (omega arith) at (omega arith)))

  pub frames_listed : (peers : List Peer)
      → length peers ≡ length server.names
      → All (λ (frame : Frame). place server frame.to < length server.names)
      (frames_from server number content choice all 0 peers)
  frames_listed peers placed =
      subst (λ (frames : List Frame). All (λ (frame : Frame). place server frame.to < length server.names) frames)
      (sym (walked 0 peers)) (all_listed server is is_sent message_to (λ q peer. refl) 0 peers (omega arith))

-- ---- a collect

module _ (server : ServerIdentity) (is : IsListed server) (count : ℕ) where
  abbrev told : ℕ → Peer → Bool
  told q peer = is_told count peer

  abbrev change_to : ℕ → Change → ℕ → Peer → Frame
  change_to number change q peer = record {
    from = own_name server;
    inc = server.inc;
    to = name_of server q;
    to_inc = peer.seen;
    number = number;
    body = body_of change;
  }

  walked_change : (number : ℕ) (change : Change) (q : ℕ) (peers : List Peer)
      → frames_of_change server count number change q peers
      ≡ walk server is told (change_to number change) (λ q peer. refl) q peers
  walked_change number change q [] = refl
  walked_change number change q (peer ∷ peers) =
      ap (λ t. cond (told q peer) (change_to number change q peer ∷ []) [] ++ t)
      (walked_change number change (suc q) peers)

  -- as many frames as changes, where the peer is told at all
  changes_few : (number : ℕ) (changes : List Change) (peers : List Peer)
      → length peers ≡ length server.names
      → (q : ℕ) (peer : Peer)
      → slice_get peers q ≡ Some peer
      → length (filter (is_to server q) (frames_behind server count number changes peers))
      ≤ cond (is_told count peer) (length changes) 0
  changes_few number [] peers placed q peer at = omega arith
  changes_few number (change ∷ changes) peers placed q peer at =
      let here = frames_of_change server count (number + 1) change 0 peers in
      let later = frames_behind server count (number + 1) changes peers in
      let one = subst (λ frames. length (filter (is_to server q) frames) ≤ cond (is_told count peer) 1 0)
      (sym (walked_change (number + 1) change 0 peers))
      (at_most server is told (change_to (number + 1) change) (λ q peer. refl) q 0 q peers peer (omega arith) at
      (omega arith)) in
      let others = changes_few (number + 1) changes peers placed q peer at in
      subst (λ n. n ≤ cond (is_told count peer) (suc (length changes)) 0)
      (sym (ap length (filter_append (is_to server q) here later)
      ∙ long (filter (is_to server q) here) (filter (is_to server q) later)))
      (sum (is_told count peer) (length (filter (is_to server q) here)) (length (filter (is_to server q) later)) one
      others)
    where
      sum : (b : Bool) (x y : ℕ)
          → x ≤ cond b 1 0
          → y ≤ cond b (length changes) 0
          → x + y ≤ cond b (suc (length changes)) 0
      sum true x y p r = omega arith
      sum false x y p r = omega arith

  told_fits : (peer : Peer) (sent : ℕ)
      → length peer.outbox ≤ ROUTE_FRAMES
      → sent ≤ cond (is_told count peer) count 0
      → length peer.outbox + sent ≤ ROUTE_FRAMES
  told_fits peer sent room most = go (is_told count peer) refl most
    where
      go : (b : Bool) → is_told count peer ≡ b → sent ≤ cond b count 0 → length peer.outbox + sent ≤ ROUTE_FRAMES
      go true e le =
          let fits =
          le_true (length peer.outbox + count) ROUTE_FRAMES (and_true peer.up (has_room_for count peer) e).1 in
          omega arith
      go false e le = omega arith

  slow_sound : (peers : List Peer) → AllSound server peers → AllSound server (map (without_slow count) peers)
  slow_sound peers sound q new at =
      let x = read_map (without_slow count) peers q new at in
      let old = sound q x.0 x.1 in
      subst (IsSoundAt server q) (sym x.2) (record {
        other = λ e. old.other (and_true x.0.up (has_room_for count x.0) e).0;
        seen = λ e. old.seen (and_true x.0.up (has_room_for count x.0) e).0;
        room = old.room;
      })

-- the frames that tell of the next changes, and the peers once these frames wait
module _ (server : ServerIdentity) (old : State) (changes : List Change) where
  abbrev frames : List Frame
  frames = frames_behind server (length changes) old.changed changes old.peers

  abbrev peers_told : List Peer
  peers_told = with_frames server frames 0 (map (without_slow (length changes)) old.peers)

  -- they have room
  pub changes_fit : IsListed server
      → IsSound server old
      → (q : ℕ) (new : Peer)
      → slice_get (map (without_slow (length changes)) old.peers) q ≡ Some new
      → length new.outbox + length (filter (is_to server q) frames) ≤ ROUTE_FRAMES
  changes_fit is sound q new at =
      let x = read_map (without_slow (length changes)) old.peers q new at in
      subst (λ (peer : Peer). length peer.outbox + length (filter (is_to server q) frames) ≤ ROUTE_FRAMES) (sym x.2)
      (told_fits server is (length changes) x.0 (length (filter (is_to server q) frames)) (sound.peers q x.0 x.1).room
      (changes_few server is (length changes) old.changed changes old.peers sound.placed q x.0 x.1))

  changes_sound : IsListed server
      → IsSound server old
      → (length peers_told ≡ length server.names) × AllSound server peers_told
  changes_sound is sound = (
    frames_length server frames 0 (map (without_slow (length changes)) old.peers)
        ∙ map_length (without_slow (length changes)) old.peers ∙ sound.placed,
    put_sound server frames (map (without_slow (length changes)) old.peers)
        (slow_sound server is (length changes) old.peers sound.peers) (changes_fit is sound),
  )

collect_sound : (server : ServerIdentity) (old : State) (deltas : List Delta)
    → IsListed server
    → IsSound server old
    → IsSound server (after_collect server old deltas)
collect_sound server old deltas is sound =
    let c = changes_sound server old (changes_of old deltas) is sound in record { placed = c.0; peers = c.1 }

drain_sound : (server : ServerIdentity) (old : State)
    → IsListed server
    → IsSound server old
    → IsSound server (after_drain server old)
drain_sound server old is sound =
    let c = changes_sound server old clearing is sound in record { placed = c.0; peers = c.1 }

-- and each is to a server of the cluster
pub changes_listed : (server : ServerIdentity)
    → IsListed server
    → (count number : ℕ) (changes : List Change) (peers : List Peer)
    → length peers ≡ length server.names
    → All (λ (frame : Frame). place server frame.to < length server.names)
    (frames_behind server count number changes peers)
changes_listed server is count number [] peers placed =
    All-nil (λ (frame : Frame). place server frame.to < length server.names)
changes_listed server is count number (change ∷ changes) peers placed =
    All-append (λ (frame : Frame). place server frame.to < length server.names)
    (frames_of_change server count (number + 1) change 0 peers) (frames_behind server count (number + 1) changes peers)
    (subst (λ (frames : List Frame). All (λ (frame : Frame). place server frame.to < length server.names) frames)
    (sym (walked_change server is count (number + 1) change 0 peers))
    (all_listed server is (λ q peer. is_told count peer) (change_to server is count (number + 1) change)
    (λ q peer. refl) 0 peers (omega arith)))
    (changes_listed server is count (number + 1) changes peers placed)

publish_sound : (server : ServerIdentity) (old : State) (p : Publication)
    → IsListed server
    → IsSound server old
    → IsSound server (after_publish server old p)
publish_sound server old p is sound = record {
  placed = frames_length server (frames_of server old p) 0 old.peers ∙ sound.placed;
  peers =
      put_sound server (frames_of server old p) old.peers sound.peers
      (frames_fit server is (old.published + 1) p.publication.message (choice_of server old p) (names_of server old p)
      old.peers sound.placed sound.peers);
}

-- ---- each event

pub after_sound : (server : ServerIdentity) (old : State) (event : Event)
    → IsListed server
    → IsSound server old
    → IsAsked server old event
    → IsSound server (hub_after server old event)
after_sound server old (Publish p finished) is sound asked = publish_sound server old p is sound
after_sound server old (Receive frame finished) is sound asked =
    let q = place server frame.from in
    let c = changed_hub server old (λ peer. told_by frame.body frame.number (peer_in_life peer frame.inc)) q sound
    (λ peer at.
    told_sound server q frame.number frame.body (peer_in_life peer frame.inc)
    (known_sound server q frame.inc peer at)) in
    record { placed = c.0; peers = c.1 }
after_sound server old (Collect shard deltas) is sound asked = collect_sound server old deltas is sound
after_sound server old Drain is sound asked = drain_sound server old is sound
after_sound server old (Up q inc) is sound asked =
    let c = changed_hub server old
    (λ peer. record (peer_in_life peer inc) { up = true; outbox = snapshot_to server old q inc ∷ [] }) q sound
    (λ peer at. record {
      other = λ e. not_own server q asked.other;
      seen = λ e. seen_now peer inc asked.first;
      room = lit≤ tt;
    }) in
    record { placed = c.0; peers = c.1 }
after_sound server old (Cut q) is sound asked =
    let c = changed_hub server old (λ peer. record peer { up = false }) q sound (λ peer at. record {
      other = λ e. absurd (true≢false (sym e));
      seen = λ e. absurd (true≢false (sym e));
      room = at.room;
    }) in
    record { placed = c.0; peers = c.1 }
after_sound server old (TakeFrom q count) is sound asked =
    let c = changed_hub server old (λ peer. record peer { outbox = drop count peer.outbox }) q sound
    (λ peer at. record {
      other = at.other;
      seen = at.seen;
      room = (let less = fewer count peer.outbox in let room = at.room in omega arith);
    }) in
    record { placed = c.0; peers = c.1 }

step_sound : (server : ServerIdentity) (old : State) (event : Event) (outcome : Result Answer HubFault) (new : State)
    → IsListed server → IsSound server old → HubStep server old event outcome new → IsSound server new
step_sound server old event (Ok answer) new is sound step =
    subst (IsSound server) (sym step.decided.1.1) (after_sound server old event is sound step.asked)
step_sound server old event (Err why) new is sound step = subst (IsSound server) (sym step.decided.1) sound

pub stays_sound : StaysSound
stays_sound = record {
  start = λ server. record {
    placed = placed (length server.names);
    peers = λ q peer at.
        subst (IsSoundAt server q) (sym (read_replicate (length server.names) unknown_peer peer q at))
        (record { other = λ e. absurd (true≢false (sym e)); seen = λ e. absurd (true≢false (sym e)); room = lit≤ tt });
  };
  step = step_sound;
}
  where
    placed : (n : ℕ) → length (replicate n unknown_peer) ≡ n
    placed zero = refl
    placed (suc n) = let z = placed n in omega arith
