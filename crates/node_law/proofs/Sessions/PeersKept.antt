-- Of every run: a peer is up just where a session with it is kept.
use Rattle.std.proofs.Common.{◌≡◌, ℕ, zero, suc, ◌+◌, ◌≤◌, Bool, true, false, true≢false, cond, not, nat_eq, nat_lt, ◌&&◌, List, [], ◌∷◌, ◌++◌, map, drop, length, Option, Some, None, refl, sym, ap, ◌∙◌, subst, inl, inr, ⊎_elim, arith}
use Rattle.std.specs.Prelude.{slice_get, is_some, if◌then◌else◌}
use Rattle.std.specs.Str.{bytes_eq}
use Rattle.std.proofs.lemmas.Option.{none-some, same_Some}
use Rattle.list_laws.specs.Lists.{In}
use Rattle.list_laws.proofs.Lists.{get_some, read_map, read_replicate, in_append, in_left, in_right, pairs_weaker}
use Rattle.list_laws.proofs.Tests.{lt_false, no_cause, not_true, and_true}
use Rattle.list_laws.proofs.Changes.{get_map}
use Rattle.subj.specs.Servers.{ServerIdentity, IsListed, own_name, place, is_peer}
use Rattle.claim_race.specs.Race.{RaceState}
use Rattle.subj.specs.declared.keys.Delta.{Delta}
use Rattle.route_values.specs.Frames.{Frame}
use Rattle.route_values.specs.Records.{Info, Connect}
use Rattle.route_values.specs.declared.bodies.Body.{Body}
use Rattle.route_values.specs.declared.bodies.Body.TheVariants.{Plus, Minus, Snapshot, Msg}
use Rattle.hub_core.specs.State as hub
use Rattle.hub_core.specs.State.{Peer, unknown_peer, peer_of, seen_of, peer_in_life, changed_in}
use Rattle.hub_core.specs.Publishing.{frames_of, with_frames}
use Rattle.hub_core.specs.Receiving.{body_fault, origin_fault, receive_refusal, told_by}
use Rattle.hub_core.specs.Telling.{count_of_changes, has_room_for, is_slow, slow_from, collect_frames, without_slow, drain_frames, peers_too_slow}
use Rattle.hub_core.specs.Peers.{snapshot_to, up}
use Rattle.hub_core.specs.declared.faults.HubFault.TheVariants.{NotMe, OtherMe, NotInCluster, StaleOrigin}
use Rattle.hub_core.proofs.Steps.Rooms.{map_none}
use Rattle.route_session.specs.State as sessions
use Rattle.route_session.specs.State.{Session, session_at}
use Rattle.route_session.specs.Steps.{info_offer, connect_offer, info_fault, info_refusal, connect_fault, connect_refusal, cut_refusal, is_not_of_peer, without_peer, without_peers, after_info}
use Rattle.route_session.specs.declared.faults.SessionFault.TheVariants.{UnknownSession}
use Rattle.node_law.specs.declared.faults.NodeFault.TheVariants.{Hub, Session as OfSession}
use Rattle.node_law.specs.State.{Node, new_node, finished_turns}
use Rattle.node_law.specs.Events.{OfConn, AtShard, Publish, Collect, Drain, Dial, Accept, CutSession, TakeFrames, NodeEvent, Own, Receive, OnInfo, OnConnect}
use Rattle.node_law.specs.Steps.{shard_line, deltas_at, seen_name, sessions_after_frame, node_refusal, node_after}
use Rattle.node_law.specs.Runs.{Done, Ran}
use Rattle.node_law.specs.Sound.{SoundNode}
use Rattle.node_law.specs.PeersKept.{IsUpAt, KeptAt, IsGreatest, seen_in, seen_of_run, KeepsPeers}
use Rattle.node_law.proofs.Moves.HubEvents.{Greets, info_greets, connect_greets}
use Rattle.node_law.proofs.Sessions.Kept.{Differ, Apart, Kept, SameUps, Stays, drop_back, drop_on, filter_apart, session_in, added, same_all, at_same, frame_kept, complete_kept, cut_kept}
use Rattle.node_law.proofs.Runs.Sound.{run_sound}

-- ---- frames are put

frames_same : (server : ServerIdentity) (frames : List Frame) (k : ℕ) (peers : List Peer)
    → SameUps peers (with_frames server frames k peers)
frames_same server frames k peers = record { back = back k peers; on = on k peers }
  where
    back : (k : ℕ) (ps : List Peer) (q : ℕ) (p : Peer)
        → slice_get (with_frames server frames k ps) q ≡ Some p
        → Stays ps q p
    back k [] q p e = absurd (none-some p e)
    back k (o ∷ ps) zero p e =
        let s = same_Some _ p e in
        record { peer = o; at = refl; up = ap (λ (x : Peer). x.up) s; seen = ap (λ (x : Peer). x.seen) s }
    back k (o ∷ ps) (suc q) p e =
        let h = back (suc k) ps q p e in record { peer = h.peer; at = h.at; up = h.up; seen = h.seen }

    on : (k : ℕ) (ps : List Peer) (q : ℕ) (o : Peer)
        → slice_get ps q ≡ Some o
        → Stays (with_frames server frames k ps) q o
    on k [] q o e = absurd (none-some o e)
    on k (x ∷ ps) zero o e =
        let s = same_Some x o e in
        record { peer = _; at = refl; up = ap (λ (y : Peer). y.up) s; seen = ap (λ (y : Peer). y.seen) s }
    on k (x ∷ ps) (suc q) o e =
        let h = on (suc k) ps q o e in record { peer = h.peer; at = h.at; up = h.up; seen = h.seen }

-- ---- a collect cuts those without room

without_all : (qs : List ℕ) (s : sessions.State) → Apart s → Apart (without_peers qs s)
without_all [] s a = a
without_all (q ∷ qs) s a = without_all qs (without_peer q s) (filter_apart (is_not_of_peer q) s a)

all_back : (qs : List ℕ) (s : sessions.State) (r inc : ℕ)
    → KeptAt (without_peers qs s).standing r inc
    → KeptAt s.standing r inc × (In r qs → ⊥)
all_back [] s r inc h = (h, λ i. i)
all_back (q ∷ qs) s r inc h =
    let b = all_back qs (without_peer q s) r inc h in
    let d = drop_back s.standing q r inc b.0 in
    (d.0, λ i. ⊎_elim (λ (e : r ≡ q). d.1 e) (λ (j : In r qs). b.1 j) i)

all_on : (qs : List ℕ) (s : sessions.State) (r inc : ℕ)
    → (In r qs → ⊥)
    → KeptAt s.standing r inc
    → KeptAt (without_peers qs s).standing r inc
all_on [] s r inc out h = h
all_on (q ∷ qs) s r inc out h =
    all_on qs (without_peer q s) r inc (λ i. out (inr i)) (drop_on s.standing q r inc (λ e. out (inl e)) h)

one_on : (m n : ℕ) → suc m + n ≡ m + suc n
one_on m n = omega arith

slow_in : (count k : ℕ) (peers : List Peer) (i : ℕ) (p : Peer)
    → slice_get peers i ≡ Some p
    → is_slow count p ≡ true
    → In (k + i) (slow_from count k peers)
slow_in count k [] i p e b = absurd (none-some p e)
slow_in count k (x ∷ peers) zero p e b =
    let s = same_Some x p e in
    in_left (k + 0) (cond (is_slow count x) (k ∷ []) []) (slow_from count (suc k) peers)
    (subst (λ t. In (k + 0) (cond t (k ∷ []) [])) (sym (ap (is_slow count) s ∙ b)) (inl (zero_right k)))
  where
    zero_right : (m : ℕ) → m + 0 ≡ m
    zero_right m = omega arith
slow_in count k (x ∷ peers) (suc i) p e b =
    in_right (k + suc i) (cond (is_slow count x) (k ∷ []) []) (slow_from count (suc k) peers)
    (subst (λ m. In m (slow_from count (suc k) peers)) (one_on k i) (slow_in count (suc k) peers i p e b))

record IsSlow (count k : ℕ) (peers : List Peer) (r : ℕ) : Type 0 where
  place : ℕ
  peer : Peer
  is : r ≡ k + place
  at : slice_get peers place ≡ Some peer
  slow : is_slow count peer ≡ true

in_slow : (count k : ℕ) (peers : List Peer) (r : ℕ) → In r (slow_from count k peers) → IsSlow count k peers r
in_slow count k [] r i = absurd i
in_slow count k (x ∷ peers) r i =
    ⊎_elim (λ (j : In r (cond (is_slow count x) (k ∷ []) [])). go (is_slow count x) refl j)
    (λ (j : In r (slow_from count (suc k) peers)).
    let h = in_slow count (suc k) peers r j in
    record { place = suc h.place; peer = h.peer; is = h.is ∙ one_on k h.place; at = h.at; slow = h.slow })
    (in_append r (cond (is_slow count x) (k ∷ []) []) (slow_from count (suc k) peers) i)
  where
    zero_right : (m : ℕ) → m ≡ m + 0
    zero_right m = omega arith

    go : (b : Bool) → is_slow count x ≡ b → In r (cond b (k ∷ []) []) → IsSlow count k (x ∷ peers) r
    go true e j =
        ⊎_elim (λ (f : r ≡ k). record { place = 0; peer = x; is = f ∙ zero_right k; at = refl; slow = e })
        (λ (z : ⊥). absurd z) j
    go false e j = absurd j

slow_kept : (count : ℕ) (peers : List Peer) (s : sessions.State) (seen : List (ℕ × ℕ))
    → Kept peers s seen
    → Kept (map (without_slow count) peers) (without_peers (slow_from count 0 peers) s) seen
slow_kept count peers s seen k = record {
  ups = record {
    has = λ q p at up.
        let m = read_map (without_slow count) peers q p at in
        let b = and_true m.0.up (has_room_for count m.0) (sym (ap (λ (x : Peer). x.up) m.2) ∙ up) in
        all_on (slow_from count 0 peers) s q p.seen
        (λ i.
        let h = in_slow count 0 peers q i in
        let same = same_Some m.0 h.peer (sym m.1 ∙ ap (slice_get peers) (h.is ∙ zero_left h.place) ∙ h.at) in
        true≢false (sym b.1 ∙ ap (has_room_for count) same
        ∙ not_true (has_room_for count h.peer) (and_true h.peer.up (not (has_room_for count h.peer)) h.slow).1))
        (subst (KeptAt s.standing q) (sym (ap (λ (x : Peer). x.seen) m.2)) (k.ups.has q m.0 m.1 b.0));
    is = λ q inc h.
        let b = all_back (slow_from count 0 peers) s q inc h in
        let u = k.ups.is q inc b.0 in
        record {
          peer = without_slow count u.peer;
          at = get_map (without_slow count) peers q u.peer u.at;
          up = go q u.peer u.at u.up b.1 (has_room_for count u.peer) refl;
          seen = u.seen;
        };
  };
  apart = without_all (slow_from count 0 peers) s k.apart;
  greatest = λ q p at.
      let m = read_map (without_slow count) peers q p at in
      subst (λ n. IsGreatest q n seen) (sym (ap (λ (x : Peer). x.seen) m.2)) (k.greatest q m.0 m.1);
}
  where
    zero_left : (m : ℕ) → 0 + m ≡ m
    zero_left m = omega arith

    go : (q : ℕ) (p : Peer)
        → slice_get peers q ≡ Some p
        → p.up ≡ true
        → (In q (slow_from count 0 peers) → ⊥)
        → (b : Bool)
        → has_room_for count p ≡ b
        → (p.up && has_room_for count p) ≡ true
    go q p at up out true e = λ i. up i && e i
    go q p at up out false e =
        absurd (out (subst (λ m. In m (slow_from count 0 peers)) (zero_left q)
        (slow_in count 0 peers q p at (λ i. up i && not (e i)))))

-- ---- frames, INFOs and CONNECTs that are not refused

-- the place is of a peer, at no incarnation below the one seen
record Fresh (server : ServerIdentity) (hub : hub.State) (name : List ℕ) (inc : ℕ) : Type 0 where
  peer : Peer
  at : slice_get hub.peers (place server name) ≡ Some peer
  seen : seen_of (peer_of server hub name) ≡ peer.seen
  fresh : peer.seen ≤ inc

frame_fresh : (server : ServerIdentity) (hub : hub.State) (finished : List ℕ) (frame : Frame)
    → receive_refusal server hub finished frame ≡ None
    → Fresh server hub frame.from frame.inc
frame_fresh server hub finished frame e =
    let a = no_cause (not (bytes_eq frame.to (own_name server))) NotMe
    (if not (nat_eq frame.to_inc server.inc) then Some OtherMe
    else origin_fault server hub finished frame (peer_of server hub frame.from))
    e in
    let b = no_cause (not (nat_eq frame.to_inc server.inc)) OtherMe
    (origin_fault server hub finished frame (peer_of server hub frame.from)) a.1 in
    go (is_peer server (place server frame.from)) refl b.1
  where
    by : (o : Option Peer)
        → slice_get hub.peers (place server frame.from) ≡ o
        → seen_of (peer_of server hub frame.from) ≡ seen_of o
        → origin_fault server hub finished frame o ≡ None
        → Fresh server hub frame.from frame.inc
    by None at same f = absurd (none-some NotInCluster (sym f))
    by (Some p) at same f = record {
      peer = p;
      at = at;
      seen = same;
      fresh =
          lt_false frame.inc p.seen
          (no_cause (nat_lt frame.inc p.seen) StaleOrigin
          (body_fault server hub (peer_in_life p frame.inc) frame.number finished frame.body) f).0;
    }

    go : (b : Bool)
        → is_peer server (place server frame.from) ≡ b
        → origin_fault server hub finished frame (cond b (slice_get hub.peers (place server frame.from)) None) ≡ None
        → Fresh server hub frame.from frame.inc
    go true is f =
        by (slice_get hub.peers (place server frame.from)) refl
        (ap (λ b. seen_of (cond b (slice_get hub.peers (place server frame.from)) None)) is) f
    go false is f = absurd (none-some NotInCluster (sym f))

greeting_fresh : (server : ServerIdentity) (a : Node) (name : List ℕ) (inc : ℕ)
    → SoundNode server a
    → Greets server name inc (seen_name server a name)
    → Fresh server a.hub name inc
greeting_fresh server a name inc sound greets =
    let p = get_some a.hub.peers (place server name) (let x = sound.peers in let y = greets.listed in omega arith) in
    let same : seen_name server a name ≡ p.0.seen =
    ap (λ b. seen_of (cond b (slice_get a.hub.peers (place server name)) None)) greets.peer ∙ ap seen_of p.1 in
    record { peer = p.0; at = p.1; seen = same; fresh = subst (λ n. n ≤ inc) same greets.fresh }

-- the session was not completed before
record Completes (o : Option Session) : Type 0 where
  session : Session
  is : o ≡ Some session
  new : is_some session.kept ≡ false

info_completes : (server : ServerIdentity) (s : sessions.State) (o : Option Session) (info : Info) (least : ℕ)
    → info_refusal server s o info least ≡ None
    → Completes o
info_completes server s None info least e = absurd (none-some UnknownSession (sym e))
info_completes server s (Some x) info least e = record {
  session = x;
  is = refl;
  new = (no_cause (is_some x.kept) UnknownSession (info_fault server s x info least x.dialed) e).0;
}

connect_completes : (server : ServerIdentity) (s : sessions.State) (o : Option Session) (connect : Connect) (least : ℕ)
    → connect_refusal server s o connect least ≡ None
    → Completes o
connect_completes server s None connect least e = absurd (none-some UnknownSession (sym e))
connect_completes server s (Some x) connect least e = record {
  session = x;
  is = refl;
  new = (no_cause (is_some x.kept) UnknownSession (connect_fault server s connect least x.dialed) e).0;
}

told_up : (body : Body) (number : ℕ) (x : Peer) → (told_by body number x).up ≡ x.up
told_up (Plus weighted) number x = refl
told_up (Minus key) number x = refl
told_up (Snapshot keys) number x = refl
told_up (Msg content queues) number x = refl

told_seen : (body : Body) (number : ℕ) (x : Peer) → (told_by body number x).seen ≡ x.seen
told_seen (Plus weighted) number x = refl
told_seen (Minus key) number x = refl
told_seen (Snapshot keys) number x = refl
told_seen (Msg content queues) number x = refl

-- ---- each event

abbrev KeptBy : Node → List (ℕ × ℕ) → Type 0
KeptBy a seen = Kept a.hub.peers a.sessions seen

step_kept : (server : ServerIdentity) (a : Node) (e : NodeEvent) (won : Bool) (race : RaceState) (seen : List (ℕ × ℕ))
    → SoundNode server a
    → node_refusal server a e ≡ None
    → KeptBy a seen
    → KeptBy (node_after server a e won race) (seen_in server e ++ seen)
step_kept server a (Own (OfConn conn event)) won race seen sound cause k = k
step_kept server a (Own (AtShard shard work)) won race seen sound cause k = k
step_kept server a (Own (Publish p)) won race seen sound cause k =
    same_all a.hub.peers _ a.sessions seen (frames_same server (frames_of server a.hub p) 0 a.hub.peers) k
step_kept server a (Own (Collect shard)) won race seen sound cause k = go (deltas_at (shard_line a shard))
  where
    go : (deltas : List Delta)
        → Kept
        (with_frames server (collect_frames server a.hub deltas) 0
        (map (without_slow (count_of_changes a.hub deltas)) a.hub.peers))
        (without_peers (slow_from (count_of_changes a.hub deltas) 0 a.hub.peers) a.sessions) seen
    go deltas =
        same_all (map (without_slow (count_of_changes a.hub deltas)) a.hub.peers) _
        (without_peers (slow_from (count_of_changes a.hub deltas) 0 a.hub.peers) a.sessions) seen
        (frames_same server (collect_frames server a.hub deltas) 0
        (map (without_slow (count_of_changes a.hub deltas)) a.hub.peers))
        (slow_kept (count_of_changes a.hub deltas) a.hub.peers a.sessions seen k)
step_kept server a (Own Drain) won race seen sound cause k =
    same_all (map (without_slow 1) a.hub.peers) _ (without_peers (peers_too_slow a.hub) a.sessions) seen
    (frames_same server (drain_frames server a.hub) 0 (map (without_slow 1) a.hub.peers))
    (slow_kept 1 a.hub.peers a.sessions seen k)
step_kept server a (Own (Dial q)) won race seen sound cause k =
    added a.hub.peers a.sessions (a.sessions.dials + 1) seen
    (record { number = a.sessions.numbers + 1; dialed = Some q; serial = a.sessions.dials + 1; kept = None }) refl refl
    k
step_kept server a (Own Accept) won race seen sound cause k =
    added a.hub.peers a.sessions a.sessions.dials seen
    (record { number = a.sessions.numbers + 1; dialed = None; serial = 0; kept = None }) refl refl k
step_kept server a (Own (CutSession session)) won race seen sound cause k =
    cut_kept a.hub a.sessions seen session
    (map_none OfSession (cut_refusal (session_at session a.sessions.standing)) cause) k
step_kept server a (Own (TakeFrames q count)) won race seen sound cause k =
    same_all a.hub.peers _ a.sessions seen
    (at_same a.hub.peers q (λ peer. record peer { outbox = drop count peer.outbox }) (λ p. refl) (λ p. refl)) k
step_kept server a (Receive frame) won race seen sound cause k =
    let f = frame_fresh server a.hub (finished_turns a.lines) frame
    (map_none Hub (receive_refusal server a.hub (finished_turns a.lines) frame) cause) in
    by f (frame_kept a.hub.peers a.sessions seen (place server frame.from) frame.inc (told_by frame.body frame.number)
    f.peer (told_up frame.body frame.number) (told_seen frame.body frame.number) f.at f.fresh k)
  where
    told : Peer → Peer
    told peer = told_by frame.body frame.number (peer_in_life peer frame.inc)

    by : (f : Fresh server a.hub frame.from frame.inc)
        → Kept (changed_in told (place server frame.from) (Some f.peer) a.hub.peers)
        (cond (nat_lt f.peer.seen frame.inc) (without_peer (place server frame.from) a.sessions) a.sessions)
        ((place server frame.from, frame.inc) ∷ seen)
        → Kept (changed_in told (place server frame.from) (slice_get a.hub.peers (place server frame.from)) a.hub.peers)
        (sessions_after_frame server a frame) ((place server frame.from, frame.inc) ∷ seen)
    by f h =
        subst (λ o.
        Kept (changed_in told (place server frame.from) o a.hub.peers) (sessions_after_frame server a frame)
        ((place server frame.from, frame.inc) ∷ seen))
        (sym f.at)
        (subst (λ n.
        Kept (changed_in told (place server frame.from) (Some f.peer) a.hub.peers)
        (cond (nat_lt n frame.inc) (without_peer (place server frame.from) a.sessions) a.sessions)
        ((place server frame.from, frame.inc) ∷ seen))
        (sym f.seen) h)
step_kept server a (OnInfo session info) won race seen sound cause k =
    let allowed = map_none OfSession
    (info_refusal server a.sessions (session_at session a.sessions.standing) info (seen_name server a info.server_name))
    cause in
    let h = info_completes server a.sessions (session_at session a.sessions.standing) info
    (seen_name server a info.server_name) allowed in
    let f = greeting_fresh server a info.server_name info.inc sound
    (info_greets server a.sessions (session_at session a.sessions.standing) info (seen_name server a info.server_name)
    allowed) in
    let number = (session_in session a.sessions.standing h.session h.is).1 in
    subst (λ o.
    Kept (changed_in meets (place server info.server_name) o a.hub.peers)
    (after_info server a.sessions info (session_at session a.sessions.standing))
    ((place server info.server_name, info.inc) ∷ seen))
    (sym f.at)
    (subst (λ o.
    Kept (changed_in meets (place server info.server_name) (Some f.peer) a.hub.peers)
    (after_info server a.sessions info o) ((place server info.server_name, info.inc) ∷ seen))
    (sym h.is)
    (complete_kept a.hub.peers a.sessions seen h.session.number (info_offer server h.session info) h.session
    (λ peer. record peer { up = true; outbox = snapshot_to server a.hub (place server info.server_name) info.inc ∷ [] })
    f.peer (ap (λ n. session_at n a.sessions.standing) number ∙ h.is) h.new f.at f.fresh (λ y. refl) (λ y. refl) k))
  where
    meets : Peer → Peer
    meets peer = record (peer_in_life peer info.inc) {
      up = true;
      outbox = snapshot_to server a.hub (place server info.server_name) info.inc ∷ [];
    }
step_kept server a (OnConnect session connect) won race seen sound cause k =
    let allowed = map_none OfSession
    (connect_refusal server a.sessions (session_at session a.sessions.standing) connect
    (seen_name server a connect.server_name))
    cause in
    let h = connect_completes server a.sessions (session_at session a.sessions.standing) connect
    (seen_name server a connect.server_name) allowed in
    let f = greeting_fresh server a connect.server_name connect.inc sound
    (connect_greets server a.sessions (session_at session a.sessions.standing) connect
    (seen_name server a connect.server_name) allowed) in
    subst (λ o.
    Kept (changed_in meets (place server connect.server_name) o a.hub.peers)
    (node_after server a (OnConnect session connect) won race).sessions
    ((place server connect.server_name, connect.inc) ∷ seen))
    (sym f.at)
    (complete_kept a.hub.peers a.sessions seen session (connect_offer server connect) h.session
    (λ peer. record peer {
      up = true;
      outbox = snapshot_to server a.hub (place server connect.server_name) connect.inc ∷ [];
    })
    f.peer h.is h.new f.at f.fresh (λ y. refl) (λ y. refl) k)
  where
    meets : Peer → Peer
    meets peer = record (peer_in_life peer connect.inc) {
      up = true;
      outbox = snapshot_to server a.hub (place server connect.server_name) connect.inc ∷ [];
    }

-- ---- runs

new_kept : (server : ServerIdentity) → KeptBy (new_node server) []
new_kept server = record {
  ups = record {
    has = λ q p at up.
        absurd
        (true≢false (sym up ∙ ap (λ (x : Peer). x.up) (read_replicate (length server.names) unknown_peer p q at)));
    is = λ q i h. absurd h.stands;
  };
  apart = record { differ = tt; below = λ x i. absurd i };
  greatest = λ q p at. record {
    all = λ x i. absurd i;
    one = inl (ap (λ (x : Peer). x.seen) (read_replicate (length server.names) unknown_peer p q at));
  };
}

run_kept : (server : ServerIdentity)
    → IsListed server
    → (h : List Done) (a : Node)
    → Ran server h a
    → KeptBy a (seen_of_run server h)
run_kept server listed [] a is = subst (λ (x : Node). KeptBy x []) (sym is) (new_kept server)
run_kept server listed (d ∷ earlier) a ran =
    subst (λ (x : Node). KeptBy x (seen_of_run server (d ∷ earlier))) (sym ran.0.after)
    (step_kept server d.before d.event d.won d.race (seen_of_run server earlier)
    (run_sound server earlier d.before listed ran.1) ran.0.cause (run_kept server listed earlier d.before ran.1))

pub peers_are_kept : KeepsPeers
peers_are_kept server h a listed ran =
    let k = run_kept server listed h a ran in
    record {
      up = λ q inc. (
        (λ (u : IsUpAt a q inc). subst (KeptAt a.sessions.standing q) u.seen (k.ups.has q u.peer u.at u.up)),
        λ (x : KeptAt a.sessions.standing q inc).
            let u = k.ups.is q inc x in record { peer = u.peer; at = u.at; up = u.up; seen = u.seen },
      );
      once = pairs_weaker Differ _ a.sessions.standing (λ x y i j d. d.1) k.apart.differ;
      greatest = k.greatest;
    }
