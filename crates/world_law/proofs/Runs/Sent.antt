-- What waits for a peer was sent.
use Rattle.std.proofs.Common.{◌≡◌, ◌⊎◌, ℕ, zero, suc, Bool, true, false, cond, List, [], ◌∷◌, ◌++◌, map, replicate, drop, length, set, Option, Some, None, refl, sym, ap, ◌∙◌, subst, inl, inr, ⊎_elim}
use Rattle.std.specs.Prelude.{filter, take, slice_get, slice_set}
use Rattle.std.proofs.lemmas.Option.{none-some, same_Some}
use Rattle.list_laws.specs.Lists.{In, Each}
use Rattle.list_laws.proofs.Lists.{read_set, read_replicate, in_append, in_left, in_right, in_map, in_read}
use Rattle.list_laws.proofs.Changes.{in_filter, in_mapped}
use Rattle.claim_race.specs.Race.{RaceState}
use Rattle.subj.specs.Servers.{ServerIdentity, place}
use Rattle.route_values.specs.Frames.{Frame}
use Rattle.route_values.specs.declared.bodies.Body.{Body}
use Rattle.route_values.specs.declared.bodies.Body.TheVariants.{Plus, Minus, Snapshot, Msg}
use Rattle.route_values.specs.declared.frames.RouteFrame.{RouteFrame}
use Rattle.route_values.specs.declared.frames.RouteFrame.TheVariants as route
use Rattle.hub_core.specs.State as hub
use Rattle.hub_core.specs.State.{Peer, unknown_peer, peer_in_life, is_new_life, changed_in, changed_at}
use Rattle.hub_core.specs.Publishing.{frames_of, is_to, with_frames}
use Rattle.hub_core.specs.Receiving.{told_by}
use Rattle.hub_core.specs.Telling.{collect_frames, count_of_changes, without_slow, drain_frames}
use Rattle.hub_core.specs.Peers.{snapshot_to, outbox_of}
use Rattle.route_session.specs.State.{peer_of_session}
use Rattle.node_law.specs.Events.{OfConn, AtShard, Publish, Collect, Drain, Dial, Accept, CutSession, TakeFrames, NodeEvent, Own, Receive, OnInfo, OnConnect}
use Rattle.node_law.specs.State.{Node}
use Rattle.node_law.specs.Steps.{node_after, node_frames, deltas_at, shard_line, cut_if}
use Rattle.world_law.specs.declared.faults.WorldFault.{WorldFault}
use Rattle.world_law.specs.State.{Cluster, Running, World, new_world, server_at}
use Rattle.world_law.specs.Events.{Event, Start, Stop, At, event_for}
use Rattle.world_law.specs.Events as of_world
use Rattle.world_law.specs.Outcomes.{Outcome}
use Rattle.world_law.specs.Refusals.{world_refusal}
use Rattle.world_law.specs.Steps.{Acts, Happens, Decided, WorldStep, Run}
use Rattle.world_law.specs.Headline.{AreSent}

abbrev Out : List RouteFrame → Peer → Type 0
Out sent peer = Each (λ f. In (route.Numbered f) sent) peer.outbox

abbrev Waits : List RouteFrame → List Peer → Type 0
Waits sent peers = Each (Out sent) peers

more_sent : (sent new : List RouteFrame) (peers : List Peer) → Waits sent peers → Waits (sent ++ new) peers
more_sent sent new peers h peer i f j = in_left (route.Numbered f) sent new (h peer i f j)

in_set : (peers : List Peer) (q : ℕ) (new x : Peer) → In x (slice_set peers q new) → In x peers ⊎ (x ≡ new)
in_set [] q new x i = absurd i
in_set (p ∷ peers) zero new x i = ⊎_elim (λ e. inr e) (λ j. inl (inr j)) i
in_set (p ∷ peers) (suc q) new x i =
    ⊎_elim (λ e. inl (inl e)) (λ j. ⊎_elim (λ k. inl (inr k)) (λ e. inr e) (in_set peers q new x j)) i

-- one peer changes
changed_waits : (sent : List RouteFrame) (change : Peer → Peer) (q : ℕ) (peers : List Peer)
    → ((peer : Peer) → Out sent peer → Out sent (change peer))
    → Waits sent peers
    → Waits sent (changed_at change q peers)
changed_waits sent change q peers keeps h = go (slice_get peers q) refl
  where
    go : (o : Option Peer) → slice_get peers q ≡ o → Waits sent (changed_in change q o peers)
    go None at x i = h x i
    go (Some peer) at x i =
        ⊎_elim (λ j. h x j) (λ e. subst (Out sent) (sym e) (keeps peer (h peer (in_read peers q peer at))))
        (in_set peers q (change peer) x i)

-- frames go to their peers
framed_waits : (sent : List RouteFrame) (server : ServerIdentity) (frames : List Frame)
    → Each (λ f. In (route.Numbered f) sent) frames
    → (q : ℕ) (peers : List Peer)
    → Waits sent peers
    → Waits sent (with_frames server frames q peers)
framed_waits sent server frames are q [] h x i = absurd i
framed_waits sent server frames are q (p ∷ peers) h x i =
    ⊎_elim (λ e.
    subst (Out sent) (sym e) (λ f j.
    ⊎_elim (λ k. h p (inl refl) f k) (λ k. are f (in_filter (is_to server q) frames f k).0)
    (in_append f p.outbox (filter (is_to server q) frames) j)))
    (λ j. framed_waits sent server frames are (suc q) peers (λ y k. h y (inr k)) x j) i

all_new : (sent : List RouteFrame) (frames : List Frame)
    → Each (λ f. In (route.Numbered f) (sent ++ map route.Numbered frames)) frames
all_new sent frames f i =
    in_right (route.Numbered f) sent (map route.Numbered frames) (in_mapped route.Numbered frames f i)

in_drop : (k : ℕ) (frames : List Frame) (f : Frame) → In f (drop k frames) → In f frames
in_drop zero frames f i = i
in_drop (suc k) [] f i = i
in_drop (suc k) (x ∷ frames) f i = inr (in_drop k frames f i)

in_take : (k : ℕ) (frames : List Frame) (f : Frame) → In f (take k frames) → In f frames
in_take zero frames f i = absurd i
in_take (suc k) [] f i = i
in_take (suc k) (x ∷ frames) f i = ⊎_elim (λ e. inl e) (λ j. inr (in_take k frames f j)) i

known_out : (sent : List RouteFrame) (peer : Peer) (inc : ℕ) → Out sent peer → Out sent (peer_in_life peer inc)
known_out sent peer inc h = go (is_new_life peer inc)
  where
    go : (b : Bool)
        → Out sent
        (cond b (record { seen = inc; mark = 0; heard = unknown_peer.heard; up = false; outbox = peer.outbox }) peer)
    go true = h
    go false = h

told_out : (sent : List RouteFrame) (body : Body) (number : ℕ) (peer : Peer)
    → Out sent peer
    → Out sent (told_by body number peer)
told_out sent (Plus weighted) number peer h = h
told_out sent (Minus key) number peer h = h
told_out sent (Snapshot keys) number peer h = h
told_out sent (Msg content queues) number peer h = h

cut_waits : (sent : List RouteFrame) (hub : hub.State) (o : Option ℕ)
    → Waits sent hub.peers
    → Waits sent (cut_if hub o).peers
cut_waits sent hub None h = h
cut_waits sent hub (Some q) h = changed_waits sent (λ peer. record peer { up = false }) q hub.peers (λ peer k. k) h

after_waits : (sent : List RouteFrame) (server : ServerIdentity) (a : Node) (e : NodeEvent) (won : Bool)
    (race : RaceState)
    → Waits sent a.hub.peers
    → Waits (sent ++ node_frames server a e) (node_after server a e won race).hub.peers
after_waits sent server a (Own (OfConn conn event)) won race h = more_sent sent [] a.hub.peers h
after_waits sent server a (Own (AtShard shard work)) won race h = more_sent sent [] a.hub.peers h
after_waits sent server a (Own (Publish p)) won race h =
    framed_waits (sent ++ map route.Numbered (frames_of server a.hub p)) server (frames_of server a.hub p)
    (all_new sent (frames_of server a.hub p)) 0 a.hub.peers
    (more_sent sent (map route.Numbered (frames_of server a.hub p)) a.hub.peers h)
after_waits sent server a (Own (Collect shard)) won race h =
    let deltas = deltas_at (shard_line a shard) in
    let frames = collect_frames server a.hub deltas in
    framed_waits (sent ++ map route.Numbered frames) server frames (all_new sent frames) 0
    (map (without_slow (count_of_changes a.hub deltas)) a.hub.peers) (λ x i.
    let m = in_map (without_slow (count_of_changes a.hub deltas)) a.hub.peers x i in
    subst (Out (sent ++ map route.Numbered frames)) (sym m.2)
    (more_sent sent (map route.Numbered frames) a.hub.peers h m.0 m.1))
after_waits sent server a (Own Drain) won race h =
    let frames = drain_frames server a.hub in
    framed_waits (sent ++ map route.Numbered frames) server frames (all_new sent frames) 0
    (map (without_slow 1) a.hub.peers) (λ x i.
    let m = in_map (without_slow 1) a.hub.peers x i in
    subst (Out (sent ++ map route.Numbered frames)) (sym m.2)
    (more_sent sent (map route.Numbered frames) a.hub.peers h m.0 m.1))
after_waits sent server a (Own (Dial q)) won race h = more_sent sent [] a.hub.peers h
after_waits sent server a (Own Accept) won race h = more_sent sent (node_frames server a (Own Accept)) a.hub.peers h
after_waits sent server a (Own (CutSession session)) won race h =
    cut_waits (sent ++ []) a.hub (peer_of_session session a.sessions.standing) (more_sent sent [] a.hub.peers h)
after_waits sent server a (Own (TakeFrames q count)) won race h =
    changed_waits (sent ++ []) (λ peer. record peer { outbox = drop count peer.outbox }) q a.hub.peers
    (λ peer k f i. k f (in_drop count peer.outbox f i)) (more_sent sent [] a.hub.peers h)
after_waits sent server a (Receive frame) won race h =
    changed_waits (sent ++ []) (λ peer. told_by frame.body frame.number (peer_in_life peer frame.inc))
    (place server frame.from) a.hub.peers
    (λ peer k.
    told_out (sent ++ []) frame.body frame.number (peer_in_life peer frame.inc)
    (known_out (sent ++ []) peer frame.inc k))
    (more_sent sent [] a.hub.peers h)
after_waits sent server a (OnInfo session info) won race h =
    let new = node_frames server a (OnInfo session info) in
    let first = snapshot_to server a.hub (place server info.server_name) info.inc in
    changed_waits (sent ++ new) (λ peer. record (peer_in_life peer info.inc) { up = true; outbox = first ∷ [] })
    (place server info.server_name) a.hub.peers
    (λ peer k f i.
    ⊎_elim (λ e. in_right (route.Numbered f) sent new (inr (inl (ap route.Numbered e)))) (λ j. absurd j) i)
    (more_sent sent new a.hub.peers h)
after_waits sent server a (OnConnect session connect) won race h =
    let new = node_frames server a (OnConnect session connect) in
    let first = snapshot_to server a.hub (place server connect.server_name) connect.inc in
    changed_waits (sent ++ new) (λ peer. record (peer_in_life peer connect.inc) { up = true; outbox = first ∷ [] })
    (place server connect.server_name) a.hub.peers
    (λ peer k f i. ⊎_elim (λ e. in_right (route.Numbered f) sent new (inl (ap route.Numbered e))) (λ j. absurd j) i)
    (more_sent sent new a.hub.peers h)

-- ---- a cluster

abbrev AllWait : List RouteFrame → List (Option Running) → Type 0
AllWait sent nodes = (n : ℕ) (a : Running) → slice_get nodes n ≡ Some (Some a) → Waits sent a.node.hub.peers

wait_set : (sent : List RouteFrame) (nodes : List (Option Running)) (n : ℕ) (new : Option Running)
    → AllWait sent nodes
    → ((a : Running) → new ≡ Some a → Waits sent a.node.hub.peers)
    → AllWait sent (set nodes n new)
wait_set sent nodes n new h here k a e =
    read_set (λ k o. (a : Running) → o ≡ Some a → Waits sent a.node.hub.peers) nodes n new
    (λ k o apart f a is. h k a (f ∙ ap Some is)) here k (Some a) e a refl

new_waits : (sent : List RouteFrame) (k : ℕ) → Waits sent (replicate k unknown_peer)
new_waits sent zero x i = absurd i
new_waits sent (suc k) x i = ⊎_elim (λ e. subst (Out sent) (sym e) (λ f j. absurd j)) (λ j. new_waits sent k x j) i

acts_wait : (c : Cluster) (w w' : World) (n : ℕ) (event : Option NodeEvent) (told : Outcome)
    → AllWait w.sent w.nodes
    → Acts c w n event told w'
    → AllWait w'.sent w'.nodes
acts_wait c w w' n event told h s =
    subst (λ (x : World). AllWait x.sent x.nodes) (sym s.after)
    (wait_set (w.sent ++ node_frames (server_at c n s.a.inc) s.a.node s.e) w.nodes n
    (Some (record { inc = s.a.inc; node = s.b }))
    (λ k a at. more_sent w.sent (node_frames (server_at c n s.a.inc) s.a.node s.e) a.node.hub.peers (h k a at)) (λ a e.
    subst (λ (x : Running). Waits (w.sent ++ node_frames (server_at c n s.a.inc) s.a.node s.e) x.node.hub.peers)
    (same_Some _ a e) here))
  where
    here : Waits (w.sent ++ node_frames (server_at c n s.a.inc) s.a.node s.e) s.b.hub.peers
    here =
        subst (λ (x : Node). Waits (w.sent ++ node_frames (server_at c n s.a.inc) s.a.node s.e) x.hub.peers)
        (sym s.steps.after) (after_waits w.sent (server_at c n s.a.inc) s.a.node s.e s.won s.race (h n s.a s.a_is))

happens_wait : (c : Cluster) (w w' : World) (e : Event) (told : Outcome)
    → AllWait w.sent w.nodes
    → Happens c w e told w'
    → AllWait w'.sent w'.nodes
happens_wait c w w' (Start n inc) told h s =
    subst (λ (x : World). AllWait x.sent x.nodes) (sym s.after)
    (wait_set w.sent w.nodes n _ h (λ a e.
    subst (λ (x : Running). Waits w.sent x.node.hub.peers) (same_Some _ a e) (new_waits w.sent (length c.names))))
happens_wait c w w' (Stop n) told h s =
    subst (λ (x : World). AllWait x.sent x.nodes) (sym s.after)
    (wait_set w.sent w.nodes n None h (λ a e. absurd (none-some a e)))
happens_wait c w w' (of_world.Receive n k) told h s = acts_wait c w w' n (event_for w (of_world.Receive n k)) told h s
happens_wait c w w' (of_world.OnInfo n session k) told h s =
    acts_wait c w w' n (event_for w (of_world.OnInfo n session k)) told h s
happens_wait c w w' (of_world.OnConnect n session k) told h s =
    acts_wait c w w' n (event_for w (of_world.OnConnect n session k)) told h s
happens_wait c w w' (At n event) told h s = acts_wait c w w' n (event_for w (At n event)) told h s

step_wait : (c : Cluster) (w w' : World) (e : Event) (told : Outcome)
    → AllWait w.sent w.nodes
    → WorldStep c w e told w'
    → AllWait w'.sent w'.nodes
step_wait c w w' e told h s = go (world_refusal c w e) s
  where
    go : (o : Option WorldFault) → Decided c w e o told w' → AllWait w'.sent w'.nodes
    go None d = happens_wait c w w' e told h d
    go (Some why) d = subst (λ (x : World). AllWait x.sent x.nodes) (sym d.1) h

over_wait : (c : Cluster) (w : World) (es : List Event) (w' : World)
    → Run c w es w'
    → AllWait w.sent w.nodes
    → AllWait w'.sent w'.nodes
over_wait c w [] w' r h = subst (λ (x : World). AllWait x.sent x.nodes) (sym r) h
over_wait c w (e ∷ es) w' r h = over_wait c r.0 es w' r.3 (step_wait c w r.0 e r.1 h r.2)

pub are_sent : (c : Cluster) (es : List Event) (w : World) → Run c (new_world c) es w → AreSent w
are_sent c es w r n a at q count = go (slice_get a.node.hub.peers q) refl
  where
    waits : Waits w.sent a.node.hub.peers
    waits =
        over_wait c (new_world c) es w r
        (λ n a e. absurd (none-some a (sym (read_replicate (length c.names) None (Some a) n e)))) n a at

    go : (o : Option Peer)
        → slice_get a.node.hub.peers q ≡ o
        → Each (λ f. In (route.Numbered f) w.sent) (take count (outbox_of o))
    go None is f i = absurd (in_take count [] f i)
    go (Some peer) is f i = waits peer (in_read a.node.hub.peers q peer is) f (in_take count peer.outbox f i)
