-- What the calls of a server put for peers, or give to a session, as the outcome of its step.
use Rattle.std.proofs.Common.{◌≡◌, ℕ, true, cond, List, [], ◌∷◌, map, Option, Some, None, ap, ◌∙◌, refl}
use Rattle.std.specs.Prelude.{option_to_list}
use Rattle.std.specs.Option.{option_map}
use Rattle.subj.specs.Servers.{ServerIdentity, place, is_peer}
use Rattle.hub_core.proofs.Steps.Rooms.{map_none}
use Rattle.hub_core.specs.Peers.{snapshot_to}
use Rattle.hub_core.specs.Publishing.{Publication}
use Rattle.node_parts.specs.declared.told.Received.{Received}
use Rattle.route_session.specs.Calls.{peer_of as peer_by_name}
use Rattle.route_session.specs.State.{session_at}
use Rattle.route_session.specs.Steps.{info_refusal, connect_refusal}
use Rattle.route_values.specs.Frames.{Frame}
use Rattle.route_values.specs.Records.{Info, Connect}
use Rattle.route_values.specs.declared.frames.RouteFrame.{RouteFrame}
use Rattle.route_values.specs.declared.frames.RouteFrame.TheVariants as route
use Rattle.node_law.specs.declared.faults.NodeFault.TheVariants as node_fault
use Rattle.node_law.specs.Answers.{OnSession, Kept, TakenFrames, Nothing, Issued, Collected}
use Rattle.node_law.specs.Events.{Own, Publish, Collect, Drain, Dial, Accept, CutSession, TakeFrames, Receive, OnInfo, OnConnect}
use Rattle.node_core.specs.Outcome.{Does, with_frames}
use Rattle.node_core.specs.Served.{Served, DialStep, AcceptStep, CutStep, FramesStep, InfoStep, ConnectStep, PublishStep, ReceiveStep, CollectStep, DrainStep, told_of_received}
use Rattle.node_law.specs.Steps.{node_frames, seen_name}
use Rattle.node_law.proofs.Moves.HubEvents.{info_greets, connect_greets}
use Rattle.node_core.proofs.Outcomes.Told.{alone_does}

pub publish_does : (old new : Served) (p : Publication) (turn count : ℕ) (frames : List RouteFrame)
    → frames ≡ node_frames old.server old.node (Own (Publish p))
    → PublishStep old p turn count new
    → Does old (Own (Publish p)) (with_frames (Issued turn count) frames) new
publish_does old new p turn count frames sent d =
    alone_does old new (Own (Publish p)) (Issued turn count) frames (record { put = refl; closed = refl; over = refl })
    d.step d.answered sent

pub collect_does : (old new : Served) (shard changes count : ℕ) (cut : List ℕ) (frames : List RouteFrame)
    → frames ≡ node_frames old.server old.node (Own (Collect shard))
    → CollectStep old shard changes count cut new
    → Does old (Own (Collect shard)) (with_frames (Collected changes count cut) frames) new
collect_does old new shard changes count cut frames sent d =
    alone_does old new (Own (Collect shard)) (Collected changes count cut) frames
    (record { put = refl; closed = refl; over = refl }) d.step d.answered sent

pub drain_does : (old new : Served) (changes count : ℕ) (cut : List ℕ) (frames : List RouteFrame)
    → frames ≡ node_frames old.server old.node (Own Drain)
    → DrainStep old changes count cut new
    → Does old (Own Drain) (with_frames (Collected changes count cut) frames) new
drain_does old new changes count cut frames sent d =
    alone_does old new (Own Drain) (Collected changes count cut) frames
    (record { put = refl; closed = refl; over = refl }) d.step d.answered sent

pub dial_does : (old new : Served) (peer session : ℕ)
    → DialStep old peer session new
    → Does old (Own (Dial peer)) (with_frames (OnSession session) []) new
dial_does old new peer session d =
    alone_does old new (Own (Dial peer)) (OnSession session) [] (record { put = refl; closed = refl; over = refl })
    d.step (ap OnSession d.answered) refl

pub cut_does : (old new : Served) (session : ℕ) (peer : Option ℕ)
    → CutStep old session peer new
    → Does old (Own (CutSession session)) (with_frames Nothing []) new
cut_does old new session peer d =
    alone_does old new (Own (CutSession session)) Nothing [] (record { put = refl; closed = refl; over = refl }) d.step
    refl refl

pub frames_does : (old new : Served) (peer count : ℕ) (frames : List Frame)
    → FramesStep old peer count frames new
    → Does old (Own (TakeFrames peer count)) (with_frames (TakenFrames frames) []) new
frames_does old new peer count frames d =
    alone_does old new (Own (TakeFrames peer count)) (TakenFrames frames) []
    (record { put = refl; closed = refl; over = refl }) d.step (ap TakenFrames d.answered) refl

pub receive_does : (old new : Served) (frame : Frame) (received : Received)
    → ReceiveStep old frame received new
    → Does old (Receive frame) (with_frames (told_of_received received) []) new
receive_does old new frame received d =
    alone_does old new (Receive frame) (told_of_received received) []
    (record { put = refl; closed = refl; over = refl }) d.step d.answered refl

pub accept_does : (old new : Served) (session : ℕ) (info : Info)
    → AcceptStep old session info new
    → Does old (Own Accept) (with_frames (OnSession session) (route.Info info ∷ [])) new
accept_does old new session info d =
    alone_does old new (Own Accept) (OnSession session) (route.Info info ∷ [])
    (record { put = refl; closed = refl; over = refl }) d.step (ap OnSession d.answered)
    (ap (λ i. route.Info i ∷ []) d.sent)

-- ---- a snapshot for whoever greets

greeted : (server : ServerIdentity) (name : List ℕ) (hub : _) (inc : ℕ) (snapshot : Option Frame)
    → is_peer server (place server name) ≡ true
    → snapshot ≡ option_map (λ q. snapshot_to server hub q inc) (peer_by_name server name)
    → map route.Numbered (option_to_list snapshot)
    ≡ route.Numbered (snapshot_to server hub (place server name) inc) ∷ []
greeted server name hub inc snapshot peer is =
    ap (λ o. map route.Numbered (option_to_list o))
    (is ∙ ap (λ b. option_map (λ q. snapshot_to server hub q inc) (cond b (Some (place server name)) None)) peer)

pub info_does : (old new : Served) (session : ℕ) (info : Info) (instead_of : Option ℕ) (connect : Connect)
    (snapshot : Option Frame)
    → snapshot
    ≡ option_map (λ q. snapshot_to old.server old.node.hub q info.inc) (peer_by_name old.server info.server_name)
    → InfoStep old session info instead_of connect new
    → Does old (OnInfo session info)
    (with_frames (Kept instead_of) (route.Connect connect ∷ map route.Numbered (option_to_list snapshot))) new
info_does old new session info instead_of connect snapshot is d =
    let least = seen_name old.server old.node info.server_name in
    let free = map_none node_fault.Session
    (info_refusal old.server old.node.sessions (session_at session old.node.sessions.standing) info least)
    d.step.step.cause in
    let greets =
    info_greets old.server old.node.sessions (session_at session old.node.sessions.standing) info least free in
    let sent = greeted old.server info.server_name old.node.hub info.inc snapshot greets.peer is in
    alone_does old new (OnInfo session info) (Kept instead_of)
    (route.Connect connect ∷ map route.Numbered (option_to_list snapshot))
    (record { put = refl; closed = refl; over = refl }) d.step (ap Kept d.instead)
    (λ k. route.Connect (d.sent k) ∷ sent k)

pub connect_does : (old new : Served) (session : ℕ) (connect : Connect) (instead_of : Option ℕ)
    (snapshot : Option Frame)
    → snapshot
    ≡ option_map (λ q. snapshot_to old.server old.node.hub q connect.inc) (peer_by_name old.server connect.server_name)
    → ConnectStep old session connect instead_of new
    → Does old (OnConnect session connect)
    (with_frames (Kept instead_of) (map route.Numbered (option_to_list snapshot))) new
connect_does old new session connect instead_of snapshot is d =
    let least = seen_name old.server old.node connect.server_name in
    let free = map_none node_fault.Session
    (connect_refusal old.server old.node.sessions (session_at session old.node.sessions.standing) connect least)
    d.step.step.cause in
    let greets =
    connect_greets old.server old.node.sessions (session_at session old.node.sessions.standing) connect least free in
    let sent = greeted old.server connect.server_name old.node.hub connect.inc snapshot greets.peer is in
    alone_does old new (OnConnect session connect) (Kept instead_of) (map route.Numbered (option_to_list snapshot))
    (record { put = refl; closed = refl; over = refl }) d.step (ap Kept d.instead) sent
