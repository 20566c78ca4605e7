-- A frame of a peer at a server: of a message each shard gets its job.
use Rattle.std.proofs.Common.{◌≡◌, ℕ, not, nat_eq, nat_lt, nat_le, List, length, take, Option, Some, None, refl, sym, ap, ◌∙◌, subst}
use Rattle.std.specs.Prelude.{if◌then◌else◌}
use Rattle.std.specs.Option.{option_map, option_or}
use Rattle.std.specs.Str.{bytes_eq}
use Rattle.std.proofs.lemmas.List.{length-replicate}
use Rattle.list_laws.proofs.Tests.{no_cause, le_false}
use Rattle.subj.specs.Messages.{Content}
use Rattle.subj.specs.Servers.{ServerIdentity, own_name}
use Rattle.subj.specs.declared.jobs.Job.{Job}
use Rattle.subj.specs.declared.limits.TheConstants.{MAX_COUNTER}
use Rattle.claim_race.specs.Race.{RaceState}
use Rattle.route_values.specs.Frames.{Frame}
use Rattle.route_values.specs.declared.bodies.Body.{Body}
use Rattle.route_values.specs.declared.bodies.Body.TheVariants.{Plus, Minus, Snapshot, Msg}
use Rattle.hub_core.specs.State as hub
use Rattle.hub_core.specs.State.{Peer, peer_in_life, peer_of}
use Rattle.hub_core.specs.Events as of_hub
use Rattle.hub_core.specs.Steps.{received_answer}
use Rattle.hub_core.specs.declared.faults.HubFault.TheVariants as fault
use Rattle.hub_core.specs.Publishing.{busy_fault}
use Rattle.hub_core.specs.Receiving.{has_message, body_fault, origin_fault, receive_refusal, routed_job}
use Rattle.hub_core.proofs.Steps.Receives.{from_peer}
use Rattle.hub_core.proofs.Steps.Rooms.{or_none}
use Rattle.node_law.specs.declared.faults.NodeFault.TheVariants as node_fault
use Rattle.node_parts.specs.Sides.{HubWithSessions, ByHub, side_after}
use Rattle.node_parts.specs.declared.told.Received.{Received}
use Rattle.node_law.specs.Answers.{told_of_hub}
use Rattle.node_law.specs.Events.{Receive}
use Rattle.node_law.specs.State.{ShardWithJobs, Node, finished_turns}
use Rattle.node_law.specs.Steps.{BodyRace, lines_after_body}
use Rattle.node_core.specs.Served.{Served, IsKept, MayIssue, MayRoute, AreRouted, IsReceived, ReceiveStep, told_of_received, served_of_parts}
use Rattle.node_core.proofs.Calls.GivenJobs.{are_counted, busy_same, may_issue, given_length}

-- which turns are finished matters only by who is a window behind
pub receive_same : (server : ServerIdentity) (hub : hub.State) (x y : List ℕ) (frame : Frame)
    → busy_fault server hub x ≡ busy_fault server hub y
    → receive_refusal server hub x frame ≡ receive_refusal server hub y frame
receive_same server hub x y frame e =
    ap (λ o.
    if not (bytes_eq frame.to (own_name server)) then Some fault.NotMe
    else (if not (nat_eq frame.to_inc server.inc) then Some fault.OtherMe else o))
    (origin (peer_of server hub frame.from))
  where
    of_body : (b : Body) (base : Peer)
        → body_fault server hub base frame.number x b ≡ body_fault server hub base frame.number y b
    of_body (Plus weighted) base = refl
    of_body (Minus key) base = refl
    of_body (Snapshot keys) base = refl
    of_body (Msg content queues) base =
        ap (λ f.
        if nat_le frame.number base.mark then Some fault.Late
        else option_or f (if nat_le MAX_COUNTER hub.issued then Some fault.Spent else None))
        e

    origin : (o : Option Peer) → origin_fault server hub x frame o ≡ origin_fault server hub y frame o
    origin None = refl
    origin (Some peer) =
        ap (λ o. if nat_lt frame.inc peer.seen then Some fault.StaleOrigin else o)
        (of_body frame.body (peer_in_life peer frame.inc))

-- so a frame is refused just as the hub says
pub receive_heard : (s : Served) (frame : Frame) (count : ℕ) (finished : List ℕ)
    → IsKept s
    → count ≡ length s.node.lines
    → take count finished ≡ s.node.race.finished
    → receive_refusal s.server s.node.hub finished frame
    ≡ receive_refusal s.server s.node.hub (finished_turns s.node.lines) frame
receive_heard s frame count finished kept is told =
    receive_same s.server s.node.hub finished (finished_turns s.node.lines) frame
    (busy_same s finished kept (ap (λ n. take n finished) (sym (are_counted s count kept is).shards) ∙ told))

-- a message that is not refused may be routed
message_ready : (s : Served) (frame : Frame) (content : Content) (queues : List (List ℕ))
    → IsKept s
    → receive_refusal s.server s.node.hub (finished_turns s.node.lines) frame ≡ None
    → frame.body ≡ Msg content queues
    → MayIssue s.node.race s.node.lines
message_ready s frame content queues kept cause is =
    let hub = s.node.hub in
    let finished = finished_turns s.node.lines in
    let f = from_peer s.server kept.listed hub finished frame cause in
    let base = peer_in_life f.peer frame.inc in
    let none : body_fault s.server hub base frame.number finished (Msg content queues) ≡ None =
    subst (λ b. body_fault s.server hub base frame.number finished b ≡ None) is f.none in
    let late = no_cause (nat_le frame.number base.mark) fault.Late
    (option_or (busy_fault s.server hub finished) (if nat_le MAX_COUNTER hub.issued then Some fault.Spent else None))
    none in
    let o = or_none (busy_fault s.server hub finished)
    (if nat_le MAX_COUNTER hub.issued then Some fault.Spent else None) late.1 in
    may_issue s kept o.0
    (le_false MAX_COUNTER hub.issued (no_cause (nat_le MAX_COUNTER hub.issued) fault.Spent None o.1).0)

pub may_route : (s : Served) (frame : Frame) (received : Received) (jobs : List Job)
    → IsKept s
    → receive_refusal s.server s.node.hub (finished_turns s.node.lines) frame ≡ None
    → IsReceived s.node.hub frame frame.body (length s.node.lines) received jobs
    → MayRoute (has_message frame.body) s.node.race s.node.lines jobs
may_route s frame received jobs kept cause is = go frame.body refl is
  where
    go : (b : Body)
        → frame.body ≡ b
        → IsReceived s.node.hub frame b (length s.node.lines) received jobs
        → MayRoute (has_message b) s.node.race s.node.lines jobs
    go (Plus weighted) e h = tt
    go (Minus key) e h = tt
    go (Snapshot keys) e h = tt
    go (Msg content queues) e h = (
      message_ready s frame content queues kept cause e,
      ap length h.1 ∙ length-replicate (length s.node.lines) (routed_job s.node.hub frame content queues),
    )

-- there are as many lines as before
pub routed_length : (hub : hub.State) (race new_race : RaceState) (lines new_lines : List ShardWithJobs) (frame : Frame)
    (received : Received) (jobs : List Job)
    → IsReceived hub frame frame.body (length lines) received jobs
    → AreRouted (has_message frame.body) race lines jobs new_race new_lines
    → length new_lines ≡ length lines
routed_length hub race new_race lines new_lines frame received jobs is routed = go frame.body is routed
  where
    go : (b : Body)
        → IsReceived hub frame b (length lines) received jobs
        → AreRouted (has_message b) race lines jobs new_race new_lines
        → length new_lines ≡ length lines
    go (Plus weighted) h r = ap length r.1
    go (Minus key) h r = ap length r.1
    go (Snapshot keys) h r = ap length r.1
    go (Msg content queues) h r =
        given_length race new_race lines new_lines jobs (routed_job hub frame content queues) r h.1

-- ---- what is done

-- a received frame, and what was routed of it
pub record IsRouted (old new : HubWithSessions) (race new_race : RaceState) (lines new_lines : List ShardWithJobs)
    (frame : Frame) (received : Received) (jobs : List Job) : Type 0 where
  pub finished : List ℕ
  pub side : new ≡ side_after old (ByHub (of_hub.Receive frame finished))
  pub received_is : IsReceived old.hub frame frame.body (length lines) received jobs
  pub routed : AreRouted (has_message frame.body) race lines jobs new_race new_lines

pub receive_done : (old new : HubWithSessions) (race new_race : RaceState) (lines new_lines : List ShardWithJobs)
    (frame : Frame) (received : Received) (jobs : List Job)
    → receive_refusal old.server old.hub (finished_turns lines) frame ≡ None
    → IsRouted old new race new_race lines new_lines frame received jobs
    → ReceiveStep (served_of_parts old race lines) frame received (served_of_parts new new_race new_lines)
receive_done old new race new_race lines new_lines frame received jobs cause done = record {
  step = record {
    race = new_race;
    server = ap (λ (s : HubWithSessions). s.server) done.side;
    step = record {
      cause = ap (option_map node_fault.Hub) cause;
      moves = moves frame.body done.routed;
      after = λ k. (served_of_parts (done.side k) new_race (lines_are frame.body done.received_is done.routed k)).node;
    };
  };
  answered = answers frame.body done.received_is;
} where
  a : Node
  a = (served_of_parts old race lines).node

  moves : (b : Body) → AreRouted (has_message b) race lines jobs new_race new_lines → BodyRace a b new_race
  moves (Plus weighted) r = r.0
  moves (Minus key) r = r.0
  moves (Snapshot keys) r = r.0
  moves (Msg content queues) r = r.issued

  lines_are : (b : Body)
      → IsReceived old.hub frame b (length lines) received jobs
      → AreRouted (has_message b) race lines jobs new_race new_lines
      → new_lines ≡ lines_after_body a frame b
  lines_are (Plus weighted) h r = r.1
  lines_are (Minus key) h r = r.1
  lines_are (Snapshot keys) h r = r.1
  lines_are (Msg content queues) h r = r.given (routed_job old.hub frame content queues) h.1

  answers : (b : Body)
      → IsReceived old.hub frame b (length lines) received jobs
      → told_of_received received ≡ told_of_hub (received_answer old.hub frame b)
  answers (Plus weighted) h = ap told_of_received h
  answers (Minus key) h = ap told_of_received h
  answers (Snapshot keys) h = ap told_of_received h
  answers (Msg content queues) h = ap told_of_received h.0
