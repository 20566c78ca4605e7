-- A frame of a peer.
use Rattle.std.proofs.Common.{◌≡◌, ℕ, ◌+◌, true, false, true≢false, nat_le, List, Some, None, refl, sym, ap, subst, arith}
use Rattle.std.specs.Prelude.{if◌then◌else◌}
use Rattle.std.specs.Option.{option_or}
use Rattle.std.proofs.lemmas.Option.{none-some, same_Some}
use Rattle.list_laws.proofs.Tests.{no_cause, le_false}
use Rattle.subj.specs.Servers.{ServerIdentity, IsListed}
use Rattle.subj.specs.declared.jobs.Job.{Job}
use Rattle.subj.specs.declared.limits.TheConstants.{MAX_COUNTER}
use Rattle.route_values.specs.Frames.{Frame}
use Rattle.route_values.specs.declared.bodies.Body.{Body}
use Rattle.route_values.specs.declared.bodies.Body.TheVariants.{Plus, Minus, Snapshot, Msg}
use Rattle.hub_core.specs.State as hub
use Rattle.hub_core.specs.State.{peer_in_life}
use Rattle.hub_core.specs.Events as of_hub
use Rattle.hub_core.specs.Steps.{received_answer}
use Rattle.hub_core.specs.declared.faults.HubFault.TheVariants as fault
use Rattle.hub_core.specs.Publishing.{busy_fault}
use Rattle.hub_core.specs.Calls.{job_of}
use Rattle.hub_core.specs.Receiving.{has_message, body_fault, receive_refusal, after_receive, routed_job}
use Rattle.hub_core.proofs.Steps.Receives.{from_peer}
use Rattle.hub_core.proofs.Steps.Rooms.{or_none}
use Rattle.node_parts.specs.Sides.{HubWithSessions, ByHub, OfHub, job_in}
use Rattle.node_threads.specs.AtHub.{AtHub, IsAtHub}
use Rattle.node_threads.proofs.Hubs.HubCalls.{Quiet}
use Rattle.node_threads.proofs.Hubs.Publishing.{MayIssue, shows_room}
use Rattle.node_parts.proofs.Receiving.{heard_answer}

-- ---- what is answered

-- a message has a job
pub has_job : (h : hub.State) (frame : Frame) (b : Body) → has_message b ≡ true → None ≡ job_of h frame b → ⊥
has_job h frame (Plus weighted) e f = true≢false (sym e)
has_job h frame (Minus key) e f = true≢false (sym e)
has_job h frame (Snapshot keys) e f = true≢false (sym e)
has_job h frame (Msg content queues) e f = none-some (routed_job h frame content queues) f

pub record IsRoutedJob (h : hub.State) (frame : Frame) (b : Body) (job : Job) : Type 0 where
  pub answers : of_hub.Routed job ≡ received_answer h frame b
  pub turn : job.turn ≡ h.issued + 1

pub routed_answer : (h : hub.State) (frame : Frame) (b : Body) (job : Job)
    → Some job ≡ job_of h frame b
    → IsRoutedJob h frame b job
routed_answer h frame (Plus weighted) job e = absurd (none-some job (sym e))
routed_answer h frame (Minus key) job e = absurd (none-some job (sym e))
routed_answer h frame (Snapshot keys) job e = absurd (none-some job (sym e))
routed_answer h frame (Msg content queues) job e =
    let same : job ≡ routed_job h frame content queues = same_Some job (routed_job h frame content queues) e in
    record { answers = ap (λ (j : Job). of_hub.Routed j) same; turn = ap (λ (j : Job). j.turn) same }

-- ---- a message takes a turn

pub may_route : (shards : ℕ) (w : AtHub) (frame : Frame)
    → IsListed w.side.server
    → IsAtHub shards w
    → receive_refusal w.side.server w.side.hub w.finished frame ≡ None
    → has_message frame.body ≡ true
    → MayIssue shards w
may_route shards w frame listed i free message = go frame.body message refl
  where
    go : (b : Body) → has_message b ≡ true → frame.body ≡ b → MayIssue shards w
    go (Plus weighted) e is = absurd (true≢false (sym e))
    go (Minus key) e is = absurd (true≢false (sym e))
    go (Snapshot keys) e is = absurd (true≢false (sym e))
    go (Msg content queues) e is =
        let f = from_peer w.side.server listed w.side.hub w.finished frame free in
        let base = peer_in_life f.peer frame.inc in
        let none : body_fault w.side.server w.side.hub base frame.number w.finished (Msg content queues) ≡ None =
        subst (λ b. body_fault w.side.server w.side.hub base frame.number w.finished b ≡ None) is f.none in
        let late = no_cause (nat_le frame.number base.mark) fault.Late
        (option_or (busy_fault w.side.server w.side.hub w.finished)
        (if nat_le MAX_COUNTER w.side.hub.issued then Some fault.Spent else None))
        none in
        let o = or_none (busy_fault w.side.server w.side.hub w.finished)
        (if nat_le MAX_COUNTER w.side.hub.issued then Some fault.Spent else None) late.1 in
        let low = le_false MAX_COUNTER w.side.hub.issued
        (no_cause (nat_le MAX_COUNTER w.side.hub.issued) fault.Spent None o.1).0 in
        let same = i.turns in
        record { limit = omega arith; room = shows_room shards w i o.0 }

pub issued_more : (server : ServerIdentity) (h : hub.State) (frame : Frame)
    → has_message frame.body ≡ true
    → (after_receive server h frame).issued ≡ h.issued + 1
issued_more server h frame e = ap (λ b. if b then h.issued + 1 else h.issued) e

pub quiet_news : (s : HubWithSessions) (frame : Frame) (finished : List ℕ)
    → has_message frame.body ≡ false
    → Quiet s (ByHub (of_hub.Receive frame finished))
quiet_news s frame finished e = record {
  jobs = ap (λ a. job_in (OfHub a)) (sym (heard_answer s.hub frame frame.body e));
  issued = ap (λ b. if b then s.hub.issued + 1 else s.hub.issued) e;
}
