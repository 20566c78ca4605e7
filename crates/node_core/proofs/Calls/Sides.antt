-- From a call of the side, which is the hub with the sessions, to the server's: the shards and the race hear nothing of
-- it.
use Rattle.std.proofs.Common.{◌≡◌, ℕ, ◌+◌, false, List, Option, Result, Ok, Err, refl, sym, ap, ◌∙◌, subst}
use Rattle.std.specs.Option.{option_map}
use Rattle.subj.specs.Answers.{IsAnswered, IsDecided}
use Rattle.subj.specs.Servers.{place}
use Rattle.subj.specs.declared.failures.Failure.{Failure}
use Rattle.subj.specs.declared.failures.Failure.TheVariants.{Refused, OutOfMemory}
use Rattle.claim_race.specs.Race.{RaceState}
use Rattle.hub_core.specs.Events as of_hub
use Rattle.hub_core.specs.Peers.{first_frames}
use Rattle.hub_core.specs.Steps.{hub_refusal}
use Rattle.hub_core.specs.declared.faults.HubFault.{HubFault}
use Rattle.route_values.specs.Frames.{Frame}
use Rattle.route_values.specs.Records.{Info, Connect}
use Rattle.route_session.specs.Events as of_sessions
use Rattle.route_session.specs.State.{session_at, number_kept, peer_of_session}
use Rattle.route_session.specs.Steps.{session_refusal, session_answer, info_refusal, connect_refusal, own_info, own_connect, serial_of}
use Rattle.route_session.specs.declared.faults.SessionFault.{SessionFault}
use Rattle.node_law.specs.declared.faults.NodeFault.{NodeFault}
use Rattle.node_law.specs.declared.faults.NodeFault.TheVariants.{Session, Hub}
use Rattle.node_law.specs.Events.{NodeEvent, Own, Dial, Accept, CutSession, TakeFrames, OnInfo, OnConnect}
use Rattle.node_law.specs.State.{ShardWithJobs}
use Rattle.node_law.specs.Steps.{NodeRace, node_after}
use Rattle.node_parts.specs.Sides.{HubWithSessions, ByHub, BySessions, Answer, OfHub, OfSessions, IsAskedSessions, IsDone, seen_name, side_after}
use Rattle.node_core.specs.Served.{Served, DoesStep, DialStep, AcceptStep, InfoStep, ConnectStep, FramesStep, CutStep, IsKept, served_of_parts, refusal, of_session_answer, of_session_decision, of_hub_answer}
use Rattle.node_core.proofs.Calls.Composed.{Called, Decided, step_keeps, same_keeps}

-- ---- the sessions

-- the server's event of which the sessions hear this
abbrev pub event_of : of_sessions.Event → NodeEvent
event_of (of_sessions.Dial q) = Own (Dial q)
event_of of_sessions.Accept = Own Accept
event_of (of_sessions.OnInfo session info least) = OnInfo session info
event_of (of_sessions.OnConnect session connect least) = OnConnect session connect
event_of (of_sessions.Cut session) = Own (CutSession session)

session_cause : (side : HubWithSessions) (race : RaceState) (lines : List ShardWithJobs) (e : of_sessions.Event)
    → IsAskedSessions side e
    → refusal (served_of_parts side race lines) (event_of e)
    ≡ option_map Session (session_refusal side.server side.sessions e)
session_cause side race lines (of_sessions.Dial q) asked = refl
session_cause side race lines of_sessions.Accept asked = refl
session_cause side race lines (of_sessions.OnInfo session info least) asked =
    ap (λ n.
    option_map Session (info_refusal side.server side.sessions (session_at session side.sessions.standing) info n))
    (sym asked)
session_cause side race lines (of_sessions.OnConnect session connect least) asked =
    ap (λ n.
    option_map Session
    (connect_refusal side.server side.sessions (session_at session side.sessions.standing) connect n))
    (sym asked)
session_cause side race lines (of_sessions.Cut session) asked = refl

race_stays : (side : HubWithSessions) (race : RaceState) (lines : List ShardWithJobs) (e : of_sessions.Event)
    → NodeRace (served_of_parts side race lines).node (event_of e) false race
race_stays side race lines (of_sessions.Dial q) = refl
race_stays side race lines of_sessions.Accept = refl
race_stays side race lines (of_sessions.OnInfo session info least) = refl
race_stays side race lines (of_sessions.OnConnect session connect least) = refl
race_stays side race lines (of_sessions.Cut session) = refl

node_moves : (side : HubWithSessions) (race : RaceState) (lines : List ShardWithJobs) (e : of_sessions.Event)
    → (served_of_parts (side_after side (BySessions e)) race lines).node
    ≡ node_after side.server (served_of_parts side race lines).node (event_of e) false race
node_moves side race lines (of_sessions.Dial q) = refl
node_moves side race lines of_sessions.Accept = refl
node_moves side race lines (of_sessions.OnInfo session info least) = refl
node_moves side race lines (of_sessions.OnConnect session connect least) = refl
node_moves side race lines (of_sessions.Cut session) = refl

pub session_does : (old new : HubWithSessions) (race : RaceState) (lines : List ShardWithJobs) (e : of_sessions.Event)
    (answer : of_sessions.Answer)
    → IsDone old (BySessions e) (OfSessions answer) new
    → DoesStep (served_of_parts old race lines) (event_of e) false (served_of_parts new race lines)
session_does old new race lines e answer done = record {
  race = race;
  server = ap (λ (s : HubWithSessions). s.server) done.after;
  step = record {
    cause = session_cause old race lines e done.asked ∙ ap (option_map Session) done.free;
    moves = race_stays old race lines e;
    after = ap (λ (s : HubWithSessions). (served_of_parts s race lines).node) done.after ∙ node_moves old race lines e;
  };
}

abbrev told_in : of_sessions.Answer → Answer → of_sessions.Answer
told_in other (OfHub answer) = other
told_in other (OfSessions answer) = answer

-- a call that may be refused and that takes memory
session_call : {X : Type 0} (old new : HubWithSessions) (race : RaceState) (lines : List ShardWithJobs)
    (e : of_sessions.Event) (answer : X → of_sessions.Answer) (done : X → Type 0) (r : Result X (Failure SessionFault))
    → IsKept (served_of_parts old race lines)
    → IsAskedSessions old e
    → ((x : X) → DoesStep (served_of_parts old race lines) (event_of e) false (served_of_parts new race lines)
    → answer x ≡ session_answer old.server old.sessions e → done x)
    → IsAnswered (session_refusal old.server old.sessions e)
    (λ x. IsDone old (BySessions e) (OfSessions (answer x)) new) (new ≡ old) r
    → Called X (served_of_parts old race lines) (served_of_parts new race lines) (event_of e) done (of_session_answer r)
session_call old new race lines e answer done (Ok x) kept asked tells h =
    let does = session_does old new race lines e (answer x) h.1 in
    record {
      keeps = step_keeps (served_of_parts old race lines) (event_of e) false (served_of_parts new race lines) kept does;
      answers = (does.step.cause, tells x does (ap (told_in (answer x)) h.1.answered));
    }
session_call old new race lines e answer done (Err (Refused why)) kept asked tells h =
    let left : served_of_parts new race lines ≡ served_of_parts old race lines =
    ap (λ (s : HubWithSessions). served_of_parts s race lines) h.1 in
    record {
      keeps = same_keeps (served_of_parts old race lines) (served_of_parts new race lines) kept left;
      answers = (session_cause old race lines e asked ∙ ap (option_map Session) h.0, left);
    }
session_call old new race lines e answer done (Err OutOfMemory) kept asked tells h =
    let left : served_of_parts new race lines ≡ served_of_parts old race lines =
    ap (λ (s : HubWithSessions). served_of_parts s race lines) h.1 in
    record {
      keeps = same_keeps (served_of_parts old race lines) (served_of_parts new race lines) kept left;
      answers = (session_cause old race lines e asked ∙ ap (option_map Session) h.0, left);
    }

-- one that takes none
pub cut_call : (old new : HubWithSessions) (race : RaceState) (lines : List ShardWithJobs) (session : ℕ)
    (r : Result (Option ℕ) SessionFault)
    → IsKept (served_of_parts old race lines)
    → IsDecided (session_refusal old.server old.sessions (of_sessions.Cut session))
    (λ peer. IsDone old (BySessions (of_sessions.Cut session)) (OfSessions (of_sessions.WasCut peer)) new) (new ≡ old) r
    → Decided (Option ℕ) (served_of_parts old race lines) (served_of_parts new race lines) (Own (CutSession session))
    (λ peer. CutStep (served_of_parts old race lines) session peer (served_of_parts new race lines))
    (of_session_decision r)
cut_call old new race lines session (Ok peer) kept h =
    let does = session_does old new race lines (of_sessions.Cut session) (of_sessions.WasCut peer) h.1 in
    let told : of_sessions.WasCut peer ≡ of_sessions.WasCut (peer_of_session session old.sessions.standing) =
    ap (told_in (of_sessions.WasCut peer)) h.1.answered in
    let at : peer ≡ peer_of_session session old.sessions.standing = cc (told) in
    record {
      keeps =
          step_keeps (served_of_parts old race lines) (Own (CutSession session)) false (served_of_parts new race lines)
          kept does;
      answers = (does.step.cause, record { step = does; answered = at });
    }
cut_call old new race lines session (Err why) kept h =
    let left : served_of_parts new race lines ≡ served_of_parts old race lines =
    ap (λ (s : HubWithSessions). served_of_parts s race lines) h.1 in
    record {
      keeps = same_keeps (served_of_parts old race lines) (served_of_parts new race lines) kept left;
      answers = (session_cause old race lines (of_sessions.Cut session) tt ∙ ap (option_map Session) h.0, left);
    }

pub dial_call : (old new : HubWithSessions) (race : RaceState) (lines : List ShardWithJobs) (q : ℕ)
    (r : Result ℕ (Failure SessionFault))
    → IsKept (served_of_parts old race lines)
    → IsAnswered (session_refusal old.server old.sessions (of_sessions.Dial q))
    (λ session. IsDone old (BySessions (of_sessions.Dial q)) (OfSessions (of_sessions.Dialed session)) new) (new ≡ old)
    r
    → Called ℕ (served_of_parts old race lines) (served_of_parts new race lines) (Own (Dial q))
    (λ session. DialStep (served_of_parts old race lines) q session (served_of_parts new race lines))
    (of_session_answer r)
dial_call old new race lines q r kept h =
    session_call old new race lines (of_sessions.Dial q) (λ session. of_sessions.Dialed session)
    (λ session. DialStep (served_of_parts old race lines) q session (served_of_parts new race lines)) r kept tt tells h
  where
    tells : (session : ℕ)
        → DoesStep (served_of_parts old race lines) (Own (Dial q)) false (served_of_parts new race lines)
        → of_sessions.Dialed session ≡ of_sessions.Dialed (old.sessions.numbers + 1)
        → DialStep (served_of_parts old race lines) q session (served_of_parts new race lines)
    tells session does told =
        let number : session ≡ old.sessions.numbers + 1 = cc (told) in
        record { step = does; answered = number }

pub accept_call : (old new : HubWithSessions) (race : RaceState) (lines : List ShardWithJobs)
    (r : Result (ℕ × Info) (Failure SessionFault))
    → IsKept (served_of_parts old race lines)
    → IsAnswered (session_refusal old.server old.sessions of_sessions.Accept)
    (λ given. IsDone old (BySessions of_sessions.Accept) (OfSessions (of_sessions.Accepted given.0 given.1)) new)
    (new ≡ old) r
    → Called (ℕ × Info) (served_of_parts old race lines) (served_of_parts new race lines) (Own Accept)
    (λ given. AcceptStep (served_of_parts old race lines) given.0 given.1 (served_of_parts new race lines))
    (of_session_answer r)
accept_call old new race lines r kept h =
    session_call old new race lines of_sessions.Accept (λ given. of_sessions.Accepted given.0 given.1)
    (λ given. AcceptStep (served_of_parts old race lines) given.0 given.1 (served_of_parts new race lines)) r kept tt
    tells h
  where
    tells : (given : ℕ × Info)
        → DoesStep (served_of_parts old race lines) (Own Accept) false (served_of_parts new race lines)
        → of_sessions.Accepted given.0 given.1 ≡ of_sessions.Accepted (old.sessions.numbers + 1) (own_info old.server)
        → AcceptStep (served_of_parts old race lines) given.0 given.1 (served_of_parts new race lines)
    tells given does told =
        let number : given.0 ≡ old.sessions.numbers + 1 = cc (told) in
        let info : given.1 ≡ own_info old.server = cc (told) in
        record { step = does; answered = number; sent = info }

pub info_call : {X : Type 0} (old new : HubWithSessions) (race : RaceState) (lines : List ShardWithJobs) (session : ℕ)
    (info : Info) (instead_of : X → Option ℕ) (sent : X → Connect) (r : Result X (Failure SessionFault))
    → IsKept (served_of_parts old race lines)
    → IsAnswered
    (session_refusal old.server old.sessions (of_sessions.OnInfo session info (seen_name old info.server_name)))
    (λ x.
    IsDone old (BySessions (of_sessions.OnInfo session info (seen_name old info.server_name)))
    (OfSessions (of_sessions.KeptAfterInfo (instead_of x) (sent x))) new)
    (new ≡ old) r
    → Called X (served_of_parts old race lines) (served_of_parts new race lines) (OnInfo session info)
    (λ x.
    InfoStep (served_of_parts old race lines) session info (instead_of x) (sent x) (served_of_parts new race lines))
    (of_session_answer r)
info_call {X = X} old new race lines session info instead_of sent r kept h =
    session_call old new race lines (of_sessions.OnInfo session info (seen_name old info.server_name))
    (λ x. of_sessions.KeptAfterInfo (instead_of x) (sent x))
    (λ x.
    InfoStep (served_of_parts old race lines) session info (instead_of x) (sent x) (served_of_parts new race lines))
    r kept refl tells h
  where
    tells : (x : X)
        → DoesStep (served_of_parts old race lines) (OnInfo session info) false (served_of_parts new race lines)
        → of_sessions.KeptAfterInfo (instead_of x) (sent x)
        ≡ of_sessions.KeptAfterInfo (number_kept (place old.server info.server_name) old.sessions.standing)
        (own_connect old.server info (serial_of (session_at session old.sessions.standing)))
        → InfoStep (served_of_parts old race lines) session info (instead_of x) (sent x)
        (served_of_parts new race lines)
    tells x does told =
        let instead : instead_of x ≡ number_kept (place old.server info.server_name) old.sessions.standing =
        cc (told) in
        let connect : sent x ≡ own_connect old.server info (serial_of (session_at session old.sessions.standing)) =
        cc (told) in
        record { step = does; instead = instead; sent = connect }

pub connect_call : {X : Type 0} (old new : HubWithSessions) (race : RaceState) (lines : List ShardWithJobs)
    (session : ℕ) (connect : Connect) (instead_of : X → Option ℕ) (r : Result X (Failure SessionFault))
    → IsKept (served_of_parts old race lines)
    → IsAnswered
    (session_refusal old.server old.sessions
    (of_sessions.OnConnect session connect (seen_name old connect.server_name)))
    (λ x.
    IsDone old (BySessions (of_sessions.OnConnect session connect (seen_name old connect.server_name)))
    (OfSessions (of_sessions.Kept (instead_of x))) new)
    (new ≡ old) r
    → Called X (served_of_parts old race lines) (served_of_parts new race lines) (OnConnect session connect)
    (λ x. ConnectStep (served_of_parts old race lines) session connect (instead_of x) (served_of_parts new race lines))
    (of_session_answer r)
connect_call {X = X} old new race lines session connect instead_of r kept h =
    session_call old new race lines (of_sessions.OnConnect session connect (seen_name old connect.server_name))
    (λ x. of_sessions.Kept (instead_of x))
    (λ x. ConnectStep (served_of_parts old race lines) session connect (instead_of x) (served_of_parts new race lines))
    r kept refl tells h
  where
    tells : (x : X)
        → DoesStep (served_of_parts old race lines) (OnConnect session connect) false (served_of_parts new race lines)
        → of_sessions.Kept (instead_of x)
        ≡ of_sessions.Kept (number_kept (place old.server connect.server_name) old.sessions.standing)
        → ConnectStep (served_of_parts old race lines) session connect (instead_of x) (served_of_parts new race lines)
    tells x does told =
        let instead : instead_of x ≡ number_kept (place old.server connect.server_name) old.sessions.standing =
        cc (told) in
        record { step = does; instead = instead }

-- ---- the hub

pub frames_call : {X : Type 0} (old new : HubWithSessions) (race : RaceState) (lines : List ShardWithJobs) (q count : ℕ)
    (frames : X → List Frame) (r : Result X (Failure HubFault))
    → IsKept (served_of_parts old race lines)
    → IsAnswered (hub_refusal old.server old.hub (of_hub.TakeFrom q count))
    (λ x. IsDone old (ByHub (of_hub.TakeFrom q count)) (OfHub (of_hub.Taken (frames x))) new) (new ≡ old) r
    → Called X (served_of_parts old race lines) (served_of_parts new race lines) (Own (TakeFrames q count))
    (λ x. FramesStep (served_of_parts old race lines) q count (frames x) (served_of_parts new race lines))
    (of_hub_answer r)
frames_call old new race lines q count frames (Ok x) kept h =
    let does :
    DoesStep (served_of_parts old race lines) (Own (TakeFrames q count)) false (served_of_parts new race lines) =
    record {
      race = race;
      server = ap (λ (s : HubWithSessions). s.server) h.1.after;
      step = record {
        cause = ap (option_map Hub) h.0;
        moves = refl;
        after = ap (λ (s : HubWithSessions). (served_of_parts s race lines).node) h.1.after;
      };
    } in
    let told : OfHub (of_hub.Taken (frames x)) ≡ OfHub (of_hub.Taken (first_frames old.hub q count)) = h.1.answered in
    let taken : frames x ≡ first_frames old.hub q count = cc (told) in
    record {
      keeps =
          step_keeps (served_of_parts old race lines) (Own (TakeFrames q count)) false (served_of_parts new race lines)
          kept does;
      answers = (does.step.cause, record { step = does; answered = taken });
    }
frames_call old new race lines q count frames (Err (Refused why)) kept h =
    let left : served_of_parts new race lines ≡ served_of_parts old race lines =
    ap (λ (s : HubWithSessions). served_of_parts s race lines) h.1 in
    record {
      keeps = same_keeps (served_of_parts old race lines) (served_of_parts new race lines) kept left;
      answers = (ap (option_map Hub) h.0, left);
    }
frames_call old new race lines q count frames (Err OutOfMemory) kept h =
    let left : served_of_parts new race lines ≡ served_of_parts old race lines =
    ap (λ (s : HubWithSessions). served_of_parts s race lines) h.1 in
    record {
      keeps = same_keeps (served_of_parts old race lines) (served_of_parts new race lines) kept left;
      answers = (ap (option_map Hub) h.0, left);
    }

-- ---- the server as it is seen, and the answer as it is told

pub told_as : {X : Type 0} (old before new : Served) (e : NodeEvent) (r told : Result X (Failure NodeFault))
    (done : Served → X → Type 0)
    → old ≡ before
    → told ≡ r
    → IsAnswered (refusal old e) (done old) (new ≡ old) r
    → IsAnswered (refusal before e) (done before) (new ≡ before) told
told_as old before new e r told done same is h =
    subst (IsAnswered (refusal before e) (done before) (new ≡ before)) (sym is)
    (subst (λ s. IsAnswered (refusal s e) (done s) (new ≡ s) r) same h)

pub decided_as : {X : Type 0} (old before new : Served) (e : NodeEvent) (r told : Result X NodeFault)
    (done : Served → X → Type 0)
    → old ≡ before
    → told ≡ r
    → IsDecided (refusal old e) (done old) (new ≡ old) r
    → IsDecided (refusal before e) (done before) (new ≡ before) told
decided_as old before new e r told done same is h =
    subst (IsDecided (refusal before e) (done before) (new ≡ before)) (sym is)
    (subst (λ s. IsDecided (refusal s e) (done s) (new ≡ s) r) same h)
