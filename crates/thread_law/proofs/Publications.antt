-- The publications of one incarnation are given to the shards in rising number.
use Rattle.std.proofs.Common.{◌≡◌, ◌≢◌, ℕ, zero, suc, ◌+◌, ◌<◌, ◌≤◌, Bool, true, false, cond, nat_lt, nat_le, List, [], ◌∷◌, ◌++◌, map, drop, Option, Some, None, refl, sym, ap, ◌∙◌, subst, ⊎_elim, arith}
use Rattle.std.specs.Prelude.{slice_get, if◌then◌else◌}
use Rattle.std.specs.Option.{option_or}
use Rattle.std.proofs.lemmas.Option.{none-some, same_Some}
use Rattle.list_laws.specs.Lists.{Each, Pairs}
use Rattle.list_laws.proofs.Lists.{each_append, each_one, pairs_append, read_set, read_map}
use Rattle.list_laws.proofs.Changes.{append_nil, get_set_here}
use Rattle.list_laws.proofs.Tests.{no_cause, le_false, lt_true, lt_false}
use Rattle.subj.specs.Messages.{Content}
use Rattle.subj.specs.Servers.{ServerIdentity, IsListed, own_name, place}
use Rattle.subj.specs.declared.jobs.Job.{Job}
use Rattle.subj.specs.declared.limits.TheConstants.{MAX_COUNTER}
use Rattle.interest.specs.Heard.{nothing_heard}
use Rattle.route_values.specs.Frames.{Frame}
use Rattle.route_values.specs.declared.bodies.Body.{Body}
use Rattle.route_values.specs.declared.bodies.Body.TheVariants.{Plus, Minus, Snapshot, Msg}
use Rattle.hub_core.specs.Events as of_hub
use Rattle.hub_core.specs.Peers.{snapshot_to, up, cut, after_take as taken_from}
use Rattle.hub_core.specs.Publishing.{Publication, busy_fault, after_publish, own_job, frames_of, with_frames}
use Rattle.hub_core.specs.Receiving.{has_message, body_fault, routed_job, told_by}
use Rattle.hub_core.specs.State as hub
use Rattle.hub_core.specs.State.{Peer, peer_in_life, changed_in, changed_at}
use Rattle.hub_core.specs.Steps.{received_answer}
use Rattle.hub_core.specs.Telling.{without_slow, count_of_changes, after_collect, collect_frames, after_drain, drain_frames}
use Rattle.hub_core.specs.declared.faults.HubFault.TheVariants as fault
use Rattle.hub_core.proofs.Choices.Places.{named}
use Rattle.hub_core.proofs.Steps.Receives.{FromPeer, from_peer}
use Rattle.node_law.specs.Steps.{cut_if}
use Rattle.route_session.specs.Events as of_sessions
use Rattle.route_session.specs.State as sessions
use Rattle.route_session.specs.State.{peer_of_session}
use Rattle.node_parts.specs.Sides.{HubWithSessions, new_side, Event, ByHub, BySessions, OfHub, IsAsked, IsFree, Done, Leads, side_after, side_answer, sessions_with, job_in, jobs_of}
use Rattle.thread_law.specs.Once.{Precedes}

-- ---- a peer goes on: a later incarnation is seen, or of the same one no lower mark

record Forward (p q : Peer) : Type 0 where
  seen : p.seen ≤ q.seen
  mark : p.seen ≡ q.seen → p.mark ≤ q.mark

stays : (p q : Peer) → q.seen ≡ p.seen → q.mark ≡ p.mark → Forward p q
stays p q s m = record { seen = omega arith; mark = λ e. omega arith }

abbrev known_if : Peer → ℕ → Bool → Peer
known_if peer inc b =
    cond b (record { seen = inc; mark = 0; heard = nothing_heard; up = false; outbox = peer.outbox }) peer

record IsKnown (peer : Peer) (inc : ℕ) : Type 0 where
  least : inc ≤ (peer_in_life peer inc).seen
  seen : peer.seen ≤ (peer_in_life peer inc).seen
  same : peer.seen ≡ (peer_in_life peer inc).seen → (peer_in_life peer inc).mark ≡ peer.mark
  again : peer.seen ≡ inc → (peer_in_life peer inc).mark ≡ peer.mark

is_known : (peer : Peer) (inc : ℕ) → IsKnown peer inc
is_known peer inc = record {
  least = least (nat_lt peer.seen inc) refl;
  seen = seen (nat_lt peer.seen inc) refl;
  same = same (nat_lt peer.seen inc) refl;
  again = again (nat_lt peer.seen inc) refl;
}
  where
    least : (b : Bool) → nat_lt peer.seen inc ≡ b → inc ≤ (known_if peer inc b).seen
    least true e = omega arith
    least false e = lt_false peer.seen inc e

    seen : (b : Bool) → nat_lt peer.seen inc ≡ b → peer.seen ≤ (known_if peer inc b).seen
    seen true e = let lt = lt_true peer.seen inc e in omega arith
    seen false e = omega arith

    same : (b : Bool)
        → nat_lt peer.seen inc ≡ b
        → peer.seen ≡ (known_if peer inc b).seen
        → (known_if peer inc b).mark ≡ peer.mark
    same true e is = let lt = lt_true peer.seen inc e in absurd (omega arith)
    same false e is = refl

    again : (b : Bool) → nat_lt peer.seen inc ≡ b → peer.seen ≡ inc → (known_if peer inc b).mark ≡ peer.mark
    again true e is = let lt = lt_true peer.seen inc e in absurd (omega arith)
    again false e is = refl

known_on : (peer : Peer) (inc : ℕ) (q : Peer)
    → q.seen ≡ (peer_in_life peer inc).seen
    → q.mark ≡ (peer_in_life peer inc).mark
    → Forward peer q
known_on peer inc q s m =
    let k = is_known peer inc in
    let seen = k.seen in record { seen = omega arith; mark = λ e. let same = k.same (e ∙ s) in omega arith }

-- each peer goes on
abbrev On : List Peer → List Peer → Type 0
On old new = (n : ℕ) (b : Peer) → slice_get new n ≡ Some b → (a : Peer) × (slice_get old n ≡ Some a) × Forward a b

on_same : (peers : List Peer) → On peers peers
on_same peers n b e = (b, e, stays b b refl refl)

on_both : (a b c : List Peer) → On a b → On b c → On a c
on_both a b c p q n z e =
    let y = q n z e in
    let x = p n y.0 y.1 in
    let from = x.2 in
    let to = y.2 in
    let f = from.seen in
    let t = to.seen in (
      x.0,
      x.1,
      record {
        seen = omega arith;
        mark = λ (same : x.0.seen ≡ z.seen).
            (let l = from.mark (omega arith) in let r = to.mark (omega arith) in omega arith);
      },
    )

changed_on : (change : Peer → Peer) (q : ℕ) (peers : List Peer)
    → ((p : Peer) → slice_get peers q ≡ Some p → Forward p (change p))
    → On peers (changed_at change q peers)
changed_on change q peers on = go (slice_get peers q) refl
  where
    go : (o : Option Peer) → slice_get peers q ≡ o → On peers (changed_in change q o peers)
    go None at = on_same peers
    go (Some p) at =
        read_set (λ n b. (a : Peer) × (slice_get peers n ≡ Some a) × Forward a b) peers q (change p)
        (λ n a apart e. (a, e, stays a a refl refl)) (p, at, on p at)

frames_on : (server : ServerIdentity) (frames : List Frame) (q : ℕ) (peers : List Peer)
    → On peers (with_frames server frames q peers)
frames_on server frames q [] n b e = absurd (none-some b e)
frames_on server frames q (p ∷ ps) zero b e = (p, refl, subst (Forward p) (same_Some _ b e) (stays p _ refl refl))
frames_on server frames q (p ∷ ps) (suc n) b e = frames_on server frames (suc q) ps n b e

slow_on : (count : ℕ) (peers : List Peer) → On peers (map (without_slow count) peers)
slow_on count peers n b e =
    let from = read_map (without_slow count) peers n b e in
    (from.0, from.1, subst (Forward from.0) (sym from.2) (stays from.0 (without_slow count from.0) refl refl))

-- ---- each publication that was given is one that the hub has come to

abbrev Reached : Peer → ℕ → ℕ → Type 0
Reached peer inc number = (inc ≤ peer.seen) × (inc ≡ peer.seen → number ≤ peer.mark)

record IsPast (server : ServerIdentity) (hub : hub.State) (job : Job) : Type 0 where
  turn : job.turn ≤ hub.issued
  own : job.id.origin ≡ own_name server → job.id.inc ≡ server.inc → job.id.number ≤ hub.published
  others : place server job.id.origin ≢ server.me
      → (peer : Peer)
      → slice_get hub.peers (place server job.id.origin) ≡ Some peer
      → Reached peer job.id.inc job.id.number

-- a later turn, and of the same incarnation a higher number
pub record Follows (a b : Job) : Type 0 where
  pub turn : a.turn < b.turn
  pub id : Precedes a.id b.id

pub record Past (s : HubWithSessions) (jobs : List Job) : Type 0 where
  pub listed : IsListed s.server
  each : Each (IsPast s.server s.hub) jobs
  pub rising : Pairs Follows jobs

record Goes (old new : hub.State) : Type 0 where
  issued : old.issued ≤ new.issued
  published : old.published ≤ new.published
  peers : On old.peers new.peers

past_on : (server : ServerIdentity) (old new : hub.State) (job : Job)
    → Goes old new
    → IsPast server old job
    → IsPast server new job
past_on server old new job g p = record {
  turn = (let a = g.issued in let b = p.turn in omega arith);
  own = λ e f. (let a = g.published in let b = p.own e f in omega arith);
  others = λ other peer e.
      let from = g.peers (place server job.id.origin) peer e in
      let r = p.others other from.0 from.1 in
      let on = from.2 in
      let low = r.0 in
      let seen = on.seen in (
        omega arith,
        λ (is : job.id.inc ≡ peer.seen). (let m = on.mark (omega arith) in let l = r.1 (omega arith) in omega arith),
      );
}

abbrev side_with : HubWithSessions → hub.State → sessions.State → HubWithSessions
side_with s h x = record { server = s.server; hub = h; sessions = x }

quiet : (s : HubWithSessions) (h : hub.State) (x : sessions.State) (jobs : List Job)
    → Goes s.hub h
    → Past s jobs
    → Past (side_with s h x) (jobs ++ [])
quiet s h x jobs g p =
    subst (Past (side_with s h x)) (sym (append_nil jobs))
    (record { listed = p.listed; each = λ job i. past_on s.server s.hub h job g (p.each job i); rising = p.rising })

one_more : (s : HubWithSessions) (h : hub.State) (x : sessions.State) (jobs : List Job) (job : Job)
    → Goes s.hub h
    → s.hub.issued < job.turn
    → IsPast s.server h job
    → Each (λ a. Precedes a.id job.id) jobs
    → Past s jobs
    → Past (side_with s h x) (jobs ++ job ∷ [])
one_more s h x jobs job g turn new before p = record {
  listed = p.listed;
  each =
      each_append (IsPast s.server h) jobs (job ∷ []) (λ a i. past_on s.server s.hub h a g (p.each a i))
      (each_one (IsPast s.server h) job new);
  rising =
      pairs_append Follows jobs (job ∷ []) p.rising ((λ a i. absurd i), tt) (λ a b i j.
      ⊎_elim (λ (e : b ≡ job).
      subst (Follows a) (sym e) (record { turn = (let t = (p.each a i).turn in omega arith); id = before a i }))
      (λ (j : ⊥). absurd j) j);
}

-- ---- what the hub is asked

published_past : (s : HubWithSessions) (p : Publication) (jobs : List Job) (h : hub.State) (x : sessions.State)
    → Goes s.hub h
    → h.issued ≡ s.hub.issued + 1
    → h.published ≡ s.hub.published + 1
    → Past s jobs
    → Past (side_with s h x) (jobs ++ own_job s.server s.hub p ∷ [])
published_past s p jobs h x g turn number past = one_more s h x jobs (own_job s.server s.hub p) g (omega arith)
    (record {
      turn = omega arith;
      own = λ e f. omega arith;
      others = λ other peer e. absurd (other (named s.server past.listed s.server.me past.listed.listed));
    })
    (λ a i e f. let low = (past.each a i).own e f in omega arith)
    past

changed_there : (change : Peer → Peer) (q : ℕ) (peers : List Peer) (p b : Peer)
    → slice_get peers q ≡ Some p
    → slice_get (changed_at change q peers) q ≡ Some b
    → b ≡ change p
changed_there change q peers p b at e =
    let there : slice_get (changed_in change q (Some p) peers) q ≡ Some b =
    subst (λ o. slice_get (changed_in change q o peers) q ≡ Some b) at e in
    same_Some b (change p) (sym there ∙ get_set_here peers q p (change p) at)

-- a frame of a peer, by what it says
module _ (s : HubWithSessions) (frame : Frame) (finished : List ℕ) (x : sessions.State) (jobs : List Job)
    (past : Past s jobs) (from : FromPeer s.server s.hub finished frame) where
  abbrev base : Peer
  base = peer_in_life from.peer frame.inc

  abbrev after : Body → hub.State
  after body = record s.hub {
    issued = (if has_message body then s.hub.issued + 1 else s.hub.issued);
    peers =
        changed_at (λ peer. told_by body frame.number (peer_in_life peer frame.inc)) (place s.server frame.from)
        s.hub.peers;
  }

  message : (content : Content) (queues : List (List ℕ))
      → frame.body ≡ Msg content queues
      → Past (side_with s (after (Msg content queues)) x) (jobs ++ routed_job s.hub frame content queues ∷ [])
  message content queues is =
      one_more s (after (Msg content queues)) x jobs (routed_job s.hub frame content queues) goes (omega arith) new
      before past
    where
      k : IsKnown from.peer frame.inc
      k = is_known from.peer frame.inc

      above : base.mark < frame.number
      above =
          let none : body_fault s.server s.hub base frame.number finished (Msg content queues) ≡ None =
          subst (λ b. body_fault s.server s.hub base frame.number finished b ≡ None) is from.none in
          le_false frame.number base.mark
          (no_cause (nat_le frame.number base.mark) fault.Late
          (option_or (busy_fault s.server s.hub finished)
          (if nat_le MAX_COUNTER s.hub.issued then Some fault.Spent else None))
          none).0

      forward : Forward from.peer (record base { mark = frame.number })
      forward = record { seen = k.seen; mark = λ e. let same = k.same e in let lt = above in omega arith }

      goes : Goes s.hub (after (Msg content queues))
      goes = record {
        issued = omega arith;
        published = omega arith;
        peers =
            changed_on (λ peer. told_by (Msg content queues) frame.number (peer_in_life peer frame.inc))
            (place s.server frame.from) s.hub.peers (λ p at.
            subst (λ (z : Peer). Forward z (record (peer_in_life z frame.inc) { mark = frame.number }))
            (same_Some from.peer p (sym from.at ∙ at)) forward);
      }

      new : IsPast s.server (after (Msg content queues)) (routed_job s.hub frame content queues)
      new = record {
        turn = omega arith;
        own = λ e f.
            absurd (from.other (ap (place s.server) e ∙ named s.server past.listed s.server.me past.listed.listed));
        others = λ other peer e.
            let b = changed_there (λ peer. told_by (Msg content queues) frame.number (peer_in_life peer frame.inc))
            (place s.server frame.from) s.hub.peers from.peer peer from.at e in
            let seen : peer.seen ≡ base.seen = ap (λ (z : Peer). z.seen) b in
            let mark : peer.mark ≡ frame.number = ap (λ (z : Peer). z.mark) b in
            let least = k.least in
            (omega arith, λ (same : frame.inc ≡ peer.seen). omega arith);
      }

      before : Each (λ a. Precedes a.id (routed_job s.hub frame content queues).id) jobs
      before a i e f =
          let r = (past.each a i).others (λ own. from.other (ap (place s.server) (sym e) ∙ own)) from.peer
          (ap (λ o. slice_get s.hub.peers (place s.server o)) e ∙ from.at) in
          let low = r.0 in
          let fresh = from.fresh in
          let number = r.1 (omega arith) in
          let same = k.again (omega arith) in
          let lt = above in
          omega arith

  heard : (body : Body)
      → has_message body ≡ false
      → ((p : Peer) → Forward p (told_by body frame.number (peer_in_life p frame.inc)))
      → Past (side_with s (after body) x) (jobs ++ [])
  heard body none on =
      quiet s (after body) x jobs
      (record {
        issued =
            (let same : (after body).issued ≡ s.hub.issued =
            ap (λ b. if b then s.hub.issued + 1 else s.hub.issued) none in
            omega arith);
        published = omega arith;
        peers =
            changed_on (λ peer. told_by body frame.number (peer_in_life peer frame.inc)) (place s.server frame.from)
            s.hub.peers (λ p at. on p);
      })
      past

  taken : (body : Body)
      → frame.body ≡ body
      → Past (side_with s (after body) x) (jobs ++ job_in (OfHub (received_answer s.hub frame body)))
  taken (Plus weighted) is =
      heard (Plus weighted) refl
      (λ p. known_on p frame.inc (told_by (Plus weighted) frame.number (peer_in_life p frame.inc)) refl refl)
  taken (Minus key) is =
      heard (Minus key) refl
      (λ p. known_on p frame.inc (told_by (Minus key) frame.number (peer_in_life p frame.inc)) refl refl)
  taken (Snapshot keys) is =
      heard (Snapshot keys) refl
      (λ p. known_on p frame.inc (told_by (Snapshot keys) frame.number (peer_in_life p frame.inc)) refl refl)
  taken (Msg content queues) is = message content queues is

-- ---- each step

peers_go : (s : HubWithSessions) (h : hub.State)
    → h.issued ≡ s.hub.issued
    → h.published ≡ s.hub.published
    → On s.hub.peers h.peers
    → Goes s.hub h
peers_go s h i p on = record { issued = omega arith; published = omega arith; peers = on }

up_goes : (s : HubWithSessions) (q inc : ℕ) → Goes s.hub (up s.server s.hub q inc)
up_goes s q inc =
    peers_go s (up s.server s.hub q inc) refl refl
    (changed_on (λ peer. record (peer_in_life peer inc) { up = true; outbox = snapshot_to s.server s.hub q inc ∷ [] }) q
    s.hub.peers (λ p at. known_on p inc _ refl refl))

cut_goes : (s : HubWithSessions) (o : Option ℕ) → Goes s.hub (cut_if s.hub o)
cut_goes s None = peers_go s s.hub refl refl (on_same s.hub.peers)
cut_goes s (Some q) =
    peers_go s (cut s.hub q) refl refl
    (changed_on (λ peer. record peer { up = false }) q s.hub.peers (λ p at. stays p _ refl refl))

past_hub : (s : HubWithSessions) (e : of_hub.Event) (jobs : List Job) → Past s jobs → IsFree s (ByHub e)
    → IsAsked s (ByHub e) → Past (side_after s (ByHub e)) (jobs ++ job_in (side_answer s (ByHub e)))
past_hub s (of_hub.Publish p finished) jobs past free asked =
    published_past s p jobs (after_publish s.server s.hub p) s.sessions
    (record {
      issued = omega arith;
      published = omega arith;
      peers = frames_on s.server (frames_of s.server s.hub p) 0 s.hub.peers;
    })
    refl refl past
past_hub s (of_hub.Receive frame finished) jobs past free asked =
    taken s frame finished (sessions_with s (of_hub.Receive frame finished)) jobs past
    (from_peer s.server past.listed s.hub finished frame free) frame.body refl
past_hub s (of_hub.Collect shard deltas) jobs past free asked =
    let count = count_of_changes s.hub deltas in
    quiet s (after_collect s.server s.hub deltas) (sessions_with s (of_hub.Collect shard deltas)) jobs
    (peers_go s (after_collect s.server s.hub deltas) refl refl
    (on_both s.hub.peers (map (without_slow count) s.hub.peers)
    (with_frames s.server (collect_frames s.server s.hub deltas) 0 (map (without_slow count) s.hub.peers))
    (slow_on count s.hub.peers)
    (frames_on s.server (collect_frames s.server s.hub deltas) 0 (map (without_slow count) s.hub.peers))))
    past
past_hub s of_hub.Drain jobs past free asked =
    quiet s (after_drain s.server s.hub) (sessions_with s of_hub.Drain) jobs
    (peers_go s (after_drain s.server s.hub) refl refl
    (on_both s.hub.peers (map (without_slow 1) s.hub.peers)
    (with_frames s.server (drain_frames s.server s.hub) 0 (map (without_slow 1) s.hub.peers)) (slow_on 1 s.hub.peers)
    (frames_on s.server (drain_frames s.server s.hub) 0 (map (without_slow 1) s.hub.peers))))
    past
past_hub s (of_hub.Up q inc) jobs past free asked = absurd asked
past_hub s (of_hub.Cut q) jobs past free asked = absurd asked
past_hub s (of_hub.TakeFrom q count) jobs past free asked =
    quiet s (taken_from s.hub q count) s.sessions jobs
    (peers_go s (taken_from s.hub q count) refl refl
    (changed_on (λ peer. record peer { outbox = drop count peer.outbox }) q s.hub.peers (λ p at. stays p _ refl refl)))
    past

past_sessions : (s : HubWithSessions) (e : of_sessions.Event) (jobs : List Job)
    → Past s jobs
    → Past (side_after s (BySessions e)) (jobs ++ [])
past_sessions s (of_sessions.Dial peer) jobs past = quiet s s.hub _ jobs (cut_goes s None) past
past_sessions s of_sessions.Accept jobs past = quiet s s.hub _ jobs (cut_goes s None) past
past_sessions s (of_sessions.OnInfo session info least) jobs past =
    quiet s (up s.server s.hub (place s.server info.server_name) info.inc) _ jobs
    (up_goes s (place s.server info.server_name) info.inc) past
past_sessions s (of_sessions.OnConnect session connect least) jobs past =
    quiet s (up s.server s.hub (place s.server connect.server_name) connect.inc) _ jobs
    (up_goes s (place s.server connect.server_name) connect.inc) past
past_sessions s (of_sessions.Cut session) jobs past =
    quiet s (cut_if s.hub (peer_of_session session s.sessions.standing)) _ jobs
    (cut_goes s (peer_of_session session s.sessions.standing)) past

past_step : (s : HubWithSessions) (e : Event) (jobs : List Job) → Past s jobs → IsFree s e → IsAsked s e
    → Past (side_after s e) (jobs ++ job_in (side_answer s e))
past_step s (ByHub e) jobs past free asked = past_hub s e jobs past free asked
past_step s (BySessions e) jobs past free asked = past_sessions s e jobs past

-- ---- each run

pub past_run : (server : ServerIdentity)
    → IsListed server
    → (h : List Done) (to : HubWithSessions)
    → Leads (new_side server) h to
    → Past to (jobs_of h)
past_run server listed [] to is =
    subst (λ s. Past s []) (sym is) (record { listed = listed; each = λ job i. absurd i; rising = tt })
past_run server listed (d ∷ earlier) to (done, led) =
    let past =
    past_step d.before d.event (jobs_of earlier) (past_run server listed earlier d.before led) done.free done.asked in
    subst (λ s. Past s (jobs_of earlier ++ job_in d.answer)) (sym done.after)
    (subst (λ a. Past (side_after d.before d.event) (jobs_of earlier ++ job_in a)) (sym done.answered) past)
