-- What is written down of a hub names the jobs that it gave to the shards.
use Rattle.std.proofs.Common.{◌≡◌, ℕ, zero, suc, ◌+◌, ◌<◌, Bool, true, false, cond, Option, Some, None, List, [], ◌∷◌, ◌++◌, length, map, take, get_or, refl, sym, ap, ◌∙◌, subst, arith, append_assoc, append-nil}
use Rattle.std.proofs.lemmas.List.{map-append, take_more}
use Rattle.subj.specs.Servers.{ServerIdentity, place}
use Rattle.subj.specs.declared.jobs.Job.{Job}
use Rattle.route_values.specs.Frames.{Frame}
use Rattle.route_values.specs.declared.bodies.Body.{Body}
use Rattle.route_values.specs.declared.bodies.Body.TheVariants.{Plus, Minus, Snapshot, Msg}
use Rattle.hub_core.specs.Events as of_hub
use Rattle.hub_core.specs.Peers.{up, after_take}
use Rattle.hub_core.specs.Publishing.{after_publish}
use Rattle.hub_core.specs.Receiving.{after_receive}
use Rattle.hub_core.specs.State as hub
use Rattle.hub_core.specs.Steps.{received_answer}
use Rattle.hub_core.specs.Telling.{after_collect, after_drain}
use Rattle.node_law.specs.Steps.{cut_if}
use Rattle.route_session.specs.Events as of_sessions
use Rattle.route_session.specs.State as sessions
use Rattle.route_session.specs.State.{peer_of_session}
use Rattle.node_parts.specs.Sides.{HubWithSessions, new_side, Event, ByHub, BySessions, Answer, OfHub, IsAsked, side_after, side_answer, sessions_with, job_in, jobs_of}
use Rattle.node_law.specs.declared.faults.NodeFault.{NodeFault}
use Rattle.thread_node.specs.HubTapes.{Made, Did, WasRefused, Logs, asked_of, entries_in, entries_with, hub_entries, hub_entry, steps_in}
use Rattle.thread_node.specs.declared.hub_entries.HubEntry.{HubEntry}
use Rattle.thread_node.specs.declared.hub_entries.HubEvent.{HubEvent}
use Rattle.thread_node.specs.declared.hub_entries.HubEvent.TheVariants as event
use Rattle.thread_node.specs.declared.hub_entries.HubTold.TheVariants.{Refused}
use Rattle.thread_report.specs.Issued.{issued_by, issued_on, owned, owned_in, of_job, turn_and_id}

-- ---- entries, one behind another

owned_append : (xs ys : List HubEntry) → owned_in (xs ++ ys) ≡ owned_in xs + owned_in ys
owned_append [] ys = let e : owned_in ys ≡ 0 + owned_in ys = omega arith in e
owned_append (x ∷ xs) ys = let e = owned_append xs ys in omega arith

issued_append : (n : ℕ) (xs ys : List HubEntry)
    → issued_on n (xs ++ ys) ≡ issued_on n xs ++ issued_on (n + owned_in xs) ys
issued_append n [] ys = let e : n ≡ n + 0 = omega arith in ap (λ m. issued_on m ys) e
issued_append n (x ∷ xs) ys =
    let here = issued_by n x.event x.told in
    let own = owned x.event x.told in
    let then = n + own in
    let sum : then + owned_in xs ≡ n + (own + owned_in xs) = omega arith in
    ap (λ l. here ++ l) (issued_append then xs ys ∙ ap (λ m. issued_on then xs ++ issued_on m ys) sum)
    ∙ sym (append_assoc here (issued_on then xs) (issued_on (n + (own + owned_in xs)) ys))

-- of the first entries, one more
pub owned_more : (xs : List HubEntry) (i : ℕ) (x : HubEntry)
    → i < length xs
    → x ≡ get_or xs i x
    → owned_in (take (i + 1) xs) ≡ owned_in (take i xs) + owned x.event x.told
owned_more xs i x lt is =
    let whole : owned_in (take (i + 1) xs) ≡ owned_in (take i xs) + owned_in (x ∷ []) =
    ap owned_in (take_more xs i x lt ∙ ap (λ y. take i xs ++ y ∷ []) (sym is)) ∙ owned_append (take i xs) (x ∷ []) in
    omega arith

pub issued_more : (n : ℕ) (xs : List HubEntry) (i : ℕ) (x : HubEntry)
    → i < length xs
    → x ≡ get_or xs i x
    → issued_on n (take (i + 1) xs) ≡ issued_on n (take i xs) ++ issued_by (n + owned_in (take i xs)) x.event x.told
issued_more n xs i x lt is =
    ap (issued_on n) (take_more xs i x lt ∙ ap (λ y. take i xs ++ y ∷ []) (sym is))
    ∙ issued_append n (take i xs) (x ∷ [])
    ∙ ap (λ l. issued_on n (take i xs) ++ l) (append-nil (issued_by (n + owned_in (take i xs)) x.event x.told))

-- ---- the hub's steps

-- so many publications of its own clients were taken, and just these jobs were given
record Names (s : HubWithSessions) (tape : List HubEntry) (jobs : List Job) : Type 0 where
  count : owned_in tape ≡ s.hub.published
  names : map (turn_and_id s.server) (issued_on 1 tape) ≡ map of_job jobs

abbrev side_with : HubWithSessions → hub.State → sessions.State → HubWithSessions
side_with s h x = record { server = s.server; hub = h; sessions = x }

more : (s : HubWithSessions) (h : hub.State) (x : sessions.State) (tape new : List HubEntry) (jobs given : List Job)
    (k : ℕ)
    → Names s tape jobs
    → owned_in new ≡ k
    → s.hub.published + k ≡ h.published
    → map (turn_and_id s.server) (issued_on (s.hub.published + 1) new) ≡ map of_job given
    → Names (side_with s h x) (tape ++ new) (jobs ++ given)
more s h x tape new jobs given k n own counted named = record {
  count = owned_append tape new ∙ ap (λ m. m + owned_in new) n.count ∙ ap (λ m. s.hub.published + m) own ∙ counted;
  names =
      let f = turn_and_id s.server in
      let count = n.count in
      let next : 1 + owned_in tape ≡ s.hub.published + 1 = omega arith in
      ap (map f) (issued_append 1 tape new) ∙ map-append f (issued_on 1 tape) (issued_on (1 + owned_in tape) new)
      ∙ ap (λ l. l ++ map f (issued_on (1 + owned_in tape) new)) n.names
      ∙ ap (λ l. map of_job jobs ++ l) (ap (λ m. map f (issued_on m new)) next ∙ named)
      ∙ sym (map-append of_job jobs given);
}

-- a step that gives no job
quiet : (s : HubWithSessions) (h : hub.State) (x : sessions.State) (tape new : List HubEntry) (jobs : List Job)
    → Names s tape jobs
    → owned_in new ≡ 0
    → s.hub.published ≡ h.published
    → map (turn_and_id s.server) (issued_on (s.hub.published + 1) new) ≡ []
    → Names (side_with s h x) (tape ++ new) (jobs ++ [])
quiet s h x tape new jobs n own same none = more s h x tape new jobs [] 0 n own (omega arith) none

-- a frame of a peer, by what it says
module _ (s : HubWithSessions) (frame : Frame) (finished : List ℕ) (tape : List HubEntry) (jobs : List Job)
    (n : Names s tape jobs) where
  abbrev told : Body → Answer
  told body = OfHub (received_answer s.hub frame body)

  abbrev heard : Body → List HubEntry
  heard body = entries_in (ByHub (of_hub.Receive frame finished)) (told body)

  abbrev after : HubWithSessions
  after = side_with s (after_receive s.server s.hub frame) (sessions_with s (of_hub.Receive frame finished))

  taken : (body : Body) → Names after (tape ++ heard body) (jobs ++ job_in (told body))
  taken (Plus weighted) = quiet s after.hub after.sessions tape (heard (Plus weighted)) jobs n refl refl refl
  taken (Minus key) = quiet s after.hub after.sessions tape (heard (Minus key)) jobs n refl refl refl
  taken (Snapshot keys) = quiet s after.hub after.sessions tape (heard (Snapshot keys)) jobs n refl refl refl
  taken (Msg content queues) =
      more s after.hub after.sessions tape (heard (Msg content queues)) jobs (job_in (told (Msg content queues))) 0 n
      refl (omega arith) refl

names_hub : (s : HubWithSessions) (e : of_hub.Event) (tape : List HubEntry) (jobs : List Job)
    → Names s tape jobs
    → IsAsked s (ByHub e)
    → Names (side_after s (ByHub e)) (tape ++ entries_in (ByHub e) (side_answer s (ByHub e)))
    (jobs ++ job_in (side_answer s (ByHub e)))
names_hub s (of_hub.Publish p finished) tape jobs n asked =
    let e = ByHub (of_hub.Publish p finished) in
    more s (after_publish s.server s.hub p) s.sessions tape (entries_in e (side_answer s e)) jobs
    (job_in (side_answer s e)) 1 n refl refl refl
names_hub s (of_hub.Receive frame finished) tape jobs n asked = taken s frame finished tape jobs n frame.body
names_hub s (of_hub.Collect shard deltas) tape jobs n asked =
    let e = ByHub (of_hub.Collect shard deltas) in
    quiet s (after_collect s.server s.hub deltas) (sessions_with s (of_hub.Collect shard deltas)) tape
    (entries_in e (side_answer s e)) jobs n refl refl refl
names_hub s of_hub.Drain tape jobs n asked =
    let e = ByHub of_hub.Drain in
    quiet s (after_drain s.server s.hub) (sessions_with s of_hub.Drain) tape (entries_in e (side_answer s e)) jobs n
    refl refl refl
names_hub s (of_hub.Up q inc) tape jobs n asked = absurd asked
names_hub s (of_hub.Cut q) tape jobs n asked = absurd asked
names_hub s (of_hub.TakeFrom q count) tape jobs n asked =
    let e = ByHub (of_hub.TakeFrom q count) in
    quiet s (after_take s.hub q count) s.sessions tape (entries_in e (side_answer s e)) jobs n refl refl refl

cut_published : (h : hub.State) (o : Option ℕ) → h.published ≡ (cut_if h o).published
cut_published h None = refl
cut_published h (Some q) = refl

-- what the sessions are asked
module _ (s : HubWithSessions) (tape : List HubEntry) (jobs : List Job) (n : Names s tape jobs) where
  by_sessions : (e : of_sessions.Event) (h : hub.State)
      → s.hub.published ≡ h.published
      → owned_in (entries_in (BySessions e) (side_answer s (BySessions e))) ≡ 0
      → map (turn_and_id s.server)
      (issued_on (s.hub.published + 1) (entries_in (BySessions e) (side_answer s (BySessions e)))) ≡ []
      → Names (side_with s h (side_after s (BySessions e)).sessions)
      (tape ++ entries_in (BySessions e) (side_answer s (BySessions e))) (jobs ++ [])
  by_sessions e h same own none =
      quiet s h (side_after s (BySessions e)).sessions tape (entries_in (BySessions e) (side_answer s (BySessions e)))
      jobs n own same none

  names_sessions : (e : of_sessions.Event)
      → Names (side_after s (BySessions e)) (tape ++ entries_in (BySessions e) (side_answer s (BySessions e)))
      (jobs ++ [])
  names_sessions (of_sessions.Dial q) = by_sessions (of_sessions.Dial q) s.hub refl refl refl
  names_sessions of_sessions.Accept = by_sessions of_sessions.Accept s.hub refl refl refl
  names_sessions (of_sessions.OnInfo session info least) =
      by_sessions (of_sessions.OnInfo session info least) (up s.server s.hub (place s.server info.server_name) info.inc)
      refl refl refl
  names_sessions (of_sessions.OnConnect session connect least) =
      by_sessions (of_sessions.OnConnect session connect least)
      (up s.server s.hub (place s.server connect.server_name) connect.inc) refl refl refl
  names_sessions (of_sessions.Cut session) =
      let o = peer_of_session session s.sessions.standing in
      by_sessions (of_sessions.Cut session) (cut_if s.hub o) (cut_published s.hub o) refl refl

names_step : (s : HubWithSessions) (e : Event) (tape : List HubEntry) (jobs : List Job)
    → Names s tape jobs
    → IsAsked s e
    → Names (side_after s e) (tape ++ entries_in e (side_answer s e)) (jobs ++ job_in (side_answer s e))
names_step s (ByHub e) tape jobs n asked = names_hub s e tape jobs n asked
names_step s (BySessions e) tape jobs n asked = names_sessions s tape jobs n e

-- what was refused gives no job
gives_none : (e : HubEvent) (why : NodeFault)
    → (owned e (Refused why) ≡ 0) × ((n : ℕ) → issued_by n e (Refused why) ≡ [])
gives_none (event.Publish conn publication word finished) why = (refl, (λ n. refl))
gives_none (event.Receive frame finished) why = (refl, (λ n. refl))
gives_none (event.Collect shard deltas) why = (refl, (λ n. refl))
gives_none event.Drain why = (refl, (λ n. refl))
gives_none (event.TakeFrames peer count) why = (refl, (λ n. refl))
gives_none (event.Dial peer) why = (refl, (λ n. refl))
gives_none event.Accept why = (refl, (λ n. refl))
gives_none (event.Info session info) why = (refl, (λ n. refl))
gives_none (event.Connect session connect) why = (refl, (λ n. refl))
gives_none (event.Cut session) why = (refl, (λ n. refl))

names_refused : (s : HubWithSessions) (events : List HubEvent) (why : NodeFault) (tape : List HubEntry)
    (jobs : List Job)
    → Names s tape jobs
    → Names s (tape ++ entries_with events (Refused why ∷ [])) jobs
names_refused s [] why tape jobs n = subst (λ t. Names s t jobs) (sym (append-nil tape)) n
names_refused s (e ∷ events) why tape jobs n =
    let new = hub_entry e (Refused why) ∷ [] in
    let none = gives_none e why in
    let next = 1 + owned_in tape in
    record {
      count =
          let whole : owned_in (tape ++ new) ≡ owned_in tape + (owned e (Refused why) + 0) = owned_append tape new in
          let own : owned e (Refused why) ≡ 0 = none.0 in
          let count = n.count in
          omega arith;
      names =
          ap (map (turn_and_id s.server))
          (issued_append 1 tape new ∙ ap (λ l. issued_on 1 tape ++ (l ++ [])) (none.1 next)
          ∙ append-nil (issued_on 1 tape))
          ∙ n.names;
    }

names_run : (server : ServerIdentity) (log : List Made) (to : HubWithSessions)
    → Logs (new_side server) log to
    → Names to (hub_entries log) (jobs_of (steps_in log))
names_run server [] to is = subst (λ s. Names s [] []) (sym is) (record { count = refl; names = refl })
names_run server (Did d ∷ earlier) to (done, led) =
    let tape = hub_entries earlier in
    let jobs = jobs_of (steps_in earlier) in
    let n = names_step d.before d.event tape jobs (names_run server earlier d.before led) done.asked in
    subst (λ s. Names s (tape ++ entries_in d.event d.answer) (jobs ++ job_in d.answer)) (sym done.after)
    (subst (λ a. Names (side_after d.before d.event) (tape ++ entries_in d.event a) (jobs ++ job_in a))
    (sym done.answered) n)
names_run server (WasRefused before e why ∷ earlier) to (refuses, same, led) =
    let tape = hub_entries earlier in
    let jobs = jobs_of (steps_in earlier) in
    subst (λ s. Names s (tape ++ entries_with (asked_of e) (Refused why ∷ [])) jobs) (sym same)
    (names_refused before (asked_of e) why tape jobs (names_run server earlier before led))

-- of all that a hub did, or of nothing where nothing is written down
pub names_all : (kept : Bool) (server : ServerIdentity) (log : List Made) (to : HubWithSessions) (issued : List Job)
    (tape : List HubEntry)
    → Logs (new_side server) log to
    → issued ≡ jobs_of (steps_in log)
    → tape ≡ cond kept (hub_entries log) []
    → map (turn_and_id to.server) (issued_on 1 tape) ≡ cond kept (map of_job issued) []
names_all true server log to issued tape led gave is =
    let n = names_run server log to led in
    ap (λ t. map (turn_and_id to.server) (issued_on 1 t)) is ∙ n.names ∙ ap (map of_job) (sym gave)
names_all false server log to issued tape led gave is = ap (λ t. map (turn_and_id to.server) (issued_on 1 t)) is
