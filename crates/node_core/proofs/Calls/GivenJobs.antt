-- A job for each shard: the hub hears how far the shards have come, the next turn may be issued, and there is room.
use Rattle.std.proofs.Common.{◌≡◌, ℕ, suc, ◌+◌, ◌<◌, ◌≤◌, nat_lt, nat_le, ◌||◌, List, [], ◌∷◌, length, map, replicate, take, Option, Some, None, Result, Ok, Err, refl, sym, ap, ◌∙◌, subst, arith}
use Rattle.std.specs.Prelude.{if◌then◌else◌}
use Rattle.std.specs.Option.{option_map, option_or}
use Rattle.std.proofs.lemmas.List.{take_all}
use Rattle.list_laws.proofs.Tests.{no_cause, or_false, le_false}
use Rattle.list_laws.proofs.Changes.{get_map}
use Rattle.subj.specs.Servers.{ServerIdentity}
use Rattle.subj.specs.Answers.{IsAnswered, IsRefused}
use Rattle.subj.specs.declared.failures.Failure.{Failure}
use Rattle.subj.specs.declared.failures.Failure.TheVariants.{Refused, OutOfMemory}
use Rattle.subj.specs.declared.jobs.Job.{Job}
use Rattle.subj.specs.declared.limits.TheConstants.{MAX_COUNTER, MAX_QUEUE_NAMES, MAX_SHARDS}
use Rattle.claim_race.specs.Race.{RaceState, busy_of, shards_of}
use Rattle.route_values.specs.Frames.{Frame}
use Rattle.hub_core.specs.State as hub
use Rattle.hub_core.specs.Chosen.{IsPlanOf}
use Rattle.hub_core.specs.Calls.{after_frames}
use Rattle.hub_core.specs.declared.faults.HubFault.{HubFault}
use Rattle.hub_core.specs.declared.faults.HubFault.TheVariants.{Busy, Spent, TooManyQueues}
use Rattle.hub_core.specs.Publishing.{Publication, busy_fault, names_of, publish_fault, publish_refusal, after_publish, own_job, frames_of}
use Rattle.hub_core.proofs.Neighbours.Known.{map_length}
use Rattle.hub_core.proofs.Steps.Rooms.{or_none, map_none, has_room}
use Rattle.shard_core.specs.Lines.{Turns, begun_turn}
use Rattle.node_law.specs.declared.faults.NodeFault.{NodeFault}
use Rattle.node_law.specs.declared.faults.NodeFault.TheVariants.{Hub}
use Rattle.node_law.specs.State.{ShardWithJobs, finished_turns}
use Rattle.node_law.specs.Answers.{Issued}
use Rattle.node_law.specs.Steps.{line_with_job}
use Rattle.node_parts.specs.Sides.{HubWithSessions}
use Rattle.node_core.specs.Served.{Served, IsKept, MayIssue, AreGiven, PublishStep, failure_of_hub, of_hub_answer, served_of_parts}
use Rattle.node_law.proofs.Moves.Hubs.{all_room}

-- ---- what the hub answers

-- where the hub refuses, for an answer of another type
pub hub_refuses : {X : Type 0} (cause : Option HubFault) (done : X → Type 0) (same : Type 0) (why : Failure HubFault)
    (told : Result X (Failure NodeFault))
    → told ≡ Err (failure_of_hub why)
    → IsRefused cause same why
    → IsAnswered (option_map Hub cause) done same told
hub_refuses {X = X} cause done same why told answers h =
    subst (IsAnswered (option_map Hub cause) done same) (sym answers) (go why h)
  where
    go : (why : Failure HubFault)
        → IsRefused cause same why
        → IsAnswered {T = X} (option_map Hub cause) done same (Err (failure_of_hub why))
    go (Refused fault) h = (ap (option_map Hub) h.0, h.1)
    go OutOfMemory h = (ap (option_map Hub) h.0, h.1)

-- what it answers, its server answers
pub hub_answers : {X : Type 0} (cause : Option HubFault) (done : X → Type 0) (same : Type 0)
    (answer : Result X (Failure HubFault)) (told : Result X (Failure NodeFault))
    → told ≡ of_hub_answer answer
    → IsAnswered cause done same answer
    → IsAnswered (option_map Hub cause) done same told
hub_answers {X = X} cause done same answer told answers h =
    subst (IsAnswered (option_map Hub cause) done same) (sym answers) (go answer h)
  where
    go : (answer : Result X (Failure HubFault))
        → IsAnswered cause done same answer
        → IsAnswered (option_map Hub cause) done same (of_hub_answer answer)
    go (Ok x) h = (ap (option_map Hub) h.0, h.1)
    go (Err why) h = hub_refuses cause done same why (Err (failure_of_hub why)) refl h

-- what is refused leaves all as it was
pub refused_same : (cause : Option HubFault) (same : Type 0) (why : Failure HubFault) → IsRefused cause same why → same
refused_same cause same (Refused fault) h = h.1
refused_same cause same OutOfMemory h = h.1

-- a refusal is that of the same cause, and leaves what that leaves
pub refused_as : (x y : Option HubFault) (p q : Type 0) (why : Failure HubFault)
    → x ≡ y
    → (p → q)
    → IsRefused x p why
    → IsRefused y q why
refused_as x y p q (Refused fault) e f h = (sym e ∙ h.0, f h.1)
refused_as x y p q OutOfMemory e f h = (sym e ∙ h.0, f h.1)

-- ---- how far the shards have come

pub finished_length : (lines : List ShardWithJobs) → length (finished_turns lines) ≡ length lines
finished_length lines = map_length (λ (line : ShardWithJobs). line.shard.finished) lines

-- there is a line for each shard of the race
pub record AreCounted (s : Served) (count : ℕ) : Type 0 where
  pub shards : count ≡ s.server.shards
  pub all : count ≡ shards_of s.node.race
  pub some : 1 ≤ count
  pub few : count ≤ MAX_SHARDS

pub are_counted : (s : Served) (count : ℕ) → IsKept s → count ≡ length s.node.lines → AreCounted s count
are_counted s count kept is =
    let size = kept.sound.size in
    let long = finished_length s.node.lines in
    let all = ap length kept.sound.raced.finished in
    let least = kept.some in
    let most = kept.few in
    record { shards = omega arith; all = omega arith; some = omega arith; few = omega arith }

-- what the hub is told of the shards is what they finished
pub busy_same : (s : Served) (finished : List ℕ)
    → IsKept s
    → take s.server.shards finished ≡ s.node.race.finished
    → busy_fault s.server s.node.hub finished ≡ busy_fault s.server s.node.hub (finished_turns s.node.lines)
busy_same s finished kept e =
    let whole = take_all s.server.shards (finished_turns s.node.lines)
    (let size = kept.sound.size in let long = finished_length s.node.lines in omega arith) in
    ap (λ t. option_map Busy (busy_of s.node.hub.issued t)) (e ∙ kept.sound.raced.finished ∙ sym whole)

pub publish_same : (server : ServerIdentity) (hub : hub.State) (p : Publication) (x y : List ℕ)
    → busy_fault server hub x ≡ busy_fault server hub y
    → publish_refusal server hub p x ≡ publish_refusal server hub p y
publish_same server hub p x y e = ap (λ b. option_or b (publish_fault server hub p)) e

-- so a publication is refused just as the hub says
pub publish_heard : (s : Served) (p : Publication) (count : ℕ) (finished : List ℕ)
    → IsKept s
    → count ≡ length s.node.lines
    → take count finished ≡ s.node.race.finished
    → publish_refusal s.server s.node.hub p finished
    ≡ publish_refusal s.server s.node.hub p (finished_turns s.node.lines)
publish_heard s p count finished kept is told =
    publish_same s.server s.node.hub p finished (finished_turns s.node.lines)
    (busy_same s finished kept (ap (λ n. take n finished) (sym (are_counted s count kept is).shards) ∙ told))

-- ---- there is room

-- so many turns wait as there are from the last one begun to the last one issued
turns_count : (begun issued : ℕ) (waiting : List Job) → Turns begun waiting issued → length waiting + begun ≡ issued
turns_count begun issued [] t = (let e : begun ≡ issued = t in omega arith)
turns_count begun issued (job ∷ jobs) t = let n = turns_count (suc begun) issued jobs t.1 in omega arith

begun_least : (hand : Option Job) (finished : ℕ) → finished ≤ begun_turn hand finished
begun_least None finished = omega arith
begun_least (Some job) finished = omega arith

pub may_issue : (s : Served)
    → IsKept s
    → busy_fault s.server s.node.hub (finished_turns s.node.lines) ≡ None
    → s.node.hub.issued < MAX_COUNTER
    → MayIssue s.node.race s.node.lines
may_issue s kept free left =
    let same = kept.sound.issued in
    let whole = take_all s.server.shards (finished_turns s.node.lines)
    (let size = kept.sound.size in let long = finished_length s.node.lines in omega arith) in
    let none = map_none Busy (busy_of s.node.hub.issued (take s.server.shards (finished_turns s.node.lines))) free in
    record {
      turn = omega arith;
      free = (λ k. busy_of (sym same k) ((kept.sound.raced.finished ∙ sym whole) k)) ∙ none;
      room = λ place line at.
          let sound = (kept.sound.lines place line at).sound in
          let count =
          turns_count (begun_turn line.shard.hand line.shard.finished) s.node.race.issued line.waiting sound.turns in
          let least = begun_least line.shard.hand line.shard.finished in
          let room = all_room s.server s.node kept.sound
          (has_room s.server s.node.hub (finished_turns s.node.lines) free) place line.shard.finished
          (get_map (λ (x : ShardWithJobs). x.shard.finished) s.node.lines place line at) in
          omega arith;
    }

-- of a publication that is not refused
pub publish_ready : (s : Served) (p : Publication)
    → IsKept s
    → publish_refusal s.server s.node.hub p (finished_turns s.node.lines) ≡ None
    → MayIssue s.node.race s.node.lines
publish_ready s p kept cause =
    let hub = s.node.hub in
    let o = or_none (busy_fault s.server hub (finished_turns s.node.lines)) (publish_fault s.server hub p) cause in
    let spent = no_cause (nat_le MAX_COUNTER hub.published || nat_le MAX_COUNTER hub.issued) Spent
    (if nat_lt MAX_QUEUE_NAMES (length (names_of s.server hub p)) then Some TooManyQueues else None) o.1 in
    may_issue s kept o.0
    (le_false MAX_COUNTER hub.issued
    (or_false (nat_le MAX_COUNTER hub.published) (nat_le MAX_COUNTER hub.issued) spent.0).1)

-- there are as many lines as before
pub given_length : (race new_race : RaceState) (lines new_lines : List ShardWithJobs) (jobs : List Job) (job : Job)
    → AreGiven race lines jobs new_race new_lines
    → jobs ≡ replicate (length lines) job
    → length new_lines ≡ length lines
given_length race new_race lines new_lines jobs job given alike =
    ap length (given.given job alike) ∙ map_length (line_with_job job) lines

-- ---- what is done

-- what a publication owes, with the jobs that the lines got
pub record IsPublished (old new : HubWithSessions) (race new_race : RaceState) (lines new_lines : List ShardWithJobs)
    (p : Publication) (turn frames : ℕ) : Type 0 where
  pub job : Job
  pub sent : List Frame
  pub jobs : List Job
  pub plan : IsPlanOf old.server old.hub p job sent
  pub turn_is : turn ≡ job.turn
  pub frames_are : frames ≡ length sent
  pub side : new ≡ record old { hub = after_frames old.server old.hub sent }
  pub alike : jobs ≡ replicate (length lines) job
  pub given : AreGiven race lines jobs new_race new_lines

pub publish_done : (old new : HubWithSessions) (race new_race : RaceState) (lines new_lines : List ShardWithJobs)
    (p : Publication) (turn frames : ℕ)
    → publish_refusal old.server old.hub p (finished_turns lines) ≡ None
    → IsPublished old new race new_race lines new_lines p turn frames
    → PublishStep (served_of_parts old race lines) p turn frames (served_of_parts new new_race new_lines)
publish_done old new race new_race lines new_lines p turn frames cause done = record {
  step = record {
    race = new_race;
    server = ap (λ (s : HubWithSessions). s.server) done.side;
    step = record {
      cause = ap (option_map Hub) cause;
      moves = done.given.issued;
      after =
          let side_is : new ≡ record old { hub = after_publish old.server old.hub p } =
          done.side ∙ ap (λ fs. record old { hub = after_frames old.server old.hub fs }) done.plan.frames in
          let lines_are : new_lines ≡ map (line_with_job (own_job old.server old.hub p)) lines =
          done.given.given done.job done.alike ∙ ap (λ (job : Job). map (line_with_job job) lines) done.plan.job in
          λ k. (served_of_parts (side_is k) new_race (lines_are k)).node;
    };
  };
  answered =
      let turn_is : turn ≡ (own_job old.server old.hub p).turn =
      done.turn_is ∙ ap (λ (job : Job). job.turn) done.plan.job in
      let frames_are : frames ≡ length (frames_of old.server old.hub p) =
      done.frames_are ∙ ap length done.plan.frames in
      λ k. Issued (turn_is k) (frames_are k);
}
