-- A shard and its steps as the cluster law sees them: without outboxes, header options, deltas,
-- limits, maxima and echo.
use Rattle.std.specs.Prelude.{◌≡◌, ◌≢◌, ℕ, ◌+◌, Bool, true, false, nat_eq, List, [], ◌∷◌, map, Option, Some, None}
use Rattle.std.specs.List.{list_any}
use Rattle.cluster_law.specs.Config.{Config, every_rule}
use Rattle.cluster_law.specs.History as history
use Rattle.cluster_law.specs.Names as law_names
use Rattle.cluster_law.specs.Race.{Race, Keeps, WinsPair}
use Rattle.cluster_law.specs.Shard as law
use Rattle.cluster_law.specs.Values.{content_of}
use Rattle.list_laws.specs.Lists.{In, Each, Pairs}
use Rattle.sub_table.specs.declared.Subscription.{Subscription}
use Rattle.subj.specs.Matching.{subject_matches}
use Rattle.subj.specs.declared.identities.PubId.{PubId}
use Rattle.subj.specs.declared.jobs.Job.{Job}
use Rattle.subj.specs.declared.keys.Key.{Key}
use Rattle.shard_core.specs.Shards.{State}
use Rattle.shard_core.specs.Closings.{serials_of}
use Rattle.shard_core.specs.Owed.{whole_walk, candidate_of}
use Rattle.shard_core.specs.ShardEvents.{Event, Attach, Subscribe, Unsubscribe, Reply, SetHeaders, Shut, Detach, Take, Begin, Claim, End, DropJob, Drain, Collect}
use Rattle.shard_core.specs.ShardSteps.{sub_called, shard_refusal, shard_after}
use Rattle.shard_core.specs.Lines.{SoundLine, HasJob, waiting_after}

-- The law names servers by their places, and shards from 0. A shard never looks into the name of a
-- publication, so all is said for any way to name them.
abbrev pub Naming : Type 0
Naming = PubId → law_names.PubId

abbrev pub job_of : Naming → ℕ → ℕ → Job → history.Job
job_of names n inc job = record {
  node = n;
  inc = inc;
  turn = job.turn;
  id = names job.id;
  content = content_of job.message;
  names = job.queues;
}

abbrev pub hand_of : Naming → ℕ → ℕ → Option Job → Option history.Job
hand_of names n inc None = None
hand_of names n inc (Some job) = Some (job_of names n inc job)

abbrev pub sub_of : Subscription → law.Subscription
sub_of sub = record {
  serial = sub.serial;
  connection = sub.conn;
  sid = sub.sid;
  pattern = sub.key.pattern;
  queue = sub.key.queue;
}

abbrev pub shard_of : Naming → ℕ → ℕ → State → List Job → law.Shard
shard_of names n inc s waiting = record {
  finished = s.finished;
  hand = hand_of names n inc s.hand;
  next = s.next_index;
  waiting = map (job_of names n inc) waiting;
  serials = s.opened;
  subscriptions = map sub_of s.subs;
}

-- any limits, and the router's matching
abbrev pub matching : Config → Config
matching c = record c { matches = subject_matches }

-- ---- the race

-- a claim that is won takes its pair; all else leaves the race as it was over the window
abbrev pub ClaimMoves : ℕ → ℕ → Option Job → Option Subscription → Bool → Race → Race → Type 0
ClaimMoves window index None sub won race after = Keeps window race after
ClaimMoves window index (Some job) None won race after = Keeps window race after
ClaimMoves window index (Some job) (Some sub) true race after =
    WinsPair every_rule window race job.turn index after
ClaimMoves window index (Some job) (Some sub) false race after = Keeps window race after

abbrev pub RaceMoves : ℕ → State → Event → Race → Race → Type 0
RaceMoves window s Attach race after = Keeps window race after
RaceMoves window s (Subscribe conn key sid) race after = Keeps window race after
RaceMoves window s (Unsubscribe conn sid max) race after = Keeps window race after
RaceMoves window s (Reply conn frame) race after = Keeps window race after
RaceMoves window s (SetHeaders conn on) race after = Keeps window race after
RaceMoves window s (Shut conn text) race after = Keeps window race after
RaceMoves window s (Detach conn) race after = Keeps window race after
RaceMoves window s (Take conn count) race after = Keeps window race after
RaceMoves window s (Begin job) race after = Keeps window race after
RaceMoves window s (Claim index won) race after =
    ClaimMoves window index s.hand (candidate_of s s.hand index) won race after
RaceMoves window s End race after = Keeps window race after
RaceMoves window s (DropJob waiting) race after = Keeps window race after
RaceMoves window s Drain race after = Keeps window race after
RaceMoves window s Collect race after = Keeps window race after

-- ---- who was given a message, for which job

abbrev pub given_by_claim : Option Job → Option Subscription → Bool → List Subscription
given_by_claim None sub won = []
given_by_claim (Some job) None won = []
given_by_claim (Some job) (Some sub) true = sub ∷ []
given_by_claim (Some job) (Some sub) false = []

abbrev pub given_by : State → Event → List Subscription
given_by s Attach = []
given_by s (Subscribe conn key sid) = []
given_by s (Unsubscribe conn sid max) = []
given_by s (Reply conn frame) = []
given_by s (SetHeaders conn on) = []
given_by s (Shut conn text) = []
given_by s (Detach conn) = []
given_by s (Take conn count) = []
given_by s (Begin job) = (whole_walk s job).given
given_by s (Claim index won) = given_by_claim s.hand (candidate_of s s.hand index) won
given_by s End = []
given_by s (DropJob waiting) = []
given_by s Drain = []
given_by s Collect = []

abbrev pub job_by : State → Event → Option Job
job_by s Attach = None
job_by s (Subscribe conn key sid) = None
job_by s (Unsubscribe conn sid max) = None
job_by s (Reply conn frame) = None
job_by s (SetHeaders conn on) = None
job_by s (Shut conn text) = None
job_by s (Detach conn) = None
job_by s (Take conn count) = None
job_by s (Begin job) = Some job
job_by s (Claim index won) = s.hand
job_by s End = None
job_by s (DropJob waiting) = None
job_by s Drain = None
job_by s Collect = None

-- just these subscriptions, each once, in any order
pub record AreThese (given subs : List Subscription) : Type 0 where
  pub some : Each (λ sub. In sub given) subs
  pub all : Each (λ sub. In sub subs) given
  pub once : Pairs (λ u v. u.serial ≢ v.serial) subs

-- ---- what a step adds to the histories

abbrev pub opened_by : ℕ → ℕ → ℕ → ℕ → State → ℕ → Key → List ℕ → Option Subscription
    → List history.Life
opened_by n inc now place s conn key sid (Some same) = []
opened_by n inc now place s conn key sid None =
    record {
      id = law.life_id n inc place (s.opened + 1);
      connection = conn;
      sid = sid;
      pattern = key.pattern;
      queue = key.queue;
      opened = now;
    } ∷ []

abbrev pub lives_by : ℕ → ℕ → ℕ → ℕ → State → Event → List history.Life
lives_by n inc now place s Attach = []
lives_by n inc now place s (Subscribe conn key sid) =
    opened_by n inc now place s conn key sid (sub_called conn sid s.subs)
lives_by n inc now place s (Unsubscribe conn sid max) = []
lives_by n inc now place s (Reply conn frame) = []
lives_by n inc now place s (SetHeaders conn on) = []
lives_by n inc now place s (Shut conn text) = []
lives_by n inc now place s (Detach conn) = []
lives_by n inc now place s (Take conn count) = []
lives_by n inc now place s (Begin job) = []
lives_by n inc now place s (Claim index won) = []
lives_by n inc now place s End = []
lives_by n inc now place s (DropJob waiting) = []
lives_by n inc now place s Drain = []
lives_by n inc now place s Collect = []

abbrev pub placements_for : Naming → ℕ → ℕ → ℕ → ℕ → Option Job → List Subscription
    → List history.Placement
placements_for names n inc now place None subs = []
placements_for names n inc now place (Some job) subs =
    map (law.placement n inc place now (job_of names n inc job)) (map sub_of subs)

abbrev pub is_open_serial : ℕ → List Subscription → Bool
is_open_serial serial subs = list_any (nat_eq serial) (serials_of subs)

-- A shard and its line become others, which is a step of the law's shard that adds these lives and
-- placements. What was open before and is not after is among what closed.
pub record LawStep (c : Config) (names : Naming) (n inc now place issued : ℕ)
    (race after_race : Race) (s : State) (waiting : List Job) (after : State) (rest : List Job)
    (lives : List history.Life) (placements : List history.Placement) : Type 0 where
  pub event : law.ShardEvent
  pub closed : List ℕ
  pub steps : law.ShardStep every_rule (matching c) n inc now place race
      (shard_of names n inc s waiting) event
      (record history.nothing {
        lives = lives;
        closings = law.closings_of n inc place now closed;
        placements = placements;
      })
      (shard_of names n inc after rest) after_race
  pub closes : (serial : ℕ)
      → is_open_serial serial s.subs ≡ true
      → is_open_serial serial after.subs ≡ false
      → In serial closed
  pub sound : SoundLine c.window issued after rest

-- An event of a shard as a step of the law's shard, which gives messages to these subscriptions.
abbrev pub IsLawStep : Config → Naming → ℕ → ℕ → ℕ → ℕ → ℕ → Race → Race → State → List Job → Event
    → List Subscription → Type 0
IsLawStep c names n inc now place issued race after_race s waiting e subs =
    LawStep c names n inc now place issued race after_race s waiting (shard_after s e)
    (waiting_after s.hand e waiting) (lives_by n inc now place s e)
    (placements_for names n inc now place (job_by s e) subs)

-- This is the law that shards owe.
abbrev pub ShardFollows : Type 0
ShardFollows =
    (c : Config) (names : Naming) (n inc now place issued : ℕ) (race after_race : Race) (s : State)
    (waiting : List Job) (e : Event) (subs : List Subscription)
    → SoundLine c.window issued s waiting
    → shard_refusal s e ≡ None
    → HasJob s.hand e waiting
    → RaceMoves c.window s e race after_race
    → AreThese (given_by s e) subs
    → IsLawStep c names n inc now place issued race after_race s waiting e subs
