-- One server end to end: who wins a queue name of a job, what that puts, and which jobs the shards
-- work off.
use Rattle.std.specs.Prelude.{◌≡◌, ◌≢◌, ℕ, ◌<◌, ◌-◌, Bool, false, ◌&&◌, nat_eq, List, [], ◌∷◌, ◌++◌, length, filter, Option, Some, None, is_some, if◌then◌else◌}
use Rattle.std.specs.List.{list_any}
use Rattle.list_laws.specs.Lists.{In, Each, Pairs}
use Rattle.subj.specs.Servers.{ServerIdentity, IsListed}
use Rattle.subj.specs.declared.jobs.Job.{Job}
use Rattle.sub_table.specs.declared.Subscription.{Subscription}
use Rattle.outbox.specs.Views.{Written}
use Rattle.claim_race.specs.Race.{RaceState}
use Rattle.shard_core.specs.Owed.{candidate_of, placed_for}
use Rattle.shard_core.specs.Shards.{Client, takes_headers}
use Rattle.shard_core.specs.Puts.{entries_for}
use Rattle.shard_core.specs.declared.calls.Placed.{Placed}
use Rattle.node_law.specs.AsLaw.{waits_at, jobs_by}
use Rattle.node_law.specs.Events.{ShardWork, Attach, Begin, Claim, End, DropJob, DrainShard, OwnEvent, OfConn, AtShard, Publish, Collect, Drain, Dial, Accept, CutSession, TakeFrames, NodeEvent, Own, Receive, OnInfo, OnConnect}
use Rattle.node_law.specs.Race.{race_of}
use Rattle.node_law.specs.Runs.{Done, Ran}
use Rattle.node_law.specs.Sound.{SoundNode}
use Rattle.node_law.specs.State.{ShardWithJobs, Node}
use Rattle.node_law.specs.Steps.{shard_line, NodeStep}

-- ---- claims

-- A Claim that was answered: the number of the shard, its job in hand (whose turn it is), the index
-- of a queue name, the member that the shard would give the message to, which is open, matches, is
-- permitted and has room at that moment, whether that member's connection took headers then, and
-- whether the claim was won; both are read only where there is such a member.
pub record Claimed : Type 0 where
  pub shard : ℕ
  pub job : Job
  pub index : ℕ
  pub candidate : Option Subscription
  pub headers : Bool
  pub won : Bool

abbrev pub option_for : List Client → Option Subscription → Bool
option_for clients None = false
option_for clients (Some sub) = takes_headers sub.conn clients

abbrev pub claimed_with : ℕ → ℕ → Bool → List Client → Option Job → Option Subscription
    → List Claimed
claimed_with shard index won clients None sub = []
claimed_with shard index won clients (Some job) sub =
    record {
      shard = shard;
      job = job;
      index = index;
      candidate = sub;
      headers = option_for clients sub;
      won = won;
    } ∷ []

abbrev pub claimed_at : ℕ → ℕ → Bool → Option ShardWithJobs → List Claimed
claimed_at shard index won None = []
claimed_at shard index won (Some line) =
    claimed_with shard index won line.shard.clients line.shard.hand
    (candidate_of line.shard line.shard.hand index)

abbrev pub work_claims : Node → ℕ → ShardWork → Bool → List Claimed
work_claims a shard Attach won = []
work_claims a shard Begin won = []
work_claims a shard (Claim index) won = claimed_at shard index won (shard_line a shard)
work_claims a shard End won = []
work_claims a shard DrainShard won = []
work_claims a shard DropJob won = []

abbrev pub own_claims : Node → OwnEvent → Bool → List Claimed
own_claims a (OfConn conn event) won = []
own_claims a (AtShard shard work) won = work_claims a shard work won
own_claims a (Publish p) won = []
own_claims a (Collect shard) won = []
own_claims a Drain won = []
own_claims a (Dial q) won = []
own_claims a Accept won = []
own_claims a (CutSession session) won = []
own_claims a (TakeFrames q count) won = []

abbrev pub claims_by : Node → NodeEvent → Bool → List Claimed
claims_by a (Own event) won = own_claims a event won
claims_by a (Receive frame) won = []
claims_by a (OnInfo session info) won = []
claims_by a (OnConnect session connect) won = []

-- the Claims of a run, the newest first
abbrev pub claims_of : List Done → List Claimed
claims_of [] = []
claims_of (d ∷ earlier) = claims_by d.before d.event d.won ++ claims_of earlier

-- ---- who wins

abbrev pub is_of_pair : ℕ → ℕ → Claimed → Bool
is_of_pair turn index x = nat_eq x.job.turn turn && nat_eq x.index index

-- it had a candidate
abbrev pub is_tried : ℕ → ℕ → Claimed → Bool
is_tried turn index x = is_some x.candidate && is_of_pair turn index x

-- and won
abbrev pub is_win : ℕ → ℕ → Claimed → Bool
is_win turn index x = x.won && is_tried turn index x

-- Of the Claims of one turn and index, over all shards, exactly one won where any had a candidate,
-- and none otherwise (NATS documentation, "Queue Groups": one member is chosen).
abbrev pub HasOneWinner : List Claimed → Type 0
HasOneWinner claims =
    (turn index : ℕ)
    → length (filter (is_win turn index) claims)
    ≡ (if list_any (is_tried turn index) claims then 1 else 0)

-- in each run each queue name of each turn has one winner
abbrev pub OneWinner : Type 0
OneWinner =
    (server : ServerIdentity) (h : List Done) (a : Node)
    → IsListed server
    → Ran server h a
    → HasOneWinner (claims_of h)

-- in each run nothing is won in a turn that was not issued
abbrev pub TurnsAreFresh : Type 0
TurnsAreFresh =
    (server : ServerIdentity) (h : List Done) (a : Node)
    → IsListed server
    → Ran server h a
    → (turn index : ℕ)
    → a.race.issued < turn
    → In (turn, index) (race_of a.race).won
    → ⊥

-- ---- what a Claim puts

-- the message for its candidate where it was won, in the form that its connection takes, and
-- nothing where it was lost or had no candidate
abbrev pub placed_with : ℕ → Bool → Job → Option Subscription → Bool → List Placed
placed_with shard option job None won = []
placed_with shard option job (Some sub) won =
    if won then placed_for shard option job sub.key.queue sub ∷ [] else []

-- for a connection of the shard at this place: shards are counted from 1, and places from 0
abbrev pub placed_by : Claimed → ℕ → ℕ → List Written
placed_by x place conn =
    if nat_eq (x.shard - 1) place
    then entries_for conn (placed_with x.shard x.headers x.job x.candidate x.won)
    else []

-- each Claim puts just that, behind what waits, and nothing else goes into any outbox of any shard
abbrev pub ClaimsPlace : Type 0
ClaimsPlace =
    (server : ServerIdentity) (a : Node) (e : NodeEvent) (won : Bool) (race : RaceState) (b : Node)
    → SoundNode server a
    → NodeStep server a e won race b
    → Each (λ x.
    (place conn : ℕ) → waits_at b place conn ≡ waits_at a place conn ++ placed_by x place conn)
    (claims_by a e won)

-- ---- jobs

-- a job that a shard ended
pub record Ended : Type 0 where
  pub shard : ℕ
  pub job : Job

abbrev pub ended_with : ℕ → Option Job → List Ended
ended_with shard None = []
ended_with shard (Some job) = record { shard = shard; job = job } ∷ []

abbrev pub ended_at : ℕ → Option ShardWithJobs → List Ended
ended_at shard None = []
ended_at shard (Some line) = ended_with shard line.shard.hand

abbrev pub work_ends : Node → ℕ → ShardWork → List Ended
work_ends a shard Attach = []
work_ends a shard Begin = []
work_ends a shard (Claim index) = []
work_ends a shard End = ended_at shard (shard_line a shard)
work_ends a shard DrainShard = []
work_ends a shard DropJob = []

abbrev pub own_ends : Node → OwnEvent → List Ended
own_ends a (OfConn conn event) = []
own_ends a (AtShard shard work) = work_ends a shard work
own_ends a (Publish p) = []
own_ends a (Collect shard) = []
own_ends a Drain = []
own_ends a (Dial q) = []
own_ends a Accept = []
own_ends a (CutSession session) = []
own_ends a (TakeFrames q count) = []

abbrev pub ends_by : Node → NodeEvent → List Ended
ends_by a (Own event) = own_ends a event
ends_by a (Receive frame) = []
ends_by a (OnInfo session info) = []
ends_by a (OnConnect session connect) = []

-- the Ends of a run, the newest first
abbrev pub ends_of : List Done → List Ended
ends_of [] = []
ends_of (d ∷ earlier) = ends_by d.before d.event ++ ends_of earlier

-- the jobs of the turns that a run issued, the newest first
abbrev pub jobs_of : ServerIdentity → List Done → List Job
jobs_of server [] = []
jobs_of server (d ∷ earlier) = jobs_by server d.before d.event ++ jobs_of server earlier

-- Each turn has one job, in all shards, and Claims and Ends are of these: so an index of a turn is
-- one queue name.
pub record HasOneJob (server : ServerIdentity) (h : List Done) : Type 0 where
  pub turns : Pairs (λ j k. j.turn ≢ k.turn) (jobs_of server h)
  pub claims : Each (λ x. In x.job (jobs_of server h)) (claims_of h)
  pub ends : Each (λ x. In x.job (jobs_of server h)) (ends_of h)

abbrev pub OneJob : Type 0
OneJob =
    (server : ServerIdentity) (h : List Done) (a : Node)
    → IsListed server
    → Ran server h a
    → HasOneJob server h

abbrev pub is_of_shard : ℕ → ℕ → ℕ → Claimed → Bool
is_of_shard shard turn index x = nat_eq x.shard shard && is_of_pair turn index x

-- a shard that made its End of a turn made one Claim of each index of the job
abbrev pub EndedAll : List Claimed → List Ended → Type 0
EndedAll claims ends =
    Each (λ x.
    (index : ℕ)
    → index < length x.job.queues
    → length (filter (is_of_shard x.shard x.job.turn index) claims) ≡ 1)
    ends

abbrev pub EndedTurns : Type 0
EndedTurns =
    (server : ServerIdentity) (h : List Done) (a : Node)
    → IsListed server
    → Ran server h a
    → EndedAll (claims_of h) (ends_of h)
