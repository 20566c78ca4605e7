-- A shard together with the jobs that wait for it: what every such line keeps.
use Rattle.std.specs.Prelude.{◌≡◌, ◌≢◌, ℕ, suc, ◌+◌, ◌≤◌, List, [], ◌∷◌, Option, Some, None}
use Rattle.list_laws.specs.Lists.{Each, Pairs}
use Rattle.subj.specs.declared.jobs.Job.{Job}
use Rattle.shard_core.specs.Shards.{State}
use Rattle.shard_core.specs.Closings.{serials_of}
use Rattle.shard_core.specs.ShardEvents.{Event, Attach, Subscribe, Unsubscribe, Reply, SetHeaders, Shut, Detach, Take, Begin, Claim, End, DropJob, Drain, Collect}

-- the turns of the jobs that wait follow one another, up to the last one issued
abbrev pub Turns : ℕ → List Job → ℕ → Type 0
Turns begun [] issued = begun ≡ issued
Turns begun (job ∷ jobs) issued = (job.turn ≡ suc begun) × Turns (suc begun) jobs issued

abbrev pub begun_turn : Option Job → ℕ → ℕ
begun_turn None finished = finished
begun_turn (Some job) finished = suc finished

-- The job in hand is that of the next turn, the jobs that wait follow, one for each turn up to the
-- last one issued, and the shard is at most a window behind. Open subscriptions have serials of
-- their own, among those given.
pub record SoundLine (window issued : ℕ) (s : State) (waiting : List Job) : Type 0 where
  pub hand : (job : Job) → s.hand ≡ Some job → job.turn ≡ suc s.finished
  pub turns : Turns (begun_turn s.hand s.finished) waiting issued
  pub room : issued ≤ s.finished + window
  pub apart : Pairs (λ j k. j ≢ k) (serials_of s.subs)
  pub below : Each (λ k. k ≤ s.opened) (serials_of s.subs)

-- ---- which job an event takes from the line

abbrev pub first_of : List Job → Option Job
first_of [] = None
first_of (job ∷ jobs) = Some job

abbrev pub rest_of : List Job → List Job
rest_of [] = []
rest_of (job ∷ jobs) = jobs

-- a begin takes the first one, and so does a drop where no job is in hand
abbrev pub HasJob : Option Job → Event → List Job → Type 0
HasJob hand Attach waiting = Unit {0}
HasJob hand (Subscribe conn key sid) waiting = Unit {0}
HasJob hand (Unsubscribe conn sid max) waiting = Unit {0}
HasJob hand (Reply conn frame) waiting = Unit {0}
HasJob hand (SetHeaders conn on) waiting = Unit {0}
HasJob hand (Shut conn text) waiting = Unit {0}
HasJob hand (Detach conn) waiting = Unit {0}
HasJob hand (Take conn count) waiting = Unit {0}
HasJob hand (Begin job) waiting = first_of waiting ≡ Some job
HasJob hand (Claim index won) waiting = Unit {0}
HasJob hand End waiting = Unit {0}
HasJob (Some job) (DropJob next) waiting = next ≡ None
HasJob None (DropJob next) waiting = (job : Job) × (next ≡ Some job) × (first_of waiting ≡ Some job)
HasJob hand Drain waiting = Unit {0}
HasJob hand Collect waiting = Unit {0}

abbrev pub waiting_after : Option Job → Event → List Job → List Job
waiting_after hand Attach waiting = waiting
waiting_after hand (Subscribe conn key sid) waiting = waiting
waiting_after hand (Unsubscribe conn sid max) waiting = waiting
waiting_after hand (Reply conn frame) waiting = waiting
waiting_after hand (SetHeaders conn on) waiting = waiting
waiting_after hand (Shut conn text) waiting = waiting
waiting_after hand (Detach conn) waiting = waiting
waiting_after hand (Take conn count) waiting = waiting
waiting_after hand (Begin job) waiting = rest_of waiting
waiting_after hand (Claim index won) waiting = waiting
waiting_after hand End waiting = waiting
waiting_after (Some job) (DropJob next) waiting = waiting
waiting_after None (DropJob next) waiting = rest_of waiting
waiting_after hand Drain waiting = waiting
waiting_after hand Collect waiting = waiting
