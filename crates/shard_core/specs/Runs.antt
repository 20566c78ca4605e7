-- A run of jobs worked one after the other, and delivered at once.
use Rattle.std.specs.Prelude.{◌≡◌, ℕ, ◌+◌, ◌<◌, ◌≤◌, true, false, List, [], ◌∷◌, length, take}
use Rattle.std.specs.Prelude.{map, filter, Option, Some, None}
use Rattle.std.specs.List.{flat_map}
use Rattle.list_laws.specs.Lists.{Each}
use Rattle.outbox.specs.Views.{Written, size_of, with_entries}
use Rattle.sub_table.specs.Subscriptions.{is_of}
use Rattle.sub_table.specs.declared.Subscription.{Subscription}
use Rattle.subj.specs.declared.jobs.Job.{Job}
use Rattle.shard_core.specs.declared.calls.Placed.{Placed}
use Rattle.shard_core.specs.Closings.{serials_of}
use Rattle.shard_core.specs.Held.{Held, IsLeft, held_at_rest}
use Rattle.shard_core.specs.Lines.{Turns}
use Rattle.shard_core.specs.Opened.{AreApart}
use Rattle.shard_core.specs.Owed.{owed_entry, owed_placed, is_due, reaches}
use Rattle.shard_core.specs.ShardEvents.{Begin, End, Began, Finished}
use Rattle.shard_core.specs.ShardSteps.{shard_after, IsDone}
use Rattle.shard_core.specs.Shards.{State, Client, client_at, with_outbox}

-- ---- one job after the other

-- a job is begun, and ends
abbrev pub after_job : State → Job → State
after_job s job = shard_after (shard_after s (Begin job)) End

-- it is begun with these entries placed and nothing closed, and it ends
pub record IsWorked (s : State) (job : Job) (placed : List Placed) : Type 0 where
  pub begun : IsDone s (Begin job) (Began placed [] []) (shard_after s (Begin job))
  pub ended : IsDone (shard_after s (Begin job)) End Finished (after_job s job)

-- an entry for each that gets it, in order of serials, by the option of its connection
abbrev pub placed_by : State → Job → List Placed
placed_by s job = map (owed_placed s.shard s.clients job None) (filter (is_due job) s.subs)

-- each of these jobs is so worked in turn, and places for those that are open before the run
abbrev pub AreWorked : State → State → List Job → State → Type 0
AreWorked before s [] to = to ≡ s
AreWorked before s (job ∷ jobs) to =
    IsWorked s job (placed_by before job) × AreWorked before (after_job s job) jobs to

-- ---- all at once

-- the entries of a job for one connection, in order of serials
abbrev pub job_entries : State → ℕ → Job → List Written
job_entries s conn job =
    map (owed_entry s.shard s.clients job None) (filter (is_of conn) (filter (is_due job) s.subs))

-- those of a run, job by job
abbrev pub run_entries : State → List Job → ℕ → List Written
run_entries s jobs conn = flat_map (job_entries s conn) jobs

-- a connection gets the entries for its number
abbrev pub client_with : (ℕ → List Written) → Client → Client
client_with entries client = with_outbox (with_entries (entries client.number)) client

-- how many jobs of the run a subscription gets
abbrev pub times_due : List Job → Subscription → ℕ
times_due jobs sub = length (filter (λ job. is_due job sub) jobs)

abbrev pub sub_with_run : List Job → Subscription → Subscription
sub_with_run jobs sub = record sub { delivered = sub.delivered + times_due jobs sub }

-- a job that ends leaves no queue name to be claimed
abbrev pub index_after : ℕ → List Job → ℕ
index_after index [] = index
index_after index (job ∷ jobs) = 0

abbrev pub delivered_run : State → List Job → State
delivered_run s jobs =
    record s {
      finished = s.finished + length jobs;
      next_index = index_after s.next_index jobs;
      clients = map (client_with (run_entries s jobs)) s.clients;
      subs = map (sub_with_run jobs) s.subs;
    }

-- ---- when a run can be delivered at once

-- so it is of whoever gets a job of the run
abbrev pub EachReceiver : (Subscription → Type 0) → List Subscription → List Job → Type 0
EachReceiver P subs jobs = Each (λ job. Each (λ sub. is_due job sub ≡ true → P sub) subs) jobs

-- a connection that is not shut has room for all of these together
pub record TakesAll (client : Client) (entries : List Written) : Type 0 where
  pub takes_events : client.outbox.shut ≡ false
  pub few : length client.outbox.entries + length entries ≤ client.max_entries
  pub small : size_of client.outbox.entries + size_of entries ≤ client.max_bytes

abbrev pub Takes : Option Client → (ℕ → List Written) → Type 0
Takes None entries = ⊥
Takes (Some client) entries = TakesAll client (entries client.number)

-- The whole run does not reach the maximum of a subscription, if it has one. Its connection takes
-- all that the run puts there, for this subscription and for others.
pub record IsReceiver (s : State) (jobs : List Job) (sub : Subscription) : Type 0 where
  pub unspent : reaches sub.max (sub.delivered + times_due jobs sub) ≡ false
  pub room : Takes (client_at sub.conn s.clients) (run_entries s jobs)

abbrev pub numbers_of : List Client → List ℕ
numbers_of clients = map (λ client. client.number) clients

pub record CanRun (s : State) (jobs : List Job) : Type 0 where
  pub hand : s.hand ≡ None
  -- the turns follow that of the last job
  pub turns : Turns s.finished jobs (s.finished + length jobs)
  pub unnamed : Each (λ job. job.queues ≡ []) jobs
  pub numbers : AreApart (numbers_of s.clients)
  pub serials : AreApart (serials_of s.subs)
  pub receivers : EachReceiver (IsReceiver s jobs) s.subs jobs

-- ---- the law

abbrev pub RunsAreWorked : Type 0
RunsAreWorked =
    (s : State) (jobs : List Job) → CanRun s jobs → AreWorked s s jobs (delivered_run s jobs)

-- ---- as a call

-- so many jobs, from the first on, are delivered at once; where none is, the state is left
pub record DeliversRun (jobs : List Job) (count : ℕ) (old new : Held) : Type 0 where
  pub few : count ≤ length jobs
  pub none : count ≡ 0 → IsLeft old new
  pub can : 0 < count → CanRun old.state (take count jobs)
  pub after : 0 < count → new ≡ held_at_rest (delivered_run old.state (take count jobs))
