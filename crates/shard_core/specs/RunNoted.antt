-- A run delivered to receivers that are noted: one look at the open subscriptions serves it all.
use Rattle.std.specs.Prelude.{◌≡◌, ℕ, Bool, nat_eq, List, [], ◌∷◌, map, filter}
use Rattle.std.specs.List.{flat_map}
use Rattle.list_laws.specs.Lists.{Each}
use Rattle.client_frames.specs.Messages.{tails_of}
use Rattle.outbox.specs.Views.{Written}
use Rattle.sub_table.specs.Subscriptions.{gets}
use Rattle.sub_table.specs.declared.Subscription.{Subscription}
use Rattle.subj.specs.declared.jobs.Job.{Job}
use Rattle.shard_core.specs.Opened.{AreApart}
use Rattle.shard_core.specs.Owed.{is_due}
use Rattle.shard_core.specs.Received.{Received, receivers_of}
use Rattle.shard_core.specs.ReceiverSteps.{entry_for, is_due_to}
use Rattle.shard_core.specs.Shards.{State, Client, takes_headers}
use Rattle.shard_core.specs.RunAlike.{IsLike, AreOfDifferentConns}
use Rattle.shard_core.specs.RunReceivers.{clients_with_entries}
use Rattle.shard_core.specs.Runs.{run_entries, delivered_run, numbers_of}

-- those that a shard notes of a job's subject and that get the job, in order of serials
abbrev pub noted_receivers : List Subscription → Job → List Received
noted_receivers subs job =
    let subject = job.message.subject in
    filter (is_due_to job) (receivers_of subject (filter (gets subject) subs))

abbrev pub is_noted_of : ℕ → Received → Bool
is_noted_of conn r = nat_eq r.conn conn

abbrev pub noted_at : State → Job → ℕ → List Received
noted_at s job conn = filter (is_noted_of conn) (noted_receivers s.subs job)

-- the entry of a job in two parts
abbrev pub noted_entry : ℕ → Bool → Received → Job → Written
noted_entry shard option r job = entry_for shard job.id (tails_of job.message) r option

-- an entry of each job for one of them
abbrev pub entries_for_noted : ℕ → Bool → List Job → Received → List Written
entries_for_noted shard option jobs r = map (noted_entry shard option r) jobs

-- the entries of each job, in order, for these of one connection
abbrev pub entries_for_all_noted : ℕ → Bool → List Job → List Received → List Written
entries_for_all_noted shard option jobs receivers =
    flat_map (λ job. map (λ r. noted_entry shard option r job) receivers) jobs

-- one after the other gets all its entries of the run, by the option of its connection
abbrev pub clients_by_noted : ℕ → List Job → List Received → List Client → List Client
clients_by_noted shard jobs [] clients = clients
clients_by_noted shard jobs (r ∷ receivers) clients =
    let entries = entries_for_noted shard (takes_headers r.conn clients) jobs r in
    clients_by_noted shard jobs receivers (clients_with_entries entries r.conn clients)

pub record GoesToNoted (s : State) (job : Job) (jobs : List Job) : Type 0 where
  pub entries : (conn : ℕ)
      → run_entries s jobs conn
      ≡ entries_for_all_noted s.shard (takes_headers conn s.clients) jobs (noted_at s job conn)
  -- where no two are of one connection, they make the connections of the run
  pub clients : AreApart (numbers_of s.clients) → AreOfDifferentConns (filter (is_due job) s.subs)
      → clients_by_noted s.shard jobs (noted_receivers s.subs job) s.clients
      ≡ (delivered_run s jobs).clients

abbrev pub RunsGoToNoted : Type 0
RunsGoToNoted =
    (s : State) (job : Job) (jobs : List Job) → Each (IsLike job) jobs → GoesToNoted s job jobs
