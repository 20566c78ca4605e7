-- A run of jobs that are alike: whoever gets one gets them all, so receivers are found once.
use Rattle.std.specs.Prelude.{◌≡◌, ◌≢◌, ℕ, Bool, true, List, [], ◌∷◌, ◌++◌, length, map, filter}
use Rattle.std.specs.Prelude.{None, if◌then◌else◌}
use Rattle.std.specs.List.{flat_map}
use Rattle.list_laws.specs.Lists.{Each, Pairs}
use Rattle.outbox.specs.Views.{Written}
use Rattle.sub_table.specs.Subscriptions.{is_of}
use Rattle.sub_table.specs.declared.Subscription.{Subscription}
use Rattle.subj.specs.declared.jobs.Job.{Job}
use Rattle.shard_core.specs.Opened.{AreApart}
use Rattle.shard_core.specs.Owed.{owed_entry, is_due, may_get_at}
use Rattle.shard_core.specs.Shards.{State, Client}
use Rattle.shard_core.specs.RunReceivers.{clients_with_entries}
use Rattle.shard_core.specs.Runs.{job_entries, run_entries, times_due, delivered_run}
use Rattle.shard_core.specs.Runs.{numbers_of, EachReceiver}

abbrev pub AreOfOneSubject : Job → Job → Type 0
AreOfOneSubject job other = other.message.subject ≡ job.message.subject

-- and the same connections may get them
pub record IsLike (job other : Job) : Type 0 where
  pub subject : AreOfOneSubject job other
  pub permitted : (conn : ℕ) → may_get_at other conn ≡ may_get_at job conn

-- so it is where each goes to its own publisher too, and where they have one publisher and one echo
pub record AlikeByFields (job other : Job) : Type 0 where
  pub echoed : AreOfOneSubject job other → job.echo ≡ true → other.echo ≡ true → IsLike job other
  pub published : AreOfOneSubject job other
      → other.publisher ≡ job.publisher → other.echo ≡ job.echo → IsLike job other

-- an entry of each job for one subscription
abbrev pub entries_for_sub : ℕ → List Client → List Job → Subscription → List Written
entries_for_sub shard clients jobs sub = map (λ job. owed_entry shard clients job None sub) jobs

-- the entries of each job, in order, for these subscriptions
abbrev pub entries_for_subs : ℕ → List Client → List Job → List Subscription → List Written
entries_for_subs shard clients jobs subs =
    flat_map (λ job. map (owed_entry shard clients job None) subs) jobs

-- those of one connection that get the job, in order of serials
abbrev pub receivers_at : State → Job → ℕ → List Subscription
receivers_at s job conn = filter (is_of conn) (filter (is_due job) s.subs)

pub record GoesToAll (s : State) (job : Job) (jobs : List Job) : Type 0 where
  pub times : (sub : Subscription)
      → times_due jobs sub ≡ (if is_due job sub then length jobs else 0)
  -- the receivers of one connection stand in order of serials
  pub entries : (conn : ℕ)
      → run_entries s jobs conn ≡ entries_for_subs s.shard s.clients jobs (receivers_at s job conn)
  pub alone : (conn : ℕ) (sub : Subscription) → receivers_at s job conn ≡ sub ∷ []
      → run_entries s jobs conn ≡ entries_for_sub s.shard s.clients jobs sub

abbrev pub AlikeGoToAll : Type 0
AlikeGoToAll =
    (s : State) (job : Job) (jobs : List Job) → Each (IsLike job) jobs → GoesToAll s job jobs

-- ---- receivers of different connections

-- one receiver after the other gets all its entries of the run
abbrev pub clients_by_receivers : ℕ → List Job → List Subscription → List Client → List Client
clients_by_receivers shard jobs [] clients = clients
clients_by_receivers shard jobs (sub ∷ receivers) clients =
    clients_by_receivers shard jobs receivers
    (clients_with_entries (entries_for_sub shard clients jobs sub) sub.conn clients)

-- no two of them are of one connection
abbrev pub AreOfDifferentConns : List Subscription → Type 0
AreOfDifferentConns subs = Pairs (λ u v. u.conn ≢ v.conn) subs

-- then they make the connections of the run
abbrev pub RunsGoByReceivers : Type 0
RunsGoByReceivers =
    (s : State) (job : Job) (jobs : List Job) → Each (IsLike job) jobs
    → AreApart (numbers_of s.clients) → AreOfDifferentConns (filter (is_due job) s.subs)
    → clients_by_receivers s.shard jobs (filter (is_due job) s.subs) s.clients
    ≡ (delivered_run s jobs).clients

-- ---- the steps of loops

pub record RunsGoOn (s : State) (conn : ℕ) : Type 0 where
  -- one more job
  pub job : (jobs : List Job) (next : Job)
      → run_entries s (jobs ++ next ∷ []) conn ≡ run_entries s jobs conn ++ job_entries s conn next
  -- only some of the subscriptions are looked at, with all those of this connection that get a job
  pub some : (jobs : List Job) (look : Subscription → Bool)
      → EachReceiver (λ sub. sub.conn ≡ conn → look sub ≡ true) s.subs jobs
      → run_entries (record s { subs = filter look s.subs }) jobs conn ≡ run_entries s jobs conn
