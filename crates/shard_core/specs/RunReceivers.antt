-- A run delivered by receivers: connection after connection, and subscription after subscription.
use Rattle.std.specs.Prelude.{◌≡◌, ℕ, ◌+◌, List, [], ◌∷◌, ◌++◌, map, if◌then◌else◌}
use Rattle.list_laws.specs.Lists.{In, Each}
use Rattle.outbox.specs.Views.{Written, with_entry, with_entries}
use Rattle.sub_table.specs.Subscriptions.{has_serial}
use Rattle.sub_table.specs.declared.Subscription.{Subscription}
use Rattle.subj.specs.declared.jobs.Job.{Job}
use Rattle.shard_core.specs.Closings.{serials_of}
use Rattle.shard_core.specs.Opened.{AreApart}
use Rattle.shard_core.specs.Owed.{sub_with_count}
use Rattle.shard_core.specs.Shards.{State, Client, clients_with_change}
use Rattle.shard_core.specs.Runs.{run_entries, times_due, delivered_run}
use Rattle.shard_core.specs.Runs.{numbers_of, EachReceiver}

-- ---- entries of one connection

-- the connections with these entries put for one of them
abbrev pub clients_with_entries : List Written → ℕ → List Client → List Client
clients_with_entries entries conn clients = clients_with_change (with_entries entries) conn clients

-- entries that are put behind some are one list with them
pub record EntriesGoOn (conn : ℕ) (clients : List Client) : Type 0 where
  pub none : clients_with_entries [] conn clients ≡ clients
  pub more : (entries : List Written) (entry : Written)
      → clients_with_change (with_entry entry) conn (clients_with_entries entries conn clients)
      ≡ clients_with_entries (entries ++ entry ∷ []) conn clients
  pub all : (entries next : List Written)
      → clients_with_entries next conn (clients_with_entries entries conn clients)
      ≡ clients_with_entries (entries ++ next) conn clients

-- ---- connections

-- one connection after the other gets all its entries of the run
abbrev pub clients_by_conns : (ℕ → List Written) → List ℕ → List Client → List Client
clients_by_conns entries [] clients = clients
clients_by_conns entries (conn ∷ conns) clients =
    clients_by_conns entries conns (clients_with_entries (entries conn) conn clients)

-- whoever gets a job of the run is of one of these connections
abbrev pub AreConnsOf : List Subscription → List Job → List ℕ → Type 0
AreConnsOf subs jobs conns = EachReceiver (λ sub. In sub.conn conns) subs jobs

-- each connection once, in any order, makes the connections of the run
abbrev pub RunsGoByConns : Type 0
RunsGoByConns =
    (s : State) (jobs : List Job) (conns : List ℕ)
    → AreApart (numbers_of s.clients) → AreApart conns → AreConnsOf s.subs jobs conns
    → clients_by_conns (run_entries s jobs) conns s.clients ≡ (delivered_run s jobs).clients

-- ---- counts

-- the subscription of this serial got so many messages more
abbrev pub sub_with_more : ℕ → ℕ → Subscription → Subscription
sub_with_more serial count sub =
    if has_serial serial sub then record sub { delivered = sub.delivered + count } else sub

-- one message more behind some is one count with them
pub record CountsGoOn (serial : ℕ) (subs : List Subscription) : Type 0 where
  pub none : map (sub_with_more serial 0) subs ≡ subs
  pub more : (count : ℕ)
      → map (sub_with_count (serial ∷ [])) (map (sub_with_more serial count) subs)
      ≡ map (sub_with_more serial (count + 1)) subs

-- one receiver after the other is counted for all its jobs of the run
abbrev pub subs_by_receivers : List Job → List Subscription → List Subscription → List Subscription
subs_by_receivers jobs [] subs = subs
subs_by_receivers jobs (sub ∷ receivers) subs =
    subs_by_receivers jobs receivers (map (sub_with_more sub.serial (times_due jobs sub)) subs)

-- whoever gets a job of the run is one of these
abbrev pub AreReceiversOf : List Subscription → List Job → List Subscription → Type 0
AreReceiversOf subs jobs receivers = EachReceiver (λ sub. In sub receivers) subs jobs

-- each open receiver once, in any order, makes the subscriptions of the run
abbrev pub RunsCountByReceivers : Type 0
RunsCountByReceivers =
    (s : State) (jobs : List Job) (receivers : List Subscription)
    → AreApart (serials_of s.subs) → AreApart (serials_of receivers)
    → Each (λ sub. In sub s.subs) receivers → AreReceiversOf s.subs jobs receivers
    → subs_by_receivers jobs receivers s.subs ≡ (delivered_run s jobs).subs
