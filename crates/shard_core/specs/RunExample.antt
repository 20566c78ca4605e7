-- A closed example: a run of two jobs, the first with a header block, for a connection that takes
-- headers and has two subscriptions, and for one that takes none.
use Rattle.std.specs.Prelude.{◌≡◌, ℕ, Bool, true, false, codes, List, [], ◌∷◌, ◌++◌, map}
use Rattle.std.specs.Prelude.{Option, Some, None}
use Rattle.outbox.specs.Views.{Written, reply_entry, bytes_of_all}
use Rattle.sub_table.specs.declared.Subscription.{Subscription}
use Rattle.subj.specs.declared.jobs.Job.{Job}
use Rattle.shard_core.specs.Owed.{due_entry}
use Rattle.shard_core.specs.Shards.{State, Client, waits_for}
use Rattle.shard_core.specs.Runs.{CanRun, delivered_run}

abbrev pub pong : Written
pong = reply_entry (codes "PONG")

-- with room for so many entries, of which one waits
abbrev pub client : ℕ → ℕ → Bool → Client
client number room headers = record {
  number = number;
  outbox = record { entries = pong ∷ []; shut = false };
  max_entries = room;
  max_bytes = 1000;
  headers = headers;
}

abbrev pub sub : ℕ → ℕ → Option ℕ → Subscription
sub serial conn max = record {
  serial = serial;
  conn = conn;
  key = record { pattern = codes "foo"; queue = None };
  sid = codes "7";
  delivered = 0;
  max = max;
}

-- Connection 1 takes headers and has the subscriptions 1 and 3; connection 2 takes none and has
-- subscription 2, which is to get three messages in all.
abbrev pub shard : State
shard = record {
  shard = 1;
  shards = 1;
  next_conn = 3;
  opened = 3;
  finished = 4;
  hand = None;
  next_index = 0;
  clients = client 1 5 true ∷ client 2 3 false ∷ [];
  subs = sub 1 1 None ∷ sub 2 2 (Some 3) ∷ sub 3 1 None ∷ [];
  draining = false;
  deltas = [];
}

abbrev pub job : ℕ → Option (List ℕ) → Job
job turn headers = record {
  turn = turn;
  id = record { origin = codes "n1"; inc = 1; number = turn };
  message = record { subject = codes "foo"; reply = None; headers = headers; payload = codes "hi" };
  publisher = Some 1;
  echo = true;
  queues = [];
}

abbrev pub first_job : Job
first_job = job 5 (Some (codes "NATS/1.0\r\n\r\n"))

abbrev pub second_job : Job
second_job = job 6 None

abbrev pub jobs : List Job
jobs = first_job ∷ second_job ∷ []

abbrev pub headed : Job → Subscription → Written
headed job sub = due_entry 1 true job None sub

abbrev pub plain : Job → Subscription → Written
plain job sub = due_entry 1 false job None sub

abbrev pub waiting : ℕ → List Written
waiting conn = waits_for conn (delivered_run shard jobs).clients

abbrev pub with_block : List ℕ
with_block = codes "HMSG foo 7 12 14\r\nNATS/1.0\r\n\r\nhi\r\n"

abbrev pub without_block : List ℕ
without_block = codes "MSG foo 7 2\r\nhi\r\n"

pub record RunByHand : Type 0 where
  pub can : CanRun shard jobs
  -- job by job, and within a job in order of serials, each in the form of the connection
  pub first : waiting 1
      ≡ pong ∷ headed first_job (sub 1 1 None) ∷ headed first_job (sub 3 1 None)
      ∷ headed second_job (sub 1 1 None) ∷ headed second_job (sub 3 1 None) ∷ []
  pub second : waiting 2
      ≡ pong ∷ plain first_job (sub 2 2 (Some 3)) ∷ plain second_job (sub 2 2 (Some 3)) ∷ []
  -- the header block for the first one alone
  pub first_bytes : bytes_of_all (waiting 1)
      ≡ codes "PONG\r\n" ++ (with_block ++ (with_block ++ (without_block ++ without_block)))
  pub second_bytes : bytes_of_all (waiting 2)
      ≡ codes "PONG\r\n" ++ (without_block ++ without_block)
  pub counts : map (λ sub. sub.delivered) (delivered_run shard jobs).subs ≡ 2 ∷ 2 ∷ 2 ∷ []
  pub finished : (delivered_run shard jobs).finished ≡ 6
