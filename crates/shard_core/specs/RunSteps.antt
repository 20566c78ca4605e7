-- How a shard delivers a run: which jobs go together, what is put for the receivers that are noted,
-- and what is counted.
use Rattle.std.specs.Prelude.{◌≡◌, ℕ, ◌+◌, ◌<◌, ◌^◌, false, List, [], ◌∷◌, ◌++◌, map, filter, drop}
use Rattle.std.specs.Prelude.{None, Some, All, true, slice_get}
use Rattle.list_laws.specs.Lists.{Each}
use Rattle.client_frames.specs.Messages.{tails_of, tail_for}
use Rattle.outbox.specs.Views.{Written, Tail, Waiting, has_room_for_all, message_run}
use Rattle.sub_table.specs.declared.Subscription.{Subscription}
use Rattle.subj.specs.declared.jobs.Job.{Job}
use Rattle.shard_core.specs.declared.connections.Conn.{Conn}
use Rattle.shard_core.specs.Boxes.{Clients}
use Rattle.shard_core.specs.Closings.{id_of, serials_of}
use Rattle.shard_core.specs.Lines.{Turns}
use Rattle.shard_core.specs.Opened.{Opened, AreApart}
use Rattle.shard_core.specs.Received.{Received}
use Rattle.shard_core.specs.ReceiverSteps.{is_due_to}
use Rattle.shard_core.specs.RunReceivers.{clients_with_entries, sub_with_more}
use Rattle.shard_core.specs.Runs.{Takes, EachReceiver, IsReceiver, delivered_run, numbers_of}
use Rattle.shard_core.specs.Shards.{State, Client, client_at}

-- ---- jobs that go together

-- the job claims no queue name, has no header block, and goes to whom the first one goes
pub record GoesWith (first job : Job) : Type 0 where
  pub unnamed : job.queues ≡ []
  pub plain : job.message.headers ≡ None
  pub subject : job.message.subject ≡ first.message.subject
  pub publisher : job.publisher ≡ first.publisher
  pub echo : job.echo ≡ first.echo

-- and their turns follow this one, up to the last
pub record GoTogether (first : Job) (finished last : ℕ) (jobs : List Job) : Type 0 where
  pub turns : Turns finished jobs last
  pub alike : Each (GoesWith first) jobs

-- ---- what is put

-- what the message of a job has of its own, without a header block
abbrev pub tail_of : Job → Tail
tail_of job = record { id = job.id; bytes = tail_for (tails_of job.message) false }

-- the messages of a run for a receiver
abbrev pub run_for : ℕ → List Tail → Received → List Written
run_for shard tails r = message_run (id_of shard r.serial) (drop 1 r.head) tails

-- nothing was put for the connection behind what is shown, and it takes all of these
pub record TakesRun (entries : List Written) (conn : ℕ) (shown next : List Client) : Type 0 where
  pub untouched : client_at conn next ≡ client_at conn shown
  pub takes : Takes (client_at conn shown) (λ _. entries)

-- so it is with the connection at this place
pub record IsRoomFor (entries : List Written) (box : Waiting) : Type 0 where
  pub settled : box.next ≡ box.shown
  pub room : has_room_for_all box.max_entries box.max_bytes entries box.next ≡ true

abbrev pub TakesRunAt : ℕ → List Written → List Conn → Type 0
TakesRunAt place entries conns =
    (conn : Conn) → slice_get conns place ≡ Some conn → IsRoomFor entries conn.outbox

-- it has no maximum, and its connection takes the run
pub record IsTaker (shard : ℕ) (tails : List Tail) (shown : List Client) (r : Received)
    (next : List Client) : Type 0 where
  pub unlimited : r.is_limited ≡ false
  pub room : TakesRun (run_for shard tails r) r.conn shown next

-- the run is put for these receivers, each of which takes it
abbrev pub AreStaged : ℕ → List Tail → List Client → List Received → List Client → List Client
    → Type 0
AreStaged shard tails shown [] old new = new ≡ old
AreStaged shard tails shown (r ∷ receivers) old new =
    IsTaker shard tails shown r old
    × AreStaged shard tails shown receivers
    (clients_with_entries (run_for shard tails r) r.conn old) new

abbrev pub serial_of : Received → ℕ
serial_of r = r.serial

-- the serials of those that may get the job
abbrev pub due_serials : Job → List Received → List ℕ
due_serials job receivers = map serial_of (filter (is_due_to job) receivers)

-- The run is put for a receiver that may get the job. So whatever is then put for some is put for
-- this one and them.
pub record StagesFirst (shard : ℕ) (tails : List Tail) (job : Job) (r : Received)
    (old new : Clients) (given after : List ℕ) : Type 0 where
  pub clients : (rest : List Received) (to : List Client)
      → AreStaged shard tails old.shown (filter (is_due_to job) rest) new.next to
      → AreStaged shard tails old.shown (filter (is_due_to job) (r ∷ rest)) old.next to
  pub serials : (rest : List Received)
      → after ++ due_serials job rest ≡ given ++ due_serials job (r ∷ rest)

-- ---- what is counted

-- so many messages more can be counted for the subscription
abbrev pub CanCountMore : ℕ → ℕ → List Subscription → Type 0
CanCountMore count serial subs =
    All (λ sub. sub.serial ≡ serial → sub.delivered + count < 2 ^ 64) subs

-- each of these got so many messages more
abbrev pub subs_by_serials : ℕ → List ℕ → List Subscription → List Subscription
subs_by_serials count [] subs = subs
subs_by_serials count (serial ∷ given) subs =
    subs_by_serials count given (map (sub_with_more serial count) subs)

-- ---- the whole

-- the run is delivered, to receivers that can all take it
pub record HasDelivered (s : State) (jobs : List Job) (openings : Opened) (conns : Clients)
    (after : Opened) : Type 0 where
  pub conns_are : conns
      ≡ record { shown = (delivered_run s jobs).clients; next = (delivered_run s jobs).clients }
  pub openings_are : after ≡ record openings { subs = (delivered_run s jobs).subs }
  pub numbers : AreApart (numbers_of s.clients)
  pub serials : AreApart (serials_of s.subs)
  pub receivers : EachReceiver (IsReceiver s jobs) s.subs jobs
