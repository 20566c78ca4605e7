-- How the code works a run of claims: which jobs go together, whom each may go to, and what one of
-- them changes.
use Rattle.std.specs.Prelude.{◌≡◌, ℕ, ◌+◌, ◌<◌, ◌≤◌, ◌^◌, Bool, true, false, ◌&&◌, List, [], ◌∷◌, ◌++◌, length, filter, take, drop, slice_get, Some, None, All}
use Rattle.list_laws.specs.Lists.{Each, Along}
use Rattle.client_frames.specs.Messages.{tails_of, tail_for}
use Rattle.outbox.specs.Views.{Written, spelt_entry, with_entry}
use Rattle.outbox.specs.declared.entries.Mode.TheVariants.{Queue}
use Rattle.job_block.specs.Publications.{IsShort}
use Rattle.subj.specs.QueueNames.{is_named}
use Rattle.subj.specs.declared.jobs.Job.{Job}
use Rattle.sub_table.specs.Subscriptions.{gets}
use Rattle.sub_table.specs.declared.Subscription.{Subscription}
use Rattle.shard_core.specs.declared.claim_run.Member.{Member}
use Rattle.shard_core.specs.Boxes.{Clients, IsSeatOf}
use Rattle.shard_core.specs.ClaimRuns.{ClaimPart, IsClaimed, AreClaimed, HasRoomAt, ended_after, with_claims}
use Rattle.shard_core.specs.Closings.{id_of}
use Rattle.shard_core.specs.Held.{ArePossible}
use Rattle.shard_core.specs.Lines.{Turns}
use Rattle.shard_core.specs.Opened.{Opened, part_of}
use Rattle.shard_core.specs.Owed.{may_get_at}
use Rattle.shard_core.specs.Received.{Received, receivers_of}
use Rattle.shard_core.specs.ReceiverSteps.{is_due_to}
use Rattle.shard_core.specs.Runs.{index_after}
use Rattle.shard_core.specs.Shards.{State, Client, client_at, clients_with_change}

-- ---- jobs that go together

-- the job claims this queue name alone, is short, and goes to whom the first one goes
pub record ClaimsWith (first : Job) (name : List ℕ) (job : Job) : Type 0 where
  pub named : job.queues ≡ name ∷ []
  pub short : IsShort job.message
  pub subject : job.message.subject ≡ first.message.subject
  pub publisher : job.publisher ≡ first.publisher
  pub echo : job.echo ≡ first.echo

pub record IsClaimRun (first : Job) (name : List ℕ) (jobs : List Job) : Type 0 where
  pub begins : slice_get jobs 0 ≡ Some first
  pub alike : Each (ClaimsWith first name) jobs

-- they are the first of these, in turns that follow this one
pub record IsRunOf (finished : ℕ) (jobs : List Job) (first : Job) (name : List ℕ) (run : List Job) :
    Type 0 where
  pub some : 0 < length run
  pub few : length run ≤ length jobs
  pub taken : run ≡ take (length run) jobs
  pub turns : Turns finished run (finished + length run)
  pub run_is : IsClaimRun first name run

-- ---- whom they may go to

-- the most bytes of a message, and of what stands behind its head (profile)
abbrev pub most_bytes : ℕ
most_bytes = 8192

abbrev pub most_tail : ℕ
most_tail = 4096

-- it is in the queue group, and may get the job
abbrev pub is_asked : Job → List ℕ → Received → Bool
is_asked job name r = is_named name r.queue && may_get_at job r.conn

-- the member is this receiver, which has no maximum; its connection has room for so many messages
pub record IsMember (count : ℕ) (receivers : List Received) (clients : List Client) (m : Member)
    (r : Received) : Type 0 where
  pub stands : slice_get receivers m.place ≡ Some r
  pub serial_is : m.serial ≡ r.serial
  pub unlimited : r.is_limited ≡ false
  pub seat_is : IsSeatOf r.conn m.seat clients
  pub short : length r.head + most_tail ≤ most_bytes
  pub room : HasRoomAt count most_bytes (client_at r.conn clients)

-- the job goes to none at Begin, and the members are all that it may go to, in order
pub record IsOpenRun (count : ℕ) (job : Job) (name : List ℕ) (receivers : List Received)
    (clients : List Client) (members : List Member) : Type 0 where
  pub undue : filter (is_due_to job) receivers ≡ []
  pub members_are :
      Along (IsMember count receivers clients) members (filter (is_asked job name) receivers)

-- of those that receive the subject of the job
abbrev pub IsOpenFor : ℕ → Job → List ℕ → List Subscription → List Client → List Member → Type 0
IsOpenFor count job name subs clients members =
    IsOpenRun count job name
    (receivers_of job.message.subject (filter (gets job.message.subject) subs)) clients members

-- the receiver at this place is not due; and where the job may go to it, it is noted
pub record NotesMember (count place : ℕ) (job : Job) (name : List ℕ) (r : Received)
    (clients : List Client) (old new : List Member) : Type 0 where
  pub undue : is_due_to job r ≡ false
  pub others : is_asked job name r ≡ false → new ≡ old
  pub asked : is_asked job name r ≡ true
      → (m : Member)
      × (new ≡ old ++ m ∷ [])
      × (m.place ≡ place)
      × ((receivers : List Received)
      → slice_get receivers place ≡ Some r
      → IsMember count receivers clients m r)

-- ---- what one job changes

-- the entry of a member
abbrev pub queued_entry : ℕ → Job → List ℕ → Received → Written
queued_entry shard job name r =
    spelt_entry job.id (id_of shard r.serial) (Queue name)
    (drop 1 r.head ++ tail_for (tails_of job.message) false)

-- it is put for the member at this place among those that the job may go to
pub record StagesAt (shard : ℕ) (job : Job) (name : List ℕ) (asked : List Received) (at : ℕ)
    (old new : List Client) : Type 0 where
  pub member : Received
  pub stands : slice_get asked at ≡ Some member
  pub put : new
      ≡ clients_with_change (with_entry (queued_entry shard job name member)) member.conn old

-- the fields of a shard in this state, with nothing in hand
pub record IsShardAt (s : State) (shard : ℕ) (conns : Clients) (opened : Opened) : Type 0 where
  pub idle : s.hand ≡ None
  pub shard_is : s.shard ≡ shard
  pub conns_are : conns ≡ record { shown = s.clients; next = s.clients }
  pub opened_are : opened ≡ part_of s

-- the state with these jobs done, and with these connections and subscriptions
abbrev pub with_done : State → List Job → Clients → Opened → State
with_done s jobs conns opened = record s {
  finished = s.finished + length jobs;
  next_index = index_after s.next_index jobs;
  clients = conns.shown;
  subs = opened.subs;
}

-- so many of these jobs, from the first on, are worked, and the fields are those of the state then
pub record HasWorked (s : State) (jobs : List Job) (count : ℕ) (conns : Clients) (opened : Opened)
    (before after : ClaimPart) : Type 0 where
  pub few : count ≤ length jobs
  pub wins : List Bool
  pub many : length wins ≡ count
  pub claimed : AreClaimed s (take count jobs) wins (with_done s (take count jobs) conns opened)
  pub settled : conns.next ≡ conns.shown
  pub deltas : opened.deltas ≡ s.deltas
  pub part : after ≡ with_claims s (take count jobs) wins before

-- one job is, with its claim won or not
pub record HasClaimed (s : State) (job : Job) (won : Bool) (conns : Clients) (opened : Opened)
    (before after : ClaimPart) : Type 0 where
  pub claimed : IsClaimed s job won
  pub state_is : ended_after s job won ≡ with_done s (job ∷ []) conns opened
  pub settled : conns.next ≡ conns.shown
  pub deltas : opened.deltas ≡ s.deltas
  pub part : after ≡ with_claims s (job ∷ []) (won ∷ []) before

-- the seat is in the same turn still, or has gone on to the next
pub record IsInTurn (before after : ClaimPart) : Type 0 where
  pub finished : after.finished ≡ before.finished
  pub seen : after.seen ≡ before.seen

pub record HasTurned (before after : ClaimPart) : Type 0 where
  pub finished : after.finished ≡ before.finished + 1
  pub next : after.next ≡ 0
  pub seen : after.seen ≡ before.seen

-- so it is from each state that these fields are of
abbrev pub ClaimsNext : ℕ → Job → Bool → Clients → Clients → Opened → Opened → ClaimPart
    → ClaimPart → Type 0
ClaimsNext shard job won conns conns2 opened opened2 before after =
    (s : State)
    → IsShardAt s shard conns opened
    → before.finished ≡ s.finished
    → before.next ≡ 0
    → job.turn ≡ s.finished + 1
    → HasClaimed s job won conns2 opened2 before after

-- the run stays open for the jobs behind the one worked
abbrev pub StaysOpen : Job → List ℕ → List Member → List Client → List Client → List Subscription
    → List Subscription → Type 0
StaysOpen first name members old new subs subs2 =
    (count : ℕ)
    → IsOpenFor (count + 1) first name subs old members
    → IsOpenFor count first name subs2 new members

-- connections keep their numbers, and subscriptions their serials; each of these got at most so
-- many messages more
pub record KeepsOrder (count : ℕ) (old new : List Client) (subs subs2 : List Subscription) :
    Type 0 where
  pub numbers : (most : ℕ)
      → All (λ client. client.number < most) old
      → All (λ client. client.number < most) new
  pub possible : (opened most : ℕ)
      → ArePossible opened most subs
      → ArePossible opened (most + count) subs2
  pub counts : (more : ℕ)
      → All (λ sub. sub.delivered + (more + count) < 2 ^ 64) subs
      → All (λ sub. sub.delivered + more < 2 ^ 64) subs2
