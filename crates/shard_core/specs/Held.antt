-- A shard between two calls, and how its calls go.
use Rattle.std.specs.Prelude.{◌≡◌, ℕ, ◌+◌, ◌*◌, ◌<◌, ◌≤◌, Bool, true, false, List, [], find, Option, Some, None, is_some, option_map, All}
use Rattle.outbox.specs.Views.{with_entry}
use Rattle.sub_table.specs.Subscriptions.{has_serial}
use Rattle.sub_table.specs.declared.Subscription.{Subscription}
use Rattle.subj.specs.declared.jobs.Job.{Job}
use Rattle.subj.specs.declared.limits.TheConstants.{MAX_COUNTER, MAX_SHARDS, MAX_QUEUE_NAMES}
use Rattle.shard_core.specs.declared.calls.Candidate.{Candidate}
use Rattle.shard_core.specs.declared.calls.Placed.{Placed}
use Rattle.shard_core.specs.Shards.{State, Client, new_shard, clients_with_change}
use Rattle.shard_core.specs.Closings.{id_of}
use Rattle.shard_core.specs.Owed.{owed_entry, owed_placed, after_put, candidate_named, candidate_of, ended_by, after_try}
use Rattle.shard_core.specs.ShardEvents.{Event, Answer, Claim}
use Rattle.shard_core.specs.ShardSteps.{shard_refusal, shard_after, shard_answer}

-- its state, and the member of a queue group that the last call chose, whose entry is kept for it
-- unseen
pub record Held : Type 0 where
  pub state : State
  pub chosen : Option Subscription

-- a shard of these parts, which has done nothing
abbrev pub shard_with : ℕ → List Client → List Subscription → State
shard_with shard clients subs = record (new_shard shard 0) { clients = clients; subs = subs }

-- no candidate stands
abbrev pub held_at_rest : State → Held
held_at_rest s = record { state = s; chosen = None }

-- ---- what a call does

-- it is the step of this event, with this answer, and no candidate stands behind it
pub record DoesStep (old : Held) (event : Event) (answer : Answer) (new : Held) : Type 0 where
  pub answered : answer ≡ shard_answer old.state event
  pub after : new ≡ held_at_rest (shard_after old.state event)

-- it leaves the state as it was; a candidate that stood is dropped
abbrev pub IsLeft : Held → Held → Type 0
IsLeft old new = new ≡ held_at_rest old.state

-- ---- a claim in two calls

-- a copy of an entry, where it is asked for
abbrev pub copy_of : Bool → Placed → Option Placed
copy_of true placed = Some placed
copy_of false placed = None

-- what is told of a candidate: its name, and a copy of the entry that it gets if the claim is won
abbrev pub candidate_told : Bool → ℕ → List Client → Job → Subscription → Candidate
candidate_told copies shard clients job sub = record {
  sub = id_of shard sub.serial;
  placed = copy_of copies (owed_placed shard clients job sub.key.queue sub);
}

abbrev pub told_of : Bool → ℕ → List Client → Option Job → Option Subscription → Option Candidate
told_of copies shard clients None chosen = None
told_of copies shard clients (Some job) chosen =
    option_map (candidate_told copies shard clients job) chosen

-- the index is tried, and the candidate stands
pub record Chooses (copies : Bool) (old : Held) (index : ℕ) (candidate : Option Candidate)
    (new : Held) : Type 0 where
  pub told : candidate
      ≡ told_of copies old.state.shard old.state.clients old.state.hand
      (candidate_of old.state old.state.hand index)
  pub after : new
      ≡ record { state = after_try old.state; chosen = candidate_of old.state old.state.hand index }

-- the last call chose a candidate for this index
pub record Stands (index : ℕ) (held : Held) : Type 0 where
  pub chosen : is_some held.chosen ≡ true
  pub hand : is_some held.state.hand ≡ true
  pub tried : held.state.next_index ≡ index + 1

-- the candidate gets its entry
abbrev pub after_put_chosen : State → Option Job → Option Subscription → State
after_put_chosen s None chosen = s
after_put_chosen s (Some job) None = s
after_put_chosen s (Some job) (Some sub) = after_put s job sub

-- what closes with it
abbrev pub ended_by_chosen : Option Subscription → List ℕ
ended_by_chosen None = []
ended_by_chosen (Some sub) = ended_by sub

-- the open subscription of this serial
abbrev pub with_serial : Option ℕ → List Subscription → Option Subscription
with_serial None subs = None
with_serial (Some serial) subs = find (has_serial serial) subs

-- the serial of a candidate
abbrev pub serial_told : Option Candidate → Option ℕ
serial_told candidate = option_map (λ (c : Candidate). c.sub.serial) candidate

-- what waits once the candidate's entry is shown
abbrev pub staged_in : Option Job → Subscription → ℕ → List Client → List Client
staged_in None sub shard clients = clients
staged_in (Some job) sub shard clients =
    clients_with_change (with_entry (owed_entry shard clients job sub.key.queue sub)) sub.conn
    clients

abbrev pub staged_for : Option Subscription → Option Job → ℕ → List Client → List Client
staged_for None hand shard clients = clients
staged_for (Some sub) hand shard clients = staged_in hand sub shard clients

-- the member that a claim chooses by this name, and what waits once its entry is shown
pub record HasChosen (copies : Bool) (s : State) (job : Job) (name : List ℕ)
    (candidate : Option Candidate) (next : List Client) : Type 0 where
  pub told : candidate
      ≡ option_map (candidate_told copies s.shard s.clients job) (candidate_named s job (Some name))
  pub chosen : with_serial (serial_told candidate) s.subs ≡ candidate_named s job (Some name)
  pub staged : next ≡ staged_for (candidate_named s job (Some name)) (Some job) s.shard s.clients

-- Placed by the next call, it is the step of a claim that is won; else that of one that is not.
pub record IsWhole (old : State) (index : ℕ) (mid : Held) : Type 0 where
  pub not_won : mid.state ≡ shard_after old (Claim index false)
  pub stands : is_some mid.chosen ≡ true → Stands index mid
  pub won : is_some mid.chosen ≡ true
      → after_put_chosen mid.state mid.state.hand mid.chosen ≡ shard_after old (Claim index true)

abbrev pub ClaimsAreWhole : Type 0
ClaimsAreWhole =
    (copies : Bool) (old mid : Held) (index : ℕ) (candidate : Option Candidate)
    → shard_refusal old.state (Claim index false) ≡ None
    → Chooses copies old index candidate mid
    → IsWhole old.state index mid

-- ---- what its fields keep

-- the numbers of its connections are below the next one
pub record AreNumbered (shards next_conn : ℕ) (clients : List Client) : Type 0 where
  pub some : 0 < shards
  pub few : shards ≤ MAX_SHARDS
  pub numbers : next_conn ≤ MAX_COUNTER + MAX_SHARDS
  pub below : All (λ client. client.number < next_conn) clients

-- the job in hand is that of the next turn
abbrev pub IsNextTurn : ℕ → Option Job → Type 0
IsNextTurn finished None = Unit {0}
IsNextTurn finished (Some job) = (job.turn ≡ finished + 1) × (job.turn ≤ MAX_COUNTER)

pub record HasTurns (finished next_index : ℕ) (hand : Option Job) : Type 0 where
  pub last : finished ≤ MAX_COUNTER
  pub tried : next_index ≤ MAX_QUEUE_NAMES
  pub turn : IsNextTurn finished hand

-- A subscription gets at most one message at each Begin and at each Claim: so many since the shard
-- began. The message of a candidate that stands is not among them.
abbrev pub each_turn : ℕ
each_turn = MAX_QUEUE_NAMES + 1

abbrev pub most_counts : Option Job → Option Subscription → ℕ → ℕ → ℕ
most_counts None chosen finished next_index = finished * each_turn
most_counts (Some job) None finished next_index = finished * each_turn + next_index + 1
most_counts (Some job) (Some sub) finished next_index = finished * each_turn + next_index

-- its serial was given, and its count is possible
pub record IsPossible (opened most : ℕ) (sub : Subscription) : Type 0 where
  pub serial : sub.serial ≤ opened
  pub delivered : sub.delivered ≤ most

abbrev pub ArePossible : ℕ → ℕ → List Subscription → Type 0
ArePossible opened most subs = All (λ sub. IsPossible opened most sub) subs

pub record IsSound (s : State) (chosen : Option Subscription) (next : List Client) : Type 0 where
  pub numbered : AreNumbered s.shards s.next_conn s.clients
  pub turns : HasTurns s.finished s.next_index s.hand
  pub possible : ArePossible s.opened (most_counts s.hand chosen s.finished s.next_index) s.subs
  pub staged : next ≡ staged_for chosen s.hand s.shard s.clients
