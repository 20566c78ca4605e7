-- Why subscriptions close, and connections; and what every shard keeps of those that are open.
use Rattle.std.specs.Prelude.{◌≡◌, ◌≢◌, ◌⊎◌, ◌↔◌, ℕ, ◌+◌, ◌-◌, ◌%◌, ◌<◌, ◌≤◌, true, false, List, ◌++◌, length, filter, map, Option, Some, None, option_map, Result, if◌then◌else◌}
use Rattle.list_laws.specs.Lists.{In, Each, Pairs}
use Rattle.client_frames.specs.Frames.{reply_line}
use Rattle.outbox.specs.Views.{Written, with_entries}
use Rattle.sub_table.specs.Subscriptions.{has_serial, is_called}
use Rattle.sub_table.specs.declared.Subscription.{Subscription}
use Rattle.subj.specs.declared.identities.SubId.{SubId}
use Rattle.subj.specs.declared.jobs.Job.{Job}
use Rattle.shard_core.specs.declared.faults.ShardFault.{ShardFault}
use Rattle.shard_core.specs.Shards.{State, Client, new_shard, client_at, is_open, with_outbox, fits}
use Rattle.shard_core.specs.Owed.{whole_walk, is_due, owed_entry, owed_placed}
use Rattle.shard_core.specs.Opened.{AreRising}
use Rattle.shard_core.specs.Puts.{entries_for}
use Rattle.shard_core.specs.ShardEvents.{Event, Subscribe, Unsubscribe, Reply, Shut, Detach, Begin, Answer}
use Rattle.shard_core.specs.ShardSteps.{answer_fits, new_sub, shard_refusal, shard_after, shard_answer, shut_by, ended_of, IsStep}
use Rattle.shard_core.specs.AsLaw.{given_by, is_open_serial}

-- ---- what every shard keeps

-- Serials rise, and were given. On its connection, which takes events, each has an id of its own;
-- and it got fewer messages than its maximum, where it has one (NATS documentation, "Client
-- Protocol", `SUB` and `UNSUB`).
pub record AreHeld (s : State) : Type 0 where
  pub rising : AreRising s.subs
  pub given : Each (λ sub. sub.serial ≤ s.opened) s.subs
  pub called : Pairs (λ u v. u.conn ≡ v.conn → u.sid ≢ v.sid) s.subs
  pub served : Each (λ sub. is_open sub.conn s.clients ≡ true) s.subs
  pub unspent : Each (λ sub. (max : ℕ) → sub.max ≡ Some max → sub.delivered < max) s.subs

-- so it is at the start, and each step keeps it
pub record SubsStayHeld : Type 0 where
  pub start : (shard shards : ℕ) → AreHeld (new_shard shard shards)
  pub step : (old : State) (event : Event) (outcome : Result Answer ShardFault) (new : State)
      → IsStep old event outcome new
      → AreHeld old
      → AreHeld new

-- ---- what becomes of a subscription

-- how many messages of this event are for it
abbrev pub given_to : State → Event → Subscription → ℕ
given_to s e sub = length (filter (has_serial sub.serial) (given_by s e))

-- a later maximum replaces an earlier one (profile)
abbrev pub max_after : Event → Subscription → Option ℕ
max_after (Unsubscribe conn sid max) sub = if is_called conn sid sub then max else sub.max
max_after other sub = sub.max

-- an event counts the messages that it gives, and notes a maximum; all else of a subscription stays
abbrev pub sub_after : State → Event → Subscription → Subscription
sub_after s e sub = record sub {
  delivered = sub.delivered + given_to s e sub;
  max = max_after e sub;
}

abbrev pub IsOpening : State → Event → Subscription → Type 0
IsOpening s (Subscribe conn key sid) new = new ≡ new_sub s conn key sid
IsOpening s other new = ⊥

-- what is open after an event was open before, or it is what the event opens
abbrev pub SubsGoOn : Type 0
SubsGoOn =
    (s : State) (e : Event)
    → AreHeld s
    → shard_refusal s e ≡ None
    → Each
    (λ new. ((old : Subscription) × In old s.subs × (new ≡ sub_after s e old)) ⊎ IsOpening s e new)
    (shard_after s e).subs

-- ---- what closes

-- the subscription of this serial was open before, and is not after
abbrev pub Closes : State → State → ℕ → Type 0
Closes old new serial =
    (is_open_serial serial old.subs ≡ true) × (is_open_serial serial new.subs ≡ false)

-- just those are told, each once
pub record AreTold (s : State) (e : Event) : Type 0 where
  pub told : (sub : SubId)
      → In sub (ended_of (shard_answer s e))
      ↔ ((sub.shard ≡ s.shard) × Closes s (shard_after s e) sub.serial)
  pub once : Pairs (λ x y. x ≢ y) (ended_of (shard_answer s e))

abbrev pub ClosingsAreTold : Type 0
ClosingsAreTold = (s : State) (e : Event) → AreHeld s → shard_refusal s e ≡ None → AreTold s e

-- ---- why: its connection went or was shut,

-- the connection took events before, and takes none after
abbrev pub Leaves : State → State → ℕ → Type 0
Leaves old new conn = (is_open conn old.clients ≡ true) × (is_open conn new.clients ≡ false)

-- or its maximum is reached with a message of this event,
abbrev pub IsSpent : State → Event → Subscription → Type 0
IsSpent s e sub = (max : ℕ) × (sub.max ≡ Some max) × (max ≤ sub.delivered + given_to s e sub)

-- or it is unsubscribed from: at once, or with as many messages delivered as that asks for

abbrev pub HasEnough : Option ℕ → ℕ → Type 0
HasEnough None delivered = Unit {0}
HasEnough (Some max) delivered = max ≤ delivered

abbrev pub IsUnsubscribed : Event → Subscription → Type 0
IsUnsubscribed (Unsubscribe conn sid max) sub =
    (sub.conn ≡ conn) × (sub.sid ≡ sid) × HasEnough max sub.delivered
IsUnsubscribed other sub = ⊥

abbrev pub HasCause : State → Event → Subscription → Type 0
HasCause s e sub = Leaves s (shard_after s e) sub.conn ⊎ (IsSpent s e sub ⊎ IsUnsubscribed e sub)

abbrev pub ClosesByCause : Type 0
ClosesByCause =
    (s : State) (e : Event)
    → AreHeld s
    → shard_refusal s e ≡ None
    → (sub : Subscription)
    → In sub s.subs
    → Closes s (shard_after s e) sub.serial ↔ HasCause s e sub

-- ---- and why a connection goes or is shut: at its Detach and its Shut, and for want of room

-- what waits for a connection, and behind it the messages that a Begin gives to it
abbrev pub with_given : State → Job → List Subscription → ℕ → Option Client
with_given s job given conn =
    option_map
    (with_outbox
    (with_entries (entries_for conn (map (owed_placed s.shard s.clients job None) given))))
    (client_at conn s.clients)

-- there is no room for the answer that is handed in; or, behind what a Begin gives to the
-- connection, for one more message that it owes there
abbrev pub LacksRoom : State → Event → ℕ → Type 0
LacksRoom s (Reply of frame) conn = (conn ≡ of) × (answer_fits s of (reply_line frame) ≡ false)
LacksRoom s (Begin job) conn =
    (sub : Subscription)
    × In sub (filter (is_due job) s.subs)
    × (sub.conn ≡ conn)
    × (fits (with_given s job (whole_walk s job).given conn)
    (owed_entry s.shard s.clients job None sub) ≡ false)
LacksRoom s other conn = ⊥

abbrev pub IsShut : Event → ℕ → Type 0
IsShut (Shut of text) conn = conn ≡ of
IsShut other conn = ⊥

abbrev pub IsDetached : Event → ℕ → Type 0
IsDetached (Detach of) conn = conn ≡ of
IsDetached other conn = ⊥

-- a connection that took events takes none any more just where it is detached or shut; it is shut
-- by a Shut or for want of room; and each message that a Begin owes on a connection that is not
-- shut is given
pub record ConnectionsLeave (s : State) (e : Event) : Type 0 where
  pub left : (conn : ℕ)
      → Leaves s (shard_after s e) conn
      ↔ ((is_open conn s.clients ≡ true) × (IsDetached e conn ⊎ In conn (shut_by s e)))
  pub shut : Each (λ conn. IsShut e conn ⊎ LacksRoom s e conn) (shut_by s e)

pub record GivesAll (s : State) (job : Job) : Type 0 where
  pub all : Each (λ sub.
      is_open sub.conn s.clients ≡ true
      → In sub (whole_walk s job).given ⊎ In sub.conn (whole_walk s job).shut)
      (filter (is_due job) s.subs)

pub record RoomDecides : Type 0 where
  pub leave : (s : State) (e : Event) → shard_refusal s e ≡ None → ConnectionsLeave s e
  pub all : (s : State) (job : Job) → GivesAll s job

-- ---- the numbers of connections tell their shard: those of shard s of K are s, s + K, s + 2K, ..,
-- in order of attaching (profile)

pub record IsOwn (s : State) (number : ℕ) : Type 0 where
  pub some : 1 ≤ number
  pub place : (number - 1) % s.shards ≡ s.shard - 1

-- each later connection has a greater number, and the next one a number above all of them
pub record HasOwnNumbers (s : State) : Type 0 where
  pub shards : 1 ≤ s.shards
  pub next : IsOwn s s.next_conn
  pub all : Each (λ client. IsOwn s client.number) s.clients
  pub rising : Pairs (λ (older newer : Client). older.number < newer.number) s.clients
  pub below : Each (λ client. client.number < s.next_conn) s.clients

pub record NumbersTellShards : Type 0 where
  pub start : (shard shards : ℕ)
      → 1 ≤ shard
      → shard ≤ shards
      → HasOwnNumbers (new_shard shard shards)
  pub step : (old : State) (event : Event) (outcome : Result Answer ShardFault) (new : State)
      → IsStep old event outcome new
      → HasOwnNumbers old
      → HasOwnNumbers new
