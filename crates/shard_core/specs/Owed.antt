-- What a shard owes for a job: to plain subscriptions at Begin, and to one member of a queue group
-- at a Claim.
use Rattle.std.specs.Prelude.{ℕ, ◌+◌, ◌%◌, Bool, false, not, ◌&&◌, ◌||◌, nat_eq, nat_le, List, [], ◌∷◌, ◌++◌, length, filter, map, Option, Some, None, is_none, slice_get, if◌then◌else◌}
use Rattle.std.specs.List.{list_any}
use Rattle.client_frames.specs.ErrTexts.{err_line}
use Rattle.client_frames.specs.Messages.{due_line, due_body}
use Rattle.client_frames.specs.declared.err_texts.ErrText.TheVariants.{SlowConsumer}
use Rattle.outbox.specs.Views.{Written, message_entry, with_entry, with_last}
use Rattle.outbox.specs.declared.entries.Mode.{Mode}
use Rattle.outbox.specs.declared.entries.Mode.TheVariants.{Plain, Queue}
use Rattle.sub_table.specs.Subscriptions.{gets}
use Rattle.sub_table.specs.declared.Subscription.{Subscription}
use Rattle.subj.specs.QueueNames.{is_named}
use Rattle.subj.specs.declared.jobs.Job.{Job}
use Rattle.shard_core.specs.declared.calls.Placed.{Placed}
use Rattle.shard_core.specs.Shards.{State, Client, client_at, is_open, takes_headers, clients_with_change, fits}
use Rattle.shard_core.specs.Closings.{id_of, serials_of, left_of, without_subs}

-- ---- who is owed, and what

-- NATS documentation, "Client Protocol", `echo`: without it the publisher's own subscriptions get
-- nothing
abbrev pub is_publisher : Option ℕ → ℕ → Bool
is_publisher None conn = false
is_publisher (Some publisher) conn = nat_eq publisher conn

abbrev pub may_get_at : Job → ℕ → Bool
may_get_at job conn = job.echo || not (is_publisher job.publisher conn)

abbrev pub is_permitted : Job → Subscription → Bool
is_permitted job sub = may_get_at job sub.conn

abbrev pub is_wanted : Job → Subscription → Bool
is_wanted job sub = gets job.message.subject sub && is_permitted job sub

-- NATS documentation, "Queue Groups": a subscription without a queue name is a member of no group
abbrev pub is_plain : Subscription → Bool
is_plain sub = is_none sub.key.queue

abbrev pub mode_of : Option (List ℕ) → Mode
mode_of None = Plain
mode_of (Some name) = Queue name

-- the entry of a subscription: the message, with its header block or without, and for what it is
-- put
abbrev pub due_entry : ℕ → Bool → Job → Option (List ℕ) → Subscription → Written
due_entry shard option job queue sub =
    message_entry job.id (id_of shard sub.serial) (mode_of queue)
    (due_line job.message sub.sid option) (due_body job.message option)

abbrev pub placed_for : ℕ → Bool → Job → Option (List ℕ) → Subscription → Placed
placed_for shard option job queue sub = record {
  conn = sub.conn;
  entry = due_entry shard option job queue sub;
  headers = option;
}

-- by the option of its connection
abbrev pub owed_entry : ℕ → List Client → Job → Option (List ℕ) → Subscription → Written
owed_entry shard clients job queue sub =
    due_entry shard (takes_headers sub.conn clients) job queue sub

abbrev pub owed_placed : ℕ → List Client → Job → Option (List ℕ) → Subscription → Placed
owed_placed shard clients job queue sub =
    placed_for shard (takes_headers sub.conn clients) job queue sub

-- ---- Begin

-- the connections so far; who was given an entry, which connections were shut, and which
-- subscriptions closed, in order
pub record Walk : Type 0 where
  pub clients : List Client
  pub given : List Subscription
  pub shut : List ℕ
  pub ended : List ℕ

abbrev pub first_step : List Client → Walk
first_step clients = record { clients = clients; given = []; shut = []; ended = [] }

-- NATS documentation, "Client Protocol", `UNSUB`: a subscription closes with the message that
-- reaches its maximum
abbrev pub reaches : Option ℕ → ℕ → Bool
reaches None delivered = false
reaches (Some max) delivered = nat_le max delivered

abbrev pub ended_by : Subscription → List ℕ
ended_by sub = if reaches sub.max (sub.delivered + 1) then sub.serial ∷ [] else []

-- an entry is put
abbrev pub walk_with_entry : Written → Subscription → Walk → Walk
walk_with_entry entry sub w = record w {
  clients = clients_with_change (with_entry entry) sub.conn w.clients;
  given = w.given ++ sub ∷ [];
  ended = w.ended ++ ended_by sub;
}

-- a connection without room is shut, and all its subscriptions close, those of queue groups too
-- (profile)
abbrev pub slow_consumer : List ℕ
slow_consumer = err_line SlowConsumer

abbrev pub walk_with_shut : List Subscription → ℕ → Walk → Walk
walk_with_shut subs conn w = record w {
  clients = clients_with_change (with_last slow_consumer) conn w.clients;
  shut = w.shut ++ conn ∷ [];
  ended = w.ended ++ left_of conn w.ended subs;
}

-- nothing for a connection that was shut before: its subscriptions closed with it
abbrev pub walk_after_put : State → Job → Walk → Subscription → Walk
walk_after_put s job w sub =
    if is_open sub.conn w.clients
    then (if fits (client_at sub.conn w.clients) (owed_entry s.shard s.clients job None sub)
    then walk_with_entry (owed_entry s.shard s.clients job None sub) sub w
    else walk_with_shut s.subs sub.conn w)
    else w

abbrev pub walk : State → Job → List Subscription → Walk → Walk
walk s job [] w = w
walk s job (sub ∷ subs) w = walk s job subs (walk_after_put s job w sub)

-- the open plain subscriptions that match and are permitted, in order of their serials, each once
-- (profile)
abbrev pub is_due : Job → Subscription → Bool
is_due job sub = is_plain sub && is_wanted job sub

abbrev pub whole_walk : State → Job → Walk
whole_walk s job = walk s job (filter (is_due job) s.subs) (first_step s.clients)

-- ---- the state after entries were given

abbrev pub sub_with_count : List ℕ → Subscription → Subscription
sub_with_count given sub =
    if list_any (nat_eq sub.serial) given then record sub { delivered = sub.delivered + 1 } else sub

abbrev pub after_walk : State → Walk → State
after_walk s w =
    without_subs w.ended
    (record s { clients = w.clients; subs = map (sub_with_count (serials_of w.given)) s.subs })

abbrev pub after_begin : State → Job → State
after_begin s job = after_walk (record s { hand = Some job; next_index = 0 }) (whole_walk s job)

-- ---- Claim

-- NATS documentation, "Queue Groups": one member is chosen. Here of those that are open now, match,
-- are permitted and have room, in order of their serials, the one at the place of the turn among as
-- many (profile).
abbrev pub is_candidate : State → Job → List ℕ → Subscription → Bool
is_candidate s job name sub =
    is_named name sub.key.queue
    && (is_wanted job sub
    && fits (client_at sub.conn s.clients) (owed_entry s.shard s.clients job (Some name) sub))

abbrev pub member_for_turn : ℕ → List Subscription → Option Subscription
member_for_turn turn subs = slice_get subs (turn % length subs)

abbrev pub candidate_named : State → Job → Option (List ℕ) → Option Subscription
candidate_named s job None = None
candidate_named s job (Some name) =
    member_for_turn job.turn (filter (is_candidate s job name) s.subs)

abbrev pub candidate_of : State → Option Job → ℕ → Option Subscription
candidate_of s None index = None
candidate_of s (Some job) index = candidate_named s job (slice_get job.queues index)

-- the index was tried
abbrev pub after_try : State → State
after_try s = record s { next_index = s.next_index + 1 }

-- the member gets its entry
abbrev pub after_put : State → Job → Subscription → State
after_put s job sub =
    after_walk s (walk_with_entry (owed_entry s.shard s.clients job sub.key.queue sub) sub
    (first_step s.clients))

-- only a claim that is won places; without a candidate none is made
abbrev pub after_claim : State → Option Job → Option Subscription → Bool → State
after_claim s None sub won = s
after_claim s (Some job) None won = after_try s
after_claim s (Some job) (Some sub) won =
    if won then after_put (after_try s) job sub else after_try s
