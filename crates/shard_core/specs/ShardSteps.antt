-- A shard's step: why an event is refused, the state after it, and the answer.
use Rattle.std.specs.Prelude.{◌≡◌, ℕ, ◌+◌, ◌/◌, Bool, true, false, not, ◌&&◌, ◌||◌, nat_eq, nat_lt, nat_le, List, [], ◌∷◌, ◌++◌, length, map, find, take, Option, Some, None, is_some, Result, Ok, Err, if◌then◌else◌}
use Rattle.std.specs.Option.{option_or}
use Rattle.client_frames.specs.ErrTexts.{err_line}
use Rattle.client_frames.specs.Frames.{reply_line}
use Rattle.outbox.specs.Views.{empty_backlog, reply_entry, with_entry, with_last, without_first}
use Rattle.sub_table.specs.Subscriptions.{is_called, with_max, total_cost}
use Rattle.sub_table.specs.declared.Subscription.{Subscription}
use Rattle.subj.specs.Keys.{cost_of, opening}
use Rattle.subj.specs.declared.identities.SubId.{SubId}
use Rattle.subj.specs.declared.jobs.Job.{Job}
use Rattle.subj.specs.declared.keys.Key.{Key}
use Rattle.subj.specs.declared.limits.TheConstants.{MAX_COUNTER, MAX_SERIAL, SUBSCRIPTIONS, SUBSCRIPTION_BYTES, OUTBOX_ENTRIES, OUTBOX_BYTES}
use Rattle.shard_core.specs.declared.faults.ShardFault.{ShardFault}
use Rattle.shard_core.specs.declared.faults.ShardFault.TheVariants.{NoConn, JobInHand, NoJob, WrongTurn, TooManySubs, BadIndex, NotAllTried, Spent, Draining}
use Rattle.shard_core.specs.Shards.{State, Client, is_open, is_known, client_at, clients_with_change, clients_with_headers, without_client, fits, waits_for}
use Rattle.shard_core.specs.Closings.{id_of, left_of, without_subs, ended_ids}
use Rattle.shard_core.specs.Owed.{Walk, whole_walk, after_begin, slow_consumer, candidate_of, after_claim, owed_placed, ended_by}
use Rattle.shard_core.specs.ShardEvents.{Event, Attach, Subscribe, Unsubscribe, Reply, SetHeaders, Shut, Detach, Take, Begin, Claim, End, DropJob, Drain, Collect, Answer, Attached, Opened, AlreadyOpen, Unsubscribed, Replied, HeadersSet, WasShut, Detached, Taken, Began, Nobody, Lost, Won, Finished, Dropped, Drains, Collected}

-- what the connection calls by this id
abbrev pub sub_called : ℕ → List ℕ → List Subscription → Option Subscription
sub_called conn sid subs = find (is_called conn sid) subs

-- ---- why an event is refused, the first cause first (profile)

-- one more subscription is beyond the shard's share of the server's limits
abbrev pub is_full : State → Key → Bool
is_full s key =
    nat_le (SUBSCRIPTIONS / s.shards) (length s.subs)
    || not (nat_le (total_cost s.subs + cost_of key) (SUBSCRIPTION_BYTES / s.shards))

abbrev pub open_refusal : State → ℕ → Option ShardFault
open_refusal s conn = if is_open conn s.clients then None else Some NoConn

abbrev pub known_refusal : State → ℕ → Option ShardFault
known_refusal s conn = if is_known conn s.clients then None else Some NoConn

-- a sid that is open is told before the limits, and a drain before the sid
abbrev pub subscribe_refusal : State → ℕ → Key → List ℕ → Option ShardFault
subscribe_refusal s conn key sid =
    if not (is_open conn s.clients) then Some NoConn
    else (if s.draining then Some Draining
    else (if is_some (sub_called conn sid s.subs) then None
    else (if is_full s key then Some TooManySubs
    else (if nat_le MAX_SERIAL s.opened then Some Spent else None))))

abbrev pub begin_refusal : State → Job → Option ShardFault
begin_refusal s job =
    if is_some s.hand then Some JobInHand
    else (if nat_eq job.turn (s.finished + 1) then None else Some WrongTurn)

-- the queue names of a job are claimed one after the other
abbrev pub claim_refusal : State → ℕ → Option Job → Option ShardFault
claim_refusal s index None = Some NoJob
claim_refusal s index (Some job) =
    if nat_eq index s.next_index && nat_lt index (length job.queues) then None else Some BadIndex

abbrev pub end_refusal : State → Option Job → Option ShardFault
end_refusal s None = Some NoJob
end_refusal s (Some job) =
    if nat_eq s.next_index (length job.queues) then None else Some NotAllTried

abbrev pub shard_refusal : State → Event → Option ShardFault
shard_refusal s Attach = if nat_lt MAX_COUNTER s.next_conn then Some Spent else None
shard_refusal s (Subscribe conn key sid) = subscribe_refusal s conn key sid
shard_refusal s (Unsubscribe conn sid max) = open_refusal s conn
shard_refusal s (Reply conn frame) = open_refusal s conn
shard_refusal s (SetHeaders conn on) = open_refusal s conn
shard_refusal s (Shut conn text) = open_refusal s conn
shard_refusal s (Detach conn) = known_refusal s conn
shard_refusal s (Take conn count) = known_refusal s conn
shard_refusal s (Begin job) = begin_refusal s job
shard_refusal s (Claim index won) = claim_refusal s index s.hand
shard_refusal s End = end_refusal s s.hand
shard_refusal s (DropJob waiting) = None
shard_refusal s Drain = if s.draining then Some Draining else None
shard_refusal s Collect = None

-- ---- the state after an event that is not refused

abbrev pub new_client : ℕ → Client
new_client number = record {
  number = number;
  outbox = empty_backlog;
  max_entries = OUTBOX_ENTRIES;
  max_bytes = OUTBOX_BYTES;
  headers = false;
}

abbrev pub after_attach : State → State
after_attach s = record s {
  next_conn = s.next_conn + s.shards;
  clients = s.clients ++ new_client s.next_conn ∷ [];
}

abbrev pub new_sub : State → ℕ → Key → List ℕ → Subscription
new_sub s conn key sid = record {
  serial = s.opened + 1;
  conn = conn;
  key = key;
  sid = sid;
  delivered = 0;
  max = None;
}

-- NATS documentation, "Client Protocol", `SUB`; profile: a sid that is open changes nothing
abbrev pub after_subscribe : State → Subscription → Option Subscription → State
after_subscribe s sub (Some same) = s
after_subscribe s sub None = record s {
  opened = s.opened + 1;
  subs = s.subs ++ sub ∷ [];
  deltas = s.deltas ++ opening sub.key ∷ [];
}

-- NATS documentation, "Client Protocol", `UNSUB`: at once, or once so many messages were delivered;
-- profile: a sid that is not open changes nothing, and a later maximum replaces an earlier one
abbrev pub ended_now : Option ℕ → Subscription → Bool
ended_now None sub = true
ended_now (Some max) sub = nat_le max sub.delivered

abbrev pub after_unsubscribe : State → Option ℕ → Option Subscription → State
after_unsubscribe s max None = s
after_unsubscribe s max (Some sub) =
    if ended_now max sub then without_subs (sub.serial ∷ []) s
    else record s { subs = with_max sub.serial max s.subs }

-- a connection is shut: its last line is put, and all its subscriptions close
abbrev pub was_shut : State → ℕ → List ℕ → State
was_shut s conn line =
    without_subs (left_of conn [] s.subs)
    (record s { clients = clients_with_change (with_last line) conn s.clients })

-- an answer is put, or for want of room its connection is shut
abbrev pub answer_fits : State → ℕ → List ℕ → Bool
answer_fits s conn line = fits (client_at conn s.clients) (reply_entry line)

abbrev pub after_reply : State → ℕ → List ℕ → State
after_reply s conn line =
    if answer_fits s conn line
    then record s { clients = clients_with_change (with_entry (reply_entry line)) conn s.clients }
    else was_shut s conn slow_consumer

-- NATS documentation, "Client Protocol", "CONNECT", `headers`: the last choice holds
abbrev pub after_choice : State → ℕ → Bool → State
after_choice s conn on = record s { clients = clients_with_headers on conn s.clients }

-- a connection goes, and all its subscriptions close
abbrev pub was_detached : State → ℕ → State
was_detached s conn =
    without_subs (left_of conn [] s.subs) (record s { clients = without_client conn s.clients })

-- a job is done, and with it its turn
abbrev pub done_with : State → Option Job → State
done_with s None = s
done_with s (Some job) = record s { finished = job.turn; hand = None; next_index = 0 }

abbrev pub shard_after : State → Event → State
shard_after s Attach = after_attach s
shard_after s (Subscribe conn key sid) =
    after_subscribe s (new_sub s conn key sid) (sub_called conn sid s.subs)
shard_after s (Unsubscribe conn sid max) = after_unsubscribe s max (sub_called conn sid s.subs)
shard_after s (Reply conn frame) = after_reply s conn (reply_line frame)
shard_after s (SetHeaders conn on) = after_choice s conn on
shard_after s (Shut conn text) = was_shut s conn (err_line text)
shard_after s (Detach conn) = was_detached s conn
shard_after s (Take conn count) = record s {
  clients = clients_with_change (without_first count) conn s.clients;
}
shard_after s (Begin job) = after_begin s job
shard_after s (Claim index won) = after_claim s s.hand (candidate_of s s.hand index) won
shard_after s End = done_with s s.hand
shard_after s (DropJob waiting) = done_with s (option_or s.hand waiting)
shard_after s Drain = record s { draining = true }
shard_after s Collect = record s { deltas = [] }

-- ---- what is answered

abbrev pub subscribe_answer : State → Option Subscription → Answer
subscribe_answer s (Some same) = AlreadyOpen
subscribe_answer s None = Opened (id_of s.shard (s.opened + 1))

abbrev pub ended_by_unsubscribe : Option ℕ → Option Subscription → List ℕ
ended_by_unsubscribe max None = []
ended_by_unsubscribe max (Some sub) = if ended_now max sub then sub.serial ∷ [] else []

abbrev pub ended_by_reply : State → ℕ → List ℕ → List ℕ
ended_by_reply s conn line = if answer_fits s conn line then [] else left_of conn [] s.subs

abbrev pub begin_answer : State → Job → Walk → Answer
begin_answer s job w =
    Began (map (owed_placed s.shard s.clients job None) w.given) w.shut (ended_ids s.shard w.ended)

abbrev pub claim_answer : State → Option Job → Option Subscription → Bool → Answer
claim_answer s None sub won = Nobody
claim_answer s (Some job) None won = Nobody
claim_answer s (Some job) (Some sub) won =
    if won
    then Won (id_of s.shard sub.serial) (owed_placed s.shard s.clients job sub.key.queue sub)
    (ended_ids s.shard (ended_by sub))
    else Lost

abbrev pub shard_answer : State → Event → Answer
shard_answer s Attach = Attached s.next_conn
shard_answer s (Subscribe conn key sid) = subscribe_answer s (sub_called conn sid s.subs)
shard_answer s (Unsubscribe conn sid max) =
    Unsubscribed (ended_ids s.shard (ended_by_unsubscribe max (sub_called conn sid s.subs)))
shard_answer s (Reply conn frame) =
    Replied (not (answer_fits s conn (reply_line frame)))
    (ended_ids s.shard (ended_by_reply s conn (reply_line frame)))
shard_answer s (SetHeaders conn on) = HeadersSet
shard_answer s (Shut conn text) = WasShut (ended_ids s.shard (left_of conn [] s.subs))
shard_answer s (Detach conn) = Detached (ended_ids s.shard (left_of conn [] s.subs))
shard_answer s (Take conn count) = Taken (take count (waits_for conn s.clients))
shard_answer s (Begin job) = begin_answer s job (whole_walk s job)
shard_answer s (Claim index won) = claim_answer s s.hand (candidate_of s s.hand index) won
shard_answer s End = Finished
shard_answer s (DropJob waiting) = Dropped (option_or s.hand waiting)
shard_answer s Drain = Drains
shard_answer s Collect = Collected s.deltas

-- ---- who is told: the connections that an event shut, and the subscriptions that an answer tells
-- closed, in order

abbrev pub shut_by : State → Event → List ℕ
shut_by s Attach = []
shut_by s (Subscribe conn key sid) = []
shut_by s (Unsubscribe conn sid max) = []
shut_by s (Reply conn frame) = if answer_fits s conn (reply_line frame) then [] else conn ∷ []
shut_by s (SetHeaders conn on) = []
shut_by s (Shut conn text) = conn ∷ []
shut_by s (Detach conn) = []
shut_by s (Take conn count) = []
shut_by s (Begin job) = (whole_walk s job).shut
shut_by s (Claim index won) = []
shut_by s End = []
shut_by s (DropJob waiting) = []
shut_by s Drain = []
shut_by s Collect = []

abbrev pub ended_of : Answer → List SubId
ended_of (Attached conn) = []
ended_of (Opened sub) = []
ended_of AlreadyOpen = []
ended_of (Unsubscribed ended) = ended
ended_of (Replied shut ended) = ended
ended_of HeadersSet = []
ended_of (WasShut ended) = ended
ended_of (Detached ended) = ended
ended_of (Taken entries) = []
ended_of (Began placed closed ended) = ended
ended_of Nobody = []
ended_of Lost = []
ended_of (Won sub placed ended) = ended
ended_of Finished = []
ended_of (Dropped job) = []
ended_of Drains = []
ended_of (Collected deltas) = []

-- ---- the step

-- the job that a drop is handed: none while one is in hand, and else that of the next turn
abbrev pub IsHanded : ℕ → Option Job → Option Job → Type 0
IsHanded finished (Some hand) waiting = waiting ≡ None
IsHanded finished None None = ⊥
IsHanded finished None (Some job) = job.turn ≡ finished + 1

-- what an event asks of its caller
abbrev pub IsAsked : State → Event → Type 0
IsAsked s Attach = Unit {0}
IsAsked s (Subscribe conn key sid) = Unit {0}
IsAsked s (Unsubscribe conn sid max) = Unit {0}
IsAsked s (Reply conn frame) = Unit {0}
IsAsked s (SetHeaders conn on) = Unit {0}
IsAsked s (Shut conn text) = Unit {0}
IsAsked s (Detach conn) = Unit {0}
IsAsked s (Take conn count) = Unit {0}
IsAsked s (Begin job) = Unit {0}
IsAsked s (Claim index won) = Unit {0}
IsAsked s End = Unit {0}
IsAsked s (DropJob waiting) = IsHanded s.finished s.hand waiting
IsAsked s Drain = Unit {0}
IsAsked s Collect = Unit {0}

-- an event is done,
pub record IsDone (old : State) (event : Event) (answer : Answer) (new : State) : Type 0 where
  pub cause : shard_refusal old event ≡ None
  pub asked : IsAsked old event
  pub answered : answer ≡ shard_answer old event
  pub after : new ≡ shard_after old event

-- or it is refused, and nothing changes
pub record IsRefused (old : State) (event : Event) (why : ShardFault) (new : State) : Type 0 where
  pub cause : shard_refusal old event ≡ Some why
  pub same : new ≡ old

-- a step is one of the two
abbrev pub IsStep : State → Event → Result Answer ShardFault → State → Type 0
IsStep old event (Ok answer) new = IsDone old event answer new
IsStep old event (Err why) new = IsRefused old event why new
