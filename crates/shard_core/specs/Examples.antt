-- Closed examples: what a shard does, by hand.
use Rattle.std.specs.Prelude.{◌≡◌, ℕ, ◌-◌, Bool, true, false, codes, List, [], ◌∷◌, ◌++◌, drop, map, replicate, Option, Some, None}
use Rattle.std.specs.Option.{option_map}
use Rattle.client_frames.specs.declared.server_frames.ReplyFrame.TheVariants.{Pong}
use Rattle.outbox.specs.Views.{Written, reply_entry, bytes_of_all}
use Rattle.subj.specs.declared.keys.Delta.{Delta}
use Rattle.sub_table.specs.Subscriptions.{serial_of}
use Rattle.sub_table.specs.declared.Subscription.{Subscription}
use Rattle.subj.specs.declared.identities.SubId.{SubId}
use Rattle.subj.specs.declared.jobs.Job.{Job}
use Rattle.subj.specs.declared.keys.Key.{Key}
use Rattle.subj.specs.declared.limits.TheConstants.{OUTBOX_BYTES}
use Rattle.shard_core.specs.Shards.{State, Client, new_shard, client_at, waits_for, is_open}
use Rattle.shard_core.specs.Closings.{id_of}
use Rattle.shard_core.specs.Owed.{candidate_of, placed_for, due_entry, slow_consumer}
use Rattle.shard_core.specs.ShardEvents.{Event, Attach, Subscribe, Unsubscribe, Reply, SetHeaders, Shut, Detach, Take, Begin, Claim, Collect, Answer, Attached, Opened, AlreadyOpen, Unsubscribed, Replied, HeadersSet, WasShut, Detached, Taken, Began, Nobody, Lost, Won, Collected}
use Rattle.shard_core.specs.ShardSteps.{shard_refusal, shard_after, shard_answer, shut_by, ended_of}
use Rattle.client_frames.specs.declared.err_texts.ErrText.TheVariants.{ParserError}
use Rattle.shard_core.specs.declared.faults.ShardFault.TheVariants.{NoConn}

-- ---- what an example says

-- the event is done with this answer
abbrev pub Gives : State → Event → Answer → Type 0
Gives s event answer = (shard_refusal s event ≡ None) × (shard_answer s event ≡ answer)

-- ---- shard 1 of 1, with the connections 1, 2 and 3, each with room for so many entries; one waits
-- for each

abbrev pub foo : Option (List ℕ) → Key
foo queue = record { pattern = codes "foo"; queue = queue }

abbrev pub plain : Option (List ℕ)
plain = None

abbrev pub member : Option (List ℕ)
member = Some (codes "q")

abbrev pub other_member : Option (List ℕ)
other_member = Some (codes "r")

abbrev pub pong : Written
pong = reply_entry (codes "PONG\r\n")

abbrev pub client : ℕ → ℕ → Client
client number room = record {
  number = number;
  outbox = record { entries = pong ∷ []; shut = false };
  max_entries = room;
  max_bytes = OUTBOX_BYTES;
  headers = false;
}

abbrev pub sub : ℕ → ℕ → Option (List ℕ) → Subscription
sub serial conn queue = record {
  serial = serial;
  conn = conn;
  key = foo queue;
  sid = codes "7";
  delivered = 0;
  max = None;
}

-- with room for so many entries at connection 1, 2 and 3
abbrev pub shard : ℕ → ℕ → ℕ → List Subscription → State
shard first second third subs = record {
  shard = 1;
  shards = 1;
  next_conn = 4;
  opened = 9;
  finished = 0;
  hand = None;
  next_index = 0;
  clients = client 1 first ∷ client 2 second ∷ client 3 third ∷ [];
  subs = subs;
  draining = false;
  deltas = [];
}

-- `hi` under `foo` for the members of q, published by connection 1 unless that gets nothing back
abbrev pub job_of : ℕ → Bool → Job
job_of turn echo = record {
  turn = turn;
  id = record { origin = codes "n1"; inc = 1; number = turn };
  message = record { subject = codes "foo"; reply = None; headers = None; payload = codes "hi" };
  publisher = Some 1;
  echo = echo;
  queues = codes "q" ∷ [];
}

abbrev pub job : ℕ → Job
job turn = job_of turn true

-- the shard has the job of this turn in hand
abbrev pub at_turn : ℕ → State → State
at_turn turn s = record s { finished = turn - 1; hand = Some (job turn) }

abbrev pub closes : Option (List ℕ) → Delta
closes queue = record { key = foo queue; up = false }

abbrev pub ids : List ℕ → List SubId
ids serials = map (id_of 1) serials

-- ---- a connection without room is shut, and all its subscriptions close, also those of queue
-- groups and those behind

abbrev pub one_full : State
one_full = shard 1 5 5 (sub 1 1 plain ∷ sub 2 1 member ∷ sub 3 2 plain ∷ sub 4 1 plain ∷ [])

pub record ClosesTheSlow : Type 0 where
  pub began : Gives one_full (Begin (job 1))
      (Began (placed_for 1 false (job 1) None (sub 3 2 plain) ∷ []) (1 ∷ []) (ids (1 ∷ 2 ∷ 4 ∷ [])))
  pub left : map serial_of (shard_after one_full (Begin (job 1))).subs ≡ 3 ∷ []
  pub told : (shard_after one_full (Begin (job 1))).deltas
      ≡ closes plain ∷ closes member ∷ closes plain ∷ []
  -- one last line stands behind what waited, and nothing more is put
  pub line : waits_for 1 (shard_after one_full (Begin (job 1))).clients
      ≡ pong ∷ reply_entry slow_consumer ∷ []
  pub shut : is_open 1 (shard_after one_full (Begin (job 1))).clients ≡ false
  pub other : waits_for 2 (shard_after one_full (Begin (job 1))).clients
      ≡ pong ∷ due_entry 1 false (job 1) None (sub 3 2 plain) ∷ []
  -- an answer without room, a shut and a detach close them as well, and a detach leaves no
  -- connection
  pub replied : Gives one_full (Reply 1 Pong) (Replied true (ids (1 ∷ 2 ∷ 4 ∷ [])))
  pub answered : Gives one_full (Reply 2 Pong) (Replied false [])
  pub replied_line : waits_for 1 (shard_after one_full (Reply 1 Pong)).clients
      ≡ pong ∷ reply_entry slow_consumer ∷ []
  pub replied_left : map serial_of (shard_after one_full (Reply 1 Pong)).subs ≡ 3 ∷ []
  pub replied_told : (shard_after one_full (Reply 1 Pong)).deltas
      ≡ closes plain ∷ closes member ∷ closes plain ∷ []
  pub was_shut : Gives one_full (Shut 1 ParserError) (WasShut (ids (1 ∷ 2 ∷ 4 ∷ [])))
  pub shut_left : map serial_of (shard_after one_full (Shut 1 ParserError)).subs ≡ 3 ∷ []
  pub shut_told : (shard_after one_full (Shut 1 ParserError)).deltas
      ≡ closes plain ∷ closes member ∷ closes plain ∷ []
  pub detached : Gives one_full (Detach 1) (Detached (ids (1 ∷ 2 ∷ 4 ∷ [])))
  pub detached_left : map serial_of (shard_after one_full (Detach 1)).subs ≡ 3 ∷ []
  pub detached_told :
      (shard_after one_full (Detach 1)).deltas ≡ closes plain ∷ closes member ∷ closes plain ∷ []

-- a connection with room for one of its two messages
abbrev pub one_left : State
one_left = shard 2 5 5 (sub 1 1 plain ∷ sub 2 1 plain ∷ [])

-- the first one is for one message only
abbrev pub one_left_once : State
one_left_once = shard 2 5 5 (record (sub 1 1 plain) { max = Some 1 } ∷ sub 2 1 plain ∷ [])

-- the first message takes the room that the second one would need
pub record FillsTheRoom : Type 0 where
  pub began : Gives one_left (Begin (job 1))
      (Began (placed_for 1 false (job 1) None (sub 1 1 plain) ∷ []) (1 ∷ []) (ids (1 ∷ 2 ∷ [])))
  pub line : waits_for 1 (shard_after one_left (Begin (job 1))).clients
      ≡ pong ∷ due_entry 1 false (job 1) None (sub 1 1 plain) ∷ reply_entry slow_consumer ∷ []
  -- what reached its maximum does not close once more with its connection
  pub once : ended_of (shard_answer one_left_once (Begin (job 1))) ≡ ids (1 ∷ 2 ∷ [])
  pub told_once :
      (shard_after one_left_once (Begin (job 1))).deltas ≡ closes plain ∷ closes plain ∷ []

-- ---- what opens and closes is told, each once

abbrev pub opens : Option (List ℕ) → Delta
opens queue = record { key = foo queue; up = true }

abbrev pub empty : State
empty = shard 5 5 5 []

abbrev pub opened : State
opened = shard_after empty (Subscribe 2 (foo member) (codes "7"))

pub record TellsOnce : Type 0 where
  pub open_answer : Gives empty (Subscribe 2 (foo member) (codes "7")) (Opened (id_of 1 10))
  pub open_subs : opened.subs ≡ sub 10 2 member ∷ []
  pub open_told : opened.deltas ≡ opens member ∷ []
  -- an id that is open opens nothing, whatever the key
  pub again : Gives opened (Subscribe 2 (foo plain) (codes "7")) AlreadyOpen
  pub again_same : shard_after opened (Subscribe 2 (foo plain) (codes "7")) ≡ opened
  pub closed : Gives opened (Unsubscribe 2 (codes "7") None) (Unsubscribed (ids (10 ∷ [])))
  pub closed_told : (shard_after opened (Unsubscribe 2 (codes "7") None)).deltas
      ≡ opens member ∷ closes member ∷ []
  -- a collect hands all of it over, and begins anew
  pub collected : Gives opened Collect (Collected (opens member ∷ []))
  pub emptied : (shard_after opened Collect).deltas ≡ []

-- ---- the member at the place of the turn among those that there are, in order

-- what is chosen at the turns 3, 4, 5 and 6
abbrev pub chosen_at : State → List (Option ℕ)
chosen_at s =
    map (λ turn. option_map serial_of (candidate_of s (Some (job turn)) 0)) (3 ∷ 4 ∷ 5 ∷ 6 ∷ [])

abbrev pub three_members : List Subscription
three_members = sub 1 1 member ∷ sub 2 2 member ∷ sub 3 3 member ∷ []

pub record ChoosesByTurn : Type 0 where
  pub three : chosen_at (shard 5 5 5 three_members) ≡ Some 1 ∷ Some 2 ∷ Some 3 ∷ Some 1 ∷ []
  -- one whose connection has no room is skipped; where none has room there is nobody
  pub full : chosen_at (shard 5 1 5 three_members) ≡ Some 3 ∷ Some 1 ∷ Some 3 ∷ Some 1 ∷ []
  pub all_full : chosen_at (shard 1 1 1 three_members) ≡ None ∷ None ∷ None ∷ None ∷ []
  -- those of another queue name are no members, nor is a plain one
  pub named : chosen_at
      (shard 5 5 5 (sub 1 1 member ∷ sub 2 2 other_member ∷ sub 3 3 plain ∷ sub 4 3 member ∷ []))
      ≡ Some 4 ∷ Some 1 ∷ Some 4 ∷ Some 1 ∷ []
  -- the publisher's own is none where that gets nothing back
  pub echo : option_map serial_of
      (candidate_of (shard 5 5 5 three_members) (Some (job_of 3 false)) 0) ≡ Some 3

-- ---- a claim

abbrev pub claiming : State
claiming = at_turn 4 (shard 5 5 5 three_members)

pub record ClaimsOnce : Type 0 where
  pub won : Gives claiming (Claim 0 true)
      (Won (id_of 1 2) (placed_for 1 false (job 4) member (sub 2 2 member)) [])
  pub placed : waits_for 2 (shard_after claiming (Claim 0 true)).clients
      ≡ pong ∷ due_entry 1 false (job 4) member (sub 2 2 member) ∷ []
  -- a lost one places nothing
  pub lost : Gives claiming (Claim 0 false) Lost
  pub not_placed : (shard_after claiming (Claim 0 false)).clients ≡ claiming.clients
  pub nobody : Gives (at_turn 4 (shard 1 1 1 three_members)) (Claim 0 true) Nobody

-- ---- a maximum

-- connection 2 has a plain subscription, which has got one message
abbrev pub counted : Option ℕ → State
counted max = shard 5 5 5 (record (sub 1 2 plain) { delivered = 1; max = max } ∷ [])

pub record KeepsTheMaximum : Type 0 where
  -- it closes with the message that reaches its maximum, and not before
  pub last : Gives (counted (Some 2)) (Begin (job 1))
      (Began (placed_for 1 false (job 1) None (sub 1 2 plain) ∷ []) [] (ids (1 ∷ [])))
  pub one_more : Gives (counted (Some 3)) (Begin (job 1))
      (Began (placed_for 1 false (job 1) None (sub 1 2 plain) ∷ []) [] [])
  -- a maximum that was reached closes at once
  pub reached :
      Gives (counted None) (Unsubscribe 2 (codes "7") (Some 1)) (Unsubscribed (ids (1 ∷ [])))
  pub not_reached : Gives (counted None) (Unsubscribe 2 (codes "7") (Some 2)) (Unsubscribed [])
  -- a later maximum replaces an earlier one, which may be greater or smaller
  pub greater : (shard_after (counted (Some 2)) (Unsubscribe 2 (codes "7") (Some 3))).subs
      ≡ (counted (Some 3)).subs
  pub smaller : (shard_after (counted (Some 3)) (Unsubscribe 2 (codes "7") (Some 2))).subs
      ≡ (counted (Some 2)).subs

-- ---- headers

abbrev pub block : List ℕ
block = codes "NATS/1.0\r\n\r\n"

abbrev pub headed_job : ℕ → Job
headed_job turn = record (job turn) {
  message = record ((job turn).message) { headers = Some block };
}

-- two connections with a plain subscription each, and one with a member of q
abbrev pub listening : State
listening = shard 5 5 5 (sub 1 1 plain ∷ sub 2 2 plain ∷ sub 3 3 member ∷ [])

-- two of them take headers
abbrev pub choosing : State
choosing = shard_after (shard_after listening (SetHeaders 2 true)) (SetHeaders 3 true)

-- the bytes behind what waited before
abbrev pub added_for : ℕ → State → List ℕ
added_for conn s = bytes_of_all (drop 1 (waits_for conn s.clients))

-- connection 2 takes headers, and has room for the message without its block alone
abbrev pub tight : State
tight = record choosing {
  clients = map (λ (c : Client). record c { max_bytes = 25 }) choosing.clients;
}

pub record SendsHeaders : Type 0 where
  pub set : Gives listening (SetHeaders 2 true) HeadersSet
  -- the block goes to a connection that takes headers, and to no other
  pub without :
      added_for 1 (shard_after choosing (Begin (headed_job 1))) ≡ codes "MSG foo 7 2\r\nhi\r\n"
  pub with_block : added_for 2 (shard_after choosing (Begin (headed_job 1)))
      ≡ codes "HMSG foo 7 12 14\r\nNATS/1.0\r\n\r\nhi\r\n"
  pub claimed : added_for 3
      (shard_after (shard_after choosing (Begin (headed_job 1))) (Claim 0 true))
      ≡ codes "HMSG foo 7 12 14\r\nNATS/1.0\r\n\r\nhi\r\n"
  -- a message without a block goes as it does to all others, and a later choice holds
  pub plain_one : added_for 2 (shard_after choosing (Begin (job 1))) ≡ codes "MSG foo 7 2\r\nhi\r\n"
  pub chosen_again : added_for 2
      (shard_after (shard_after choosing (SetHeaders 2 false)) (Begin (headed_job 1)))
      ≡ codes "MSG foo 7 2\r\nhi\r\n"
  -- room is reckoned with the block
  pub no_room : shut_by tight (Begin (headed_job 1)) ≡ 2 ∷ []
  pub not_there : shard_refusal listening (SetHeaders 4 true) ≡ Some NoConn
  pub new_one : option_map (λ (c : Client). c.headers)
      (client_at 4 (shard_after listening Attach).clients) ≡ Some false

-- ---- an outbox as it comes with its connection: 1,024 entries, and a last line

-- so many messages wait for a connection that was attached to a shard without any, and has one
-- plain subscription
abbrev pub waiting_entries : ℕ → List Written
waiting_entries count = replicate count (due_entry 1 false (job 1) None (sub 1 1 plain))

abbrev pub attached_with : ℕ → State
attached_with count = record (shard_after (new_shard 1 1) Attach) {
  clients =
      map (λ (c : Client). record c {
        outbox = record { entries = waiting_entries count; shut = false };
      })
      (shard_after (new_shard 1 1) Attach).clients;
  subs = sub 1 1 plain ∷ [];
}

-- what is taken of the shard once it has begun this job
abbrev pub taken_after : State → ℕ → List Written
taken_after s turn = waits_for 1 (shard_after s (Begin (job turn))).clients

pub record FillsAnOutbox : Type 0 where
  pub attached : Gives (new_shard 1 1) Attach (Attached 1)
  -- the 1,024th has room
  pub last : Gives (attached_with 1023) (Begin (job 1))
      (Began (placed_for 1 false (job 1) None (sub 1 1 plain) ∷ []) [] [])
  pub many : taken_after (attached_with 1023) 1 ≡ waiting_entries 1024
  -- at the next one the connection is shut, and its client takes 1,025 entries
  pub full : Gives (attached_with 1024) (Begin (job 1)) (Began [] (1 ∷ []) (ids (1 ∷ [])))
  pub taken : Gives (shard_after (attached_with 1024) (Begin (job 1))) (Take 1 2000)
      (Taken (waiting_entries 1024 ++ reply_entry slow_consumer ∷ []))
