-- Closed examples: what a hub answers, by hand.
use Rattle.std.specs.Prelude.{◌≡◌, ℕ, ◌+◌, ◌-◌, ◌/◌, ◌%◌, true, false, codes, List, [], ◌∷◌, map, replicate, Some, None, Err}
use Rattle.std.specs.List.{range_with_len}
use Rattle.subj.specs.declared.jobs.Job.{Job}
use Rattle.subj.specs.declared.keys.Key.{Key}
use Rattle.subj.specs.declared.limits.TheConstants.{MAX_SHARDS, ROUTE_FRAMES, WINDOW}
use Rattle.subj.specs.Messages.{Content}
use Rattle.subj.specs.Numbers.{no_turn_finished}
use Rattle.subj.specs.Servers.{ServerIdentity}
use Rattle.interest.specs.declared.changes.Change.TheVariants as change
use Rattle.subj.specs.declared.keys.Delta.{Delta}
use Rattle.interest.specs.Counts.{Counts}
use Rattle.interest.specs.Views.{View}
use Rattle.route_values.specs.declared.bodies.Body.{Body}
use Rattle.route_values.specs.declared.bodies.Body.TheVariants.{Plus, Snapshot, Msg}
use Rattle.route_values.specs.Frames.{Frame}
use Rattle.hub_core.specs.declared.faults.HubFault.{HubFault}
use Rattle.hub_core.specs.declared.faults.HubFault.TheVariants.{Busy, TooManyQueues, OtherMe, StaleOrigin, Late, Gap}
use Rattle.hub_core.specs.State.{State, Peer, unknown_peer}
use Rattle.hub_core.specs.Choice.{server_for}
use Rattle.hub_core.specs.Events.{Event, Publish, Receive, Collect, Up, Cut, Answer, Issued, Routed, Heard, Collected, IsUp}
use Rattle.hub_core.specs.Steps.{hub_refusal, hub_after, hub_answer, HubStep}

-- ---- what an example says

-- the event is done with this answer
abbrev pub Gives : ServerIdentity → State → Event → Answer → Type 0
Gives server hub event answer =
    (hub_refusal server hub event ≡ None) × (hub_answer server hub event ≡ answer)

abbrev pub Refuses : ServerIdentity → State → Event → HubFault → Type 0
Refuses server hub event why = hub_refusal server hub event ≡ Some why

-- after events that are done
abbrev pub after_all : ServerIdentity → State → List Event → State
after_all server hub [] = hub
after_all server hub (event ∷ events) = after_all server (hub_after server hub event) events

-- ---- three servers, of which this is the first, in its incarnation 5; n2 and n3 are up at 7

abbrev pub foo : List ℕ
foo = codes "foo"

abbrev pub queue_q : List ℕ
queue_q = codes "q"

abbrev pub plain : List ℕ → Key
plain pattern = record { pattern = pattern; queue = None }

abbrev pub group_key : List ℕ → Key
group_key pattern = record { pattern = pattern; queue = Some (codes "q") }

abbrev pub n1 : ℕ → ServerIdentity
n1 shards = record {
  names = codes "n1" ∷ codes "n2" ∷ codes "n3" ∷ [];
  me = 0;
  inc = 5;
  shards = shards;
}

abbrev pub peer : View → List Frame → Peer
peer view outbox = record {
  seen = 7;
  mark = 0;
  heard = record { mark = 0; keys = view };
  up = true;
  outbox = outbox;
}

abbrev pub hub : Counts → Peer → Peer → State
hub counts second third = record {
  issued = 0;
  published = 0;
  changed = 0;
  draining = false;
  counts = counts;
  peers = unknown_peer ∷ second ∷ third ∷ [];
}

abbrev pub hello_on : List ℕ → Content
hello_on subject = record {
  subject = subject;
  reply = None;
  headers = None;
  payload = codes "hello";
}

abbrev pub hello : Content
hello = hello_on foo

-- connection 9 publishes, where the first two shards have finished these turns and no other has
-- finished any
abbrev pub publish_after : ℕ → ℕ → List ℕ → ℕ → Event
publish_after first second subject word =
    Publish (record {
      conn = 9;
      publication = record { message = hello_on subject; echo = true };
      word = word;
    })
    (first ∷ second ∷ replicate (MAX_SHARDS - 2) 0)

abbrev pub publish : ℕ → Event
publish word = publish_after 0 0 foo word

abbrev pub job_on : List ℕ → ℕ → List (List ℕ) → Job
job_on subject number queues = record {
  turn = number;
  id = record { origin = codes "n1"; inc = 5; number = number };
  message = hello_on subject;
  publisher = Some 9;
  echo = true;
  queues = queues;
}

abbrev pub job : ℕ → List (List ℕ) → Job
job number queues = job_on foo number queues

abbrev pub to_peer : List ℕ → ℕ → Body → Frame
to_peer name number body = record {
  from = codes "n1";
  inc = 5;
  to = name;
  to_inc = 7;
  number = number;
  body = body;
}

abbrev pub to_n2 : List (List ℕ) → Frame
to_n2 queues = to_peer (codes "n2") 1 (Msg hello queues)

abbrev pub to_n3 : List (List ℕ) → Frame
to_n3 queues = to_peer (codes "n3") 1 (Msg hello queues)

-- ---- the choice

-- the weights 1, 2 and 1
abbrev pub one_two_one : State
one_two_one =
    hub ((group_key foo, 1) ∷ []) (peer ((group_key foo, 2) ∷ []) [])
    (peer ((group_key foo, 1) ∷ []) [])

abbrev pub nobody : State
nobody = hub [] (peer [] []) (peer [] [])

pub record Weighs : Type 0 where
  -- the units are n1, n2, n2, n3, and then from the front again
  pub units : map (λ word. server_for (n1 1) one_two_one foo word queue_q) (0 ∷ 1 ∷ 2 ∷ 3 ∷ 4 ∷ [])
      ≡ Some (codes "n1") ∷ Some (codes "n2") ∷ Some (codes "n2") ∷ Some (codes "n3")
      ∷ Some (codes "n1") ∷ []
  -- the word counts by its rest, however great it is
  pub rest : server_for (n1 1) one_two_one foo 18446744073709551615 queue_q ≡ Some (codes "n3")
  pub none : server_for (n1 1) nobody foo 0 queue_q ≡ None

-- ---- a publication is split over the cluster: n1 has foo of q, n2 has foo and * of q, n3 has >
-- plainly

abbrev pub n2_view : View
n2_view = (group_key (codes "*"), 1) ∷ (group_key foo, 1) ∷ []

abbrev pub n3_view : View
n3_view = (plain (codes ">"), 1) ∷ []

abbrev pub three : State
three = hub ((group_key foo, 1) ∷ []) (peer n2_view []) (peer n3_view [])

pub record Splits : Type 0 where
  -- n2 was picked
  pub other :
      Gives (n1 1) three (publish 2) (Issued (job 1 []) (to_n2 (queue_q ∷ []) ∷ to_n3 [] ∷ []))
  -- the server itself was picked: nothing goes to n2
  pub own : Gives (n1 1) three (publish 0) (Issued (job 1 (queue_q ∷ [])) (to_n3 [] ∷ []))
  pub again : Gives (n1 1) three (publish 3) (Issued (job 1 (queue_q ∷ [])) (to_n3 [] ∷ []))
  -- the session with n2 has ended: n2 weighs nothing
  pub cut : Gives (n1 1) (hub_after (n1 1) three (Cut 1)) (publish 2)
      (Issued (job 1 (queue_q ∷ [])) (to_n3 [] ∷ []))

-- ---- an outbox with and without room

abbrev pub frames_to : ℕ → List Frame
frames_to count = replicate count (to_n2 [])

abbrev pub nearly_full : State
nearly_full = hub ((group_key foo, 1) ∷ []) (peer n2_view (frames_to 1023)) (peer n3_view [])

abbrev pub full : State
full = hub ((group_key foo, 1) ∷ []) (peer n2_view (frames_to ROUTE_FRAMES)) (peer n3_view [])

abbrev pub opens : List ℕ → Delta
opens pattern = record { key = plain pattern; up = true }

abbrev pub plus : List ℕ → ℕ → List ℕ → Frame
plus name number pattern = to_peer name number (Plus (plain pattern, 1))

pub record NeedsRoom : Type 0 where
  -- the last frame has room; without room n2 weighs nothing
  pub last : Gives (n1 1) nearly_full (publish 2)
      (Issued (job 1 []) (to_n2 (queue_q ∷ []) ∷ to_n3 [] ∷ []))
  pub none : Gives (n1 1) full (publish 2) (Issued (job 1 (queue_q ∷ [])) (to_n3 [] ∷ []))
  -- one change has room; where two have none, n2 gets neither, and is cut
  pub one : Gives (n1 1) nearly_full (Collect 1 (opens (codes "a") ∷ []))
      (Collected (change.Up (plain (codes "a"), 1) ∷ [])
      (plus (codes "n2") 1 (codes "a") ∷ plus (codes "n3") 1 (codes "a") ∷ []) [])
  pub two : Gives (n1 1) nearly_full (Collect 1 (opens (codes "a") ∷ opens (codes "b") ∷ []))
      (Collected (change.Up (plain (codes "a"), 1) ∷ change.Up (plain (codes "b"), 1) ∷ [])
      (plus (codes "n3") 1 (codes "a") ∷ plus (codes "n3") 2 (codes "b") ∷ []) (1 ∷ []))

-- ---- the window

abbrev pub at_turn : ℕ → State
at_turn turn = record nobody { issued = turn; published = turn }

pub record KeepsTheWindow : Type 0 where
  -- the second shard works nothing: a window of turns is issued, and no more
  pub last : Gives (n1 2) (at_turn (WINDOW - 1)) (publish_after (WINDOW - 1) 0 foo 0)
      (Issued (job WINDOW []) [])
  pub busy : Refuses (n1 2) (at_turn WINDOW) (publish_after WINDOW 0 foo 0)
      (Busy (record { shard = 2; finished = 0 }))
  pub later :
      Gives (n1 2) (at_turn WINDOW) (publish_after WINDOW 1 foo 0) (Issued (job (WINDOW + 1) []) [])
  -- a server with one shard waits for no other
  pub alone :
      Gives (n1 1) (at_turn WINDOW) (publish_after WINDOW 0 foo 0) (Issued (job (WINDOW + 1) []) [])

-- ---- queue names

-- q00, q01, ..
abbrev pub name_of_member : ℕ → List ℕ
name_of_member number = 113 ∷ (48 + number / 10) ∷ (48 + number % 10) ∷ []

abbrev pub member : ℕ → Key × ℕ
member number = (record { pattern = foo; queue = Some (name_of_member number) }, 1)

abbrev pub members : ℕ → State
members count = hub (map member (range_with_len 0 count)) (peer [] []) (peer [] [])

pub record CountsQueueNames : Type 0 where
  pub most : Gives (n1 1) (members 64) (publish 0)
      (Issued (job 1 (map name_of_member (range_with_len 0 64))) [])
  -- a publication that is refused takes no number
  pub too_many : Refuses (n1 1) (members 65) (publish 0) TooManyQueues
  pub next : (new : State)
      → HubStep (n1 1) (members 65) (publish 0) (Err TooManyQueues) new
      → Gives (n1 1) new (publish_after 0 0 (codes "bar") 0) (Issued (job_on (codes "bar") 1 []) [])

-- ---- frames of n2

abbrev pub from_n2 : ℕ → ℕ → ℕ → Body → Event
from_n2 inc to_inc number body =
    Receive (record {
      from = codes "n2";
      inc = inc;
      to = codes "n1";
      to_inc = to_inc;
      number = number;
      body = body;
    })
    no_turn_finished

abbrev pub routed_message : ℕ → ℕ → Job
routed_message inc number = record {
  turn = 1;
  id = record { origin = codes "n2"; inc = inc; number = number };
  message = hello;
  publisher = None;
  echo = true;
  queues = queue_q ∷ [];
}

abbrev pub message : Body
message = Msg hello (queue_q ∷ [])

-- 9 publications and 3 changes of n2 were taken
abbrev pub known_n2 : State
known_n2 =
    hub []
    (record { seen = 7; mark = 9; heard = record { mark = 3; keys = [] }; up = true; outbox = [] })
    (peer [] [])

pub record TakesFrames : Type 0 where
  -- a repeated frame, also after the session has ended and has come up again
  pub first : Gives (n1 1) three (from_n2 7 5 1 message) (Routed (routed_message 7 1))
  pub repeated : Refuses (n1 1) (after_all (n1 1) three (from_n2 7 5 1 message ∷ []))
      (from_n2 7 5 1 message) Late
  pub rejoined : Refuses (n1 1)
      (after_all (n1 1) three (from_n2 7 5 1 message ∷ Cut 1 ∷ Up 1 7 ∷ [])) (from_n2 7 5 1 message)
      Late
  -- a number at the mark, and below it, of a frame that never came
  pub equal : Refuses (n1 1) known_n2 (from_n2 7 5 9 message) Late
  pub below : Refuses (n1 1) known_n2 (from_n2 7 5 8 message) Late
  -- numbers may be left out
  pub skips : Gives (n1 1) known_n2 (from_n2 7 5 12 message) (Routed (routed_message 7 12))
  -- a frame for an incarnation before this one
  pub old : Refuses (n1 1) three (from_n2 7 4 1 message) OtherMe
  -- a greater incarnation begins anew, and then the one before is stale
  pub anew : Gives (n1 1) known_n2 (from_n2 8 5 1 message) (Routed (routed_message 8 1))
  pub stale : Refuses (n1 1) (after_all (n1 1) known_n2 (from_n2 8 5 1 message ∷ []))
      (from_n2 7 5 10 message) StaleOrigin

pub record HearsInOrder : Type 0 where
  pub gap : Refuses (n1 1) known_n2 (from_n2 7 5 5 (Plus (plain foo, 1))) Gap
  pub later : Gives (n1 1) known_n2 (from_n2 7 5 5 (Snapshot [])) (Heard 5)
  pub late : Refuses (n1 1) (after_all (n1 1) known_n2 (from_n2 7 5 5 (Snapshot []) ∷ []))
      (from_n2 7 5 4 (Plus (plain foo, 1))) Late
  pub next : Gives (n1 1) known_n2 (from_n2 7 5 4 (Plus (plain foo, 1))) (Heard 4)

-- ---- a session comes up: a snapshot is all that waits
pub record ComesUp : Type 0 where
  pub told : Gives (n1 1) full (Up 1 8)
      (IsUp (record {
        from = codes "n1";
        inc = 5;
        to = codes "n2";
        to_inc = 8;
        number = 0;
        body = Snapshot ((group_key foo, 1) ∷ []);
      }))
  pub emptied : Gives (n1 1) (after_all (n1 1) full (Cut 1 ∷ Up 1 7 ∷ [])) (publish 2)
      (Issued (job 1 []) (to_n2 (queue_q ∷ []) ∷ to_n3 [] ∷ []))
