-- Closed scripts, with what comes of them.
use Rattle.std.specs.Prelude.{◌≡◌, ℕ, ◌+◌, true, false, List, [], ◌∷◌, ◌++◌, codes, map, replicate, Option, Some, None}
use Rattle.client_frames.specs.declared.server_frames.ReplyFrame.TheVariants.{Pong}
use Rattle.outbox.specs.declared.entries.Mode.{Mode}
use Rattle.outbox.specs.declared.entries.Mode.TheVariants.{Plain, Queue}
use Rattle.subj.specs.declared.limits.TheConstants.{WINDOW}
use Rattle.hub_core.specs.Publishing.{Publication}
use Rattle.route_values.specs.declared.bodies.Body.TheVariants.{Plus, Snapshot}
use Rattle.route_values.specs.declared.frames.RouteFrame.{RouteFrame}
use Rattle.route_values.specs.declared.frames.RouteFrame.TheVariants as route
use Rattle.node_law.specs.declared.events.ConnEvent.TheVariants.{Subscribe, Unsubscribe, Reply, SetHeaders, Detach, Take}
use Rattle.node_law.specs.declared.events.ShardWork.TheVariants.{Attach, Begin, Claim, End, DropJob}
use Rattle.node_law.specs.Events.{OfConn, AtShard, Publish, Collect, Dial, Accept}
use Rattle.world_law.specs.Faults.{world_fault_number}
use Rattle.world_law.specs.State.{Cluster, Placement, World, new_world}
use Rattle.world_law.specs.Events.{Event, Start, Stop, Receive, OnInfo, OnConnect, At}
use Rattle.world_law.specs.Outcomes.{Outcome, Refused, Done}
use Rattle.world_law.specs.Play.{outcomes_of_events, world_after_events}

-- ---- words

-- the numbers of the refusals, with 0 for an event that is done
abbrev pub number_of : Outcome → ℕ
number_of (Refused why) = world_fault_number why
number_of (Done answer) = 0

abbrev pub outcomes : Cluster → List Event → List ℕ
outcomes c events = map number_of (outcomes_of_events c (new_world c) events)

abbrev pub end_of : Cluster → List Event → World
end_of c events = world_after_events c (new_world c) events

abbrev pub done : ℕ → List ℕ
done count = replicate count 0

-- each client's `foo`, as a member of `q`
abbrev pub member : Option (List ℕ)
member = Some (codes "q")

abbrev pub subscribe : ℕ → ℕ → Option (List ℕ) → List ℕ → Event
subscribe n conn queue sid =
    At n (OfConn conn (Subscribe (record { pattern = codes "foo"; queue = queue }) sid))

-- `hi` under `foo`, by connection 1
abbrev pub hi : Publication
hi = record {
  conn = 1;
  publication = record {
    message = record { subject = codes "foo"; reply = None; headers = None; payload = codes "hi" };
    echo = true;
  };
  word = 0;
}

abbrev pub attach : ℕ → ℕ → Event
attach n shard = At n (AtShard shard Attach)

abbrev pub begin : ℕ → ℕ → Event
begin n shard = At n (AtShard shard Begin)

abbrev pub claim : ℕ → ℕ → ℕ → Event
claim n shard index = At n (AtShard shard (Claim index))

abbrev pub end : ℕ → ℕ → Event
end n shard = At n (AtShard shard End)

abbrev pub drop_job : ℕ → ℕ → Event
drop_job n shard = At n (AtShard shard DropJob)

abbrev pub collect : ℕ → ℕ → Event
collect n shard = At n (Collect shard)

abbrev pub publish : ℕ → Event
publish n = At n (Publish hi)

-- the MSG of it for the sid, in the step, at server n in its incarnation
abbrev pub hi_to : ℕ → ℕ → ℕ → ℕ → ℕ → ℕ → List ℕ → Mode → List ℕ → ℕ → ℕ → Placement
hi_to step n inc shard serial conn origin mode sid origin_inc number = record {
  step = step;
  life = record { node = n; inc = inc; sub = record { shard = shard; serial = serial } };
  conn = conn;
  id = record { origin = origin; inc = origin_inc; number = number };
  mode = mode;
  bytes = codes "MSG foo " ++ (sid ++ codes " 2\r\nhi\r\n");
  headers = false;
}

-- ---- two servers: a queue member of the other one gets a message; a repeated frame is late, and
-- after a restart the frame is for an incarnation that is no more

abbrev pub pair : Cluster
pair = record { names = codes "n1" ∷ codes "n2" ∷ []; shards = 1 }

-- frame 1 is the INFO of n2, 2 the CONNECT and 3 the snapshot of n1, 4 the snapshot of n2, 5 its
-- change, and 6 the message
abbrev pub a_restart : List Event
a_restart =
    Start 0 1 ∷ Start 1 4
    ∷ At 0 (Dial 1) ∷ At 1 Accept ∷ OnInfo 0 1 1 ∷ OnConnect 1 1 2
    ∷ attach 1 1 ∷ subscribe 1 1 member (codes "1") ∷ collect 1 1
    ∷ Receive 0 4 ∷ Receive 0 5
    ∷ attach 0 1 ∷ publish 0
    ∷ Receive 1 6 ∷ Receive 1 6
    ∷ begin 1 1 ∷ claim 1 1 0 ∷ end 1 1
    ∷ Stop 1 ∷ Start 1 5 ∷ Receive 1 6 ∷ []

pub record ARestart : Type 0 where
  pub outcomes : outcomes pair a_restart ≡ done 14 ++ (67 ∷ (done 5 ++ 64 ∷ []))
  pub placements : (end_of pair a_restart).placements
      ≡ hi_to 17 1 4 1 1 1 (codes "n1") (Queue (codes "q")) (codes "1") 1 1 ∷ []

-- ---- one server of two shards: turns and claims, a maximum, the order of causes

abbrev pub alone : Cluster
alone = record { names = codes "n1" ∷ []; shards = 2 }

-- connection 1 is of shard 1, and 2 of shard 2; both have a member of `q`, and 1 a plain
-- subscription for one message as well
abbrev pub two_shards : List Event
two_shards =
    Start 0 1 ∷ attach 0 1 ∷ attach 0 2 ∷ subscribe 0 1 member (codes "1")
    ∷ subscribe 0 2 member (codes "1") ∷ subscribe 0 1 None (codes "2")
    ∷ At 0 (OfConn 1 (Unsubscribe (codes "2") (Some 1))) ∷ collect 0 1 ∷ collect 0 2 ∷ publish 0
    ∷ publish 0 ∷ begin 0 1 ∷ begin 0 1 ∷ end 0 1 ∷ claim 0 1 1 ∷ claim 0 1 0 ∷ begin 0 2
    ∷ claim 0 2 0 ∷ end 0 1 ∷ end 0 2 ∷ begin 0 2 ∷ claim 0 2 0 ∷ begin 0 1 ∷ claim 0 1 0
    ∷ At 0 (OfConn 1 (Reply Pong)) ∷ At 0 (OfConn 1 (Take 10)) ∷ At 0 (OfConn 1 Detach)
    ∷ At 0 (OfConn 1 Detach) ∷ drop_job 0 1 ∷ drop_job 0 1 ∷ claim 0 5 0 ∷ Start 0 1 ∷ Stop 5
    ∷ Stop 0 ∷ Stop 0 ∷ publish 0 ∷ Start 0 1 ∷ Start 0 0 ∷ []

-- 51, 56 and 55; 50; 52 and 58; 81, 83, 80, 80 and 82; and 82 of 0, which is no incarnation
abbrev pub two_shards_outcomes : List ℕ
two_shards_outcomes =
    done 12
    ++ (51 ∷ 56 ∷ 55 ∷ (done 12 ++ (50 ∷ 0 ∷ 52 ∷ 58 ∷ 81 ∷ 83 ∷ 0 ∷ 80 ∷ 80 ∷ 82 ∷ 82 ∷ [])))

-- the plain one, up to its maximum; the claim of turn 1 that was first; and that of turn 2
abbrev pub two_shards_placements : List Placement
two_shards_placements =
    hi_to 12 0 1 1 2 1 (codes "n1") Plain (codes "2") 1 1
    ∷ hi_to 16 0 1 1 1 1 (codes "n1") (Queue (codes "q")) (codes "1") 1 1
    ∷ hi_to 22 0 1 2 1 2 (codes "n1") (Queue (codes "q")) (codes "1") 1 2
    ∷ []

pub record TwoShards : Type 0 where
  pub outcomes : outcomes alone two_shards ≡ two_shards_outcomes
  pub placements : (end_of alone two_shards).placements ≡ two_shards_placements
  -- opened at 4, 5 and 6; closed by the detach, the stop and the maximum
  pub closed :
      map (λ life. life.closed) (end_of alone two_shards).lives ≡ Some 27 ∷ Some 34 ∷ Some 12 ∷ []

-- ---- the window: without a job done, a server takes as many publishes as it is long

abbrev pub a_full_window : List Event
a_full_window =
    Start 0 1
    ∷ attach 0 1
    ∷ (replicate WINDOW (publish 0)
    ++ (publish 0 ∷ drop_job 0 1 ∷ publish 0 ∷ drop_job 0 2 ∷ publish 0 ∷ []))

-- 60 until both shards have done with the first turn
pub record AFullWindow : Type 0 where
  pub outcomes : outcomes alone a_full_window ≡ done (WINDOW + 2) ++ (60 ∷ 0 ∷ 60 ∷ 0 ∷ 0 ∷ [])

-- ---- a server that starts with an incarnation below an earlier one: it is fresh, but its peer
-- knows a greater one; and frames that are of another kind, or are not there

-- frame 1 is the INFO of n2, 2 the CONNECT and 3 the snapshot of n1 in its incarnation 5, 4 the
-- snapshot of n2; 5 the INFO of n2, 6 the CONNECT and 7 the snapshot of n1 in its incarnation 3
abbrev pub a_lower_incarnation : List Event
a_lower_incarnation =
    Start 0 5 ∷ Start 1 1 ∷ At 0 (Dial 1) ∷ At 1 Accept ∷ OnInfo 0 1 1 ∷ OnConnect 1 1 2 ∷ Stop 0
    ∷ Start 0 3 ∷ At 0 (Dial 1) ∷ At 1 Accept ∷ OnInfo 0 1 5 ∷ OnConnect 1 2 6 ∷ Receive 1 7
    ∷ Receive 1 3 ∷ Receive 0 4 ∷ Receive 1 5 ∷ Receive 1 99 ∷ Receive 1 0 ∷ Receive 9 1
    ∷ OnConnect 1 2 5 ∷ OnInfo 0 1 3 ∷ Stop 0 ∷ Receive 0 99 ∷ Start 0 5 ∷ Start 0 6 ∷ At 0 (Dial 1)
    ∷ At 1 Accept ∷ OnInfo 0 1 8 ∷ OnConnect 1 3 9 ∷ []

-- 71 and 66 of n2, which has seen incarnation 5; a frame of that one is still taken; 64 of n1,
-- which was 5; 83 of what is not there, but 80 of a server that is down, whatever the frame; 82 of
-- the used incarnation, and a greater one is welcome
pub record ALowerIncarnation : Type 0 where
  pub outcomes : outcomes pair a_lower_incarnation
      ≡ done 11 ++ (71 ∷ 66 ∷ 0 ∷ 64 ∷ 83 ∷ 83 ∷ 83 ∷ 83 ∷ 83 ∷ 83 ∷ 0 ∷ 80 ∷ 82 ∷ done 5)

-- ---- what is not collected yet is in no snapshot, and placements stand in the order of their
-- subscriptions; a frame for another server is refused before all else

-- n2 has two plain subscriptions of one key, the first one at its connection 2; frame 1 is its
-- INFO, 2 the CONNECT and 3 the snapshot of n1, 4 the snapshot of n2, and 5 its change
abbrev pub a_snapshot : List Event
a_snapshot =
    Start 0 1 ∷ Start 1 4 ∷ attach 1 1 ∷ attach 1 1 ∷ subscribe 1 2 None (codes "a")
    ∷ subscribe 1 1 None (codes "b") ∷ At 0 (Dial 1) ∷ At 1 Accept ∷ OnInfo 0 1 1 ∷ OnConnect 1 1 2
    ∷ collect 1 1 ∷ publish 1 ∷ begin 1 1 ∷ end 1 1 ∷ Receive 0 3 ∷ []

abbrev pub a_snapshot_sent : List RouteFrame
a_snapshot_sent =
    route.Info (record { server_name = codes "n2"; inc = 4 })
    ∷ route.Connect (record {
      server_name = codes "n1";
      inc = 1;
      to = codes "n2";
      to_inc = 4;
      serial = 1;
    })
    ∷ route.Numbered (record {
      from = codes "n1";
      inc = 1;
      to = codes "n2";
      to_inc = 4;
      number = 0;
      body = Snapshot [];
    })
    ∷ route.Numbered (record {
      from = codes "n2";
      inc = 4;
      to = codes "n1";
      to_inc = 1;
      number = 0;
      body = Snapshot [];
    })
    ∷ route.Numbered (record {
      from = codes "n2";
      inc = 4;
      to = codes "n1";
      to_inc = 1;
      number = 1;
      body = Plus (record { pattern = codes "foo"; queue = None }, 1);
    }) ∷ []

pub record ASnapshot : Type 0 where
  pub outcomes : outcomes pair a_snapshot ≡ done 14 ++ (63 ∷ [])
  pub sent : (end_of pair a_snapshot).sent ≡ a_snapshot_sent
  pub placements : (end_of pair a_snapshot).placements
      ≡ hi_to 13 1 4 1 1 2 (codes "n2") Plain (codes "a") 4 1
      ∷ hi_to 13 1 4 1 2 1 (codes "n2") Plain (codes "b") 4 1 ∷ []

-- ---- headers: a connection that takes them gets the block, and another one at the same step does
-- not; the last choice holds

-- the same with a header block of 12 bytes
abbrev pub hi_headed : Publication
hi_headed = record {
  conn = 1;
  publication = record {
    message = record {
      subject = codes "foo";
      reply = None;
      headers = Some (codes "NATS/1.0\r\n\r\n");
      payload = codes "hi";
    };
    echo = true;
  };
  word = 0;
}

-- connections 1 and 3 are both of shard 1; 3 takes headers, and then does not; there is no
-- connection 5
abbrev pub two_forms : List Event
two_forms =
    Start 0 1
    ∷ attach 0 1
    ∷ attach 0 1
    ∷ subscribe 0 1 None (codes "1")
    ∷ subscribe 0 3 None (codes "1")
    ∷ At 0 (OfConn 3 (SetHeaders true))
    ∷ At 0 (OfConn 5 (SetHeaders true))
    ∷ At 0 (Publish hi_headed)
    ∷ begin 0 1
    ∷ end 0 1
    ∷ At 0 (OfConn 3 (SetHeaders false))
    ∷ At 0 (Publish hi_headed)
    ∷ begin 0 1 ∷ []

-- the HMSG of it in step 9
abbrev pub headed_hi : Placement
headed_hi = record (hi_to 9 0 1 1 2 3 (codes "n1") Plain (codes "1") 1 1) {
  bytes = codes "HMSG foo 1 12 14\r\nNATS/1.0\r\n\r\nhi\r\n";
  headers = true;
}

pub record TwoForms : Type 0 where
  pub outcomes : outcomes alone two_forms ≡ done 6 ++ (50 ∷ done 6)
  pub placements : (end_of alone two_forms).placements
      ≡ hi_to 9 0 1 1 1 1 (codes "n1") Plain (codes "1") 1 1 ∷ headed_hi
      ∷ hi_to 13 0 1 1 1 1 (codes "n1") Plain (codes "1") 1 2
      ∷ hi_to 13 0 1 1 2 3 (codes "n1") Plain (codes "1") 1 2 ∷ []
