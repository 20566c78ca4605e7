-- What a script asks of the cluster, event by event (profile).
use Rattle.std.specs.Prelude.{ℕ, suc, ◌+◌, Bool, true, false, List, [], ◌∷◌, ◌++◌, length, codes, decimal, Option, Some, None}
use Rattle.hub_core.specs.Publishing.{Publication}
use Rattle.subj.specs.Servers.{place_in}
use Rattle.node_law.specs.Answers.{Answer, OnSession}
use Rattle.node_law.specs.Events.{OfConn, AtShard, Publish, Collect, Drain, Dial, Accept, CutSession, TakeFrames}
use Rattle.node_law.specs.declared.events.ConnEvent.TheVariants.{Subscribe, Unsubscribe, SetHeaders, Detach, Take}
use Rattle.node_law.specs.declared.events.ShardWork.TheVariants as work
use Rattle.world_law.specs.Events.{Event, Start, Stop, Receive, OnInfo, OnConnect, At}
use Rattle.world_law.specs.Outcomes.{Outcome, Refused, Done}
use Rattle.world_law.specs.State.{Cluster, World}
use Rattle.settled_law.specs.Tests.{settled_for}
use Rattle.mesh_script.specs.Counted.{placed_by}
use Rattle.mesh_script.specs.Owed.{delivery}
use Rattle.script_form.specs.declared.steps.Act.{Act}
use Rattle.script_form.specs.declared.steps.Act.TheVariants as act
use Rattle.script_form.specs.declared.steps.Step.{Step}

-- nothing more; an event, and then what depends on the world before it and on its outcome; or a
-- line that tells of the world, and no event
pub data Asks : Type 0 where
  NoMore : Asks
  Ask : (event : Event) (more : World → Outcome → Asks) → Asks
  Say : (line : World → List ℕ) (more : Asks) → Asks

abbrev pub once : Event → Asks
once e = Ask e (λ w outcome. NoMore)

-- ---- a join is four events: where one of them is refused, the rest is not made

-- the session that an event made
abbrev pub answered_session : Answer → Option ℕ
answered_session (OnSession session) = Some session
answered_session answer = None

abbrev pub session_in : Outcome → Option ℕ
session_in (Refused why) = None
session_in (Done answer) = answered_session answer

abbrev pub where_some : Option ℕ → (ℕ → Asks) → Asks
where_some None more = NoMore
where_some (Some session) more = more session

abbrev pub where_done : Outcome → Asks → Asks
where_done (Refused why) more = NoMore
where_done (Done answer) more = more

-- the number of the first frame that an event sends in this world: frames are counted from 1, in
-- the whole cluster
abbrev pub next_frame : World → ℕ
next_frame w = suc (length w.sent)

-- b is handed the CONNECT on its session
abbrev pub connect_asks : ℕ → ℕ → ℕ → Asks
connect_asks b at_b frame = once (OnConnect b at_b frame)

-- a is handed the INFO on its session, and sends the CONNECT before all else
abbrev pub info_asks : ℕ → ℕ → ℕ → ℕ → ℕ → Asks
info_asks a b at_a at_b frame =
    Ask (OnInfo a at_a frame) (λ w outcome. where_done outcome (connect_asks b at_b (next_frame w)))

-- b accepts, and sends the INFO
abbrev pub accept_asks : ℕ → ℕ → ℕ → Asks
accept_asks a b at_a =
    Ask (At b Accept)
    (λ w outcome. where_some (session_in outcome) (λ at_b. info_asks a b at_a at_b (next_frame w)))

-- a dials b
abbrev pub dial_asks : ℕ → ℕ → Asks
dial_asks a b =
    Ask (At a (Dial b))
    (λ w outcome. where_some (session_in outcome) (λ at_a. accept_asks a b at_a))

-- ---- whether the cluster is settled for a subject

abbrev pub settled_line : Bool → List ℕ
settled_line true = codes "settled yes"
settled_line false = codes "settled no"

abbrev pub settled_asks : Cluster → List ℕ → Asks
settled_asks c subject = Say (λ w. settled_line (settled_for c w subject)) NoMore

-- ---- a publish that is delivered: behind it the work that is owed of it, and then how many
-- messages that placed

abbrev pub delivered_line : ℕ → List ℕ
delivered_line placed = codes "delivered " ++ decimal placed

-- these events in turn, whatever comes of them, behind so many messages
abbrev pub work_asks : List Event → ℕ → Asks
work_asks [] placed = Say (λ w. delivered_line placed) NoMore
work_asks (e ∷ es) placed = Ask e (λ w outcome. work_asks es (placed + placed_by outcome))

-- the work is that of the world before the publish; none where the cluster was not settled for it,
-- or had no room
abbrev pub deliver_asks : Cluster → ℕ → Publication → Asks
deliver_asks c n p = Ask (At n (Publish p)) (λ w outcome. work_asks (delivery c w n p) 0)

-- ---- what an act wants

pub data Wants : Type 0 where
  Once : (event : Event) → Wants
  -- that a server dials another one, and what follows
  Joins : (node peer : ℕ) → Wants
  Tells : (subject : List ℕ) → Wants
  Delivers : (node : ℕ) (publication : Publication) → Wants

abbrev pub asks_for : Cluster → Wants → Asks
asks_for c (Once e) = once e
asks_for c (Joins a b) = dial_asks a b
asks_for c (Tells subject) = settled_asks c subject
asks_for c (Delivers n p) = deliver_asks c n p

-- of the server at place n; a peer's name stands for its place, and one that is not listed for the
-- place of no server
abbrev pub act_wants : List (List ℕ) → ℕ → Act → Wants
act_wants names n (act.Start inc) = Once (Start n inc)
act_wants names n act.Stop = Once (Stop n)
act_wants names n (act.Attach shard) = Once (At n (AtShard shard work.Attach))
act_wants names n (act.Sub conn key sid) = Once (At n (OfConn conn (Subscribe key sid)))
act_wants names n (act.Unsub conn sid max) = Once (At n (OfConn conn (Unsubscribe sid max)))
act_wants names n (act.SetHeaders conn on) = Once (At n (OfConn conn (SetHeaders on)))
act_wants names n (act.Detach conn) = Once (At n (OfConn conn Detach))
act_wants names n (act.Publish conn publication word) =
    Once (At n (Publish (record { conn = conn; publication = publication; word = word })))
act_wants names n (act.Settled subject) = Tells subject
act_wants names n (act.Deliver conn publication word) =
    Delivers n (record { conn = conn; publication = publication; word = word })
act_wants names n (act.Receive frame) = Once (Receive n frame)
act_wants names n (act.Collect shard) = Once (At n (Collect shard))
act_wants names n (act.Begin shard) = Once (At n (AtShard shard work.Begin))
act_wants names n act.Drain = Once (At n Drain)
act_wants names n (act.DrainShard shard) = Once (At n (AtShard shard work.DrainShard))
act_wants names n (act.End shard) = Once (At n (AtShard shard work.End))
act_wants names n (act.DropJob shard) = Once (At n (AtShard shard work.DropJob))
act_wants names n (act.Claim shard index) = Once (At n (AtShard shard (work.Claim index)))
act_wants names n (act.Dial peer) = Once (At n (Dial (place_in peer names)))
act_wants names n act.Accept = Once (At n Accept)
act_wants names n (act.Info session frame) = Once (OnInfo n session frame)
act_wants names n (act.Connect session frame) = Once (OnConnect n session frame)
act_wants names n (act.Cut session) = Once (At n (CutSession session))
act_wants names n (act.TakeEntries conn count) = Once (At n (OfConn conn (Take count)))
act_wants names n (act.TakeFrames peer count) = Once (At n (TakeFrames (place_in peer names) count))
act_wants names n (act.Join peer) = Joins n (place_in peer names)

abbrev pub step_wants : List (List ℕ) → Step → Wants
step_wants names step = act_wants names (place_in step.node names) step.act

-- ---- one step after the other

abbrev pub and_then : Asks → Asks → Asks
and_then NoMore more = more
and_then (Ask e rest) more = Ask e (λ w outcome. and_then (rest w outcome) more)
and_then (Say line rest) more = Say line (and_then rest more)

abbrev pub steps_ask : Cluster → List (List ℕ) → List Step → Asks
steps_ask c names [] = NoMore
steps_ask c names (step ∷ steps) =
    and_then (asks_for c (step_wants names step)) (steps_ask c names steps)
