-- Events, outcomes and lists as the code has them, and as the definitions do.
use Rattle.std.specs.Prelude.{ℕ, List, [], ◌∷◌, map, Option, Some, None}
use Rattle.std.specs.declared.vec.Vec.{Vec}
use Rattle.subj.specs.Servers.{ServerIdentity}
use Rattle.node_core.specs.InCode.{own_event_of, answer_of}
use Rattle.cluster_world.specs.Entered.{Entered, entered_by}
use Rattle.cluster_world.specs.declared.events.Event.{Event}
use Rattle.cluster_world.specs.declared.events.Event.TheVariants as event
use Rattle.world_law.specs.declared.faults.WorldFault.{WorldFault}
use Rattle.cluster_world.specs.declared.outcomes.Delivery.{Delivery}
use Rattle.cluster_world.specs.declared.outcomes.Outcome.{Outcome}
use Rattle.cluster_world.specs.declared.outcomes.Outcome.TheVariants as outcome
use Rattle.cluster_world.specs.declared.records.LifeId.{LifeId}
use Rattle.cluster_world.specs.declared.records.Life.{Life}
use Rattle.cluster_world.specs.declared.records.Placements.{Placements}
use Rattle.cluster_world.specs.declared.records.Publication.{Publication}
use Rattle.cluster_world.specs.declared.records.Started.{Started}
use Rattle.world_law.specs.Events as asked
use Rattle.world_law.specs.Outcomes as told
use Rattle.world_law.specs.Play.{placements_put}
use Rattle.world_law.specs.State as state
use Rattle.world_law.specs.State.{Placement}

-- ---- events and outcomes

abbrev pub event_of : Event → asked.Event
event_of (event.Start node inc) = asked.Start node inc
event_of (event.Stop node) = asked.Stop node
event_of (event.Receive node frame) = asked.Receive node frame
event_of (event.OnInfo node session frame) = asked.OnInfo node session frame
event_of (event.OnConnect node session frame) = asked.OnConnect node session frame
event_of (event.At node event) = asked.At node (own_event_of event)

abbrev pub outcome_of : Outcome → told.Outcome
outcome_of (outcome.Refused why) = told.Refused why
outcome_of (outcome.Done answer) = told.Done (answer_of answer)

abbrev pub fault_in : Outcome → Option WorldFault
fault_in (outcome.Refused why) = Some why
fault_in (outcome.Done answer) = None

abbrev pub outcomes_in : Delivery → List told.Outcome
outcomes_in delivery = outcome_of delivery.published ∷ map outcome_of delivery.worked.items

-- ---- the lists

abbrev pub publication_of : Publication → state.Publication
publication_of p = record {
  step = p.step;
  id = p.id;
  message = p.message;
  publisher = p.publisher;
  echo = p.echo;
}

abbrev pub life_id_of : LifeId → state.LifeId
life_id_of id = record { node = id.node; inc = id.inc; sub = id.sub }

abbrev pub life_of : Life → state.Life
life_of life = record {
  id = life_id_of life.id;
  conn = life.conn;
  key = life.key;
  sid = life.sid;
  opened = life.opened;
  closed = life.closed;
}

-- of the server that puts a message, its placement has the place and the incarnation alone
abbrev pub placing_server : ℕ → ℕ → ServerIdentity
placing_server node inc = record { names = []; me = node; inc = inc; shards = 0 }

-- the messages among what a step put
abbrev pub placements_in : Placements → List Placement
placements_in p = placements_put (placing_server p.node p.inc) p.step p.entries.items

-- and all of it
abbrev pub entered_in : Placements → List Entered
entered_in p = map (entered_by p.step p.node p.inc) p.entries.items

abbrev pub started_of : Started → ℕ × ℕ
started_of s = (s.node, s.inc)

abbrev pub items_of : {X A : Type 0} → Vec X A → List X
items_of list = list.items
