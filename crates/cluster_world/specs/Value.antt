-- A cluster in code, as its callers see it, and what always holds of it.
use Rattle.std.specs.Prelude.{◌≡◌, ℕ, ◌<◌, true, List, [], ◌∷◌, ◌++◌, map, length, set, slice_get, Option, Some, None, if◌then◌else◌, take}
use Rattle.std.specs.Option.{option_map, option_to_list}
use Rattle.std.specs.List.{flat_map}
use Rattle.std.specs.Vec.{vec_len, vec_capacity}
use Rattle.route_values.specs.declared.frames.RouteFrame.{RouteFrame}
use Rattle.subj.specs.Servers.{ServerIdentity, is_server, server_of}
use Rattle.node_core.specs.declared.did.Did.{Did}
use Rattle.node_core.specs.InCode.{answer_of}
use Rattle.node_core.specs.Served.{Served, refusal}
use Rattle.node_law.specs.Events.{NodeEvent}
use Rattle.node_core.specs.Outcome.{Does, did_of}
use Rattle.node_law.specs.Sound.{SoundNode}
use Rattle.hub_core.specs.Publishing as hub
use Rattle.hub_core.specs.Publishing.{subject_of, next_id}
use Rattle.world_law.specs.declared.faults.WorldFault.{WorldFault}
use Rattle.world_law.specs.declared.faults.WorldFault.TheVariants as fault
use Rattle.cluster_world.specs.declared.lists.Acted.{Acted}
use Rattle.cluster_world.specs.declared.lists.Lists.{Lists}
use Rattle.cluster_world.specs.declared.nodes.Made.{Made}
use Rattle.cluster_world.specs.declared.lists.Noted.{Noted}
use Rattle.cluster_world.specs.Adding.{AreNoted, opened_lives, closed_if}
use Rattle.cluster_world.specs.Entered.{Entered, entered_by, Enters}
use Rattle.world_law.specs.Events.{Event, Start, Stop, Receive, OnInfo, OnConnect, At}
use Rattle.world_law.specs.Headline.{IsCluster}
use Rattle.cluster_world.specs.InCode.{publication_of, life_of, placements_in, entered_in, started_of, items_of, placing_server}
use Rattle.world_law.specs.Outcomes.{Outcome}
use Rattle.world_law.specs.Play.{placements_put}
use Rattle.world_law.specs.State.{Cluster, Publication, Life, Placement, Running, World, new_world, server_at}
use Rattle.world_law.specs.Steps.{WorldStep, Answers, Carried}
use Rattle.settled_law.specs.Promise.{IsRight, IsDelivered}

-- ---- the lists

pub record Listed : Type 0 where
  pub started : List (ℕ × ℕ)
  pub publications : List Publication
  pub lives : List Life
  pub placements : List Placement
  pub entered : List Entered
  pub sent : List RouteFrame

abbrev pub no_lists : Listed
no_lists = record {
  started = [];
  publications = [];
  lives = [];
  placements = [];
  entered = [];
  sent = [];
}

abbrev pub listed_of : Lists → Listed
listed_of l = record {
  started = map started_of l.started.items;
  publications = map publication_of l.publications.items;
  lives = map life_of l.lives.items;
  placements = flat_map placements_in l.placements.items;
  entered = flat_map entered_in l.placements.items;
  sent = flat_map items_of l.sent.items;
}

-- one place more in each list that a server's step adds to
pub record HasRoom (l : Lists) : Type 0 where
  pub publications : vec_len l.publications < vec_capacity l.publications
  pub lives : vec_len l.lives < vec_capacity l.lives
  pub placements : vec_len l.placements < vec_capacity l.placements
  pub sent : vec_len l.sent < vec_capacity l.sent

-- a server is started
abbrev pub with_start : ℕ → ℕ → Listed → Listed
with_start node inc old = record old { started = old.started ++ (node, inc) ∷ [] }

-- a server is stopped, and its lives close
abbrev pub with_closed : Acted → Listed → Listed
with_closed acted old = record old {
  lives = map (closed_if acted.step acted.node acted.inc None) old.lives;
}

-- a server's step adds what was noted before it and what the server did
abbrev pub listed_with : Acted → Noted → Did → Listed → Listed
listed_with acted noted did old = record old {
  publications = old.publications ++ option_to_list (option_map publication_of noted.publication);
  lives =
      map (closed_if acted.step acted.node acted.inc (Some did.ended.items)) old.lives
      ++ opened_lives acted.node acted.inc acted.step noted.opening (answer_of did.answer);
  placements =
      old.placements
      ++ placements_put (placing_server acted.node acted.inc) acted.step did.entries.items;
  entered = old.entered ++ map (entered_by acted.step acted.node acted.inc) did.entries.items;
  sent = old.sent ++ did.frames.items;
}

abbrev pub IsAdded : Acted → Noted → Did → Listed → Listed → Type 0
IsAdded acted noted did old new = new ≡ listed_with acted noted did old

-- ---- the servers that are up

abbrev pub running_of : Served → Running
running_of s = record { inc = s.server.inc; node = s.node }

abbrev pub running_in : Option Served → Option Running
running_in None = None
running_in (Some s) = Some (running_of s)

-- the incarnation of a server at a place
abbrev pub inc_in : Option (Option Served) → Option ℕ
inc_in None = None
inc_in (Some None) = None
inc_in (Some (Some s)) = Some s.server.inc

-- why a server at a place refuses
abbrev pub served_refusal : Option NodeEvent → Served → Option WorldFault
served_refusal None s = Some fault.NoSuch
served_refusal (Some event) s = option_map fault.Node (refusal s event)

abbrev pub slot_refusal : Option NodeEvent → Option (Option Served) → Option WorldFault
slot_refusal event None = Some fault.NoSuch
slot_refusal event (Some None) = Some fault.NodeDown
slot_refusal event (Some (Some s)) = served_refusal event s

-- the server at the place made the step of this event
pub record IsMade (n now : ℕ) (event : Option NodeEvent) (old : List (Option Served)) (made : Made)
    (new : List (Option Served)) : Type 0 where
  pub e : NodeEvent
  pub is : event ≡ Some e
  pub x : Served
  pub x_is : slice_get old n ≡ Some (Some x)
  pub sound : SoundNode x.server x.node
  pub inc : made.inc ≡ x.server.inc
  pub noted : AreNoted (next_id x.server x.node.hub) now e made.noted
  pub y : Served
  pub does : Does x e (did_of made.did) y
  pub after : new ≡ set old n (Some y)

-- ---- the whole

-- what its callers see: the cluster, its world, and all that was put into outboxes, in order
pub record Shown : Type 0 where
  pub cluster : Cluster
  pub world : World
  pub entered : List Entered

abbrev pub cluster_of : ServerIdentity → Cluster
cluster_of server = record { names = server.names; shards = server.shards }

abbrev pub world_of : ℕ → List (Option Served) → Listed → World
world_of step nodes l = record {
  step = step;
  nodes = map running_in nodes;
  started = l.started;
  publications = l.publications;
  lives = l.lives;
  placements = l.placements;
  sent = l.sent;
}

abbrev pub value_of_parts : ServerIdentity → ℕ → List (Option Served) → Listed → Shown
value_of_parts server step nodes l = record {
  cluster = cluster_of server;
  world = world_of step nodes l;
  entered = l.entered;
}

-- no server is up, and nothing was done
abbrev pub new_shown : Cluster → Shown
new_shown c = record { cluster = c; world = new_world c; entered = [] }

-- a new cluster, if that is one: its first server is then within the limits
abbrev pub new_cluster : Cluster → Option Shown
new_cluster c = if is_server (server_at c 0 1) then Some (new_shown c) else None

-- the server of the same cluster at this place, if it has that
abbrev pub server_in : ServerIdentity → ℕ → ℕ → Option ServerIdentity
server_in server n inc =
    server_of (record { names = server.names; me = n; inc = inc; shards = server.shards })

-- ---- the calls

-- the event is one for the server at place n, which has to be up
abbrev pub IsFor : ℕ → Event → Type 0
IsFor n (Start m inc) = ⊥
IsFor n (Stop m) = ⊥
IsFor n (Receive m k) = m ≡ n
IsFor n (OnInfo m session k) = m ≡ n
IsFor n (OnConnect m session k) = m ≡ n
IsFor n (At m event) = m ≡ n

-- the exact cluster's step, with its outcome, and what it adds to all that was put into outboxes
pub record IsStepped (old : Shown) (event : Event) (outcome : Outcome) (new : Shown) : Type 0 where
  pub cluster : new.cluster ≡ old.cluster
  pub step : WorldStep old.cluster old.world event outcome new.world
  pub added : List Entered
  pub entered : new.entered ≡ old.entered ++ added
  pub enters : Enters old.cluster old.world event outcome new.world added

-- such steps in turn
abbrev pub AreStepped : Shown → List Event → List Outcome → Shown → Type 0
AreStepped old [] [] new = new ≡ old
AreStepped old [] (outcome ∷ outcomes) new = ⊥
AreStepped old (event ∷ events) [] new = ⊥
AreStepped old (event ∷ events) (outcome ∷ outcomes) new =
    (mid : Shown) × IsStepped old event outcome mid × AreStepped mid events outcomes new

-- a run of it, with these outcomes, and its steps
pub record Ran (old : Shown) (events : List Event) (outcomes : List Outcome) (new : Shown) :
    Type 0 where
  pub cluster : new.cluster ≡ old.cluster
  pub run : Answers old.cluster old.world events outcomes new.world
  pub steps : AreStepped old events outcomes new

-- a run of the first of these events
pub record IsPart (old : Shown) (events : List Event) (new : Shown) : Type 0 where
  pub made : ℕ
  pub outcomes : List Outcome
  pub run : Ran old (take made events) outcomes new

-- ---- what always holds

-- each server that is up is that of its place in this cluster
abbrev pub InPlace : Cluster → List (Option Served) → Type 0
InPlace c nodes =
    (n : ℕ) (s : Served) → slice_get nodes n ≡ Some (Some s) → s.server ≡ server_at c n s.server.inc

-- some steps in turn lead here from a new cluster
abbrev pub CameBySteps : Shown → Type 0
CameBySteps v =
    ∥ ((events : List Event) × (outcomes : List Outcome)
    × AreStepped (new_shown v.cluster) events outcomes v) ∥₁

-- the names are apart, and within the limits with the number of shards; the servers are in their
-- places; and some run ends here, with all that its steps put
pub record IsKept (server : ServerIdentity) (nodes : List (Option Served)) (v : Shown) :
    Type 0 where
  pub apart : IsCluster (cluster_of server)
  pub tested : is_server (server_at (cluster_of server) 0 1) ≡ true
  pub size : length nodes ≡ length server.names
  pub places : InPlace (cluster_of server) nodes
  pub carried : Carried (cluster_of server) v.world
  pub came : CameBySteps v

-- ---- what a publish gives

-- What a publish with these events behind it gives where the cluster was settled for it and had
-- room, and the events are the work that it makes, in an order of theirs: nothing is refused, and
-- each plain subscription and each queue name has its message once.
abbrev pub GivesOnce : Shown → ℕ → hub.Publication → List Event → List Outcome → Shown → Type 0
GivesOnce old n p order outcomes new =
    (a : Running)
    → IsRight old.cluster old.world n a p order
    → ∥ IsDelivered old.world (next_id (server_at old.cluster n a.inc) a.node.hub) (subject_of p)
    outcomes new.world ∥₁
