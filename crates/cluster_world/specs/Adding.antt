-- What a step adds to the lists, as the code finds it: of the event, of what the server answers,
-- and of what it tells closed.
use Rattle.std.specs.Prelude.{◌≡◌, ℕ, Bool, true, ◌&&◌, nat_eq, List, [], ◌∷◌, Option, Some, None, is_none, if◌then◌else◌}
use Rattle.std.specs.Option.{option_map, option_to_list}
use Rattle.std.specs.List.{list_any}
use Rattle.subj.specs.declared.identities.PubId.{PubId}
use Rattle.subj.specs.declared.identities.SubId.{SubId}
use Rattle.node_law.specs.Answers as answer
use Rattle.node_law.specs.Answers.{Answer}
use Rattle.node_law.specs.declared.events.ConnEvent.{ConnEvent}
use Rattle.node_law.specs.declared.events.ConnEvent.TheVariants.{Subscribe, Unsubscribe, Reply, SetHeaders, Shut, Detach, Take}
use Rattle.node_law.specs.Events.{OwnEvent, OfConn, AtShard, Publish, Collect, Drain, Dial, Accept, CutSession, TakeFrames, NodeEvent, Own, Receive, OnInfo, OnConnect}
use Rattle.cluster_world.specs.declared.lists.Noted.{Noted}
use Rattle.cluster_world.specs.declared.lists.Opening.{Opening}
use Rattle.cluster_world.specs.InCode.{publication_of}
use Rattle.world_law.specs.State.{Publication, Life, is_sub}

-- ---- the publication of an event, under this name

abbrev pub published_by_own : PubId → ℕ → OwnEvent → List Publication
published_by_own id now (OfConn conn event) = []
published_by_own id now (AtShard shard work) = []
published_by_own id now (Publish p) =
    record {
      step = now;
      id = id;
      message = p.publication.message;
      publisher = p.conn;
      echo = p.publication.echo;
    } ∷ []
published_by_own id now (Collect shard) = []
published_by_own id now Drain = []
published_by_own id now (Dial q) = []
published_by_own id now Accept = []
published_by_own id now (CutSession session) = []
published_by_own id now (TakeFrames q count) = []

abbrev pub published_by : PubId → ℕ → NodeEvent → List Publication
published_by id now (Own event) = published_by_own id now event
published_by id now (Receive frame) = []
published_by id now (OnInfo session info) = []
published_by id now (OnConnect session connect) = []

-- ---- the subscription that it opens, if its id is free

abbrev pub opening_of : ℕ → ConnEvent → Option Opening
opening_of conn (Subscribe key sid) = Some (record { conn = conn; key = key; sid = sid })
opening_of conn (Unsubscribe sid max) = None
opening_of conn (Reply frame) = None
opening_of conn (SetHeaders on) = None
opening_of conn (Shut text) = None
opening_of conn Detach = None
opening_of conn (Take count) = None

abbrev pub opening_by_own : OwnEvent → Option Opening
opening_by_own (OfConn conn event) = opening_of conn event
opening_by_own (AtShard shard work) = None
opening_by_own (Publish p) = None
opening_by_own (Collect shard) = None
opening_by_own Drain = None
opening_by_own (Dial q) = None
opening_by_own Accept = None
opening_by_own (CutSession session) = None
opening_by_own (TakeFrames q count) = None

abbrev pub opening_by : NodeEvent → Option Opening
opening_by (Own event) = opening_by_own event
opening_by (Receive frame) = None
opening_by (OnInfo session info) = None
opening_by (OnConnect session connect) = None

pub record AreNoted (id : PubId) (now : ℕ) (e : NodeEvent) (noted : Noted) : Type 0 where
  pub publication :
      option_to_list (option_map publication_of noted.publication) ≡ published_by id now e
  pub opening : noted.opening ≡ opening_by e

-- where the answer tells that it was opened
abbrev pub life_opened : ℕ → ℕ → ℕ → Opening → Answer → List Life
life_opened node inc now o (answer.Opened sub) =
    record {
      id = record { node = node; inc = inc; sub = sub };
      conn = o.conn;
      key = o.key;
      sid = o.sid;
      opened = now;
      closed = None;
    } ∷ []
life_opened node inc now o (answer.Attached conn) = []
life_opened node inc now o answer.AlreadyOpen = []
life_opened node inc now o (answer.Issued turn frames) = []
life_opened node inc now o (answer.Routed turn) = []
life_opened node inc now o (answer.Heard mark) = []
life_opened node inc now o (answer.Collected changes frames cut) = []
life_opened node inc now o (answer.Began placed shut) = []
life_opened node inc now o (answer.Won sub) = []
life_opened node inc now o answer.Lost = []
life_opened node inc now o answer.Nobody = []
life_opened node inc now o (answer.OnSession session) = []
life_opened node inc now o (answer.Kept instead_of) = []
life_opened node inc now o (answer.TakenEntries entries) = []
life_opened node inc now o (answer.TakenFrames frames) = []
life_opened node inc now o answer.Nothing = []

abbrev pub opened_lives : ℕ → ℕ → ℕ → Option Opening → Answer → List Life
opened_lives node inc now None told = []
opened_lives node inc now (Some o) told = life_opened node inc now o told

-- ---- lives that close: all of a server that stops, or those that it tells

abbrev pub closes : Option (List SubId) → SubId → Bool
closes None sub = true
closes (Some ended) sub = list_any (is_sub sub) ended

abbrev pub closed_if : ℕ → ℕ → ℕ → Option (List SubId) → Life → Life
closed_if now node inc ended life =
    if is_none life.closed
    && (nat_eq life.id.node node && (nat_eq life.id.inc inc && closes ended life.id.sub))
    then record life { closed = Some now }
    else life
