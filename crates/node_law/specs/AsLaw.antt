-- A server and its steps as the cluster law sees them.
use Rattle.std.specs.Prelude.{◌≡◌, ℕ, ◌-◌, Bool, true, false, nat_eq, List, [], ◌∷◌, map, filter, drop, length, slice_get, Option, Some, None, if◌then◌else◌}
use Rattle.list_laws.specs.Lists.{In, Each}
use Rattle.cluster_law.specs.Config.{Config, every_rule}
use Rattle.cluster_law.specs.Cluster.{IsOwn}
use Rattle.cluster_law.specs.Cluster as cluster
use Rattle.cluster_law.specs.History as history
use Rattle.cluster_law.specs.Messages as messages
use Rattle.cluster_law.specs.Names as names
use Rattle.cluster_law.specs.Node as law
use Rattle.cluster_law.specs.Shard as law_shard
use Rattle.cluster_law.specs.Values.{content_of}
use Rattle.subj.specs.Servers.{ServerIdentity, IsListed, place}
use Rattle.subj.specs.Matching.{subject_matches}
use Rattle.subj.specs.declared.jobs.Job.{Job}
use Rattle.subj.specs.declared.limits.TheConstants.{WINDOW, MAX_QUEUE_NAMES}
use Rattle.outbox.specs.Views.{Written}
use Rattle.outbox.specs.declared.entries.Tag.{Tag}
use Rattle.outbox.specs.declared.entries.Tag.TheVariants as tag
use Rattle.sub_table.specs.Subscriptions.{is_of}
use Rattle.sub_table.specs.declared.Subscription.{Subscription}
use Rattle.claim_race.specs.Race.{RaceState}
use Rattle.interest.specs.declared.changes.Change.{Change}
use Rattle.route_values.specs.Frames.{Frame}
use Rattle.route_values.specs.declared.bodies.Body.{Body}
use Rattle.route_values.specs.declared.bodies.Body.TheVariants.{Plus, Minus, Snapshot, Msg}
use Rattle.route_values.specs.declared.frames.RouteFrame.{RouteFrame}
use Rattle.route_values.specs.declared.frames.RouteFrame.TheVariants as route
use Rattle.hub_core.specs.AsLaw.{hub_of, id_of, frame_of, change_of, follow}
use Rattle.hub_core.specs.Publishing.{Publication, own_job, next_id}
use Rattle.hub_core.specs.Receiving.{routed_job}
use Rattle.hub_core.specs.Telling.{changes_of, clearing}
use Rattle.shard_core.specs.AsLaw.{shard_of, job_of, given_by, job_by, lives_by, placements_for, is_open_serial, AreThese}
use Rattle.shard_core.specs.Owed.{owed_entry}
use Rattle.shard_core.specs.ShardEvents as of_shard
use Rattle.shard_core.specs.Shards.{Client, waits_for}
use Rattle.node_law.specs.Race.{race_of}
use Rattle.node_law.specs.State.{ShardWithJobs, Node, new_node}
use Rattle.node_law.specs.Events.{ConnEvent, OwnEvent, OfConn, AtShard, Publish, Collect, Drain, Dial, Accept, CutSession, TakeFrames, NodeEvent, Own, Receive, OnInfo, OnConnect}
use Rattle.node_law.specs.Steps.{conn_place, conn_line, shard_line, conn_event, work_event, deltas_at, node_frames, NodeStep}
use Rattle.node_law.specs.Sound.{SoundNode}

-- the law's parameters, as the router has them
abbrev pub law_of : List (List ℕ) → ℕ → Config
law_of names shards = record {
  nodes = length names;
  shards = shards;
  window = WINDOW;
  queue_names = MAX_QUEUE_NAMES;
  matches = subject_matches;
  follow = follow;
}

abbrev pub law_at : ServerIdentity → Config
law_at server = law_of server.names server.shards

abbrev pub line_of : ServerIdentity → ShardWithJobs → law_shard.Shard
line_of server line = shard_of (id_of server) server.me server.inc line.shard line.waiting

-- its own race is the law's, as far as the window goes
abbrev pub node_of : ServerIdentity → Node → law.Node
node_of server a = record {
  up = true;
  inc = server.inc;
  hub = hub_of a.hub;
  race = race_of a.race;
  shards = map (line_of server) a.lines;
}

-- INFO and CONNECT are greetings
abbrev pub sent_of : ServerIdentity → RouteFrame → messages.Frame
sent_of server (route.Info info) = messages.Greeting (place server info.server_name) info.inc
sent_of server (route.Connect connect) =
    messages.Greeting (place server connect.server_name) connect.inc
sent_of server (route.Numbered frame) = frame_of server frame

-- ---- the shard's part of an event: at which place, of which line, and what it is there

pub record Part : Type 0 where
  pub place : ℕ
  pub line : ShardWithJobs
  pub event : of_shard.Event

abbrev pub part_if : ℕ → ShardWithJobs → Option of_shard.Event → Option Part
part_if place line None = None
part_if place line (Some event) = Some (record { place = place; line = line; event = event })

abbrev pub part_at : ℕ
    → (ShardWithJobs → Option of_shard.Event)
    → Option ShardWithJobs
    → Option Part
part_at place event None = None
part_at place event (Some line) = part_if place line (event line)

abbrev pub own_part : ServerIdentity → Node → OwnEvent → Bool → Option Part
own_part server a (OfConn conn event) won =
    part_at (conn_place server conn) (λ line. Some (conn_event conn event))
    (conn_line server a conn)
own_part server a (AtShard shard work) won =
    part_at (shard - 1) (work_event work won) (shard_line a shard)
own_part server a (Publish p) won = None
own_part server a (Collect shard) won = None
own_part server a Drain won = None
own_part server a (Dial q) won = None
own_part server a Accept won = None
own_part server a (CutSession session) won = None
own_part server a (TakeFrames q count) won = None

abbrev pub part_of : ServerIdentity → Node → NodeEvent → Bool → Option Part
part_of server a (Own event) won = own_part server a event won
part_of server a (Receive frame) won = None
part_of server a (OnInfo session info) won = None
part_of server a (OnConnect session connect) won = None

-- ---- to whom a step gives a message, and which

abbrev pub given_at : Option Part → List Subscription
given_at None = []
given_at (Some part) = given_by part.line.shard part.event

abbrev pub placements_at : ServerIdentity → ℕ → Option Part → List Subscription
    → List history.Placement
placements_at server now None subs = []
placements_at server now (Some part) subs =
    placements_for (id_of server) server.me server.inc now part.place
    (job_by part.line.shard part.event) subs

abbrev pub entries_for_job : ℕ → List Client → Option Job → List Subscription → List Written
entries_for_job shard clients None subs = []
entries_for_job shard clients (Some job) subs =
    map (λ sub. owed_entry shard clients job sub.key.queue sub) subs

-- the messages given to a connection of the shard at this place, in order, in the form that it
-- takes
abbrev pub messages_at : Option Part → ℕ → ℕ → List Written
messages_at None place conn = []
messages_at (Some part) place conn =
    if nat_eq part.place place
    then entries_for_job part.line.shard.shard part.line.shard.clients
    (job_by part.line.shard part.event) (filter (is_of conn) (given_by part.line.shard part.event))
    else []

-- ---- what a step adds to the histories

abbrev pub publication_of : ServerIdentity → ℕ → Node → Publication → messages.Publication
publication_of server now a p = record {
  id = id_of server (next_id server a.hub);
  content = content_of p.publication.message;
  step = now;
}

abbrev pub own_publications : ServerIdentity → ℕ → Node → OwnEvent → List messages.Publication
own_publications server now a (OfConn conn event) = []
own_publications server now a (AtShard shard work) = []
own_publications server now a (Publish p) = publication_of server now a p ∷ []
own_publications server now a (Collect shard) = []
own_publications server now a Drain = []
own_publications server now a (Dial q) = []
own_publications server now a Accept = []
own_publications server now a (CutSession session) = []
own_publications server now a (TakeFrames q count) = []

abbrev pub publications_by : ServerIdentity → ℕ → Node → NodeEvent → List messages.Publication
publications_by server now a (Own event) = own_publications server now a event
publications_by server now a (Receive frame) = []
publications_by server now a (OnInfo session info) = []
publications_by server now a (OnConnect session connect) = []

abbrev pub conn_lives : ServerIdentity → ℕ → ℕ → ConnEvent → Option ShardWithJobs
    → List history.Life
conn_lives server now conn event None = []
conn_lives server now conn event (Some line) =
    lives_by server.me server.inc now (conn_place server conn) line.shard (conn_event conn event)

abbrev pub own_lives : ServerIdentity → ℕ → Node → OwnEvent → List history.Life
own_lives server now a (OfConn conn event) =
    conn_lives server now conn event (conn_line server a conn)
own_lives server now a (AtShard shard work) = []
own_lives server now a (Publish p) = []
own_lives server now a (Collect shard) = []
own_lives server now a Drain = []
own_lives server now a (Dial q) = []
own_lives server now a Accept = []
own_lives server now a (CutSession session) = []
own_lives server now a (TakeFrames q count) = []

abbrev pub lives_at : ServerIdentity → ℕ → Node → NodeEvent → List history.Life
lives_at server now a (Own event) = own_lives server now a event
lives_at server now a (Receive frame) = []
lives_at server now a (OnInfo session info) = []
lives_at server now a (OnConnect session connect) = []

abbrev pub own_jobs : ServerIdentity → Node → OwnEvent → List Job
own_jobs server a (OfConn conn event) = []
own_jobs server a (AtShard shard work) = []
own_jobs server a (Publish p) = own_job server a.hub p ∷ []
own_jobs server a (Collect shard) = []
own_jobs server a Drain = []
own_jobs server a (Dial q) = []
own_jobs server a Accept = []
own_jobs server a (CutSession session) = []
own_jobs server a (TakeFrames q count) = []

abbrev pub body_jobs : Node → Frame → Body → List Job
body_jobs a frame (Plus weighted) = []
body_jobs a frame (Minus key) = []
body_jobs a frame (Snapshot keys) = []
body_jobs a frame (Msg content queues) = routed_job a.hub frame content queues ∷ []

abbrev pub jobs_by : ServerIdentity → Node → NodeEvent → List Job
jobs_by server a (Own event) = own_jobs server a event
jobs_by server a (Receive frame) = body_jobs a frame frame.body
jobs_by server a (OnInfo session info) = []
jobs_by server a (OnConnect session connect) = []

abbrev pub own_changes : Node → OwnEvent → List Change
own_changes a (OfConn conn event) = []
own_changes a (AtShard shard work) = []
own_changes a (Publish p) = []
own_changes a (Collect shard) = changes_of a.hub (deltas_at (shard_line a shard))
own_changes a Drain = clearing
own_changes a (Dial q) = []
own_changes a Accept = []
own_changes a (CutSession session) = []
own_changes a (TakeFrames q count) = []

abbrev pub changes_by : Node → NodeEvent → List Change
changes_by a (Own event) = own_changes a event
changes_by a (Receive frame) = []
changes_by a (OnInfo session info) = []
changes_by a (OnConnect session connect) = []

-- ---- the law

-- the law's event: one of the server's own, or the frame that it takes
abbrev pub Shown : ServerIdentity → NodeEvent → law.NodeEvent → Type 0
Shown server (Own event) x = IsOwn x
Shown server (Receive frame) x = x ≡ law.Receive (frame_of server frame)
Shown server (OnInfo session info) x =
    x ≡ law.Receive (messages.Greeting (place server info.server_name) info.inc)
Shown server (OnConnect session connect) x =
    x ≡ law.Receive (messages.Greeting (place server connect.server_name) connect.inc)

abbrev pub is_open_in : ℕ → Option ShardWithJobs → Bool
is_open_in serial None = false
is_open_in serial (Some line) = is_open_serial serial line.shard.subs

-- a subscription of this server that is open
pub record IsOpenAt (server : ServerIdentity) (a : Node) (id : names.LifeId) : Type 0 where
  pub node : id.node ≡ server.me
  pub inc : id.inc ≡ server.inc
  pub is_open : is_open_in id.serial (slice_get a.lines id.shard) ≡ true

-- A server becomes another by a step of the law's node, which is this event there, and adds these
-- to the histories. What was open before and is not after has closed now; what is opened is open
-- after.
pub record Moves (server : ServerIdentity) (now : ℕ) (a b : Node) (x : law.NodeEvent)
    (publications : List messages.Publication) (frames : List messages.Frame)
    (changes : List Change) (jobs : List Job) (lives : List history.Life)
    (placements : List history.Placement) : Type 0 where
  pub out : history.Output
  pub steps : law.NodeStep every_rule (law_at server) server.me now (node_of server a) x out
      (node_of server b)
  pub publications_are : out.publications ≡ publications
  pub frames_are : out.frames ≡ frames
  pub changes_are : out.changes ≡ map (law.note_of server.me server.inc) (map change_of changes)
  pub jobs_are : out.jobs ≡ map (job_of (id_of server) server.me server.inc) jobs
  pub lives_are : out.lives ≡ lives
  pub placements_are : out.placements ≡ placements
  pub opened : Each (λ life. IsOpenAt server b life.id) lives
  pub closings : (place serial : ℕ)
      → is_open_in serial (slice_get a.lines place) ≡ true
      → is_open_in serial (slice_get b.lines place) ≡ false
      → In (record { life = law_shard.life_id server.me server.inc place serial; step = now })
      out.closings

-- what a step shows that gives a message to these subscriptions
abbrev pub NodeMoves : ServerIdentity → ℕ → Node → NodeEvent → Bool → Node → List Subscription
    → Type 0
NodeMoves server now a e won b subs =
    (x : law.NodeEvent)
    × Shown server e x
    × Moves server now a b x (publications_by server now a e)
    (map (sent_of server) (node_frames server a e)) (changes_by a e) (jobs_by server a e)
    (lives_at server now a e) (placements_at server now (part_of server a e won) subs)

-- each step of a sound server is a step of the law's node, whatever the order in which its messages
-- are listed
abbrev pub NodeFollows : Type 0
NodeFollows =
    (server : ServerIdentity) (now : ℕ) (a : Node) (e : NodeEvent) (won : Bool) (race : RaceState)
    (b : Node) (subs : List Subscription)
    → IsListed server
    → SoundNode server a
    → NodeStep server a e won race b
    → AreThese (given_at (part_of server a e won)) subs
    → NodeMoves server now a e won b subs

-- a sound server stays so
abbrev pub StaysSound : Type 0
StaysSound =
    (server : ServerIdentity) (a : Node) (e : NodeEvent) (won : Bool) (race : RaceState) (b : Node)
    → IsListed server → SoundNode server a → NodeStep server a e won race b → SoundNode server b

-- a server that has just started is sound, and is the law's that has just started
pub record IsStarted (server : ServerIdentity) : Type 0 where
  pub sound : SoundNode server (new_node server)
  pub seen : node_of server (new_node server) ≡ cluster.new_node (law_at server) server.inc

-- ---- what a step puts into the outboxes

abbrev pub waits_in : ℕ → Option ShardWithJobs → List Written
waits_in conn None = []
waits_in conn (Some line) = waits_for conn line.shard.clients

-- what waits for a connection of the shard at this place
abbrev pub waits_at : Node → ℕ → ℕ → List Written
waits_at a place conn = waits_in conn (slice_get a.lines place)

abbrev pub is_message_tag : Tag → Bool
is_message_tag tag.Reply = false
is_message_tag (tag.Msg id sub mode) = true

abbrev pub is_message : Written → Bool
is_message entry = is_message_tag entry.tag

-- behind what waited stand, of messages, just those given, in order
abbrev pub MessagesAreGiven : Type 0
MessagesAreGiven =
    (server : ServerIdentity) (a : Node) (e : NodeEvent) (won : Bool) (race : RaceState) (b : Node)
    (place conn : ℕ)
    → NodeStep server a e won race b
    → filter is_message (drop (length (waits_at a place conn)) (waits_at b place conn))
    ≡ messages_at (part_of server a e won) place conn
