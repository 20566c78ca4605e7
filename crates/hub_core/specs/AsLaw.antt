-- A hub and its steps as the cluster law sees them: servers by their places, and neither outboxes
-- nor who is up.
use Rattle.std.specs.Prelude.{◌≡◌, ◌≢◌, ℕ, suc, ◌+◌, ◌<◌, ◌≤◌, List, [], map, length, slice_get, Some, None}
use Rattle.cluster_law.specs.Config.{Config, every_rule}
use Rattle.cluster_law.specs.Hub as law
use Rattle.cluster_law.specs.Hub.{HubPublishes, HubReceives, HubHears, HubMeets, HubAnnounces, IsTold}
use Rattle.cluster_law.specs.Interest as interest
use Rattle.cluster_law.specs.Messages as messages
use Rattle.cluster_law.specs.Names as names
use Rattle.cluster_law.specs.Values.{content_of}
use Rattle.subj.specs.declared.identities.PubId.{PubId}
use Rattle.subj.specs.declared.keys.Key.{Key}
use Rattle.subj.specs.declared.limits.TheConstants.{MAX_QUEUE_NAMES, WINDOW}
use Rattle.subj.specs.Messages.{Content}
use Rattle.subj.specs.Servers.{ServerIdentity, IsListed, place}
use Rattle.interest.specs.declared.changes.Change.{Change}
use Rattle.interest.specs.declared.changes.Change.TheVariants.{Up, Gone, Clear}
use Rattle.subj.specs.declared.keys.Delta.{Delta}
use Rattle.interest.specs.Counts.{IsInterest}
use Rattle.interest.specs.Views.{View, view_with_change}
use Rattle.route_values.specs.declared.bodies.Body.{Body}
use Rattle.route_values.specs.declared.bodies.Body.TheVariants.{Plus, Minus, Snapshot, Msg}
use Rattle.route_values.specs.Frames.{Frame}
use Rattle.route_values.specs.Snapshots.{Weighted}
use Rattle.hub_core.specs.State.{State, Peer}
use Rattle.hub_core.specs.Publishing.{Publication, publish_refusal, after_publish, own_job, frames_of, next_id}
use Rattle.hub_core.specs.Receiving.{receive_refusal, after_receive}
use Rattle.hub_core.specs.Telling.{collect_refusal, after_collect, changes_of, collect_frames, drain_refusal, after_drain, drain_frames, clearing}
use Rattle.hub_core.specs.Peers.{up, cut, after_take, snapshot_to, told_interest}

-- ---- values

abbrev pub key_of : Key → interest.Key
key_of key = record { pattern = key.pattern; queue = key.queue }

abbrev pub weighted_of : Weighted → interest.Weighted
weighted_of weighted = record { key = key_of weighted.0; weight = weighted.1 }

abbrev pub view_of : View → interest.View
view_of view = map weighted_of view

abbrev pub change_of : Change → interest.Change
change_of (Up weighted) = interest.Up (weighted_of weighted)
change_of (Gone key) = interest.Gone (key_of key)
change_of Clear = interest.Cleared

abbrev pub id_of : ServerIdentity → PubId → names.PubId
id_of server id = record { origin = place server id.origin; inc = id.inc; number = id.number }

-- ---- frames

abbrev pub routed_of : ServerIdentity → Frame → Content → List (List ℕ) → messages.Routed
routed_of server frame content queues = record {
  id = record { origin = place server frame.from; inc = frame.inc; number = frame.number };
  to = place server frame.to;
  to_inc = frame.to_inc;
  content = content_of content;
  names = queues;
}

abbrev pub news_of : ServerIdentity → Frame → messages.Body → messages.News
news_of server frame body = record {
  origin = place server frame.from;
  inc = frame.inc;
  to = place server frame.to;
  to_inc = frame.to_inc;
  number = frame.number;
  body = body;
}

abbrev pub as_said : ServerIdentity → Frame → Body → messages.Frame
as_said server frame (Plus weighted) =
    messages.Interest (news_of server frame (messages.Changed (interest.Up (weighted_of weighted))))
as_said server frame (Minus key) =
    messages.Interest (news_of server frame (messages.Changed (interest.Gone (key_of key))))
as_said server frame (Snapshot keys) =
    messages.Interest (news_of server frame (messages.Snapshot (view_of keys)))
as_said server frame (Msg content queues) = messages.Message (routed_of server frame content queues)

abbrev pub frame_of : ServerIdentity → Frame → messages.Frame
frame_of server frame = as_said server frame frame.body

-- ---- the hub

abbrev pub peer_of : Peer → law.Peer
peer_of peer = record {
  seen = peer.seen;
  mark = peer.mark;
  heard = peer.heard.mark;
  view = view_of peer.heard.keys;
}

-- of the counts the view that they are told as; a server that drains tells of none
abbrev pub hub_of : State → law.Hub
hub_of hub = record {
  published = hub.published;
  changed = hub.changed;
  interest = view_of (told_interest hub);
  peers = map peer_of hub.peers;
}

-- ---- the law's parameters: how many queue names, and how a change acts on a view

abbrev pub own_key : interest.Key → Key
own_key key = record { pattern = key.pattern; queue = key.queue }

abbrev pub own_weighted : interest.Weighted → Weighted
own_weighted weighted = (own_key weighted.key, weighted.weight)

abbrev pub own_view : interest.View → View
own_view view = map own_weighted view

abbrev pub follow : interest.Change → interest.View → interest.View
follow (interest.Up weighted) view =
    view_of (view_with_change (Up (own_weighted weighted)) (own_view view))
follow (interest.Gone key) view = view_of (view_with_change (Gone (own_key key)) (own_view view))
follow interest.Cleared view = []

abbrev pub routing : Config → Config
routing c = record c { queue_names = MAX_QUEUE_NAMES; follow = follow }

-- ---- what each event is in the law

abbrev pub HasPeers : ServerIdentity → State → Type 0
HasPeers server hub = length hub.peers ≡ length server.names

-- no shard of the server is a window behind
abbrev pub HasRoom : ServerIdentity → State → List ℕ → Type 0
HasRoom server hub finished =
    (place done : ℕ)
    → place < server.shards
    → slice_get finished place ≡ Some done
    → suc hub.issued ≤ done + WINDOW

pub record IsPublished (c : Config) (server : ServerIdentity) (hub : State) (p : Publication)
    (finished : List ℕ) (now : ℕ) : Type 0 where
  pub frames : List messages.Routed
  pub frames_are : map (frame_of server) (frames_of server hub p) ≡ map messages.Message frames
  pub id_is : id_of server (next_id server hub) ≡ law.next_id server.me server.inc (hub_of hub)
  pub publishes : HubPublishes every_rule (routing c) server.me (hub_of hub)
      (record {
        id = law.next_id server.me server.inc (hub_of hub);
        content = content_of p.publication.message;
        step = now;
      })
      (own_job server hub p).queues frames (hub_of (after_publish server hub p))
  pub room : HasRoom server hub finished
  pub peers : HasPeers server (after_publish server hub p)

-- a publish that is not refused
abbrev pub PublishesInLaw : Type 0
PublishesInLaw =
    (c : Config) (server : ServerIdentity) (hub : State) (p : Publication) (finished : List ℕ)
    (now : ℕ)
    → IsListed server
    → HasPeers server hub
    → publish_refusal server hub p finished ≡ None
    → IsPublished c server hub p finished now

abbrev pub TakenAs : Config → ServerIdentity → State → List ℕ → Frame → messages.Frame → Type 0
TakenAs c server hub finished frame (messages.Message m) =
    HubReceives every_rule server.me server.inc (hub_of hub) m
    (hub_of (after_receive server hub frame))
    × HasRoom server hub finished
TakenAs c server hub finished frame (messages.Interest news) =
    HubHears every_rule (routing c) server.me server.inc (hub_of hub) news
    (hub_of (after_receive server hub frame))
TakenAs c server hub finished frame (messages.Greeting origin inc) = ⊥

-- a frame that is not refused: a message is received, and news are heard
abbrev pub ReceivesInLaw : Type 0
ReceivesInLaw =
    (c : Config) (server : ServerIdentity) (hub : State) (finished : List ℕ) (frame : Frame)
    → IsListed server
    → HasPeers server hub
    → receive_refusal server hub finished frame ≡ None
    → TakenAs c server hub finished frame (frame_of server frame)
    × HasPeers server (after_receive server hub frame)

pub record IsMet (server : ServerIdentity) (hub : State) (q inc : ℕ) : Type 0 where
  pub meets : HubMeets every_rule server.me (hub_of hub) q inc (hub_of (up server hub q inc))
  pub snapshot : IsTold server.me server.inc (hub_of hub) [] (hub_of hub)
      (frame_of server (snapshot_to server hub q inc))
  pub peers : HasPeers server (up server hub q inc)

-- another server comes up at an incarnation that is not below the one seen
abbrev pub MeetsInLaw : Type 0
MeetsInLaw =
    (server : ServerIdentity) (hub : State) (q inc : ℕ) (peer : Peer)
    → IsListed server
    → HasPeers server hub
    → q ≢ server.me
    → slice_get hub.peers q ≡ Some peer
    → peer.seen ≤ inc
    → IsMet server hub q inc

pub record IsAnnounced (c : Config) (server : ServerIdentity) (hub : State) (deltas : List Delta) :
    Type 0 where
  pub announces : HubAnnounces (routing c) server.me server.inc (hub_of hub)
      (map change_of (changes_of hub deltas))
      (map (frame_of server) (collect_frames server hub deltas))
      (hub_of (after_collect server hub deltas))
  pub within : IsInterest (after_collect server hub deltas).counts
  pub peers : HasPeers server (after_collect server hub deltas)

-- a collect that is not refused, of counts within their limits
abbrev pub AnnouncesInLaw : Type 0
AnnouncesInLaw =
    (c : Config) (server : ServerIdentity) (hub : State) (deltas : List Delta)
    → IsListed server
    → HasPeers server hub
    → IsInterest hub.counts
    → collect_refusal hub deltas ≡ None
    → IsAnnounced c server hub deltas

pub record IsDrained (c : Config) (server : ServerIdentity) (hub : State) : Type 0 where
  pub announces : HubAnnounces (routing c) server.me server.inc (hub_of hub)
      (map change_of clearing) (map (frame_of server) (drain_frames server hub))
      (hub_of (after_drain server hub))
  pub peers : HasPeers server (after_drain server hub)

-- a drain that is not refused
abbrev pub DrainsInLaw : Type 0
DrainsInLaw =
    (c : Config) (server : ServerIdentity) (hub : State)
    → IsListed server
    → HasPeers server hub
    → drain_refusal hub ≡ None
    → IsDrained c server hub

-- a cut and a take are not seen
pub record IsUnseen (server : ServerIdentity) (hub new : State) : Type 0 where
  pub hub_is : hub_of new ≡ hub_of hub
  pub peers : HasPeers server new

abbrev pub CutsUnseen : Type 0
CutsUnseen =
    (server : ServerIdentity) (hub : State) (q : ℕ)
    → HasPeers server hub
    → IsUnseen server hub (cut hub q)

abbrev pub TakesUnseen : Type 0
TakesUnseen =
    (server : ServerIdentity) (hub : State) (q count : ℕ)
    → HasPeers server hub
    → IsUnseen server hub (after_take hub q count)
