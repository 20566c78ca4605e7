-- What the cluster law's machine sees of the exact cluster.
use Rattle.std.specs.Prelude.{◌≡◌, ℕ, suc, ◌-◌, ◌<◌, true, length, map, slice_get, Option, Some, None}
use Rattle.list_laws.specs.Lists.{In, Each, Along}
use Rattle.cluster_law.specs.Cluster as cluster
use Rattle.cluster_law.specs.Config.{Config}
use Rattle.cluster_law.specs.History as history
use Rattle.cluster_law.specs.Interest as interest
use Rattle.cluster_law.specs.Messages as messages
use Rattle.cluster_law.specs.Names as names
use Rattle.cluster_law.specs.Node as law
use Rattle.client_frames.specs.Messages.{due_bytes}
use Rattle.subj.specs.Messages.{Content}
use Rattle.subj.specs.Servers.{place_in}
use Rattle.subj.specs.declared.identities.PubId.{PubId}
use Rattle.route_values.specs.declared.frames.RouteFrame.{RouteFrame}
use Rattle.cluster_law.specs.Values.{content_of}
use Rattle.hub_core.specs.AsLaw.{id_of, change_of}
use Rattle.shard_core.specs.AsLaw.{job_of}
use Rattle.shard_core.specs.Owed.{mode_of}
use Rattle.node_law.specs.AsLaw.{law_of, node_of, sent_of}
use Rattle.node_law.specs.Sound.{SoundNode}
use Rattle.world_law.specs.State.{Cluster, Publication, LifeId, Life, Placement, Running, World, server_at}
use Rattle.world_law.specs.Changes.{is_open}
use Rattle.world_law.specs.Made.{MadeJob, MadeChange}

abbrev pub law_for : Cluster → Config
law_for c = law_of c.names c.shards

-- ---- values; how names become places does not depend on the server

abbrev pub pub_of : Cluster → PubId → names.PubId
pub_of c id = id_of (server_at c 0 0) id

abbrev pub frame_of : Cluster → RouteFrame → messages.Frame
frame_of c frame = sent_of (server_at c 0 0) frame

abbrev pub publication_of : Cluster → Publication → messages.Publication
publication_of c p = record { id = pub_of c p.id; content = content_of p.message; step = p.step }

-- the law counts shards from 0
abbrev pub law_id : LifeId → names.LifeId
law_id id = record { node = id.node; inc = id.inc; shard = id.sub.shard - 1; serial = id.sub.serial }

abbrev pub own_id : names.LifeId → LifeId
own_id id = record { node = id.node; inc = id.inc; sub = record { shard = suc id.shard; serial = id.serial } }

abbrev pub life_of : Life → history.Life
life_of l = record {
  id = law_id l.id;
  connection = l.conn;
  sid = l.sid;
  pattern = l.key.pattern;
  queue = l.key.queue;
  opened = l.opened;
}

abbrev pub own_content : messages.Content → Content
own_content content = record {
  subject = content.subject;
  reply = content.reply;
  headers = content.headers;
  payload = content.payload;
}

-- its bytes are those of the content and the sid, in the form that its connection took
pub record SeesPlacement (c : Cluster) (p : Placement) (q : history.Placement) : Type 0 where
  pub id : q.id ≡ pub_of c p.id
  pub life : p.life ≡ own_id q.life
  pub conn : q.connection ≡ p.conn
  pub mode : p.mode ≡ mode_of q.mode
  pub step : q.step ≡ p.step
  pub bytes : p.bytes ≡ due_bytes (own_content q.content) q.sid p.headers

-- ---- servers

abbrev pub seen_node : Cluster → ℕ → Option Running → law.Node
seen_node c n None = cluster.no_node
seen_node c n (Some a) = node_of (server_at c n a.inc) a.node

-- ---- the whole: the lists are the same, a subscription that has not closed is open, and one that has closed did so
-- for the law too; and each server that is up is sound

pub record Sees (c : Cluster) (w : World) (v : cluster.World) : Type 0 where
  pub step : v.step ≡ w.step
  pub size : length w.nodes ≡ length c.names
  pub nodes : (n : ℕ) (node : Option Running)
      → slice_get w.nodes n ≡ Some node
      → slice_get v.nodes n ≡ Some (seen_node c n node)
  pub sound : (n : ℕ) (a : Running) → slice_get w.nodes n ≡ Some (Some a) → SoundNode (server_at c n a.inc) a.node
  pub started : v.past.started ≡ w.started
  pub publications : v.past.publications ≡ map (publication_of c) w.publications
  pub sent : v.past.sent ≡ map (frame_of c) w.sent
  pub lives : v.past.lives ≡ map life_of w.lives
  pub numbered : Each (λ l. l.id ≡ own_id (law_id l.id)) w.lives
  pub open_lives : Each (λ l. l.closed ≡ None → is_open w.nodes l.id ≡ true) w.lives
  pub closed_lives :
      Each (λ l. (k : ℕ) → l.closed ≡ Some k → In (record { life = law_id l.id; step = k }) v.past.closings) w.lives
  pub listed : Each (λ p. place_in p.id.origin c.names < length c.names) w.publications
  pub placements : Along (SeesPlacement c) w.placements v.past.placements

-- the jobs and the changes of interest that a run made, as the law has them

abbrev pub law_job : Cluster → MadeJob → history.Job
law_job c made = job_of (pub_of c) made.node made.inc made.job

abbrev pub law_change : MadeChange → interest.Noted
law_change made = law.note_of made.node made.inc (change_of made.change)
