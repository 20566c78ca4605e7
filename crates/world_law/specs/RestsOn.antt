-- What the headline rests on, over a run of the exact cluster: its messages sent, its jobs, its
-- changes of interest and its servers. Pairs are of an older and a newer entry.
use Rattle.std.specs.Prelude.{◌≡◌, ◌≢◌, ◌⊎◌, ℕ, ◌<◌, ◌≤◌, List, [], ◌∷◌, ◌++◌, length, Option, Some, None, slice_get}
use Rattle.list_laws.specs.Lists.{In, Each, Pairs, NoRepeat, Disjoint}
use Rattle.interest.specs.Views.{view_at}
use Rattle.subj.specs.declared.identities.PubId.{PubId}
use Rattle.subj.specs.declared.jobs.Job.{Job}
use Rattle.subj.specs.declared.limits.TheConstants.{MAX_QUEUE_NAMES}
use Rattle.subj.specs.Messages.{Content}
use Rattle.subj.specs.Servers.{place_in}
use Rattle.hub_core.specs.State.{Peer}
use Rattle.route_values.specs.Frames.{Frame}
use Rattle.route_values.specs.declared.bodies.Body.{Body}
use Rattle.route_values.specs.declared.bodies.Body.TheVariants.{Plus, Minus, Snapshot, Msg}
use Rattle.route_values.specs.declared.frames.RouteFrame.{RouteFrame}
use Rattle.route_values.specs.declared.frames.RouteFrame.TheVariants as route
use Rattle.node_law.specs.State.{ShardWithJobs}
use Rattle.world_law.specs.Events.{Event}
use Rattle.world_law.specs.Headline.{IsCluster, EachUp}
use Rattle.world_law.specs.Made.{Passed, passed_events, MadeJob, MadeChange, jobs_made, changes_made, changes_in_life}
use Rattle.world_law.specs.State.{Cluster, Publication, Running, World, new_world}
use Rattle.world_law.specs.Steps.{Run}

-- ---- the messages among the frames sent

-- of which publication, to which incarnation of which server, what it says, and with which queue
-- names to serve there
pub record Message : Type 0 where
  pub id : PubId
  pub to : List ℕ
  pub to_inc : ℕ
  pub content : Content
  pub queues : List (List ℕ)

abbrev pub message_in : Frame → Body → List Message
message_in frame (Plus weighted) = []
message_in frame (Minus key) = []
message_in frame (Snapshot keys) = []
message_in frame (Msg content queues) =
    record {
      id = record { origin = frame.from; inc = frame.inc; number = frame.number };
      to = frame.to;
      to_inc = frame.to_inc;
      content = content;
      queues = queues;
    } ∷ []

abbrev pub messages_in : List RouteFrame → List Message
messages_in [] = []
messages_in (route.Info info ∷ frames) = messages_in frames
messages_in (route.Connect connect ∷ frames) = messages_in frames
messages_in (route.Numbered frame ∷ frames) = message_in frame frame.body ++ messages_in frames

-- ---- a publication's messages and jobs

-- A publication of this id and content was made; and the queue names that it has there are apart.
-- As it holds of every run, it was made in the same step or before.
pub record IsMadeOf (publications : List Publication) (id : PubId) (content : Content)
    (queues : List (List ℕ)) : Type 0 where
  pub source : Publication
  pub source_in : In source publications
  pub id_is : source.id ≡ id
  pub content_is : source.message ≡ content
  pub apart : NoRepeat queues

abbrev pub IsMessageOf : List Publication → Message → Type 0
IsMessageOf publications f = IsMadeOf publications f.id f.content f.queues

abbrev pub IsJobOf : List Publication → Job → Type 0
IsJobOf publications job = IsMadeOf publications job.id job.message job.queues

-- it has one message for a server at most, and so for one incarnation of it; and no queue name
-- stands in two of them
abbrev pub OneMessage : Message → Message → Type 0
OneMessage f g = f.id ≡ g.id → (f.to ≢ g.to) × Disjoint f.queues g.queues

-- nor in one of them and in the job at its own server
abbrev pub IsSplitFrom : Cluster → MadeJob → Message → Type 0
IsSplitFrom c made f =
    made.node ≡ place_in made.job.id.origin c.names
    → f.id ≡ made.job.id
    → Disjoint f.queues made.job.queues

-- it makes one job at a server at most, over all its incarnations; and no queue name stands in two
-- of its jobs, so that each is served at one server
abbrev pub TakenOnce : MadeJob → MadeJob → Type 0
TakenOnce i j = i.job.id ≡ j.job.id → (i.node ≢ j.node) × Disjoint i.job.queues j.job.queues

-- ---- views

-- What is kept of the interest of the server at this place is that of the incarnation seen, which
-- was started (or of none, and nothing): what it told by as many of its changes as the mark says,
-- all of which it has made.
pub record IsViewOf (started : List (ℕ × ℕ)) (made : List MadeChange) (q : ℕ) (peer : Peer) :
    Type 0 where
  pub seen : (peer.seen ≡ 0) ⊎ In (q, peer.seen) started
  pub reached : peer.heard.mark ≤ length (changes_in_life q peer.seen made)
  pub keys : peer.heard.keys ≡ view_at (changes_in_life q peer.seen made) peer.heard.mark

-- ---- lines

-- the job in hand, and those that wait
abbrev pub in_line : Option Job → List Job → List Job
in_line None waiting = waiting
in_line (Some job) waiting = job ∷ waiting

-- each job stands there once, in order of turns, and none of a finished turn
pub record IsLine (line : ShardWithJobs) : Type 0 where
  pub rising : Pairs (λ i j. i.turn < j.turn) (in_line line.shard.hand line.waiting)
  pub unfinished : Each (λ j. line.shard.finished < j.turn) (in_line line.shard.hand line.waiting)

-- no shard's finished turns became fewer where the incarnation still runs, so that a finished turn
-- never comes again
abbrev pub TurnsStay : World → World → Type 0
TurnsStay w w' =
    (n : ℕ) (a b : Running)
    → slice_get w.nodes n ≡ Some (Some a)
    → slice_get w'.nodes n ≡ Some (Some b)
    → b.inc ≡ a.inc
    → (place : ℕ) (x y : ShardWithJobs)
    → slice_get a.node.lines place ≡ Some x
    → slice_get b.node.lines place ≡ Some y
    → x.shard.finished ≤ y.shard.finished

-- ---- all of it

pub record RestsOn (c : Cluster) (steps : List Passed) (w : World) : Type 0 where
  pub unique : Pairs (λ p q. p.id ≢ q.id) w.publications
  pub one_message : Pairs OneMessage (messages_in w.sent)
  pub split : Each (λ made. Each (IsSplitFrom c made) (messages_in w.sent)) (jobs_made c steps)
  pub taken_once : Pairs TakenOnce (jobs_made c steps)
  pub few_in_message : Each (λ f. length f.queues ≤ MAX_QUEUE_NAMES) (messages_in w.sent)
  pub few_in_job : Each (λ made. length made.job.queues ≤ MAX_QUEUE_NAMES) (jobs_made c steps)
  pub made_messages : Each (IsMessageOf w.publications) (messages_in w.sent)
  pub made_jobs : Each (λ made. IsJobOf w.publications made.job) (jobs_made c steps)
  pub views : EachUp (λ n a.
      (q : ℕ) (peer : Peer)
      → slice_get a.node.hub.peers q ≡ Some peer
      → IsViewOf w.started (changes_made c steps) q peer)
      w
  pub lines : EachUp (λ n a.
      (place : ℕ) (line : ShardWithJobs) → slice_get a.node.lines place ≡ Some line → IsLine line)
      w

abbrev pub RunsRestOn : Type 0
RunsRestOn =
    (c : Cluster)
    → IsCluster c
    → (events : List Event) (w : World) (run : Run c (new_world c) events w)
    → RestsOn c (passed_events c (new_world c) events w run) w

abbrev pub FinishedStays : Type 0
FinishedStays =
    (c : Cluster)
    → IsCluster c
    → (before after : List Event) (w w' : World)
    → Run c (new_world c) before w
    → Run c w after w'
    → TurnsStay w w'

-- what a value can say of the run that ends in it
abbrev pub CameSo : Cluster → World → Type 0
CameSo c w =
    (events : List Event)
    × (run : Run c (new_world c) events w)
    × RestsOn c (passed_events c (new_world c) events w run) w
