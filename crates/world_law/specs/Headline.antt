-- The headline, in the words of the exact cluster. Pairs are of an older and a newer entry.
use Rattle.std.specs.Prelude.{◌≡◌, ◌≢◌, ℕ, ◌<◌, ◌≤◌, true, List, Some, slice_get}
use Rattle.list_laws.specs.Lists.{In, Each, Pairs}
use Rattle.client_frames.specs.Messages.{due_bytes}
use Rattle.outbox.specs.declared.entries.Mode.TheVariants.{Plain, Queue}
use Rattle.subj.specs.Matching.{subject_matches}
use Rattle.subj.specs.Servers.{AreApart}
use Rattle.shard_core.specs.Owed.{mode_of}
use Rattle.hub_core.specs.Peers.{first_frames}
use Rattle.route_values.specs.declared.frames.RouteFrame.TheVariants.{Numbered}
use Rattle.world_law.specs.State.{Cluster, Publication, Life, Placement, World, Running}

-- no two servers have one name
pub record IsCluster (c : Cluster) : Type 0 where
  pub apart : AreApart c.names

-- not one publication twice for a plain subscription
abbrev pub PlainOnce : Placement → Placement → Type 0
PlainOnce p q = p.mode ≡ Plain → p.id ≡ q.id → p.life ≡ q.life → ⊥

-- not one publication twice for a queue name, in the whole cluster: over all servers, incarnations,
-- connections and steps (NATS documentation, "Queue Groups": one member gets each message; that it
-- gets it once: profile)
abbrev pub OneMember : Placement → Placement → Type 0
OneMember p q = (name : List ℕ) → p.id ≡ q.id → p.mode ≡ Queue name → q.mode ≡ Queue name → ⊥

-- of one subscription, the publications of one incarnation of a server come in rising number
abbrev pub InOrder : Placement → Placement → Type 0
InOrder p q =
    p.life ≡ q.life → p.id.origin ≡ q.id.origin → p.id.inc ≡ q.id.inc → p.id.number < q.id.number

-- the exact MSG or HMSG of a publication of an earlier step, for a subscription of that connection,
-- sid and queue name that matches, was opened before that step and did not close before it; HMSG
-- just where the publication has headers and the connection took them at that step
pub record IsOwed (publications : List Publication) (lives : List Life) (p : Placement) :
    Type 0 where
  pub source : Publication
  pub source_in : In source publications
  pub id : source.id ≡ p.id
  pub earlier : source.step < p.step
  pub life : Life
  pub life_in : In life lives
  pub life_id : life.id ≡ p.life
  pub conn : life.conn ≡ p.conn
  pub mode : mode_of life.key.queue ≡ p.mode
  pub matches : subject_matches life.key.pattern source.message.subject ≡ true
  pub opened : life.opened < p.step
  pub still : (k : ℕ) → life.closed ≡ Some k → p.step ≤ k
  pub bytes : p.bytes ≡ due_bytes source.message life.sid p.headers

pub record Headline (w : World) : Type 0 where
  pub plain_once : Pairs PlainOnce w.placements
  pub one_member : Pairs OneMember w.placements
  pub owed : Each (IsOwed w.publications w.lives) w.placements
  pub in_order : Pairs InOrder w.placements

-- publications and subscriptions have names of their own
pub record Names (w : World) : Type 0 where
  pub publications : Pairs (λ p q. p.id ≢ q.id) w.publications
  pub lives : Pairs (λ l m. l.id ≢ m.id) w.lives

-- each server that is up is so
abbrev pub EachUp : (ℕ → Running → Type 0) → World → Type 0
EachUp P w = (n : ℕ) (a : Running) → slice_get w.nodes n ≡ Some (Some a) → P n a

-- each frame that a take from a peer gives stands among those that were sent
abbrev pub AreSent : World → Type 0
AreSent w =
    EachUp
    (λ n a. (q count : ℕ) → Each (λ f. In (Numbered f) w.sent) (first_frames a.node.hub q count)) w
