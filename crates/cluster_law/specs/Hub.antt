-- The hub's part of a node: it numbers publications, splits their queue names, and tells which
-- frames of others it takes (profile).
use Rattle.std.specs.Prelude.{◌≡◌, ◌≢◌, ◌⊎◌, ℕ, suc, ◌+◌, ◌<◌, ◌≤◌, List, [], set, length, slice_get, Some}
use Rattle.list_laws.specs.Lists.{Each, Pairs, NoRepeat, Disjoint}
use Rattle.cluster_law.specs.Rules.{Where}
use Rattle.cluster_law.specs.Names.{Bytes, PubId}
use Rattle.cluster_law.specs.Interest.{View, Change, view_after}
use Rattle.cluster_law.specs.Messages.{Publication, Routed, Body, Changed, Snapshot, News, Frame, Message, Interest, Greeting}
use Rattle.cluster_law.specs.Config.{Config, Rules}

-- What a hub knows of an origin: the greatest incarnation seen (0: none), and of that incarnation
-- the publication mark, the interest mark and the view.
pub record Peer : Type 0 where
  pub seen : ℕ
  pub mark : ℕ
  pub heard : ℕ
  pub view : View

-- The last publication number, the last interest number, the interest that it told, and each origin
-- by its place.
pub record Hub : Type 0 where
  pub published : ℕ
  pub changed : ℕ
  pub interest : View
  pub peers : List Peer

abbrev pub new_peer : ℕ → Peer
new_peer inc = record { seen = inc; mark = 0; heard = 0; view = [] }

-- Publish

-- A frame of this publication, for another node, at the greatest incarnation seen of it.
pub record RoutedOf (n : ℕ) (hub : Hub) (p : Publication) (m : Routed) : Type 0 where
  pub id : m.id ≡ p.id
  pub content : m.content ≡ p.content
  pub other : m.to ≢ n
  pub peer : Peer
  pub peer_is : slice_get hub.peers m.to ≡ Some peer
  pub to_inc : m.to_inc ≡ peer.seen
  pub once : NoRepeat m.names

abbrev pub next_id : ℕ → ℕ → Hub → PubId
next_id n inc hub = record { origin = n; inc = inc; number = suc hub.published }

-- A publish: its queue names are split, in any way, among this node's job and frames to other
-- nodes.
pub record HubPublishes (rules : Rules) (c : Config) (n : ℕ) (hub : Hub) (p : Publication)
    (names : List Bytes) (frames : List Routed) (new : Hub) : Type 0 where
  pub once : NoRepeat names
  pub few : length names ≤ c.queue_names
  pub few_in_frame : Each (λ f. length f.names ≤ c.queue_names) frames
  pub frames_of : Each (RoutedOf n hub p) frames
  pub frames_apart : Pairs
      (λ f g. Where rules.one_frame (f.to ≢ g.to) × Where rules.apart (Disjoint f.names g.names))
      frames
  pub job_apart : Each (λ f. Where rules.apart (Disjoint f.names names)) frames
  pub after : new ≡ record hub { published = suc hub.published }

-- Frames of others

-- What is known of an origin where a frame of incarnation inc is looked at: a greater one than was
-- seen begins anew.
abbrev pub Known : Rules → Peer → ℕ → Peer → Type 0
Known rules peer inc base =
    ((inc ≢ peer.seen) × Where rules.origin (peer.seen < inc) × (base ≡ new_peer inc))
    ⊎ ((inc ≡ peer.seen) × (base ≡ peer))

-- A numbered frame is for this node, at this incarnation, and of another node.
pub record IsForMe (rules : Rules) (n inc to to_inc origin : ℕ) : Type 0 where
  pub me : Where rules.addressee (to ≡ n)
  pub my_inc : Where rules.incarnation (to_inc ≡ inc)
  pub other : origin ≢ n

-- A routed message is taken: its number is above the mark, and becomes the mark.
pub record HubReceives (rules : Rules) (n inc : ℕ) (hub : Hub) (m : Routed) (new : Hub) :
    Type 0 where
  pub for_me : IsForMe rules n inc m.to m.to_inc m.id.origin
  pub peer : Peer
  pub peer_is : slice_get hub.peers m.id.origin ≡ Some peer
  pub base : Peer
  pub known : Known rules peer m.id.inc base
  pub above : Where rules.mark (base.mark < m.id.number)
  pub after :
      new ≡ record hub { peers = set hub.peers m.id.origin (record base { mark = m.id.number }) }

-- A change is taken as the next one, a snapshot at or above the mark.
abbrev pub Taken : Rules → Config → Body → ℕ → ℕ → View → View → Type 0
Taken rules c (Changed change) number heard view new =
    Where rules.next (number ≡ suc heard) × (new ≡ c.follow change view)
Taken rules c (Snapshot all) number heard view new = (heard ≤ number) × (new ≡ all)

-- News of interest are taken.
pub record HubHears (rules : Rules) (c : Config) (n inc : ℕ) (hub : Hub) (t : News) (new : Hub) :
    Type 0 where
  pub for_me : IsForMe rules n inc t.to t.to_inc t.origin
  pub peer : Peer
  pub peer_is : slice_get hub.peers t.origin ≡ Some peer
  pub base : Peer
  pub known : Known rules peer t.inc base
  pub view : View
  pub taken : Taken rules c t.body t.number base.heard base.view view
  pub after : new ≡ record hub {
    peers = set hub.peers t.origin (record base { heard = t.number; view = view });
  }

-- A session tells of its origin's incarnation.
pub record HubMeets (rules : Rules) (n : ℕ) (hub : Hub) (origin inc : ℕ) (new : Hub) : Type 0 where
  pub other : origin ≢ n
  pub peer : Peer
  pub peer_is : slice_get hub.peers origin ≡ Some peer
  pub base : Peer
  pub known : Known rules peer inc base
  pub after : new ≡ record hub { peers = set hub.peers origin base }

-- Own interest

-- One of the changes just made, by its number, or all of the interest after them.
abbrev pub Says : Hub → List Change → Hub → ℕ → Body → Type 0
Says old changes new number (Changed change) =
    (k : ℕ) × (slice_get changes k ≡ Some change) × (number ≡ old.changed + suc k)
Says old changes new number (Snapshot view) = (number ≡ new.changed) × (view ≡ new.interest)

pub record NewsOf (n now_inc : ℕ) (old : Hub) (changes : List Change) (new : Hub) (t : News) :
    Type 0 where
  pub origin : t.origin ≡ n
  pub inc : t.inc ≡ now_inc
  pub says : Says old changes new t.number t.body

-- A frame that a hub sends of itself, beside messages.
abbrev pub IsTold : ℕ → ℕ → Hub → List Change → Hub → Frame → Type 0
IsTold n inc old changes new (Message m) = ⊥
IsTold n inc old changes new (Interest t) = NewsOf n inc old changes new t
IsTold n inc old changes new (Greeting o i) = (o ≡ n) × (i ≡ inc)

-- The hub's interest changes, in so many steps of its number; it tells whom it wants.
pub record HubAnnounces (c : Config) (n inc : ℕ) (hub : Hub) (changes : List Change)
    (frames : List Frame) (new : Hub) : Type 0 where
  pub told : Each (IsTold n inc hub changes new) frames
  pub after : new ≡ record hub {
    changed = hub.changed + length changes;
    interest = view_after c.follow changes (length changes) hub.interest;
  }
