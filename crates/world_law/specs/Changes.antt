-- What a step adds to the lists: by what the event is, and by comparing the server before and after
-- it.
use Rattle.std.specs.Prelude.{◌≡◌, ℕ, ◌+◌, Bool, true, false, not, ◌&&◌, nat_eq, List, [], ◌∷◌, ◌++◌, length, drop, filter, map, Option, Some, None, is_none, slice_get, if◌then◌else◌}
use Rattle.list_laws.specs.Lists.{Each, SubList}
use Rattle.outbox.specs.Views.{Written}
use Rattle.outbox.specs.declared.entries.Tag.{Tag}
use Rattle.outbox.specs.declared.entries.Tag.TheVariants as tag
use Rattle.sub_table.specs.declared.Subscription.{Subscription}
use Rattle.subj.specs.declared.identities.SubId.{SubId}
use Rattle.subj.specs.declared.keys.Key.{Key}
use Rattle.subj.specs.Servers.{ServerIdentity}
use Rattle.hub_core.specs.Publishing as hub
use Rattle.hub_core.specs.Publishing.{next_id}
use Rattle.shard_core.specs.Closings.{id_of, serials_of}
use Rattle.shard_core.specs.Shards.{waits_for, takes_headers}
use Rattle.shard_core.specs.Puts.{put_by, entries_for}
use Rattle.claim_race.specs.Race.{RaceState}
use Rattle.node_law.specs.AsLaw.{Part, part_of, waits_at, is_open_in}
use Rattle.shard_core.specs.ShardSteps.{sub_called}
use Rattle.node_law.specs.Sound.{SoundNode}
use Rattle.node_law.specs.State.{ShardWithJobs, Node}
use Rattle.node_law.specs.declared.events.ConnEvent.{ConnEvent}
use Rattle.node_law.specs.declared.events.ConnEvent.TheVariants.{Subscribe, Unsubscribe, Reply, Shut, SetHeaders, Detach, Take}
use Rattle.node_law.specs.Events.{OwnEvent, OfConn, AtShard, Publish, Collect, Drain, Dial, Accept, CutSession, TakeFrames, NodeEvent, Own, Receive, OnInfo, OnConnect}
use Rattle.node_law.specs.Steps.{NodeStep, conn_line, shard_line}
use Rattle.world_law.specs.State.{Publication, LifeId, Life, Placement, Running, World}

-- ---- publications: each publish that is accepted (profile)

abbrev pub publication : ServerIdentity → ℕ → Node → hub.Publication → Publication
publication server now a p = record {
  step = now;
  id = next_id server a.hub;
  message = p.publication.message;
  publisher = p.conn;
  echo = p.publication.echo;
}

abbrev pub own_publications : ServerIdentity → ℕ → Node → OwnEvent → List Publication
own_publications server now a (OfConn conn event) = []
own_publications server now a (AtShard shard work) = []
own_publications server now a (Publish p) = publication server now a p ∷ []
own_publications server now a (Collect shard) = []
own_publications server now a Drain = []
own_publications server now a (Dial q) = []
own_publications server now a Accept = []
own_publications server now a (CutSession session) = []
own_publications server now a (TakeFrames q count) = []

abbrev pub publications_of : ServerIdentity → ℕ → Node → NodeEvent → List Publication
publications_of server now a (Own event) = own_publications server now a event
publications_of server now a (Receive frame) = []
publications_of server now a (OnInfo session info) = []
publications_of server now a (OnConnect session connect) = []

-- ---- lives: a subscription opens where its sid was not open on its connection (profile)

abbrev pub new_life : ServerIdentity → ℕ → ℕ → Key → List ℕ → ShardWithJobs → Option Subscription
    → List Life
new_life server now conn key sid line (Some same) = []
new_life server now conn key sid line None =
    record {
      id = record {
        node = server.me;
        inc = server.inc;
        sub = id_of line.shard.shard (line.shard.opened + 1);
      };
      conn = conn;
      key = key;
      sid = sid;
      opened = now;
      closed = None;
    } ∷ []

abbrev pub conn_lives : ServerIdentity → ℕ → ℕ → ConnEvent → Option ShardWithJobs → List Life
conn_lives server now conn event None = []
conn_lives server now conn (Subscribe key sid) (Some line) =
    new_life server now conn key sid line (sub_called conn sid line.shard.subs)
conn_lives server now conn (Unsubscribe sid max) (Some line) = []
conn_lives server now conn (Reply frame) (Some line) = []
conn_lives server now conn (Shut text) (Some line) = []
conn_lives server now conn Detach (Some line) = []
conn_lives server now conn (SetHeaders on) (Some line) = []
conn_lives server now conn (Take count) (Some line) = []

abbrev pub own_lives : ServerIdentity → ℕ → Node → OwnEvent → List Life
own_lives server now a (OfConn conn event) =
    conn_lives server now conn event (conn_line server a conn)
own_lives server now a (AtShard shard work) = []
own_lives server now a (Publish p) = []
own_lives server now a (Collect shard) = []
own_lives server now a Drain = []
own_lives server now a (Dial q) = []
own_lives server now a Accept = []
own_lives server now a (CutSession session) = []
own_lives server now a (TakeFrames q count) = []

abbrev pub lives_of : ServerIdentity → ℕ → Node → NodeEvent → List Life
lives_of server now a (Own event) = own_lives server now a event
lives_of server now a (Receive frame) = []
lives_of server now a (OnInfo session info) = []
lives_of server now a (OnConnect session connect) = []

-- ---- and it closes with the step after which it is open no more

-- at this server, where it is up in the life's incarnation
abbrev pub is_open_at : ℕ → SubId → Option (Option Running) → Bool
is_open_at inc sub None = false
is_open_at inc sub (Some None) = false
is_open_at inc sub (Some (Some running)) =
    nat_eq running.inc inc && is_open_in sub.serial (shard_line running.node sub.shard)

abbrev pub is_open : List (Option Running) → LifeId → Bool
is_open nodes id = is_open_at id.inc id.sub (slice_get nodes id.node)

-- each life that has not closed is found open at its server
abbrev pub LivesAreFound : World → Type 0
LivesAreFound w = Each (λ life. life.closed ≡ None → is_open w.nodes life.id ≡ true) w.lives

-- a life, where these are the servers after the step
abbrev pub looked_at : ℕ → List (Option Running) → Life → Life
looked_at now nodes life =
    if is_none life.closed && not (is_open nodes life.id) then record life { closed = Some now }
    else life

-- ---- placements: the new messages in the outboxes. A take removes what stood in front, and a
-- connection that goes takes its outbox along: there is nothing new in either. Else what waited
-- stays, and what is new stands behind it.

-- at one shard
abbrev pub new_in : ShardWithJobs → ShardWithJobs → ℕ → List Written
new_in line new conn =
    drop (length (waits_for conn line.shard.clients)) (waits_for conn new.shard.clients)

abbrev pub new_entries : List ShardWithJobs → List ShardWithJobs → ℕ → List Written
new_entries [] after conn = []
new_entries (line ∷ lines) [] conn = []
new_entries (line ∷ lines) (new ∷ after) conn = new_in line new conn ++ new_entries lines after conn

-- the placement of an entry, with whether its connection takes headers; an answer or a last line is
-- none
abbrev pub placement_of : ServerIdentity → ℕ → ℕ → Bool → List ℕ → Tag → List Placement
placement_of server now conn headers bytes tag.Reply = []
placement_of server now conn headers bytes (tag.Msg id sub mode) =
    record {
      step = now;
      life = record { node = server.me; inc = server.inc; sub = sub };
      conn = conn;
      id = id;
      mode = mode;
      bytes = bytes;
      headers = headers;
    } ∷ []

abbrev pub placements_of : ServerIdentity → ℕ → ℕ → Bool → List Written → List Placement
placements_of server now conn headers [] = []
placements_of server now conn headers (entry ∷ entries) =
    placement_of server now conn headers entry.bytes entry.tag
    ++ placements_of server now conn headers entries

-- of all shards; the option is that from before the step
abbrev pub new_placements : ServerIdentity → ℕ → List ShardWithJobs → List ShardWithJobs → ℕ
    → List Placement
new_placements server now [] after conn = []
new_placements server now (line ∷ lines) [] conn = []
new_placements server now (line ∷ lines) (new ∷ after) conn =
    placements_of server now conn (takes_headers conn line.shard.clients) (new_in line new conn)
    ++ new_placements server now lines after conn

abbrev pub is_on : ℕ → Placement → Bool
is_on conn p = nat_eq p.conn conn

-- all open subscriptions, shard by shard, in order of opening
abbrev pub open_subs : List ShardWithJobs → List SubId
open_subs [] = []
open_subs (line ∷ lines) =
    map (id_of line.shard.shard) (serials_of line.shard.subs) ++ open_subs lines

-- these are the placements, where the shards' lines were the first and are the second: of each
-- connection the new messages of its outbox, in their order; and all of them in the order of their
-- subscriptions
pub record AreGained (server : ServerIdentity) (now : ℕ) (old new : List ShardWithJobs)
    (gained : List Placement) : Type 0 where
  pub outboxes : (conn : ℕ) → filter (is_on conn) gained ≡ new_placements server now old new conn
  pub order : SubList (map (λ p. p.life.sub) gained) (open_subs old)

-- so there is one such list, where the server is sound
abbrev pub PlacementsAreOne : Type 0
PlacementsAreOne =
    (server : ServerIdentity) (now : ℕ) (a : Node) (after : List ShardWithJobs)
    (gained other : List Placement)
    → SoundNode server a
    → AreGained server now a.lines after gained
    → AreGained server now a.lines after other
    → gained ≡ other

-- ---- what stands new behind what waited, messages and lines: what the event puts for a connection
-- of the shard at this place, in order

abbrev pub entries_at : Option Part → ℕ → ℕ → List Written
entries_at None place conn = []
entries_at (Some part) place conn =
    if nat_eq part.place place then entries_for conn (put_by part.line.shard part.event) else []

abbrev pub EntriesWerePut : Type 0
EntriesWerePut =
    (server : ServerIdentity) (a : Node) (e : NodeEvent) (won : Bool) (race : RaceState) (b : Node)
    (place conn : ℕ)
    → NodeStep server a e won race b
    → drop (length (waits_at a place conn)) (waits_at b place conn)
    ≡ entries_at (part_of server a e won) place conn
