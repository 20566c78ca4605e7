-- Messages and jobs are of publications that were made.
use Rattle.std.proofs.Common.{◌≡◌, ℕ, suc, ◌+◌, Bool, true, false, cond, ◌&&◌, List, [], ◌∷◌, ◌++◌, map, Some, None, refl, sym, ap, ◌∙◌, subst, inl, inr}
use Rattle.std.specs.Prelude.{slice_get, unwrap_or}
use Rattle.list_laws.specs.Lists.{In, Each}
use Rattle.list_laws.proofs.Lists.{in_left, in_right, in_read}
use Rattle.list_laws.proofs.Changes.{map_append, append_assoc}
use Rattle.subj.specs.Messages.{Content}
use Rattle.subj.specs.Servers.{ServerIdentity, IsListed, own_name, name_of, place}
use Rattle.subj.specs.declared.identities.PubId.{PubId}
use Rattle.subj.specs.declared.jobs.Job.{Job}
use Rattle.interest.specs.declared.changes.Change.{Change}
use Rattle.interest.specs.declared.changes.Change.TheVariants.{Up, Gone, Clear}
use Rattle.route_values.specs.Frames.{Frame}
use Rattle.route_values.specs.declared.bodies.Body.{Body}
use Rattle.route_values.specs.declared.bodies.Body.TheVariants.{Plus, Minus, Snapshot, Msg}
use Rattle.route_values.specs.declared.frames.RouteFrame.{RouteFrame}
use Rattle.route_values.specs.declared.frames.RouteFrame.TheVariants as route
use Rattle.hub_core.specs.Choice.{is_eligible, names_for}
use Rattle.hub_core.specs.Publishing as publishing
use Rattle.hub_core.specs.Publishing.{choice_of, names_of, is_owed, frames_from, next_id}
use Rattle.hub_core.specs.Receiving.{receive_refusal}
use Rattle.hub_core.specs.State.{State, Peer}
use Rattle.hub_core.specs.Telling.{is_told, body_of, frames_of_change, frames_behind, count_of_changes, changes_of, clearing}
use Rattle.hub_core.proofs.Choices.Names.{for_distinct, names_distinct}
use Rattle.hub_core.proofs.Choices.Places.{named, not_own}
use Rattle.hub_core.proofs.Steps.Receives.{from_peer}
use Rattle.hub_core.proofs.Steps.Rooms.{map_none}
use Rattle.node_law.specs.declared.faults.NodeFault.TheVariants.{Hub}
use Rattle.node_law.specs.AsLaw.{jobs_by, body_jobs}
use Rattle.node_law.specs.Events as of_node
use Rattle.node_law.specs.Events.{NodeEvent}
use Rattle.node_law.specs.State.{Node, finished_turns}
use Rattle.node_law.specs.Steps.{node_frames, node_refusal, deltas_at, shard_line}
use Rattle.world_law.specs.Changes.{publication, publications_of}
use Rattle.world_law.specs.RestsOn.{Message, message_in, messages_in, IsMadeOf, IsMessageOf, IsJobOf}
use Rattle.world_law.specs.State.{Cluster, Publication, World, server_at}
use Rattle.world_law.proofs.Seen.Worlds.{Given}

-- a job that a server has: of which publication, and with whose echo, where it is one of its own
pub record IsOwnOf (c : Cluster) (publications : List Publication) (n : ℕ) (job : Job) : Type 0 where
  pub made : IsJobOf publications job
  pub own : slice_get c.names n ≡ Some job.id.origin
      → (job.publisher ≡ Some made.source.publisher) × (job.echo ≡ made.source.echo)

-- ---- more publications

abbrev more_made : (ps more : List Publication) (id : PubId) (content : Content) (queues : List (List ℕ))
    → IsMadeOf ps id content queues
    → IsMadeOf (ps ++ more) id content queues
more_made ps more id content queues m = record {
  source = m.source;
  source_in = in_left m.source ps more m.source_in;
  id_is = m.id_is;
  content_is = m.content_is;
  apart = m.apart;
}

pub more_message : (ps more : List Publication) (f : Message) → IsMessageOf ps f → IsMessageOf (ps ++ more) f
more_message ps more f m = more_made ps more f.id f.content f.queues m

pub more_own : (c : Cluster) (ps more : List Publication) (n : ℕ) (job : Job)
    → IsOwnOf c ps n job
    → IsOwnOf c (ps ++ more) n job
more_own c ps more n job o = record { made = more_made ps more job.id job.message job.queues o.made; own = o.own }

-- ---- the messages of frames

pub messages_more : (xs ys : List RouteFrame) → messages_in (xs ++ ys) ≡ messages_in xs ++ messages_in ys
messages_more [] ys = refl
messages_more (route.Info info ∷ xs) ys = messages_more xs ys
messages_more (route.Connect connect ∷ xs) ys = messages_more xs ys
messages_more (route.Numbered frame ∷ xs) ys =
    ap (λ t. message_in frame frame.body ++ t) (messages_more xs ys)
    ∙ sym (append_assoc (message_in frame frame.body) (messages_in xs) (messages_in ys))

pub in_messages : (sent : List RouteFrame) (frame : Frame) (m : Message)
    → In (route.Numbered frame) sent
    → In m (message_in frame frame.body)
    → In m (messages_in sent)
in_messages [] frame m i j = absurd i
in_messages (x ∷ sent) frame m (inl e) j =
    subst (λ y. In m (messages_in (y ∷ sent))) e (in_left m (message_in frame frame.body) (messages_in sent) j)
in_messages (route.Info info ∷ sent) frame m (inr i) j = in_messages sent frame m i j
in_messages (route.Connect connect ∷ sent) frame m (inr i) j = in_messages sent frame m i j
in_messages (route.Numbered other ∷ sent) frame m (inr i) j =
    in_right m (message_in other other.body) (messages_in sent) (in_messages sent frame m i j)

-- those of a publish
published_made : (server : ServerIdentity) (hub : State) (p : publishing.Publication) (P : Message → Type 0)
    → ((q to_inc : ℕ)
    → P (record {
      id = next_id server hub;
      to = name_of server q;
      to_inc = to_inc;
      content = p.publication.message;
      queues = names_for (choice_of server hub p) (name_of server q) (names_of server hub p);
    }))
    → (q : ℕ) (peers : List Peer)
    → Each P (messages_in (map route.Numbered
    (frames_from server (hub.published + 1) p.publication.message (choice_of server hub p) (names_of server hub p) q
    peers)))
published_made server hub p P made q [] m i = absurd i
published_made server hub p P made q (peer ∷ peers) m i =
    go (published_made server hub p P made (suc q) peers)
    (is_eligible server q peer
    && is_owed p.publication.message.subject
    (names_for (choice_of server hub p) (name_of server q) (names_of server hub p)) peer)
    m i
  where
    go : Each P (messages_in (map route.Numbered
        (frames_from server (hub.published + 1) p.publication.message (choice_of server hub p) (names_of server hub p)
        (suc q) peers)))
        → (b : Bool)
        → Each P (messages_in (map route.Numbered
        (cond b
        (record {
          from = own_name server;
          inc = server.inc;
          to = name_of server q;
          to_inc = peer.seen;
          number = hub.published + 1;
          body =
              Msg p.publication.message (names_for (choice_of server hub p) (name_of server q) (names_of server hub p));
        } ∷ [])
        []
        ++ frames_from server (hub.published + 1) p.publication.message (choice_of server hub p) (names_of server hub p)
        (suc q) peers)))
    go rest true m (inl e) = subst P (sym e) (made q peer.seen)
    go rest true m (inr i) = rest m i
    go rest false m i = rest m i

-- changes of interest carry none

no_message_of : (frame : Frame) (change : Change) → message_in frame (body_of change) ≡ []
no_message_of frame (Up weighted) = refl
no_message_of frame (Gone key) = refl
no_message_of frame Clear = refl

change_messages : (server : ServerIdentity) (count number : ℕ) (change : Change) (q : ℕ) (peers : List Peer)
    → messages_in (map route.Numbered (frames_of_change server count number change q peers)) ≡ []
change_messages server count number change q [] = refl
change_messages server count number change q (peer ∷ peers) =
    go (change_messages server count number change (suc q) peers) (is_told count peer)
  where
    frame : Frame
    frame = record {
      from = own_name server;
      inc = server.inc;
      to = name_of server q;
      to_inc = peer.seen;
      number = number;
      body = body_of change;
    }

    go : messages_in (map route.Numbered (frames_of_change server count number change (suc q) peers)) ≡ []
        → (b : Bool)
        → messages_in (map route.Numbered
        (cond b
        (record {
          from = own_name server;
          inc = server.inc;
          to = name_of server q;
          to_inc = peer.seen;
          number = number;
          body = body_of change;
        } ∷ [])
        [] ++ frames_of_change server count number change (suc q) peers)) ≡ []
    go rest true =
        ap (λ t. t ++ messages_in (map route.Numbered (frames_of_change server count number change (suc q) peers)))
        (no_message_of frame change)
        ∙ rest
    go rest false = rest

behind_messages : (server : ServerIdentity) (count number : ℕ) (changes : List Change) (peers : List Peer)
    → messages_in (map route.Numbered (frames_behind server count number changes peers)) ≡ []
behind_messages server count number [] peers = refl
behind_messages server count number (change ∷ changes) peers =
    ap messages_in (map_append route.Numbered (frames_of_change server count (number + 1) change 0 peers)
    (frames_behind server count (number + 1) changes peers))
    ∙ messages_more (map route.Numbered (frames_of_change server count (number + 1) change 0 peers))
    (map route.Numbered (frames_behind server count (number + 1) changes peers))
    ∙ (λ i.
    change_messages server count (number + 1) change 0 peers i
    ++ behind_messages server count (number + 1) changes peers i)

pub node_messages : (server : ServerIdentity) (now : ℕ) (a : Node) (e : NodeEvent) (ps : List Publication)
    → Each (IsMessageOf (ps ++ publications_of server now a e)) (messages_in (node_frames server a e))
node_messages server now a (of_node.Own (of_node.OfConn conn event)) ps m i = absurd i
node_messages server now a (of_node.Own (of_node.AtShard shard work)) ps m i = absurd i
node_messages server now a (of_node.Own (of_node.Publish p)) ps m i =
    published_made server a.hub p (IsMessageOf (ps ++ publication server now a p ∷ []))
    (λ q to_inc. record {
      source = publication server now a p;
      source_in = in_right (publication server now a p) ps (publication server now a p ∷ []) (inl refl);
      id_is = refl;
      content_is = refl;
      apart =
          for_distinct (choice_of server a.hub p) (name_of server q) (names_of server a.hub p)
          (names_distinct server a.hub p.publication.message.subject);
    })
    0 a.hub.peers m i
node_messages server now a (of_node.Own (of_node.Collect shard)) ps m i =
    let deltas = deltas_at (shard_line a shard) in
    absurd (subst (In m)
    (behind_messages server (count_of_changes a.hub deltas) a.hub.changed (changes_of a.hub deltas) a.hub.peers) i)
node_messages server now a (of_node.Own of_node.Drain) ps m i =
    absurd (subst (In m) (behind_messages server 1 a.hub.changed clearing a.hub.peers) i)
node_messages server now a (of_node.Own (of_node.Dial q)) ps m i = absurd i
node_messages server now a (of_node.Own of_node.Accept) ps m i = absurd i
node_messages server now a (of_node.Own (of_node.CutSession session)) ps m i = absurd i
node_messages server now a (of_node.Own (of_node.TakeFrames q count)) ps m i = absurd i
node_messages server now a (of_node.Receive frame) ps m i = absurd i
node_messages server now a (of_node.OnInfo session info) ps m i = absurd i
node_messages server now a (of_node.OnConnect session connect) ps m i = absurd i

-- ---- the jobs that a step makes

-- a frame that is taken is of another server
other_origin : (c : Cluster) (n inc : ℕ)
    → IsListed (server_at c n inc)
    → (a : Node) (frame : Frame)
    → receive_refusal (server_at c n inc) a.hub (finished_turns a.lines) frame ≡ None
    → slice_get c.names n ≡ Some frame.from
    → ⊥
other_origin c n inc listed a frame cause at =
    not_own (server_at c n inc) (place (server_at c n inc) frame.from)
    (from_peer (server_at c n inc) listed a.hub (finished_turns a.lines) frame cause).is
    (sym (ap (place (server_at c n inc)) (ap (λ o. unwrap_or o []) at))
    ∙ named (server_at c n inc) listed n listed.listed)

body_made : (c : Cluster) (w : World) (n inc now : ℕ)
    → IsListed (server_at c n inc)
    → (a : Node) (frame : Frame)
    → Each (IsMessageOf w.publications) (messages_in w.sent)
    → In (route.Numbered frame) w.sent
    → receive_refusal (server_at c n inc) a.hub (finished_turns a.lines) frame ≡ None
    → (body : Body)
    → frame.body ≡ body
    → Each (IsOwnOf c (w.publications ++ []) n) (body_jobs a frame body)
body_made c w n inc now listed a frame known i cause (Plus weighted) is job j = absurd j
body_made c w n inc now listed a frame known i cause (Minus key) is job j = absurd j
body_made c w n inc now listed a frame known i cause (Snapshot keys) is job j = absurd j
body_made c w n inc now listed a frame known i cause (Msg content queues) is job (inr j) = absurd j
body_made c w n inc now listed a frame known i cause (Msg content queues) is job (inl e) =
    subst (IsOwnOf c (w.publications ++ []) n) (sym e) (record {
      made =
          more_made w.publications [] _ content queues
          (known m (in_messages w.sent frame m i (subst (λ b. In m (message_in frame b)) (sym is) (inl refl))));
      own = λ at. absurd (other_origin c n inc listed a frame cause at);
    })
  where
    m : Message
    m = record {
      id = record { origin = frame.from; inc = frame.inc; number = frame.number };
      to = frame.to;
      to_inc = frame.to_inc;
      content = content;
      queues = queues;
    }

pub node_jobs : (c : Cluster) (w : World) (n inc now : ℕ)
    → IsListed (server_at c n inc)
    → (a : Node) (e : NodeEvent)
    → Each (IsMessageOf w.publications) (messages_in w.sent)
    → Given w e
    → node_refusal (server_at c n inc) a e ≡ None
    → Each (IsOwnOf c (w.publications ++ publications_of (server_at c n inc) now a e) n)
    (jobs_by (server_at c n inc) a e)
node_jobs c w n inc now listed a (of_node.Own (of_node.OfConn conn event)) known given cause job i = absurd i
node_jobs c w n inc now listed a (of_node.Own (of_node.AtShard shard work)) known given cause job i = absurd i
node_jobs c w n inc now listed a (of_node.Own (of_node.Publish p)) known given cause job (inr i) = absurd i
node_jobs c w n inc now listed a (of_node.Own (of_node.Publish p)) known given cause job (inl e) =
    let server = server_at c n inc in
    subst (IsOwnOf c (w.publications ++ publication server now a p ∷ []) n) (sym e) (record {
      made = record {
        source = publication server now a p;
        source_in = in_right (publication server now a p) w.publications (publication server now a p ∷ []) (inl refl);
        id_is = refl;
        content_is = refl;
        apart =
            for_distinct (choice_of server a.hub p) (own_name server) (names_of server a.hub p)
            (names_distinct server a.hub p.publication.message.subject);
      };
      own = λ at. (refl, refl);
    })
node_jobs c w n inc now listed a (of_node.Own (of_node.Collect shard)) known given cause job i = absurd i
node_jobs c w n inc now listed a (of_node.Own of_node.Drain) known given cause job i = absurd i
node_jobs c w n inc now listed a (of_node.Own (of_node.Dial q)) known given cause job i = absurd i
node_jobs c w n inc now listed a (of_node.Own of_node.Accept) known given cause job i = absurd i
node_jobs c w n inc now listed a (of_node.Own (of_node.CutSession session)) known given cause job i = absurd i
node_jobs c w n inc now listed a (of_node.Own (of_node.TakeFrames q count)) known given cause job i = absurd i
node_jobs c w n inc now listed a (of_node.Receive frame) known given cause job i =
    body_made c w n inc now listed a frame known (in_read w.sent given.0 (route.Numbered frame) given.1)
    (map_none Hub _ cause) frame.body refl job i
node_jobs c w n inc now listed a (of_node.OnInfo session info) known given cause job i = absurd i
node_jobs c w n inc now listed a (of_node.OnConnect session connect) known given cause job i = absurd i
