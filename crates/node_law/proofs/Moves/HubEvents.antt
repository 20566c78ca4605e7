-- The events of the hub and of sessions, as the cluster law's node sees them.
use Rattle.std.proofs.Common.{◌≡◌, ◌≢◌, ℕ, suc, ◌-◌, ◌+◌, ◌<◌, ◌≤◌, Bool, true, false, cond, nat_eq, nat_lt, not, ◌&&◌, ◌||◌, List, [], ◌∷◌, map, length, Option, Some, None, refl, sym, ap, ◌∙◌, subst, arith}
use Rattle.std.specs.Prelude.{slice_get, is_some, if◌then◌else◌}
use Rattle.std.proofs.lemmas.Option.{none-some}
use Rattle.list_laws.specs.Lists.{Each}
use Rattle.list_laws.proofs.Lists.{read_set, get_some}
use Rattle.list_laws.proofs.Tests.{eq_true, eq_false, lt_false, lt_true, no_cause, not_false, not_true, and_true, or_false}
use Rattle.list_laws.proofs.Changes.{get_set_here, get_set_there, map_map, map_set_same}
use Rattle.cluster_law.specs.Hub.{IsTold}
use Rattle.cluster_law.specs.Hub as law_hub
use Rattle.cluster_law.specs.History as history
use Rattle.cluster_law.specs.Messages as messages
use Rattle.cluster_law.specs.Node as law
use Rattle.cluster_law.specs.Values.{content_of}
use Rattle.cluster_law.specs.Cluster.{IsOwn}
use Rattle.subj.specs.Servers.{ServerIdentity, IsListed, own_name, place, is_peer}
use Rattle.subj.specs.declared.jobs.Job.{Job}
use Rattle.claim_race.specs.Race.{RaceState, IsIssued}
use Rattle.route_values.specs.Frames.{Frame}
use Rattle.route_values.specs.Records.{Info, Connect}
use Rattle.route_values.specs.declared.bodies.Body.{Body}
use Rattle.route_values.specs.declared.bodies.Body.TheVariants.{Plus, Minus, Snapshot, Msg}
use Rattle.route_values.specs.declared.frames.RouteFrame.TheVariants as route
use Rattle.hub_core.specs.State as hub
use Rattle.hub_core.specs.State.{Peer, seen_of}
use Rattle.hub_core.specs.Publishing.{Publication, publish_refusal, after_publish, own_job, frames_of}
use Rattle.hub_core.specs.Receiving.{receive_refusal, after_receive, routed_job}
use Rattle.hub_core.specs.Telling.{collect_refusal, after_collect, collect_frames, changes_of, drain_refusal, after_drain, drain_frames, clearing}
use Rattle.hub_core.specs.Peers.{up, snapshot_to}
use Rattle.hub_core.specs.AsLaw.{hub_of, id_of, frame_of, IsPublished}
use Rattle.hub_core.proofs.Choices.Places.{named}
use Rattle.hub_core.proofs.Steps.Rooms.{map_none}
use Rattle.hub_core.proofs.Neighbours.Known.{set_length}
use Rattle.hub_core.proofs.Steps.Publishes.{publishes_in_law}
use Rattle.hub_core.proofs.Steps.Receives.{receives_in_law, meets_in_law}
use Rattle.hub_core.proofs.Steps.Announces.{announces_in_law, drains_in_law}
use Rattle.route_session.specs.State as sessions
use Rattle.route_session.specs.State.{Session, kept_for}
use Rattle.route_session.specs.Steps.{duplicate_fault, info_offer, connect_offer, info_fault, info_refusal, connect_fault, connect_refusal}
use Rattle.route_session.specs.declared.faults.SessionFault.TheVariants.{WrongName, OldIncarnation, UnknownSession}
use Rattle.shard_core.specs.AsLaw.{job_of}
use Rattle.shard_core.specs.ShardEvents as of_shard
use Rattle.node_law.specs.declared.faults.NodeFault.TheVariants.{Hub}
use Rattle.node_law.specs.Race.{race_of}
use Rattle.node_law.specs.State.{ShardWithJobs, Node, finished_turns}
use Rattle.node_law.specs.Steps.{shard_line, line_after, set_line, line_with_job, deltas_at, collect_refusal_at, seen_name, BodyRace, lines_after_body}
use Rattle.node_law.specs.Sound.{LineAt, SoundNode}
use Rattle.node_law.specs.AsLaw.{law_at, line_of, node_of, sent_of, is_open_in, publication_of, body_jobs}
use Rattle.node_law.proofs.Moves.Lines.{Steps}
use Rattle.node_law.proofs.Moves.LineEvents.{found}
use Rattle.node_law.proofs.Moves.Hubs.{SameOpen, queued_open, hub_steps, news_steps, meets_steps, queued_seen, all_room, issued_sound, law_issues}

numbered_seen : (server : ServerIdentity) (frames : List Frame)
    → map (sent_of server) (map route.Numbered frames) ≡ map (frame_of server) frames
numbered_seen server frames = map_map route.Numbered (sent_of server) frames

-- ---- publish

pub publish_steps : (server : ServerIdentity) (now : ℕ) (a : Node) (p : Publication) (race : RaceState)
    → IsListed server
    → SoundNode server a
    → publish_refusal server a.hub p (finished_turns a.lines) ≡ None
    → IsIssued a.race (a.race.issued + 1) race
    → Steps server now a
    (record {
      hub = after_publish server a.hub p;
      sessions = a.sessions;
      race = race;
      lines = map (line_with_job (own_job server a.hub p)) a.lines;
    })
    (law.Publish (content_of p.publication.message)) (publication_of server now a p ∷ [])
    (map (sent_of server) (map route.Numbered (frames_of server a.hub p))) [] (own_job server a.hub p ∷ []) [] []
publish_steps server now a p race is sound cause issue =
    hub_steps server now a _ (law.Publish (content_of p.publication.message)) _ (publication_of server now a p ∷ [])
    (map (sent_of server) (map route.Numbered (frames_of server a.hub p))) [] (own_job server a.hub p ∷ [])
    (queued_open (own_job server a.hub p) a.lines)
    (issued_sound server a (after_publish server a.hub p) a.sessions race (a.race.issued + 1) (own_job server a.hub p)
    sound issue refl r.peers refl refl (all_room server a sound r.room))
    (record {
      names = (own_job server a.hub p).queues;
      frames = r.frames;
      hub = hub_of (after_publish server a.hub p);
      race = race_of race;
      publishes = r.publishes;
      issues = law_issues server a race (a.race.issued + 1) sound issue (all_room server a sound r.room);
      out_is = refl;
      after = λ i. record (node_of server a) {
        hub = hub_of (after_publish server a.hub p);
        race = race_of race;
        shards = queued_seen server (own_job server a.hub p) job a.lines job_is i;
      };
    })
    (λ i. record { id = sym r.id_is i; content = content_of p.publication.message; step = now } ∷ [])
    (sym r.frames_are ∙ sym (numbered_seen server (frames_of server a.hub p))) refl (λ i. sym job_is i ∷ []) refl refl
  where
    r : IsPublished (law_at server) server a.hub p (finished_turns a.lines) now
    r = publishes_in_law (law_at server) server a.hub p (finished_turns a.lines) now is sound.peers cause

    job : history.Job
    job =
        law.next_job server.me (node_of server a) (law_hub.next_id server.me server.inc (hub_of a.hub))
        (content_of p.publication.message) (own_job server a.hub p).queues

    turn : a.hub.issued + 1 ≡ suc a.race.issued
    turn = let z = sound.issued in omega arith

    job_is : job_of (id_of server) server.me server.inc (own_job server a.hub p)
        ≡ law.next_job server.me (node_of server a) (law_hub.next_id server.me server.inc (hub_of a.hub))
        (content_of p.publication.message) (own_job server a.hub p).queues
    job_is = λ i. record {
      node = server.me;
      inc = server.inc;
      turn = turn i;
      id = (publishes_in_law (law_at server) server a.hub p (finished_turns a.lines) now is sound.peers cause).id_is i;
      content = content_of p.publication.message;
      names = (own_job server a.hub p).queues;
    }

-- ---- receive

pub receive_steps : (server : ServerIdentity) (now : ℕ) (a : Node) (from : List ℕ) (inc : ℕ) (to : List ℕ)
    (to_inc number : ℕ) (body : Body) (sessions : sessions.State) (race : RaceState)
    → IsListed server
    → SoundNode server a
    → receive_refusal server a.hub (finished_turns a.lines)
    (record { from = from; inc = inc; to = to; to_inc = to_inc; number = number; body = body }) ≡ None
    → BodyRace a body race
    → Steps server now a
    (record {
      hub =
          after_receive server a.hub
          (record { from = from; inc = inc; to = to; to_inc = to_inc; number = number; body = body });
      sessions = sessions;
      race = race;
      lines =
          lines_after_body a (record { from = from; inc = inc; to = to; to_inc = to_inc; number = number; body = body })
          body;
    })
    (law.Receive
    (frame_of server (record { from = from; inc = inc; to = to; to_inc = to_inc; number = number; body = body })))
    [] [] []
    (body_jobs a (record { from = from; inc = inc; to = to; to_inc = to_inc; number = number; body = body }) body) [] []
receive_steps server now a from inc to to_inc number (Plus weighted) sessions race is sound cause same =
    let r = receives_in_law (law_at server) server a.hub (finished_turns a.lines)
    (record { from = from; inc = inc; to = to; to_inc = to_inc; number = number; body = Plus weighted }) is sound.peers
    cause in
    news_steps server now a _ sessions race _ sound same r.0 refl r.1 refl
receive_steps server now a from inc to to_inc number (Minus key) sessions race is sound cause same =
    let r = receives_in_law (law_at server) server a.hub (finished_turns a.lines)
    (record { from = from; inc = inc; to = to; to_inc = to_inc; number = number; body = Minus key }) is sound.peers
    cause in
    news_steps server now a _ sessions race _ sound same r.0 refl r.1 refl
receive_steps server now a from inc to to_inc number (Snapshot keys) sessions race is sound cause same =
    let r = receives_in_law (law_at server) server a.hub (finished_turns a.lines)
    (record { from = from; inc = inc; to = to; to_inc = to_inc; number = number; body = Snapshot keys }) is sound.peers
    cause in
    news_steps server now a _ sessions race _ sound same r.0 refl r.1 refl
receive_steps server now a from inc to to_inc number (Msg content queues) sessions race is sound cause issue =
    let r = receives_in_law (law_at server) server a.hub (finished_turns a.lines)
    (record { from = from; inc = inc; to = to; to_inc = to_inc; number = number; body = Msg content queues }) is
    sound.peers cause in
    hub_steps server now a _ _ _ [] [] [] (job ∷ []) (queued_open job a.lines)
    (issued_sound server a (after_receive server a.hub frame) sessions race (a.race.issued + 1) job sound issue refl r.1
    refl refl (all_room server a sound r.0.1))
    (record {
      hub = hub_of (after_receive server a.hub frame);
      race = race_of race;
      receives = r.0.0;
      issues = law_issues server a race (a.race.issued + 1) sound issue (all_room server a sound r.0.1);
      out_is = refl;
      after = λ i. record (node_of server a) {
        hub = hub_of (after_receive server a.hub frame);
        race = race_of race;
        shards = queued_seen server job law_job a.lines job_is i;
      };
    })
    refl refl refl (λ i. sym job_is i ∷ []) refl refl
  where
    frame : Frame
    frame = record { from = from; inc = inc; to = to; to_inc = to_inc; number = number; body = Msg content queues }

    job : Job
    job =
        routed_job a.hub
        (record { from = from; inc = inc; to = to; to_inc = to_inc; number = number; body = Msg content queues })
        content queues

    law_job : history.Job
    law_job =
        law.next_job server.me (node_of server a) (record { origin = place server from; inc = inc; number = number })
        (content_of content) queues

    turn : a.hub.issued + 1 ≡ suc a.race.issued
    turn = let z = sound.issued in omega arith

    job_is : job_of (id_of server) server.me server.inc
        (routed_job a.hub
        (record { from = from; inc = inc; to = to; to_inc = to_inc; number = number; body = Msg content queues })
        content queues)
        ≡ law.next_job server.me (node_of server a) (record { origin = place server from; inc = inc; number = number })
        (content_of content) queues
    job_is = λ i. record {
      node = server.me;
      inc = server.inc;
      turn = turn i;
      id = record { origin = place server from; inc = inc; number = number };
      content = content_of content;
      names = queues;
    }

-- ---- collect

collect_open : (lines : List ShardWithJobs) (p : ℕ) (line : ShardWithJobs)
    → slice_get lines p ≡ Some line
    → SameOpen lines (set_line lines p (line_after of_shard.Collect) (Some line))
collect_open lines p line at place serial = go (nat_eq place p) refl
  where
    after : ShardWithJobs
    after = line_after of_shard.Collect line

    go : (b : Bool)
        → nat_eq place p ≡ b
        → is_open_in serial (slice_get (set_line lines p (line_after of_shard.Collect) (Some line)) place)
        ≡ is_open_in serial (slice_get lines place)
    go true e =
        let here = eq_true place p e in
        ap (λ t. is_open_in serial (slice_get (set_line lines p (line_after of_shard.Collect) (Some line)) t)) here
        ∙ ap (is_open_in serial) (get_set_here lines p line (line_after of_shard.Collect line) at)
        ∙ sym (ap (is_open_in serial) (ap (slice_get lines) here ∙ at))
    go false e =
        ap (is_open_in serial) (get_set_there lines p place (line_after of_shard.Collect line) (eq_false place p e))

pub collect_steps : (server : ServerIdentity) (now shard : ℕ) (a : Node) (o : Option ShardWithJobs)
    (sessions : sessions.State)
    → IsListed server
    → SoundNode server a
    → shard_line a shard ≡ o
    → collect_refusal_at a.hub o ≡ None
    → (x : law.NodeEvent) × IsOwn x
    × Steps server now a
    (record {
      hub = after_collect server a.hub (deltas_at o);
      sessions = sessions;
      race = a.race;
      lines = set_line a.lines (shard - 1) (line_after of_shard.Collect) o;
    })
    x [] (map (sent_of server) (map route.Numbered (collect_frames server a.hub (deltas_at o))))
    (changes_of a.hub (deltas_at o)) [] [] []
collect_steps server now shard a None sessions is sound at cause = absurd (none-some _ (sym cause))
collect_steps server now shard a (Some line) sessions is sound at cause =
    let there = found (nat_eq shard 0) (slice_get a.lines (shard - 1)) line at in
    let r = announces_in_law (law_at server) server a.hub line.shard.deltas is sound.peers sound.counts
    (map_none Hub (collect_refusal a.hub line.shard.deltas) cause) in
    let old = sound.lines (shard - 1) line there in
    let s = old.sound in (
      law.Announce _,
      tt,
      hub_steps server now a _ _ _ [] _ (changes_of a.hub line.shard.deltas) []
          (collect_open a.lines (shard - 1) line there)
          (record {
            issued = sound.issued;
            size = set_length a.lines (shard - 1) (line_after of_shard.Collect line) ∙ sound.size;
            lines =
                read_set (λ t l. LineAt server a.race.issued t l) a.lines (shard - 1) (line_after of_shard.Collect line)
                (λ t l apart e. sound.lines t l e) (record {
                  sound = record { hand = s.hand; turns = s.turns; room = s.room; apart = s.apart; below = s.below };
                  number = old.number;
                  shards = old.shards;
                });
            peers = r.peers;
            counts = r.within;
          })
          (record {
            hub = hub_of (after_collect server a.hub line.shard.deltas);
            frames = map (frame_of server) (collect_frames server a.hub line.shard.deltas);
            announces = r.announces;
            out_is = refl;
            after = λ i. record (node_of server a) {
              hub = hub_of (after_collect server a.hub line.shard.deltas);
              shards =
                  map_set_same (line_of server) a.lines (shard - 1) line (line_after of_shard.Collect line) there refl
                  i;
            };
          })
          refl (sym (numbered_seen server (collect_frames server a.hub line.shard.deltas))) refl refl refl refl,
    )

-- ---- drain

pub drain_steps : (server : ServerIdentity) (now : ℕ) (a : Node) (sessions : sessions.State)
    → IsListed server
    → SoundNode server a
    → drain_refusal a.hub ≡ None
    → (x : law.NodeEvent) × IsOwn x
    × Steps server now a
    (record { hub = after_drain server a.hub; sessions = sessions; race = a.race; lines = a.lines }) x []
    (map (sent_of server) (map route.Numbered (drain_frames server a.hub))) clearing [] [] []
drain_steps server now a sessions is sound cause =
    let r = drains_in_law (law_at server) server a.hub is sound.peers cause in (
      law.Announce _,
      tt,
      hub_steps server now a _ _ _ [] _ clearing [] (λ place serial. refl)
          (record {
            issued = sound.issued;
            size = sound.size;
            lines = sound.lines;
            peers = r.peers;
            counts = sound.counts;
          })
          (record {
            hub = hub_of (after_drain server a.hub);
            frames = map (frame_of server) (drain_frames server a.hub);
            announces = r.announces;
            out_is = refl;
            after = λ i. record (node_of server a) { hub = hub_of (after_drain server a.hub) };
          })
          refl (sym (numbered_seen server (drain_frames server a.hub))) refl refl refl refl,
    )

-- ---- sessions

-- another server of the cluster, at no incarnation below the greatest seen
pub record Greets (server : ServerIdentity) (name : List ℕ) (inc least : ℕ) : Type 0 where
  pub peer : is_peer server (place server name) ≡ true
  pub other : place server name ≢ server.me
  pub listed : place server name < length server.names
  pub fresh : least ≤ inc

peer_greets : (server : ServerIdentity) (name : List ℕ) (inc least : ℕ)
    → is_peer server (place server name) ≡ true
    → nat_lt inc least ≡ false
    → Greets server name inc least
peer_greets server name inc least e f =
    let g =
    and_true (not (nat_eq (place server name) server.me)) (nat_lt (place server name) (length server.names)) e in
    record {
      peer = e;
      other = eq_false (place server name) server.me (not_true (nat_eq (place server name) server.me) g.0);
      listed = lt_true (place server name) (length server.names) g.1;
      fresh = lt_false inc least f;
    }

pub info_greets : (server : ServerIdentity) (s : sessions.State) (o : Option Session) (info : Info) (least : ℕ)
    → info_refusal server s o info least ≡ None
    → Greets server info.server_name info.inc least
info_greets server s None info least e = absurd (none-some UnknownSession (sym e))
info_greets server s (Some x) info least e =
    go x.dialed (no_cause (is_some x.kept) UnknownSession (info_fault server s x info least x.dialed) e).1
  where
    go : (d : Option ℕ) → info_fault server s x info least d ≡ None → Greets server info.server_name info.inc least
    go None f = absurd (none-some UnknownSession (sym f))
    go (Some q) f =
        let g = no_cause (not (nat_eq (place server info.server_name) q && is_peer server q)) WrongName
        (if nat_lt info.inc least then Some OldIncarnation
        else duplicate_fault (info_offer server x info) (kept_for q s.standing))
        f in
        let b = and_true (nat_eq (place server info.server_name) q) (is_peer server q)
        (not_false (nat_eq (place server info.server_name) q && is_peer server q) g.0) in
        let here = eq_true (place server info.server_name) q b.0 in
        peer_greets server info.server_name info.inc least (ap (is_peer server) here ∙ b.1)
        (no_cause (nat_lt info.inc least) OldIncarnation
        (duplicate_fault (info_offer server x info) (kept_for q s.standing)) g.1).0

pub connect_greets : (server : ServerIdentity) (s : sessions.State) (o : Option Session) (connect : Connect) (least : ℕ)
    → connect_refusal server s o connect least ≡ None
    → Greets server connect.server_name connect.inc least
connect_greets server s None connect least e = absurd (none-some UnknownSession (sym e))
connect_greets server s (Some x) connect least e =
    go x.dialed (no_cause (is_some x.kept) UnknownSession (connect_fault server s connect least x.dialed) e).1
  where
    go : (d : Option ℕ)
        → connect_fault server s connect least d ≡ None
        → Greets server connect.server_name connect.inc least
    go (Some q) f = absurd (none-some UnknownSession (sym f))
    go None f =
        let g = no_cause
        (not (nat_eq (place server connect.to) server.me && is_peer server (place server connect.server_name)))
        WrongName
        (if nat_lt connect.inc least || not (nat_eq connect.to_inc server.inc) then Some OldIncarnation
        else duplicate_fault (connect_offer server connect) (kept_for (place server connect.server_name) s.standing))
        f in
        let b = and_true (nat_eq (place server connect.to) server.me)
        (is_peer server (place server connect.server_name))
        (not_false (nat_eq (place server connect.to) server.me && is_peer server (place server connect.server_name))
        g.0) in
        peer_greets server connect.server_name connect.inc least b.1
        (or_false (nat_lt connect.inc least) (not (nat_eq connect.to_inc server.inc))
        (no_cause (nat_lt connect.inc least || not (nat_eq connect.to_inc server.inc)) OldIncarnation
        (duplicate_fault (connect_offer server connect) (kept_for (place server connect.server_name) s.standing))
        g.1).0).0

-- a peer of this server, at no incarnation below the one seen
seen_at : (server : ServerIdentity) (a : Node) (name : List ℕ) (peer : Peer)
    → is_peer server (place server name) ≡ true
    → slice_get a.hub.peers (place server name) ≡ Some peer
    → seen_name server a name ≡ peer.seen
seen_at server a name peer e at =
    ap (λ b. seen_of (cond b (slice_get a.hub.peers (place server name)) None)) e ∙ ap seen_of at

pub up_steps : (server : ServerIdentity) (now : ℕ) (a : Node) (name : List ℕ) (inc : ℕ) (sessions : sessions.State)
    (race : RaceState) (frames : List messages.Frame)
    → IsListed server
    → SoundNode server a
    → race ≡ a.race
    → Greets server name inc (seen_name server a name)
    → Each (λ f. IsTold server.me server.inc (hub_of a.hub) [] (hub_of a.hub) f) frames
    → Steps server now a
    (record { hub = up server a.hub (place server name) inc; sessions = sessions; race = race; lines = a.lines })
    (law.Receive (messages.Greeting (place server name) inc)) [] frames [] [] [] []
up_steps server now a name inc sessions race frames is sound same greets told =
    let peer = get_some a.hub.peers (place server name) (let x = sound.peers in let y = greets.listed in omega arith) in
    let m = meets_in_law server a.hub (place server name) inc peer.0 is sound.peers greets.other peer.1
    (subst (λ k. k ≤ inc) (seen_at server a name peer.0 greets.peer peer.1) greets.fresh) in
    meets_steps server now a _ sessions race (place server name) inc frames sound same m.meets told refl m.peers refl

pub greeted : (server : ServerIdentity)
    → IsListed server
    → (old new : law_hub.Hub)
    → IsTold server.me server.inc old [] new (messages.Greeting (place server (own_name server)) server.inc)
greeted server is old new = (named server is server.me is.listed, refl)

pub snapshot_told : (server : ServerIdentity)
    → IsListed server
    → (hub : hub.State) (q inc : ℕ)
    → IsTold server.me server.inc (hub_of hub) [] (hub_of hub) (frame_of server (snapshot_to server hub q inc))
snapshot_told server is hub q inc = record {
  origin = named server is server.me is.listed;
  inc = refl;
  says = (refl, refl);
}
