-- Each event of a server is a step of the cluster law's node, and leaves the server sound.
use Rattle.std.proofs.Common.{◌≡◌, ℕ, Bool, List, [], ◌∷◌, map, Option, Some, None, refl, sym, subst}
use Rattle.list_laws.proofs.Lists.{each_cons, each_one}
use Rattle.cluster_law.specs.Node as law
use Rattle.cluster_law.specs.Values.{content_of}
use Rattle.subj.specs.Servers.{ServerIdentity, IsListed, place}
use Rattle.sub_table.specs.declared.Subscription.{Subscription}
use Rattle.claim_race.specs.Race.{RaceState}
use Rattle.hub_core.specs.State as hub
use Rattle.hub_core.specs.Publishing.{publish_refusal}
use Rattle.hub_core.specs.Receiving.{receive_refusal}
use Rattle.hub_core.specs.Telling.{drain_refusal}
use Rattle.hub_core.specs.Peers.{after_take, snapshot_to}
use Rattle.hub_core.specs.AsLaw.{hub_of, frame_of, HasPeers}
use Rattle.hub_core.proofs.Steps.Rooms.{map_none}
use Rattle.hub_core.proofs.Steps.Receives.{cuts_unseen, takes_unseen}
use Rattle.route_session.specs.State.{session_at, peer_of_session}
use Rattle.route_session.specs.Steps.{info_refusal, connect_refusal}
use Rattle.shard_core.specs.AsLaw.{AreThese}
use Rattle.node_law.specs.declared.faults.NodeFault.TheVariants.{Hub, Session}
use Rattle.node_law.specs.State.{Node, finished_turns}
use Rattle.node_law.specs.Events.{OfConn, AtShard, Publish, Collect, Drain, Dial, Accept, CutSession, TakeFrames, NodeEvent, Own, Receive, OnInfo, OnConnect}
use Rattle.node_law.specs.Steps.{conn_line, shard_line, seen_name, node_refusal, NodeRace, node_after, cut_if, node_frames}
use Rattle.node_law.specs.Sound.{SoundNode}
use Rattle.node_law.specs.AsLaw.{Shown, given_at, part_of, publications_by, sent_of, changes_by, jobs_by, lives_at, placements_at, Moves, NodeFollows, StaysSound}
use Rattle.node_law.proofs.Moves.Lines.{Steps}
use Rattle.node_law.proofs.Moves.LineEvents.{conn_steps, work_steps}
use Rattle.node_law.proofs.Moves.Hubs.{told_steps}
use Rattle.node_law.proofs.Moves.GivenApart.{part_apart}
use Rattle.node_law.proofs.Claims.Raced.{raced_after}
use Rattle.node_law.proofs.Moves.HubEvents.{publish_steps, receive_steps, collect_steps, drain_steps, info_greets, connect_greets, up_steps, greeted, snapshot_told}

abbrev NodeSteps : ServerIdentity → ℕ → Node → NodeEvent → Bool → Node → List Subscription → Type 0
NodeSteps server now a e won b subs =
    (x : law.NodeEvent)
    × Shown server e x
    × Steps server now a b x (publications_by server now a e) (map (sent_of server) (node_frames server a e))
    (changes_by a e) (jobs_by server a e) (lives_at server now a e)
    (placements_at server now (part_of server a e won) subs)

-- a kept session that is cut is not seen
record Unseen (server : ServerIdentity) (old new : hub.State) : Type 0 where
  hub_is : hub_of new ≡ hub_of old
  issued : new.issued ≡ old.issued
  peers : HasPeers server new
  counts : new.counts ≡ old.counts

cut_unseen : (server : ServerIdentity) (hub : hub.State) (q : Option ℕ)
    → HasPeers server hub
    → Unseen server hub (cut_if hub q)
cut_unseen server hub None size = record { hub_is = refl; issued = refl; peers = size; counts = refl }
cut_unseen server hub (Some q) size =
    let u = cuts_unseen server hub q size in record { hub_is = u.hub_is; issued = refl; peers = u.peers; counts = refl }

node_steps : (server : ServerIdentity) (now : ℕ) (a : Node) (e : NodeEvent) (won : Bool) (race : RaceState)
    (subs : List Subscription)
    → IsListed server
    → SoundNode server a
    → node_refusal server a e ≡ None
    → NodeRace a e won race
    → AreThese (given_at (part_of server a e won)) subs
    → NodeSteps server now a e won (node_after server a e won race) subs
node_steps server now a (Own (OfConn conn event)) won race subs is sound cause moves these =
    conn_steps server now conn a event (conn_line server a conn) race subs sound refl cause moves these
node_steps server now a (Own (AtShard shard work)) won race subs is sound cause moves these =
    work_steps server now shard a work won (shard_line a shard) race subs sound refl cause moves these
node_steps server now a (Own (Publish p)) won race subs is sound cause moves these = (
  law.Publish (content_of p.publication.message),
  tt,
  publish_steps server now a p race is sound
      (map_none Hub (publish_refusal server a.hub p (finished_turns a.lines)) cause) moves,
)
node_steps server now a (Own (Collect shard)) won race subs is sound cause moves these =
    collect_steps server now shard a (shard_line a shard) _ is sound refl cause
node_steps server now a (Own Drain) won race subs is sound cause moves these =
    drain_steps server now a _ is sound (map_none Hub (drain_refusal a.hub) cause)
node_steps server now a (Own (Dial q)) won race subs is sound cause moves these = (
  law.Announce [],
  tt,
  told_steps server now a a.hub _ a.race [] sound refl refl refl sound.peers refl (λ f i. absurd i),
)
node_steps server now a (Own Accept) won race subs is sound cause moves these = (
  law.Announce [],
  tt,
  told_steps server now a a.hub _ a.race _ sound refl refl refl sound.peers refl
      (each_one _ _ (greeted server is (hub_of a.hub) (hub_of a.hub))),
)
node_steps server now a (Own (CutSession session)) won race subs is sound cause moves these =
    let u = cut_unseen server a.hub (peer_of_session session a.sessions.standing) sound.peers in (
      law.Announce [],
      tt,
      told_steps server now a (cut_if a.hub (peer_of_session session a.sessions.standing)) _ a.race [] sound refl
          u.hub_is u.issued u.peers u.counts (λ f i. absurd i),
    )
node_steps server now a (Own (TakeFrames q count)) won race subs is sound cause moves these =
    let u = takes_unseen server a.hub q count sound.peers in (
      law.Announce [],
      tt,
      told_steps server now a (after_take a.hub q count) a.sessions a.race [] sound refl u.hub_is refl u.peers refl
          (λ f i. absurd i),
    )
node_steps server now a (Receive frame) won race subs is sound cause moves these = (
  _,
  refl,
  receive_steps server now a frame.from frame.inc frame.to frame.to_inc frame.number frame.body _ race is sound
      (map_none Hub (receive_refusal server a.hub (finished_turns a.lines) frame) cause) moves,
)
node_steps server now a (OnInfo session info) won race subs is sound cause moves these = (
  _,
  refl,
  up_steps server now a info.server_name info.inc _ a.race _ is sound refl
      (info_greets server a.sessions (session_at session a.sessions.standing) info (seen_name server a info.server_name)
      (map_none Session
      (info_refusal server a.sessions (session_at session a.sessions.standing) info
      (seen_name server a info.server_name))
      cause))
      (each_cons _ _ (frame_of server (snapshot_to server a.hub (place server info.server_name) info.inc) ∷ [])
      (greeted server is (hub_of a.hub) (hub_of a.hub))
      (each_one _ (frame_of server (snapshot_to server a.hub (place server info.server_name) info.inc))
      (snapshot_told server is a.hub (place server info.server_name) info.inc))),
)
node_steps server now a (OnConnect session connect) won race subs is sound cause moves these = (
  _,
  refl,
  up_steps server now a connect.server_name connect.inc _ a.race _ is sound refl
      (connect_greets server a.sessions (session_at session a.sessions.standing) connect
      (seen_name server a connect.server_name)
      (map_none Session
      (connect_refusal server a.sessions (session_at session a.sessions.standing) connect
      (seen_name server a connect.server_name))
      cause))
      (each_one _ _ (snapshot_told server is a.hub (place server connect.server_name) connect.inc)),
)

pub node_follows : NodeFollows
node_follows server now a e won race b subs is sound step these =
    let s = node_steps server now a e won race subs is sound step.cause step.moves these in
    subst (λ t.
    (x : law.NodeEvent)
    × Shown server e x
    × Moves server now a t x (publications_by server now a e) (map (sent_of server) (node_frames server a e))
    (changes_by a e) (jobs_by server a e) (lives_at server now a e)
    (placements_at server now (part_of server a e won) subs))
    (sym step.after) (s.0, s.1, s.2.moves)

-- those to whom a step gives, in their own order
these_given : (server : ServerIdentity) (a : Node) (e : NodeEvent) (won : Bool)
    → SoundNode server a
    → AreThese (given_at (part_of server a e won)) (given_at (part_of server a e won))
these_given server a e won sound = record { some = λ u i. i; all = λ u i. i; once = part_apart server a e won sound }

pub stays_sound : StaysSound
stays_sound server a e won race b is sound step =
    let order =
    (node_steps server 0 a e won race (given_at (part_of server a e won)) is sound step.cause step.moves
    (these_given server a e won sound)).2.sound in
    subst (SoundNode server) (sym step.after) (record {
      issued = order.issued;
      size = order.size;
      lines = order.lines;
      raced = raced_after server a e won race sound sound.raced step.cause step.moves;
      peers = order.peers;
      counts = order.counts;
    })
