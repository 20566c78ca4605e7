-- What the headline rests on, brought back from the machine to the run of the exact cluster.
use Rattle.std.proofs.Common.{◌≡◌, ℕ, zero, suc, ◌<◌, ◌≤◌, Bool, true, false, cond, List, [], ◌∷◌, ◌++◌, map, length, Option, Some, None, refl, sym, ap, ◌∙◌, ◌⊎◌, subst, ⊎_elim, arith}
use Rattle.std.specs.Prelude.{filter, take}
use Rattle.list_laws.specs.Lists.{In, Each, Pairs}
use Rattle.list_laws.proofs.Lists.{pairs_weaker}
use Rattle.list_laws.proofs.Changes.{get_map, in_mapped, pairs_map_back}
use Rattle.cluster_law.specs.Cluster as cluster
use Rattle.cluster_law.specs.Cluster.{Reached}
use Rattle.cluster_law.specs.Config.{Config, every_rule}
use Rattle.cluster_law.specs.Headline as law
use Rattle.cluster_law.specs.Interest as interest
use Rattle.cluster_law.specs.Messages as messages
use Rattle.cluster_law.specs.Runs as law_runs
use Rattle.cluster_law.specs.Values.{content_of}
use Rattle.interest.specs.declared.changes.Change.{Change}
use Rattle.interest.specs.Views.{View, view_with_change, view_after, view_at}
use Rattle.subj.specs.declared.jobs.Job.{Job}
use Rattle.subj.specs.declared.limits.TheConstants.{WINDOW}
use Rattle.subj.specs.Servers.{place_in}
use Rattle.route_values.specs.declared.bodies.Body.{Body}
use Rattle.route_values.specs.declared.bodies.Body.TheVariants.{Plus, Minus, Snapshot, Msg}
use Rattle.route_values.specs.declared.frames.RouteFrame.{RouteFrame}
use Rattle.route_values.specs.declared.frames.RouteFrame.TheVariants as route
use Rattle.hub_core.specs.AsLaw.{view_of, own_view, change_of, follow, peer_of, as_said}
use Rattle.hub_core.specs.State.{Peer}
use Rattle.hub_core.proofs.Neighbours.Views.{view_back, follows}
use Rattle.shard_core.specs.Lines.{SoundLine, Turns, begun_turn}
use Rattle.node_law.specs.AsLaw.{node_of, line_of}
use Rattle.node_law.specs.State.{ShardWithJobs}
use Rattle.world_law.specs.Made.{Passed, passed_events, MadeChange, is_change_of, changes_in_life, jobs_made, changes_made}
use Rattle.world_law.specs.RestsOn.{Message, message_in, messages_in, OneMessage, TakenOnce, IsViewOf, in_line, IsLine, RestsOn, FinishedStays}
use Rattle.world_law.specs.State.{Cluster, World, new_world, server_at}
use Rattle.world_law.proofs.Runs.MadeOf.{AllMade}
use Rattle.world_law.proofs.Seen.Machine.{law_for, pub_of, frame_of, law_job, law_change}
use Rattle.world_law.proofs.Seen.Whole.{Over, over, seen_over, is_reached, names_of}
use Rattle.world_law.proofs.Seen.Worlds.{NodeLaws}

each_back : {A B : Type 0} (P : B → Type 0) (f : A → B) (xs : List A) → Each P (map f xs) → Each (λ x. P (f x)) xs
each_back P f xs h x i = h (f x) (in_mapped f xs x i)

-- ---- messages

abbrev law_message : Cluster → Message → messages.Routed
law_message c m = record {
  id = pub_of c m.id;
  to = place_in m.to c.names;
  to_inc = m.to_inc;
  content = content_of m.content;
  names = m.queues;
}

messages_are : (c : Cluster) (frames : List RouteFrame)
    → messages.messages (map (frame_of c) frames) ≡ map (law_message c) (messages_in frames)
messages_are c [] = refl
messages_are c (route.Info info ∷ frames) = messages_are c frames
messages_are c (route.Connect connect ∷ frames) = messages_are c frames
messages_are c (route.Numbered frame ∷ frames) = go frame.body (messages_are c frames)
  where
    go : (body : Body)
        → messages.messages (map (frame_of c) frames) ≡ map (law_message c) (messages_in frames)
        → messages.messages (as_said (server_at c 0 0) frame body ∷ map (frame_of c) frames)
        ≡ map (law_message c) (message_in frame body ++ messages_in frames)
    go (Plus weighted) below = below
    go (Minus key) below = below
    go (Snapshot keys) below = below
    go (Msg content queues) below =
        ap (λ t.
        law_message c (record {
          id = record { origin = frame.from; inc = frame.inc; number = frame.number };
          to = frame.to;
          to_inc = frame.to_inc;
          content = content;
          queues = queues;
        })
        ∷ t)
        below

-- ---- changes of interest

changes_are : (q inc : ℕ) (made : List MadeChange)
    → interest.changes_of (map law_change made) q inc ≡ map change_of (changes_in_life q inc made)
changes_are q inc [] = refl
changes_are q inc (m ∷ made) = go (is_change_of q inc m) (changes_are q inc made)
  where
    go : (b : Bool)
        → interest.changes_of (map law_change made) q inc ≡ map change_of (changes_in_life q inc made)
        → cond b (change_of m.change ∷ interest.changes_of (map law_change made) q inc)
        (interest.changes_of (map law_change made) q inc)
        ≡ map change_of (map (λ (x : MadeChange). x.change)
        (cond b (m ∷ filter (is_change_of q inc) made) (filter (is_change_of q inc) made)))
    go true below = ap (λ t. change_of m.change ∷ t) below
    go false below = below

after_first : (changes : List Change) (count : ℕ) (view : View)
    → interest.view_after follow (map change_of changes) count (view_of view)
    ≡ view_of (view_after (take count changes) view)
after_first [] zero view = refl
after_first [] (suc count) view = refl
after_first (change ∷ changes) zero view = refl
after_first (change ∷ changes) (suc count) view =
    ap (interest.view_after follow (map change_of changes) count) (follows change view)
    ∙ after_first changes count (view_with_change change view)

same_length : (changes : List Change) → length (map change_of changes) ≡ length changes
same_length [] = refl
same_length (change ∷ changes) = ap suc (same_length changes)

-- ---- lines

turns_above : (begun : ℕ) (jobs : List Job) (issued : ℕ) → Turns begun jobs issued → Each (λ j. begun < j.turn) jobs
turns_above begun [] issued h = λ x i. absurd i
turns_above begun (job ∷ jobs) issued h = λ x i.
    let first = h.0 in
    ⊎_elim (λ (e : x ≡ job). let is = ap (λ (j : Job). j.turn) e in omega arith)
    (λ k. let lt = turns_above (suc begun) jobs issued h.1 x k in omega arith) i

turns_rise : (begun : ℕ) (jobs : List Job) (issued : ℕ) → Turns begun jobs issued → Pairs (λ i j. i.turn < j.turn) jobs
turns_rise begun [] issued h = tt
turns_rise begun (job ∷ jobs) issued h = (
  λ x i. let lt = turns_above (suc begun) jobs issued h.1 x i in let first = h.0 in omega arith,
  turns_rise (suc begun) jobs issued h.1,
)

abbrev Ordered : ShardWithJobs → Option Job → Type 0
Ordered line hand =
    Pairs (λ i j. i.turn < j.turn) (in_line hand line.waiting)
    × Each (λ j. line.shard.finished < j.turn) (in_line hand line.waiting)

pub line_is : (line : ShardWithJobs) (issued : ℕ) → SoundLine WINDOW issued line.shard line.waiting → IsLine line
line_is line issued s = let o = by line.shard.hand refl s.turns in record { rising = o.0; unfinished = o.1 }
  where
    by : (hand : Option Job)
        → line.shard.hand ≡ hand
        → Turns (begun_turn hand line.shard.finished) line.waiting issued
        → Ordered line hand
    by None is turns = (
      turns_rise line.shard.finished line.waiting issued turns,
      turns_above line.shard.finished line.waiting issued turns,
    )
    by (Some job) is turns =
        let first = s.hand job is in (
          (
            λ x i. let lt = turns_above (suc line.shard.finished) line.waiting issued turns x i in omega arith,
            turns_rise (suc line.shard.finished) line.waiting issued turns,
          ),
          λ x i.
              ⊎_elim (λ (e : x ≡ job). let same = ap (λ (j : Job). j.turn) e in omega arith)
              (λ k. let lt = turns_above (suc line.shard.finished) line.waiting issued turns x k in omega arith) i,
        )

-- ---- the whole

module _ (c : Cluster) (w : World) (steps : List Passed) (o : Over c (cluster.begin (law_for c)) w steps) where
  sent_are : messages.messages o.seen.past.sent ≡ map (law_message c) (messages_in w.sent)
  sent_are = ap messages.messages o.sees.sent ∙ messages_are c w.sent

  view_is : (q : ℕ) (peer : Peer)
      → law.IsView (law_for c) o.seen.past q (peer_of peer)
      → IsViewOf w.started (changes_made c steps) q peer
  view_is q peer v =
      let are : interest.changes_of o.seen.past.changes q peer.seen
      ≡ map change_of (changes_in_life q peer.seen (changes_made c steps)) =
      ap (λ t. interest.changes_of t q peer.seen) o.changes ∙ changes_are q peer.seen (changes_made c steps) in
      record {
        seen = subst (λ t. (peer.seen ≡ 0) ⊎ In (q, peer.seen) t) o.sees.started v.seen;
        reached =
            subst (λ k. peer.heard.mark ≤ k)
            (ap length are ∙ same_length (changes_in_life q peer.seen (changes_made c steps))) v.reached;
        keys =
            sym (view_back peer.heard.keys)
            ∙ ap own_view (v.view ∙ ap (λ t. interest.view_after follow t peer.heard.mark []) are
            ∙ after_first (changes_in_life q peer.seen (changes_made c steps)) peer.heard.mark [])
            ∙ view_back (view_at (changes_in_life q peer.seen (changes_made c steps)) peer.heard.mark);
      }

  pub rests : law.Unique o.seen.past
      → law.Routing (law_for c) o.seen.past
      → law.EachView (law_for c) o.seen
      → AllMade c w (jobs_made c steps)
      → RestsOn c steps w
  rests unique routing views made = record {
    unique = (names_of c w o.seen o.sees unique).publications;
    one_message =
        pairs_weaker (λ f g. law.OneFrame (law_message c f) (law_message c g)) OneMessage (messages_in w.sent)
        (λ f g i j r e. let s = r (ap (pub_of c) e) in (λ same. s.0 (ap (λ name. place_in name c.names) same), s.1))
        (pairs_map_back law.OneFrame (law_message c) (messages_in w.sent)
        (subst (Pairs law.OneFrame) sent_are routing.one_frame));
    split = λ made i f j own same.
        subst (λ t. Each (law.IsSplitFrom (law_job c made)) t) sent_are
        (subst (λ t. Each (λ k. Each (law.IsSplitFrom k) (messages.messages o.seen.past.sent)) t) o.jobs routing.split
        (law_job c made) (in_mapped (law_job c) (jobs_made c steps) made i))
        (law_message c f) (in_mapped (law_message c) (messages_in w.sent) f j) own (ap (pub_of c) same);
    taken_once =
        pairs_weaker (λ x y. law.AcceptedOnce (law_job c x) (law_job c y)) TakenOnce (jobs_made c steps)
        (λ x y i j r e. r (ap (pub_of c) e))
        (pairs_map_back law.AcceptedOnce (law_job c) (jobs_made c steps)
        (subst (Pairs law.AcceptedOnce) o.jobs routing.accepted_once));
    few_in_message =
        each_back (λ f. length f.names ≤ (law_for c).queue_names) (law_message c) (messages_in w.sent)
        (subst (Each (λ f. length f.names ≤ (law_for c).queue_names)) sent_are routing.few_in_frame);
    few_in_job =
        each_back (λ j. length j.names ≤ (law_for c).queue_names) (law_job c) (jobs_made c steps)
        (subst (Each (λ j. length j.names ≤ (law_for c).queue_names)) o.jobs routing.few_in_job);
    made_messages = made.messages;
    made_jobs = made.jobs;
    views = λ n a at q peer is.
        view_is q peer (views n (node_of (server_at c n a.inc) a.node) (o.sees.nodes n (Some a) at) refl q
        (peer_of peer) (get_map peer_of a.node.hub.peers q peer is));
    lines = λ n a at place line is. line_is line a.node.race.issued ((o.sees.sound n a at).lines place line is).sound;
  }

-- ---- finished turns

abbrev pub LawTurns : Type 0
LawTurns =
    (c : Config) (w : cluster.World) (events : List cluster.Event) (w' : cluster.World)
    → Reached every_rule c w
    → cluster.Run every_rule c w events w'
    → law_runs.TurnsStay w w'

pub finished_stays : NodeLaws → LawTurns → FinishedStays
finished_stays laws turns c set_up before after w w' r r' n a b at at' inc place x y is is' =
    let first = seen_over laws c set_up before w r in
    let then = over laws c set_up w first.seen after w' r' first.sees in
    turns (law_for c) first.seen then.events then.seen (is_reached c w (passed_events c (new_world c) before w r) first)
    then.run n (node_of (server_at c n a.inc) a.node) (node_of (server_at c n b.inc) b.node)
    (first.sees.nodes n (Some a) at) (then.sees.nodes n (Some b) at') refl refl inc place
    (line_of (server_at c n a.inc) x) (line_of (server_at c n b.inc) y)
    (get_map (line_of (server_at c n a.inc)) a.node.lines place x is)
    (get_map (line_of (server_at c n b.inc)) b.node.lines place y is')
