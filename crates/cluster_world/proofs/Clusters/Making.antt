-- A step of the cluster in code is that of the exact cluster, put together from the step of a server.
use Rattle.std.proofs.Common.{◌≡◌, ℕ, suc, ◌+◌, Bool, true, false, true≢false, cond, not, ◌&&◌, nat_eq, List, [], ◌∷◌, ◌++◌, map, set, length, Option, Some, None, refl, sym, ap, ◌∙◌, subst, inl, inr, arith}
use Rattle.std.specs.Prelude.{slice_get, is_none}
use Rattle.std.specs.List.{list_any}
use Rattle.std.specs.Option.{option_map}
use Rattle.std.proofs.lemmas.Option.{same_Some, slice_get-map}
use Rattle.list_laws.specs.Lists.{In}
use Rattle.list_laws.proofs.Tests.{eq_true, eq_false, true_eq, and_true}
use Rattle.list_laws.proofs.Changes.{get_map, get_set_here, get_set_there, map_set}
use Rattle.claim_race.specs.Race.{RaceState}
use Rattle.outbox.specs.declared.entries.Tag.{Tag}
use Rattle.outbox.specs.declared.entries.Tag.TheVariants as tag
use Rattle.sub_table.specs.declared.Subscription.{Subscription}
use Rattle.subj.specs.declared.identities.SubId.{SubId}
use Rattle.subj.specs.Servers.{ServerIdentity}
use Rattle.shard_core.specs.declared.calls.Placed.{Placed}
use Rattle.shard_core.specs.ShardSteps.{sub_called, subscribe_answer}
use Rattle.hub_core.specs.Publishing.{next_id}
use Rattle.node_law.specs.declared.events.ConnEvent.{ConnEvent}
use Rattle.node_law.specs.declared.events.ConnEvent.TheVariants.{Subscribe, Unsubscribe, Reply, SetHeaders, Shut, Detach, Take}
use Rattle.node_law.specs.Answers.{node_answer, told_of_shard, told_at}
use Rattle.node_law.specs.AsLaw.{Part, part_of}
use Rattle.node_law.specs.Events.{OfConn, AtShard, Publish, Collect, Drain, Dial, Accept, CutSession, TakeFrames, NodeEvent, Own, Receive, OnInfo, OnConnect}
use Rattle.node_core.specs.InCode.{answer_of}
use Rattle.node_core.specs.Outcome as of_server
use Rattle.node_core.specs.Outcome.{did_of, ended_at}
use Rattle.node_core.specs.Served.{Served}
use Rattle.node_law.specs.Sound.{SoundNode}
use Rattle.node_law.specs.State.{ShardWithJobs, Node}
use Rattle.node_law.specs.Steps.{NodeStep, conn_line, conn_event, shard_line, node_refusal, node_after}
use Rattle.node_law.specs.AsLaw.{is_open_in}
use Rattle.world_law.specs.declared.faults.WorldFault.TheVariants as fault
use Rattle.cluster_world.specs.declared.nodes.Made.{Made}
use Rattle.cluster_world.specs.Adding.{published_by, opening_by, opening_of, AreNoted, opened_lives, closes, closed_if}
use Rattle.world_law.specs.Changes.{AreGained, publications_of, lives_of, conn_lives, new_life, is_open, is_open_at, looked_at, placement_of, LivesAreFound}
use Rattle.world_law.specs.Events as asked
use Rattle.world_law.specs.Events.{Event, Start, Stop, At, event_for}
use Rattle.world_law.specs.Outcomes.{Outcome, Done}
use Rattle.world_law.specs.Play.{puts, placements_put, PutsArePlaced}
use Rattle.world_law.specs.Refusals.{world_refusal, refusal_at}
use Rattle.world_law.specs.State.{Cluster, Life, Placement, Running, World, server_at, is_sub}
use Rattle.world_law.specs.Steps.{Acts, Happens, Decided, WorldStep}
use Rattle.cluster_world.specs.Value.{Listed, listed_with, running_in, slot_refusal, IsMade, world_of, cluster_of, InPlace, IsFor}
use Rattle.cluster_world.proofs.Clusters.Ended.{server_agrees}
use Rattle.world_law.proofs.Runs.Plays.{put_of, puts_are}
use Rattle.world_law.proofs.Seen.Worlds.{set_size}

-- ---- publications

pub published_are : (server : ServerIdentity) (now : ℕ) (a : Node) (e : NodeEvent)
    → published_by (next_id server a.hub) now e ≡ publications_of server now a e
published_are server now a (Own (OfConn conn event)) = refl
published_are server now a (Own (AtShard shard work)) = refl
published_are server now a (Own (Publish p)) = refl
published_are server now a (Own (Collect shard)) = refl
published_are server now a (Own Drain) = refl
published_are server now a (Own (Dial q)) = refl
published_are server now a (Own Accept) = refl
published_are server now a (Own (CutSession session)) = refl
published_are server now a (Own (TakeFrames q count)) = refl
published_are server now a (Receive frame) = refl
published_are server now a (OnInfo session info) = refl
published_are server now a (OnConnect session connect) = refl

-- ---- lives that opens

opened_at : (server : ServerIdentity) (now conn : ℕ) (event : ConnEvent) (o : Option ShardWithJobs)
    → opened_lives server.me server.inc now (opening_of conn event) (told_at o (λ line. Some (conn_event conn event)))
    ≡ conn_lives server now conn event o
opened_at server now conn (Subscribe key sid) None = refl
opened_at server now conn (Subscribe key sid) (Some line) = go (sub_called conn sid line.shard.subs)
  where
    go : (o : Option Subscription)
        → opened_lives server.me server.inc now (Some (record { conn = conn; key = key; sid = sid }))
        (told_of_shard (subscribe_answer line.shard o)) ≡ new_life server now conn key sid line o
    go None = refl
    go (Some u) = refl
opened_at server now conn (Unsubscribe sid max) None = refl
opened_at server now conn (Unsubscribe sid max) (Some line) = refl
opened_at server now conn (Reply frame) None = refl
opened_at server now conn (Reply frame) (Some line) = refl
opened_at server now conn (SetHeaders on) None = refl
opened_at server now conn (SetHeaders on) (Some line) = refl
opened_at server now conn (Shut text) None = refl
opened_at server now conn (Shut text) (Some line) = refl
opened_at server now conn Detach None = refl
opened_at server now conn Detach (Some line) = refl
opened_at server now conn (Take count) None = refl
opened_at server now conn (Take count) (Some line) = refl

pub opened_are : (server : ServerIdentity) (now : ℕ) (a : Node) (e : NodeEvent) (won : Bool)
    → opened_lives server.me server.inc now (opening_by e) (node_answer server a e won) ≡ lives_of server now a e
opened_are server now a (Own (OfConn conn event)) won = opened_at server now conn event (conn_line server a conn)
opened_are server now a (Own (AtShard shard work)) won = refl
opened_are server now a (Own (Publish p)) won = refl
opened_are server now a (Own (Collect shard)) won = refl
opened_are server now a (Own Drain) won = refl
opened_are server now a (Own (Dial q)) won = refl
opened_are server now a (Own Accept) won = refl
opened_are server now a (Own (CutSession session)) won = refl
opened_are server now a (Own (TakeFrames q count)) won = refl
opened_are server now a (Receive frame) won = refl
opened_are server now a (OnInfo session info) won = refl
opened_are server now a (OnConnect session connect) won = refl

-- ---- lives that close

-- a test that tells, of what was opens at the server, what is opens there no more
abbrev pub Tells : Running → Option Running → (SubId → Bool) → Type 0
Tells a new test =
    (sub : SubId) → is_open_at a.inc sub (Some (Some a)) ≡ true → test sub ≡ not (is_open_at a.inc sub (Some new))

map_each : {A B : Type 0} (f g : A → B) (xs : List A) → ((x : A) → In x xs → f x ≡ g x) → map f xs ≡ map g xs
map_each f g [] h = refl
map_each f g (x ∷ xs) h = λ i. h x (inl refl) i ∷ map_each f g xs (λ y j. h y (inr j)) i

open_here : (a : Running) (inc : ℕ) (sub : SubId) → is_open_at inc sub (Some (Some a)) ≡ true → a.inc ≡ inc
open_here a inc sub e = eq_true a.inc inc (and_true (nat_eq a.inc inc) _ e).0

closes_alike : (now n : ℕ) (nodes : List (Option Running)) (a : Running) (new : Option Running)
    (ended : Option (List SubId)) (l : Life)
    → slice_get nodes n ≡ Some (Some a)
    → Tells a new (closes ended)
    → (l.closed ≡ None → is_open nodes l.id ≡ true)
    → closed_if now n a.inc ended l ≡ looked_at now (set nodes n new) l
closes_alike now n nodes a new ended l at tells was = go l.closed refl (nat_eq l.id.node n) refl
  where
    after : List (Option Running)
    after = set nodes n new

    go : (o : Option ℕ)
        → l.closed ≡ o
        → (b : Bool)
        → nat_eq l.id.node n ≡ b
        → cond (is_none o && (b && (nat_eq l.id.inc a.inc && closes ended l.id.sub))) (record l { closed = Some now }) l
        ≡ cond (is_none o && not (is_open after l.id)) (record l { closed = Some now }) l
    go (Some k) none b e = refl
    go None none false e =
        ap (λ t. cond (not t) (record l { closed = Some now }) l)
        (sym
        (ap (is_open_at l.id.inc l.id.sub) (get_set_there nodes n l.id.node new (eq_false l.id.node n e)) ∙ was none))
    go None none true e =
        let here : l.id.node ≡ n = eq_true l.id.node n e in
        let shown : is_open_at l.id.inc l.id.sub (Some (Some a)) ≡ true =
        sym (ap (is_open_at l.id.inc l.id.sub) (ap (slice_get nodes) here ∙ at)) ∙ was none in
        let inc : a.inc ≡ l.id.inc = open_here a l.id.inc l.id.sub shown in
        let told : closes ended l.id.sub ≡ not (is_open_at l.id.inc l.id.sub (Some new)) =
        subst (λ k. closes ended l.id.sub ≡ not (is_open_at k l.id.sub (Some new))) inc
        (tells l.id.sub (subst (λ k. is_open_at k l.id.sub (Some (Some a)) ≡ true) (sym inc) shown)) in
        ap (λ t. cond (t && closes ended l.id.sub) (record l { closed = Some now }) l)
        (true_eq l.id.inc a.inc (sym inc))
        ∙ ap (λ t. cond t (record l { closed = Some now }) l)
        (told
        ∙ ap (λ o. not (is_open_at l.id.inc l.id.sub o))
        (sym (ap (slice_get after) here ∙ get_set_here nodes n (Some a) new at)))

pub lives_are : (now n : ℕ) (w : World) (a : Running) (new : Option Running) (ended : Option (List SubId))
    → LivesAreFound w
    → slice_get w.nodes n ≡ Some (Some a)
    → Tells a new (closes ended)
    → map (closed_if now n a.inc ended) w.lives ≡ map (looked_at now (set w.nodes n new)) w.lives
lives_are now n w a new ended opens at tells =
    map_each (closed_if now n a.inc ended) (looked_at now (set w.nodes n new)) w.lives
    (λ l i. closes_alike now n w.nodes a new ended l at tells (opens l i))

-- with a server that stops, all close
pub all_close : (a : Running) → Tells a None (closes None)
all_close a sub is = refl

both_true : (a b : Bool) → (a && b) ≡ true → b ≡ true
both_true true b e = e
both_true false b e = absurd (true≢false (sym e))

pub told_close : (server : ServerIdentity) (a b : Running) (e : NodeEvent) (won : Bool) (race : RaceState)
    (ended : List SubId)
    → SoundNode server a.node
    → b.inc ≡ a.inc
    → b.node ≡ node_after server a.node e won race
    → ended ≡ ended_at (part_of server a.node e won)
    → Tells a (Some b) (closes (Some ended))
told_close server a b e won race ended sound same after is sub opens =
    ap (list_any (is_sub sub)) is
    ∙ server_agrees server a.node sound sub (both_true (nat_eq a.inc a.inc) _ opens) e won race
    ∙ (λ i. not (sym (true_eq b.inc a.inc same) i && is_open_in sub.serial (shard_line (sym after i) sub.shard)))

-- ---- placements

-- of its server they have the place and the incarnation alone
placed_alike : (s t : ServerIdentity) (now : ℕ)
    → s.me ≡ t.me
    → s.inc ≡ t.inc
    → (ps : List Placed)
    → placements_put s now ps ≡ placements_put t now ps
placed_alike s t now me inc [] = refl
placed_alike s t now me inc (p ∷ ps) = (λ i. one p.entry.tag i ++ placed_alike s t now me inc ps i)
  where
    one : (g : Tag)
        → placement_of s now p.conn p.headers p.entry.bytes g ≡ placement_of t now p.conn p.headers p.entry.bytes g
    one tag.Reply = refl
    one (tag.Msg id sub mode) = (λ i.
        record {
          step = now;
          life = record { node = me i; inc = inc i; sub = sub };
          conn = p.conn;
          id = id;
          mode = mode;
          bytes = p.entry.bytes;
          headers = p.headers;
        } ∷ [])

pub put_at_is : (o : Option Part) → of_server.put_at o ≡ put_of o
put_at_is None = refl
put_at_is (Some part) = refl

-- ---- the servers

pub in_place_set : (c : Cluster) (nodes : List (Option Served)) (n : ℕ) (old new : Option Served)
    → InPlace c nodes
    → slice_get nodes n ≡ Some old
    → ((s : Served) → new ≡ Some s → s.server ≡ server_at c n s.server.inc)
    → InPlace c (set nodes n new)
in_place_set c nodes n old new h at there k s e = go (nat_eq k n) refl
  where
    go : (b : Bool) → nat_eq k n ≡ b → s.server ≡ server_at c k s.server.inc
    go true f =
        let same = eq_true k n f in
        there s (same_Some new (Some s)
        (sym (get_set_here nodes n old new at) ∙ ap (slice_get (set nodes n new)) (sym same) ∙ e))
        ∙ ap (λ q. server_at c q s.server.inc) (sym same)
    go false f = h k s (sym (get_set_there nodes n k new (eq_false k n f)) ∙ e)

pub size_set : {A : Type 0} (xs : List A) (n : ℕ) (x : A) → length (set xs n x) ≡ length xs
size_set xs n x = set_size xs n x

pub shown_at : (nodes : List (Option Served)) (n : ℕ) (o : Option Served)
    → slice_get nodes n ≡ Some o
    → slice_get (map running_in nodes) n ≡ Some (running_in o)
shown_at nodes n o at = get_map running_in nodes n o at

-- ---- the causes

same_refusal : (c : Cluster) (n : ℕ) (e : Option NodeEvent) (o : Option (Option Served))
    → ((s : Served) → o ≡ Some (Some s) → s.server ≡ server_at c n s.server.inc)
    → slot_refusal e o ≡ refusal_at c n e (option_map running_in o)
same_refusal c n e None h = refl
same_refusal c n e (Some None) h = refl
same_refusal c n None (Some (Some s)) h = refl
same_refusal c n (Some e) (Some (Some s)) h = ap (λ t. option_map fault.Node (node_refusal t s.node e)) (h s refl)

cause_for : (c : Cluster) (w : World) (n : ℕ) (e : Event)
    → IsFor n e
    → world_refusal c w e ≡ refusal_at c n (event_for w e) (slice_get w.nodes n)
cause_for c w n (Start m inc) at = absurd at
cause_for c w n (Stop m) at = absurd at
cause_for c w n (asked.Receive m k) at =
    ap (λ q. refusal_at c q (event_for w (asked.Receive q k)) (slice_get w.nodes q)) at
cause_for c w n (asked.OnInfo m session k) at =
    ap (λ q. refusal_at c q (event_for w (asked.OnInfo q session k)) (slice_get w.nodes q)) at
cause_for c w n (asked.OnConnect m session k) at =
    ap (λ q. refusal_at c q (event_for w (asked.OnConnect q session k)) (slice_get w.nodes q)) at
cause_for c w n (At m event) at = ap (λ q. refusal_at c q (event_for w (At q event)) (slice_get w.nodes q)) at

-- what the code finds at a place is the cause
pub cause_is : (server : ServerIdentity) (step n : ℕ) (nodes : List (Option Served)) (l : Listed) (e : Event)
    (found : Option NodeEvent)
    → InPlace (cluster_of server) nodes
    → IsFor n e
    → found ≡ event_for (world_of step nodes l) e
    → slot_refusal found (slice_get nodes n) ≡ world_refusal (cluster_of server) (world_of step nodes l) e
cause_is server step n nodes l e found places at is =
    ap (λ o. slot_refusal o (slice_get nodes n)) is
    ∙ same_refusal (cluster_of server) n (event_for (world_of step nodes l) e) (slice_get nodes n) (places n)
    ∙ ap (refusal_at (cluster_of server) n (event_for (world_of step nodes l) e))
    (sym (slice_get-map running_in nodes n))
    ∙ sym (cause_for (cluster_of server) (world_of step nodes l) n e at)

-- ---- the step

happens_for : (c : Cluster) (w w' : World) (n : ℕ) (e : Event) (o : Outcome)
    → IsFor n e
    → Acts c w n (event_for w e) o w'
    → Happens c w e o w'
happens_for c w w' n (Start m inc) o at s = absurd at
happens_for c w w' n (Stop m) o at s = absurd at
happens_for c w w' n (asked.Receive m k) o at s =
    subst (λ q. Acts c w q (event_for w (asked.Receive q k)) o w') (sym at) s
happens_for c w w' n (asked.OnInfo m session k) o at s =
    subst (λ q. Acts c w q (event_for w (asked.OnInfo q session k)) o w') (sym at) s
happens_for c w w' n (asked.OnConnect m session k) o at s =
    subst (λ q. Acts c w q (event_for w (asked.OnConnect q session k)) o w') (sym at) s
happens_for c w w' n (At m event) o at s = subst (λ q. Acts c w q (event_for w (At q event)) o w') (sym at) s

module _ (puts_placed : PutsArePlaced) (c : Cluster) (step n inc : ℕ) (nodes : List (Option Served)) (l : Listed) where
  abbrev w : World
  w = world_of step nodes l

  abbrev server : ServerIdentity
  server = server_at c n inc

  acts : (x y : Served) (e : NodeEvent) (won : Bool) (race : RaceState) (made : Made)
      → LivesAreFound w
      → slice_get nodes n ≡ Some (Some x)
      → x.server.inc ≡ inc
      → SoundNode server x.node
      → made.inc ≡ inc
      → AreNoted (next_id server x.node.hub) (suc step) e made.noted
      → y.server.inc ≡ inc
      → NodeStep server x.node e won race y.node
      → did_of made.did ≡ of_server.outcome_of server x.node e won
      → Acts c w n (Some e) (Done (answer_of made.did.answer))
      (world_of (suc step) (set nodes n (Some y))
      (listed_with (record { step = suc step; node = n; inc = made.inc }) made.noted made.did l))
  acts x y e won race made opens at own sound made_inc noted y_inc steps told = record {
    e = e;
    is = refl;
    a = a;
    a_is = a_is;
    won = won;
    race = race;
    b = y.node;
    steps = steps;
    told = ap (λ (o : of_server.Outcome). Done o.answer) told;
    gained = gained;
    are_gained =
        subst (AreGained server (suc step) x.node.lines y.node.lines) (sym gained_is)
        (puts_placed server (suc step) x.node e won race y.node steps);
    after = λ i. record {
      step = suc step;
      nodes = nodes_are i;
      started = l.started;
      publications = l.publications ++ (noted.publication ∙ published_are server (suc step) x.node e) i;
      lives = lives_added i;
      placements = l.placements ++ gained;
      sent = l.sent ++ (ap (λ (o : of_server.Outcome). o.frames) told) i;
    };
  }
    where
      a : Running
      a = record { inc = inc; node = x.node }

      b : Running
      b = record { inc = inc; node = y.node }

      a_is : slice_get w.nodes n ≡ Some (Some a)
      a_is = shown_at nodes n (Some x) at ∙ ap (λ k. Some (Some (record { inc = k; node = x.node }))) own

      gained : List Placement
      gained =
          placements_put (record { names = []; me = n; inc = made.inc; shards = 0 }) (suc step) made.did.entries.items

      gained_is : gained ≡ placements_put server (suc step) (puts server x.node e won)
      gained_is =
          placed_alike (record { names = []; me = n; inc = made.inc; shards = 0 }) server (suc step) refl made_inc
          made.did.entries.items
          ∙ ap (placements_put server (suc step))
          (ap (λ (o : of_server.Outcome). o.entries) told ∙ put_at_is (part_of server x.node e won)
          ∙ sym (puts_are server x.node e won))

      nodes_are : map running_in (set nodes n (Some y)) ≡ set (map running_in nodes) n (Some b)
      nodes_are =
          map_set running_in nodes n (Some y)
          ∙ ap (λ k. set (map running_in nodes) n (Some (record { inc = k; node = y.node }))) y_inc

      closed : map (closed_if (suc step) n inc (Some made.did.ended.items)) l.lives
          ≡ map (looked_at (suc step) (set w.nodes n (Some b))) l.lives
      closed =
          lives_are (suc step) n w a (Some b) (Some made.did.ended.items) opens a_is
          (told_close server a b e won race made.did.ended.items sound refl steps.after
          (ap (λ (o : of_server.Outcome). o.ended) told))

      opened : opened_lives n inc (suc step) made.noted.opening (answer_of made.did.answer)
          ≡ lives_of server (suc step) x.node e
      opened =
          (λ i. opened_lives n inc (suc step) (noted.opening i) (ap (λ (o : of_server.Outcome). o.answer) told i))
          ∙ opened_are server (suc step) x.node e won

      lives_added : map (closed_if (suc step) n made.inc (Some made.did.ended.items)) l.lives
          ++ opened_lives n made.inc (suc step) made.noted.opening (answer_of made.did.answer)
          ≡ map (looked_at (suc step) (set w.nodes n (Some b))) l.lives ++ lives_of server (suc step) x.node e
      lives_added =
          ap (λ k.
          map (closed_if (suc step) n k (Some made.did.ended.items)) l.lives
          ++ opened_lives n k (suc step) made.noted.opening (answer_of made.did.answer))
          made_inc
          ∙ (λ i. closed i ++ opened i)

-- the step of a server that is not refused
pub made_step : PutsArePlaced
    → (server : ServerIdentity) (step now n : ℕ) (nodes new : List (Option Served)) (l : Listed) (e : Event)
    (found : Option NodeEvent) (made : Made)
    → now ≡ step + 1
    → InPlace (cluster_of server) nodes
    → LivesAreFound (world_of step nodes l)
    → IsFor n e
    → found ≡ event_for (world_of step nodes l) e
    → world_refusal (cluster_of server) (world_of step nodes l) e ≡ None
    → IsMade n now found nodes made new
    → WorldStep (cluster_of server) (world_of step nodes l) e (Done (answer_of made.did.answer))
    (world_of now new (listed_with (record { step = now; node = n; inc = made.inc }) made.noted made.did l))
    × InPlace (cluster_of server) new × (length new ≡ length nodes)
made_step puts_placed server step now n nodes new l e found made now_is places opens at found_is cause m = (
  subst (λ k.
      WorldStep c w e out
      (world_of k new (listed_with (record { step = k; node = n; inc = made.inc }) made.noted made.did l)))
      (sym next)
      (subst (λ o. Decided c w e o out w') (sym cause)
      (happens_for c w w' n e out at (subst (λ o. Acts c w n o out w') (sym m.is ∙ found_is) there))),
  subst (InPlace c) (sym m.after)
      (in_place_set c nodes n (Some m.x) (Some m.y) places m.x_is (λ s is.
      subst (λ (t : Served). t.server ≡ server_at c n t.server.inc) (same_Some m.y s is)
      (m.does.step.server ∙ placed ∙ ap (λ (t : ServerIdentity). server_at c n t.inc) (sym m.does.step.server)))),
  ap length m.after ∙ size_set nodes n (Some m.y),
)
  where
    c : Cluster
    c = cluster_of server

    w : World
    w = world_of step nodes l

    out : Outcome
    out = Done (answer_of made.did.answer)

    next : now ≡ suc step
    next = omega (arith, now_is)

    w' : World
    w' =
        world_of (suc step) new
        (listed_with (record { step = suc step; node = n; inc = made.inc }) made.noted made.did l)

    inc : ℕ
    inc = m.x.server.inc

    placed : m.x.server ≡ server_at c n inc
    placed = places n m.x m.x_is

    there : Acts c w n (Some m.e) out w'
    there =
        subst (λ t.
        Acts c w n (Some m.e) out
        (world_of (suc step) t
        (listed_with (record { step = suc step; node = n; inc = made.inc }) made.noted made.did l)))
        (sym m.after)
        (acts puts_placed c step n inc nodes l m.x m.y m.e m.does.won m.does.step.race made opens m.x_is refl
        (subst (λ s. SoundNode s m.x.node) placed m.sound) m.inc
        (subst (λ k. AreNoted (next_id (server_at c n inc) m.x.node.hub) k m.e made.noted) next
        (subst (λ s. AreNoted (next_id s m.x.node.hub) now m.e made.noted) placed m.noted))
        (ap (λ (t : ServerIdentity). t.inc) m.does.step.server)
        (subst (λ s. NodeStep s m.x.node m.e m.does.won m.does.step.race m.y.node) placed m.does.step.step)
        (subst (λ s. did_of made.did ≡ of_server.outcome_of s m.x.node m.e m.does.won) placed m.does.told))
