-- What holds at first, is kept by every step, and says the laws.
use Rattle.std.proofs.Common.{◌≡◌, ℕ, suc, ◌<◌, List, [], ◌∷◌, ◌++◌, Option, Some, None, true, true≢false, refl, sym, ap, ◌∙◌, subst, inl, inr, ⊎_elim, arith, replicate, map}
use Rattle.std.specs.Prelude.{slice_get}
use Rattle.list_laws.specs.Lists.{In, Each}
use Rattle.cluster_law.specs.Names.{PubId}
use Rattle.cluster_law.specs.Messages.{Routed, Frame, Message, Interest, Greeting, messages}
use Rattle.cluster_law.specs.Config.{Config, every_rule}
use Rattle.cluster_law.specs.History.{Job, Output, nothing}
use Rattle.cluster_law.specs.Interest.{Noted, changes_of, view_after}
use Rattle.cluster_law.specs.Hub.{Hub, Peer, HubAnnounces}
use Rattle.cluster_law.specs.Shard.{Shard, ShardEvent, Subscribe, Close, Begin, Claim, End, Drop, ShardStep, Wins, Passes}
use Rattle.cluster_law.specs.Node.{Node, NodeEvent, Publish, Receive, Announce, OnShard, NodeStep, AtShard}
use Rattle.cluster_law.specs.Cluster.{World, Event, Start, Stop, Hand, At, Acts, Happens, Step, Run, Reached, IsOwn, world_with, all_closings, begin, no_node}
use Rattle.cluster_law.specs.Headline.{Headline, PlainOnce, InOrder, OneFrame, AcceptedOnce, Unique, Routing, IsLine, EachShard, EachView}
use Rattle.list_laws.proofs.Lists.{in_read, pairs_weaker, each_cons, read_replicate}
use Rattle.cluster_law.proofs.Kept.Invariants.{HubOk, NodeOk, InterestIs, FrameOk, Holds, RoutedApart, JobsApart, Local, Remote, LineIs}
use Rattle.cluster_law.proofs.Kept.Hubs.{hubs_kept}
use Rattle.cluster_law.proofs.Kept.Shards.{rest_kept}
use Rattle.cluster_law.proofs.Kept.NodeSteps.{Both, published, received, news_are_heard, met, announced, on_shard, stopped}
use Rattle.cluster_law.proofs.Kept.Views.{Tells, interests_kept, nothing_is_told, after_message, after_news, after_greeting, own_frames, after_announcement, view_both}
use Rattle.cluster_law.proofs.Kept.Starts.{started, passed}

nothing_up : {P : Type 0} (k n : ℕ) (a : Node) → slice_get (replicate k no_node) n ≡ Some a → a.up ≡ true → P
nothing_up k n a e up = absurd (true≢false (sym up ∙ ap (λ x. x.up) (read_replicate k no_node a n e)))

pub at_first : (c : Config) → Holds c (begin c)
at_first c = record {
  hubs = record {
    publications = λ x i. absurd i;
    frames = λ x i. absurd i;
    jobs = λ x i. absurd i;
    ids = tt;
    frames_apart = tt;
    jobs_apart = tt;
    nodes = λ n a e up. nothing_up c.nodes n a e up;
  };
  rest = record {
    placed = λ x i. absurd i;
    lives = λ x i. absurd i;
    closings = λ x i. absurd i;
    life_ids = tt;
    closed_once = tt;
    in_order = tt;
    one_member = tt;
    nodes = λ n a e up. nothing_up c.nodes n a e up;
  };
  interests = record {
    changes = λ x i. absurd i;
    frames = λ x i. absurd i;
    nodes = λ n a e up. nothing_up c.nodes n a e up;
  };
}

-- A node's step

made : (c : Config) (w : World) (n : ℕ) (b : Node) (out : Output) (w' : World)
    → w' ≡ world_with w n b out
    → Both c w n b out
    → Tells c w n b out
    → Holds c w
    → Holds c w'
made c w n b out w' after both tells h =
    subst (Holds c) (sym after) (record {
      hubs = hubs_kept c.queue_names w n b out both.frames h.hubs both.adds;
      rest = rest_kept c w n b out h.rest both.places;
      interests = interests_kept c w n b out h.interests tells;
    })

-- the frames of a publish
no_news : (c : Config) (starts : List (ℕ × ℕ)) (changes : List Noted) (ms : List Routed) (t : Frame)
    → In t (map Message ms)
    → FrameOk c starts changes t
no_news c starts changes [] t i = absurd i
no_news c starts changes (m ∷ ms) t i =
    ⊎_elim (λ (e : t ≡ Message m). subst (FrameOk c starts changes) (sym e) tt)
    (λ (k : In t (map Message ms)). no_news c starts changes ms t k) i

abbrev Is : Routed → Frame → Type 0
Is m (Message x) = m ≡ x
Is m (Interest t) = ⊥
Is m (Greeting o v) = ⊥

is_message : (xs : List Frame) (m : Routed) → In (Message m) xs → In m (messages xs)
is_message [] m i = absurd i
is_message (Message x ∷ fs) m i =
    ⊎_elim (λ (e : Message m ≡ Message x). inl (subst (Is m) e refl))
    (λ (k : In (Message m) fs). inr (is_message fs m k)) i
is_message (Interest t ∷ fs) m i =
    ⊎_elim (λ (e : Message m ≡ Interest t). absurd (subst (Is m) e refl)) (λ (k : In (Message m) fs). is_message fs m k)
    i
is_message (Greeting o v ∷ fs) m i =
    ⊎_elim (λ (e : Message m ≡ Greeting o v). absurd (subst (Is m) e refl))
    (λ (k : In (Message m) fs). is_message fs m k) i

-- a step at a node of which the hub's interest and its views stay
quiet_tells : (c : Config) (w : World) (n : ℕ) (a b : Node) (out : Output)
    → InterestIs c w.past n a.inc a.hub
    → b.inc ≡ a.inc
    → b.hub.changed ≡ a.hub.changed
    → b.hub.interest ≡ a.hub.interest
    → b.hub.peers ≡ a.hub.peers
    → out.changes ≡ []
    → Each (FrameOk c w.past.started (w.past.changes ++ out.changes)) out.frames
    → Tells c w n b out
quiet_tells c w n a b out h inc changed interest peers none frames =
    nothing_is_told c w n b out a.hub (subst (λ v. InterestIs c w.past n v a.hub) (sym inc) h) none frames changed
    interest (λ o p e. h.peers o p (ap (λ (x : List Peer). slice_get x o) (sym peers) ∙ e))

no_frames : (P : Frame → Type 0) (out : Output) → out.frames ≡ [] → Each P out.frames
no_frames P out none = λ t i. absurd (subst (In t) none i)

-- a frame that is handed in was sent
abbrev WasSent : World → NodeEvent → Type 0
WasSent w (Publish content) = Unit {0}
WasSent w (Receive f) = In f w.past.sent
WasSent w (Announce changes) = Unit {0}
WasSent w (OnShard s e) = Unit {0}

own_sent : (w : World) (e : NodeEvent) → IsOwn e → WasSent w e
own_sent w (Publish content) i = tt
own_sent w (Receive f) i = absurd i
own_sent w (Announce changes) i = tt
own_sent w (OnShard s e) i = tt

-- an event of a shard changes no interest, and sends nothing
shard_quiet : (c : Config) (n now s : ℕ) (a : Node) (e : ShardEvent) (out : Output) (b : Node)
    → AtShard every_rule c n now s a e out b
    → (out.changes ≡ []) × (out.frames ≡ [])
shard_quiet c n now s a e out b p = go e p.steps
  where
    by : (o : Output) → out ≡ o → o.changes ≡ [] → o.frames ≡ [] → (out.changes ≡ []) × (out.frames ≡ [])
    by o is changes frames = (ap (λ (x : Output). x.changes) is ∙ changes, ap (λ (x : Output). x.frames) is ∙ frames)

    go : (e : ShardEvent)
        → ShardStep every_rule c n a.inc now s a.race p.old e out p.new p.race
        → (out.changes ≡ []) × (out.frames ≡ [])
    go (Subscribe connection sid pattern queue) q = by _ q.0.out_is refl refl
    go (Close closed) q = by _ q.0.out_is refl refl
    go Begin q = by _ q.0.out_is refl refl
    go Claim q =
        ⊎_elim (λ (v : Wins every_rule c n a.inc now s a.race p.old out p.new p.race). by _ v.out_is refl refl)
        (λ (v : Passes c.window a.race p.old out p.new p.race). by _ v.out_is refl refl) q
    go End q = by _ q.0.out_is refl refl
    go Drop q = by _ q.0.out_is refl refl

record Kept (c : Config) (w : World) (n : ℕ) (b : Node) (out : Output) : Type 0 where
  both : Both c w n b out
  tells : Tells c w n b out

node_step : (c : Config) (w : World) (n : ℕ) (a : Node) (e : NodeEvent) (out : Output) (b : Node) → WasSent w e
    → Holds c w → HubOk w n a → NodeOk c w n a → InterestIs c w.past n a.inc a.hub
    → NodeStep every_rule c n (suc w.step) a e out b → Kept c w n b out
node_step c w n a (Publish content) out b own h k nk i s =
    let none = ap (λ (x : Output). x.changes) s.out_is in
    let hub : b.hub ≡ record a.hub { published = suc a.hub.published } =
    ap (λ (x : Node). x.hub) s.after ∙ s.publishes.after in
    record {
      both = published c w n a content out b h.hubs h.rest k nk s;
      tells =
          quiet_tells c w n a b out i (ap (λ (x : Node). x.inc) s.after) (ap (λ (x : Hub). x.changed) hub)
          (ap (λ (x : Hub). x.interest) hub) (ap (λ (x : Hub). x.peers) hub) none (λ t l.
          no_news c w.past.started (w.past.changes ++ out.changes) s.frames t
          (subst (In t) (ap (λ (x : Output). x.frames) s.out_is) l));
    }
node_step c w n a (Receive (Message m)) out b own h k nk i s =
    let sent = is_message w.past.sent m own in
    let source = (h.hubs.frames m sent).published in
    let started = subst (λ (d : PubId). In (d.origin, d.inc) w.past.started) source.source_id
    (h.hubs.publications source.source source.source_in).started in
    let hub : b.hub ≡ s.hub = ap (λ (x : Node). x.hub) s.after in
    let q = hub ∙ s.receives.after in
    record {
      both = received c w n a m out b h.hubs h.rest k nk sent s;
      tells =
          nothing_is_told c w n b out a.hub
          (subst (λ v. InterestIs c w.past n v a.hub) (sym (ap (λ (x : Node). x.inc) s.after)) i)
          (ap (λ (x : Output). x.changes) s.out_is) (no_frames _ out (ap (λ (x : Output). x.frames) s.out_is))
          (ap (λ (x : Hub). x.changed) q) (ap (λ (x : Hub). x.interest) q) (λ o p e.
          after_message c w n a.inc a.hub m s.hub started i s.receives o p
          (ap (λ (x : Hub). slice_get x.peers o) (sym hub) ∙ e));
    }
node_step c w n a (Receive (Interest t)) out b own h k nk i s =
    let hub : b.hub ≡ s.hub = ap (λ (x : Node). x.hub) s.after in
    let q = hub ∙ s.hears.after in
    record {
      both = news_are_heard c w n a t out b h.rest k nk s;
      tells =
          nothing_is_told c w n b out a.hub
          (subst (λ v. InterestIs c w.past n v a.hub) (sym (ap (λ (x : Node). x.inc) s.after)) i)
          (ap (λ (x : Output). x.changes) s.out_is) (no_frames _ out (ap (λ (x : Output). x.frames) s.out_is))
          (ap (λ (x : Hub). x.changed) q) (ap (λ (x : Hub). x.interest) q) (λ o p e.
          after_news c w n a.inc a.hub t s.hub (h.interests.frames (Interest t) own) i s.hears o p
          (ap (λ (x : Hub). slice_get x.peers o) (sym hub) ∙ e));
    }
node_step c w n a (Receive (Greeting origin inc)) out b own h k nk i s =
    let hub : b.hub ≡ s.hub = ap (λ (x : Node). x.hub) s.after in
    let q = hub ∙ s.meets.after in
    let none = ap (λ (x : Output). x.changes) s.out_is in
    let l = changes_of w.past.changes n a.inc in
    record {
      both = met c w n a origin inc out b h.rest k nk s;
      tells =
          nothing_is_told c w n b out a.hub
          (subst (λ v. InterestIs c w.past n v a.hub) (sym (ap (λ (x : Node). x.inc) s.after)) i) none
          (λ t x.
          subst (λ y. FrameOk c w.past.started (w.past.changes ++ y) t) (sym none)
          (own_frames c w.past n a.inc a.hub [] a.hub i.started i.changed (omega arith)
          (i.interest ∙ ap (λ v. view_after c.follow l v []) i.changed ∙ sym (view_both c.follow l [] [])) t
          (s.told t (subst (In t) (ap (λ (x : Output). x.frames) s.out_is) x))))
          (ap (λ (x : Hub). x.changed) q) (ap (λ (x : Hub). x.interest) q) (λ o p e.
          after_greeting c w n a.inc a.hub origin inc s.hub (h.interests.frames (Greeting origin inc) own) i s.meets o p
          (ap (λ (x : Hub). slice_get x.peers o) (sym hub) ∙ e));
    }
node_step c w n a (Announce changes) out b own h k nk i s = record {
  both = announced c w n a changes out b h.rest k nk s;
  tells =
      after_announcement c w n a b changes s.frames out i
      (subst (HubAnnounces c n a.inc a.hub changes s.frames) (sym (ap (λ (x : Node). x.hub) s.after)) s.announces)
      (ap (λ (x : Node). x.inc) s.after) (ap (λ (x : Output). x.changes) s.out_is)
      (ap (λ (x : Output). x.frames) s.out_is);
}
node_step c w n a (OnShard sh e) out b own h k nk i s =
    let quiet = shard_quiet c n (suc w.step) sh a e out b s in
    record {
      both = on_shard c w n sh a e out b h.hubs h.rest k nk s;
      tells =
          quiet_tells c w n a b out i (ap (λ (x : Node). x.inc) s.after) (ap (λ (x : Node). x.hub.changed) s.after)
          (ap (λ (x : Node). x.hub.interest) s.after) (ap (λ (x : Node). x.hub.peers) s.after) quiet.0
          (no_frames _ out quiet.1);
    }

acts : (c : Config) (w : World) (n : ℕ) (e : NodeEvent) (w' : World) → WasSent w e → Acts every_rule c w n e w'
    → Holds c w → Holds c w'
acts c w n e w' own s h =
    let kept = node_step c w n s.before e s.out s.new own h (h.hubs.nodes n s.before s.before_is s.up)
    (h.rest.nodes n s.before s.before_is s.up) (h.interests.nodes n s.before s.before_is s.up) s.steps in
    made c w n s.new s.out w' s.after kept.both kept.tells h

-- A step, and a run

happens : (c : Config) (w : World) (e : Event) (w' : World) → Happens every_rule c w e w' → Holds c w → Holds c w'
happens c w (Start n inc) w' s h = subst (Holds c) (sym s.after) (started c w n inc s.fresh h)
happens c w (Stop n) w' s h =
    let a = s.before in
    let k = h.hubs.nodes n a s.before_is s.was_up in
    let out : Output = record nothing { closings = all_closings n a.inc (suc w.step) 0 a.shards } in
    made c w n no_node out w' s.after (stopped c w n a h.rest k (h.rest.nodes n a s.before_is s.was_up))
    (record { changes = λ x i. absurd i; frames = λ t i. absurd i; hub = λ up. absurd (true≢false (sym up)) }) h
happens c w (Hand n number) w' s h =
    acts c w n (Receive s.frame) w' (in_read w.past.sent number s.frame s.frame_is) s.acts h
happens c w (At n e) w' s h = acts c w n e w' (own_sent w e s.0) s.1 h

pub kept : (c : Config) (w : World) (e : Event) (w' : World) → Step every_rule c w e w' → Holds c w → Holds c w'
kept c w e w' s h =
    ⊎_elim (λ (d : Happens every_rule c w e w'). happens c w e w' d h)
    (λ (same : w' ≡ record w { step = suc w.step }). subst (Holds c) (sym same) (passed c w h)) s

pub over : (c : Config) (w : World) (es : List Event) (w' : World) → Run every_rule c w es w' → Holds c w → Holds c w'
over c w [] w' r h = subst (Holds c) (sym r) h
over c w (e ∷ es) w' r h = over c r.0 es w' r.2 (kept c w e r.0 r.1 h)

pub reached : (c : Config) (w : World) → Reached every_rule c w → Holds c w
reached c w r = over c (begin c) r.events w r.run (at_first c)

-- What it says

pub headline_of : (c : Config) (w : World) → Holds c w → Headline c w.past
headline_of c w h = record {
  plain_once =
      pairs_weaker InOrder PlainOnce w.past.placements
      (λ p q i k v mode id life.
      let lt = v life (ap (λ (d : PubId). d.origin) id) (ap (λ (d : PubId). d.inc) id) in
      let is = ap (λ (d : PubId). d.number) id in
      omega arith)
      h.rest.in_order;
  one_member = h.rest.one_member;
  published = λ p i. (h.rest.placed p i).published;
  owed = λ p i. (h.rest.placed p i).owed;
  in_order = h.rest.in_order;
}

pub unique_of : (c : Config) (w : World) → Holds c w → Unique w.past
unique_of c w h = record {
  publications = h.hubs.ids;
  lives = h.rest.life_ids;
  closings = h.rest.closed_once;
  opened = λ x i. (h.rest.closings x i).opened;
}

pub routing_of : (c : Config) (w : World) → Holds c w → Routing c w.past
routing_of c w h = record {
  one_frame =
      pairs_weaker RoutedApart OneFrame (messages w.past.sent) (λ f g i k v e. (v.other e, v.names e))
      h.hubs.frames_apart;
  split = λ j i f k at e.
      ⊎_elim (λ (l : Local (messages w.past.sent) j). l.names f k e)
      (λ (r : Remote (messages w.past.sent) j). absurd (r.other (sym at))) (h.hubs.jobs j i).source;
  accepted_once =
      pairs_weaker JobsApart AcceptedOnce w.past.jobs (λ i j k l v e. (v.node e, v.names e)) h.hubs.jobs_apart;
  few_in_frame = λ f i. (h.hubs.frames f i).few;
  few_in_job = λ j i. (h.hubs.jobs j i).few;
}

line_of : (jobs : List Job) (n inc issued : ℕ) (sh : Shard)
    → LineIs jobs n inc issued sh.finished sh.hand sh.waiting
    → IsLine sh
line_of jobs n inc issued sh h = go sh.hand h
  where
    go : (hand : Option Job) → LineIs jobs n inc issued sh.finished hand sh.waiting → IsLine (record sh { hand = hand })
    go None k = record { rising = k.line; unfinished = k.ahead }
    go (Some j) k =
        let turn = (k.in_hand j refl).1 in
        record {
          rising = ((λ i l. let lt = k.ahead i l in omega arith), k.line);
          unfinished =
              each_cons (λ i. sh.finished < i.turn) j sh.waiting (omega arith)
              (λ i l. let lt = k.ahead i l in omega arith);
        }

pub lines_of : (c : Config) (w : World) → Holds c w → EachShard IsLine w
lines_of c w h n a e up s sh f =
    line_of w.past.jobs n a.inc a.race.issued sh ((h.rest.nodes n a e up).shards s sh f).line

pub views_of : (c : Config) (w : World) → Holds c w → EachView c w
views_of c w h n a e up = (h.interests.nodes n a e up).peers
