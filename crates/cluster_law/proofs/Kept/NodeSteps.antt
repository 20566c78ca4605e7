-- Each step of a node keeps what holds of publications, messages, jobs, subscriptions and placements: the cases of the
-- step, put together.
use Rattle.std.proofs.Common.{◌++◌, slice_get, Some, ◌≡◌, ◌≢◌, ℕ, suc, ◌+◌, ◌≤◌, List, [], ◌∷◌, map, None, true≢false, refl, sym, ap, ◌∙◌, subst, ⊎_elim, arith, inl, inr}
use Rattle.list_laws.specs.Lists.{In, Each, Pairs}
use Rattle.cluster_law.specs.Names.{LifeId}
use Rattle.cluster_law.specs.Messages.{Content, Routed, News, Frame, Message, Interest, Greeting, messages}
use Rattle.cluster_law.specs.Interest.{Change}
use Rattle.cluster_law.specs.Config.{Config, every_rule}
use Rattle.cluster_law.specs.History.{Job, Life, Closing, Placement, Output, nothing}
use Rattle.cluster_law.specs.Hub.{Peer, Hub, IsTold, next_id}
use Rattle.cluster_law.specs.Race.{Race, KeptOver, Keeps}
use Rattle.cluster_law.specs.Shard.{Subscription, Shard, life_id, closings_of, Wins, Passes, ShardEvent, Subscribe, Close, Begin, Claim, End, Drop, ShardStep}
use Rattle.cluster_law.specs.Node.{Node, shard_with_job, next_job, Publishes, Receives, Hears, Meets, Announces, AtShard}
use Rattle.cluster_law.specs.Cluster.{World, no_node, all_closings}
use Rattle.list_laws.proofs.Lists.{in_append, in_left, pairs_append, pairs_map, pairs_weaker, read_map, moved, in_map}
use Rattle.cluster_law.proofs.Kept.Invariants.{HubOk, Hubs, Passed, ShardOk, SubscriptionOk, NodeOk, Rest, LineIs}
use Rattle.cluster_law.proofs.Kept.Hubs.{Adds, quiet, still, gone}
use Rattle.cluster_law.proofs.Kept.HubEvents.{publishes, receives, marks_set, passed_known}
use Rattle.cluster_law.proofs.Kept.Shards.{Places, hub_step, Queued, line_more, line_push, room_of}
use Rattle.cluster_law.proofs.Kept.ShardEvents.{ShardAdds, shard_places, shard_node, shard_out, begun_le, there, line_begin, line_end}
use Rattle.cluster_law.proofs.Kept.ShardSteps.{quiet_shard, subscribe_step, close_step, begin_step, claim_step}

pub record Both (c : Config) (w : World) (n : ℕ) (b : Node) (out : Output) : Type 0 where
  pub frames : List Routed
  pub adds : Adds c.queue_names w n b out frames
  pub places : Places c w n b out

-- each shard's line after a new job
all_queued : (c : Config) (w : World) (n : ℕ) (a b : Node) (out : Output) (j : Job)
    → NodeOk c w n a
    → j.node ≡ n
    → j.inc ≡ a.inc
    → j.turn ≡ suc a.race.issued
    → b.shards ≡ map (shard_with_job j) a.shards
    → b.inc ≡ a.inc
    → b.race.issued ≡ suc a.race.issued
    → out.jobs ≡ j ∷ []
    → (s : ℕ) (sh : Shard)
    → slice_get b.shards s ≡ Some sh
    → Queued w n a b out s sh
all_queued c w n a b out j nk at my turn shards inc issued jobs s sh e =
    let m = read_map (shard_with_job j) a.shards s sh (ap (λ (l : List Shard). slice_get l s) (sym shards) ∙ e) in
    record {
      old = m.0;
      old_is = m.1;
      waiting = m.0.waiting ++ j ∷ [];
      is = m.2;
      line =
          subst (λ (y : List Job).
          LineIs (w.past.jobs ++ y) n b.inc b.race.issued m.0.finished m.0.hand (m.0.waiting ++ j ∷ []))
          (sym jobs)
          (subst
          (λ (y : ℕ). LineIs (w.past.jobs ++ j ∷ []) n y b.race.issued m.0.finished m.0.hand (m.0.waiting ++ j ∷ []))
          (sym inc)
          (subst (λ (y : ℕ). LineIs (w.past.jobs ++ j ∷ []) n a.inc y m.0.finished m.0.hand (m.0.waiting ++ j ∷ []))
          (sym issued)
          (line_push w.past.jobs n a.inc a.race.issued m.0.finished m.0.hand m.0.waiting j at my turn
          (nk.shards s m.0 m.1).line)));
    }

pub published : (c : Config) (w : World) (n : ℕ) (a : Node) (content : Content) (out : Output) (b : Node)
    → Hubs c.queue_names w → Rest c w → HubOk w n a → NodeOk c w n a
    → Publishes every_rule c n (suc w.step) a content out b → Both c w n b out
published c w n a content out b h r k nk s =
    let d = publishes c w n a content out b s h k in
    let j = next_job n a (next_id n a.inc a.hub) content s.names in
    let inc : b.inc ≡ a.inc = ap (λ (x : Node). x.inc) s.after in
    let race : b.race ≡ s.race = ap (λ (x : Node). x.race) s.after in
    let issued : b.race.issued ≡ suc a.race.issued = ap (λ (x : Race). x.issued) race ∙ s.issues.issued in
    record {
      frames = s.frames;
      adds = d;
      places =
          hub_step c w n a b out r nk inc (omega arith)
          (subst
          (λ (x : Race). (t : ℕ) (sh : Shard) → slice_get a.shards t ≡ Some sh → x.issued ≤ sh.finished + c.window)
          (sym race) (room_of c a.race s.race a.shards s.issues))
          (all_queued c w n a b out j nk refl refl refl (ap (λ (x : Node). x.shards) s.after) inc issued
          (ap (λ (x : Output). x.jobs) s.out_is))
          (subst (λ (x : Race). KeptOver c.window x.issued a.race.won x.won) (sym race) s.issues.kept)
          (λ i l. (d.jobs i l).0) d.jobs_cross (ap (λ (x : Output). x.lives) s.out_is)
          (ap (λ (x : Output). x.closings) s.out_is) (ap (λ (x : Output). x.placements) s.out_is);
    }

pub received : (c : Config) (w : World) (n : ℕ) (a : Node) (f : Routed) (out : Output) (b : Node) → Hubs c.queue_names w
    → Rest c w → HubOk w n a → NodeOk c w n a → In f (messages w.past.sent) → Receives every_rule c n a f out b
    → Both c w n b out
received c w n a f out b h r k nk sent s =
    let d = receives c w n a f out b s h k sent in
    let j = next_job n a f.id f.content f.names in
    let inc : b.inc ≡ a.inc = ap (λ (x : Node). x.inc) s.after in
    let race : b.race ≡ s.race = ap (λ (x : Node). x.race) s.after in
    let issued : b.race.issued ≡ suc a.race.issued = ap (λ (x : Race). x.issued) race ∙ s.issues.issued in
    record {
      frames = [];
      adds = d;
      places =
          hub_step c w n a b out r nk inc (omega arith)
          (subst
          (λ (x : Race). (t : ℕ) (sh : Shard) → slice_get a.shards t ≡ Some sh → x.issued ≤ sh.finished + c.window)
          (sym race) (room_of c a.race s.race a.shards s.issues))
          (all_queued c w n a b out j nk refl refl refl (ap (λ (x : Node). x.shards) s.after) inc issued
          (ap (λ (x : Output). x.jobs) s.out_is))
          (subst (λ (x : Race). KeptOver c.window x.issued a.race.won x.won) (sym race) s.issues.kept)
          (λ i l. (d.jobs i l).0) d.jobs_cross (ap (λ (x : Output). x.lives) s.out_is)
          (ap (λ (x : Output). x.closings) s.out_is) (ap (λ (x : Output). x.placements) s.out_is);
    }

-- News, greetings and announcements

abbrev Marks : World → ℕ → ℕ → Hub → Type 0
Marks w n inc hub =
    (o : ℕ) (p : Peer)
    → slice_get hub.peers o ≡ Some p
    → Each (λ j. j.node ≡ n → j.inc ≡ inc → o ≢ n → j.id.origin ≡ o → Passed p j.id) w.past.jobs

-- only the hub changes, and publications, messages and jobs are not added
told : (c : Config) (w : World) (n : ℕ) (a b : Node) (out : Output) (hub : Hub)
    → Rest c w
    → HubOk w n a
    → NodeOk c w n a
    → hub.published ≡ a.hub.published
    → Marks w n a.inc hub
    → out.publications ≡ []
    → messages out.frames ≡ []
    → out.jobs ≡ []
    → out.lives ≡ []
    → out.closings ≡ []
    → out.placements ≡ []
    → b ≡ record a { hub = hub }
    → Both c w n b out
told c w n a b out hub r k nk published marks pubs frames jobs lives closings placements after =
    let x : Node = record a { hub = hub } in
    let d = quiet c.queue_names w n a x out k refl published refl pubs frames jobs marks in
    let no_job : (j : Job) → In j out.jobs → ⊥ = λ j i. subst (In j) jobs i in
    subst (λ (y : Node). Both c w n y out) (sym after) (record {
      frames = [];
      adds = d;
      places =
          hub_step c w n a x out r nk refl (omega arith) (λ s sh e. (nk.shards s sh e).room)
          (λ s sh e. record {
            old = sh;
            old_is = e;
            waiting = sh.waiting;
            is = refl;
            line =
                line_more w.past.jobs out.jobs n a.inc a.race.issued a.race.issued sh.finished sh.hand sh.waiting
                (omega arith) (nk.shards s sh e).line;
          })
          (λ t y lt. ((λ i. i), (λ i. i))) (λ i l. absurd (no_job i l)) d.jobs_cross lives closings placements;
    })

pub news_are_heard : (c : Config) (w : World) (n : ℕ) (a : Node) (t : News) (out : Output) (b : Node) → Rest c w
    → HubOk w n a → NodeOk c w n a → Hears every_rule c n a t out b → Both c w n b out
news_are_heard c w n a t out b r k nk s =
    let q = s.hears in
    told c w n a b out s.hub r k nk (ap (λ (x : Hub). x.published) q.after)
    (subst (Marks w n a.inc) (sym q.after)
    (marks_set w.past.jobs n a.inc a.hub t.origin _ (λ o p apart e. k.marks o p e) (λ i l at my far same.
    passed_known q.peer q.base t.inc i.id q.known (k.marks t.origin q.peer q.peer_is i l at my far same))))
    (ap (λ (x : Output). x.publications) s.out_is) (ap (λ (x : Output). messages x.frames) s.out_is)
    (ap (λ (x : Output). x.jobs) s.out_is) (ap (λ (x : Output). x.lives) s.out_is)
    (ap (λ (x : Output). x.closings) s.out_is) (ap (λ (x : Output). x.placements) s.out_is) s.after

no_messages : (n inc : ℕ) (old : Hub) (changes : List Change) (new : Hub) (fs : List Frame)
    → Each (IsTold n inc old changes new) fs
    → messages fs ≡ []
no_messages n inc old changes new [] told = refl
no_messages n inc old changes new (Message m ∷ fs) told = absurd (told (Message m) (inl refl))
no_messages n inc old changes new (Interest t ∷ fs) told = no_messages n inc old changes new fs (λ f i. told f (inr i))
no_messages n inc old changes new (Greeting o v ∷ fs) told =
    no_messages n inc old changes new fs (λ f i. told f (inr i))

pub met : (c : Config) (w : World) (n : ℕ) (a : Node) (origin inc : ℕ) (out : Output) (b : Node) → Rest c w
    → HubOk w n a → NodeOk c w n a → Meets every_rule n a origin inc out b → Both c w n b out
met c w n a origin inc out b r k nk s =
    let q = s.meets in
    told c w n a b out s.hub r k nk (ap (λ (x : Hub). x.published) q.after)
    (subst (Marks w n a.inc) (sym q.after)
    (marks_set w.past.jobs n a.inc a.hub origin q.base (λ o p apart e. k.marks o p e) (λ i l at my far same.
    passed_known q.peer q.base inc i.id q.known (k.marks origin q.peer q.peer_is i l at my far same))))
    (ap (λ (x : Output). x.publications) s.out_is)
    (ap (λ (x : Output). messages x.frames) s.out_is ∙ no_messages n a.inc a.hub [] a.hub s.frames s.told)
    (ap (λ (x : Output). x.jobs) s.out_is) (ap (λ (x : Output). x.lives) s.out_is)
    (ap (λ (x : Output). x.closings) s.out_is) (ap (λ (x : Output). x.placements) s.out_is) s.after

pub announced : (c : Config) (w : World) (n : ℕ) (a : Node) (changes : List Change) (out : Output) (b : Node) → Rest c w
    → HubOk w n a → NodeOk c w n a → Announces c n a changes out b → Both c w n b out
announced c w n a changes out b r k nk s =
    let q = s.announces in
    told c w n a b out s.hub r k nk (ap (λ (x : Hub). x.published) q.after)
    (subst (Marks w n a.inc) (sym q.after) k.marks) (ap (λ (x : Output). x.publications) s.out_is)
    (ap (λ (x : Output). messages x.frames) s.out_is ∙ no_messages n a.inc a.hub changes s.hub s.frames q.told)
    (ap (λ (x : Output). x.jobs) s.out_is) (ap (λ (x : Output). x.lives) s.out_is)
    (ap (λ (x : Output). x.closings) s.out_is) (ap (λ (x : Output). x.placements) s.out_is) s.after

-- Events of a shard

-- a race that is the same over the window
another_race : (c : Config) (w : World) (n s : ℕ) (a : Node) (new : Shard) (race : Race) (lives : List Life)
    (closings : List Closing) (placements : List Placement)
    → Keeps c.window a.race race
    → ShardAdds c w n s a new a.race lives closings placements
    → ShardAdds c w n s a new race lives closings placements
another_race c w n s a new race lives closings placements k d = record {
  placed = d.placed;
  opened = d.opened;
  closed = d.closed;
  closed_once = d.closed_once;
  closed_once_cross = d.closed_once_cross;
  life_ids = d.life_ids;
  life_ids_cross = d.life_ids_cross;
  in_order = d.in_order;
  in_order_cross = d.in_order_cross;
  one_member = d.one_member;
  one_member_cross = d.one_member_cross;
  shard = d.shard;
  issued = k.issued;
  won_kept = λ t x lt i. (k.kept t x lt).0 i;
  won_new = λ j p x q i l at my id mode name lt. (k.kept j.turn x lt).0 (d.won_new j p x q i l at my id mode name lt);
}

-- what a shard adds, seen at the node
by_shard : (c : Config) (w : World) (n s : ℕ) (a : Node) (new : Shard) (race : Race) (lives : List Life)
    (closings : List Closing) (placements : List Placement) (out : Output) (now : Shard) (after_race : Race) (b : Node)
    → HubOk w n a
    → NodeOk c w n a
    → ShardAdds c w n s a new race lives closings placements
    → out ≡ shard_out lives closings placements
    → now ≡ new
    → after_race ≡ race
    → b ≡ shard_node a s now after_race
    → Both c w n b out
by_shard c w n s a new race lives closings placements out now after_race b k nk d out_is new_is race_is after =
    moved (Both c w n) b (shard_node a s new race) out (shard_out lives closings placements)
    (after ∙ (λ i. shard_node a s (new_is i) (race_is i))) out_is (record {
      frames = [];
      adds =
          still c.queue_names w n a (shard_node a s new race) (shard_out lives closings placements) k refl refl d.issued
          refl refl refl;
      places = shard_places c w n s a new race lives closings placements k nk d;
    })

pub on_shard : (c : Config) (w : World) (n s : ℕ) (a : Node) (e : ShardEvent) (out : Output) (b : Node)
    → Hubs c.queue_names w → Rest c w → HubOk w n a → NodeOk c w n a → AtShard every_rule c n (suc w.step) s a e out b
    → Both c w n b out
on_shard c w n s a e out b h r k nk p = go e p.steps
  where
    sk : ShardOk c w n a.inc a.race.issued s p.old
    sk = nk.shards s p.old p.old_is

    go : (e : ShardEvent)
        → ShardStep every_rule c n a.inc (suc w.step) s a.race p.old e out p.new p.race
        → Both c w n b out
    go (Subscribe connection sid pattern queue) q =
        by_shard c w n s a _ p.race _ _ _ out p.new p.race b k nk
        (another_race c w n s a _ p.race _ _ _ q.1 (subscribe_step c w n s a p.old connection sid pattern queue sk))
        q.0.out_is q.0.after refl p.after
    go (Close closed) q =
        by_shard c w n s a _ p.race _ _ _ out p.new p.race b k nk
        (another_race c w n s a _ p.race _ _ _ q.1 (close_step c w n s a p.old closed r sk q.0.are_open)) q.0.out_is
        q.0.after refl p.after
    go Begin q =
        by_shard c w n s a _ p.race _ _ _ out p.new p.race b k nk
        (another_race c w n s a _ p.race _ _ _ q.1
        (begin_step c w n s a p.old q.0.job q.0.rest q.0.placed q.0.closed h r k sk q.0.free q.0.first q.0.turn q.0.owed
        q.0.once q.0.are_open))
        q.0.out_is q.0.after refl p.after
    go Claim q =
        ⊎_elim (λ (v : Wins every_rule c n a.inc (suc w.step) s a.race p.old out p.new p.race).
        by_shard c w n s a _ p.race _ _ _ out p.new p.race b k nk
        (claim_step c w n s a p.old v.job v.name v.chosen p.race v.closed h r k nk sk v.in_hand v.name_is v.wins
        v.is_open v.member v.matches v.are_open)
        v.out_is v.after refl p.after)
        (λ (v : Passes c.window a.race p.old out p.new p.race).
        by_shard c w n s a _ p.race _ _ _ out p.new p.race b k nk
        (another_race c w n s a _ p.race _ _ _ v.keeps
        (quiet_shard c w n s a p.old p.old.finished (suc p.old.next) p.old.hand p.old.waiting sk sk.line (omega arith)
        (omega arith)))
        v.out_is v.after refl p.after)
        q
    go End q =
        by_shard c w n s a _ p.race _ _ _ out p.new p.race b k nk
        (another_race c w n s a _ p.race _ _ _ q.1
        (quiet_shard c w n s a p.old (suc p.old.finished) 0 None p.old.waiting sk
        (line_end w.past.jobs n a.inc a.race.issued p.old.finished p.old.hand p.old.waiting q.0.job q.0.in_hand sk.line)
        (omega arith) (begun_le p.old.hand p.old.finished)))
        q.0.out_is q.0.after refl p.after
    go Drop q =
        by_shard c w n s a _ p.race _ _ _ out p.new p.race b k nk
        (another_race c w n s a _ p.race _ _ _ q.1
        (quiet_shard c w n s a p.old (suc p.old.finished) 0 None q.0.rest sk
        (⊎_elim (λ (v : (p.old.hand ≡ Some q.0.job) × (q.0.rest ≡ p.old.waiting)).
        subst (LineIs w.past.jobs n a.inc a.race.issued (suc p.old.finished) None) (sym v.1)
        (line_end w.past.jobs n a.inc a.race.issued p.old.finished p.old.hand p.old.waiting q.0.job v.0 sk.line))
        (λ (v : (p.old.hand ≡ None) × (p.old.waiting ≡ q.0.job ∷ q.0.rest) × (q.0.job.turn ≡ suc p.old.finished)).
        line_end w.past.jobs n a.inc a.race.issued p.old.finished (Some q.0.job) q.0.rest q.0.job refl
        (line_begin w.past.jobs n a.inc a.race.issued p.old.finished p.old.hand p.old.waiting q.0.job q.0.rest v.1 v.2
        sk.line))
        q.0.which)
        (omega arith) (begun_le p.old.hand p.old.finished)))
        q.0.out_is q.0.after refl p.after

-- A stop

-- a closing of a subscription that some shard held, the first of these being shard s
record FromShard (n inc now s : ℕ) (shards : List Shard) (x : Closing) : Type 0 where
  place : ℕ
  sh : Shard
  sh_is : slice_get shards place ≡ Some sh
  u : Subscription
  u_in : In u sh.subscriptions
  shard : ℕ
  shard_is : shard ≡ s + place
  life : x.life ≡ life_id n inc shard u.serial
  step : x.step ≡ now

abbrev serial_of : Subscription → ℕ
serial_of u = u.serial

one_shard : (n inc now s : ℕ) (sh : Shard) (x : Closing)
    → In x (closings_of n inc s now (map serial_of sh.subscriptions))
    → (u : Subscription) × In u sh.subscriptions × (x.life ≡ life_id n inc s u.serial) × (x.step ≡ now)
one_shard n inc now s sh x i =
    let m = in_map (λ (y : ℕ). record { life = life_id n inc s y; step = now }) (map serial_of sh.subscriptions) x i in
    let u = in_map serial_of sh.subscriptions m.0 m.1 in
    (u.0, u.1, ap (λ (y : Closing). y.life) m.2 ∙ ap (life_id n inc s) u.2, ap (λ (y : Closing). y.step) m.2)

from_shard : (n inc now s : ℕ) (shards : List Shard) (x : Closing)
    → In x (all_closings n inc now s shards)
    → FromShard n inc now s shards x
from_shard n inc now s [] x i = absurd i
from_shard n inc now s (sh ∷ shs) x i =
    ⊎_elim (λ (k : In x (closings_of n inc s now (map serial_of sh.subscriptions))).
    let o = one_shard n inc now s sh x k in
    record {
      place = 0;
      sh = sh;
      sh_is = refl;
      u = o.0;
      u_in = o.1;
      shard = s;
      shard_is = omega arith;
      life = o.2;
      step = o.3;
    })
    (λ (k : In x (all_closings n inc now (suc s) shs)).
    let o = from_shard n inc now (suc s) shs x k in
    let is = o.shard_is in
    record {
      place = suc o.place;
      sh = o.sh;
      sh_is = o.sh_is;
      u = o.u;
      u_in = o.u_in;
      shard = o.shard;
      shard_is = omega arith;
      life = o.life;
      step = o.step;
    })
    (in_append x (closings_of n inc s now (map serial_of sh.subscriptions)) (all_closings n inc now (suc s) shs) i)

closings_apart : (n inc now s : ℕ) (shards : List Shard)
    → ((t : ℕ) (sh : Shard) → slice_get shards t ≡ Some sh → Pairs (λ u v. u.serial ≢ v.serial) sh.subscriptions)
    → Pairs (λ x y. x.life ≢ y.life) (all_closings n inc now s shards)
closings_apart n inc now s [] h = tt
closings_apart n inc now s (sh ∷ shs) h =
    let put : ℕ → Closing = λ y. record { life = life_id n inc s y; step = now } in
    pairs_append (λ x y. x.life ≢ y.life) (closings_of n inc s now (map serial_of sh.subscriptions))
    (all_closings n inc now (suc s) shs)
    (pairs_map (λ x y. x.life ≢ y.life) put (map serial_of sh.subscriptions)
    (pairs_map (λ x y. (put x).life ≢ (put y).life) serial_of sh.subscriptions
    (pairs_weaker (λ u v. u.serial ≢ v.serial) (λ u v. (put u.serial).life ≢ (put v.serial).life) sh.subscriptions
    (λ u v i k ne e. ne (ap (λ (d : LifeId). d.serial) e)) (h 0 sh refl))))
    (closings_apart n inc now (suc s) shs (λ t x e. h (suc t) x e)) (λ x y i k e.
    let o = one_shard n inc now s sh x i in
    let f = from_shard n inc now (suc s) shs y k in
    let at = f.shard_is in
    let same : s ≡ f.shard = ap (λ (d : LifeId). d.shard) (sym o.2 ∙ e ∙ f.life) in
    omega arith)

pub stopped : (c : Config) (w : World) (n : ℕ) (a : Node) → Rest c w → HubOk w n a → NodeOk c w n a
    → Both c w n no_node (record nothing { closings = all_closings n a.inc (suc w.step) 0 a.shards })
stopped c w n a r k nk =
    let closings = all_closings n a.inc (suc w.step) 0 a.shards in
    let of : (x : Closing)
    → In x closings
    → (u : Subscription) × (s : ℕ) × SubscriptionOk w.past.lives w.past.closings n a.inc s u
    × (x.life ≡ life_id n a.inc s u.serial) × (x.step ≡ suc w.step) = λ x i.
    let f = from_shard n a.inc (suc w.step) 0 a.shards x i in
    let at = f.shard_is in
    let same : f.place ≡ f.shard = omega arith in (
      f.u,
      f.place,
      (nk.shards f.place f.sh f.sh_is).subscriptions f.u f.u_in,
      f.life ∙ ap (λ t. life_id n a.inc t f.u.serial) (sym same),
      f.step,
    ) in
    record {
      frames = [];
      adds = gone c.queue_names w n a (record nothing { closings = closings }) k refl refl refl;
      places = record {
        late = λ x i. let is = (of x i).4 in omega arith;
        placed = λ p i. absurd i;
        lives = λ l i. absurd i;
        closings = λ x i.
            let o = of x i in
            let node = ap (λ (d : LifeId). d.node) o.3 in
            let inc = ap (λ (d : LifeId). d.inc) o.3 in (
              node,
              record {
                started = there n a.inc x.life w.past.started k.started node inc;
                opened = (
                  o.2.life,
                  in_left o.2.life w.past.lives [] o.2.life_in,
                  o.2.id ∙ sym o.3,
                  let le = (r.lives o.2.life o.2.life_in).before in let is = o.4 in omega arith,
                );
              },
            );
        closed_once = closings_apart n a.inc (suc w.step) 0 a.shards (λ t sh e. (nk.shards t sh e).apart);
        closed_once_cross = λ x y i l e. let o = of y l in o.2.still x i (e ∙ o.3);
        jobs = λ j i. absurd i;
        life_ids = tt;
        life_ids_cross = λ l m i e. absurd e;
        in_order = tt;
        in_order_cross = λ p q i e. absurd e;
        one_member = tt;
        one_member_cross = λ p q i e. absurd e;
        node = λ up. absurd (true≢false (sym up));
      };
    }
