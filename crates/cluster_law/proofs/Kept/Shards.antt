-- What holds of subscriptions and placements is kept: what all steps have in common.
use Rattle.std.proofs.Common.{refl, inl, ◌∷◌, Option, Some, ◌≡◌, ◌≢◌, ℕ, suc, ◌+◌, ◌<◌, ◌≤◌, List, [], ◌++◌, true, sym, ap, ◌∙◌, subst, ⊎_elim, arith}
use Rattle.std.specs.Prelude.{slice_get}
use Rattle.list_laws.specs.Lists.{In, Each, Pairs}
use Rattle.std.proofs.lemmas.Option.{slice_get-map}
use Rattle.std.specs.Option.{option_map}
use Rattle.cluster_law.specs.Names.{Bytes, PubId, LifeId}
use Rattle.cluster_law.specs.Config.{Config, every_rule}
use Rattle.cluster_law.specs.History.{Job, Life, Closing, Placement, Output}
use Rattle.cluster_law.specs.Race.{Race, KeptOver, Issues}
use Rattle.cluster_law.specs.Shard.{Subscription, Shard, life_id}
use Rattle.cluster_law.specs.Node.{Node, finished_turns}
use Rattle.cluster_law.specs.Cluster.{World, world_with}
use Rattle.cluster_law.specs.Headline.{InOrder, OneMember}
use Rattle.list_laws.proofs.Lists.{each_one, in_append, in_left, in_right, each_append, pairs_append, read_set}
use Rattle.cluster_law.proofs.Kept.Invariants.{ShardIs, JobsApart, PlacedOk, LifeOk, ClosingOk, SubscriptionOk, ShardOk, WonAll, NodeOk, Rest, LineIs, IsMine, begun}

-- what was placed stays as it was
pub placed_more : (c : Config) (w : World) (n : ℕ) (b : Node) (out : Output) (p : Placement)
    → Each (λ x. w.step ≤ x.step) out.closings
    → PlacedOk c w p
    → PlacedOk c (world_with w n b out) p
placed_more c w n b out p late h =
    let before = h.before in
    record {
      for_job = record {
        job = h.for_job.job;
        job_in = in_left h.for_job.job w.past.jobs out.jobs h.for_job.job_in;
        node = h.for_job.node;
        inc = h.for_job.inc;
        id = h.for_job.id;
        named = h.for_job.named;
      };
      published = record {
        source = h.published.source;
        source_in = in_left h.published.source w.past.publications out.publications h.published.source_in;
        id = h.published.id;
        content = h.published.content;
        earlier = h.published.earlier;
      };
      owed = record {
        life = h.owed.life;
        life_in = in_left h.owed.life w.past.lives out.lives h.owed.life_in;
        id = h.owed.id;
        connection = h.owed.connection;
        sid = h.owed.sid;
        mode = h.owed.mode;
        opened = h.owed.opened;
        matches = h.owed.matches;
        still =
            each_append (λ x. x.life ≡ p.life → p.step ≤ x.step) w.past.closings out.closings h.owed.still
            (λ x i e. let l = late x i in omega arith);
      };
      before = omega arith;
    }

-- what is added is elsewhere: at another node, incarnation or shard
pub record Elsewhere (n inc s : ℕ) (out : Output) : Type 0 where
  pub jobs : Each (λ j. j.node ≡ n → ⊥) out.jobs
  pub lives : Each (λ l. l.id.node ≡ n → l.id.inc ≡ inc → l.id.shard ≡ s → ⊥) out.lives
  pub closings : Each (λ x. x.life.node ≡ n → x.life.inc ≡ inc → x.life.shard ≡ s → ⊥) out.closings
  pub placements : Each (λ p. p.life.node ≡ n → p.life.inc ≡ inc → p.life.shard ≡ s → ⊥) out.placements

pub sub_more : (lives new : List Life) (closings more : List Closing) (n inc s : ℕ) (u : Subscription)
    → Each (λ x. x.life ≢ life_id n inc s u.serial) more
    → SubscriptionOk lives closings n inc s u
    → SubscriptionOk (lives ++ new) (closings ++ more) n inc s u
sub_more lives new closings more n inc s u other h = record {
  life = h.life;
  life_in = in_left h.life lives new h.life_in;
  id = h.id;
  connection = h.connection;
  sid = h.sid;
  pattern = h.pattern;
  queue = h.queue;
  still = each_append (λ x. x.life ≢ life_id n inc s u.serial) closings more h.still other;
}

pub line_more : (jobs more : List Job) (n inc issued later finished : ℕ) (hand : Option Job) (waiting : List Job)
    → issued ≤ later
    → LineIs jobs n inc issued finished hand waiting
    → LineIs (jobs ++ more) n inc later finished hand waiting
line_more jobs more n inc issued later finished hand waiting le h = record {
  in_hand = λ j e. let o = h.in_hand j e in ((in_left j jobs more o.0.0, o.0.1, o.0.2), o.1);
  mine = λ j i. let o = h.mine j i in (in_left j jobs more o.0, o.1, o.2);
  line = h.line;
  ahead = h.ahead;
  within = λ j i. let o = h.within j i in omega arith;
  reached = let o = h.reached in omega arith;
}

-- a new job, at the end of the line
pub line_push : (jobs : List Job) (n inc issued finished : ℕ) (hand : Option Job) (waiting : List Job) (j : Job)
    → j.node ≡ n
    → j.inc ≡ inc
    → j.turn ≡ suc issued
    → LineIs jobs n inc issued finished hand waiting
    → LineIs (jobs ++ j ∷ []) n inc (suc issued) finished hand (waiting ++ j ∷ [])
line_push jobs n inc issued finished hand waiting j at my turn h =
    let k = line_more jobs (j ∷ []) n inc issued (suc issued) finished hand waiting (omega arith) h in
    record {
      in_hand = k.in_hand;
      mine =
          each_append (IsMine (jobs ++ j ∷ []) n inc) waiting (j ∷ []) k.mine
          (each_one (IsMine (jobs ++ j ∷ []) n inc) j (in_right j jobs (j ∷ []) (inl refl), at, my));
      line =
          pairs_append (λ x y. x.turn < y.turn) waiting (j ∷ []) h.line ((λ y i. absurd i), tt)
          (λ x y i l. each_one (λ z. x.turn < z.turn) j (let o = h.within x i in omega arith) y l);
      ahead =
          each_append (λ x. begun hand finished < x.turn) waiting (j ∷ []) h.ahead
          (each_one (λ x. begun hand finished < x.turn) j (let o = h.reached in omega arith));
      within =
          each_append (λ x. x.turn ≤ suc issued) waiting (j ∷ []) k.within
          (each_one (λ x. x.turn ≤ suc issued) j (omega arith));
      reached = k.reached;
    }

pub shard_more : (c : Config) (w : World) (m : ℕ) (b : Node) (out : Output) (n inc issued s : ℕ) (sh : Shard)
    → Elsewhere n inc s out
    → ShardOk c w n inc issued s sh
    → ShardOk c (world_with w m b out) n inc issued s sh
shard_more c w m b out n inc issued s sh d h = record {
  line = line_more w.past.jobs out.jobs n inc issued issued sh.finished sh.hand sh.waiting (omega arith) h.line;
  room = h.room;
  begun_all = λ j p i k at my pat pmy psh e.
      ⊎_elim (λ (i1 : In j w.past.jobs).
      ⊎_elim (λ (k1 : In p w.past.placements). h.begun_all j p i1 k1 at my pat pmy psh e)
      (λ (k1 : In p out.placements). absurd (d.placements p k1 pat pmy psh))
      (in_append p w.past.placements out.placements k))
      (λ (i1 : In j out.jobs). absurd (d.jobs j i1 at)) (in_append j w.past.jobs out.jobs i);
  serials =
      each_append (λ l. l.id.node ≡ n → l.id.inc ≡ inc → l.id.shard ≡ s → l.id.serial ≤ sh.serials) w.past.lives
      out.lives h.serials (λ l i at my on. absurd (d.lives l i at my on));
  closed =
      each_append (λ x. x.life.node ≡ n → x.life.inc ≡ inc → x.life.shard ≡ s → x.life.serial ≤ sh.serials)
      w.past.closings out.closings h.closed (λ x i at my on. absurd (d.closings x i at my on));
  subscriptions = λ u i.
      sub_more w.past.lives out.lives w.past.closings out.closings n inc s u
      (λ x k e.
      d.closings x k (ap (λ (l : LifeId). l.node) e) (ap (λ (l : LifeId). l.inc) e) (ap (λ (l : LifeId). l.shard) e))
      (h.subscriptions u i);
  apart = h.apart;
}

-- what was won stays won
pub won_more : (window : ℕ) (jobs more : List Job) (placements new : List Placement) (n inc issued later : ℕ)
    (won now : List (ℕ × ℕ))
    → issued ≤ later
    → ((t x : ℕ) → later < t + window → In (t, x) won → In (t, x) now)
    → ((j : Job) (p : Placement) → In j more → In p placements → j.node ≡ n → j.inc ≡ inc → p.life.node ≡ n
    → p.life.inc ≡ inc → p.id ≡ j.id → ⊥)
    → ((j : Job) (p : Placement) (x : ℕ) (q : Bytes) → In j (jobs ++ more) → In p new → j.node ≡ n → j.inc ≡ inc
    → p.life.node ≡ n → p.life.inc ≡ inc → p.id ≡ j.id → p.mode ≡ Some q → slice_get j.names x ≡ Some q
    → later < j.turn + window → In (j.turn, x) now)
    → WonAll window jobs placements n inc issued won
    → WonAll window (jobs ++ more) (placements ++ new) n inc later now
won_more window jobs more placements new n inc issued later won now le kept none fresh h j p x q i k at my pat pmy e
    mode name lt = ⊎_elim (λ (k1 : In p placements).
    ⊎_elim (λ (i1 : In j jobs). kept j.turn x lt (h j p x q i1 k1 at my pat pmy e mode name (omega arith)))
    (λ (i1 : In j more). absurd (none j p i1 k1 at my pat pmy e)) (in_append j jobs more i))
    (λ (k1 : In p new). fresh j p x q i k1 at my pat pmy e mode name lt) (in_append p placements new k)

-- what a step adds
pub record Places (c : Config) (w : World) (n : ℕ) (b : Node) (out : Output) : Type 0 where
  pub late : Each (λ x. w.step ≤ x.step) out.closings
  pub placed : Each (λ p. (p.life.node ≡ n) × PlacedOk c (world_with w n b out) p) out.placements
  pub lives : Each (λ l. (l.id.node ≡ n) × LifeOk w.past.started (suc w.step) l) out.lives
  pub closings : Each (λ x. (x.life.node ≡ n) × ClosingOk w.past.started (w.past.lives ++ out.lives) x) out.closings
  pub closed_once : Pairs (λ x y. x.life ≢ y.life) out.closings
  pub closed_once_cross : (x y : Closing) → In x w.past.closings → In y out.closings → x.life ≢ y.life
  pub jobs : Each (λ j. j.node ≡ n) out.jobs
  pub life_ids : Pairs (λ l m. l.id ≢ m.id) out.lives
  pub life_ids_cross : (l m : Life) → In l w.past.lives → In m out.lives → l.id ≢ m.id
  pub in_order : Pairs InOrder out.placements
  pub in_order_cross : (p q : Placement) → In p w.past.placements → In q out.placements → InOrder p q
  pub one_member : Pairs OneMember out.placements
  pub one_member_cross : (p q : Placement) → In p w.past.placements → In q out.placements → OneMember p q
  pub node : b.up ≡ true → NodeOk c (world_with w n b out) n b

-- another node
node_more : (c : Config) (w : World) (n m : ℕ) (a b : Node) (out : Output)
    → m ≢ n
    → Places c w n b out
    → NodeOk c w m a
    → NodeOk c (world_with w n b out) m a
node_more c w n m a b out apart d h = record {
  shards = λ s sh e.
      shard_more c w n b out m a.inc a.race.issued s sh
      (record {
        jobs = λ j i at. apart (sym at ∙ d.jobs j i);
        lives = λ l i at my on. apart (sym at ∙ (d.lives l i).0);
        closings = λ x i at my on. apart (sym at ∙ (d.closings x i).0);
        placements = λ p i at my on. apart (sym at ∙ (d.placed p i).0);
      })
      (h.shards s sh e);
  won =
      won_more c.window w.past.jobs out.jobs w.past.placements out.placements m a.inc a.race.issued a.race.issued
      a.race.won a.race.won (omega arith) (λ t x lt i. i) (λ j p i k at my pat pmy e. apart (sym at ∙ d.jobs j i))
      (λ j p x q i k at my pat pmy e mode name. absurd (apart (sym pat ∙ (d.placed p k).0))) h.won;
}

pub rest_kept : (c : Config) (w : World) (n : ℕ) (b : Node) (out : Output)
    → Rest c w
    → Places c w n b out
    → Rest c (world_with w n b out)
rest_kept c w n b out h d = record {
  placed =
      each_append (PlacedOk c (world_with w n b out)) w.past.placements out.placements
      (λ p i. placed_more c w n b out p d.late (h.placed p i)) (λ p i. (d.placed p i).1);
  lives =
      each_append (LifeOk w.past.started (suc w.step)) w.past.lives out.lives
      (λ l i. let k = h.lives l i in record { started = k.started; before = let le = k.before in omega arith })
      (λ l i. (d.lives l i).1);
  closings =
      each_append (ClosingOk w.past.started (w.past.lives ++ out.lives)) w.past.closings out.closings
      (λ x i.
      let o = h.closings x i in
      record {
        started = o.started;
        opened = (o.opened.0, in_left o.opened.0 w.past.lives out.lives o.opened.1, o.opened.2, o.opened.3);
      })
      (λ x i. (d.closings x i).1);
  closed_once =
      pairs_append (λ x y. x.life ≢ y.life) w.past.closings out.closings h.closed_once d.closed_once
      d.closed_once_cross;
  life_ids = pairs_append (λ l m. l.id ≢ m.id) w.past.lives out.lives h.life_ids d.life_ids d.life_ids_cross;
  in_order = pairs_append InOrder w.past.placements out.placements h.in_order d.in_order d.in_order_cross;
  one_member = pairs_append OneMember w.past.placements out.placements h.one_member d.one_member d.one_member_cross;
  nodes =
      read_set (λ m a. a.up ≡ true → NodeOk c (world_with w n b out) m a) w.nodes n b
      (λ m a apart e up. node_more c w n m a b out apart d (h.nodes m a e up)) d.node;
}

-- A step of the hub

-- a shard got at most a job
pub record Queued (w : World) (n : ℕ) (a b : Node) (out : Output) (s : ℕ) (sh : Shard) : Type 0 where
  pub old : Shard
  pub old_is : slice_get a.shards s ≡ Some old
  pub waiting : List Job
  pub is : sh ≡ record old { waiting = waiting }
  pub line : LineIs (w.past.jobs ++ out.jobs) n b.inc b.race.issued old.finished old.hand waiting

pub hub_step : (c : Config) (w : World) (n : ℕ) (a b : Node) (out : Output)
    → Rest c w
    → NodeOk c w n a
    → b.inc ≡ a.inc
    → a.race.issued ≤ b.race.issued
    → ((s : ℕ) (sh : Shard) → slice_get a.shards s ≡ Some sh → b.race.issued ≤ sh.finished + c.window)
    → ((s : ℕ) (sh : Shard) → slice_get b.shards s ≡ Some sh → Queued w n a b out s sh)
    → KeptOver c.window b.race.issued a.race.won b.race.won
    → Each (λ j. j.node ≡ n) out.jobs
    → ((i j : Job) → In i w.past.jobs → In j out.jobs → JobsApart i j)
    → out.lives ≡ []
    → out.closings ≡ []
    → out.placements ≡ []
    → Places c w n b out
hub_step c w n a b out r h inc later room queue kept at_n apart lives closings placements =
    let no_life : (l : Life) → In l out.lives → ⊥ = λ l i. subst (In l) lives i in
    let no_closing : (x : Closing) → In x out.closings → ⊥ = λ x i. subst (In x) closings i in
    let no_placement : (p : Placement) → In p out.placements → ⊥ = λ p i. subst (In p) placements i in
    let unlike : (j : Job) (p : Placement)
    → In j out.jobs
    → In p w.past.placements
    → j.node ≡ n
    → j.inc ≡ a.inc
    → p.life.node ≡ n
    → p.life.inc ≡ a.inc
    → p.id ≡ j.id
    → ⊥ = λ j p i k at my pat pmy e.
    let f = (r.placed p k).for_job in
    let same = f.id ∙ e in
    let lt = (apart f.job j f.job_in i).number (f.node ∙ pat ∙ sym at) (f.inc ∙ pmy ∙ sym my)
    (ap (λ (d : PubId). d.origin) same) (ap (λ (d : PubId). d.inc) same) in
    let is = ap (λ (d : PubId). d.number) same in
    omega arith in
    record {
      late = λ x i. absurd (no_closing x i);
      placed = λ p i. absurd (no_placement p i);
      lives = λ l i. absurd (no_life l i);
      closings = λ x i. absurd (no_closing x i);
      closed_once = subst (Pairs (λ x y. x.life ≢ y.life)) (sym closings) tt;
      closed_once_cross = λ x y i k. absurd (no_closing y k);
      jobs = at_n;
      life_ids = subst (Pairs (λ l m. l.id ≢ m.id)) (sym lives) tt;
      life_ids_cross = λ l m i k. absurd (no_life m k);
      in_order = subst (Pairs InOrder) (sym placements) tt;
      in_order_cross = λ p q i k. absurd (no_placement q k);
      one_member = subst (Pairs OneMember) (sym placements) tt;
      one_member_cross = λ p q i k. absurd (no_placement q k);
      node = λ up. record {
        shards = λ s sh e.
            let q = queue s sh e in
            let old = q.old in
            let k = h.shards s old q.old_is in
            subst
            (ShardIs c.window (w.past.jobs ++ out.jobs) (w.past.lives ++ out.lives) (w.past.closings ++ out.closings)
            (w.past.placements ++ out.placements) n b.inc b.race.issued s)
            (sym q.is) (record {
              line = q.line;
              room = room s old q.old_is;
              begun_all = λ j p i l at my pat pmy psh same.
                  ⊎_elim (λ (l1 : In p w.past.placements).
                  ⊎_elim (λ (i1 : In j w.past.jobs). k.begun_all j p i1 l1 at (my ∙ inc) pat (pmy ∙ inc) psh same)
                  (λ (i1 : In j out.jobs). absurd (unlike j p i1 l1 at (my ∙ inc) pat (pmy ∙ inc) same))
                  (in_append j w.past.jobs out.jobs i))
                  (λ (l1 : In p out.placements). absurd (no_placement p l1))
                  (in_append p w.past.placements out.placements l);
              serials =
                  each_append (λ l. l.id.node ≡ n → l.id.inc ≡ b.inc → l.id.shard ≡ s → l.id.serial ≤ old.serials)
                  w.past.lives out.lives (λ l i at my on. k.serials l i at (my ∙ inc) on) (λ l i. absurd (no_life l i));
              closed =
                  each_append
                  (λ x. x.life.node ≡ n → x.life.inc ≡ b.inc → x.life.shard ≡ s → x.life.serial ≤ old.serials)
                  w.past.closings out.closings (λ x i at my on. k.closed x i at (my ∙ inc) on)
                  (λ x i. absurd (no_closing x i));
              subscriptions = λ u i.
                  subst
                  (λ (m : ℕ). SubscriptionOk (w.past.lives ++ out.lives) (w.past.closings ++ out.closings) n m s u)
                  (sym inc)
                  (sub_more w.past.lives out.lives w.past.closings out.closings n a.inc s u
                  (λ x l. absurd (no_closing x l)) (k.subscriptions u i));
              apart = k.apart;
            });
        won = λ j p x q i l at my pat pmy.
            won_more c.window w.past.jobs out.jobs w.past.placements out.placements n a.inc a.race.issued b.race.issued
            a.race.won b.race.won later (λ t y lt won. (kept t y lt).0 won) unlike
            (λ j p x q i l. absurd (no_placement p l)) h.won j p x q i l at (my ∙ inc) pat (pmy ∙ inc);
      };
    }

-- the room that is asked for where a turn is issued
pub room_of : (c : Config) (race new : Race) (shards : List Shard)
    → Issues every_rule c.window (finished_turns shards) race new
    → (s : ℕ) (sh : Shard)
    → slice_get shards s ≡ Some sh
    → new.issued ≤ sh.finished + c.window
room_of c race new shards i s sh e =
    let done : slice_get (finished_turns shards) s ≡ Some sh.finished =
    slice_get-map (λ (x : Shard). x.finished) shards s ∙ ap (option_map (λ (x : Shard). x.finished)) e in
    let le = i.room s sh.finished done in
    let is = i.issued in
    omega arith
