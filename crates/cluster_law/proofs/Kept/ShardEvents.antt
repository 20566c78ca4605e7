-- Each event of a shard keeps the invariants.
-- Lists of open subscriptions
use Rattle.std.proofs.Common.{◌≡◌, ◌≢◌, ◌⊎◌, ℕ, suc, ◌+◌, ◌<◌, ◌≤◌, Bool, cond, List, [], ◌∷◌, ◌++◌, set, Option, Some, None, true, false, true≢false, refl, sym, ap, ◌∙◌, subst, inl, inr, ⊎_elim, arith}
use Rattle.std.specs.Prelude.{slice_get}
use Rattle.std.proofs.lemmas.Option.{same_Some, none-some}
use Rattle.std.proofs.lemmas.Bool.Decides.{nat_tests}
use Rattle.list_laws.specs.Lists.{In, Each, Pairs}
use Rattle.cluster_law.specs.Names.{Bytes, PubId, LifeId}
use Rattle.cluster_law.specs.Config.{Config}
use Rattle.cluster_law.specs.History.{Job, Life, Closing, Placement, Output, nothing}
use Rattle.cluster_law.specs.Race.{Race}
use Rattle.cluster_law.specs.Shard.{Subscription, Shard, life_id, has, subs_without, closings_of, AreOpen, placement}
use Rattle.cluster_law.specs.Node.{Node}
use Rattle.cluster_law.specs.Cluster.{World, world_with}
use Rattle.cluster_law.specs.Headline.{InOrder, OneMember, IsClosing}
use Rattle.list_laws.proofs.Lists.{in_left, each_append, pairs_cases, read_set, in_map, pairs_map, pairs_weaker}
use Rattle.cluster_law.proofs.Kept.Invariants.{JobsApart, HubOk, Hubs, ForJob, PlacedOk, SubscriptionOk, ShardOk, NodeOk, Rest, begun, LineIs, IsMine}
use Rattle.cluster_law.proofs.Kept.Shards.{Places, shard_more, won_more, sub_more, line_more}

has_in : (k : ℕ) (xs : List ℕ) → In k xs → has k xs ≡ true
has_in k [] i = absurd i
has_in k (x ∷ xs) i =
    ⊎_elim (λ (e : k ≡ x). grind (arith, nat_tests, e))
    (λ (l : In k xs). let h = has_in k xs l in grind (arith, nat_tests, h)) i

in_without : (closed : List ℕ) (us : List Subscription) (u : Subscription)
    → In u (subs_without closed us)
    → In u us × (has u.serial closed ≡ false)
in_without closed [] u i = absurd i
in_without closed (v ∷ us) u i = go (in_without closed us u) (has v.serial closed) refl i
  where
    go : (In u (subs_without closed us) → In u us × (has u.serial closed ≡ false))
        → (b : Bool)
        → has v.serial closed ≡ b
        → In u (cond b (subs_without closed us) (v ∷ subs_without closed us))
        → In u (v ∷ us) × (has u.serial closed ≡ false)
    go below true e l = let h = below l in (inr h.0, h.1)
    go below false e l =
        ⊎_elim (λ (s : u ≡ v). (inl s, subst (λ (x : Subscription). has x.serial closed ≡ false) (sym s) e))
        (λ (m : In u (subs_without closed us)). let h = below m in (inr h.0, h.1)) l

pairs_without : (closed : List ℕ) (us : List Subscription)
    → Pairs (λ u v. u.serial ≢ v.serial) us
    → Pairs (λ u v. u.serial ≢ v.serial) (subs_without closed us)
pairs_without closed [] p = tt
pairs_without closed (v ∷ us) p = go (pairs_without closed us p.1) (has v.serial closed)
  where
    go : Pairs (λ u v. u.serial ≢ v.serial) (subs_without closed us)
        → (b : Bool)
        → Pairs (λ u v. u.serial ≢ v.serial) (cond b (subs_without closed us) (v ∷ subs_without closed us))
    go below true = below
    go below false = ((λ u i. p.0 u (in_without closed us u i).0), below)

-- What an event of a shard adds

abbrev pub IsAt : ℕ → ℕ → ℕ → LifeId → Type 0
IsAt n inc s l = (l.node ≡ n) × (l.inc ≡ inc) × (l.shard ≡ s)

abbrev pub shard_node : Node → ℕ → Shard → Race → Node
shard_node a s new race = record a { race = race; shards = set a.shards s new }

-- its lists, without those of the hub
abbrev pub shard_out : List Life → List Closing → List Placement → Output
shard_out lives closings placements = record nothing { lives = lives; closings = closings; placements = placements }

pub record ShardAdds (c : Config) (w : World) (n s : ℕ) (a : Node) (new : Shard) (race : Race) (lives : List Life)
    (closings : List Closing) (placements : List Placement) : Type 0 where
  pub placed : Each (λ p. IsAt n a.inc s p.life × PlacedOk c (world_with w n a (shard_out lives closings placements)) p)
      placements
  pub opened : Each (λ l. IsAt n a.inc s l.id × (l.opened ≡ suc w.step)) lives
  pub closed : Each (λ x. IsAt n a.inc s x.life × (x.step ≡ suc w.step) × IsClosing (w.past.lives ++ lives) x) closings
  pub closed_once : Pairs (λ x y. x.life ≢ y.life) closings
  pub closed_once_cross : (x y : Closing) → In x w.past.closings → In y closings → x.life ≢ y.life
  pub life_ids : Pairs (λ l m. l.id ≢ m.id) lives
  pub life_ids_cross : (l m : Life) → In l w.past.lives → In m lives → l.id ≢ m.id
  pub in_order : Pairs InOrder placements
  pub in_order_cross : (p q : Placement) → In p w.past.placements → In q placements → InOrder p q
  pub one_member : Pairs OneMember placements
  pub one_member_cross : (p q : Placement) → In p w.past.placements → In q placements → OneMember p q
  pub shard : ShardOk c (world_with w n a (shard_out lives closings placements)) n a.inc a.race.issued s new
  pub issued : race.issued ≡ a.race.issued
  pub won_kept : (t x : ℕ) → a.race.issued < t + c.window → In (t, x) a.race.won → In (t, x) race.won
  pub won_new : (j : Job) (p : Placement) (x : ℕ) (q : Bytes)
      → In j (w.past.jobs ++ [])
      → In p placements
      → j.node ≡ n
      → j.inc ≡ a.inc
      → p.id ≡ j.id
      → p.mode ≡ Some q
      → slice_get j.names x ≡ Some q
      → a.race.issued < j.turn + c.window
      → In (j.turn, x) race.won

pub there : (n inc : ℕ) (l : LifeId) (used : List (ℕ × ℕ))
    → In (n, inc) used
    → l.node ≡ n
    → l.inc ≡ inc
    → In (l.node, l.inc) used
there n inc l used i e f = subst (λ (y : ℕ × ℕ). In y used) (λ k. (sym e k, sym f k)) i

pub shard_places : (c : Config) (w : World) (n s : ℕ) (a : Node) (new : Shard) (race : Race) (lives : List Life)
    (closings : List Closing) (placements : List Placement)
    → HubOk w n a
    → NodeOk c w n a
    → ShardAdds c w n s a new race lives closings placements
    → Places c w n (shard_node a s new race) (shard_out lives closings placements)
shard_places c w n s a new race lives closings placements k h d =
    let out = shard_out lives closings placements in
    let b = shard_node a s new race in
    record {
      late = λ x i. let e = (d.closed x i).1 in omega arith;
      placed = λ p i. ((d.placed p i).0.0, (d.placed p i).1);
      lives = λ l i.
          let at = d.opened l i in (
            at.0.0,
            record {
              started = there n a.inc l.id w.past.started k.started at.0.0 at.0.1;
              before = let e = at.1 in omega arith;
            },
          );
      closings = λ x i.
          let at = d.closed x i in
          (at.0.0, record { started = there n a.inc x.life w.past.started k.started at.0.0 at.0.1; opened = at.2 });
      closed_once = d.closed_once;
      closed_once_cross = d.closed_once_cross;
      jobs = λ j i. absurd i;
      life_ids = d.life_ids;
      life_ids_cross = d.life_ids_cross;
      in_order = d.in_order;
      in_order_cross = d.in_order_cross;
      one_member = d.one_member;
      one_member_cross = d.one_member_cross;
      node = λ up. record {
        shards =
            subst (λ (v : ℕ).
            (t : ℕ) (sh : Shard)
            → slice_get (set a.shards s new) t ≡ Some sh
            → ShardOk c (world_with w n b out) n a.inc v t sh)
            (sym d.issued)
            (read_set (λ t sh. ShardOk c (world_with w n b out) n a.inc a.race.issued t sh) a.shards s new
            (λ t sh apart e.
            shard_more c w n b out n a.inc a.race.issued t sh
            (record {
              jobs = λ j i at. i;
              lives = λ l i at my on. apart (sym on ∙ (d.opened l i).0.2);
              closings = λ x i at my on. apart (sym on ∙ (d.closed x i).0.2);
              placements = λ p i at my on. apart (sym on ∙ (d.placed p i).0.2);
            })
            (h.shards t sh e))
            d.shard);
        won =
            let same = d.issued in
            won_more c.window w.past.jobs [] w.past.placements placements n a.inc a.race.issued race.issued a.race.won
            race.won (omega arith) (λ t x lt i. d.won_kept t x (omega arith) i) (λ j p i k at my pat pmy e. i)
            (λ j p x q i l at my pat pmy e mode name lt. d.won_new j p x q i l at my e mode name (omega arith)) h.won;
      };
    }

-- Shard states

-- all open subscriptions but these stay
pub shard_closing : (c : Config) (w : World) (n s now : ℕ) (a : Node) (sh : Shard) (closed : List ℕ)
    (placements : List Placement) (finished next : ℕ) (hand : Option Job) (waiting : List Job)
    → ShardOk c w n a.inc a.race.issued s sh
    → AreOpen sh.subscriptions closed
    → LineIs w.past.jobs n a.inc a.race.issued finished hand waiting
    → sh.finished ≤ finished
    → ((j : Job) (p : Placement) → In j (w.past.jobs ++ []) → In p (w.past.placements ++ placements) → j.node ≡ n
    → j.inc ≡ a.inc → p.life.node ≡ n → p.life.inc ≡ a.inc → p.life.shard ≡ s → p.id ≡ j.id
    → j.turn ≤ begun hand finished)
    → ShardOk c (world_with w n a (shard_out [] (closings_of n a.inc s now closed) placements)) n a.inc a.race.issued s
    (record {
      finished = finished;
      hand = hand;
      next = next;
      waiting = waiting;
      serials = sh.serials;
      subscriptions = subs_without closed sh.subscriptions;
    })
shard_closing c w n s now a sh closed placements finished next hand waiting k are_open line later begun_ok = record {
  line = line_more w.past.jobs [] n a.inc a.race.issued a.race.issued finished hand waiting (omega arith) line;
  room = let r = k.room in omega arith;
  begun_all = begun_ok;
  serials =
      each_append (λ l. l.id.node ≡ n → l.id.inc ≡ a.inc → l.id.shard ≡ s → l.id.serial ≤ sh.serials) w.past.lives []
      k.serials (λ l i. absurd i);
  closed =
      each_append (λ x. x.life.node ≡ n → x.life.inc ≡ a.inc → x.life.shard ≡ s → x.life.serial ≤ sh.serials)
      w.past.closings (closings_of n a.inc s now closed) k.closed (λ x i at my on.
      let m = in_map (λ (y : ℕ). record { life = life_id n a.inc s y; step = now }) closed x i in
      let o = are_open.each_open m.0 m.1 in
      let u = k.subscriptions o.0 o.1 in
      let le = k.serials u.life u.life_in (ap (λ (l : LifeId). l.node) u.id) (ap (λ (l : LifeId). l.inc) u.id)
      (ap (λ (l : LifeId). l.shard) u.id) in
      let is = ap (λ (l : LifeId). l.serial) u.id in
      let that = ap (λ (y : Closing). y.life.serial) m.2 in
      let same = o.2 in
      omega arith);
  subscriptions = λ u i.
      let was = in_without closed sh.subscriptions u i in
      sub_more w.past.lives [] w.past.closings (closings_of n a.inc s now closed) n a.inc s u
      (λ x l e.
      let m = in_map (λ (y : ℕ). record { life = life_id n a.inc s y; step = now }) closed x l in
      let same : m.0 ≡ u.serial = sym (ap (λ (y : Closing). y.life.serial) m.2) ∙ ap (λ (y : LifeId). y.serial) e in
      true≢false (sym (has_in u.serial closed (subst (λ (y : ℕ). In y closed) same m.1)) ∙ was.1))
      (k.subscriptions u was.0);
  apart = pairs_without closed sh.subscriptions k.apart;
}

pub each_closing : (n inc s now : ℕ) (closed : List ℕ)
    → Each (λ x. IsAt n inc s x.life × (x.step ≡ now)) (closings_of n inc s now closed)
each_closing n inc s now closed x i =
    let m = in_map (λ (y : ℕ). record { life = life_id n inc s y; step = now }) closed x i in (
      (
        ap (λ (y : Closing). y.life.node) m.2,
        ap (λ (y : Closing). y.life.inc) m.2,
        ap (λ (y : Closing). y.life.shard) m.2,
      ),
      ap (λ (y : Closing). y.step) m.2,
    )

-- the closings of open subscriptions
pub record ClosedOk (w : World) (n inc s now : ℕ) (closed : List ℕ) : Type 0 where
  pub ok : Each (λ x. IsAt n inc s x.life × (x.step ≡ now) × IsClosing (w.past.lives ++ []) x)
      (closings_of n inc s now closed)
  pub once : Pairs (λ x y. x.life ≢ y.life) (closings_of n inc s now closed)
  pub cross : (x y : Closing) → In x w.past.closings → In y (closings_of n inc s now closed) → x.life ≢ y.life

pub closed_ok : (c : Config) (w : World) (n s : ℕ) (a : Node) (sh : Shard) (closed : List ℕ)
    → Rest c w
    → ShardOk c w n a.inc a.race.issued s sh
    → AreOpen sh.subscriptions closed
    → ClosedOk w n a.inc s (suc w.step) closed
closed_ok c w n s a sh closed r k are_open =
    let put : ℕ → Closing = λ y. record { life = life_id n a.inc s y; step = suc w.step } in
    let of : (x : Closing) (i : In x (closings_of n a.inc s (suc w.step) closed))
    → (u : Subscription) × SubscriptionOk w.past.lives w.past.closings n a.inc s u
    × (x.life ≡ life_id n a.inc s u.serial) = λ x i.
    let m = in_map put closed x i in
    let o = are_open.each_open m.0 m.1 in
    (o.0, k.subscriptions o.0 o.1, ap (λ (y : Closing). y.life) m.2 ∙ ap (life_id n a.inc s) (sym o.2)) in
    record {
      ok = λ x i.
          let at = each_closing n a.inc s (suc w.step) closed x i in
          let u = of x i in (
            at.0,
            at.1,
            (
              u.1.life,
              in_left u.1.life w.past.lives [] u.1.life_in,
              u.1.id ∙ sym u.2,
              let le = (r.lives u.1.life u.1.life_in).before in let is = at.1 in omega arith,
            ),
          );
      once =
          pairs_map (λ x y. x.life ≢ y.life) put closed
          (pairs_weaker (λ y z. y ≢ z) (λ y z. (put y).life ≢ (put z).life) closed
          (λ y z i l ne e. ne (ap (λ (d : LifeId). d.serial) e)) are_open.once);
      cross = λ x y i l e. let u = of y l in u.1.still x i (e ∙ u.2);
    }

pub begun_le : (hand : Option Job) (finished : ℕ) → begun hand finished ≤ suc finished
begun_le None finished = omega arith
begun_le (Some j) finished = omega arith

pub begun_least : (hand : Option Job) (finished : ℕ) → finished ≤ begun hand finished
begun_least None finished = omega arith
begun_least (Some j) finished = omega arith

pub begun_free : (hand : Option Job) (finished : ℕ) → hand ≡ None → begun hand finished ≡ finished
begun_free None finished e = refl
begun_free (Some j) finished e = absurd (none-some j (sym e))

pub begun_busy : (hand : Option Job) (finished : ℕ) (j : Job) → hand ≡ Some j → begun hand finished ≡ suc finished
begun_busy None finished j e = absurd (none-some j e)
begun_busy (Some k) finished j e = refl

-- The line of jobs

pub line_begin : (jobs : List Job) (n inc issued finished : ℕ) (hand : Option Job) (waiting : List Job) (job : Job)
    (rest : List Job)
    → waiting ≡ job ∷ rest
    → job.turn ≡ suc finished
    → LineIs jobs n inc issued finished hand waiting
    → LineIs jobs n inc issued finished (Some job) rest
line_begin jobs n inc issued finished hand waiting job rest is turn h =
    let k = subst (LineIs jobs n inc issued finished hand) is h in
    record {
      in_hand = λ g e.
          subst (λ (y : Job). IsMine jobs n inc y × (y.turn ≡ suc finished)) (same_Some job g e)
          (k.mine job (inl refl), turn);
      mine = λ j i. k.mine j (inr i);
      line = k.line.1;
      ahead = λ j i. let lt = k.line.0 j i in omega arith;
      within = λ j i. k.within j (inr i);
      reached = let le = k.within job (inl refl) in omega arith;
    }

-- a turn that was begun is finished
pub line_end : (jobs : List Job) (n inc issued finished : ℕ) (hand : Option Job) (waiting : List Job) (job : Job)
    → hand ≡ Some job
    → LineIs jobs n inc issued finished hand waiting
    → LineIs jobs n inc issued (suc finished) None waiting
line_end jobs n inc issued finished hand waiting job is h =
    let b = begun_busy hand finished job is in
    record {
      in_hand = λ g e. absurd (none-some g e);
      mine = h.mine;
      line = h.line;
      ahead = λ j i. let lt = h.ahead j i in omega arith;
      within = h.within;
      reached = let le = h.reached in omega arith;
    }

-- Jobs and placements

pub job_same : (limit : ℕ) (w : World)
    → Hubs limit w
    → (i j : Job)
    → In i w.past.jobs
    → In j w.past.jobs
    → i.node ≡ j.node
    → i.inc ≡ j.inc
    → i.id ≡ j.id
    → i ≡ j
job_same limit w h i j ii jj at my e =
    let is = ap (λ (d : PubId). d.number) e in
    let o = ap (λ (d : PubId). d.origin) e in
    let v = ap (λ (d : PubId). d.inc) e in
    ⊎_elim (λ (s : i ≡ j). s)
    (λ (t : JobsApart i j ⊎ JobsApart j i).
    absurd (⊎_elim (λ (x : JobsApart i j). let lt = x.number at my o v in omega arith)
    (λ (x : JobsApart j i). let lt = x.number (sym at) (sym my) (sym o) (sym v) in omega arith) t))
    (pairs_cases JobsApart w.past.jobs h.jobs_apart i j ii jj)

-- a job that serves a name of the same publication
pub job_of_name : (limit : ℕ) (w : World)
    → Hubs limit w
    → (i j : Job) (q : Bytes)
    → In i w.past.jobs
    → In j w.past.jobs
    → i.id ≡ j.id
    → In q i.names
    → In q j.names
    → i ≡ j
job_of_name limit w h i j q ii jj e ex ey =
    ⊎_elim (λ (s : i ≡ j). s)
    (λ (t : JobsApart i j ⊎ JobsApart j i).
    absurd (⊎_elim (λ (v : JobsApart i j). v.names e q ex ey) (λ (v : JobsApart j i). v.names (sym e) q ey ex) t))
    (pairs_cases JobsApart w.past.jobs h.jobs_apart i j ii jj)

-- a placement of the same life, for a job that was made no later
pub order_of : (limit : ℕ) (w : World)
    → Hubs limit w
    → (p q : Placement) (f : ForJob w.past.jobs p) (j : Job)
    → In j w.past.jobs
    → j.node ≡ q.life.node
    → j.inc ≡ q.life.inc
    → j.id ≡ q.id
    → (p.life ≡ q.life → f.job.turn ≤ j.turn)
    → (p.life ≡ q.life → f.job ≡ j → ⊥)
    → InOrder p q
order_of limit w h p q f j jj at my id bound other life o i =
    let le = bound life in
    let node : f.job.node ≡ j.node = f.node ∙ ap (λ (l : LifeId). l.node) life ∙ sym at in
    let inc : f.job.inc ≡ j.inc = f.inc ∙ ap (λ (l : LifeId). l.inc) life ∙ sym my in
    let origin : f.job.id.origin ≡ j.id.origin =
    ap (λ (d : PubId). d.origin) f.id ∙ o ∙ sym (ap (λ (d : PubId). d.origin) id) in
    let v : f.job.id.inc ≡ j.id.inc = ap (λ (d : PubId). d.inc) f.id ∙ i ∙ sym (ap (λ (d : PubId). d.inc) id) in
    let a = ap (λ (d : PubId). d.number) f.id in
    let b = ap (λ (d : PubId). d.number) id in
    ⊎_elim (λ (s : f.job ≡ j). absurd (other life s))
    (λ (t : JobsApart f.job j ⊎ JobsApart j f.job).
    ⊎_elim (λ (x : JobsApart f.job j). let lt = x.number node inc origin v in omega arith)
    (λ (x : JobsApart j f.job). absurd (let lt = x.turn (sym node) (sym inc) in omega arith)) t)
    (pairs_cases JobsApart w.past.jobs h.jobs_apart f.job j f.job_in jj)

-- what is placed for the job in hand
pub placed_now : (c : Config) (w : World) (n s : ℕ) (a : Node) (sh : Shard) (job : Job) (u : Subscription)
    (closed : List ℕ) (placements : List Placement)
    → Hubs c.queue_names w
    → Rest c w
    → HubOk w n a
    → ShardOk c w n a.inc a.race.issued s sh
    → IsMine w.past.jobs n a.inc job
    → In u sh.subscriptions
    → c.matches u.pattern job.content.subject ≡ true
    → ((q : Bytes) → u.queue ≡ Some q → In q job.names)
    → PlacedOk c (world_with w n a (shard_out [] (closings_of n a.inc s (suc w.step) closed) placements))
    (placement n a.inc s (suc w.step) job u)
placed_now c w n s a sh job u closed placements h r k sk m u_in matches named =
    let pub_of = (h.jobs job m.0).published in
    let so = sk.subscriptions u u_in in
    record {
      for_job = record {
        job = job;
        job_in = in_left job w.past.jobs [] m.0;
        node = m.1;
        inc = m.2;
        id = refl;
        named = named;
      };
      published = record {
        source = pub_of.source;
        source_in = in_left pub_of.source w.past.publications [] pub_of.source_in;
        id = pub_of.source_id;
        content = pub_of.source_content;
        earlier = let le = (h.publications pub_of.source pub_of.source_in).before in omega arith;
      };
      owed = record {
        life = so.life;
        life_in = in_left so.life w.past.lives [] so.life_in;
        id = so.id;
        connection = so.connection;
        sid = so.sid;
        mode = so.queue;
        opened = let le = (r.lives so.life so.life_in).before in omega arith;
        still =
            each_append (λ x. x.life ≡ life_id n a.inc s u.serial → suc w.step ≤ x.step) w.past.closings
            (closings_of n a.inc s (suc w.step) closed) (λ x i e. absurd (so.still x i e))
            (λ x i e. let is = (each_closing n a.inc s (suc w.step) closed x i).1 in omega arith);
        matches = subst (λ (y : Bytes). c.matches y job.content.subject ≡ true) (sym so.pattern) matches;
      };
      before = omega arith;
    }
