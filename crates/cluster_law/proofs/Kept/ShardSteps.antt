-- Each event of a shard keeps the invariants.
use Rattle.std.proofs.Common.{◌≡◌, ◌≢◌, ◌⊎◌, ℕ, suc, ◌+◌, ◌<◌, ◌≤◌, List, [], ◌∷◌, ◌++◌, map, Option, Some, None, true, refl, sym, ap, ◌∙◌, subst, inl, inr, ⊎_elim, arith}
use Rattle.std.specs.Prelude.{slice_get}
use Rattle.std.proofs.lemmas.Option.{same_Some, none-some}
use Rattle.list_laws.specs.Lists.{In, Each, Pairs}
use Rattle.cluster_law.specs.Names.{Bytes, LifeId}
use Rattle.cluster_law.specs.Config.{Config, every_rule}
use Rattle.cluster_law.specs.History.{Job, Life, Placement, nothing}
use Rattle.cluster_law.specs.Race.{Race, WinsPair}
use Rattle.cluster_law.specs.Shard.{Subscription, Shard, life_id, subs_without, closings_of, AreOpen, placement, IsOwedPlain}
use Rattle.cluster_law.specs.Node.{Node}
use Rattle.cluster_law.specs.Cluster.{World, world_with}
use Rattle.cluster_law.specs.Headline.{InOrder, OneMember}
use Rattle.list_laws.proofs.Lists.{in_nil, each_one, in_append, in_right, each_append, pairs_append, pairs_cases, in_map, in_read, pairs_map, pairs_weaker}
use Rattle.cluster_law.proofs.Kept.Invariants.{HubOk, Hubs, PlacedOk, SubscriptionOk, ShardOk, NodeOk, Rest, begun, LineIs, IsMine}
use Rattle.cluster_law.proofs.Kept.Shards.{shard_more, sub_more, line_more}
use Rattle.cluster_law.proofs.Kept.ShardEvents.{there, shard_closing, closed_ok, begun_le, begun_free, line_begin, job_same, job_of_name, order_of, placed_now, IsAt, shard_out, ShardAdds}

-- The events

-- nothing is added, and all open subscriptions stay
pub quiet_shard : (c : Config) (w : World) (n s : ℕ) (a : Node) (sh : Shard) (finished next : ℕ) (hand : Option Job)
    (waiting : List Job)
    → ShardOk c w n a.inc a.race.issued s sh
    → LineIs w.past.jobs n a.inc a.race.issued finished hand waiting
    → sh.finished ≤ finished
    → begun sh.hand sh.finished ≤ begun hand finished
    → ShardAdds c w n s a
    (record {
      finished = finished;
      hand = hand;
      next = next;
      waiting = waiting;
      serials = sh.serials;
      subscriptions = sh.subscriptions;
    })
    a.race [] [] []
quiet_shard c w n s a sh finished next hand waiting k line later more =
    let old = shard_more c w n a nothing n a.inc a.race.issued s sh
    (record {
      jobs = λ j i at. i;
      lives = λ l i at my on. i;
      closings = λ x i at my on. i;
      placements = λ p i at my on. i;
    })
    k in
    record {
      placed = λ p i. absurd i;
      opened = λ l i. absurd i;
      closed = λ x i. absurd i;
      closed_once = tt;
      closed_once_cross = λ x y i e. absurd e;
      life_ids = tt;
      life_ids_cross = λ l m i e. absurd e;
      in_order = tt;
      in_order_cross = λ p q i e. absurd e;
      one_member = tt;
      one_member_cross = λ p q i e. absurd e;
      shard = record {
        line = line_more w.past.jobs [] n a.inc a.race.issued a.race.issued finished hand waiting (omega arith) line;
        room = let le = k.room in omega arith;
        begun_all = λ j p i l at my pat pmy on e. let le = old.begun_all j p i l at my pat pmy on e in omega arith;
        serials = old.serials;
        closed = old.closed;
        subscriptions = old.subscriptions;
        apart = old.apart;
      };
      issued = refl;
      won_kept = λ t x lt i. i;
      won_new = λ j p x q i e. absurd e;
    }

pub subscribe_step : (c : Config) (w : World) (n s : ℕ) (a : Node) (sh : Shard) (connection : ℕ) (sid pattern : Bytes)
    (queue : Option Bytes)
    → ShardOk c w n a.inc a.race.issued s sh
    → ShardAdds c w n s a
    (record sh {
      serials = suc sh.serials;
      subscriptions =
          sh.subscriptions
          ++ record { serial = suc sh.serials; connection = connection; sid = sid; pattern = pattern; queue = queue }
          ∷ [];
    })
    a.race
    (record {
      id = life_id n a.inc s (suc sh.serials);
      connection = connection;
      sid = sid;
      pattern = pattern;
      queue = queue;
      opened = suc w.step;
    } ∷ [])
    [] []
subscribe_step c w n s a sh connection sid pattern queue k =
    let life : Life = record {
      id = life_id n a.inc s (suc sh.serials);
      connection = connection;
      sid = sid;
      pattern = pattern;
      queue = queue;
      opened = suc w.step;
    } in
    let new : Subscription = record {
      serial = suc sh.serials;
      connection = connection;
      sid = sid;
      pattern = pattern;
      queue = queue;
    } in
    record {
      placed = λ p i. absurd i;
      opened = each_one (λ l. IsAt n a.inc s l.id × (l.opened ≡ suc w.step)) life ((refl, refl, refl), refl);
      closed = λ x i. absurd i;
      closed_once = tt;
      closed_once_cross = λ x y i e. absurd e;
      life_ids = ((λ l i. absurd i), tt);
      life_ids_cross = λ l m i e.
          each_one (λ o. l.id ≢ o.id) life
          (λ same.
          let le = k.serials l i (ap (λ (y : LifeId). y.node) same) (ap (λ (y : LifeId). y.inc) same)
          (ap (λ (y : LifeId). y.shard) same) in
          let is = ap (λ (y : LifeId). y.serial) same in
          omega arith)
          m e;
      in_order = tt;
      in_order_cross = λ p q i e. absurd e;
      one_member = tt;
      one_member_cross = λ p q i e. absurd e;
      shard = record {
        line =
            line_more w.past.jobs [] n a.inc a.race.issued a.race.issued sh.finished sh.hand sh.waiting (omega arith)
            k.line;
        room = k.room;
        begun_all = λ j p i l at my pat pmy on e.
            k.begun_all j p (in_nil j w.past.jobs i) (in_nil p w.past.placements l) at my pat pmy on e;
        serials =
            each_append (λ l. l.id.node ≡ n → l.id.inc ≡ a.inc → l.id.shard ≡ s → l.id.serial ≤ suc sh.serials)
            w.past.lives (life ∷ []) (λ l i at my on. let le = k.serials l i at my on in omega arith)
            (each_one (λ l. l.id.node ≡ n → l.id.inc ≡ a.inc → l.id.shard ≡ s → l.id.serial ≤ suc sh.serials) life
            (λ at my on. omega arith));
        closed =
            each_append (λ x. x.life.node ≡ n → x.life.inc ≡ a.inc → x.life.shard ≡ s → x.life.serial ≤ suc sh.serials)
            w.past.closings [] (λ x i at my on. let le = k.closed x i at my on in omega arith) (λ x i. absurd i);
        subscriptions =
            each_append (SubscriptionOk (w.past.lives ++ life ∷ []) (w.past.closings ++ []) n a.inc s) sh.subscriptions
            (new ∷ [])
            (λ u i.
            sub_more w.past.lives (life ∷ []) w.past.closings [] n a.inc s u (λ x e. absurd e) (k.subscriptions u i))
            (each_one (SubscriptionOk (w.past.lives ++ life ∷ []) (w.past.closings ++ []) n a.inc s) new (record {
              life = life;
              life_in = in_right life w.past.lives (life ∷ []) (inl refl);
              id = refl;
              connection = refl;
              sid = refl;
              pattern = refl;
              queue = refl;
              still =
                  each_append (λ x. x.life ≢ life_id n a.inc s (suc sh.serials)) w.past.closings []
                  (λ x i e.
                  let le = k.closed x i (ap (λ (y : LifeId). y.node) e) (ap (λ (y : LifeId). y.inc) e)
                  (ap (λ (y : LifeId). y.shard) e) in
                  let is = ap (λ (y : LifeId). y.serial) e in
                  omega arith)
                  (λ x i. absurd i);
            }));
        apart =
            pairs_append (λ u v. u.serial ≢ v.serial) sh.subscriptions (new ∷ []) k.apart ((λ v i. absurd i), tt)
            (λ u v i m.
            each_one (λ v. u.serial ≢ v.serial) new
            (λ e.
            let so = k.subscriptions u i in
            let le = k.serials so.life so.life_in (ap (λ (y : LifeId). y.node) so.id) (ap (λ (y : LifeId). y.inc) so.id)
            (ap (λ (y : LifeId). y.shard) so.id) in
            let is = ap (λ (y : LifeId). y.serial) so.id in
            omega arith)
            v m);
      };
      issued = refl;
      won_kept = λ t x lt i. i;
      won_new = λ j p x q i e. absurd e;
    }

pub close_step : (c : Config) (w : World) (n s : ℕ) (a : Node) (sh : Shard) (closed : List ℕ)
    → Rest c w
    → ShardOk c w n a.inc a.race.issued s sh
    → AreOpen sh.subscriptions closed
    → ShardAdds c w n s a (record sh { subscriptions = subs_without closed sh.subscriptions }) a.race []
    (closings_of n a.inc s (suc w.step) closed) []
close_step c w n s a sh closed r k are_open =
    let ok = closed_ok c w n s a sh closed r k are_open in
    record {
      placed = λ p i. absurd i;
      opened = λ l i. absurd i;
      closed = ok.ok;
      closed_once = ok.once;
      closed_once_cross = ok.cross;
      life_ids = tt;
      life_ids_cross = λ l m i e. absurd e;
      in_order = tt;
      in_order_cross = λ p q i e. absurd e;
      one_member = tt;
      one_member_cross = λ p q i e. absurd e;
      shard =
          shard_closing c w n s (suc w.step) a sh closed [] sh.finished sh.next sh.hand sh.waiting k are_open k.line
          (omega arith) (λ j p i l at my pat pmy on e.
          k.begun_all j p (in_nil j w.past.jobs i) (in_nil p w.past.placements l) at my pat pmy on e);
      issued = refl;
      won_kept = λ t x lt i. i;
      won_new = λ j p x q i e. absurd e;
    }

-- what is placed for this job counts as begun
begun_with : (c : Config) (w : World) (n s : ℕ) (a : Node) (sh : Shard) (job : Job) (placements : List Placement)
    → Hubs c.queue_names w
    → HubOk w n a
    → ShardOk c w n a.inc a.race.issued s sh
    → IsMine w.past.jobs n a.inc job
    → job.turn ≡ suc sh.finished
    → Each (λ p. p.id ≡ job.id) placements
    → (j : Job) (p : Placement)
    → In j (w.past.jobs ++ [])
    → In p (w.past.placements ++ placements)
    → j.node ≡ n
    → j.inc ≡ a.inc
    → p.life.node ≡ n
    → p.life.inc ≡ a.inc
    → p.life.shard ≡ s
    → p.id ≡ j.id
    → j.turn ≤ suc sh.finished
begun_with c w n s a sh job placements h hk k m turn its j p i l at my pat pmy on e =
    ⊎_elim (λ (l1 : In p w.past.placements).
    let le = k.begun_all j p (in_nil j w.past.jobs i) l1 at my pat pmy on e in
    let b = begun_le sh.hand sh.finished in
    omega arith)
    (λ (l1 : In p placements).
    let same = ap (λ (y : Job). y.turn)
    (job_same c.queue_names w h j job (in_nil j w.past.jobs i) m.0 (at ∙ sym m.1) (my ∙ sym m.2) (sym e ∙ its p l1)) in
    omega arith)
    (in_append p w.past.placements placements l)

pub begin_step : (c : Config) (w : World) (n s : ℕ) (a : Node) (sh : Shard) (job : Job) (rest : List Job)
    (placed : List Subscription) (closed : List ℕ)
    → Hubs c.queue_names w
    → Rest c w
    → HubOk w n a
    → ShardOk c w n a.inc a.race.issued s sh
    → sh.hand ≡ None
    → sh.waiting ≡ job ∷ rest
    → job.turn ≡ suc sh.finished
    → Each (IsOwedPlain c sh job) placed
    → Pairs (λ u v. u.serial ≢ v.serial) placed
    → AreOpen sh.subscriptions closed
    → ShardAdds c w n s a
    (record sh { hand = Some job; next = 0; waiting = rest; subscriptions = subs_without closed sh.subscriptions })
    a.race [] (closings_of n a.inc s (suc w.step) closed) (map (placement n a.inc s (suc w.step) job) placed)
begin_step c w n s a sh job rest placed closed h r hk k free first turn owed once are_open =
    let ok = closed_ok c w n s a sh closed r k are_open in
    let put = placement n a.inc s (suc w.step) job in
    let m = k.line.mine job (subst (In job) (sym first) (inl refl)) in
    let plain : (p : Placement) (q : Bytes) → In p (map put placed) → p.mode ≡ Some q → ⊥ = λ p q i e.
    let o = in_map put placed p i in
    none-some q (sym (ap (λ (y : Placement). y.mode) o.2 ∙ (owed o.0 o.1).plain) ∙ e) in
    record {
      placed = λ p i.
          let o = in_map put placed p i in
          subst (λ (y : Placement).
          IsAt n a.inc s y.life
          × PlacedOk c (world_with w n a (shard_out [] (closings_of n a.inc s (suc w.step) closed) (map put placed))) y)
          (sym o.2) (
            (refl, refl, refl),
            placed_now c w n s a sh job o.0 closed (map put placed) h r hk k m (owed o.0 o.1).is_open
                (owed o.0 o.1).matches (λ q e. absurd (none-some q (sym (owed o.0 o.1).plain ∙ e))),
          );
      opened = λ l i. absurd i;
      closed = ok.ok;
      closed_once = ok.once;
      closed_once_cross = ok.cross;
      life_ids = tt;
      life_ids_cross = λ l x i e. absurd e;
      in_order =
          pairs_map InOrder put placed
          (pairs_weaker (λ u v. u.serial ≢ v.serial) (λ u v. InOrder (put u) (put v)) placed
          (λ u v i l ne life o inc. absurd (ne (ap (λ (y : LifeId). y.serial) life))) once);
      in_order_cross = λ p q i l.
          let o = in_map put placed q l in
          let f = (r.placed p i).for_job in
          let bound : p.life ≡ (put o.0).life → f.job.turn ≤ sh.finished = λ life.
          subst (λ (y : ℕ). f.job.turn ≤ y) (begun_free sh.hand sh.finished free)
          (k.begun_all f.job p f.job_in i (f.node ∙ ap (λ (y : LifeId). y.node) life)
          (f.inc ∙ ap (λ (y : LifeId). y.inc) life) (ap (λ (y : LifeId). y.node) life) (ap (λ (y : LifeId). y.inc) life)
          (ap (λ (y : LifeId). y.shard) life) (sym f.id)) in
          subst (InOrder p) (sym o.2)
          (order_of c.queue_names w h p (put o.0) f job m.0 m.1 m.2 refl (λ life. let le = bound life in omega arith)
          (λ life same. let le = bound life in let is = ap (λ (y : Job). y.turn) same in omega arith));
      one_member =
          pairs_weaker InOrder OneMember (map put placed) (λ p q i l v name e pm qm. plain p name i pm)
          (pairs_map InOrder put placed
          (pairs_weaker (λ u v. u.serial ≢ v.serial) (λ u v. InOrder (put u) (put v)) placed
          (λ u v i l ne life o inc. absurd (ne (ap (λ (y : LifeId). y.serial) life))) once));
      one_member_cross = λ p q i l name e pm qm. plain q name l qm;
      shard =
          shard_closing c w n s (suc w.step) a sh closed (map put placed) sh.finished 0 (Some job) rest k are_open
          (line_begin w.past.jobs n a.inc a.race.issued sh.finished sh.hand sh.waiting job rest first turn k.line)
          (omega arith)
          (begun_with c w n s a sh job (map put placed) h hk k m turn
          (λ p i. ap (λ (y : Placement). y.id) (in_map put placed p i).2));
      issued = refl;
      won_kept = λ t x lt i. i;
      won_new = λ j p x q i l at my e mode name. absurd (plain p q l mode);
    }

pub claim_step : (c : Config) (w : World) (n s : ℕ) (a : Node) (sh : Shard) (job : Job) (name : Bytes)
    (u : Subscription) (race : Race) (closed : List ℕ)
    → Hubs c.queue_names w
    → Rest c w
    → HubOk w n a
    → NodeOk c w n a
    → ShardOk c w n a.inc a.race.issued s sh
    → sh.hand ≡ Some job
    → slice_get job.names sh.next ≡ Some name
    → WinsPair every_rule c.window a.race job.turn sh.next race
    → In u sh.subscriptions
    → u.queue ≡ Some name
    → c.matches u.pattern job.content.subject ≡ true
    → AreOpen sh.subscriptions closed
    → ShardAdds c w n s a (record sh { next = suc sh.next; subscriptions = subs_without closed sh.subscriptions }) race
    [] (closings_of n a.inc s (suc w.step) closed) (placement n a.inc s (suc w.step) job u ∷ [])
claim_step c w n s a sh job name u race closed h r hk nk k in_hand name_is wins u_in member matches are_open =
    let ok = closed_ok c w n s a sh closed r k are_open in
    let now = placement n a.inc s (suc w.step) job u in
    let m = (k.line.in_hand job in_hand).0 in
    let turn = (k.line.in_hand job in_hand).1 in
    let window : a.race.issued < job.turn + c.window = let le = k.room in omega arith in
    -- the pair would have been won
    let before : (p : Placement)
    → In p w.past.placements
    → p.life.node ≡ n
    → p.life.inc ≡ a.inc
    → p.id ≡ job.id
    → p.mode ≡ Some name
    → ⊥ = λ p i pat pmy e mode. wins.unwon (nk.won job p sh.next name m.0 i m.1 m.2 pat pmy e mode name_is window) in
    let so = k.subscriptions u u_in in
    record {
      placed =
          each_one (λ y.
          IsAt n a.inc s y.life
          × PlacedOk c (world_with w n a (shard_out [] (closings_of n a.inc s (suc w.step) closed) (now ∷ []))) y)
          now (
            (refl, refl, refl),
            placed_now c w n s a sh job u closed (now ∷ []) h r hk k m u_in matches (λ q e.
                subst (λ (y : Bytes). In y job.names) (same_Some name q (sym member ∙ e))
                (in_read job.names sh.next name name_is)),
          );
      opened = λ l i. absurd i;
      closed = ok.ok;
      closed_once = ok.once;
      closed_once_cross = ok.cross;
      life_ids = tt;
      life_ids_cross = λ l x i e. absurd e;
      in_order = ((λ q i. absurd i), tt);
      in_order_cross = λ p q i l.
          let f = (r.placed p i).for_job in
          let o = (r.placed p i).owed in
          each_one (InOrder p) now
          (order_of c.queue_names w h p now f job m.0 m.1 m.2 refl
          (λ life.
          let le = k.begun_all f.job p f.job_in i (f.node ∙ ap (λ (y : LifeId). y.node) life)
          (f.inc ∙ ap (λ (y : LifeId). y.inc) life) (ap (λ (y : LifeId). y.node) life) (ap (λ (y : LifeId). y.inc) life)
          (ap (λ (y : LifeId). y.shard) life) (sym f.id) in
          let b = begun_le sh.hand sh.finished in
          omega arith)
          (λ life same.
          let one : o.life ≡ so.life = ⊎_elim (λ (s : o.life ≡ so.life). s)
          (λ (t : (o.life.id ≢ so.life.id) ⊎ (so.life.id ≢ o.life.id)).
          absurd (⊎_elim (λ (ne : o.life.id ≢ so.life.id). ne (o.id ∙ life ∙ sym so.id))
          (λ (ne : so.life.id ≢ o.life.id). ne (sym (o.id ∙ life ∙ sym so.id))) t))
          (pairs_cases (λ l m. l.id ≢ m.id) w.past.lives r.life_ids o.life so.life o.life_in so.life_in) in
          before p i (ap (λ (y : LifeId). y.node) life) (ap (λ (y : LifeId). y.inc) life)
          (sym f.id ∙ ap (λ (y : Job). y.id) same) (sym o.mode ∙ ap (λ (y : Life). y.queue) one ∙ so.queue ∙ member)))
          q l;
      one_member = ((λ q i. absurd i), tt);
      one_member_cross = λ p q i l.
          each_one (OneMember p) now
          (λ that e pm qm.
          let f = (r.placed p i).for_job in
          let same_name : that ≡ name = same_Some that name (sym qm ∙ member) in
          let x = subst (λ (y : Bytes). In y f.job.names) same_name (f.named that pm) in
          let same = job_of_name c.queue_names w h f.job job name f.job_in m.0 (f.id ∙ e) x
          (in_read job.names sh.next name name_is) in
          before p i (sym f.node ∙ ap (λ (y : Job). y.node) same ∙ m.1) (sym f.inc ∙ ap (λ (y : Job). y.inc) same ∙ m.2)
          e (pm ∙ ap Some same_name))
          q l;
      shard =
          shard_closing c w n s (suc w.step) a sh closed (now ∷ []) sh.finished (suc sh.next) sh.hand sh.waiting k
          are_open k.line (omega arith) (λ j p i l at my pat pmy on e.
          subst (λ (y : Option Job). j.turn ≤ begun y sh.finished) (sym in_hand)
          (begun_with c w n s a sh job (now ∷ []) h hk k m turn (each_one (λ y. y.id ≡ job.id) now refl) j p i l at my
          pat pmy on e));
      issued = wins.issued;
      won_kept = λ t x lt i. (wins.gains t x lt).1 (inl i);
      won_new = λ j p x q i l at my.
          each_one (λ y.
          y.id ≡ j.id
          → y.mode ≡ Some q
          → slice_get j.names x ≡ Some q
          → a.race.issued < j.turn + c.window
          → In (j.turn, x) race.won)
          now
          (λ e mode name_at lt.
          let same =
          job_same c.queue_names w h j job (in_nil j w.past.jobs i) m.0 (at ∙ sym m.1) (my ∙ sym m.2) (sym e) in
          let same_name : q ≡ name = same_Some q name (sym mode ∙ member) in
          let there : slice_get job.names x ≡ Some name =
          subst (λ (y : Job). slice_get y.names x ≡ Some name) same (name_at ∙ ap Some same_name) in
          let place : x ≡ sh.next = (h.jobs job m.0).once x sh.next name there name_is in
          (wins.gains j.turn x lt).1 (inr (ap (λ (y : Job). y.turn) same, place)))
          p l;
    }
