-- Over every run: a server has taken no publication of another one that this has not made.
use Rattle.std.proofs.Common.{◌≡◌, ◌≢◌, ◌⊎◌, ℕ, zero, suc, ◌<◌, ◌≤◌, Bool, true, false, true≢false, cond, not, ◌&&◌, ◌||◌, nat_eq, nat_lt, List, [], ◌∷◌, ◌++◌, length, Option, Some, None, refl, sym, ap, ◌∙◌, subst, inl, inr, ⊎_elim, arith}
use Rattle.std.specs.Prelude.{slice_get}
use Rattle.std.proofs.lemmas.Option.{none-some, same_Some}
use Rattle.list_laws.specs.Lists.{In}
use Rattle.list_laws.proofs.Lists.{in_append, in_left, in_right, in_read, read_replicate}
use Rattle.list_laws.proofs.Changes.{get_set_here, get_set_there}
use Rattle.list_laws.proofs.Tests.{true_eq, eq_true, eq_false, and_true, lt_true}
use Rattle.subj.specs.Servers.{IsListed, place, place_in, name_at}
use Rattle.route_values.specs.Frames.{Frame}
use Rattle.route_values.specs.declared.frames.RouteFrame.{RouteFrame}
use Rattle.route_values.specs.declared.frames.RouteFrame.TheVariants as route
use Rattle.hub_core.specs.Receiving.{has_message}
use Rattle.hub_core.specs.State.{Peer, unknown_peer}
use Rattle.hub_core.proofs.Choices.Places.{named, name_there}
use Rattle.node_law.specs.Events as of_node
use Rattle.node_law.specs.Events.{NodeEvent}
use Rattle.node_law.specs.State.{new_node}
use Rattle.node_law.specs.Steps.{node_frames}
use Rattle.world_law.specs.declared.faults.WorldFault.{WorldFault}
use Rattle.world_law.specs.declared.faults.WorldFault.TheVariants as fault
use Rattle.world_law.specs.Events.{Event, Start, Stop, Receive, OnInfo, OnConnect, At, event_for, frame_at, numbered_event, info_on, connect_on}
use Rattle.world_law.specs.Headline.{IsCluster}
use Rattle.world_law.specs.Outcomes.{Outcome}
use Rattle.world_law.specs.Refusals.{world_refusal, start_refusal, is_used, is_start}
use Rattle.world_law.specs.State.{Cluster, World, Running, new_world, server_at}
use Rattle.world_law.specs.Steps.{Acts, Starts, Stops, Happens, Decided, WorldStep, Run}
use Rattle.settled_law.specs.Marks.{MarksAreReached}
use Rattle.settled_law.proofs.Marks.Peers.{Kept, Took, step_marks, step_published, step_messages}

-- a number of the incarnation of the server at this place: that was started, and where it runs has made as many
-- publications
pub record IsMade (w : World) (q inc number : ℕ) : Type 0 where
  pub started : In (q, inc) w.started
  pub reached : (a : Running) → slice_get w.nodes q ≡ Some (Some a) → inc ≡ a.inc → number ≤ a.node.hub.published

pub record Inv (c : Cluster) (w : World) : Type 0 where
  pub running : (q : ℕ) (a : Running) → slice_get w.nodes q ≡ Some (Some a) → In (q, a.inc) w.started
  pub sent : (f : Frame)
      → In (route.Numbered f) w.sent
      → has_message f.body ≡ true
      → (q : ℕ)
      → q < length c.names
      → f.from ≡ name_at c.names q
      → IsMade w q f.inc f.number
  pub marks : (m q : ℕ) (a : Running) (peer : Peer)
      → m ≢ q
      → slice_get w.nodes m ≡ Some (Some a)
      → slice_get a.node.hub.peers q ≡ Some peer
      → (peer.mark ≡ 0) ⊎ IsMade w q peer.seen peer.mark

-- ---- the start

pub new_inv : (c : Cluster) → Inv c (new_world c)
new_inv c = record {
  running = λ q a at. absurd (nobody q a at);
  sent = λ f i. absurd i;
  marks = λ m q a peer apart at. absurd (nobody m a at);
}
  where
    nobody : (q : ℕ) (a : Running) → slice_get (new_world c).nodes q ≡ Some (Some a) → ⊥
    nobody q a at =
        let none : Option Running = None in none-some a (sym (read_replicate (length c.names) none (Some a) q at))

-- ---- a server makes a step

module _ (c : Cluster) (cluster : IsCluster c) (w : World) (n : ℕ) (event : Option NodeEvent) (outcome : Outcome)
    (w' : World) (s : Acts c w n event outcome w') (listed : n < length c.names) (inv : Inv c w)
    (was_sent : (f : Frame) → event ≡ Some (of_node.Receive f) → In (route.Numbered f) w.sent) where
  after : Running
  after = record { inc = s.a.inc; node = s.b }

  here : slice_get w'.nodes n ≡ Some (Some (record { inc = s.a.inc; node = s.b }))
  here =
      ap (λ (x : World). slice_get x.nodes n) s.after
      ∙ get_set_here w.nodes n (Some s.a) (Some (record { inc = s.a.inc; node = s.b })) s.a_is

  there : (o : ℕ) → o ≢ n → slice_get w'.nodes o ≡ slice_get w.nodes o
  there o apart =
      ap (λ (x : World). slice_get x.nodes o) s.after
      ∙ get_set_there w.nodes n o (Some (record { inc = s.a.inc; node = s.b })) apart

  started : w'.started ≡ w.started
  started = ap (λ (x : World). x.started) s.after

  -- what was made is made
  still_made : (q inc number : ℕ) → IsMade w q inc number → IsMade w' q inc number
  still_made q inc number m = record {
    started = subst (In (q, inc)) (sym started) m.started;
    reached = λ a at same. go a at same (nat_eq q n) refl;
  }
    where
      go : (a : Running)
          → slice_get w'.nodes q ≡ Some (Some a)
          → inc ≡ a.inc
          → (b : Bool)
          → nat_eq q n ≡ b
          → number ≤ a.node.hub.published
      go a at same true e =
          let f : q ≡ n = eq_true q n e in
          let g : record { inc = s.a.inc; node = s.b } ≡ a = same_Some (record { inc = s.a.inc; node = s.b }) a
          (same_Some (Some (record { inc = s.a.inc; node = s.b })) (Some a)
          (sym here ∙ sym (ap (slice_get w'.nodes) f) ∙ at)) in
          let old = m.reached s.a (ap (slice_get w.nodes) f ∙ s.a_is) (same ∙ sym (ap (λ (x : Running). x.inc) g)) in
          let up = step_published (server_at c n s.a.inc) s.a.node s.e s.won s.race s.b s.steps in
          let h : s.b.hub.published ≡ a.node.hub.published = ap (λ (x : Running). x.node.hub.published) g in
          omega (arith, old, up, h)
      go a at same false e = m.reached a (sym (there q (eq_false q n e)) ∙ at) same

  acts_inv : Inv c w'
  acts_inv = record {
    running = λ q a at. subst (In (q, a.inc)) (sym started) (runs q a at (nat_eq q n) refl);
    sent = λ f i message q lt from.
        made f (subst (In (route.Numbered f)) (ap (λ (x : World). x.sent) s.after) i) message q lt from;
    marks = λ m q a peer apart at p. marks m q a peer apart at p (nat_eq m n) refl;
  }
    where
      runs : (q : ℕ) (a : Running)
          → slice_get w'.nodes q ≡ Some (Some a)
          → (b : Bool)
          → nat_eq q n ≡ b
          → In (q, a.inc) w.started
      runs q a at true e =
          let f : q ≡ n = eq_true q n e in
          let g : record { inc = s.a.inc; node = s.b } ≡ a = same_Some (record { inc = s.a.inc; node = s.b }) a
          (same_Some (Some (record { inc = s.a.inc; node = s.b })) (Some a)
          (sym here ∙ sym (ap (slice_get w'.nodes) f) ∙ at)) in
          subst (λ k. In (q, k) w.started) (ap (λ (x : Running). x.inc) g)
          (inv.running q s.a (ap (slice_get w.nodes) f ∙ s.a_is))
      runs q a at false e = inv.running q a (sym (there q (eq_false q n e)) ∙ at)

      made : (f : Frame)
          → In (route.Numbered f) (w.sent ++ node_frames (server_at c n s.a.inc) s.a.node s.e)
          → has_message f.body ≡ true
          → (q : ℕ)
          → q < length c.names
          → f.from ≡ name_at c.names q
          → IsMade w' q f.inc f.number
      made f i message q lt from =
          ⊎_elim (λ (j : In (route.Numbered f) w.sent). still_made q f.inc f.number (inv.sent f j message q lt from))
          (λ (j : In (route.Numbered f) (node_frames (server_at c n s.a.inc) s.a.node s.e)).
          let own = step_messages (server_at c n s.a.inc) s.a.node s.e s.won s.race s.b s.steps f j message in
          let is : IsListed (server_at c n s.a.inc) = record { apart = cluster.apart; listed = listed } in
          let same : q ≡ n = sym (named (server_at c n s.a.inc) is q lt)
          ∙ ap (λ x. place (server_at c n s.a.inc) x) (sym from ∙ own.from)
          ∙ named (server_at c n s.a.inc) is n listed in
          record {
            started =
                subst (λ k. In (k, f.inc) w'.started) (sym same)
                (subst (λ k. In (n, k) w'.started) (sym own.inc)
                (subst (In (n, s.a.inc)) (sym started) (inv.running n s.a s.a_is)));
            reached = λ a at inc.
                let g : record { inc = s.a.inc; node = s.b } ≡ a = same_Some (record { inc = s.a.inc; node = s.b }) a
                (same_Some (Some (record { inc = s.a.inc; node = s.b })) (Some a)
                (sym here ∙ sym (ap (slice_get w'.nodes) same) ∙ at)) in
                subst (λ (x : Running). f.number ≤ x.node.hub.published) g own.number;
          })
          (in_append (route.Numbered f) w.sent (node_frames (server_at c n s.a.inc) s.a.node s.e) i)

      -- of the server that made the step
      own_marks : (q : ℕ) (peer : Peer)
          → n ≢ q
          → slice_get s.b.hub.peers q ≡ Some peer
          → (peer.mark ≡ 0) ⊎ IsMade w' q peer.seen peer.mark
      own_marks q peer apart at =
          ⊎_elim (λ (k : Kept s.a.node.hub q peer).
          ⊎_elim (λ (z : k.old.mark ≡ 0). inl (k.mark ∙ z))
          (λ (m : IsMade w q k.old.seen k.old.mark).
          inr (still_made q peer.seen peer.mark
          (subst (λ x. IsMade w q x peer.mark) (sym k.seen) (subst (λ x. IsMade w q k.old.seen x) (sym k.mark) m))))
          (inv.marks n q s.a k.old apart s.a_is k.at))
          (λ r.
          ⊎_elim (λ (z : peer.mark ≡ 0). inl z)
          (λ (t : Took (server_at c n s.a.inc) s.e q peer).
          let lt : q < length c.names =
          lt_true q (length c.names) (and_true (not (nat_eq q n)) (nat_lt q (length c.names)) t.listed).1 in
          let there : place_in t.frame.from c.names < length c.names =
          subst (λ k. k < length c.names) (sym t.from) lt in
          let from : t.frame.from ≡ name_at c.names q =
          sym (name_there c.names t.frame.from there) ∙ ap (name_at c.names) t.from in
          let m = inv.sent t.frame (was_sent t.frame (s.is ∙ ap Some t.is)) t.message q lt from in
          inr (still_made q peer.seen peer.mark
          (subst (λ x. IsMade w q x peer.mark) (sym t.seen) (subst (λ x. IsMade w q t.frame.inc x) (sym t.mark) m))))
          r)
          (step_marks (server_at c n s.a.inc) s.a.node s.e s.won s.race s.b s.steps q peer at)

      marks : (m q : ℕ) (a : Running) (peer : Peer)
          → m ≢ q
          → slice_get w'.nodes m ≡ Some (Some a)
          → slice_get a.node.hub.peers q ≡ Some peer
          → (b : Bool)
          → nat_eq m n ≡ b
          → (peer.mark ≡ 0) ⊎ IsMade w' q peer.seen peer.mark
      marks m q a peer apart at p true e =
          let f : m ≡ n = eq_true m n e in
          let g : record { inc = s.a.inc; node = s.b } ≡ a = same_Some (record { inc = s.a.inc; node = s.b }) a
          (same_Some (Some (record { inc = s.a.inc; node = s.b })) (Some a)
          (sym here ∙ sym (ap (slice_get w'.nodes) f) ∙ at)) in
          own_marks q peer (λ h. apart (f ∙ h)) (ap (λ (x : Running). slice_get x.node.hub.peers q) g ∙ p)
      marks m q a peer apart at p false e =
          ⊎_elim (λ z. inl z) (λ (k : IsMade w q peer.seen peer.mark). inr (still_made q peer.seen peer.mark k))
          (inv.marks m q a peer apart (sym (there m (eq_false m n e)) ∙ at) p)

-- ---- a server starts or stops

used_in : (n inc : ℕ) (started : List (ℕ × ℕ)) → In (n, inc) started → is_used n inc started ≡ true
used_in n inc [] i = absurd i
used_in n inc (x ∷ xs) i =
    ⊎_elim (λ (e : ◌≡◌ {A = ℕ × ℕ} (n, inc) x).
    ap (λ (y : ℕ × ℕ). is_start n inc y || is_used n inc xs) (sym e)
    ∙ (λ j. (true_eq n n refl j && true_eq inc inc refl j) || is_used n inc xs))
    (λ (j : In (n, inc) xs). by (is_start n inc x) (used_in n inc xs j)) i
  where
    by : (b : Bool) → is_used n inc xs ≡ true → (b || is_used n inc xs) ≡ true
    by true h = refl
    by false h = h

start_inv : (c : Cluster) (w : World) (n inc : ℕ) (outcome : Outcome) (w' : World)
    → is_used n inc w.started ≡ false
    → Starts c w n inc outcome w'
    → Inv c w
    → Inv c w'
start_inv c w n inc outcome w' fresh s inv = record {
  running = λ q a at. runs q a at (nat_eq q n) refl;
  sent = λ f i message q lt from.
      still_made q f.inc f.number
      (inv.sent f (subst (In (route.Numbered f)) (ap (λ (x : World). x.sent) s.after) i) message q lt from);
  marks = λ m q a peer apart at p. marks m q a peer apart at p (nat_eq m n) refl;
}
  where
    new : Running
    new = record { inc = inc; node = new_node (server_at c n inc) }

    here : slice_get w'.nodes n ≡ Some (Some (record { inc = inc; node = new_node (server_at c n inc) }))
    here =
        ap (λ (x : World). slice_get x.nodes n) s.after
        ∙ get_set_here w.nodes n None (Some (record { inc = inc; node = new_node (server_at c n inc) })) s.down

    there : (o : ℕ) → o ≢ n → slice_get w'.nodes o ≡ slice_get w.nodes o
    there o apart =
        ap (λ (x : World). slice_get x.nodes o) s.after
        ∙ get_set_there w.nodes n o (Some (record { inc = inc; node = new_node (server_at c n inc) })) apart

    started : w'.started ≡ w.started ++ (n, inc) ∷ []
    started = ap (λ (x : World). x.started) s.after

    is_new : (q : ℕ) (a : Running)
        → slice_get w'.nodes q ≡ Some (Some a)
        → nat_eq q n ≡ true
        → record { inc = inc; node = new_node (server_at c n inc) } ≡ a
    is_new q a at e =
        same_Some (record { inc = inc; node = new_node (server_at c n inc) }) a
        (same_Some (Some (record { inc = inc; node = new_node (server_at c n inc) })) (Some a)
        (sym here ∙ sym (ap (slice_get w'.nodes) (eq_true q n e)) ∙ at))

    runs : (q : ℕ) (a : Running)
        → slice_get w'.nodes q ≡ Some (Some a)
        → (b : Bool)
        → nat_eq q n ≡ b
        → In (q, a.inc) w'.started
    runs q a at true e =
        subst (In (q, a.inc)) (sym started)
        (in_right (q, a.inc) w.started ((n, inc) ∷ [])
        (inl (λ i. (eq_true q n e i, sym (ap (λ (x : Running). x.inc) (is_new q a at e)) i))))
    runs q a at false e =
        subst (In (q, a.inc)) (sym started)
        (in_left (q, a.inc) w.started ((n, inc) ∷ []) (inv.running q a (sym (there q (eq_false q n e)) ∙ at)))

    still_made : (q k number : ℕ) → IsMade w q k number → IsMade w' q k number
    still_made q k number m = record {
      started = subst (In (q, k)) (sym started) (in_left (q, k) w.started ((n, inc) ∷ []) m.started);
      reached = λ a at same. go a at same (nat_eq q n) refl;
    }
      where
        go : (a : Running)
            → slice_get w'.nodes q ≡ Some (Some a)
            → k ≡ a.inc
            → (b : Bool)
            → nat_eq q n ≡ b
            → number ≤ a.node.hub.published
        go a at same true e =
            let k_is : k ≡ inc = same ∙ sym (ap (λ (x : Running). x.inc) (is_new q a at e)) in
            absurd (true≢false (sym (used_in n inc w.started
            (subst (λ x. In (x, inc) w.started) (eq_true q n e) (subst (λ x. In (q, x) w.started) k_is m.started)))
            ∙ fresh))
        go a at same false e = m.reached a (sym (there q (eq_false q n e)) ∙ at) same

    marks : (m q : ℕ) (a : Running) (peer : Peer)
        → m ≢ q
        → slice_get w'.nodes m ≡ Some (Some a)
        → slice_get a.node.hub.peers q ≡ Some peer
        → (b : Bool)
        → nat_eq m n ≡ b
        → (peer.mark ≡ 0) ⊎ IsMade w' q peer.seen peer.mark
    marks m q a peer apart at p true e =
        inl (ap (λ (x : Peer). x.mark)
        (read_replicate (length c.names) unknown_peer peer q
        (ap (λ (x : Running). slice_get x.node.hub.peers q) (is_new m a at e) ∙ p)))
    marks m q a peer apart at p false e =
        ⊎_elim (λ z. inl z) (λ (k : IsMade w q peer.seen peer.mark). inr (still_made q peer.seen peer.mark k))
        (inv.marks m q a peer apart (sym (there m (eq_false m n e)) ∙ at) p)

stop_inv : (c : Cluster) (w : World) (n : ℕ) (outcome : Outcome) (w' : World)
    → Stops w n outcome w'
    → Inv c w
    → Inv c w'
stop_inv c w n outcome w' s inv = record {
  running = λ q a at. subst (In (q, a.inc)) (sym started) (inv.running q a (was q a at));
  sent = λ f i message q lt from.
      still_made q f.inc f.number
      (inv.sent f (subst (In (route.Numbered f)) (ap (λ (x : World). x.sent) s.after) i) message q lt from);
  marks = λ m q a peer apart at p.
      ⊎_elim (λ z. inl z) (λ (k : IsMade w q peer.seen peer.mark). inr (still_made q peer.seen peer.mark k))
      (inv.marks m q a peer apart (was m a at) p);
}
  where
    started : w'.started ≡ w.started
    started = ap (λ (x : World). x.started) s.after

    was : (q : ℕ) (a : Running) → slice_get w'.nodes q ≡ Some (Some a) → slice_get w.nodes q ≡ Some (Some a)
    was q a at = go (nat_eq q n) refl
      where
        go : (b : Bool) → nat_eq q n ≡ b → slice_get w.nodes q ≡ Some (Some a)
        go true e =
            let none : Option Running = None in
            let h = ap (λ (x : World). slice_get x.nodes n) s.after ∙ get_set_here w.nodes n (Some s.a) none s.a_is in
            absurd (none-some a (same_Some none (Some a) (sym h ∙ sym (ap (slice_get w'.nodes) (eq_true q n e)) ∙ at)))
        go false e =
            sym (ap (λ (x : World). slice_get x.nodes q) s.after ∙ get_set_there w.nodes n q None (eq_false q n e)) ∙ at

    still_made : (q k number : ℕ) → IsMade w q k number → IsMade w' q k number
    still_made q k number m = record {
      started = subst (In (q, k)) (sym started) m.started;
      reached = λ a at same. m.reached a (was q a at) same;
    }

-- ---- each step, and each run

frame_in : (k : ℕ) (sent : List RouteFrame) (f : Frame)
    → numbered_event (frame_at k sent) ≡ Some (of_node.Receive f)
    → In (route.Numbered f) sent
frame_in zero sent f e = absurd (none-some (of_node.Receive f) e)
frame_in (suc k) sent f e = go (slice_get sent k) refl e
  where
    go : (o : Option RouteFrame)
        → slice_get sent k ≡ o
        → numbered_event o ≡ Some (of_node.Receive f)
        → In (route.Numbered f) sent
    go None at h = absurd (none-some (of_node.Receive f) h)
    go (Some (route.Numbered g)) at h =
        let same : g ≡ f = cc in subst (λ x. In (route.Numbered x) sent) same (in_read sent k (route.Numbered g) at)
    go (Some (route.Info info)) at h = absurd (none-some (of_node.Receive f) h)
    go (Some (route.Connect connect)) at h = absurd (none-some (of_node.Receive f) h)

no_info : (session : ℕ) (o : Option RouteFrame) (f : Frame) → info_on session o ≡ Some (of_node.Receive f) → ⊥
no_info session None f e = cc
no_info session (Some (route.Numbered g)) f e = cc
no_info session (Some (route.Info info)) f e = cc
no_info session (Some (route.Connect connect)) f e = cc

no_connect : (session : ℕ) (o : Option RouteFrame) (f : Frame) → connect_on session o ≡ Some (of_node.Receive f) → ⊥
no_connect session None f e = cc
no_connect session (Some (route.Numbered g)) f e = cc
no_connect session (Some (route.Info info)) f e = cc
no_connect session (Some (route.Connect connect)) f e = cc

not_used : (n inc : ℕ) (started : List (ℕ × ℕ)) (o : Option (Option Running))
    → ◌≡◌ {A = Option (Option Running)} o (Some None)
    → ◌≡◌ {A = Option WorldFault} (start_refusal n inc started o) None
    → is_used n inc started ≡ false
not_used n inc started o is none =
    by (nat_eq inc 0) (is_used n inc started) refl (sym (ap (start_refusal n inc started) is) ∙ none)
  where
    by : (a b : Bool)
        → is_used n inc started ≡ b
        → ◌≡◌ {A = Option WorldFault} (cond (a || b) (Some fault.UsedIncarnation) None) None
        → is_used n inc started ≡ false
    by a false e h = e
    by true true e h = cc
    by false true e h = cc

module _ (c : Cluster) (cluster : IsCluster c) (w : World)
    (listed : (n : ℕ) (a : Option Running) → slice_get w.nodes n ≡ Some a → n < length c.names) (inv : Inv c w) where
  happens_inv : (e : Event) (outcome : Outcome) (w' : World)
      → ◌≡◌ {A = Option WorldFault} (world_refusal c w e) None
      → Happens c w e outcome w'
      → Inv c w'
  happens_inv (Start n inc) outcome w' none s =
      start_inv c w n inc outcome w' (not_used n inc w.started (slice_get w.nodes n) s.down none) s inv
  happens_inv (Stop n) outcome w' none s = stop_inv c w n outcome w' s inv
  happens_inv (Receive n k) outcome w' none s =
      acts_inv c cluster w n (event_for w (Receive n k)) outcome w' s (listed n (Some s.a) s.a_is) inv
      (λ f e. frame_in k w.sent f e)
  happens_inv (OnInfo n session k) outcome w' none s =
      acts_inv c cluster w n (event_for w (OnInfo n session k)) outcome w' s (listed n (Some s.a) s.a_is) inv
      (λ f e. absurd (no_info session (frame_at k w.sent) f e))
  happens_inv (OnConnect n session k) outcome w' none s =
      acts_inv c cluster w n (event_for w (OnConnect n session k)) outcome w' s (listed n (Some s.a) s.a_is) inv
      (λ f e. absurd (no_connect session (frame_at k w.sent) f e))
  happens_inv (At n event) outcome w' none s =
      acts_inv c cluster w n (event_for w (At n event)) outcome w' s (listed n (Some s.a) s.a_is) inv (λ f e. cc)

  refused_inv : (w' : World) → w' ≡ record w { step = suc w.step } → Inv c w'
  refused_inv w' e =
      subst (Inv c) (sym e) (record {
        running = inv.running;
        sent = λ f i message q lt from.
            let m = inv.sent f i message q lt from in record { started = m.started; reached = m.reached };
        marks = λ m q a peer apart at p.
            ⊎_elim (λ z. inl z)
            (λ (k : IsMade w q peer.seen peer.mark). inr (record { started = k.started; reached = k.reached }))
            (inv.marks m q a peer apart at p);
      })

  pub step_inv : (e : Event) (outcome : Outcome) (w' : World) → WorldStep c w e outcome w' → Inv c w'
  step_inv e outcome w' s = go (world_refusal c w e) refl s
    where
      go : (o : Option WorldFault) → world_refusal c w e ≡ o → Decided c w e o outcome w' → Inv c w'
      go None r d = happens_inv e outcome w' r d
      go (Some why) r d = refused_inv w' d.1

pub run_inv : (c : Cluster) → IsCluster c → (events : List Event) (w w' : World)
    → ((x : World) (before : List Event) → Run c w before x → (n : ℕ) (a : Option Running)
    → slice_get x.nodes n ≡ Some a → n < length c.names) → Inv c w → Run c w events w' → Inv c w'
run_inv c cluster [] w w' listed inv run = subst (Inv c) (sym run) inv
run_inv c cluster (e ∷ events) w w' listed inv run =
    run_inv c cluster events run.0 w' (λ x before r. listed x (e ∷ before) (run.0, run.1, run.2, r))
    (step_inv c cluster w (λ n a. listed w [] refl n a) inv e run.1 run.0 run.2) run.3

pub reached : (c : Cluster)
    → IsCluster c
    → (events : List Event) (w : World)
    → ((x : World) (before : List Event) → Run c (new_world c) before x → (n : ℕ) (a : Option Running)
    → slice_get x.nodes n ≡ Some a → n < length c.names)
    → Run c (new_world c) events w
    → MarksAreReached w
reached c cluster events w listed run =
    let inv = run_inv c cluster events (new_world c) w listed (new_inv c) run in
    record {
      reached = λ m q a b peer apart up up2 at seen.
          ⊎_elim (λ (z : peer.mark ≡ 0). omega (arith, z))
          (λ (k : IsMade w q peer.seen peer.mark). k.reached b up2 seen) (inv.marks m q a peer apart up at);
    }
