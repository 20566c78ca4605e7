-- The order that goes server by server and shard by shard is right.
use Rattle.std.proofs.Common.{◌≡◌, ◌≢◌, ℕ, zero, suc, ◌+◌, ◌<◌, ◌≤◌, Bool, true, false, cond, ◌&&◌, nat_eq, List, [], ◌∷◌, ◌++◌, length, refl, sym, ap, ◌∙◌, subst, inl, inr, arith}
use Rattle.std.specs.Prelude.{filter}
use Rattle.std.specs.Str.{bytes_eq}
use Rattle.list_laws.specs.Lists.{Each}
use Rattle.list_laws.proofs.Lists.{each_append, each_cons}
use Rattle.list_laws.proofs.Changes.{filter_append, append_nil}
use Rattle.list_laws.proofs.Tests.{true_eq, false_eq}
use Rattle.subj.specs.Servers.{name_at}
use Rattle.route_values.specs.Frames.{Frame}
use Rattle.hub_core.specs.Publishing.{Publication, own_job, frames_of}
use Rattle.node_law.specs.declared.events.ShardWork.{ShardWork}
use Rattle.node_law.specs.declared.events.ShardWork.TheVariants.{Begin, Claim, End}
use Rattle.node_law.specs.Events.{AtShard}
use Rattle.world_law.specs.Events.{Event, Receive, At}
use Rattle.world_law.specs.State.{Cluster, World, Running, server_at}
use Rattle.settled_law.specs.Orders.{is_for, claims_from, work_events, names_in_body, events_of_frames, line_events, HasLine, IsOrder, works_from, frames_order, node_order, nodes_order, whole_order, SomeOrderIsRight}
use Rattle.settled_law.proofs.Works.Whole.{elsewhere}

-- ---- filters

keeps : (test : Event → Bool) (e : Event) (es : List Event) → test e ≡ true → filter test (e ∷ es) ≡ e ∷ filter test es
keeps test e es h = ap (λ b. cond b (e ∷ filter test es) (filter test es)) h

drops : (test : Event → Bool) (e : Event) (es : List Event) → test e ≡ false → filter test (e ∷ es) ≡ filter test es
drops test e es h = ap (λ b. cond b (e ∷ filter test es) (filter test es)) h

none : (test : Event → Bool) (es : List Event) → Each (λ e. test e ≡ false) es → filter test es ≡ []
none test [] h = refl
none test (e ∷ es) h = drops test e es (h e (inl refl)) ∙ none test es (λ x i. h x (inr i))

-- ---- the work of one shard

here : (m s : ℕ) (work : ShardWork) → is_for m s (At m (AtShard s work)) ≡ true
here m s work = λ i. true_eq m m refl i && true_eq s s refl i

there : (m s other : ℕ) (work : ShardWork) → other ≢ s → is_for m other (At m (AtShard s work)) ≡ false
there m s other work apart = by (nat_eq m m)
  where
    by : (b : Bool) → (b && nat_eq s other) ≡ false
    by true = false_eq s other (λ e. apart (sym e))
    by false = refl

claims_here : (m s index left : ℕ) → filter (is_for m s) (claims_from m s index left) ≡ claims_from m s index left
claims_here m s index zero = keeps (is_for m s) (At m (AtShard s End)) [] (here m s End)
claims_here m s index (suc left) =
    keeps (is_for m s) (At m (AtShard s (Claim index))) (claims_from m s (suc index) left) (here m s (Claim index))
    ∙ ap (λ l. At m (AtShard s (Claim index)) ∷ l) (claims_here m s (suc index) left)

work_here : (m s names : ℕ) → filter (is_for m s) (work_events m s names) ≡ work_events m s names
work_here m s names =
    keeps (is_for m s) (At m (AtShard s Begin)) (claims_from m s 0 names) (here m s Begin)
    ∙ ap (λ l. At m (AtShard s Begin) ∷ l) (claims_here m s 0 names)

claims_there : (m s other index left : ℕ) → other ≢ s → filter (is_for m other) (claims_from m s index left) ≡ []
claims_there m s other index zero apart = drops (is_for m other) (At m (AtShard s End)) [] (there m s other End apart)
claims_there m s other index (suc left) apart =
    drops (is_for m other) (At m (AtShard s (Claim index))) (claims_from m s (suc index) left)
    (there m s other (Claim index) apart)
    ∙ claims_there m s other (suc index) left apart

work_there : (m s other names : ℕ) → other ≢ s → filter (is_for m other) (work_events m s names) ≡ []
work_there m s other names apart =
    drops (is_for m other) (At m (AtShard s Begin)) (claims_from m s 0 names) (there m s other Begin apart)
    ∙ claims_there m s other 0 names apart

-- ---- of all shards

works_before : (m place count names p : ℕ) → p < place → filter (is_for m (suc p)) (works_from m place count names) ≡ []
works_before m place zero names p lt = refl
works_before m place (suc count) names p lt =
    filter_append (is_for m (suc p)) (work_events m (suc place) names) (works_from m (suc place) count names)
    ∙ (λ i.
    work_there m (suc place) (suc p) names (λ e. apart e) i
    ++ works_before m (suc place) count names p (omega (arith, lt)) i)
  where
    apart : suc p ≢ suc place
    apart e = omega (arith, e, lt)

works_found : (m place count names p j : ℕ)
    → p ≡ place + j
    → j < count
    → filter (is_for m (suc p)) (works_from m place count names) ≡ work_events m (suc p) names
works_found m place zero names p j sum lt = absurd (omega (arith, lt))
works_found m place (suc count) names p zero sum lt =
    let e : p ≡ place = omega (arith, sum) in
    filter_append (is_for m (suc p)) (work_events m (suc place) names) (works_from m (suc place) count names)
    ∙ (λ i.
    (subst (λ q. filter (is_for m (suc p)) (work_events m (suc q) names) ≡ work_events m (suc p) names) e
    (work_here m (suc p) names))
    i
    ++ works_before m (suc place) count names p (omega (arith, sum)) i)
    ∙ append_nil (work_events m (suc p) names)
works_found m place (suc count) names p (suc j) sum lt =
    filter_append (is_for m (suc p)) (work_events m (suc place) names) (works_from m (suc place) count names)
    ∙ (λ i.
    work_there m (suc place) (suc p) names (λ e. apart e) i
    ++ works_found m (suc place) count names p j (omega (arith, sum)) (omega (arith, lt)) i)
  where
    apart : suc p ≢ suc place
    apart e = omega (arith, e, sum)

-- ---- each event has its line

IsOf : Cluster → ℕ → Event → Type 0
IsOf c m e = (place : ℕ) × (place < c.shards) × (is_for m (suc place) e ≡ true)

claims_of : (c : Cluster) (m place index left : ℕ)
    → place < c.shards
    → Each (IsOf c m) (claims_from m (suc place) index left)
unfolding IsOf
claims_of c m place index zero lt =
    each_cons (IsOf c m) (At m (AtShard (suc place) End)) [] (place, lt, here m (suc place) End) (λ x i. absurd i)
claims_of c m place index (suc left) lt =
    each_cons (IsOf c m) (At m (AtShard (suc place) (Claim index))) (claims_from m (suc place) (suc index) left)
    (place, lt, here m (suc place) (Claim index)) (claims_of c m place (suc index) left lt)

works_of : (c : Cluster) (m place count names : ℕ)
    → place + count ≤ c.shards
    → Each (IsOf c m) (works_from m place count names)
unfolding IsOf
works_of c m place zero names le = λ x i. absurd i
works_of c m place (suc count) names le =
    each_append (IsOf c m) (work_events m (suc place) names) (works_from m (suc place) count names)
    (each_cons (IsOf c m) (At m (AtShard (suc place) Begin)) (claims_from m (suc place) 0 names)
    (place, omega (arith, le), here m (suc place) Begin) (claims_of c m place 0 names (omega (arith, le))))
    (works_of c m (suc place) count names (omega (arith, le)))

frames_of_order : (c : Cluster) (m number : ℕ) (frames : List Frame)
    → 0 < c.shards
    → Each (IsOf c m) (frames_order c.names m c.shards number frames)
unfolding IsOf
frames_of_order c m number [] some = λ x i. absurd i
frames_of_order c m number (frame ∷ frames) some =
    by (bytes_eq frame.to (name_at c.names m)) (frames_of_order c m (suc number) frames some)
  where
    by : (b : Bool)
        → Each (IsOf c m) (frames_order c.names m c.shards (suc number) frames)
        → Each (IsOf c m)
        (cond b (Receive m number ∷ works_from m 0 c.shards (names_in_body frame.body))
        (frames_order c.names m c.shards (suc number) frames))
    by true later =
        each_cons (IsOf c m) (Receive m number) (works_from m 0 c.shards (names_in_body frame.body))
        (0, some, true_eq m m refl) (works_of c m 0 c.shards (names_in_body frame.body) (omega arith))
    by false later = later

frames_filtered : (c : Cluster) (m number place : ℕ) (frames : List Frame)
    → place < c.shards
    → filter (is_for m (suc place)) (frames_order c.names m c.shards number frames)
    ≡ events_of_frames c.names m (suc place) number frames
frames_filtered c m number place [] lt = refl
frames_filtered c m number place (frame ∷ frames) lt =
    by (bytes_eq frame.to (name_at c.names m)) (frames_filtered c m (suc number) place frames lt)
  where
    by : (b : Bool)
        → filter (is_for m (suc place)) (frames_order c.names m c.shards (suc number) frames)
        ≡ events_of_frames c.names m (suc place) (suc number) frames
        → filter (is_for m (suc place))
        (cond b (Receive m number ∷ works_from m 0 c.shards (names_in_body frame.body))
        (frames_order c.names m c.shards (suc number) frames))
        ≡ cond b (Receive m number ∷ work_events m (suc place) (names_in_body frame.body))
        (events_of_frames c.names m (suc place) (suc number) frames)
    by true later =
        keeps (is_for m (suc place)) (Receive m number) (works_from m 0 c.shards (names_in_body frame.body))
        (true_eq m m refl)
        ∙ ap (λ l. Receive m number ∷ l)
        (works_found m 0 c.shards (names_in_body frame.body) place place (omega arith) lt)
    by false later = later

module _ (c : Cluster) (w : World) (n : ℕ) (a : Running) (p : Publication) (some : 0 < c.shards) where
  node_of : (m : ℕ) → Each (IsOf c m) (node_order c w n a p m)
  node_of m = by (nat_eq m n)
    where
      by : (b : Bool)
          → Each (IsOf c m)
          (cond b (works_from m 0 c.shards (length (own_job (server_at c n a.inc) a.node.hub p).queues))
          (frames_order c.names m c.shards (suc (length w.sent)) (frames_of (server_at c n a.inc) a.node.hub p)))
      by true = works_of c m 0 c.shards (length (own_job (server_at c n a.inc) a.node.hub p).queues) (omega arith)
      by false = frames_of_order c m (suc (length w.sent)) (frames_of (server_at c n a.inc) a.node.hub p) some

  node_here : (m place : ℕ)
      → place < c.shards
      → filter (is_for m (suc place)) (node_order c w n a p m) ≡ line_events c w n a p m (suc place)
  node_here m place lt = by (nat_eq m n)
    where
      by : (b : Bool)
          → filter (is_for m (suc place))
          (cond b (works_from m 0 c.shards (length (own_job (server_at c n a.inc) a.node.hub p).queues))
          (frames_order c.names m c.shards (suc (length w.sent)) (frames_of (server_at c n a.inc) a.node.hub p)))
          ≡ cond b (work_events m (suc place) (length (own_job (server_at c n a.inc) a.node.hub p).queues))
          (events_of_frames c.names m (suc place) (suc (length w.sent)) (frames_of (server_at c n a.inc) a.node.hub p))
      by true =
          works_found m 0 c.shards (length (own_job (server_at c n a.inc) a.node.hub p).queues) place place
          (omega arith) lt
      by false = frames_filtered c m (suc (length w.sent)) place (frames_of (server_at c n a.inc) a.node.hub p) lt

  node_there : (m o place : ℕ) → o ≢ m → filter (is_for o place) (node_order c w n a p m) ≡ []
  unfolding IsOf
  node_there m o place apart =
      none (is_for o place) (node_order c w n a p m)
      (λ e i. let h = node_of m e i in elsewhere m o (suc h.0) place e apart h.2)

  nodes_before : (m count o place : ℕ) → o < m → filter (is_for o (suc place)) (nodes_order c w n a p m count) ≡ []
  nodes_before m zero o place lt = refl
  nodes_before m (suc count) o place lt =
      filter_append (is_for o (suc place)) (node_order c w n a p m) (nodes_order c w n a p (suc m) count)
      ∙ (λ i. node_there m o (suc place) (λ e. apart e) i ++ nodes_before (suc m) count o place (omega (arith, lt)) i)
    where
      apart : o ≢ m
      apart e = omega (arith, e, lt)

  nodes_found : (m count o j place : ℕ)
      → o ≡ m + j
      → j < count
      → place < c.shards
      → filter (is_for o (suc place)) (nodes_order c w n a p m count) ≡ line_events c w n a p o (suc place)
  nodes_found m zero o j place sum below lt = absurd (omega (arith, below))
  nodes_found m (suc count) o zero place sum below lt =
      let e : o ≡ m = omega (arith, sum) in
      filter_append (is_for o (suc place)) (node_order c w n a p m) (nodes_order c w n a p (suc m) count)
      ∙ (λ i.
      (subst (λ q. filter (is_for o (suc place)) (node_order c w n a p q) ≡ line_events c w n a p o (suc place)) e
      (node_here o place lt))
      i
      ++ nodes_before (suc m) count o place (omega (arith, sum)) i)
      ∙ append_nil (line_events c w n a p o (suc place))
  nodes_found m (suc count) o (suc j) place sum below lt =
      filter_append (is_for o (suc place)) (node_order c w n a p m) (nodes_order c w n a p (suc m) count)
      ∙ (λ i.
      node_there m o (suc place) (λ e. apart e) i
      ++ nodes_found (suc m) count o j place (omega (arith, sum)) (omega (arith, below)) lt i)
    where
      apart : o ≢ m
      apart e = omega (arith, e, sum)

  nodes_of : (m count : ℕ) → m + count ≤ length c.names → Each (HasLine c) (nodes_order c w n a p m count)
  unfolding IsOf
  nodes_of m zero le = λ x i. absurd i
  nodes_of m (suc count) le =
      each_append (HasLine c) (node_order c w n a p m) (nodes_order c w n a p (suc m) count)
      (λ e i.
      let h = node_of m e i in record { node = m; place = h.0; listed = omega (arith, le); shard = h.1; is = h.2 })
      (nodes_of (suc m) count (omega (arith, le)))

  is_right : IsOrder c w n a p (whole_order c w n a p)
  is_right = record {
    lines = λ m place below lt. nodes_found 0 (length c.names) m m place (omega arith) below lt;
    only = nodes_of 0 (length c.names) (omega arith);
  }

pub some_order : SomeOrderIsRight
some_order c w n a p some = is_right c w n a p some
