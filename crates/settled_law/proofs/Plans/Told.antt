-- What is so is told by the tests.
use Rattle.std.proofs.Common.{◌≡◌, ◌≢◌, ℕ, suc, ◌+◌, ◌<◌, Bool, true, false, not, ◌&&◌, ◌||◌, nat_eq, List, [], ◌∷◌, length, Option, Some, None, refl, sym, ap, ◌∙◌, subst, inl, inr, ⊎_elim, arith}
use Rattle.std.specs.Prelude.{slice_get, is_none, take}
use Rattle.std.specs.List.{list_any, AllByRecursion}
use Rattle.std.specs.List.Sorted.{IsStrictlySortedBy}
use Rattle.std.specs.Map.{keys_of}
use Rattle.std.specs.declared.cmp.Ordering.TheVariants.{Less}
use Rattle.std.proofs.lemmas.Map.Keys.{sorted_head, sorted_tail}
use Rattle.std.proofs.lemmas.Option.{none-some, same_Some}
use Rattle.list_laws.specs.Lists.{In, is_empty}
use Rattle.list_laws.proofs.Changes.{in_mapped, map_map}
use Rattle.list_laws.proofs.Tests.{true_eq, eq_false}
use Rattle.subj.specs.Messages.{Content}
use Rattle.subj.specs.declared.keys.Key.{Key}
use Rattle.subj.specs.declared.limits.TheConstants.{MAX_COUNTER, MAX_QUEUE_NAMES, ROUTE_FRAMES}
use Rattle.subj.specs.Keys.{key_cmp}
use Rattle.interest.specs.Counts.{Counts, told_weight}
use Rattle.interest.specs.KeyOrder.{key_order_total}
use Rattle.interest.specs.Views.{View, told_view, view_with_change, view_after, view_at, same_views}
use Rattle.interest.specs.declared.changes.Change.{Change}
use Rattle.interest.specs.declared.changes.Change.TheVariants.{Up, Gone, Clear}
use Rattle.interest.proofs.Counting.Places.{sorted_inserted, sorted_removed}
use Rattle.route_session.specs.State.{Session, is_kept_at, has_session}
use Rattle.hub_core.specs.Choice.{queue_names}
use Rattle.hub_core.specs.State.{Peer}
use Rattle.hub_core.proofs.Choices.Names.{names_distinct}
use Rattle.shard_core.specs.Shards.{Client}
use Rattle.sub_table.specs.declared.Subscription.{Subscription}
use Rattle.node_law.specs.CountsOpen.{CountsAreOpen}
use Rattle.node_law.specs.Sound.{SoundNode}
use Rattle.node_law.specs.State.{ShardWithJobs}
use Rattle.sub_table.specs.Subscriptions.{matching_of}
use Rattle.node_law.specs.Settled.{is_peer_settled, is_line_settled, is_node_settled, has_room_in}
use Rattle.hub_core.specs.Settled.{has_few_names, knows_at}
use Rattle.shard_core.specs.Room.{takes_all}
use Rattle.world_law.specs.Headline.{IsCluster, EachUp}
use Rattle.world_law.specs.State.{Cluster, World, Running, server_at}
use Rattle.settled_law.specs.Room.{TakesAll}
use Rattle.settled_law.specs.Settled.{Tells, LineIsSettled, IsSettled, IsRoomy}
use Rattle.settled_law.specs.Tests.{are_peers_settled, are_settled, settled_for, are_roomy, room_for}
use Rattle.settled_law.proofs.Lists.{in_at, all_so, is_less, is_at_most}
use Rattle.settled_law.proofs.Plans.Interest.{is_self, self_equal}
use Rattle.settled_law.proofs.Plans.Plan.{name_is_wanted}
use Rattle.settled_law.proofs.Plans.Tested.{tells, counts_are}

-- ---- tests

any_so : {A : Type 0} (test : A → Bool) (xs : List A) (x : A) → In x xs → test x ≡ true → list_any test xs ≡ true
any_so test [] x i e = absurd i
any_so test (y ∷ ys) x i e = ⊎_elim
    (λ (s : x ≡ y). ap (λ b. b || list_any test ys) (sym (ap test s) ∙ e))
    (λ (j : In x ys). by (test y) (any_so test ys x j e)) i
  where
    by : (b : Bool) → list_any test ys ≡ true → (b || list_any test ys) ≡ true
    by true h = refl
    by false h = h

-- ---- views that rise and have the same entries are the same

rec_in : {A : Type 0} (P : A → Type 0) (xs : List A) (x : A) → AllByRecursion P xs → In x xs → P x
rec_in P [] x all i = absurd i
rec_in P (y ∷ ys) x all i = ⊎_elim (λ (e : x ≡ y). subst P (sym e) all.0) (λ (j : In x ys). rec_in P ys x all.1 j) i

abbrev pub Rises : View → Type 0
Rises view = IsStrictlySortedBy key_cmp (keys_of view)

below : (x : Key × ℕ) (xs : View) (e : Key × ℕ) → Rises (x ∷ xs) → In e xs → key_cmp x.0 e.0 ≡ Less
below x xs e rises i =
    rec_in (λ y. key_cmp x.0 y ≡ Less) (keys_of xs) e.0 (sorted_head key_cmp x.0 (keys_of xs) rises)
    (in_mapped (λ (v : Key × ℕ). v.0) xs e i)

not_below : (a : Key) → key_cmp a a ≡ Less → ⊥
not_below a e = cc (self_equal a)

pub same_entries : (xs ys : View)
    → Rises xs
    → Rises ys
    → ((e : Key × ℕ) → In e xs → In e ys)
    → ((e : Key × ℕ) → In e ys → In e xs)
    → xs ≡ ys
same_entries [] [] r s f g = refl
same_entries [] (y ∷ ys) r s f g = absurd (g y (inl refl))
same_entries (x ∷ xs) [] r s f g = absurd (f x (inl refl))
same_entries (x ∷ xs) (y ∷ ys) r s f g = λ i.
    head i
    ∷ same_entries xs ys (sorted_tail key_cmp x.0 (keys_of xs) r) (sorted_tail key_cmp y.0 (keys_of ys) s) there back i
  where
    head : x ≡ y
    head =
        ⊎_elim (λ (e : x ≡ y). e)
        (λ (j : In x ys).
        ⊎_elim (λ (e : y ≡ x). sym e)
        (λ (k : In y xs).
        absurd (not_below x.0 (key_order_total.trans x.0 y.0 x.0 (below x xs y r k) (below y ys x s j))))
        (g y (inl refl)))
        (f x (inl refl))

    there : (e : Key × ℕ) → In e xs → In e ys
    there e i =
        ⊎_elim (λ (h : e ≡ y).
        absurd (not_below x.0 (subst (λ (v : Key × ℕ). key_cmp x.0 v.0 ≡ Less) (h ∙ sym head) (below x xs e r i))))
        (λ (j : In e ys). j) (f e (inr i))

    back : (e : Key × ℕ) → In e ys → In e xs
    back e i =
        ⊎_elim (λ (h : e ≡ x).
        absurd (not_below y.0 (subst (λ (v : Key × ℕ). key_cmp y.0 v.0 ≡ Less) (h ∙ head) (below y ys e s i))))
        (λ (j : In e xs). j) (g e (inr i))

same_self : (xs : View) → same_views xs xs ≡ true
same_self [] = refl
same_self (x ∷ xs) = λ i. (is_self x.0 i && true_eq x.1 x.1 refl i) && same_self xs i

no_view : Rises []
unfolding IsStrictlySortedBy
no_view = tt

-- what was told rises
rises_after : (changes : List Change) (view : View) → Rises view → Rises (view_after changes view)
rises_after [] view r = r
rises_after (Up weighted ∷ changes) view r =
    rises_after changes (view_with_change (Up weighted) view)
    (sorted_inserted key_order_total weighted.0 view weighted.1 r)
rises_after (Gone key ∷ changes) view r =
    rises_after changes (view_with_change (Gone key) view) (sorted_removed key_order_total key view r)
rises_after (Clear ∷ changes) view r = rises_after changes [] no_view

pub view_rises : (changes : List Change) (count : ℕ) → Rises (view_at changes count)
view_rises changes count = rises_after (take count changes) [] no_view

told_rises : (counts : Counts) → IsStrictlySortedBy key_cmp (keys_of counts) → Rises (told_view counts)
told_rises counts r =
    subst (IsStrictlySortedBy key_cmp)
    (sym (map_map (λ (e : Key × ℕ). (e.0, told_weight e.0 e.1)) (λ (e : Key × ℕ). e.0) counts)) r

-- two views that tell of the same open subscriptions
same_told : (xs ys : View) (lines : List ShardWithJobs)
    → Tells xs lines
    → Tells ys lines
    → (e : Key × ℕ)
    → In e xs
    → In e ys
same_told xs ys lines f g e i =
    let h = f.told e.0 e.1 i in
    subst (λ k. In (e.0, k) ys) (sym h.1) (g.all e.0 h.0)

-- ---- the tests

module _ (c : Cluster) (cluster : IsCluster c) (w : World) (size : length w.nodes ≡ length c.names)
    (sound : EachUp (λ n a. SoundNode (server_at c n a.inc) a.node) w)
    (counted : EachUp (λ n a. CountsAreOpen (server_at c n a.inc) a.node) w)
    (rising :
    EachUp (λ n a. (q : ℕ) (peer : Peer) → slice_get a.node.hub.peers q ≡ Some peer → Rises peer.heard.keys) w)
    (subject : List ℕ) (settled : IsSettled c w subject) where
  line_told : (line : ShardWithJobs) → LineIsSettled line → is_line_settled line ≡ true
  line_told line s = λ i. is_empty (s.waiting i) && (is_none (s.hand i) && is_empty (s.told i))

  node_told : (n : ℕ) (a : Running) → slice_get w.nodes n ≡ Some (Some a) → is_node_settled a.node ≡ true
  node_told n a at =
      let s = settled.quiet.nodes n a at in
      let lines = all_so is_line_settled a.node.lines
      (λ line i. let k = in_at a.node.lines line i in line_told line (s.lines k.0 line k.1)) in
      λ i.
      lines i
      && (not (s.lasting i)
      && (is_less a.node.hub.issued MAX_COUNTER s.issued i && is_less a.node.hub.published MAX_COUNTER s.published i))

  peer_told : (m q : ℕ) (a b : Running)
      → m ≢ q
      → slice_get w.nodes m ≡ Some (Some a)
      → slice_get w.nodes q ≡ Some (Some b)
      → is_peer_settled a.node b.node b.inc q ≡ true
  peer_told m q a b apart at at2 =
      let s = settled.quiet.peers m q a b apart at at2 in
      let k = s.session in
      let session : has_session q b.inc a.node.sessions.standing ≡ true = any_so
      (λ (session : Session). is_kept_at q b.inc session.kept) a.node.sessions.standing k.session k.stands
      (ap (is_kept_at q b.inc) k.kept
      ∙ (λ i. true_eq k.offer.peer q k.peer i && true_eq k.offer.inc b.inc k.inc_is i)) in
      let valid = (sound q b at2).counts in
      let told : Tells (told_view b.node.hub.counts) b.node.lines = tells b.node.hub.counts b.node.lines valid.rising
      (λ j d lt. (valid.counted j d lt).0)
      (counts_are c cluster w size sound counted q b at2 (settled.quiet.nodes q b at2)) in
      let same : s.peer.heard.keys ≡ told_view b.node.hub.counts = same_entries s.peer.heard.keys
      (told_view b.node.hub.counts) (rising m a at q s.peer s.at) (told_rises b.node.hub.counts valid.rising)
      (same_told s.peer.heard.keys (told_view b.node.hub.counts) b.node.lines s.view told)
      (same_told (told_view b.node.hub.counts) s.peer.heard.keys b.node.lines told s.view) in
      let views : same_views s.peer.heard.keys (told_view b.node.hub.counts) ≡ true =
      ap (λ v. same_views v (told_view b.node.hub.counts)) same ∙ same_self (told_view b.node.hub.counts) in
      ap (λ o. has_session q b.inc a.node.sessions.standing && knows_at o b.inc b.node.hub.counts) s.at
      ∙ (λ i.
      session i
      && (s.up i
      && (true_eq s.peer.seen b.inc s.seen i && (views i && is_less (length s.peer.outbox) ROUTE_FRAMES s.room i))))

  peers_told : (m : ℕ) (a : Running)
      → slice_get w.nodes m ≡ Some (Some a)
      → (q : ℕ) (nodes : List (Option Running))
      → ((k j : ℕ) → k ≡ q + j → j < length nodes
      → (b : Running) × (slice_get nodes j ≡ Some (Some b)) × (slice_get w.nodes k ≡ Some (Some b)))
      → are_peers_settled m a q nodes ≡ true
  peers_told m a at q [] each = refl
  peers_told m a at q (None ∷ nodes) each =
      let none : Option Running = None in
      let h = each q 0 (omega arith) (omega arith) in absurd (none-some h.0 (same_Some none (Some h.0) h.1))
  peers_told m a at q (Some b ∷ nodes) each =
      let h = each q 0 (omega arith) (omega arith) in
      let same : b ≡ h.0 = same_Some b h.0 (same_Some (Some b) (Some h.0) h.1) in
      let here : slice_get w.nodes q ≡ Some (Some b) = h.2 ∙ ap (λ x. Some (Some x)) (sym same) in
      let rest =
      peers_told m a at (suc q) nodes (λ k j sum lt. each k (suc j) (omega (arith, sum)) (omega (arith, lt))) in
      λ i. first here (nat_eq m q) refl i && rest i
    where
      first : slice_get w.nodes q ≡ Some (Some b)
          → (t : Bool)
          → nat_eq m q ≡ t
          → (nat_eq m q || is_peer_settled a.node b.node b.inc q) ≡ true
      first here true e = ap (λ t. t || is_peer_settled a.node b.node b.inc q) e
      first here false e =
          ap (λ t. t || is_peer_settled a.node b.node b.inc q) e ∙ peer_told m q a b (eq_false m q e) at here

  few_told : (n : ℕ) (a : Running)
      → n < length c.names
      → slice_get w.nodes n ≡ Some (Some a)
      → has_few_names (server_at c n a.inc) a.node.hub subject ≡ true
  few_told n a lt at =
      is_at_most (length (queue_names (server_at c n a.inc) a.node.hub subject)) MAX_QUEUE_NAMES
      (settled.few (queue_names (server_at c n a.inc) a.node.hub subject)
      (names_distinct (server_at c n a.inc) a.node.hub subject) (λ name i.
      name_is_wanted c cluster w n a
      (record {
        conn = 0;
        publication = record {
          message = record { subject = subject; reply = None; headers = None; payload = [] };
          echo = true;
        };
        word = 0;
      })
      lt at sound counted settled.quiet name i))

  all_told : (q : ℕ) (nodes : List (Option Running))
      → ((k j : ℕ) → k ≡ q + j → j < length nodes
      → (k < length c.names)
      × ((b : Running) × (slice_get nodes j ≡ Some (Some b)) × (slice_get w.nodes k ≡ Some (Some b))))
      → are_settled c subject w.nodes q nodes ≡ true
  all_told q [] each = refl
  all_told q (None ∷ nodes) each =
      let none : Option Running = None in
      let h = each q 0 (omega arith) (omega arith) in absurd (none-some h.1.0 (same_Some none (Some h.1.0) h.1.1))
  all_told q (Some a ∷ nodes) each =
      let h = each q 0 (omega arith) (omega arith) in
      let same : a ≡ h.1.0 = same_Some a h.1.0 (same_Some (Some a) (Some h.1.0) h.1.1) in
      let here : slice_get w.nodes q ≡ Some (Some a) = h.1.2 ∙ ap (λ x. Some (Some x)) (sym same) in
      let peers = peers_told q a here 0 w.nodes (λ k j sum lt.
      let g = up_at j lt in (g.0, g.1, ap (slice_get w.nodes) (let e : k ≡ j = omega (arith, sum) in e) ∙ g.1)) in
      let rest = all_told (suc q) nodes (λ k j sum lt. each k (suc j) (omega (arith, sum)) (omega (arith, lt))) in
      λ i. node_told q a here i && (peers i && (few_told q a h.0 here i && rest i))
    where
      up_at : (j : ℕ) → j < length w.nodes → (b : Running) × (slice_get w.nodes j ≡ Some (Some b))
      up_at j lt = settled.quiet.up j (let s = size in omega (arith, lt, s))

  pub is_told : settled_for c w subject ≡ true
  is_told = all_told 0 w.nodes (λ k j sum lt.
      let e : k ≡ j = omega (arith, sum) in
      let g = settled.quiet.up j (let s = size in omega (arith, lt, s)) in
      ((let s = size in omega (arith, lt, s, sum)), (g.0, g.1, ap (slice_get w.nodes) e ∙ g.1)))

-- ---- room

module _ (w : World) (message : Content) (roomy : IsRoomy w message) where
  line_roomy : (n : ℕ) (a : Running) (place : ℕ) (line : ShardWithJobs)
      → slice_get w.nodes n ≡ Some (Some a)
      → slice_get a.node.lines place ≡ Some line
      → has_room_in message line ≡ true
  line_roomy n a place line at here =
      all_so (λ (client : Client). takes_all message (matching_of client.number message.subject line.shard.subs) client)
      line.shard.clients (λ client i.
      takes (matching_of client.number message.subject line.shard.subs) client
      (roomy.room n a at place line here client i))
    where
      takes : (subs : List Subscription) (client : Client)
          → TakesAll message subs client
          → takes_all message subs client ≡ true
      takes [] client t = refl
      takes (sub ∷ subs) client t =
          λ j. is_at_most _ _ (t.entries (omega arith)) j && is_at_most _ _ (t.bytes (omega arith)) j

  nodes_roomy : (q : ℕ) (nodes : List (Option Running))
      → ((j k : ℕ) (a : Running) → k ≡ q + j → slice_get nodes j ≡ Some (Some a) → slice_get w.nodes k ≡ Some (Some a))
      → are_roomy message nodes ≡ true
  nodes_roomy q [] each = refl
  nodes_roomy q (None ∷ nodes) each =
      nodes_roomy (suc q) nodes (λ j k a sum at. each (suc j) k a (omega (arith, sum)) at)
  nodes_roomy q (Some a ∷ nodes) each =
      let here = each 0 q a (omega arith) refl in
      let lines = all_so (has_room_in message) a.node.lines
      (λ line i. let k = in_at a.node.lines line i in line_roomy q a k.0 line here k.1) in
      let rest = nodes_roomy (suc q) nodes (λ j k a sum at. each (suc j) k a (omega (arith, sum)) at) in
      λ i. lines i && rest i

  pub room_is_told : room_for w message ≡ true
  room_is_told =
      nodes_roomy 0 w.nodes (λ j k a sum at. ap (slice_get w.nodes) (let e : k ≡ j = omega (arith, sum) in e) ∙ at)
