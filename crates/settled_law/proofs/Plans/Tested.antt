-- What is tested is so.
use Rattle.std.proofs.Common.{◌≡◌, ◌≢◌, ℕ, zero, suc, ◌+◌, ◌<◌, ◌≤◌, Bool, true, false, true≢false, cond, not, ◌&&◌, ◌||◌, nat_eq, nat_lt, nat_le, List, [], ◌∷◌, length, Option, Some, None, refl, sym, ap, ◌∙◌, subst, inl, inr, ⊎_elim, arith}
use Rattle.std.specs.Prelude.{slice_get, sum_by, is_none, unwrap_or, All}
use Rattle.std.specs.List.{list_any, list_all}
use Rattle.std.specs.List.Sorted.{IsStrictlySortedBy}
use Rattle.std.specs.BTreeMap.{is_at}
use Rattle.std.specs.Map.{keys_of, values_of, lookup}
use Rattle.std.specs.Ordering.{is_eq}
use Rattle.std.specs.Str.{bytes_eq}
use Rattle.std.proofs.lemmas.Slice.Eq.{bytes_eq-Decides}
use Rattle.std.proofs.lemmas.Map.Keys.{sorted_tail}
use Rattle.std.proofs.lemmas.Option.{none-some, same_Some, slice_get_within}
use Rattle.list_laws.specs.Lists.{In, Each, Pairs, is_empty}
use Rattle.list_laws.proofs.Lists.{in_map, in_read, get_some}
use Rattle.list_laws.proofs.Changes.{in_mapped}
use Rattle.list_laws.proofs.Tests.{false_eq, eq_true, and_true, not_true, lt_true, le_true, same_bytes}
use Rattle.outbox.specs.Views.{size_of}
use Rattle.sub_table.specs.declared.Subscription.{Subscription}
use Rattle.subj.specs.Messages.{Content}
use Rattle.subj.specs.declared.keys.Key.{Key}
use Rattle.subj.specs.declared.limits.TheConstants.{MAX_COUNTER, MAX_QUEUE_NAMES, ROUTE_FRAMES}
use Rattle.subj.specs.Keys.{key_cmp}
use Rattle.interest.specs.Counts.{Counts, count_of, told_weight}
use Rattle.interest.specs.Laws.{times}
use Rattle.interest.specs.Views.{View, told_view, same_views}
use Rattle.interest.proofs.Counting.Limits.{absent_behind}
use Rattle.route_session.specs.Best.{Offer}
use Rattle.route_session.specs.State.{Session, is_kept_at, has_session}
use Rattle.hub_core.specs.Choice.{queue_names}
use Rattle.hub_core.specs.Publishing.{Publication}
use Rattle.hub_core.specs.State.{Peer}
use Rattle.shard_core.specs.Shards.{Client}
use Rattle.node_law.specs.CountsOpen.{CountsAreOpen, open_keys}
use Rattle.node_law.specs.PeersKept.{KeptAt}
use Rattle.node_law.specs.Sound.{SoundNode}
use Rattle.node_law.specs.State.{ShardWithJobs}
use Rattle.sub_table.specs.Subscriptions.{matching_of}
use Rattle.shard_core.specs.Room.{due_length, takes_all}
use Rattle.node_law.specs.Settled.{is_peer_settled, is_line_settled, is_node_settled, has_room_in}
use Rattle.hub_core.specs.Settled.{has_few_names, knows_at}
use Rattle.world_law.specs.Headline.{IsCluster, EachUp}
use Rattle.world_law.specs.State.{Cluster, World, Running, server_at}
use Rattle.settled_law.specs.Room.{TakesAll}
use Rattle.settled_law.specs.Settled.{Tells, PeerIsSettled, LineIsSettled, NodeIsSettled, IsWantedName, IsQuiet, IsSettled, IsRoomy}
use Rattle.settled_law.specs.Tests.{are_peers_settled, are_settled, settled_for, are_roomy, room_for}
use Rattle.settled_law.proofs.Lists.{in_at, all_in}
use Rattle.settled_law.proofs.Plans.Interest.{is_self, same_if, counted_in, in_counted, counts_of_open}
use Rattle.settled_law.proofs.Plans.Plan.{wanted_is_named}

-- ---- lists

any_in : {A : Type 0} (test : A → Bool) (xs : List A) → list_any test xs ≡ true → (x : A) × In x xs × (test x ≡ true)
any_in test [] e = absurd (true≢false (sym e))
any_in test (y ∷ ys) e = go (test y) refl (any_in test ys) e
  where
    go : (b : Bool)
        → test y ≡ b
        → (list_any test ys ≡ true → (x : _) × In x ys × (test x ≡ true))
        → (test y || list_any test ys) ≡ true
        → (x : _) × In x (y ∷ ys) × (test x ≡ true)
    go true f later h = (y, inl refl, f)
    go false f later h = let l = later (sym (ap (λ b. b || list_any test ys) f) ∙ h) in (l.0, inr l.1, l.2)

empty_is : {A : Type 0} (xs : List A) → is_empty xs ≡ true → xs ≡ []
empty_is [] e = refl
empty_is (x ∷ xs) e = absurd (true≢false (sym e))

none_is : {A : Type 0} (o : Option A) → is_none o ≡ true → o ≡ None
none_is None e = refl
none_is (Some x) e = absurd (true≢false (sym e))

-- fewer distinct names than entries
without : List ℕ → List (List ℕ) → List (List ℕ)
without name [] = []
without name (x ∷ xs) = cond (bytes_eq name x) xs (x ∷ without name xs)

without_length : (name : List ℕ) (xs : List (List ℕ)) → In name xs → suc (length (without name xs)) ≡ length xs
unfolding without
without_length name [] i = absurd i
without_length name (x ∷ xs) i = go (bytes_eq name x) refl (without_length name xs) i
  where
    go : (b : Bool)
        → bytes_eq name x ≡ b
        → (In name xs → suc (length (without name xs)) ≡ length xs)
        → In name (x ∷ xs)
        → suc (length (cond b xs (x ∷ without name xs))) ≡ length (x ∷ xs)
    go true e later j = refl
    go false e later j =
        ⊎_elim (λ (s : name ≡ x). absurd (true≢false (sym ((bytes_eq-Decides name x).1 s) ∙ e)))
        (λ (k : In name xs). ap suc (later k)) j

without_in : (name y : List ℕ) (xs : List (List ℕ)) → name ≢ y → In y xs → In y (without name xs)
unfolding without
without_in name y [] apart i = absurd i
without_in name y (x ∷ xs) apart i = go (bytes_eq name x) refl (without_in name y xs apart) i
  where
    go : (b : Bool)
        → bytes_eq name x ≡ b
        → (In y xs → In y (without name xs))
        → In y (x ∷ xs)
        → In y (cond b xs (x ∷ without name xs))
    go true e later j = ⊎_elim (λ (s : y ≡ x). absurd (apart (same_bytes name x e ∙ sym s))) (λ (k : In y xs). k) j
    go false e later j = ⊎_elim (λ (s : y ≡ x). inl s) (λ (k : In y xs). inr (later k)) j

fewer : (names all : List (List ℕ))
    → Pairs (λ x y. x ≢ y) names
    → Each (λ name. In name all) names
    → length names ≤ length all
fewer [] all apart within = omega arith
fewer (name ∷ names) all apart within =
    let h = fewer names (without name all) apart.1 (λ y i. without_in name y all (apart.0 y i) (within y (inr i))) in
    let l = without_length name all (within name (inl refl)) in
    omega (arith, h, l)

-- ---- views

same_view : (xs ys : View) → same_views xs ys ≡ true → xs ≡ ys
same_view [] [] e = refl
same_view [] (y ∷ ys) e = absurd (true≢false (sym e))
same_view (x ∷ xs) [] e = absurd (true≢false (sym e))
same_view (x ∷ xs) (y ∷ ys) e =
    let h = and_true (is_eq (key_cmp x.0 y.0) && nat_eq x.1 y.1) (same_views xs ys) e in
    let g = and_true (is_eq (key_cmp x.0 y.0)) (nat_eq x.1 y.1) h.0 in
    λ i. (same_if x.0 y.0 g.0 i, eq_true x.1 y.1 g.1 i) ∷ same_view xs ys h.1 i

entry_counts : (counts : Counts) (key : Key) (n : ℕ)
    → IsStrictlySortedBy key_cmp (keys_of counts)
    → In (key, n) counts
    → count_of counts key ≡ n
entry_counts [] key n sorted i = absurd i
entry_counts (e ∷ counts) key n sorted i =
    go (is_eq (key_cmp key e.0)) refl (entry_counts counts key n (sorted_tail key_cmp e.0 (keys_of counts) sorted)) i
  where
    go : (b : Bool)
        → is_eq (key_cmp key e.0) ≡ b
        → (In (key, n) counts → count_of counts key ≡ n)
        → In (key, n) (e ∷ counts)
        → count_of (e ∷ counts) key ≡ n
    go true f later j =
        let g : count_of (e ∷ counts) key ≡ e.1 =
        ap (λ b. unwrap_or (cond b (Some e.1) (lookup (is_at (key_cmp key)) counts)) 0) f in
        ⊎_elim (λ (s : ◌≡◌ {A = Key × ℕ} (key, n) e). g ∙ sym (ap (λ (x : Key × ℕ). x.1) s))
        (λ (k : In (key, n) counts). absurd (gone (subst (λ x. In (x, n) counts) (same_if key e.0 f) k))) j
      where
        gone : In (e.0, n) counts → ⊥
        gone k = found counts k (absent_behind e counts sorted)
          where
            found : (es : Counts) → In (e.0, n) es → ◌≡◌ {A = Option ℕ} (lookup (is_at (key_cmp e.0)) es) None → ⊥
            found [] l none = absurd l
            found (x ∷ es) l none = by (is_eq (key_cmp e.0 x.0)) refl (found es)
              where
                by : (b : Bool)
                    → is_eq (key_cmp e.0 x.0) ≡ b
                    → (In (e.0, n) es → ◌≡◌ {A = Option ℕ} (lookup (is_at (key_cmp e.0)) es) None → ⊥)
                    → ⊥
                by true h later =
                    none-some x.1 (sym (sym (ap (λ b. cond b (Some x.1) (lookup (is_at (key_cmp e.0)) es)) h) ∙ none))
                by false h later =
                    ⊎_elim (λ (s : ◌≡◌ {A = Key × ℕ} (e.0, n) x).
                    true≢false
                    (sym (subst (λ k. is_eq (key_cmp e.0 k) ≡ true) (ap (λ (v : Key × ℕ). v.0) s) (is_self e.0)) ∙ h))
                    (λ (m : In (e.0, n) es).
                    later m (sym (ap (λ b. cond b (Some x.1) (lookup (is_at (key_cmp e.0)) es)) h) ∙ none))
                    l
    go false f later j =
        let g : count_of (e ∷ counts) key ≡ count_of counts key =
        ap (λ b. unwrap_or (cond b (Some e.1) (lookup (is_at (key_cmp key)) counts)) 0) f in
        ⊎_elim (λ (s : ◌≡◌ {A = Key × ℕ} (key, n) e).
        absurd
        (true≢false (sym (subst (λ x. is_eq (key_cmp key x) ≡ true) (ap (λ (v : Key × ℕ). v.0) s) (is_self key)) ∙ f)))
        (λ (k : In (key, n) counts). g ∙ later k) j

pub tells : (counts : Counts) (lines : List ShardWithJobs)
    → IsStrictlySortedBy key_cmp (keys_of counts)
    → All (λ count. 1 ≤ count) (values_of counts)
    → ((key : Key) → count_of counts key ≡ times key (open_keys lines))
    → Tells (told_view counts) lines
tells counts lines sorted some are = record {
  told = λ key weight i.
      let h = in_map (λ (e : Key × ℕ). (e.0, told_weight e.0 e.1)) counts (key, weight) i in
      told key weight h.0 h.1 (ap (λ (v : Key × ℕ). v.0) h.2) (ap (λ (v : Key × ℕ). v.1) h.2);
  all = λ key lt.
      let e = are key in
      let f = counted_in counts key (omega (arith, e, lt)) in
      let n : f.0 ≡ times key (open_keys lines) = sym (entry_counts counts key f.0 sorted f.1) ∙ e in
      subst (λ k. In (key, told_weight key k) (told_view counts)) n
      (in_mapped (λ (e : Key × ℕ). (e.0, told_weight e.0 e.1)) counts (key, f.0) f.1);
}
  where
    told : (key : Key) (weight : ℕ) (e : Key × ℕ)
        → In e counts
        → key ≡ e.0
        → weight ≡ told_weight e.0 e.1
        → (0 < times key (open_keys lines)) × (weight ≡ told_weight key (times key (open_keys lines)))
    told key weight e i k is =
        let c = entry_counts counts e.0 e.1 sorted i in
        let t = are e.0 in
        let lt = in_counted counts e.0 e.1 some i in
        let n : e.1 ≡ times e.0 (open_keys lines) = sym c ∙ t in (
          subst (λ x. 0 < times x (open_keys lines)) (sym k) (omega (arith, t, lt)),
          is ∙ (λ j. told_weight (sym k j) (n j)) ∙ (λ j. told_weight key (times (sym k j) (open_keys lines))),
        )

-- ---- the tests

module _ (c : Cluster) (cluster : IsCluster c) (w : World) (size : length w.nodes ≡ length c.names)
    (sound : EachUp (λ n a. SoundNode (server_at c n a.inc) a.node) w)
    (counted : EachUp (λ n a. CountsAreOpen (server_at c n a.inc) a.node) w) where
  line_settled : (line : ShardWithJobs) → is_line_settled line ≡ true → LineIsSettled line
  line_settled line e =
      let h = and_true (is_empty line.waiting) (is_none line.shard.hand && is_empty line.shard.deltas) e in
      let g = and_true (is_none line.shard.hand) (is_empty line.shard.deltas) h.1 in
      record {
        waiting = empty_is line.waiting h.0;
        hand = none_is line.shard.hand g.0;
        told = empty_is line.shard.deltas g.1;
      }

  node_settled : (a : Running) → is_node_settled a.node ≡ true → NodeIsSettled a
  node_settled a e =
      let h = and_true (list_all is_line_settled a.node.lines)
      (not a.node.hub.draining && (nat_lt a.node.hub.issued MAX_COUNTER && nat_lt a.node.hub.published MAX_COUNTER))
      e in
      let l = and_true (not a.node.hub.draining)
      (nat_lt a.node.hub.issued MAX_COUNTER && nat_lt a.node.hub.published MAX_COUNTER) h.1 in
      let g = and_true (nat_lt a.node.hub.issued MAX_COUNTER) (nat_lt a.node.hub.published MAX_COUNTER) l.1 in
      record {
        lines = λ place line at.
            line_settled line (all_in is_line_settled a.node.lines h.0 line (in_read a.node.lines place line at));
        lasting = not_true a.node.hub.draining l.0;
        issued = lt_true a.node.hub.issued MAX_COUNTER g.0;
        published = lt_true a.node.hub.published MAX_COUNTER g.1;
      }

  kept_at : (q inc : ℕ) (standing : List Session) → has_session q inc standing ≡ true → KeptAt standing q inc
  kept_at q inc standing e =
      let h = any_in (λ (session : Session). is_kept_at q inc session.kept) standing e in
      by h.0 h.1 h.0.kept refl h.2
    where
      by : (s : Session)
          → In s standing
          → (o : Option Offer)
          → s.kept ≡ o
          → is_kept_at q inc s.kept ≡ true
          → KeptAt standing q inc
      by s i None f g = absurd (true≢false (sym g ∙ ap (is_kept_at q inc) f))
      by s i (Some offer) f g =
          let h = and_true (nat_eq offer.peer q) (nat_eq offer.inc inc) (sym (ap (is_kept_at q inc) f) ∙ g) in
          record {
            session = s;
            stands = i;
            offer = offer;
            kept = f;
            peer = eq_true offer.peer q h.0;
            inc_is = eq_true offer.inc inc h.1;
          }

  -- the counts of a settled server are those of the open
  pub counts_are : (q : ℕ) (b : Running)
      → slice_get w.nodes q ≡ Some (Some b)
      → NodeIsSettled b
      → (key : Key)
      → count_of b.node.hub.counts key ≡ times key (open_keys b.node.lines)
  counts_are q b at s key =
      counts_of_open b.node.hub.counts b.node.lines key
      (λ line i. let k = in_at b.node.lines line i in (s.lines k.0 line k.1).told) ((counted q b at).counts key)

  peer_settled : (a b : Running) (q : ℕ)
      → slice_get w.nodes q ≡ Some (Some b)
      → NodeIsSettled b
      → (o : Option Peer)
      → slice_get a.node.hub.peers q ≡ o
      → (has_session q b.inc a.node.sessions.standing && knows_at o b.inc b.node.hub.counts) ≡ true
      → PeerIsSettled a b q
  peer_settled a b q at s None f e =
      absurd (true≢false (sym (and_true (has_session q b.inc a.node.sessions.standing) false e).1))
  peer_settled a b q at s (Some peer) f e =
      let k =
      and_true (has_session q b.inc a.node.sessions.standing) (knows_at (Some peer) b.inc b.node.hub.counts) e in
      let h = and_true peer.up
      (nat_eq peer.seen b.inc
      && (same_views peer.heard.keys (told_view b.node.hub.counts) && nat_lt (length peer.outbox) ROUTE_FRAMES))
      k.1 in
      let g = and_true (nat_eq peer.seen b.inc)
      (same_views peer.heard.keys (told_view b.node.hub.counts) && nat_lt (length peer.outbox) ROUTE_FRAMES) h.1 in
      let l = and_true (same_views peer.heard.keys (told_view b.node.hub.counts))
      (nat_lt (length peer.outbox) ROUTE_FRAMES) g.1 in
      let valid = (sound q b at).counts in
      record {
        peer = peer;
        at = f;
        up = h.0;
        seen = eq_true peer.seen b.inc g.0;
        session = kept_at q b.inc a.node.sessions.standing k.0;
        view =
            subst (λ v. Tells v b.node.lines) (sym (same_view peer.heard.keys (told_view b.node.hub.counts) l.0))
            (tells b.node.hub.counts b.node.lines valid.rising (λ j d lt. (valid.counted j d lt).0)
            (counts_are q b at s));
        room = lt_true (length peer.outbox) ROUTE_FRAMES l.1;
      }

  peers_settled : (m : ℕ) (a : Running) (q : ℕ) (nodes : List (Option Running))
      → are_peers_settled m a q nodes ≡ true
      → (k j : ℕ) (b : Running)
      → k ≡ q + j
      → m ≢ k
      → slice_get nodes j ≡ Some (Some b)
      → is_peer_settled a.node b.node b.inc k ≡ true
  peers_settled m a q [] e k j b sum apart at = absurd (none-some (Some b) at)
  peers_settled m a q (None ∷ nodes) e k j b sum apart at = absurd (true≢false (sym e))
  peers_settled m a q (Some x ∷ nodes) e k zero b sum apart at =
      let h = and_true (nat_eq m q || is_peer_settled a.node x.node x.inc q) (are_peers_settled m a (suc q) nodes) e in
      let same : q ≡ k = omega (arith, sum) in
      let x_is : x ≡ b = same_Some x b (same_Some (Some x) (Some b) at) in
      let other : nat_eq m q ≡ false = false_eq m q (λ f. apart (f ∙ same)) in
      subst (λ n. is_peer_settled a.node b.node b.inc n ≡ true) same
      (subst (λ y. is_peer_settled a.node y.node y.inc q ≡ true) x_is
      (sym (ap (λ t. t || is_peer_settled a.node x.node x.inc q) other) ∙ h.0))
  peers_settled m a q (Some x ∷ nodes) e k (suc j) b sum apart at =
      let h = and_true (nat_eq m q || is_peer_settled a.node x.node x.inc q) (are_peers_settled m a (suc q) nodes) e in
      peers_settled m a (suc q) nodes h.1 k j b (omega (arith, sum)) apart at

  record Each_so (subject : List ℕ) (m : ℕ) (a : Running) : Type 0 where
    node : is_node_settled a.node ≡ true
    peers : are_peers_settled m a 0 w.nodes ≡ true
    few : has_few_names (server_at c m a.inc) a.node.hub subject ≡ true

  each_so : (subject : List ℕ) (q : ℕ) (nodes : List (Option Running))
      → are_settled c subject w.nodes q nodes ≡ true
      → (k j : ℕ) (o : Option Running)
      → k ≡ q + j
      → slice_get nodes j ≡ Some o
      → (a : Running) × (o ≡ Some a) × Each_so subject k a
  each_so subject q [] e k j o sum at = absurd (none-some o at)
  each_so subject q (None ∷ nodes) e k j o sum at = absurd (true≢false (sym e))
  each_so subject q (Some x ∷ nodes) e k zero o sum at =
      let h = and_true (is_node_settled x.node)
      (are_peers_settled q x 0 w.nodes
      && (has_few_names (server_at c q x.inc) x.node.hub subject && are_settled c subject w.nodes (suc q) nodes))
      e in
      let g = and_true (are_peers_settled q x 0 w.nodes)
      (has_few_names (server_at c q x.inc) x.node.hub subject && are_settled c subject w.nodes (suc q) nodes) h.1 in
      let l = and_true (has_few_names (server_at c q x.inc) x.node.hub subject)
      (are_settled c subject w.nodes (suc q) nodes) g.1 in
      let same : q ≡ k = omega (arith, sum) in (
        x,
        sym (same_Some (Some x) o at),
        subst (λ n. Each_so subject n x) same (record { node = h.0; peers = g.0; few = l.0 }),
      )
  each_so subject q (Some x ∷ nodes) e k (suc j) o sum at =
      let h = and_true (is_node_settled x.node)
      (are_peers_settled q x 0 w.nodes
      && (has_few_names (server_at c q x.inc) x.node.hub subject && are_settled c subject w.nodes (suc q) nodes))
      e in
      let g = and_true (are_peers_settled q x 0 w.nodes)
      (has_few_names (server_at c q x.inc) x.node.hub subject && are_settled c subject w.nodes (suc q) nodes) h.1 in
      let l = and_true (has_few_names (server_at c q x.inc) x.node.hub subject)
      (are_settled c subject w.nodes (suc q) nodes) g.1 in
      each_so subject (suc q) nodes l.1 k j o (omega (arith, sum)) at

  module _ (subject : List ℕ) (e : settled_for c w subject ≡ true) where
    here : (n : ℕ) (a : Running) → slice_get w.nodes n ≡ Some (Some a) → Each_so subject n a
    here n a at =
        let h = each_so subject 0 w.nodes e n n (Some a) (omega arith) at in
        subst (Each_so subject n) (sym (same_Some a h.0 h.1)) h.2

    is_quiet : IsQuiet c w
    is_quiet = record {
      up = λ m lt.
          let g = get_some w.nodes m (let s = size in omega (arith, lt, s)) in
          let h = each_so subject 0 w.nodes e m m g.0 (omega arith) g.1 in
          (h.0, g.1 ∙ ap Some h.1);
      nodes = λ n a at. node_settled a (here n a at).node;
      peers = λ m q a b apart at at2.
          peer_settled a b q at2 (node_settled b (here q b at2).node) (slice_get a.node.hub.peers q) refl
          (peers_settled m a 0 w.nodes (here m a at).peers q q b (omega arith) apart at2);
    }

    publication : Publication
    publication = record {
      conn = 0;
      publication = record {
        message = record { subject = subject; reply = None; headers = None; payload = [] };
        echo = true;
      };
      word = 0;
    }

    is_few : (names : List (List ℕ))
        → Pairs (λ x y. x ≢ y) names
        → Each (IsWantedName w subject) names
        → length names ≤ MAX_QUEUE_NAMES
    is_few [] apart wanted = omega arith
    is_few (name ∷ names) apart wanted =
        let x = wanted name (inl refl) in
        let lt : x.node < length c.names =
        (let s = size in let l = slice_get_within w.nodes x.node (Some x.a) x.up in omega (arith, s, l)) in
        let f = fewer (name ∷ names) (queue_names (server_at c x.node x.a.inc) x.a.node.hub subject) apart (λ y i.
        wanted_is_named c cluster w x.node x.a
        (record {
          conn = 0;
          publication = record {
            message = record { subject = subject; reply = None; headers = None; payload = [] };
            echo = true;
          };
          word = 0;
        })
        lt x.up sound counted is_quiet y (wanted y i)) in
        let g = le_true (length (queue_names (server_at c x.node x.a.inc) x.a.node.hub subject)) MAX_QUEUE_NAMES
        (here x.node x.a x.up).few in
        omega (arith, f, g)

    pub is_settled : IsSettled c w subject
    is_settled = record { quiet = is_quiet; few = is_few }

-- ---- room

module _ (w : World) (message : Content) where
  takes : (subs : List Subscription) (client : Client)
      → takes_all message subs client ≡ true
      → TakesAll message subs client
  takes [] client e = record { entries = λ lt. absurd (omega arith); bytes = λ lt. absurd (omega arith) }
  takes (sub ∷ subs) client e =
      let h = and_true (nat_le (length client.outbox.entries + length (sub ∷ subs)) client.max_entries)
      (nat_le (size_of client.outbox.entries + sum_by (due_length message client.headers) (sub ∷ subs))
      client.max_bytes)
      e in
      record { entries = λ lt. le_true _ _ h.0; bytes = λ lt. le_true _ _ h.1 }

  roomy_at : (nodes : List (Option Running))
      → are_roomy message nodes ≡ true
      → (n : ℕ) (a : Running)
      → slice_get nodes n ≡ Some (Some a)
      → list_all (has_room_in message) a.node.lines ≡ true
  roomy_at [] e n a at = absurd (none-some (Some a) at)
  roomy_at (None ∷ nodes) e zero a at =
      let none : Option Running = None in absurd (none-some a (same_Some none (Some a) at))
  roomy_at (None ∷ nodes) e (suc n) a at = roomy_at nodes e n a at
  roomy_at (Some x ∷ nodes) e zero a at =
      subst (λ (y : Running). list_all (has_room_in message) y.node.lines ≡ true)
      (same_Some x a (same_Some (Some x) (Some a) at))
      (and_true (list_all (has_room_in message) x.node.lines) (are_roomy message nodes) e).0
  roomy_at (Some x ∷ nodes) e (suc n) a at =
      roomy_at nodes (and_true (list_all (has_room_in message) x.node.lines) (are_roomy message nodes) e).1 n a at

  pub is_roomy : room_for w message ≡ true → IsRoomy w message
  is_roomy e = record {
    room = λ n a at place line here client i.
        takes (matching_of client.number message.subject line.shard.subs) client
        (all_in
        (λ (client : Client). takes_all message (matching_of client.number message.subject line.shard.subs) client)
        line.shard.clients
        (all_in (has_room_in message) a.node.lines (roomy_at w.nodes e n a at) line
        (in_read a.node.lines place line here))
        client i);
  }
