-- What a publish owes where the cluster is settled.
use Rattle.std.proofs.Common.{◌≡◌, ◌≢◌, ◌⊎◌, ℕ, zero, suc, ◌+◌, ◌<◌, ◌≤◌, Bool, true, false, true≢false, cond, not, ◌&&◌, ◌||◌, nat_eq, nat_lt, nat_le, List, [], ◌∷◌, length, take, Option, Some, None, refl, sym, ap, ◌∙◌, subst, inl, inr, ⊎_elim, arith}
use Rattle.std.specs.Prelude.{slice_get, position, All}
use Rattle.std.specs.List.{prefix_len, position_or_len}
use Rattle.std.specs.Map.{values_of}
use Rattle.std.proofs.lemmas.List.Elements.{All-head, All-tail}
use Rattle.std.specs.Option.{option_map, option_or}
use Rattle.std.specs.Str.{bytes_eq}
use Rattle.std.proofs.lemmas.Option.{same_Some, slice_get_within}
use Rattle.std.proofs.lemmas.Slice.Eq.{bytes_eq-Decides}
use Rattle.list_laws.specs.Lists.{In, Each, Pairs, is_empty}
use Rattle.list_laws.proofs.Lists.{get_some, in_map}
use Rattle.list_laws.proofs.Changes.{pairs_filter, filter_in}
use Rattle.list_laws.proofs.Tests.{true_eq, false_eq, eq_true, eq_false, and_true, same_bytes}
use Rattle.sub_table.specs.declared.Subscription.{Subscription}
use Rattle.subj.specs.Matching.{subject_matches}
use Rattle.subj.specs.QueueNames.{is_named}
use Rattle.subj.specs.Servers.{ServerIdentity, IsListed, name_of, name_at, own_name, place, is_peer}
use Rattle.subj.specs.declared.keys.Key.{Key}
use Rattle.subj.specs.declared.jobs.Job.{Job}
use Rattle.subj.specs.declared.limits.TheConstants.{WINDOW, MAX_COUNTER, MAX_QUEUE_NAMES, ROUTE_FRAMES}
use Rattle.claim_race.specs.Race.{busy_of, is_behind}
use Rattle.interest.specs.Counts.{Counts, count_of, is_plain, told_weight}
use Rattle.interest.specs.Laws.{times}
use Rattle.interest.specs.Matches.{weight_in, is_match_of, has_plain_match}
use Rattle.interest.specs.Heard.{nothing_heard}
use Rattle.route_values.specs.Frames.{Frame}
use Rattle.hub_core.specs.declared.faults.HubFault.TheVariants.{Busy, Spent, TooManyQueues, NotMe, OtherMe, StaleOrigin, Late}
use Rattle.hub_core.specs.Choice.{is_eligible, weight_at, weights, names_for}
use Rattle.hub_core.specs.Publishing.{Publication, subject_of, names_of, choice_of, publish_refusal, own_job, frames_of, is_owed}
use Rattle.hub_core.specs.Receiving.{receive_refusal, origin_fault, message_fault, routed_job}
use Rattle.hub_core.specs.State.{Peer, peer_of, peer_at, peer_in_life}
use Rattle.hub_core.specs.Wanted.{SomeWants, PeerWants}
use Rattle.hub_core.proofs.Choices.Names.{names_distinct}
use Rattle.hub_core.proofs.Choices.Places.{named}
use Rattle.hub_core.proofs.Choices.Wanted.{names_are_wanted}
use Rattle.hub_core.proofs.Steps.Behind.{no_busy}
use Rattle.shard_core.specs.Lines.{Turns, begun_turn}
use Rattle.node_law.specs.CountsOpen.{CountsAreOpen, open_keys}
use Rattle.node_law.specs.EachShard.{ShardsAreHeld}
use Rattle.node_law.specs.Sound.{SoundNode}
use Rattle.node_law.specs.State.{ShardWithJobs, Node, finished_turns}
use Rattle.world_law.specs.Headline.{IsCluster, EachUp}
use Rattle.world_law.specs.State.{Cluster, World, Running, server_at}
use Rattle.settled_law.specs.Marks.{MarksAreReached}
use Rattle.settled_law.specs.Room.{HasRoom}
use Rattle.settled_law.specs.Settled.{LineIsSettled, IsWantedName, IsQuiet, IsRoomy}
use Rattle.settled_law.proofs.Lists.{in_at, is_less, not_less, not_at_most}
use Rattle.settled_law.proofs.Plans.Interest.{times_in, in_times, OpenSub, open_in, in_open, counted_in, in_counted, counts_of_open}
use Rattle.settled_law.proofs.Plans.Choice.{weighs, weigher, some_units, picked, WeightOf, weight_is, weight_there, frame_to, frame_is, frame_there, plain_there}
use Rattle.settled_law.proofs.Works.Stages.{Rests, Errand}

-- ---- lists

none_passes : (test : ℕ → Bool) (xs : List ℕ) → Each (λ x. test x ≡ false) xs → position test xs ≡ None
none_passes test xs none =
    ap (λ b. cond b (Some (position_or_len test xs)) None)
    (not_less (position_or_len test xs) (length xs) (let e = all xs none in omega (arith, e)))
  where
    all : (xs : List ℕ) → Each (λ x. test x ≡ false) xs → prefix_len (λ x. not (test x)) xs ≡ length xs
    all [] none = refl
    all (x ∷ xs) none =
        ap (λ b. cond (not b) (1 + prefix_len (λ x. not (test x)) xs) 0) (none x (inl refl))
        ∙ (let h = all xs (λ y i. none y (inr i)) in omega (arith, h))

in_take : (k : ℕ) (xs : List ℕ) (x : ℕ) → In x (take k xs) → In x xs
in_take zero xs x i = absurd i
in_take (suc k) [] x i = absurd i
in_take (suc k) (y ∷ xs) x i = ⊎_elim (λ (e : x ≡ y). inl e) (λ (j : In x (take k xs)). inr (in_take k xs x j)) i

-- ---- a settled server is not behind

module _ (server : ServerIdentity) (a : Node) (sound : SoundNode server a)
    (lines : (place : ℕ) (line : ShardWithJobs) → slice_get a.lines place ≡ Some line → LineIsSettled line) where
  pub finished_is : (place : ℕ) (line : ShardWithJobs)
      → slice_get a.lines place ≡ Some line
      → line.shard.finished ≡ a.hub.issued
  finished_is place line at =
      let s = lines place line at in
      let t : Turns (begun_turn line.shard.hand line.shard.finished) line.waiting a.race.issued =
      (sound.lines place line at).sound.turns in
      let u : line.shard.finished ≡ a.race.issued = subst
      (λ l. Turns (begun_turn None line.shard.finished) l a.race.issued) s.waiting
      (subst (λ h. Turns (begun_turn h line.shard.finished) line.waiting a.race.issued) s.hand t) in
      u ∙ sym sound.issued

  pub not_busy : (k : ℕ) → busy_of a.hub.issued (take k (finished_turns a.lines)) ≡ None
  not_busy k =
      no_busy a.hub.issued (take k (finished_turns a.lines))
      (none_passes (is_behind a.hub.issued) (take k (finished_turns a.lines)) (λ x i.
      let h =
      in_map (λ (line : ShardWithJobs). line.shard.finished) a.lines x (in_take k (finished_turns a.lines) x i) in
      let at = in_at a.lines h.0 h.1 in
      let f = finished_is at.0 h.0 at.1 in
      let e : x ≡ h.0.shard.finished = h.2 in
      ap (λ n. nat_lt (n + WINDOW) (a.hub.issued + 1)) (e ∙ f)
      ∙ not_less (a.hub.issued + WINDOW) (a.hub.issued + 1) (omega arith)))

-- ---- the plan

module _ (c : Cluster) (cluster : IsCluster c) (w : World) (n : ℕ) (a : Running) (p : Publication)
    (below : n < length c.names) (up : slice_get w.nodes n ≡ Some (Some a))
    (sound : EachUp (λ n a. SoundNode (server_at c n a.inc) a.node) w)
    (counted : EachUp (λ n a. CountsAreOpen (server_at c n a.inc) a.node) w) (quiet : IsQuiet c w) where
  abbrev server : ServerIdentity
  server = server_at c n a.inc

  abbrev names : List (List ℕ)
  names = names_of (server_at c n a.inc) a.node.hub p

  abbrev choice : List ℕ → Option (List ℕ)
  choice = choice_of (server_at c n a.inc) a.node.hub p

  listed : IsListed (server_at c n a.inc)
  listed = record { apart = cluster.apart; listed = below }

  all_told : (m : ℕ) (b : Running)
      → slice_get w.nodes m ≡ Some (Some b)
      → Each (λ (line : ShardWithJobs). line.shard.deltas ≡ []) b.node.lines
  all_told m b at line i = let k = in_at b.node.lines line i in ((quiet.nodes m b at).lines k.0 line k.1).told

  own_counts : (key : Key) → count_of a.node.hub.counts key ≡ times key (open_keys a.node.lines)
  own_counts key = counts_of_open a.node.hub.counts a.node.lines key (all_told n a up) ((counted n a up).counts key)

  are_some : All (λ count. 1 ≤ count) (values_of a.node.hub.counts)
  are_some = λ k d lt. ((sound n a up).counts.counted k d lt).0

  same_up : (m : ℕ) (b b' : Running)
      → slice_get w.nodes m ≡ Some (Some b)
      → slice_get w.nodes m ≡ Some (Some b')
      → b ≡ b'
  same_up m b b' e f = same_Some b b' (same_Some (Some b) (Some b') (sym e ∙ f))

  -- ---- who is eligible

  pub eligible : (q : ℕ) (b : Running) (far : n ≢ q) (at : slice_get w.nodes q ≡ Some (Some b))
      → is_eligible (server_at c n a.inc) q (quiet.peers n q a b far up at).peer ≡ true
  eligible q b far at =
      let s = quiet.peers n q a b far up at in
      let other : nat_eq q n ≡ false = false_eq q n (λ e. far (sym e)) in
      let room : nat_lt (length s.peer.outbox) ROUTE_FRAMES ≡ true =
      is_less (length s.peer.outbox) ROUTE_FRAMES s.room in
      λ i. not (other i) && (s.up i && room i)

  in_cluster : (q : ℕ) (peer : Peer) → slice_get a.node.hub.peers q ≡ Some peer → q < length c.names
  in_cluster q peer at =
      let size : length a.node.hub.peers ≡ length c.names = (sound n a up).peers in
      let lt = slice_get_within a.node.hub.peers q peer at in
      omega (arith, size, lt)

  -- what the peer at a place is, where it is eligible
  record Other (q : ℕ) (peer : Peer) : Type 0 where
    b : Running
    far : n ≢ q
    at : slice_get w.nodes q ≡ Some (Some b)
    peer_is : (quiet.peers n q a b far up at).peer ≡ peer

  other_is : (q : ℕ) (peer : Peer) → slice_get a.node.hub.peers q ≡ Some peer → n ≢ q → Other q peer
  other_is q peer at far =
      let b = quiet.up q (in_cluster q peer at) in
      record {
        b = b.0;
        far = far;
        at = b.1;
        peer_is =
            same_Some (quiet.peers n q a b.0 far up b.1).peer peer (sym (quiet.peers n q a b.0 far up b.1).at ∙ at);
      }

  is_other : (q : ℕ) (peer : Peer) → is_eligible (server_at c n a.inc) q peer ≡ true → n ≢ q
  is_other q peer e f =
      let no : nat_eq q n ≡ true = true_eq q n (sym f) in
      true≢false
      (sym (and_true (not (nat_eq q n)) (peer.up && nat_lt (length peer.outbox) ROUTE_FRAMES) e).0 ∙ ap not no)

  -- ---- the names are those of open members

  own_key : (u : Subscription) (place : ℕ) (line : ShardWithJobs)
      → slice_get a.node.lines place ≡ Some line
      → In u line.shard.subs
      → (k : ℕ) × In (u.key, k) a.node.hub.counts
  own_key u place line at i =
      let t = in_times u.key (open_keys a.node.lines) (in_open a.node.lines place line u at i) in
      let e = own_counts u.key in
      counted_in a.node.hub.counts u.key (omega (arith, t, e))

  own_open : (key : Key) (k : ℕ) → In (key, k) a.node.hub.counts → OpenSub a.node.lines key
  own_open key k i =
      let t = in_counted a.node.hub.counts key k are_some i in
      let e = own_counts key in
      open_in a.node.lines key (times_in key (open_keys a.node.lines) (omega (arith, t, e)))

  peer_key : (q : ℕ) (b : Running) (far : n ≢ q) (at : slice_get w.nodes q ≡ Some (Some b)) (u : Subscription)
      (place : ℕ) (line : ShardWithJobs)
      → slice_get b.node.lines place ≡ Some line
      → In u line.shard.subs
      → In (u.key, told_weight u.key (times u.key (open_keys b.node.lines)))
      (quiet.peers n q a b far up at).peer.heard.keys
  peer_key q b far at u place line here i =
      (quiet.peers n q a b far up at).view.all u.key
      (in_times u.key (open_keys b.node.lines) (in_open b.node.lines place line u here i))

  peer_open : (q : ℕ) (b : Running) (far : n ≢ q) (at : slice_get w.nodes q ≡ Some (Some b)) (key : Key) (k : ℕ)
      → In (key, k) (quiet.peers n q a b far up at).peer.heard.keys
      → OpenSub b.node.lines key
  peer_open q b far at key k i =
      open_in b.node.lines key
      (times_in key (open_keys b.node.lines) ((quiet.peers n q a b far up at).view.told key k i).0)

  wanted_of : (q : ℕ) (b : Running)
      → slice_get w.nodes q ≡ Some (Some b)
      → (key : Key) (name : List ℕ)
      → key.queue ≡ Some name
      → subject_matches key.pattern (subject_of p) ≡ true
      → OpenSub b.node.lines key
      → IsWantedName w (subject_of p) name
  wanted_of q b at key name group matches o = record {
    node = q;
    a = b;
    up = at;
    place = o.place;
    line = o.line;
    at = o.at;
    sub = o.sub;
    there = o.there;
    is = record {
      group = ap (λ (k : Key). k.queue) o.is ∙ group;
      matches = ap (λ (k : Key). subject_matches k.pattern (subject_of p)) o.is ∙ matches;
    };
  }

  pub name_is_wanted : (name : List ℕ)
      → In name (names_of (server_at c n a.inc) a.node.hub p)
      → IsWantedName w (subject_of p) name
  name_is_wanted name i =
      ⊎_elim (λ (s : SomeWants (subject_of p) name a.node.hub.counts).
      wanted_of n a up s.0.0 name s.2.queue s.2.matches (own_open s.0.0 s.0.1 s.1))
      (λ (s : PeerWants (server_at c n a.inc) a.node.hub (subject_of p) name).
      let far = is_other s.place s.peer s.eligible in
      let o = other_is s.place s.peer s.at far in
      let e = s.wants in
      wanted_of s.place o.b o.at e.0.0 name e.2.queue e.2.matches
      (peer_open s.place o.b o.far o.at e.0.0 e.0.1 (subst (λ (x : Peer). In e.0 x.heard.keys) (sym o.peer_is) e.1)))
      ((names_are_wanted.wanted (server_at c n a.inc) a.node.hub (subject_of p) name).0 i)

  pub wanted_is_named : (name : List ℕ)
      → IsWantedName w (subject_of p) name
      → In name (names_of (server_at c n a.inc) a.node.hub p)
  wanted_is_named name x =
      (names_are_wanted.wanted (server_at c n a.inc) a.node.hub (subject_of p) name).1 (go (nat_eq x.node n) refl)
    where
      go : (b : Bool)
          → nat_eq x.node n ≡ b
          → SomeWants (subject_of p) name a.node.hub.counts
          ⊎ PeerWants (server_at c n a.inc) a.node.hub (subject_of p) name
      go true e =
          let same : x.a ≡ a =
          same_up n x.a a (subst (λ k. slice_get w.nodes k ≡ Some (Some x.a)) (eq_true x.node n e) x.up) up in
          let k = own_key x.sub x.place x.line (ap (λ (b : Running). slice_get b.node.lines x.place) (sym same) ∙ x.at)
          x.there in
          inl ((x.sub.key, k.0), k.1, record { queue = x.is.group; matches = x.is.matches })
      go false e =
          let far : n ≢ x.node = λ f. eq_false x.node n e (sym f) in
          inr (record {
            place = x.node;
            peer = (quiet.peers n x.node a x.a far up x.up).peer;
            at = (quiet.peers n x.node a x.a far up x.up).at;
            eligible = eligible x.node x.a far x.up;
            wants = (
              (x.sub.key, told_weight x.sub.key (times x.sub.key (open_keys x.a.node.lines))),
              peer_key x.node x.a far x.up x.sub x.place x.line x.at x.there,
              record { queue = x.is.group; matches = x.is.matches },
            );
          })

  -- ---- each name is given to a server where it has an open member

  pub record ServedAt (name : List ℕ) : Type 0 where
    pub node : ℕ
    pub chosen : choice_of (server_at c n a.inc) a.node.hub p name ≡ Some (name_of (server_at c n a.inc) node)
    pub b : Running
    pub at : slice_get w.nodes node ≡ Some (Some b)
    pub key : Key
    pub group : key.queue ≡ Some name
    pub matches : subject_matches key.pattern (subject_of p) ≡ true
    pub member : OpenSub b.node.lines key

  match_parts : (name : List ℕ) (key : Key) (k : ℕ)
      → is_match_of (subject_of p) name (key, k) ≡ true
      → (key.queue ≡ Some name) × (subject_matches key.pattern (subject_of p) ≡ true)
  match_parts name key k e =
      let h = and_true (is_named name key.queue) (subject_matches key.pattern (subject_of p)) e in
      (by key.queue h.0, h.1)
    where
      by : (o : Option (List ℕ)) → is_named name o ≡ true → o ≡ Some name
      by None f = absurd (true≢false (sym f))
      by (Some other) f = ap Some (same_bytes other name f)

  match_of : (name : List ℕ) (key : Key) (k : ℕ)
      → key.queue ≡ Some name
      → subject_matches key.pattern (subject_of p) ≡ true
      → is_match_of (subject_of p) name (key, k) ≡ true
  match_of name key k group matches =
      λ i. (ap (is_named name) group ∙ (bytes_eq-Decides name name).1 refl) i && matches i

  -- one of the weights is above 0
  some_weight : (name : List ℕ)
      → IsWantedName w (subject_of p) name
      → (x : List ℕ) × (k : ℕ) × In (x, k) (weights (server_at c n a.inc) a.node.hub (subject_of p) name) × (0 < k)
  some_weight name x = go (nat_eq x.node n) refl
    where
      own_size : length a.node.hub.peers ≡ length c.names
      own_size = (sound n a up).peers

      go : (b : Bool)
          → nat_eq x.node n ≡ b
          → (x : List ℕ) × (k : ℕ) × In (x, k) (weights (server_at c n a.inc) a.node.hub (subject_of p) name) × (0 < k)
      go true e =
          let same : x.a ≡ a =
          same_up n x.a a (subst (λ k. slice_get w.nodes k ≡ Some (Some x.a)) (eq_true x.node n e) x.up) up in
          let k = own_key x.sub x.place x.line (ap (λ (b : Running). slice_get b.node.lines x.place) (sym same) ∙ x.at)
          x.there in
          let one : 0 < k.0 = positive k.0 x.sub.key k.1 in
          let h = weighs (subject_of p) name a.node.hub.counts x.sub.key k.0 k.1
          (match_of name x.sub.key k.0 x.is.group x.is.matches) one in
          let peer = get_some a.node.hub.peers n (let s = own_size in omega (arith, below, s)) in
          let self : weight_at (server_at c n a.inc) a.node.hub.counts (subject_of p) name n peer.0
          ≡ weight_in (subject_of p) name a.node.hub.counts = ap (λ b.
          cond b (weight_in (subject_of p) name a.node.hub.counts)
          (cond (is_eligible (server_at c n a.inc) n peer.0) (weight_in (subject_of p) name peer.0.heard.keys) 0))
          (true_eq n n refl) in (
            name_of (server_at c n a.inc) n,
            weight_at (server_at c n a.inc) a.node.hub.counts (subject_of p) name n peer.0,
            weight_there (server_at c n a.inc) a.node.hub.counts (subject_of p) name 0 n n a.node.hub.peers peer.0
                (omega arith) peer.1,
            omega (arith, h, self),
          )
        where
          positive : (k : ℕ) (key : Key) → In (key, k) a.node.hub.counts → 0 < k
          positive k key i = by a.node.hub.counts are_some i
            where
              by : (counts : Counts) → All (λ count. 1 ≤ count) (values_of counts) → In (key, k) counts → 0 < k
              by [] all j = absurd j
              by (e ∷ counts) all j =
                  ⊎_elim (λ (s : ◌≡◌ {A = Key × ℕ} (key, k) e).
                  let f : k ≡ e.1 = ap (λ (v : Key × ℕ). v.1) s in
                  let g : 1 ≤ e.1 = All-head (λ (count : ℕ). 1 ≤ count) e.1 (values_of counts) all in
                  omega (arith, f, g))
                  (λ (l : In (key, k) counts).
                  by counts (All-tail (λ (count : ℕ). 1 ≤ count) e.1 (values_of counts) all) l)
                  j
      go false e =
          let far : n ≢ x.node = λ f. eq_false x.node n e (sym f) in
          let s = quiet.peers n x.node a x.a far up x.up in
          let t =
          in_times x.sub.key (open_keys x.a.node.lines) (in_open x.a.node.lines x.place x.line x.sub x.at x.there) in
          let one : 0 < told_weight x.sub.key (times x.sub.key (open_keys x.a.node.lines)) =
          weighty x.sub.key (times x.sub.key (open_keys x.a.node.lines)) t in
          let h = weighs (subject_of p) name s.peer.heard.keys x.sub.key
          (told_weight x.sub.key (times x.sub.key (open_keys x.a.node.lines)))
          (peer_key x.node x.a far x.up x.sub x.place x.line x.at x.there)
          (match_of name x.sub.key (told_weight x.sub.key (times x.sub.key (open_keys x.a.node.lines))) x.is.group
          x.is.matches)
          one in
          let el = eligible x.node x.a far x.up in
          let self : weight_at (server_at c n a.inc) a.node.hub.counts (subject_of p) name x.node s.peer
          ≡ weight_in (subject_of p) name s.peer.heard.keys = λ i.
          cond (e i) (weight_in (subject_of p) name a.node.hub.counts)
          (cond (el i) (weight_in (subject_of p) name s.peer.heard.keys) 0) in (
            name_of (server_at c n a.inc) x.node,
            weight_at (server_at c n a.inc) a.node.hub.counts (subject_of p) name x.node s.peer,
            weight_there (server_at c n a.inc) a.node.hub.counts (subject_of p) name 0 x.node x.node a.node.hub.peers
                s.peer (omega arith) s.at,
            omega (arith, h, self),
          )
        where
          weighty : (key : Key) (k : ℕ) → 0 < k → 0 < told_weight key k
          weighty key k lt = by (is_plain key)
            where
              by : (b : Bool) → 0 < cond b 1 k
              by true = omega arith
              by false = lt

  pub served_at : (name : List ℕ) → IsWantedName w (subject_of p) name → ServedAt name
  served_at name x =
      let some = some_weight name x in
      let pick = picked (weights (server_at c n a.inc) a.node.hub (subject_of p) name) p.word
      (some_units (weights (server_at c n a.inc) a.node.hub (subject_of p) name) some.0 some.1 some.2 some.3) in
      let of =
      weight_is (server_at c n a.inc) a.node.hub.counts (subject_of p) name 0 a.node.hub.peers pick.0 pick.1 pick.3 in
      go of pick.2 (let e = of.weight_is in let lt = pick.4 in omega (arith, e, lt)) (nat_eq of.k n) refl
    where
      go : {x : List ℕ} {k : ℕ}
          (of : WeightOf (server_at c n a.inc) a.node.hub.counts (subject_of p) name 0 a.node.hub.peers x k)
          → choice_of (server_at c n a.inc) a.node.hub p name ≡ Some x
          → 0 < weight_at (server_at c n a.inc) a.node.hub.counts (subject_of p) name of.k of.peer
          → (b : Bool)
          → nat_eq of.k n ≡ b
          → ServedAt name
      go of chosen lt true e =
          let self : weight_at (server_at c n a.inc) a.node.hub.counts (subject_of p) name of.k of.peer
          ≡ weight_in (subject_of p) name a.node.hub.counts = ap (λ b.
          cond b (weight_in (subject_of p) name a.node.hub.counts)
          (cond (is_eligible (server_at c n a.inc) of.k of.peer) (weight_in (subject_of p) name of.peer.heard.keys) 0))
          e in
          let h = weigher (subject_of p) name a.node.hub.counts (omega (arith, lt, self)) in
          let m = match_parts name h.0 h.1 h.3 in
          record {
            node = n;
            chosen = chosen ∙ ap Some (of.name_is ∙ ap (name_of (server_at c n a.inc)) (eq_true of.k n e));
            b = a;
            at = up;
            key = h.0;
            group = m.0;
            matches = m.1;
            member = own_open h.0 h.1 h.2;
          }
      go of chosen lt false e = by (is_eligible (server_at c n a.inc) of.k of.peer) refl
        where
          by : (b : Bool) → is_eligible (server_at c n a.inc) of.k of.peer ≡ b → ServedAt name
          by false f =
              absurd (let z : weight_at (server_at c n a.inc) a.node.hub.counts (subject_of p) name of.k of.peer ≡ 0 =
              (λ i.
              cond (e i) (weight_in (subject_of p) name a.node.hub.counts)
              (cond (f i) (weight_in (subject_of p) name of.peer.heard.keys) 0)) in
              omega (arith, lt, z))
          by true f =
              let z : weight_at (server_at c n a.inc) a.node.hub.counts (subject_of p) name of.k of.peer
              ≡ weight_in (subject_of p) name of.peer.heard.keys = λ i.
              cond (e i) (weight_in (subject_of p) name a.node.hub.counts)
              (cond (f i) (weight_in (subject_of p) name of.peer.heard.keys) 0) in
              let h = weigher (subject_of p) name of.peer.heard.keys (omega (arith, lt, z)) in
              let m = match_parts name h.0 h.1 h.3 in
              let here : slice_get a.node.hub.peers of.k ≡ Some of.peer =
              ap (slice_get a.node.hub.peers) (let s = of.sum in omega (arith, s)) ∙ of.at in
              let o = other_is of.k of.peer here (λ g. eq_false of.k n e (sym g)) in
              record {
                node = of.k;
                chosen = chosen ∙ ap Some of.name_is;
                b = o.b;
                at = o.at;
                key = h.0;
                group = m.0;
                matches = m.1;
                member =
                    peer_open of.k o.b o.far o.at h.0 h.1
                    (subst (λ (x : Peer). In (h.0, h.1) x.heard.keys) (sym o.peer_is) h.2);
              }

  -- ---- the frames

  abbrev pub frame_for : ℕ → Peer → Frame
  frame_for q peer =
      frame_to (server_at c n a.inc) (a.node.hub.published + 1) p.publication.message
      (names_for (choice_of (server_at c n a.inc) a.node.hub p) (name_of (server_at c n a.inc) q)
      (names_of (server_at c n a.inc) a.node.hub p))
      q peer

  pub record Sent (frame : Frame) : Type 0 where
    pub q : ℕ
    pub peer : Peer
    pub at : slice_get a.node.hub.peers q ≡ Some peer
    pub is : frame ≡ frame_for q peer

  pub sent_is : (frame : Frame) → In frame (frames_of (server_at c n a.inc) a.node.hub p) → Sent frame
  sent_is frame i =
      let h = frame_is (server_at c n a.inc) (a.node.hub.published + 1) p.publication.message
      (choice_of (server_at c n a.inc) a.node.hub p) (names_of (server_at c n a.inc) a.node.hub p) 0 a.node.hub.peers
      frame i in
      let s = h.sum in
      record { q = h.k; peer = h.peer; at = ap (slice_get a.node.hub.peers) (omega (arith, s)) ∙ h.at; is = h.is }

  -- a frame goes to a peer that is owed one
  pub sent_to : (q : ℕ) (b : Running) (far : n ≢ q) (at : slice_get w.nodes q ≡ Some (Some b))
      → is_owed (subject_of p)
      (names_for (choice_of (server_at c n a.inc) a.node.hub p) (name_of (server_at c n a.inc) q)
      (names_of (server_at c n a.inc) a.node.hub p))
      (quiet.peers n q a b far up at).peer ≡ true
      → In (frame_for q (quiet.peers n q a b far up at).peer) (frames_of (server_at c n a.inc) a.node.hub p)
  sent_to q b far at owed =
      frame_there (server_at c n a.inc) (a.node.hub.published + 1) p.publication.message
      (choice_of (server_at c n a.inc) a.node.hub p) (names_of (server_at c n a.inc) a.node.hub p) 0 q q
      a.node.hub.peers (quiet.peers n q a b far up at).peer (omega arith) (quiet.peers n q a b far up at).at
      (eligible q b far at) owed

  owed_plain : (subject : List ℕ) (names : List (List ℕ)) (peer : Peer)
      → has_plain_match subject peer.heard.keys ≡ true
      → is_owed subject names peer ≡ true
  owed_plain subject names peer e = ap (λ b. b || not (is_empty names)) e

  owed_name : (subject name : List ℕ) (names : List (List ℕ)) (peer : Peer)
      → In name names
      → is_owed subject names peer ≡ true
  owed_name subject name [] peer i = absurd i
  owed_name subject name (x ∷ xs) peer i = by (has_plain_match subject peer.heard.keys)
    where
      by : (b : Bool) → (b || true) ≡ true
      by true = refl
      by false = refl

  -- an open plain subscription elsewhere
  pub sent_for_plain : (q : ℕ) (b : Running) (far : n ≢ q) (at : slice_get w.nodes q ≡ Some (Some b)) (u : Subscription)
      (place : ℕ) (line : ShardWithJobs)
      → slice_get b.node.lines place ≡ Some line
      → In u line.shard.subs
      → is_plain u.key ≡ true
      → subject_matches u.key.pattern (subject_of p) ≡ true
      → In (frame_for q (quiet.peers n q a b far up at).peer) (frames_of (server_at c n a.inc) a.node.hub p)
  sent_for_plain q b far at u place line here i plain matches =
      sent_to q b far at
      (owed_plain (subject_of p)
      (names_for (choice_of (server_at c n a.inc) a.node.hub p) (name_of (server_at c n a.inc) q)
      (names_of (server_at c n a.inc) a.node.hub p))
      (quiet.peers n q a b far up at).peer
      (plain_there (subject_of p) (quiet.peers n q a b far up at).peer.heard.keys u.key
      (told_weight u.key (times u.key (open_keys b.node.lines))) (peer_key q b far at u place line here i) plain
      matches))

  -- a name stands among those of the server that was chosen for it
  pub name_there : (name : List ℕ) (q : ℕ)
      → In name (names_of (server_at c n a.inc) a.node.hub p)
      → choice_of (server_at c n a.inc) a.node.hub p name ≡ Some (name_of (server_at c n a.inc) q)
      → In name (names_for (choice_of (server_at c n a.inc) a.node.hub p) (name_of (server_at c n a.inc) q)
      (names_of (server_at c n a.inc) a.node.hub p))
  name_there name q i chosen =
      filter_in (λ x. is_named (name_of (server_at c n a.inc) q) (choice_of (server_at c n a.inc) a.node.hub p x))
      (names_of (server_at c n a.inc) a.node.hub p) name i
      (ap (is_named (name_of (server_at c n a.inc) q)) chosen
      ∙ (bytes_eq-Decides (name_of (server_at c n a.inc) q) (name_of (server_at c n a.inc) q)).1 refl)

  pub sent_for_name : (name : List ℕ) (q : ℕ) (b : Running) (far : n ≢ q) (at : slice_get w.nodes q ≡ Some (Some b))
      → In name (names_for (choice_of (server_at c n a.inc) a.node.hub p) (name_of (server_at c n a.inc) q)
      (names_of (server_at c n a.inc) a.node.hub p))
      → In (frame_for q (quiet.peers n q a b far up at).peer) (frames_of (server_at c n a.inc) a.node.hub p)
  sent_for_name name q b far at i =
      sent_to q b far at
      (owed_name (subject_of p) name
      (names_for (choice_of (server_at c n a.inc) a.node.hub p) (name_of (server_at c n a.inc) q)
      (names_of (server_at c n a.inc) a.node.hub p))
      (quiet.peers n q a b far up at).peer i)

-- ---- what is taken of it, and who works it off

module _ (c : Cluster) (cluster : IsCluster c) (w : World) (n : ℕ) (a : Running) (p : Publication)
    (below : n < length c.names) (up : slice_get w.nodes n ≡ Some (Some a))
    (sound : EachUp (λ n a. SoundNode (server_at c n a.inc) a.node) w)
    (counted : EachUp (λ n a. CountsAreOpen (server_at c n a.inc) a.node) w) (quiet : IsQuiet c w)
    (few : (names : List (List ℕ)) → Pairs (λ x y. x ≢ y) names → Each (IsWantedName w (subject_of p)) names
    → length names ≤ MAX_QUEUE_NAMES)
    (held : EachUp (λ n a. ShardsAreHeld (server_at c n a.inc) a.node) w) (roomy : IsRoomy w p.publication.message)
    (marks : MarksAreReached w) (echo : p.publication.echo ≡ true) where
  -- ---- the publish is taken

  pub is_taken : publish_refusal (server_at c n a.inc) a.node.hub p (finished_turns a.node.lines) ≡ None
  is_taken =
      let s = quiet.nodes n a up in
      let b : busy_of a.node.hub.issued (take c.shards (finished_turns a.node.lines)) ≡ None =
      not_busy (server_at c n a.inc) a.node (sound n a up) s.lines c.shards in
      let x : nat_le MAX_COUNTER a.node.hub.published ≡ false =
      not_at_most MAX_COUNTER a.node.hub.published s.published in
      let y : nat_le MAX_COUNTER a.node.hub.issued ≡ false = not_at_most MAX_COUNTER a.node.hub.issued s.issued in
      let not_many = few (names_of (server_at c n a.inc) a.node.hub p)
      (names_distinct (server_at c n a.inc) a.node.hub (subject_of p))
      (λ name i. name_is_wanted c cluster w n a p below up sound counted quiet name i) in
      let z : nat_lt MAX_QUEUE_NAMES (length (names_of (server_at c n a.inc) a.node.hub p)) ≡ false =
      not_less MAX_QUEUE_NAMES (length (names_of (server_at c n a.inc) a.node.hub p)) not_many in
      λ i. option_or (option_map Busy (b i)) (cond (x i || y i) (Some Spent) (cond (z i) (Some TooManyQueues) None))

  -- ---- a frame is taken

  pub is_received : (m : ℕ) (b : Running) (far : n ≢ m) (at : slice_get w.nodes m ≡ Some (Some b))
      → m < length c.names
      → receive_refusal (server_at c m b.inc) b.node.hub (finished_turns b.node.lines)
      (frame_for c cluster w n a p below up sound counted quiet m (quiet.peers n m a b far up at).peer) ≡ None
  is_received m b far at lt =
      let s = quiet.peers n m a b far up at in
      let back = quiet.peers m n b a (λ e. far (sym e)) at up in
      let here = quiet.nodes m b at in
      let to : bytes_eq (name_at c.names m) (name_at c.names m) ≡ true =
      (bytes_eq-Decides (name_at c.names m) (name_at c.names m)).1 refl in
      let inc : nat_eq s.peer.seen b.inc ≡ true = true_eq s.peer.seen b.inc s.seen in
      let from : place (server_at c m b.inc) (name_of (server_at c n a.inc) n) ≡ n =
      named (server_at c n a.inc) (listed c cluster w n a p below up sound counted quiet) n below in
      let known : is_peer (server_at c m b.inc) n ≡ true =
      (λ i. not (false_eq n m far i) && is_less n (length c.names) below i) in
      let peer : peer_of (server_at c m b.inc) b.node.hub (own_name (server_at c n a.inc)) ≡ Some back.peer =
      ap (peer_at (server_at c m b.inc) b.node.hub) from ∙ (λ i. cond (known i) (back.at i) None) in
      let fresh : nat_lt a.inc back.peer.seen ≡ false =
      not_less a.inc back.peer.seen (let e = back.seen in omega (arith, e)) in
      let old : nat_lt back.peer.seen a.inc ≡ false =
      not_less back.peer.seen a.inc (let e = back.seen in omega (arith, e)) in
      let base : peer_in_life back.peer a.inc ≡ back.peer = ap (λ t.
      cond t (record { seen = a.inc; mark = 0; heard = nothing_heard; up = false; outbox = back.peer.outbox })
      back.peer)
      old in
      let mark : nat_le (a.node.hub.published + 1) back.peer.mark ≡ false = not_at_most (a.node.hub.published + 1)
      back.peer.mark
      (let e = marks.reached m n b a back.peer (λ e. far (sym e)) at up back.at back.seen in omega (arith, e)) in
      let busy : busy_of b.node.hub.issued (take c.shards (finished_turns b.node.lines)) ≡ None =
      not_busy (server_at c m b.inc) b.node (sound m b at) here.lines c.shards in
      let spent : nat_le MAX_COUNTER b.node.hub.issued ≡ false =
      not_at_most MAX_COUNTER b.node.hub.issued here.issued in
      (λ i.
      cond (not (to i)) (Some NotMe)
      (cond (not (inc i)) (Some OtherMe)
      (origin_fault (server_at c m b.inc) b.node.hub (finished_turns b.node.lines)
      (frame_for c cluster w n a p below up sound counted quiet m s.peer) (peer i))))
      ∙ (λ i.
      cond (fresh i) (Some StaleOrigin)
      (message_fault (server_at c m b.inc) b.node.hub (base i) (a.node.hub.published + 1)
      (finished_turns b.node.lines)))
      ∙ (λ i. cond (mark i) (Some Late) (option_or (option_map Busy (busy i)) (cond (spent i) (Some Spent) None)))

  -- ---- the errands

  rests : (m : ℕ) (b : Running)
      → slice_get w.nodes m ≡ Some (Some b)
      → (job : Job)
      → job.message ≡ p.publication.message
      → job.turn ≡ b.node.hub.issued + 1
      → (place : ℕ) (start : ShardWithJobs)
      → slice_get b.node.lines place ≡ Some start
      → Rests job start
  rests m b at job content turn place start here =
      let s = (quiet.nodes m b at).lines place start here in
      record {
        held = (held m b at place start here).subs;
        room = subst (λ t. HasRoom t start.shard) (sym content) (roomy.room m b at place start here);
        hand = s.hand;
        waiting = s.waiting;
        turn =
            turn
            ∙ ap (λ t. t + 1)
            (sym (finished_is (server_at c m b.inc) b.node (sound m b at) (quiet.nodes m b at).lines place start here));
      }

  pub own_errand : Errand c (own_job (server_at c n a.inc) a.node.hub p) a.node.lines
  own_errand = record {
    echo = echo;
    names =
        pairs_filter (λ x y. x ≢ y)
        (λ name. is_named (own_name (server_at c n a.inc)) (choice_of (server_at c n a.inc) a.node.hub p name))
        (names_of (server_at c n a.inc) a.node.hub p) (names_distinct (server_at c n a.inc) a.node.hub (subject_of p));
    size = (sound n a up).size;
    rest = rests n a up (own_job (server_at c n a.inc) a.node.hub p) refl refl;
  }

  pub routed_errand : (m : ℕ) (b : Running)
      → slice_get w.nodes m ≡ Some (Some b)
      → (q : ℕ) (peer : Peer)
      → Errand c
      (routed_job b.node.hub (frame_for c cluster w n a p below up sound counted quiet q peer) p.publication.message
      (names_for (choice_of (server_at c n a.inc) a.node.hub p) (name_of (server_at c n a.inc) q)
      (names_of (server_at c n a.inc) a.node.hub p)))
      b.node.lines
  routed_errand m b at q peer = record {
    echo = refl;
    names =
        pairs_filter (λ x y. x ≢ y)
        (λ name. is_named (name_of (server_at c n a.inc) q) (choice_of (server_at c n a.inc) a.node.hub p name))
        (names_of (server_at c n a.inc) a.node.hub p) (names_distinct (server_at c n a.inc) a.node.hub (subject_of p));
    size = (sound m b at).size;
    rest =
        rests m b at
        (routed_job b.node.hub (frame_for c cluster w n a p below up sound counted quiet q peer) p.publication.message
        (names_for (choice_of (server_at c n a.inc) a.node.hub p) (name_of (server_at c n a.inc) q)
        (names_of (server_at c n a.inc) a.node.hub p)))
        refl refl;
  }
