-- The publications of one incarnation are counted from 1, without a gap.
use Rattle.std.proofs.Common.{◌≡◌, ◌≢◌, ◌⊎◌, ◌<◌, ℕ, zero, suc, ◌+◌, Bool, true, false, cond, nat_eq, ◌&&◌, List, [], ◌∷◌, ◌++◌, map, set, length, Option, Some, None, refl, sym, ap, ◌∙◌, subst, inl, inr, ⊎_elim, arith}
use Rattle.std.specs.Prelude.{slice_get, filter}
use Rattle.std.specs.List.{range_with_len}
use Rattle.std.specs.Str.{bytes_eq}
use Rattle.std.proofs.lemmas.Option.{none-some, same_Some, slice_get_within}
use Rattle.std.proofs.lemmas.Slice.Eq.{bytes_eq-Decides}
use Rattle.list_laws.specs.Lists.{In, Each}
use Rattle.list_laws.proofs.Lists.{in_append, in_left, in_right, read_set, read_replicate}
use Rattle.list_laws.proofs.Tests.{eq_true, true_eq, and_true, same_bytes}
use Rattle.list_laws.proofs.Changes.{append_nil, map_append, filter_append}
use Rattle.claim_race.specs.Race.{RaceState}
use Rattle.hub_core.proofs.Choices.Places.{named}
use Rattle.route_session.specs.State.{peer_of_session}
use Rattle.subj.specs.Servers.{IsListed, name_at, place}
use Rattle.node_law.specs.Events as of_node
use Rattle.node_law.specs.Events.{NodeEvent}
use Rattle.node_law.specs.State.{Node}
use Rattle.node_law.specs.Steps.{node_after, cut_if}
use Rattle.world_law.specs.declared.faults.WorldFault.{WorldFault}
use Rattle.world_law.specs.Changes.{publication, publications_of}
use Rattle.world_law.specs.Events.{Event, Start, Stop, Receive, OnInfo, OnConnect, At, event_for}
use Rattle.world_law.specs.Headline.{IsCluster}
use Rattle.world_law.specs.Outcomes.{Outcome}
use Rattle.world_law.specs.Refusals.{world_refusal, start_refusal}
use Rattle.world_law.specs.Sources.{is_by, numbers_by, AreCounted, PublicationsAreCounted}
use Rattle.world_law.specs.State.{Cluster, Publication, Running, World, new_world, server_at}
use Rattle.world_law.specs.Steps.{Acts, Starts, Happens, Decided, WorldStep, Run}
use Rattle.world_law.proofs.Runs.OwnRuns.{Rans, step_rans, first_rans}
use Rattle.world_law.proofs.Seen.Whole.{unused, not_used}

-- ---- numbers in a row

one_later : (a k : ℕ) → range_with_len a (suc k) ≡ range_with_len a k ++ (a + k) ∷ []
one_later a zero = ap (λ n. n ∷ []) (none a)
  where
    none : (a : ℕ) → a ≡ a + 0
    none a = omega arith
one_later a (suc k) = ap (λ t. a ∷ t) (one_later (a + 1) k ∙ ap (λ n. range_with_len (a + 1) k ++ n ∷ []) (more a k))
  where
    more : (a k : ℕ) → a + 1 + k ≡ a + suc k
    more a k = omega arith

row_length : (a k : ℕ) → length (range_with_len a k) ≡ k
row_length a zero = refl
row_length a (suc k) = let z = row_length (a + 1) k in omega arith

in_a_row : (xs : List ℕ) (k : ℕ) → xs ≡ range_with_len 1 k → xs ≡ range_with_len 1 (length xs)
in_a_row xs k e = e ∙ ap (range_with_len 1) (sym (ap length e ∙ row_length 1 k))

numbers_more : (origin : List ℕ) (inc : ℕ) (ps more : List Publication)
    → numbers_by origin inc (ps ++ more) ≡ numbers_by origin inc ps ++ numbers_by origin inc more
numbers_more origin inc ps more =
    ap (map (λ (p : Publication). p.id.number)) (filter_append (is_by origin inc) ps more)
    ∙ map_append (λ (p : Publication). p.id.number) (filter (is_by origin inc) ps) (filter (is_by origin inc) more)

one_is : (origin : List ℕ) (inc : ℕ) (p : Publication)
    → is_by origin inc p ≡ true
    → numbers_by origin inc (p ∷ []) ≡ p.id.number ∷ []
one_is origin inc p e = ap (λ b. map (λ (q : Publication). q.id.number) (cond b (p ∷ []) [])) e

one_not : (origin : List ℕ) (inc : ℕ) (p : Publication)
    → is_by origin inc p ≡ false
    → numbers_by origin inc (p ∷ []) ≡ []
one_not origin inc p e = ap (λ b. map (λ (q : Publication). q.id.number) (cond b (p ∷ []) [])) e

none_by : (origin : List ℕ) (inc : ℕ) (ps : List Publication)
    → Each (λ p. is_by origin inc p ≡ true → ⊥) ps
    → numbers_by origin inc ps ≡ []
none_by origin inc [] h = refl
none_by origin inc (p ∷ ps) h =
    ap (λ b.
    map (λ (q : Publication). q.id.number) (cond b (p ∷ filter (is_by origin inc) ps) (filter (is_by origin inc) ps)))
    (not_so (is_by origin inc p) refl)
    ∙ none_by origin inc ps (λ q i. h q (inr i))
  where
    not_so : (b : Bool) → is_by origin inc p ≡ b → is_by origin inc p ≡ false
    not_so true e = absurd (h p (inl refl) e)
    not_so false e = e

by_is : (origin : List ℕ) (inc : ℕ) (p : Publication)
    → is_by origin inc p ≡ true
    → (p.id.origin ≡ origin) × (p.id.inc ≡ inc)
by_is origin inc p e =
    let b = and_true (bytes_eq p.id.origin origin) (nat_eq p.id.inc inc) e in
    (same_bytes p.id.origin origin b.0, eq_true p.id.inc inc b.1)

-- ---- a cluster

record Counts (c : Cluster) (w : World) : Type 0 where
  up : (n : ℕ) (a : Running)
      → slice_get w.nodes n ≡ Some (Some a)
      → numbers_by (name_at c.names n) a.inc w.publications ≡ range_with_len 1 a.node.hub.published
  all : AreCounted w
  started : Each (λ p. (n : ℕ) × (n < length c.names) × (p.id.origin ≡ name_at c.names n) × In (n, p.id.inc) w.started)
      w.publications
  starts : (n : ℕ) (a : Running) → slice_get w.nodes n ≡ Some (Some a) → In (n, a.inc) w.started

-- servers of one name are one
one_server : (c : Cluster)
    → IsCluster c
    → (n m : ℕ)
    → n < length c.names
    → m < length c.names
    → name_at c.names n ≡ name_at c.names m
    → n ≡ m
one_server c set_up n m lt below e =
    let listed : IsListed (server_at c n 0) = record { apart = set_up.apart; listed = lt } in
    sym (named (server_at c n 0) listed n lt) ∙ ap (place (server_at c n 0)) e ∙ named (server_at c n 0) listed m below

-- what is added to the publications, and how far the server has counted then
abbrev Adds : Cluster → ℕ → Running → Node → List Publication → Type 0
Adds c n a b more =
    ((more ≡ []) × (b.hub.published ≡ a.node.hub.published))
    ⊎ ((p : Publication) × (more ≡ p ∷ []) × (p.id.origin ≡ name_at c.names n) × (p.id.inc ≡ a.inc)
    × (p.id.number ≡ a.node.hub.published + 1) × (b.hub.published ≡ a.node.hub.published + 1))

node_adds : (c : Cluster) (n now : ℕ) (a : Running) (e : NodeEvent) (won : Bool) (race : RaceState)
    → Adds c n a (node_after (server_at c n a.inc) a.node e won race)
    (publications_of (server_at c n a.inc) now a.node e)
node_adds c n now a (of_node.Own (of_node.OfConn conn event)) won race = inl (refl, refl)
node_adds c n now a (of_node.Own (of_node.AtShard shard work)) won race = inl (refl, refl)
node_adds c n now a (of_node.Own (of_node.Publish p)) won race =
    inr (publication (server_at c n a.inc) now a.node p, refl, refl, refl, refl, refl)
node_adds c n now a (of_node.Own (of_node.Collect shard)) won race = inl (refl, refl)
node_adds c n now a (of_node.Own of_node.Drain) won race = inl (refl, refl)
node_adds c n now a (of_node.Own (of_node.Dial q)) won race = inl (refl, refl)
node_adds c n now a (of_node.Own of_node.Accept) won race = inl (refl, refl)
node_adds c n now a (of_node.Own (of_node.CutSession session)) won race =
    inl (refl, go (peer_of_session session a.node.sessions.standing))
  where
    go : (o : Option ℕ) → (cut_if a.node.hub o).published ≡ a.node.hub.published
    go None = refl
    go (Some q) = refl
node_adds c n now a (of_node.Own (of_node.TakeFrames q count)) won race = inl (refl, refl)
node_adds c n now a (of_node.Receive frame) won race = inl (refl, refl)
node_adds c n now a (of_node.OnInfo session info) won race = inl (refl, refl)
node_adds c n now a (of_node.OnConnect session connect) won race = inl (refl, refl)

module _ (c : Cluster) (set_up : IsCluster c) (w : World) (n : ℕ) (a : Running) (b : Node) (more : List Publication)
    (at : slice_get w.nodes n ≡ Some (Some a)) (lt : n < length c.names) (size : length w.nodes ≡ length c.names)
    (h : Counts c w) where
  after_nodes : List (Option Running)
  after_nodes = set w.nodes n (Some (record { inc = a.inc; node = b }))

  after_starts : (k : ℕ) (x : Running)
      → slice_get (set w.nodes n (Some (record { inc = a.inc; node = b }))) k ≡ Some (Some x)
      → In (k, x.inc) w.started
  after_starts k x e =
      read_set (λ k o. (x : Running) → o ≡ Some x → In (k, x.inc) w.started) w.nodes n
      (Some (record { inc = a.inc; node = b })) (λ k o apart f x is. h.starts k x (f ∙ ap Some is))
      (λ x is. subst (λ (y : Running). In (n, y.inc) w.started) (same_Some _ x is) (h.starts n a at)) k (Some x) e x
      refl

  set_up_to : (ps : List Publication)
      → ((k : ℕ) (x : Running) → k ≢ n → slice_get w.nodes k ≡ Some (Some x)
      → numbers_by (name_at c.names k) x.inc ps ≡ range_with_len 1 x.node.hub.published)
      → numbers_by (name_at c.names n) a.inc ps ≡ range_with_len 1 b.hub.published
      → (k : ℕ) (x : Running)
      → slice_get (set w.nodes n (Some (record { inc = a.inc; node = b }))) k ≡ Some (Some x)
      → numbers_by (name_at c.names k) x.inc ps ≡ range_with_len 1 x.node.hub.published
  set_up_to ps others here k x e =
      read_set (λ k o.
      (x : Running) → o ≡ Some x → numbers_by (name_at c.names k) x.inc ps ≡ range_with_len 1 x.node.hub.published)
      w.nodes n (Some (record { inc = a.inc; node = b })) (λ k o apart f x is. others k x apart (f ∙ ap Some is))
      (λ x is.
      subst (λ (y : Running). numbers_by (name_at c.names n) y.inc ps ≡ range_with_len 1 y.node.hub.published)
      (same_Some (record { inc = a.inc; node = b }) x is) here)
      k (Some x) e x refl

  adds_counts : Adds c n a b more
      → (w' : World)
      → w'.nodes ≡ set w.nodes n (Some (record { inc = a.inc; node = b }))
      → w'.publications ≡ w.publications ++ more
      → w'.started ≡ w.started
      → Counts c w'
  adds_counts (inl (none, same)) w' nodes pubs starts =
      let ps : w'.publications ≡ w.publications =
      pubs ∙ ap (λ t. w.publications ++ t) none ∙ append_nil w.publications in
      record {
        up = λ k x e.
            ap (numbers_by (name_at c.names k) x.inc) ps
            ∙ set_up_to w.publications (λ k x apart f. h.up k x f) (h.up n a at ∙ ap (range_with_len 1) (sym same)) k x
            (sym (ap (λ t. slice_get t k) nodes) ∙ e);
        all = λ origin inc.
            subst (λ t. numbers_by origin inc t ≡ range_with_len 1 (length (numbers_by origin inc t))) (sym ps)
            (h.all origin inc);
        started = λ p i.
            let x = h.started p (subst (In p) ps i) in (x.0, x.1, x.2, subst (In (x.0, p.id.inc)) (sym starts) x.3);
        starts =
            λ k x e. subst (In (k, x.inc)) (sym starts) (after_starts k x (sym (ap (λ t. slice_get t k) nodes) ∙ e));
      }
  adds_counts (inr (p, one, origin_is, inc_is, number, counted)) w' nodes pubs starts = record {
    up = λ k x e.
        ap (numbers_by (name_at c.names k) x.inc) ps
        ∙ set_up_to (w.publications ++ p ∷ []) others here k x (sym (ap (λ t. slice_get t k) nodes) ∙ e);
    all = λ origin inc.
        subst (λ t. numbers_by origin inc t ≡ range_with_len 1 (length (numbers_by origin inc t))) (sym ps)
        (all_of origin inc (is_by origin inc p) refl);
    started = λ q i.
        ⊎_elim (λ j. let x = h.started q j in (x.0, x.1, x.2, subst (In (x.0, q.id.inc)) (sym starts) x.3))
        (λ j.
        ⊎_elim (λ (e : q ≡ p). (
          n,
          lt,
          ap (λ (y : Publication). y.id.origin) e ∙ origin_is,
          subst (In (n, q.id.inc)) (sym starts)
              (subst (λ m. In (n, m) w.started) (sym (ap (λ (y : Publication). y.id.inc) e ∙ inc_is))
              (h.starts n a at)),
        ))
        (λ k. absurd k) j)
        (in_append q w.publications (p ∷ []) (subst (In q) ps i));
    starts = λ k x e. subst (In (k, x.inc)) (sym starts) (after_starts k x (sym (ap (λ t. slice_get t k) nodes) ∙ e));
  }
    where
      ps : w'.publications ≡ w.publications ++ p ∷ []
      ps = pubs ∙ ap (λ t. w.publications ++ t) one

      more_here :
          numbers_by (name_at c.names n) a.inc (w.publications ++ p ∷ []) ≡ range_with_len 1 (suc a.node.hub.published)
      more_here =
          numbers_more (name_at c.names n) a.inc w.publications (p ∷ [])
          ∙ (λ i.
          h.up n a at i
          ++ one_is (name_at c.names n) a.inc p
          ((λ j. (bytes_eq-Decides p.id.origin (name_at c.names n)).1 origin_is j && true_eq p.id.inc a.inc inc_is j))
          i)
          ∙ ap (λ m. range_with_len 1 a.node.hub.published ++ m ∷ []) (number ∙ turn a.node.hub.published)
          ∙ sym (one_later 1 a.node.hub.published)
        where
          turn : (k : ℕ) → k + 1 ≡ 1 + k
          turn k = omega arith

      here : numbers_by (name_at c.names n) a.inc (w.publications ++ p ∷ []) ≡ range_with_len 1 b.hub.published
      here = more_here ∙ ap (range_with_len 1) so
        where
          so : suc a.node.hub.published ≡ b.hub.published
          so = let e = counted in omega arith

      not_its : (origin : List ℕ) (inc : ℕ)
          → is_by origin inc p ≡ false
          → numbers_by origin inc (w.publications ++ p ∷ []) ≡ numbers_by origin inc w.publications
      not_its origin inc e =
          numbers_more origin inc w.publications (p ∷ [])
          ∙ ap (λ t. numbers_by origin inc w.publications ++ t) (one_not origin inc p e)
          ∙ append_nil (numbers_by origin inc w.publications)

      others : (k : ℕ) (x : Running)
          → k ≢ n
          → slice_get w.nodes k ≡ Some (Some x)
          → numbers_by (name_at c.names k) x.inc (w.publications ++ p ∷ []) ≡ range_with_len 1 x.node.hub.published
      others k x apart f = not_its (name_at c.names k) x.inc (go (is_by (name_at c.names k) x.inc p) refl) ∙ h.up k x f
        where
          go : (b : Bool) → is_by (name_at c.names k) x.inc p ≡ b → is_by (name_at c.names k) x.inc p ≡ false
          go true e =
              absurd (apart (one_server c set_up k n
              (let below = slice_get_within w.nodes k (Some x) f in let s = size in omega arith) lt
              (sym (by_is (name_at c.names k) x.inc p e).0 ∙ origin_is)))
          go false e = e

      all_of : (origin : List ℕ) (inc : ℕ) (b : Bool)
          → is_by origin inc p ≡ b
          → numbers_by origin inc (w.publications ++ p ∷ [])
          ≡ range_with_len 1 (length (numbers_by origin inc (w.publications ++ p ∷ [])))
      all_of origin inc true e =
          let it = by_is origin inc p e in
          in_a_row (numbers_by origin inc (w.publications ++ p ∷ [])) (suc a.node.hub.published)
          ((λ i. numbers_by ((sym it.0 ∙ origin_is) i) ((sym it.1 ∙ inc_is) i) (w.publications ++ p ∷ [])) ∙ more_here)
      all_of origin inc false e =
          in_a_row (numbers_by origin inc (w.publications ++ p ∷ [])) (length (numbers_by origin inc w.publications))
          (not_its origin inc e ∙ h.all origin inc)

acts_count : (c : Cluster) → IsCluster c → (w w' : World) (n : ℕ) (event : Option NodeEvent) (told : Outcome)
    → Acts c w n event told w' → Rans c w → Counts c w → Counts c w'
acts_count c set_up w w' n event told s r h =
    adds_counts c set_up w n s.a s.b (publications_of (server_at c n s.a.inc) (suc w.step) s.a.node s.e) s.a_is
    (let below = slice_get_within w.nodes n (Some s.a) s.a_is in let size = r.size in omega arith) r.size h
    (subst (λ (x : Node). Adds c n s.a x (publications_of (server_at c n s.a.inc) (suc w.step) s.a.node s.e))
    (sym s.steps.after) (node_adds c n (suc w.step) s.a s.e s.won s.race))
    w' (ap (λ (x : World). x.nodes) s.after) (ap (λ (x : World). x.publications) s.after)
    (ap (λ (x : World). x.started) s.after)

start_counts : (c : Cluster)
    → IsCluster c
    → (w w' : World) (n inc : ℕ) (told : Outcome)
    → start_refusal n inc w.started (slice_get w.nodes n) ≡ None
    → Starts c w n inc told w'
    → Rans c w
    → Counts c w
    → Counts c w'
start_counts c set_up w w' n inc told cause s r h =
    subst (Counts c) (sym s.after) (record {
      up = λ k x e.
          read_set (λ k o.
          (x : Running)
          → o ≡ Some x
          → numbers_by (name_at c.names k) x.inc w.publications ≡ range_with_len 1 x.node.hub.published)
          w.nodes n _ (λ k o apart f x is. h.up k x (f ∙ ap Some is))
          (λ x is.
          subst
          (λ (y : Running). numbers_by (name_at c.names n) y.inc w.publications ≡ range_with_len 1 y.node.hub.published)
          (same_Some _ x is) (none_by (name_at c.names n) inc w.publications fresh))
          k (Some x) e x refl;
      all = h.all;
      started = λ p i. let x = h.started p i in (x.0, x.1, x.2, in_left (x.0, p.id.inc) w.started ((n, inc) ∷ []) x.3);
      starts = λ k x e.
          read_set (λ k o. (x : Running) → o ≡ Some x → In (k, x.inc) (w.started ++ (n, inc) ∷ [])) w.nodes n _
          (λ k o apart f x is. in_left (k, x.inc) w.started ((n, inc) ∷ []) (h.starts k x (f ∙ ap Some is)))
          (λ x is.
          subst (λ (y : Running). In (n, y.inc) (w.started ++ (n, inc) ∷ [])) (same_Some _ x is)
          (in_right (n, inc) w.started ((n, inc) ∷ []) (inl refl)))
          k (Some x) e x refl;
    })
  where
    fresh : Each (λ p. is_by (name_at c.names n) inc p ≡ true → ⊥) w.publications
    fresh p i e =
        let x = h.started p i in
        let it = by_is (name_at c.names n) inc p e in
        let same : x.0 ≡ n = one_server c set_up x.0 n x.1
        (let below = slice_get_within w.nodes n None s.down in let size = r.size in omega arith) (sym x.2 ∙ it.0) in
        unused n inc w.started (not_used n inc w.started (sym (ap (start_refusal n inc w.started) s.down) ∙ cause))
        (subst (λ m. In m w.started) (λ j. (same j, it.1 j)) x.3)

step_counts : (c : Cluster) → IsCluster c → (w w' : World) (e : Event) (told : Outcome) → WorldStep c w e told w'
    → Rans c w → Counts c w → Counts c w'
step_counts c set_up w w' e told s r h = go (world_refusal c w e) refl s
  where
    by : (e : Event) → world_refusal c w e ≡ None → Happens c w e told w' → Counts c w'
    by (Start n inc) cause s = start_counts c set_up w w' n inc told cause s r h
    by (Stop n) cause s =
        subst (Counts c) (sym s.after) (record {
          up = λ k x e.
              read_set (λ k o.
              (x : Running)
              → o ≡ Some x
              → numbers_by (name_at c.names k) x.inc w.publications ≡ range_with_len 1 x.node.hub.published)
              w.nodes n None (λ k o apart f x is. h.up k x (f ∙ ap Some is)) (λ x is. absurd (none-some x is)) k
              (Some x) e x refl;
          all = h.all;
          started = h.started;
          starts = λ k x e.
              read_set (λ k o. (x : Running) → o ≡ Some x → In (k, x.inc) w.started) w.nodes n None
              (λ k o apart f x is. h.starts k x (f ∙ ap Some is)) (λ x is. absurd (none-some x is)) k (Some x) e x refl;
        })
    by (Receive n k) cause s = acts_count c set_up w w' n (event_for w (Receive n k)) told s r h
    by (OnInfo n session k) cause s = acts_count c set_up w w' n (event_for w (OnInfo n session k)) told s r h
    by (OnConnect n session k) cause s = acts_count c set_up w w' n (event_for w (OnConnect n session k)) told s r h
    by (At n event) cause s = acts_count c set_up w w' n (event_for w (At n event)) told s r h

    go : (o : Option WorldFault) → world_refusal c w e ≡ o → Decided c w e o told w' → Counts c w'
    go None is d = by e is d
    go (Some why) is d =
        subst (Counts c) (sym d.1) (record { up = h.up; all = h.all; started = h.started; starts = h.starts })

over_counts : (c : Cluster) → IsCluster c → (w : World) (es : List Event) (w' : World) → Run c w es w' → Rans c w
    → Counts c w → Counts c w'
over_counts c set_up w [] w' run r h = subst (Counts c) (sym run) h
over_counts c set_up w (e ∷ es) w' run r h =
    over_counts c set_up run.0 es w' run.3 (step_rans c set_up w run.0 e run.1 run.2 r)
    (step_counts c set_up w run.0 e run.1 run.2 r h)

pub publications_are_counted : PublicationsAreCounted
publications_are_counted c set_up es w run =
    (over_counts c set_up (new_world c) es w run (first_rans c) (record {
      up = λ n a e. absurd (none-some a (sym (read_replicate (length c.names) None (Some a) n e)));
      all = λ origin inc. refl;
      started = λ p i. absurd i;
      starts = λ n a e. absurd (none-some a (sym (read_replicate (length c.names) None (Some a) n e)));
    })).all
