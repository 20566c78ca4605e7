-- Each event keeps the hub's counts the sum of what the shards have told, so no Collect is refused for its deltas.
use Rattle.std.proofs.Common.{◌≡◌, ℕ, zero, suc, ◌+◌, ◌-◌, ◌*◌, ◌/◌, ◌≤◌, Bool, true, false, true≢false, cond, not, nat_eq, ◌&&◌, ◌||◌, List, [], ◌∷◌, ◌++◌, set, length, Option, Some, None, refl, sym, ap, ◌∙◌, subst, arith}
use Rattle.std.specs.Prelude.{slice_get, is_some, count_by, sum_by, if◌then◌else◌, nat_lt}
use Rattle.std.specs.Option.{option_map}
use Rattle.std.specs.Ordering.{is_eq}
use Rattle.std.proofs.Math.Nat.{mul-div-le}
use Rattle.std.specs.Cmp.{eq_by_cmp_equiv}
use Rattle.std.proofs.lemmas.Option.{none-some, same_Some}
use Rattle.std.proofs.lemmas.List.Sums.{sum_by-cons, sum_by-append}
use Rattle.list_laws.specs.Lists.{Along}
use Rattle.subj.specs.Servers.{ServerIdentity, IsListed}
use Rattle.subj.specs.Keys.{cost_of, key_cmp, opening, closing}
use Rattle.subj.specs.declared.jobs.Job.{Job}
use Rattle.subj.specs.declared.keys.Key.{Key}
use Rattle.subj.specs.declared.limits.TheConstants.{SUBSCRIPTIONS, SUBSCRIPTION_BYTES, MAX_COUNTER}
use Rattle.claim_race.specs.Race.{RaceState}
use Rattle.subj.specs.declared.keys.Delta.{Delta}
use Rattle.interest.specs.Counts.{Counts, count_of, counts_after, delta_fault, IsInterest}
use Rattle.interest.specs.Told.{is_opening, is_closing, counts_told, are_refused}
use Rattle.interest.specs.KeyOrder.{key_order_total}
use Rattle.interest.specs.Laws.{IsCounting, StaysWithin, times, one_if_same}
use Rattle.shard_core.specs.Shards.{State}
use Rattle.shard_core.specs.ShardEvents.{Event, Attach, Subscribe, Unsubscribe, Reply, Shut, SetHeaders, Detach, Take, Begin, Claim, End, DropJob, Drain, Collect}
use Rattle.shard_core.specs.ShardSteps.{shard_refusal, shard_after}
use Rattle.shard_core.specs.Lines.{first_of}
use Rattle.route_values.specs.declared.bodies.Body.{Body}
use Rattle.route_values.specs.declared.bodies.Body.TheVariants.{Plus, Minus, Snapshot, Msg}
use Rattle.route_session.specs.State.{peer_of_session}
use Rattle.hub_core.specs.State as hub
use Rattle.hub_core.specs.declared.faults.HubFault.{HubFault}
use Rattle.hub_core.specs.declared.faults.HubFault.TheVariants.{BadInterest, Spent}
use Rattle.hub_core.specs.Telling.{collect_refusal, count_of_changes}
use Rattle.hub_core.proofs.Neighbours.Known.{set_length}
use Rattle.hub_core.proofs.Steps.Rooms.{map_none}
use Rattle.node_law.specs.declared.faults.NodeFault.{NodeFault}
use Rattle.node_law.specs.declared.faults.NodeFault.TheVariants.{Hub, Shard}
use Rattle.node_law.specs.State.{ShardWithJobs, Node, new_node, lines_from}
use Rattle.node_law.specs.Events as of_node
use Rattle.node_law.specs.Events.{ConnEvent, ShardWork, NodeEvent, Own, Receive, OnInfo, OnConnect}
use Rattle.node_law.specs.Steps.{conn_place, conn_line, shard_line, conn_event, begin_of, drop_of, work_event, conn_refusal, event_refusal, work_refusal, collect_refusal_at, line_after, line_after_if, set_line, deltas_at, cut_if, lines_after_body, node_refusal, node_after}
use Rattle.node_law.specs.Runs.{Done, Ran}
use Rattle.node_law.specs.Sound.{SoundNode}
use Rattle.node_law.specs.CountsOpen.{keys_of, open_keys, pending, CountsAreOpen, CountsStayOpen}
use Rattle.node_law.proofs.Moves.LineEvents.{found, same_refusal}
use Rattle.node_law.proofs.Runs.Sound.{starts_sound, run_sound}
use Rattle.node_law.proofs.Interest.Replays.{total, total_append, size, cost, Fits, Moved, Replays}
use Rattle.node_law.proofs.Interest.CountsOpen.{shard_told, flat, along_read, along_sets, LineTold, at_told, queue_told, ShardTold, is_collect, Told}

-- ---- a collect

flat_get : (f : Key → ℕ) (bs : List (List Key)) (s : ℕ) (b : List Key)
    → slice_get bs s ≡ Some b
    → total f (flat bs) ≡ total f (b ++ flat (set bs s []))
flat_get f [] s b e = absurd (none-some b e)
flat_get f (x ∷ bs) zero b e = ap (λ t. total f (t ++ flat bs)) (same_Some x b e)
flat_get f (x ∷ bs) (suc s) b e =
    let h = flat_get f bs s b e in
    let p = total_append f x (flat bs) in
    let q = total_append f b (flat (set bs s [])) in
    let r = total_append f b (x ++ flat (set bs s [])) in
    let w = total_append f x (flat (set bs s [])) in
    omega arith

flat_set : (f : Key → ℕ) (bs : List (List Key)) (s : ℕ) (b ks : List Key)
    → slice_get bs s ≡ Some b
    → total f (flat (set bs s ks)) ≡ total f (ks ++ flat (set bs s []))
flat_set f [] s b ks e = absurd (none-some b e)
flat_set f (x ∷ bs) zero b ks e = refl
flat_set f (x ∷ bs) (suc s) b ks e =
    let h = flat_set f bs s b ks e in
    let p = total_append f x (flat (set bs s ks)) in
    let q = total_append f ks (flat (set bs s [])) in
    let r = total_append f ks (x ++ flat (set bs s [])) in
    let w = total_append f x (flat (set bs s [])) in
    omega arith

abbrev AllFit : ℕ → ℕ → List (List Key) → Type 0
AllFit few small [] = Unit {0}
AllFit few small (b ∷ bs) = Fits few small b × AllFit few small bs

all_fit : (few small : ℕ) (bs : List (List Key)) (lines : List ShardWithJobs)
    → Along (LineTold few small) bs lines
    → AllFit few small bs
all_fit few small [] lines a = tt
all_fit few small (b ∷ bs) [] a = absurd a
all_fit few small (b ∷ bs) (l ∷ lines) a = (a.0.base, all_fit few small bs lines a.1)

fit_set : (few small : ℕ) (bs : List (List Key)) (s : ℕ) (ks : List Key)
    → Fits few small ks
    → AllFit few small bs
    → AllFit few small (set bs s ks)
fit_set few small [] s ks f a = tt
fit_set few small (b ∷ bs) zero ks f a = (f, a.1)
fit_set few small (b ∷ bs) (suc s) ks f a = (a.0, fit_set few small bs s ks f a.1)

times_suc : (m n : ℕ) → suc m * n ≡ n + m * n
times_suc m n = omega arith

flat_fits : (few small : ℕ) (bs : List (List Key))
    → AllFit few small bs
    → Fits (length bs * few) (length bs * small) (flat bs)
flat_fits few small [] a = record { size = omega arith; cost = omega arith }
flat_fits few small (b ∷ bs) a =
    let h = flat_fits few small bs a.1 in
    let f = a.0 in
    record {
      size =
          (let p = total_append (λ k. 1) b (flat bs) in
          let q = times_suc (length bs) few in
          let x = f.size in
          let y = h.size in
          omega arith);
      cost =
          (let p = total_append cost_of b (flat bs) in
          let q = times_suc (length bs) small in
          let x = f.cost in
          let y = h.cost in
          omega arith);
    }

-- with these others, one share more is within the limits of the server
abbrev Within : ℕ → ℕ → List Key → Type 0
Within few small others = (xs : List Key) → Fits few small xs → Fits SUBSCRIPTIONS SUBSCRIPTION_BYTES (xs ++ others)

within_of : (few small : ℕ) (bs : List (List Key)) (s : ℕ) (b : List Key)
    → slice_get bs s ≡ Some b
    → length bs * few ≤ SUBSCRIPTIONS
    → length bs * small ≤ SUBSCRIPTION_BYTES
    → AllFit few small bs
    → Within few small (flat (set bs s []))
within_of few small bs s b at all_few all_small fit xs f = by SUBSCRIPTIONS SUBSCRIPTION_BYTES all_few all_small
  where
    h : Fits (length bs * few) (length bs * small) (flat (set bs s xs))
    h =
        subst (λ n. Fits (n * few) (n * small) (flat (set bs s xs))) (set_length bs s xs)
        (flat_fits few small (set bs s xs) (fit_set few small bs s xs f fit))

    by : (most most_bytes : ℕ)
        → length bs * few ≤ most
        → length bs * small ≤ most_bytes
        → Fits most most_bytes (xs ++ flat (set bs s []))
    by most most_bytes le le' = record {
      size = (let x = h.size in let e = flat_set (λ k. 1) bs s b xs at in omega arith);
      cost = (let x = h.cost in let e = flat_set cost_of bs s b xs at in omega arith);
    }

same_self : (key : Key) → one_if_same key key ≡ 1
same_self key = ap (λ b. cond b 1 0) ((eq_by_cmp_equiv key_order_total).refl key)

total_is : (f : Key → ℕ) (ks : List Key) → sum_by f ks ≡ total f ks
total_is f [] = refl
total_is f (k ∷ ks) = sum_by-cons f k ks ∙ ap (λ n. f k + n) (total_is f ks)

size_is : (ks : List Key) → length ks ≡ size ks
size_is [] = refl
size_is (k ∷ ks) = let h = size_is ks in omega arith

record Counted (counts : Counts) (keys : List Key) : Type 0 where
  within : IsInterest counts
  weights : (key : Key) → count_of counts key ≡ total (one_if_same key) keys

-- one delta that stays within the share is taken
one_counted : IsCounting
    → StaysWithin
    → (few small : ℕ) (counts : Counts) (ks mid others : List Key) (up : Bool) (key : Key)
    → Within few small others
    → Counted counts (ks ++ others)
    → Moved up key ks mid
    → Fits few small mid
    → (delta_fault counts (record { key = key; up = up }) ≡ None)
    × Counted (counts_after counts (record { key = key; up = up })) (mid ++ others)
one_counted law stays few small counts ks mid others true key within c moved fits = (
  taken,
  record {
    within = stays counts (opening key) c.within taken;
    weights = λ j.
        law.opened counts key j c.within taken
        ∙ (let a = c.weights j in
        let p = total_append (one_if_same j) ks others in
        let q = total_append (one_if_same j) mid others in
        let m = moved (one_if_same j) in
        omega arith);
  },
)
  where
    most : (a b c : ℕ) → a ≡ b → b + 1 ≤ c → a + 1 ≤ c
    most a b c e le = omega arith

    taken : delta_fault counts (opening key) ≡ None
    taken =
        law.opens counts key (ks ++ others) c.within (λ j. c.weights j ∙ sym (total_is (one_if_same j) (ks ++ others)))
        (by SUBSCRIPTIONS SUBSCRIPTION_BYTES (within mid fits)).0
        (by SUBSCRIPTIONS SUBSCRIPTION_BYTES (within mid fits)).1
      where
        by : (most most_bytes : ℕ)
            → Fits most most_bytes (mid ++ others)
            → (length (ks ++ others) + 1 ≤ most) × (sum_by cost_of (ks ++ others) + cost_of key ≤ most_bytes)
        by most most_bytes f = (
          (let h = f.size in
              let e = size_is (ks ++ others) in
              let p = total_append (λ k. 1) ks others in
              let q = total_append (λ k. 1) mid others in
              let m = moved (λ k. 1) in
              omega arith),
          (let h = f.cost in
              let e = total_is cost_of (ks ++ others) in
              let p = total_append cost_of ks others in
              let q = total_append cost_of mid others in
              let m = moved cost_of in
              omega arith),
        )
one_counted law stays few small counts ks mid others false key within c moved fits = (
  taken,
  record {
    within = stays counts (closing key) c.within taken;
    weights = λ j.
        (let e = law.closed counts key j c.within some in
        let a = c.weights j in
        let p = total_append (one_if_same j) ks others in
        let q = total_append (one_if_same j) mid others in
        let m = moved (one_if_same j) in
        omega arith);
  },
)
  where
    some : 1 ≤ count_of counts key
    some =
        let a = c.weights key in
        let p = total_append (one_if_same key) ks others in
        let m = moved (one_if_same key) in
        let s = same_self key in
        omega arith

    taken : delta_fault counts (closing key) ≡ None
    taken = law.closes counts key some

-- all deltas of a shard are taken
all_counted : IsCounting
    → StaysWithin
    → (few small : ℕ) (counts : Counts) (ks : List Key) (ds : List Delta) (us others : List Key)
    → Within few small others
    → Counted counts (ks ++ others)
    → Replays few small ks ds us
    → (are_refused counts ds ≡ false) × Counted (counts_told counts ds) (us ++ others)
all_counted law stays few small counts ks [] us others within c r = (
  refl,
  record {
    within = c.within;
    weights = λ j.
        (let a = c.weights j in
        let p = total_append (one_if_same j) ks others in
        let q = total_append (one_if_same j) us others in
        let s = r (one_if_same j) in
        omega arith);
  },
)
all_counted law stays few small counts ks (d ∷ ds) us others within c r =
    let h = one_counted law stays few small counts ks r.0 others d.up d.key within c r.1 r.2 in
    let g = all_counted law stays few small (counts_after counts d) r.0 ds us others within h.1 r.3 in
    (ap (λ o. is_some o || are_refused (counts_after counts d) ds) h.0 ∙ g.0, g.1)

collects : IsCounting
    → StaysWithin
    → (shards few small : ℕ) (counts : Counts) (lines : List ShardWithJobs) (place : ℕ) (line : ShardWithJobs)
    → shards * few ≤ SUBSCRIPTIONS
    → shards * small ≤ SUBSCRIPTION_BYTES
    → slice_get lines place ≡ Some line
    → Told shards few small counts lines
    → (are_refused counts line.shard.deltas ≡ false)
    × Told shards few small (counts_told counts line.shard.deltas) (set lines place (line_after Collect line))
collects law stays shards few small counts lines place line all_few all_small at t =
    let b = along_read (LineTold few small) t.bases lines t.each place line at in
    let g = all_counted law stays few small counts b.0 line.shard.deltas (keys_of line.shard.subs)
    (flat (set t.bases place []))
    (within_of few small t.bases place b.0 b.1 (subst (λ n. n * few ≤ SUBSCRIPTIONS) (sym t.size) all_few)
    (subst (λ n. n * small ≤ SUBSCRIPTION_BYTES) (sym t.size) all_small) (all_fit few small t.bases lines t.each))
    (record { within = t.within; weights = λ j. t.weights j ∙ flat_get (one_if_same j) t.bases place b.0 b.1 })
    b.2.replays in (
      g.0,
      record {
        bases = set t.bases place (keys_of line.shard.subs);
        size = set_length t.bases place (keys_of line.shard.subs) ∙ t.size;
        each =
            along_sets (LineTold few small) t.bases lines t.each place (keys_of line.shard.subs)
            (line_after Collect line) (record { base = b.2.fits; fits = b.2.fits; replays = λ f. refl });
        within = g.1.within;
        weights = λ j. g.1.weights j ∙ sym (flat_set (one_if_same j) t.bases place b.0 (keys_of line.shard.subs) b.1);
      },
    )

-- ---- each event

abbrev NodeTold : ServerIdentity → Node → Type 0
NodeTold server a =
    Told server.shards (SUBSCRIPTIONS / server.shards) (SUBSCRIPTION_BYTES / server.shards) a.hub.counts a.lines

line_told : (server : ServerIdentity) (a : Node) (place : ℕ) (line : ShardWithJobs) (e : Event)
    → SoundNode server a
    → slice_get a.lines place ≡ Some line
    → shard_refusal line.shard e ≡ None
    → is_collect e ≡ false
    → NodeTold server a
    → Told server.shards (SUBSCRIPTIONS / server.shards) (SUBSCRIPTION_BYTES / server.shards) a.hub.counts
    (set a.lines place (line_after e line))
line_told server a place line e sound at cause told_not t =
    at_told server.shards (SUBSCRIPTIONS / server.shards) (SUBSCRIPTION_BYTES / server.shards) a.hub.counts a.lines
    place line (line_after e line) at step t
  where
    same : line.shard.shards ≡ server.shards
    same = (sound.lines place line at).shards

    step : (ks : List Key)
        → ShardTold (SUBSCRIPTIONS / server.shards) (SUBSCRIPTION_BYTES / server.shards) ks line.shard
        → ShardTold (SUBSCRIPTIONS / server.shards) (SUBSCRIPTION_BYTES / server.shards) ks (shard_after line.shard e)
    step ks told =
        subst (λ n. ShardTold (SUBSCRIPTIONS / n) (SUBSCRIPTION_BYTES / n) ks (shard_after line.shard e)) same
        (shard_told ks line.shard e (sound.lines place line at).sound.apart cause told_not
        (subst (λ n. ShardTold (SUBSCRIPTIONS / n) (SUBSCRIPTION_BYTES / n) ks line.shard) (sym same) told))

conn_tells_not : (conn : ℕ) (event : ConnEvent) → is_collect (conn_event conn event) ≡ false
conn_tells_not conn (of_node.Subscribe key sid) = refl
conn_tells_not conn (of_node.Unsubscribe sid max) = refl
conn_tells_not conn (of_node.Reply frame) = refl
conn_tells_not conn (of_node.Shut text) = refl
conn_tells_not conn of_node.Detach = refl
conn_tells_not conn (of_node.SetHeaders on) = refl
conn_tells_not conn (of_node.Take count) = refl

work_tells_not : (work : ShardWork) (won : Bool) (line : ShardWithJobs) (e : Event)
    → work_event work won line ≡ Some e
    → is_collect e ≡ false
work_tells_not of_node.Attach won line e is = ap is_collect (sym (same_Some Attach e is))
work_tells_not of_node.Begin won line e is = go (first_of line.waiting) is
  where
    go : (f : Option Job) → begin_of f ≡ Some e → is_collect e ≡ false
    go None g = absurd (none-some e g)
    go (Some job) g = ap is_collect (sym (same_Some (Begin job) e g))
work_tells_not (of_node.Claim index) won line e is = ap is_collect (sym (same_Some (Claim index won) e is))
work_tells_not of_node.End won line e is = ap is_collect (sym (same_Some End e is))
work_tells_not of_node.DropJob won line e is = go line.shard.hand (first_of line.waiting) is
  where
    go : (hand f : Option Job) → drop_of hand f ≡ Some e → is_collect e ≡ false
    go None None g = absurd (none-some e g)
    go None (Some job) g = ap is_collect (sym (same_Some (DropJob (Some job)) e g))
    go (Some job) f g = ap is_collect (sym (same_Some (DropJob None) e g))
work_tells_not of_node.DrainShard won line e is = ap is_collect (sym (same_Some Drain e is))

-- ---- at the start

empty_bases : (few small shards first count : ℕ)
    → (bs : List (List Key)) × (length bs ≡ count) × ((f : Key → ℕ) → total f (flat bs) ≡ 0)
    × Along (LineTold few small) bs (lines_from shards first count)
empty_bases few small shards first zero = ([], refl, (λ f. refl), tt)
empty_bases few small shards first (suc count) =
    let h = empty_bases few small shards (suc first) count in (
      [] ∷ h.0,
      ap suc h.1,
      h.2,
      (
        record {
          base = record { size = omega arith; cost = omega arith };
          fits = record { size = omega arith; cost = omega arith };
          replays = λ f. refl;
        },
        h.3,
      ),
    )

starts_told : (server : ServerIdentity) → NodeTold server (new_node server)
starts_told server =
    let h =
    empty_bases (SUBSCRIPTIONS / server.shards) (SUBSCRIPTION_BYTES / server.shards) server.shards 1 server.shards in
    record {
      bases = h.0;
      size = h.1;
      each = h.3;
      within = (starts_sound server).counts;
      weights = λ key. sym (h.2 (one_if_same key));
    }

-- ---- what it says

abbrev is_bad_fault : HubFault → Bool
is_bad_fault BadInterest = true
is_bad_fault other = false

abbrev is_bad_interest : Option NodeFault → Bool
is_bad_interest (Some (Hub fault)) = is_bad_fault fault
is_bad_interest other = false

not_bad : (hub : hub.State) (deltas : List Delta)
    → are_refused hub.counts deltas ≡ false
    → option_map Hub (collect_refusal hub deltas) ≡ Some (Hub BadInterest)
    → ⊥
not_bad hub deltas e f =
    go (are_refused hub.counts deltas) (nat_lt MAX_COUNTER (hub.changed + count_of_changes hub deltas)) e f
  where
    go : (b c : Bool)
        → b ≡ false
        → option_map Hub (if b then Some BadInterest else (if c then Some Spent else None)) ≡ Some (Hub BadInterest)
        → ⊥
    go true c e f = true≢false e
    go false true e f = true≢false (sym (ap is_bad_interest f))
    go false false e f = true≢false (sym (ap is_bad_interest f))

line_pending : (few small : ℕ) (key : Key) (ks : List Key) (ds : List Delta) (us : List Key)
    → Replays few small ks ds us
    → total (one_if_same key) ks + count_by (is_opening key) ds
    ≡ total (one_if_same key) us + count_by (is_closing key) ds
line_pending few small key ks [] us r = let e = r (one_if_same key) in omega arith
line_pending few small key ks (d ∷ ds) us r =
    let a = sum_by-cons (λ (y : Delta). cond (is_opening key y) 1 0) d ds in
    let b = sum_by-cons (λ (y : Delta). cond (is_closing key y) 1 0) d ds in
    let g = go d.up d.key r.1 (line_pending few small key r.0 ds us r.3) in
    omega arith
  where
    go : (up : Bool) (k : Key)
        → Moved up k ks r.0
        → total (one_if_same key) r.0 + count_by (is_opening key) ds
        ≡ total (one_if_same key) us + count_by (is_closing key) ds
        → total (one_if_same key) ks + (cond (up && is_eq (key_cmp key k)) 1 0 + count_by (is_opening key) ds)
        ≡ total (one_if_same key) us + (cond (not up && is_eq (key_cmp key k)) 1 0 + count_by (is_closing key) ds)
    go true k m h = let e = m (one_if_same key) in omega arith
    go false k m h = let e = m (one_if_same key) in omega arith

lines_pending : (few small : ℕ) (key : Key) (bs : List (List Key)) (lines : List ShardWithJobs)
    → Along (LineTold few small) bs lines
    → total (one_if_same key) (flat bs) + count_by (is_opening key) (pending lines)
    ≡ times key (open_keys lines) + count_by (is_closing key) (pending lines)
lines_pending few small key [] [] a = refl
lines_pending few small key [] (l ∷ lines) a = absurd a
lines_pending few small key (b ∷ bs) [] a = absurd a
lines_pending few small key (b ∷ bs) (l ∷ lines) a =
    let h = lines_pending few small key bs lines a.1 in
    let g = line_pending few small key b l.shard.deltas (keys_of l.shard.subs) a.0.replays in
    let p = total_append (one_if_same key) b (flat bs) in
    let q = sum_by-append (λ (y : Delta). cond (is_opening key y) 1 0) l.shard.deltas (pending lines) in
    let x = sum_by-append (λ (y : Delta). cond (is_closing key y) 1 0) l.shard.deltas (pending lines) in
    let y = total_append (one_if_same key) (keys_of l.shard.subs) (open_keys lines) in
    let s = total_is (one_if_same key) (keys_of l.shard.subs ++ open_keys lines) in
    let t = total_is (one_if_same key) (open_keys lines) in
    omega arith

module _ (law : IsCounting) (stays : StaysWithin) (server : ServerIdentity) where
  collected_told : (a : Node) (place : ℕ) (line : ShardWithJobs)
      → slice_get a.lines place ≡ Some line
      → NodeTold server a
      → (are_refused a.hub.counts line.shard.deltas ≡ false)
      × Told server.shards (SUBSCRIPTIONS / server.shards) (SUBSCRIPTION_BYTES / server.shards)
      (counts_told a.hub.counts line.shard.deltas) (set a.lines place (line_after Collect line))
  collected_told a place line at t =
      collects law stays server.shards (SUBSCRIPTIONS / server.shards) (SUBSCRIPTION_BYTES / server.shards) a.hub.counts
      a.lines place line (mul-div-le SUBSCRIPTIONS server.shards) (mul-div-le SUBSCRIPTION_BYTES server.shards) at t

  step_told : (a : Node) (e : NodeEvent) (won : Bool) (race : RaceState)
      → SoundNode server a
      → node_refusal server a e ≡ None
      → NodeTold server a
      → NodeTold server (node_after server a e won race)
  step_told a (Own (of_node.OfConn conn event)) won race sound cause t = go (conn_line server a conn) refl cause
    where
      go : (o : Option ShardWithJobs)
          → conn_line server a conn ≡ o
          → conn_refusal event conn o ≡ None
          → Told server.shards (SUBSCRIPTIONS / server.shards) (SUBSCRIPTION_BYTES / server.shards) a.hub.counts
          (set_line a.lines (conn_place server conn) (line_after (conn_event conn event)) o)
      go None at f = t
      go (Some line) at f =
          line_told server a (conn_place server conn) line (conn_event conn event) sound
          (found (nat_eq conn 0) (slice_get a.lines (conn_place server conn)) line at)
          (map_none Shard (shard_refusal line.shard (conn_event conn event)) f) (conn_tells_not conn event) t
  step_told a (Own (of_node.AtShard shard work)) won race sound cause t = go (shard_line a shard) refl cause
    where
      by : (line : ShardWithJobs)
          → shard_line a shard ≡ Some line
          → (e : Option Event)
          → work_event work won line ≡ e
          → event_refusal line e ≡ None
          → Told server.shards (SUBSCRIPTIONS / server.shards) (SUBSCRIPTION_BYTES / server.shards) a.hub.counts
          (set a.lines (shard - 1) (line_after_if e line))
      by line at None is f = absurd (none-some _ (sym f))
      by line at (Some e) is f =
          line_told server a (shard - 1) line e sound (found (nat_eq shard 0) (slice_get a.lines (shard - 1)) line at)
          (map_none Shard (shard_refusal line.shard e) f) (work_tells_not work won line e is) t

      go : (o : Option ShardWithJobs)
          → shard_line a shard ≡ o
          → work_refusal work o ≡ None
          → Told server.shards (SUBSCRIPTIONS / server.shards) (SUBSCRIPTION_BYTES / server.shards) a.hub.counts
          (set_line a.lines (shard - 1) (λ line. line_after_if (work_event work won line) line) o)
      go None at f = t
      go (Some line) at f = by line at (work_event work won line) refl (sym (same_refusal work line won) ∙ f)
  step_told a (Own (of_node.Publish p)) won race sound cause t = queue_told _ _ _ a.hub.counts _ a.lines t
  step_told a (Own (of_node.Collect shard)) won race sound cause t = go (shard_line a shard) refl
    where
      go : (o : Option ShardWithJobs)
          → shard_line a shard ≡ o
          → Told server.shards (SUBSCRIPTIONS / server.shards) (SUBSCRIPTION_BYTES / server.shards)
          (counts_told a.hub.counts (deltas_at o)) (set_line a.lines (shard - 1) (line_after Collect) o)
      go None at = t
      go (Some line) at =
          (collected_told a (shard - 1) line (found (nat_eq shard 0) (slice_get a.lines (shard - 1)) line at) t).1
  step_told a (Own of_node.Drain) won race sound cause t = t
  step_told a (Own (of_node.Dial q)) won race sound cause t = t
  step_told a (Own of_node.Accept) won race sound cause t = t
  step_told a (Own (of_node.CutSession session)) won race sound cause t =
      subst
      (λ counts. Told server.shards (SUBSCRIPTIONS / server.shards) (SUBSCRIPTION_BYTES / server.shards) counts a.lines)
      (sym (same (peer_of_session session a.sessions.standing))) t
    where
      same : (q : Option ℕ) → (cut_if a.hub q).counts ≡ a.hub.counts
      same None = refl
      same (Some q) = refl
  step_told a (Own (of_node.TakeFrames q count)) won race sound cause t = t
  step_told a (Receive frame) won race sound cause t = go frame.body
    where
      go : (body : Body)
          → Told server.shards (SUBSCRIPTIONS / server.shards) (SUBSCRIPTION_BYTES / server.shards) a.hub.counts
          (lines_after_body a frame body)
      go (Plus weighted) = t
      go (Minus key) = t
      go (Snapshot keys) = t
      go (Msg content queues) = queue_told _ _ _ a.hub.counts _ a.lines t
  step_told a (OnInfo session info) won race sound cause t = t
  step_told a (OnConnect session connect) won race sound cause t = t

  -- ---- runs

  run_told : (h : List Done) (a : Node) → IsListed server → Ran server h a → NodeTold server a
  run_told [] a listed is = subst (NodeTold server) (sym is) (starts_told server)
  run_told (d ∷ earlier) a listed ran =
      subst (NodeTold server) (sym ran.0.after)
      (step_told d.before d.event d.won d.race (run_sound server earlier d.before listed ran.1) ran.0.cause
      (run_told earlier d.before listed ran.1))

  counts_stay_open : (h : List Done) (a : Node) → IsListed server → Ran server h a → CountsAreOpen server a
  counts_stay_open h a listed ran =
      let t = run_told h a listed ran in
      record {
        counts = λ key.
            ap (λ n. n + count_by (is_opening key) (pending a.lines)) (t.weights key)
            ∙ lines_pending _ _ key t.bases a.lines t.each;
        taken = λ shard. go t shard (shard_line a shard) refl;
      }
    where
      go : NodeTold server a
          → (shard : ℕ) (o : Option ShardWithJobs)
          → shard_line a shard ≡ o
          → collect_refusal_at a.hub o ≡ Some (Hub BadInterest)
          → ⊥
      go t shard None at e = true≢false (sym (ap is_bad_interest e))
      go t shard (Some line) at e =
          not_bad a.hub line.shard.deltas
          (collected_told a (shard - 1) line (found (nat_eq shard 0) (slice_get a.lines (shard - 1)) line at) t).0 e

pub counts_are_open : IsCounting → StaysWithin → CountsStayOpen
counts_are_open law stays server h a listed ran = counts_stay_open law stays server h a listed ran
