-- From what a shard has told, replaying its pending deltas stays within its limits and ends in its open subscriptions.
use Rattle.std.proofs.Common.{◌≡◌, ◌≢◌, ◌⊎◌, ℕ, ◌+◌, ◌≤◌, Bool, true, false, true≢false, cond, not, nat_eq, ◌&&◌, ◌||◌, List, [], ◌∷◌, ◌++◌, map, None, refl, sym, ap, ◌∙◌, subst, inl, inr, ⊎_elim, arith}
use Rattle.std.specs.Prelude.{filter}
use Rattle.std.specs.List.{list_any}
use Rattle.list_laws.specs.Lists.{In, Each, Pairs}
use Rattle.list_laws.proofs.Lists.{in_map, in_append, pairs_append, pairs_map, pairs_cases}
use Rattle.list_laws.proofs.Tests.{eq_true, has_in, in_has, and_true, not_true}
use Rattle.list_laws.proofs.Changes.{append_nil, append_assoc, in_filter, pairs_filter, pairs_map_back, map_append}
use Rattle.subj.specs.declared.keys.Key.{Key}
use Rattle.subj.specs.declared.jobs.Job.{Job}
use Rattle.subj.specs.Keys.{cost_of}
use Rattle.sub_table.specs.Subscriptions.{is_of, has_serial, serial_of}
use Rattle.sub_table.specs.declared.Subscription.{Subscription}
use Rattle.subj.specs.declared.keys.Delta.{Delta}
use Rattle.shard_core.specs.Shards.{State, is_open, client_at, clients_with_change, fits}
use Rattle.shard_core.specs.Closings.{serials_of, is_left, left_of, closing, closings_of}
use Rattle.shard_core.specs.Owed.{Walk, walk, whole_walk, is_due, first_step, walk_after_put, walk_with_entry, walk_with_shut, reaches, owed_entry, slow_consumer}
use Rattle.shard_core.proofs.Clients.Outboxes.{shuts, stays_open, stays_shut}
use Rattle.node_law.specs.CountsOpen.{keys_of}
use Rattle.outbox.specs.Views.{with_last}

-- ---- sums over keys

abbrev pub total : (Key → ℕ) → List Key → ℕ
total f [] = 0
total f (k ∷ ks) = f k + total f ks

pub total_append : (f : Key → ℕ) (xs ys : List Key) → total f (xs ++ ys) ≡ total f xs + total f ys
total_append f [] ys = omega arith
total_append f (x ∷ xs) ys = let h = total_append f xs ys in omega arith

-- how many there are
abbrev pub size : List Key → ℕ
size ks = total (λ k. 1) ks

abbrev pub cost : List Key → ℕ
cost ks = total cost_of ks

abbrev pub Same : List Key → List Key → Type 0
Same ks us = (f : Key → ℕ) → total f ks ≡ total f us

-- within a shard's share
pub record Fits (few small : ℕ) (ks : List Key) : Type 0 where
  pub size : size ks ≤ few
  pub cost : cost ks ≤ small

-- one more, or one less
abbrev pub Moved : Bool → Key → List Key → List Key → Type 0
Moved true k old new = (f : Key → ℕ) → total f new ≡ f k + total f old
Moved false k old new = (f : Key → ℕ) → total f old ≡ f k + total f new

-- from the keys ks the deltas lead to the keys us, and stay within the share
abbrev pub Replays : ℕ → ℕ → List Key → List Delta → List Key → Type 0
Replays few small ks [] us = Same ks us
Replays few small ks (d ∷ ds) us =
    (mid : List Key) × Moved d.up d.key ks mid × Fits few small mid × Replays few small mid ds us

replays_same : (few small : ℕ) (ks : List Key) (ds : List Delta) (us vs : List Key)
    → Same us vs
    → Replays few small ks ds us
    → Replays few small ks ds vs
replays_same few small ks [] us vs s r = λ f. r f ∙ s f
replays_same few small ks (d ∷ ds) us vs s r = (r.0, r.1, r.2, replays_same few small r.0 ds us vs s r.3)

moved_from : (up : Bool) (k : Key) (ks us vs : List Key) → Same ks us → Moved up k us vs → Moved up k ks vs
moved_from true k ks us vs s m = λ f. m f ∙ ap (λ n. f k + n) (sym (s f))
moved_from false k ks us vs s m = λ f. s f ∙ m f

pub replays_more : (few small : ℕ) (ks : List Key) (ds : List Delta) (us : List Key) (d : Delta) (vs : List Key)
    → Replays few small ks ds us
    → Moved d.up d.key us vs
    → Fits few small vs
    → Replays few small ks (ds ++ d ∷ []) vs
replays_more few small ks [] us d vs r m fits = (vs, moved_from d.up d.key ks us vs r m, fits, λ f. refl)
replays_more few small ks (x ∷ ds) us d vs r m fits = (r.0, r.1, r.2, replays_more few small r.0 ds us d vs r.3 m fits)

close_many : (few small : ℕ) (ks : List Key) (ds : List Delta) (us : List Key) (ws : List Subscription)
    (rest : List Key)
    → Same us (keys_of ws ++ rest)
    → Fits few small us
    → Replays few small ks ds us
    → Replays few small ks (ds ++ map closing ws) rest
close_many few small ks ds us [] rest s fits r =
    subst (λ x. Replays few small ks x rest) (sym (append_nil ds)) (replays_same few small ks ds us rest s r)
close_many few small ks ds us (w ∷ ws) rest s fits r =
    let less : Fits few small (keys_of ws ++ rest) = record {
      size = (let h = s (λ k. 1) in let g = fits.size in omega arith);
      cost = (let h = s cost_of in let g = fits.cost in omega arith);
    } in
    subst (λ x. Replays few small ks x rest) (append_assoc ds (closing w ∷ []) (map closing ws))
    (close_many few small ks (ds ++ closing w ∷ []) (keys_of ws ++ rest) ws rest (λ f. refl) less
    (replays_more few small ks ds us (closing w) (keys_of ws ++ rest) r s less))

-- ---- closing by serials

abbrev pub picked : List ℕ → List Subscription → List Subscription
picked [] us = []
picked (k ∷ ks) us = filter (has_serial k) us ++ picked ks us

pub picked_closings : (ended : List ℕ) (us : List Subscription) → closings_of ended us ≡ map closing (picked ended us)
picked_closings [] us = refl
picked_closings (k ∷ ks) us =
    ap (λ t. map closing (filter (has_serial k) us) ++ t) (picked_closings ks us)
    ∙ sym (map_append closing (filter (has_serial k) us) (picked ks us))

abbrev pub Distinct : List ℕ → Type 0
Distinct ks = Pairs (λ j k. j ≢ k) ks

split_one : (f : Key → ℕ) (k : ℕ) (ks : List ℕ)
    → Each (λ j. k ≢ j) ks
    → (us : List Subscription)
    → total f (keys_of (filter (is_left ks) us))
    ≡ total f (keys_of (filter (has_serial k) us)) + total f (keys_of (filter (is_left (k ∷ ks)) us))
split_one f k ks out [] = refl
split_one f k ks out (u ∷ us) =
    go (nat_eq u.serial k) (list_any (nat_eq u.serial) ks) refl refl (split_one f k ks out us)
  where
    go : (a b : Bool)
        → nat_eq u.serial k ≡ a
        → list_any (nat_eq u.serial) ks ≡ b
        → total f (keys_of (filter (is_left ks) us))
        ≡ total f (keys_of (filter (has_serial k) us)) + total f (keys_of (filter (is_left (k ∷ ks)) us))
        → total f (keys_of (cond (not b) (u ∷ filter (is_left ks) us) (filter (is_left ks) us)))
        ≡ total f (keys_of (cond a (u ∷ filter (has_serial k) us) (filter (has_serial k) us)))
        + total f (keys_of (cond (not (a || b)) (u ∷ filter (is_left (k ∷ ks)) us) (filter (is_left (k ∷ ks)) us)))
    go true true e g h = absurd (out u.serial (has_in u.serial ks g) (sym (eq_true u.serial k e)))
    go true false e g h = omega arith
    go false true e g h = h
    go false false e g h = omega arith

left_all : (us : List Subscription) → filter (is_left []) us ≡ us
left_all [] = refl
left_all (u ∷ us) = ap (λ t. u ∷ t) (left_all us)

pub split_all : (f : Key → ℕ) (ended : List ℕ)
    → Distinct ended
    → (us : List Subscription)
    → total f (keys_of us) ≡ total f (keys_of (picked ended us)) + total f (keys_of (filter (is_left ended) us))
split_all f [] d us = let e = ap (λ t. total f (keys_of t)) (left_all us) in omega arith
split_all f (k ∷ ks) d us =
    let h = split_all f ks d.1 us in
    let g = split_one f k ks d.0 us in
    let e = ap (total f) (map_append (λ (u : Subscription). u.key) (filter (has_serial k) us) (picked ks us))
    ∙ total_append f (keys_of (filter (has_serial k) us)) (keys_of (picked ks us)) in
    omega arith

pub replays_ended : (few small : ℕ) (ks : List Key) (ds : List Delta) (us : List Subscription) (ended : List ℕ)
    → Distinct ended
    → Fits few small (keys_of us)
    → Replays few small ks ds (keys_of us)
    → Replays few small ks (ds ++ closings_of ended us) (keys_of (filter (is_left ended) us))
    × Fits few small (keys_of (filter (is_left ended) us))
replays_ended few small ks ds us ended distinct fits r = (
  subst (λ x. Replays few small ks (ds ++ x) (keys_of (filter (is_left ended) us))) (sym (picked_closings ended us))
      (close_many few small ks ds (keys_of us) (picked ended us) (keys_of (filter (is_left ended) us))
      (λ f.
      split_all f ended distinct us
      ∙ sym (total_append f (keys_of (picked ended us)) (keys_of (filter (is_left ended) us))))
      fits r),
  record {
    size = (let h = split_all (λ k. 1) ended distinct us in let g = fits.size in omega arith);
    cost = (let h = split_all cost_of ended distinct us in let g = fits.cost in omega arith);
  },
)

-- ---- which serials close

pub left_distinct : (k : ℕ) (ended : List ℕ) (us : List Subscription)
    → Distinct (serials_of us)
    → Distinct (left_of k ended us)
left_distinct k ended us apart =
    let test : Subscription → Bool = λ u. is_of k u && is_left ended u in
    pairs_map (λ i j. i ≢ j) serial_of (filter (λ u. is_of k u && is_left ended u) us)
    (pairs_filter (λ (u v : Subscription). u.serial ≢ v.serial) (λ u. is_of k u && is_left ended u) us
    (pairs_map_back (λ i j. i ≢ j) serial_of us apart))

-- a serial that closes with its connection
record LeftOf (k : ℕ) (ended : List ℕ) (us : List Subscription) (serial : ℕ) : Type 0 where
  sub : Subscription
  there : In sub us
  is : sub.serial ≡ serial
  conn : sub.conn ≡ k
  new : list_any (nat_eq serial) ended ≡ false

left_in : (k : ℕ) (ended : List ℕ) (us : List Subscription) (serial : ℕ)
    → In serial (left_of k ended us)
    → LeftOf k ended us serial
left_in k ended us serial i =
    let m = in_map serial_of (filter (λ u. is_of k u && is_left ended u) us) serial i in
    let f = in_filter (λ u. is_of k u && is_left ended u) us m.0 m.1 in
    let g = and_true (is_of k m.0) (is_left ended m.0) f.1 in
    record {
      sub = m.0;
      there = f.0;
      is = sym m.2;
      conn = eq_true m.0.conn k g.0;
      new = ap (λ n. list_any (nat_eq n) ended) m.2 ∙ not_true (list_any (nat_eq m.0.serial) ended) g.1;
    }

not_there : (k : ℕ) (ks : List ℕ) → list_any (nat_eq k) ks ≡ false → In k ks → ⊥
not_there k ks e i = true≢false (sym (in_has k ks i) ∙ e)

-- ---- the walk of Begin closes no serial twice

record Closes (us due : List Subscription) (w : Walk) : Type 0 where
  distinct : Distinct w.ended
  -- what was closed and is still to come is of a connection that is shut
  shut : (u : Subscription) → In u due → In u.serial w.ended → is_open u.conn w.clients ≡ false

abbrev Apart : List Subscription → Type 0
Apart us = Pairs (λ u v. u.serial ≢ v.serial) us

same_serial : (us : List Subscription)
    → Apart us
    → (u v : Subscription)
    → In u us
    → In v us
    → u.serial ≡ v.serial
    → u ≡ v
same_serial us p u v i j e =
    ⊎_elim (λ (x : u ≡ v). x)
    (λ (x : (u.serial ≢ v.serial) ⊎ (v.serial ≢ u.serial)).
    ⊎_elim (λ (y : u.serial ≢ v.serial). absurd (y e)) (λ (y : v.serial ≢ u.serial). absurd (y (sym e))) x)
    (pairs_cases (λ (u v : Subscription). u.serial ≢ v.serial) us p u v i j)

put_closes : (s : State) (job : Job) (u : Subscription) (due : List Subscription) (w : Walk)
    → Apart s.subs
    → In u s.subs
    → Each (λ v. In v s.subs) due
    → Each (λ (v : Subscription). u.serial ≢ v.serial) due
    → Closes s.subs (u ∷ due) w
    → Closes s.subs due (walk_after_put s job w u)
put_closes s job u due w apart here those other k =
    go (is_open u.conn w.clients) (fits (client_at u.conn w.clients) (owed_entry s.shard s.clients job None u))
    (reaches u.max (u.delivered + 1)) refl
  where
    quiet : Closes s.subs due w
    quiet = record { distinct = k.distinct; shut = λ v i e. k.shut v (inr i) e }

    fresh : is_open u.conn w.clients ≡ true → In u.serial w.ended → ⊥
    fresh open_it i = true≢false (sym open_it ∙ k.shut u (inl refl) i)

    kept : (v : Subscription)
        → is_open v.conn w.clients ≡ false
        → is_open v.conn (walk_with_entry (owed_entry s.shard s.clients job None u) u w).clients ≡ false
    kept v e = stays_open (owed_entry s.shard s.clients job None u) v.conn u.conn w.clients ∙ e

    ended : (b : Bool) → is_open u.conn w.clients ≡ true → Distinct (w.ended ++ cond b (u.serial ∷ []) [])
    ended true e =
        pairs_append (λ i j. i ≢ j) w.ended (u.serial ∷ []) k.distinct ((λ j i. absurd i), tt) (λ x y i j f.
        ⊎_elim (λ (g : y ≡ u.serial). fresh e (subst (λ n. In n w.ended) (f ∙ g) i)) (λ (z : ⊥). absurd z) j)
    ended false e = subst Distinct (sym (append_nil w.ended)) k.distinct

    later : (b : Bool) (v : Subscription)
        → In v due
        → In v.serial (w.ended ++ cond b (u.serial ∷ []) [])
        → In v.serial w.ended
    later true v i j =
        ⊎_elim (λ (x : In v.serial w.ended). x)
        (λ (x : In v.serial (u.serial ∷ [])).
        ⊎_elim (λ (e : v.serial ≡ u.serial). absurd (other v i (sym e))) (λ (z : ⊥). absurd z) x)
        (in_append v.serial w.ended (u.serial ∷ []) j)
    later false v i j = subst (In v.serial) (append_nil w.ended) j

    go : (o r m : Bool)
        → is_open u.conn w.clients ≡ o
        → Closes s.subs due
        (cond o
        (cond r (record w {
          clients = (walk_with_entry (owed_entry s.shard s.clients job None u) u w).clients;
          given = w.given ++ u ∷ [];
          ended = w.ended ++ cond m (u.serial ∷ []) [];
        })
        (walk_with_shut s.subs u.conn w))
        w)
    go false r m e = quiet
    go true true m e = record { distinct = ended m e; shut = λ v i j. kept v (k.shut v (inr i) (later m v i j)) }
    go true false m e = record {
      distinct =
          pairs_append (λ i j. i ≢ j) w.ended (left_of u.conn w.ended s.subs) k.distinct
          (left_distinct u.conn w.ended s.subs (pairs_map (λ i j. i ≢ j) serial_of s.subs apart))
          (λ x y i j f. not_there y w.ended (left_in u.conn w.ended s.subs y j).new (subst (λ n. In n w.ended) f i));
      shut = λ v i j.
          ⊎_elim (λ (x : In v.serial w.ended). stays_shut slow_consumer v.conn u.conn w.clients (k.shut v (inr i) x))
          (λ (x : In v.serial (left_of u.conn w.ended s.subs)).
          let l = left_in u.conn w.ended s.subs v.serial x in
          let same = same_serial s.subs apart l.sub v l.there (those v i) l.is in
          subst (λ m. is_open m (clients_with_change (with_last slow_consumer) u.conn w.clients) ≡ false)
          (sym l.conn ∙ ap (λ (y : Subscription). y.conn) same) (shuts slow_consumer u.conn w.clients))
          (in_append v.serial w.ended (left_of u.conn w.ended s.subs) j);
    }

walk_closes : (s : State) (job : Job) (due : List Subscription) (w : Walk)
    → Apart s.subs
    → Each (λ v. In v s.subs) due
    → Apart due
    → Closes s.subs due w
    → Distinct (walk s job due w).ended
walk_closes s job [] w apart those once k = k.distinct
walk_closes s job (u ∷ due) w apart those once k =
    walk_closes s job due (walk_after_put s job w u) apart (λ v i. those v (inr i)) once.1
    (put_closes s job u due w apart (those u (inl refl)) (λ v i. those v (inr i)) once.0 k)

pub walked_distinct : (s : State) (job : Job) → Distinct (serials_of s.subs) → Distinct (whole_walk s job).ended
walked_distinct s job apart =
    let p = pairs_map_back (λ i j. i ≢ j) serial_of s.subs apart in
    walk_closes s job (filter (is_due job) s.subs) (first_step s.clients) p
    (λ v i. (in_filter (is_due job) s.subs v i).0)
    (pairs_filter (λ (u v : Subscription). u.serial ≢ v.serial) (is_due job) s.subs p)
    (record { distinct = tt; shut = λ u i e. absurd e })
