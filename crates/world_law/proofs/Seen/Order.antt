-- The placements of a step stand in the order of their subscriptions, and so there is one list of them.
use Rattle.std.proofs.Common.{◌≡◌, ◌≢◌, ℕ, zero, suc, ◌+◌, Bool, true, false, cond, List, [], ◌∷◌, ◌++◌, map, Option, Some, None, refl, sym, ap, ◌∙◌, subst, inl, inr, ⊎_elim, arith}
use Rattle.std.specs.Prelude.{filter, slice_get}
use Rattle.std.proofs.lemmas.Option.{none-some, same_Some}
use Rattle.list_laws.specs.Lists.{In, Each, Pairs, SubList}
use Rattle.list_laws.proofs.Lists.{in_append, in_map, in_read, pairs_append, pairs_map, pairs_weaker}
use Rattle.list_laws.proofs.Tests.{true_eq}
use Rattle.list_laws.proofs.Changes.{append_nil, append_assoc, in_filter, filter_in, in_mapped, sub_later, in_sub, map_append}
use Rattle.client_frames.specs.ErrTexts.{err_line}
use Rattle.client_frames.specs.Frames.{reply_line}
use Rattle.sub_table.specs.Subscriptions.{serial_of}
use Rattle.sub_table.specs.declared.Subscription.{Subscription}
use Rattle.subj.specs.declared.identities.SubId.{SubId}
use Rattle.subj.specs.declared.jobs.Job.{Job}
use Rattle.subj.specs.Servers.{ServerIdentity}
use Rattle.shard_core.specs.declared.calls.Placed.{Placed}
use Rattle.shard_core.specs.Closings.{id_of, serials_of}
use Rattle.shard_core.specs.Owed.{owed_placed, whole_walk, first_step, is_due, candidate_of, candidate_named, is_candidate, slow_consumer}
use Rattle.shard_core.specs.Puts.{put_by, put_by_claim, put_line}
use Rattle.shard_core.specs.ShardEvents as of_shard
use Rattle.shard_core.specs.ShardSteps.{answer_fits}
use Rattle.shard_core.specs.Shards.{State, Client}
use Rattle.shard_core.proofs.Steps.LawEvents.{walk_gives}
use Rattle.node_law.specs.State.{ShardWithJobs}
use Rattle.world_law.specs.Changes.{placement_of, is_on, open_subs, AreGained, PlacementsAreOne}
use Rattle.world_law.specs.Play.{placements_put}
use Rattle.world_law.specs.State.{Placement}

abbrev pub sub_of_placement : Placement → SubId
sub_of_placement p = p.life.sub

-- ---- some of a list, in order

sub_map : {A B : Type 0} (f : A → B) (xs ys : List A) → SubList xs ys → SubList (map f xs) (map f ys)
sub_map f [] ys h = tt
sub_map f (x ∷ xs) [] h = absurd h
sub_map f (x ∷ xs) (y ∷ ys) h = ⊎_elim (λ k. inl (ap f k.0, sub_map f xs ys k.1)) (λ k. inr (sub_map f (x ∷ xs) ys k)) h

sub_filter : {A : Type 0} (test : A → Bool) (xs : List A) → SubList (filter test xs) xs
sub_filter test [] = tt
sub_filter {A} test (x ∷ xs) = go (test x) (sub_filter test xs)
  where
    go : (b : Bool) → SubList (filter test xs) xs → SubList (cond b (x ∷ filter test xs) (filter test xs)) (x ∷ xs)
    go true below = inl (refl, below)
    go false below = sub_later (filter test xs) x xs below

sub_then : {A : Type 0} (xs ys zs : List A) → SubList xs ys → SubList ys zs → SubList xs zs
sub_then [] ys zs h k = tt
sub_then (x ∷ xs) [] zs h k = absurd h
sub_then (x ∷ xs) (y ∷ ys) [] h k = absurd k
sub_then (x ∷ xs) (y ∷ ys) (z ∷ zs) h k =
    ⊎_elim (λ (q : (y ≡ z) × SubList ys zs).
    ⊎_elim (λ (p : (x ≡ y) × SubList xs ys). inl (p.0 ∙ q.0, sub_then xs ys zs p.1 q.1))
    (λ (p : SubList (x ∷ xs) ys). inr (sub_then (x ∷ xs) ys zs p q.1)) h)
    (λ (q : SubList (y ∷ ys) zs). inr (sub_then (x ∷ xs) (y ∷ ys) zs h q)) k

sub_left : {A : Type 0} (xs ys zs : List A) → SubList xs ys → SubList xs (ys ++ zs)
sub_left [] ys zs h = tt
sub_left (x ∷ xs) [] zs h = absurd h
sub_left (x ∷ xs) (y ∷ ys) zs h =
    ⊎_elim (λ k. inl (k.0, sub_left xs ys zs k.1)) (λ k. inr (sub_left (x ∷ xs) ys zs k)) h

sub_right : {A : Type 0} (xs ys zs : List A) → SubList xs zs → SubList xs (ys ++ zs)
sub_right xs [] zs h = h
sub_right xs (y ∷ ys) zs h = sub_later xs y (ys ++ zs) (sub_right xs ys zs h)

sub_one : {A : Type 0} (x : A) (ys : List A) → In x ys → SubList (x ∷ []) ys
sub_one x [] i = absurd i
sub_one x (y ∷ ys) i = ⊎_elim (λ e. inl (e, tt)) (λ j. inr (sub_one x ys j)) i

-- ---- what an event of a shard places

module _ (server : ServerIdentity) (now : ℕ) where
  abbrev ids : List Placed → List SubId
  ids puts = map sub_of_placement (placements_put server now puts)

  ids_append : (xs ys : List Placed) → ids (xs ++ ys) ≡ ids xs ++ ids ys
  ids_append [] ys = refl
  ids_append (x ∷ xs) ys =
      map_append sub_of_placement (placement_of server now x.conn x.headers x.entry.bytes x.entry.tag)
      (placements_put server now (xs ++ ys))
      ∙ ap (λ t. map sub_of_placement (placement_of server now x.conn x.headers x.entry.bytes x.entry.tag) ++ t)
      (ids_append xs ys)
      ∙ sym (append_assoc (map sub_of_placement (placement_of server now x.conn x.headers x.entry.bytes x.entry.tag))
      (ids xs) (ids ys))
      ∙ ap (λ t. t ++ ids ys)
      (sym (map_append sub_of_placement (placement_of server now x.conn x.headers x.entry.bytes x.entry.tag)
      (placements_put server now xs)))

  ids_of_lines : (line : List ℕ) (conns : List ℕ) → ids (map (put_line line) conns) ≡ []
  ids_of_lines line [] = refl
  ids_of_lines line (conn ∷ conns) = ids_of_lines line conns

  ids_of_given : (shard : ℕ) (clients : List Client) (job : Job) (queue : Option (List ℕ)) (us : List Subscription)
      → ids (map (owed_placed shard clients job queue) us) ≡ map (id_of shard) (serials_of us)
  ids_of_given shard clients job queue [] = refl
  ids_of_given shard clients job queue (u ∷ us) =
      ap (λ t. id_of shard u.serial ∷ t) (ids_of_given shard clients job queue us)

  abbrev InOrder : State → List Placed → Type 0
  InOrder s puts = SubList (ids puts) (map (id_of s.shard) (serials_of s.subs))

  lines_in_order : (s : State) (line : List ℕ) (conns : List ℕ) → InOrder s (map (put_line line) conns)
  lines_in_order s line conns =
      subst (λ t. SubList t (map (id_of s.shard) (serials_of s.subs))) (sym (ids_of_lines line conns)) tt

  given_in_order : (s : State) (us : List Subscription)
      → SubList us s.subs
      → SubList (map (id_of s.shard) (serials_of us)) (map (id_of s.shard) (serials_of s.subs))
  given_in_order s us h = sub_map (id_of s.shard) (serials_of us) (serials_of s.subs) (sub_map serial_of us s.subs h)

  candidate_in : (s : State) (job : Job) (name : Option (List ℕ)) (u : Subscription)
      → candidate_named s job name ≡ Some u
      → In u s.subs
  candidate_in s job None u is = absurd (none-some u is)
  candidate_in s job (Some name) u is = (in_filter (is_candidate s job name) s.subs u (in_read _ _ u is)).0

  claim_in_order : (s : State) (hand : Option Job) (u : Option Subscription) (won : Bool)
      → ((job : Job) (sub : Subscription) → hand ≡ Some job → u ≡ Some sub → In sub s.subs)
      → InOrder s (put_by_claim s hand u won)
  claim_in_order s None u won h = tt
  claim_in_order s (Some job) None won h = tt
  claim_in_order s (Some job) (Some sub) true h = given_in_order s (sub ∷ []) (sub_one sub s.subs (h job sub refl refl))
  claim_in_order s (Some job) (Some sub) false h = tt

  pub event_order : (s : State) (e : of_shard.Event) → InOrder s (put_by s e)
  event_order s of_shard.Attach = tt
  event_order s (of_shard.Subscribe conn key sid) = tt
  event_order s (of_shard.Unsubscribe conn sid max) = tt
  event_order s (of_shard.Reply conn frame) = go (answer_fits s conn (reply_line frame))
    where
      go : (b : Bool) → InOrder s (cond b (put_line (reply_line frame) conn ∷ []) (put_line slow_consumer conn ∷ []))
      go true = lines_in_order s (reply_line frame) (conn ∷ [])
      go false = lines_in_order s slow_consumer (conn ∷ [])
  event_order s (of_shard.Shut conn text) = lines_in_order s (err_line text) (conn ∷ [])
  event_order s (of_shard.Detach conn) = tt
  event_order s (of_shard.SetHeaders conn on) = tt
  event_order s (of_shard.Take conn count) = tt
  event_order s (of_shard.Begin job) =
      let g = walk_gives s job (filter (is_due job) s.subs) (first_step s.clients) in
      let due : SubList (whole_walk s job).given s.subs = subst (λ t. SubList t s.subs) (sym g.given)
      (sub_then g.new (filter (is_due job) s.subs) s.subs g.some (sub_filter (is_due job) s.subs)) in
      subst (λ t. SubList t (map (id_of s.shard) (serials_of s.subs)))
      (sym (ids_append (map (owed_placed s.shard s.clients job None) (whole_walk s job).given)
      (map (put_line slow_consumer) (whole_walk s job).shut) ∙ (λ i.
      ids_of_given s.shard s.clients job None (whole_walk s job).given i
      ++ ids_of_lines slow_consumer (whole_walk s job).shut i)
      ∙ append_nil (map (id_of s.shard) (serials_of (whole_walk s job).given))))
      (given_in_order s (whole_walk s job).given due)
  event_order s (of_shard.Claim index won) = claim_in_order s s.hand (candidate_of s s.hand index) won (go s.hand)
    where
      go : (hand : Option Job) (job : Job) (sub : Subscription)
          → hand ≡ Some job
          → candidate_of s hand index ≡ Some sub
          → In sub s.subs
      go None job sub is c = absurd (none-some sub c)
      go (Some held) job sub is c = candidate_in s held (slice_get held.queues index) sub c
  event_order s of_shard.End = tt
  event_order s (of_shard.DropJob waiting) = tt
  event_order s of_shard.Drain = tt
  event_order s of_shard.Collect = tt

pub in_lines : (lines : List ShardWithJobs) (place : ℕ) (line : ShardWithJobs) (xs : List SubId)
    → slice_get lines place ≡ Some line
    → SubList xs (map (id_of line.shard.shard) (serials_of line.shard.subs))
    → SubList xs (open_subs lines)
in_lines [] place line xs at h = absurd (none-some line at)
in_lines (first ∷ lines) zero line xs at h =
    sub_left xs (map (id_of first.shard.shard) (serials_of first.shard.subs)) (open_subs lines)
    (subst (λ (l : ShardWithJobs). SubList xs (map (id_of l.shard.shard) (serials_of l.shard.subs)))
    (sym (same_Some first line at)) h)
in_lines (first ∷ lines) (suc place) line xs at h =
    sub_right xs (map (id_of first.shard.shard) (serials_of first.shard.subs)) (open_subs lines)
    (in_lines lines place line xs at h)

-- ---- one list

-- the same entries, in the order of one list without repeats
module _ {A B : Type 0} (f : A → B) where
  abbrev Within : List A → List A → Type 0
  Within xs ys = Each (λ x. In x ys) xs

  -- what stands at the front of neither
  without_front : (z : B) (zs : List B) (x : A) (xs ys : List A)
      → Each (λ t. z ≢ t) zs
      → f x ≡ z
      → SubList (map f ys) zs
      → In x ys
      → ⊥
  without_front z zs x xs ys apart e h i = apart (f x) (in_sub (map f ys) zs h (f x) (in_mapped f ys x i)) (sym e)

  pub same_list : (zs : List B) (xs ys : List A)
      → Pairs (λ a b. a ≢ b) zs
      → SubList (map f xs) zs
      → SubList (map f ys) zs
      → Within xs ys
      → Within ys xs
      → xs ≡ ys
  same_list zs [] [] apart h k to from = refl
  same_list zs [] (y ∷ ys) apart h k to from = absurd (from y (inl refl))
  same_list zs (x ∷ xs) [] apart h k to from = absurd (to x (inl refl))
  same_list [] (x ∷ xs) (y ∷ ys) apart h k to from = absurd h
  same_list (z ∷ zs) (x ∷ xs) (y ∷ ys) apart h k to from =
      ⊎_elim (λ (p : (f x ≡ z) × SubList (map f xs) zs).
      ⊎_elim (λ (q : (f y ≡ z) × SubList (map f ys) zs).
      let same : x ≡ y = ⊎_elim (λ (e : x ≡ y). e)
      (λ (i : In x ys). absurd (without_front z zs x xs ys apart.0 p.0 q.1 i)) (to x (inl refl)) in
      (λ i.
      same i
      ∷ same_list zs xs ys apart.1 p.1 q.1
      (λ w j.
      ⊎_elim (λ (e : w ≡ y). absurd (without_front z zs w xs xs apart.0 (ap f e ∙ q.0) p.1 j)) (λ (l : In w ys). l)
      (to w (inr j)))
      (λ w j.
      ⊎_elim (λ (e : w ≡ x). absurd (without_front z zs w ys ys apart.0 (ap f e ∙ p.0) q.1 j)) (λ (l : In w xs). l)
      (from w (inr j)))
      i))
      (λ (q : SubList (map f (y ∷ ys)) zs). absurd (without_front z zs x xs (y ∷ ys) apart.0 p.0 q (to x (inl refl))))
      k)
      (λ (p : SubList (map f (x ∷ xs)) zs).
      ⊎_elim (λ (q : (f y ≡ z) × SubList (map f ys) zs).
      absurd (without_front z zs y ys (x ∷ xs) apart.0 q.0 p (from y (inl refl))))
      (λ (q : SubList (map f (y ∷ ys)) zs). same_list zs (x ∷ xs) (y ∷ ys) apart.1 p q to from) k)
      h

-- no two open subscriptions of a sound server have one name
subs_apart : (lines : List ShardWithJobs) (first : ℕ)
    → ((place : ℕ) (line : ShardWithJobs) → slice_get lines place ≡ Some line
    → (line.shard.shard ≡ suc (first + place)) × Pairs (λ j k. j ≢ k) (serials_of line.shard.subs))
    → Pairs (λ a b. a ≢ b) (open_subs lines)
subs_apart [] first h = tt
subs_apart (line ∷ lines) first h =
    pairs_append (λ a b. a ≢ b) (map (id_of line.shard.shard) (serials_of line.shard.subs)) (open_subs lines)
    (pairs_map (λ a b. a ≢ b) (id_of line.shard.shard) (serials_of line.shard.subs)
    (pairs_weaker (λ j k. j ≢ k) (λ j k. id_of line.shard.shard j ≢ id_of line.shard.shard k)
    (serials_of line.shard.subs) (λ j k i l apart e. apart (ap (λ (id : SubId). id.serial) e)) (h zero line refl).1))
    (subs_apart lines (suc first) (λ place l at. let p = h (suc place) l at in (p.0 ∙ shift first place, p.1)))
    (λ a b i j e.
    apart_lines a b i (later lines (suc first) b (λ place l at. (h (suc place) l at).0 ∙ shift first place) j) e)
  where
    shift : (m j : ℕ) → suc (m + suc j) ≡ suc (suc m + j)
    shift m j = omega arith

    -- those of later lines are of shards behind
    later : (ls : List ShardWithJobs) (from : ℕ) (b : SubId)
        → ((place : ℕ) (l : ShardWithJobs) → slice_get ls place ≡ Some l → l.shard.shard ≡ suc (from + place))
        → In b (open_subs ls)
        → (more : ℕ) × (b.shard ≡ suc (from + more))
    later [] from b k i = absurd i
    later (l ∷ ls) from b k i =
        ⊎_elim (λ j.
        let m = in_map (id_of l.shard.shard) (serials_of l.shard.subs) b j in
        (0, ap (λ (id : SubId). id.shard) m.2 ∙ k zero l refl))
        (λ j.
        let m = later ls (suc from) b (λ place x at. k (suc place) x at ∙ shift from place) j in
        (suc m.0, m.1 ∙ sym (shift from m.0)))
        (in_append b (map (id_of l.shard.shard) (serials_of l.shard.subs)) (open_subs ls) i)

    apart_lines : (a b : SubId)
        → In a (map (id_of line.shard.shard) (serials_of line.shard.subs))
        → (more : ℕ) × (b.shard ≡ suc (suc first + more))
        → a ≡ b
        → ⊥
    apart_lines a b i l e =
        let m = in_map (id_of line.shard.shard) (serials_of line.shard.subs) a i in
        let mine : a.shard ≡ suc (first + 0) = ap (λ (id : SubId). id.shard) m.2 ∙ (h zero line refl).0 in
        let theirs = l.1 in
        let same = ap (λ (id : SubId). id.shard) e in
        omega arith

pub placements_are_one : PlacementsAreOne
placements_are_one server now a after gained other sound g o =
    same_list sub_of_placement (open_subs a.lines) gained other
    (subs_apart a.lines 0
    (λ place line at. let l = sound.lines place line at in (l.number ∙ first place, l.sound.apart)))
    g.order o.order (within g o) (within o g)
  where
    first : (k : ℕ) → suc k ≡ suc (0 + k)
    first k = omega arith

    within : {xs ys : List Placement}
        → AreGained server now a.lines after xs
        → AreGained server now a.lines after ys
        → Each (λ p. In p ys) xs
    within {xs} {ys} h k p i =
        (in_filter (is_on p.conn) ys p
        (subst (In p) (h.outboxes p.conn ∙ sym (k.outboxes p.conn))
        (filter_in (is_on p.conn) xs p i (true_eq p.conn p.conn refl)))).0
