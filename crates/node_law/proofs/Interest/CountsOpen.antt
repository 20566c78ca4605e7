-- The hub's counts are the sum of what the shards have told, so no Collect is refused for its deltas.
use Rattle.std.proofs.Common.{◌≡◌, ℕ, zero, suc, ◌+◌, ◌/◌, Bool, true, false, true≢false, cond, not, nat_eq, nat_le, ◌||◌, List, [], ◌∷◌, ◌++◌, map, set, length, Option, Some, None, refl, sym, ap, ◌∙◌, subst, arith}
use Rattle.std.specs.Prelude.{slice_get, is_some, if◌then◌else◌}
use Rattle.std.specs.List.{list_any}
use Rattle.std.specs.Option.{option_or}
use Rattle.std.proofs.lemmas.Option.{none-some, same_Some}
use Rattle.std.proofs.lemmas.List.Sums.{sum_by-cons}
use Rattle.list_laws.specs.Lists.{Along}
use Rattle.list_laws.proofs.Tests.{no_cause, not_false, or_false, le_false, le_true}
use Rattle.list_laws.proofs.Changes.{map_map, map_same, map_append}
use Rattle.subj.specs.Keys.{cost_of}
use Rattle.subj.specs.declared.jobs.Job.{Job}
use Rattle.subj.specs.declared.keys.Key.{Key}
use Rattle.subj.specs.declared.limits.TheConstants.{SUBSCRIPTIONS, SUBSCRIPTION_BYTES, MAX_SERIAL}
use Rattle.sub_table.specs.Subscriptions.{has_serial, with_max, total_cost}
use Rattle.sub_table.specs.declared.Subscription.{Subscription}
use Rattle.interest.specs.Counts.{Counts, count_of, IsInterest}
use Rattle.interest.specs.Laws.{one_if_same}
use Rattle.client_frames.specs.Frames.{reply_line}
use Rattle.outbox.specs.Views.{with_entry, with_last, reply_entry}
use Rattle.shard_core.specs.declared.faults.ShardFault.TheVariants.{NoConn, Draining, TooManySubs, Spent as Used}
use Rattle.shard_core.specs.Shards.{State, is_open, clients_with_change}
use Rattle.shard_core.specs.Closings.{serials_of, left_of, without_subs}
use Rattle.shard_core.specs.Owed.{Walk, whole_walk, walk_with_entry, owed_entry, first_step, slow_consumer, after_walk, sub_with_count, candidate_of, after_claim, after_try, reaches}
use Rattle.shard_core.specs.ShardEvents.{Event, Attach, Subscribe, Unsubscribe, Reply, Shut, SetHeaders, Detach, Take, Begin, Claim, End, DropJob, Drain, Collect}
use Rattle.shard_core.specs.ShardSteps.{sub_called, is_full, new_sub, after_subscribe, ended_now, after_unsubscribe, answer_fits, done_with, shard_refusal, shard_after}
use Rattle.node_law.specs.State.{ShardWithJobs}
use Rattle.node_law.specs.Steps.{line_with_job}
use Rattle.node_law.specs.CountsOpen.{keys_of}
use Rattle.node_law.proofs.Interest.Replays.{total, total_append, size, cost, Fits, Replays, replays_more, replays_ended, Distinct, left_distinct, walked_distinct}

-- ---- one shard

-- from what the hub was told its deltas lead to what is open, within its share
pub record ShardTold (few small : ℕ) (ks : List Key) (s : State) : Type 0 where
  pub base : Fits few small ks
  pub fits : Fits few small (keys_of s.subs)
  pub replays : Replays few small ks s.deltas (keys_of s.subs)

-- a shard that has the same subscriptions, as far as their keys go, and the same deltas
same_told : (few small : ℕ) (ks : List Key) (s after : State)
    → keys_of after.subs ≡ keys_of s.subs
    → after.deltas ≡ s.deltas
    → ShardTold few small ks s
    → ShardTold few small ks after
same_told few small ks s after e d t = record {
  base = t.base;
  fits = subst (Fits few small) (sym e) t.fits;
  replays =
      subst (λ x. Replays few small ks x (keys_of after.subs)) (sym d)
      (subst (Replays few small ks s.deltas) (sym e) t.replays);
}

pub counted_keys : (given : List ℕ) (us : List Subscription) → keys_of (map (sub_with_count given) us) ≡ keys_of us
counted_keys given us =
    map_map (sub_with_count given) (λ (u : Subscription). u.key) us
    ∙ map_same (λ u. (sub_with_count given u).key) (λ (u : Subscription). u.key) us
    (λ u. go u (list_any (nat_eq u.serial) given))
  where
    go : (u : Subscription) (b : Bool) → (cond b (record u { delivered = u.delivered + 1 }) u).key ≡ u.key
    go u true = refl
    go u false = refl

pub max_keys : (serial : ℕ) (max : Option ℕ) (us : List Subscription) → keys_of (with_max serial max us) ≡ keys_of us
max_keys serial max [] = refl
max_keys serial max (u ∷ us) = go (has_serial serial u) (max_keys serial max us)
  where
    go : (b : Bool)
        → keys_of (with_max serial max us) ≡ keys_of us
        → keys_of (cond b (record u { max = max } ∷ us) (u ∷ with_max serial max us)) ≡ u.key ∷ keys_of us
    go true below = refl
    go false below = ap (λ t. u.key ∷ t) below

-- some subscriptions close
ended_told : (few small : ℕ) (ks : List Key) (s : State) (ended : List ℕ)
    → Distinct ended
    → ShardTold few small ks s
    → ShardTold few small ks (without_subs ended s)
ended_told few small ks s ended d t =
    let h = replays_ended few small ks s.deltas s.subs ended d t.fits t.replays in
    record { base = t.base; fits = h.1; replays = h.0 }

walk_told : (few small : ℕ) (ks : List Key) (s : State) (w : Walk)
    → Distinct w.ended
    → ShardTold few small ks s
    → ShardTold few small ks (after_walk s w)
walk_told few small ks s w d t =
    ended_told few small ks (record s { clients = w.clients; subs = map (sub_with_count (serials_of w.given)) s.subs })
    w.ended d (same_told few small ks s _ (counted_keys (serials_of w.given) s.subs) refl t)

pub size_of_keys : (us : List Subscription) → size (keys_of us) ≡ length us
size_of_keys [] = refl
size_of_keys (u ∷ us) = let h = size_of_keys us in omega arith

cost_of_keys : (us : List Subscription) → cost (keys_of us) ≡ total_cost us
cost_of_keys [] = refl
cost_of_keys (u ∷ us) =
    ap (λ n. cost_of u.key + n) (cost_of_keys us) ∙ sym (sum_by-cons (λ (v : Subscription). cost_of v.key) u us)

opened_told : (ks : List Key) (s : State) (u : Subscription)
    → is_full s u.key ≡ false
    → ShardTold (SUBSCRIPTIONS / s.shards) (SUBSCRIPTION_BYTES / s.shards) ks s
    → ShardTold (SUBSCRIPTIONS / s.shards) (SUBSCRIPTION_BYTES / s.shards) ks (after_subscribe s u None)
opened_told ks s u full t = by (SUBSCRIPTIONS / s.shards) (SUBSCRIPTION_BYTES / s.shards) full t
  where
    more : (f : Key → ℕ) → total f (keys_of (s.subs ++ u ∷ [])) ≡ f u.key + total f (keys_of s.subs)
    more f =
        let e = ap (total f) (map_append (λ (v : Subscription). v.key) s.subs (u ∷ []))
        ∙ total_append f (keys_of s.subs) (u.key ∷ []) in
        let z : total f (u.key ∷ []) ≡ f u.key + 0 = refl in
        omega arith

    by : (few small : ℕ)
        → (nat_le few (length s.subs) || not (nat_le (total_cost s.subs + cost_of u.key) small)) ≡ false
        → ShardTold few small ks s
        → ShardTold few small ks (after_subscribe s u None)
    by few small full t =
        let e = or_false (nat_le few (length s.subs)) (not (nat_le (total_cost s.subs + cost_of u.key) small)) full in
        let room = le_false few (length s.subs) e.0 in
        let bytes = le_true (total_cost s.subs + cost_of u.key) small
        (not_false (nat_le (total_cost s.subs + cost_of u.key) small) e.1) in
        let fits : Fits few small (keys_of (s.subs ++ u ∷ [])) = record {
          size = (let h = more (λ k. 1) in let g = size_of_keys s.subs in omega arith);
          cost = (let h = more cost_of in let g = cost_of_keys s.subs in omega arith);
        } in
        record {
          base = t.base;
          fits = fits;
          replays =
              replays_more few small ks s.deltas (keys_of s.subs) (record { key = u.key; up = true })
              (keys_of (s.subs ++ u ∷ [])) t.replays more fits;
        }

pub one_distinct : (k : ℕ) → Distinct (k ∷ [])
one_distinct k = ((λ j i. absurd i), tt)

abbrev pub is_collect : Event → Bool
is_collect Attach = false
is_collect (Subscribe conn key sid) = false
is_collect (Unsubscribe conn sid max) = false
is_collect (Reply conn frame) = false
is_collect (Shut conn text) = false
is_collect (Detach conn) = false
is_collect (SetHeaders conn on) = false
is_collect (Take conn count) = false
is_collect (Begin job) = false
is_collect (Claim index won) = false
is_collect End = false
is_collect (DropJob waiting) = false
is_collect Drain = false
is_collect Collect = true

done_told : (few small : ℕ) (ks : List Key) (s : State) (job : Option Job)
    → ShardTold few small ks s
    → ShardTold few small ks (done_with s job)
done_told few small ks s None t = t
done_told few small ks s (Some job) t = record { base = t.base; fits = t.fits; replays = t.replays }

pub shard_told : (ks : List Key) (s : State) (e : Event)
    → Distinct (serials_of s.subs)
    → shard_refusal s e ≡ None
    → is_collect e ≡ false
    → ShardTold (SUBSCRIPTIONS / s.shards) (SUBSCRIPTION_BYTES / s.shards) ks s
    → ShardTold (SUBSCRIPTIONS / s.shards) (SUBSCRIPTION_BYTES / s.shards) ks (shard_after s e)
shard_told ks s Attach apart cause told_not t = record { base = t.base; fits = t.fits; replays = t.replays }
shard_told ks s (Subscribe conn key sid) apart cause told_not t =
    go (sub_called conn sid s.subs)
    (no_cause s.draining Draining _ (no_cause (not (is_open conn s.clients)) NoConn _ cause).1).1
  where
    go : (o : Option Subscription)
        → (if is_some o then None
        else (if is_full s key then Some TooManySubs else (if nat_le MAX_SERIAL s.opened then Some Used else None)))
        ≡ None
        → ShardTold (SUBSCRIPTIONS / s.shards) (SUBSCRIPTION_BYTES / s.shards) ks
        (after_subscribe s (new_sub s conn key sid) o)
    go (Some u) f = t
    go None f = opened_told ks s (new_sub s conn key sid) (no_cause (is_full s key) TooManySubs _ f).0 t
shard_told ks s (Unsubscribe conn sid max) apart cause told_not t = go (sub_called conn sid s.subs)
  where
    few : ℕ
    few = SUBSCRIPTIONS / s.shards

    small : ℕ
    small = SUBSCRIPTION_BYTES / s.shards

    by : (u : Subscription) (b : Bool)
        → ShardTold (SUBSCRIPTIONS / s.shards) (SUBSCRIPTION_BYTES / s.shards) ks
        (cond b (without_subs (u.serial ∷ []) s) (record s { subs = with_max u.serial max s.subs }))
    by u true = ended_told few small ks s (u.serial ∷ []) (one_distinct u.serial) t
    by u false = same_told few small ks s _ (max_keys u.serial max s.subs) refl t

    go : (u : Option Subscription)
        → ShardTold (SUBSCRIPTIONS / s.shards) (SUBSCRIPTION_BYTES / s.shards) ks (after_unsubscribe s max u)
    go None = t
    go (Some u) = by u (ended_now max u)
shard_told ks s (Reply conn frame) apart cause told_not t = go (answer_fits s conn (reply_line frame))
  where
    go : (b : Bool)
        → ShardTold (SUBSCRIPTIONS / s.shards) (SUBSCRIPTION_BYTES / s.shards) ks
        (cond b
        (record s { clients = clients_with_change (with_entry (reply_entry (reply_line frame))) conn s.clients })
        (without_subs (left_of conn [] s.subs)
        (record s { clients = clients_with_change (with_last slow_consumer) conn s.clients })))
    go true = record { base = t.base; fits = t.fits; replays = t.replays }
    go false =
        ended_told _ _ ks (record s { clients = _ }) (left_of conn [] s.subs) (left_distinct conn [] s.subs apart)
        (record { base = t.base; fits = t.fits; replays = t.replays })
shard_told ks s (Shut conn text) apart cause told_not t =
    ended_told _ _ ks (record s { clients = _ }) (left_of conn [] s.subs) (left_distinct conn [] s.subs apart)
    (record { base = t.base; fits = t.fits; replays = t.replays })
shard_told ks s (Detach conn) apart cause told_not t =
    ended_told _ _ ks (record s { clients = _ }) (left_of conn [] s.subs) (left_distinct conn [] s.subs apart)
    (record { base = t.base; fits = t.fits; replays = t.replays })
shard_told ks s (SetHeaders conn on) apart cause told_not t = record {
  base = t.base;
  fits = t.fits;
  replays = t.replays;
}
shard_told ks s (Take conn count) apart cause told_not t = record { base = t.base; fits = t.fits; replays = t.replays }
shard_told ks s (Begin job) apart cause told_not t =
    walk_told _ _ ks (record s { hand = Some job; next_index = 0 }) (whole_walk s job) (walked_distinct s job apart)
    (record { base = t.base; fits = t.fits; replays = t.replays })
shard_told ks s (Claim index won) apart cause told_not t = go s.hand (candidate_of s s.hand index) won
  where
    ended : (u : Subscription) (b : Bool) → Distinct ([] ++ cond b (u.serial ∷ []) [])
    ended u true = one_distinct u.serial
    ended u false = tt

    go : (hand : Option Job) (u : Option Subscription) (b : Bool)
        → ShardTold (SUBSCRIPTIONS / s.shards) (SUBSCRIPTION_BYTES / s.shards) ks (after_claim s hand u b)
    go None u b = t
    go (Some job) None b = record { base = t.base; fits = t.fits; replays = t.replays }
    go (Some job) (Some u) false = record { base = t.base; fits = t.fits; replays = t.replays }
    go (Some job) (Some u) true =
        walk_told _ _ ks (after_try s)
        (walk_with_entry (owed_entry s.shard s.clients job u.key.queue u) u (first_step s.clients))
        (ended u (reaches u.max (u.delivered + 1))) (record { base = t.base; fits = t.fits; replays = t.replays })
shard_told ks s End apart cause told_not t = done_told _ _ ks s s.hand t
shard_told ks s (DropJob waiting) apart cause told_not t = done_told _ _ ks s (option_or s.hand waiting) t
shard_told ks s Drain apart cause told_not t = record { base = t.base; fits = t.fits; replays = t.replays }
shard_told ks s Collect apart cause told_not t = absurd (true≢false told_not)

-- ---- all lines

-- the keys that the hub was told, of each shard
abbrev pub flat : List (List Key) → List Key
flat [] = []
flat (b ∷ bs) = b ++ flat bs

pub along_read : {A B : Type 0} (R : A → B → Type 0) (xs : List A) (ys : List B)
    → Along R xs ys
    → (s : ℕ) (y : B)
    → slice_get ys s ≡ Some y
    → (x : A) × (slice_get xs s ≡ Some x) × R x y
along_read R [] [] a s y e = absurd (none-some y e)
along_read R [] (z ∷ ys) a s y e = absurd a
along_read R (x ∷ xs) [] a s y e = absurd a
along_read R (x ∷ xs) (z ∷ ys) a zero y e = (x, refl, subst (R x) (same_Some z y e) a.0)
along_read R (x ∷ xs) (z ∷ ys) a (suc s) y e = along_read R xs ys a.1 s y e

along_set : {A B : Type 0} (R : A → B → Type 0) (xs : List A) (ys : List B)
    → Along R xs ys
    → (s : ℕ) (x : A) (y : B)
    → slice_get xs s ≡ Some x
    → R x y
    → Along R xs (set ys s y)
along_set R [] [] a s x y e r = tt
along_set R [] (z ∷ ys) a s x y e r = absurd a
along_set R (w ∷ xs) [] a s x y e r = absurd a
along_set R (w ∷ xs) (z ∷ ys) a zero x y e r = (subst (λ t. R t y) (sym (same_Some w x e)) r, a.1)
along_set R (w ∷ xs) (z ∷ ys) a (suc s) x y e r = (a.0, along_set R xs ys a.1 s x y e r)

pub along_sets : {A B : Type 0} (R : A → B → Type 0) (xs : List A) (ys : List B) → Along R xs ys
    → (s : ℕ) (x : A) (y : B) → R x y → Along R (set xs s x) (set ys s y)
along_sets R [] [] a s x y r = tt
along_sets R [] (z ∷ ys) a s x y r = absurd a
along_sets R (w ∷ xs) [] a s x y r = absurd a
along_sets R (w ∷ xs) (z ∷ ys) a zero x y r = (r, a.1)
along_sets R (w ∷ xs) (z ∷ ys) a (suc s) x y r = (a.0, along_sets R xs ys a.1 s x y r)

abbrev pub LineTold : ℕ → ℕ → List Key → ShardWithJobs → Type 0
LineTold few small ks line = ShardTold few small ks line.shard

pub record Told (shards few small : ℕ) (counts : Counts) (lines : List ShardWithJobs) : Type 0 where
  pub bases : List (List Key)
  pub size : length bases ≡ shards
  pub each : Along (LineTold few small) bases lines
  pub within : IsInterest counts
  pub weights : (key : Key) → count_of counts key ≡ total (one_if_same key) (flat bases)

pub at_told : (shards few small : ℕ) (counts : Counts) (lines : List ShardWithJobs) (place : ℕ)
    (line after : ShardWithJobs)
    → slice_get lines place ≡ Some line
    → ((ks : List Key) → LineTold few small ks line → LineTold few small ks after)
    → Told shards few small counts lines
    → Told shards few small counts (set lines place after)
at_told shards few small counts lines place line after at step t =
    let b = along_read (LineTold few small) t.bases lines t.each place line at in
    record {
      bases = t.bases;
      size = t.size;
      each = along_set (LineTold few small) t.bases lines t.each place b.0 after b.1 (step b.0 b.2);
      within = t.within;
      weights = t.weights;
    }

pub queue_told : (shards few small : ℕ) (counts : Counts) (job : Job) (lines : List ShardWithJobs)
    → Told shards few small counts lines
    → Told shards few small counts (map (line_with_job job) lines)
queue_told shards few small counts job lines t = record {
  bases = t.bases;
  size = t.size;
  each = go t.bases lines t.each;
  within = t.within;
  weights = t.weights;
}
  where
    go : (bs : List (List Key)) (ls : List ShardWithJobs)
        → Along (LineTold few small) bs ls
        → Along (LineTold few small) bs (map (line_with_job job) ls)
    go [] [] a = tt
    go [] (l ∷ ls) a = absurd a
    go (b ∷ bs) [] a = absurd a
    go (b ∷ bs) (l ∷ ls) a = (a.0, go bs ls a.1)
