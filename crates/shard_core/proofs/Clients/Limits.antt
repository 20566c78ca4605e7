-- What holds of each connection whatever waits for it: its limits, and that its number is of its shard.
use Rattle.std.proofs.Common.{◌≡◌, ◌++◌, ℕ, ◌+◌, ◌-◌, ◌%◌, ◌*◌, ◌<◌, ◌≤◌, arith, ap, ◌∙◌, ⊎_elim, Bool, true, false, cond, not, List, [], ◌∷◌, Option, Some, None, Result, Ok, Err, refl, sym, subst, inl, inr}
use Rattle.std.specs.Prelude.{filter}
use Rattle.std.specs.Option.{option_or}
use Rattle.list_laws.specs.Lists.{In, Each, Pairs}
use Rattle.list_laws.proofs.Lists.{each_cons, each_one, each_append, pairs_append}
use Rattle.list_laws.proofs.Changes.{in_filter, pairs_filter}
use Rattle.client_frames.specs.ErrTexts.{err_line}
use Rattle.client_frames.specs.Frames.{reply_line}
use Rattle.outbox.specs.Views.{Backlog, with_entry, with_last, without_first, reply_entry}
use Rattle.sub_table.specs.declared.Subscription.{Subscription}
use Rattle.subj.specs.declared.jobs.Job.{Job}
use Rattle.shard_core.specs.declared.faults.ShardFault.{ShardFault}
use Rattle.shard_core.specs.Shards.{State, Client, new_shard, has_number, client_at, is_open, with_outbox, with_headers, clients_with_change, clients_with_headers, without_client, fits}
use Rattle.shard_core.specs.Owed.{Walk, walk, is_due, first_step, walk_after_put, walk_with_entry, walk_with_shut, owed_entry, slow_consumer, candidate_of, after_claim}
use Rattle.shard_core.specs.ShardEvents.{Event, Attach, Subscribe, Unsubscribe, Reply, SetHeaders, Shut, Detach, Take, Begin, Claim, End, DropJob, Drain, Collect, Answer}
use Rattle.shard_core.specs.ShardSteps.{sub_called, new_client, new_sub, after_subscribe, ended_now, after_unsubscribe, answer_fits, done_with, shard_after, IsStep}
use Rattle.shard_core.specs.Limits.{HasLimits, LimitsStay}
use Rattle.shard_core.specs.Causes.{IsOwn, HasOwnNumbers, NumbersTellShards}
use Rattle.shard_core.proofs.Closings.Fixed.{fixed}
use Rattle.std.proofs.Math.Nat.{add-mod_right}
use Rattle.std.proofs.lemmas.Nat.{mod-mul-add}

-- what does not depend on what waits, of each connection
changed_each : (P : Client → Type 0)
    → ((change : Backlog → Backlog) (x : Client) → P x → P (with_outbox change x))
    → (change : Backlog → Backlog) (k : ℕ) (xs : List Client)
    → Each P xs
    → Each P (clients_with_change change k xs)
changed_each P stays change k [] h = h
changed_each P stays change k (x ∷ xs) h = go (changed_each P stays change k xs (λ y i. h y (inr i))) (has_number k x)
  where
    here : P (with_outbox change x)
    here = stays change x (h x (inl refl))

    go : Each P (clients_with_change change k xs)
        → (b : Bool)
        → Each P (cond b (with_outbox change x ∷ xs) (x ∷ clients_with_change change k xs))
    go below true = each_cons P (with_outbox change x) xs here (λ y i. h y (inr i))
    go below false = each_cons P x (clients_with_change change k xs) (h x (inl refl)) below

chosen_each : (P : Client → Type 0) (on : Bool)
    → ((x : Client) → P x → P (with_headers on x))
    → (k : ℕ) (xs : List Client)
    → Each P xs
    → Each P (clients_with_headers on k xs)
chosen_each P on stays k [] h = h
chosen_each P on stays k (x ∷ xs) h = go (chosen_each P on stays k xs (λ y i. h y (inr i))) (has_number k x)
  where
    go : Each P (clients_with_headers on k xs)
        → (b : Bool)
        → Each P (cond b (with_headers on x ∷ xs) (x ∷ clients_with_headers on k xs))
    go below true = each_cons P (with_headers on x) xs (stays x (h x (inl refl))) (λ y i. h y (inr i))
    go below false = each_cons P x (clients_with_headers on k xs) (h x (inl refl)) below

detached_each : (P : Client → Type 0) (k : ℕ) (xs : List Client) → Each P xs → Each P (without_client k xs)
detached_each P k xs h = λ y i. h y (in_filter (λ client. not (has_number k client)) xs y i).0

-- and what also holds of fewer connections
module _ (Q : List Client → Type 0)
    (changes : (change : Backlog → Backlog) (k : ℕ) (xs : List Client) → Q xs
    → Q (clients_with_change change k xs)) where
  put_has : (s : State) (job : Job) (w : Walk) (u : Subscription) → Q w.clients → Q (walk_after_put s job w u).clients
  put_has s job w u h =
      go (is_open u.conn w.clients) (fits (client_at u.conn w.clients) (owed_entry s.shard s.clients job None u))
    where
      go : (o r : Bool)
          → Q (cond o
          (cond r (walk_with_entry (owed_entry s.shard s.clients job None u) u w) (walk_with_shut s.subs u.conn w))
          w).clients
      go true true = changes (with_entry (owed_entry s.shard s.clients job None u)) u.conn w.clients h
      go true false = changes (with_last slow_consumer) u.conn w.clients h
      go false r = h

  walk_has : (s : State) (job : Job) (due : List Subscription) (w : Walk) → Q w.clients → Q (walk s job due w).clients
  walk_has s job [] w h = h
  walk_has s job (u ∷ due) w h = walk_has s job due (walk_after_put s job w u) (put_has s job w u h)

  either : (x y : State) (b : Bool) → Q x.clients → Q y.clients → Q (cond b x y).clients
  either x y true f g = f
  either x y false f g = g

  pub keeps : (s : State) (e : Event)
      → (e ≡ Attach → Q (s.clients ++ new_client s.next_conn ∷ []))
      → ((k : ℕ) → e ≡ Detach k → Q s.clients → Q (without_client k s.clients))
      → ((k : ℕ) (on : Bool) → e ≡ SetHeaders k on → Q s.clients → Q (clients_with_headers on k s.clients))
      → Q s.clients
      → Q (shard_after s e).clients
  keeps s Attach new detaches chooses h = new refl
  keeps s (Subscribe conn key sid) new detaches chooses h = go (sub_called conn sid s.subs)
    where
      go : (u : Option Subscription) → Q (after_subscribe s (new_sub s conn key sid) u).clients
      go None = h
      go (Some u) = h
  keeps s (Unsubscribe conn sid max) new detaches chooses h = go (sub_called conn sid s.subs)
    where
      go : (u : Option Subscription) → Q (after_unsubscribe s max u).clients
      go None = h
      go (Some u) = either _ _ (ended_now max u) h h
  keeps s (Reply conn frame) new detaches chooses h =
      either _ _ (answer_fits s conn (reply_line frame))
      (changes (with_entry (reply_entry (reply_line frame))) conn s.clients h)
      (changes (with_last slow_consumer) conn s.clients h)
  keeps s (SetHeaders conn on) new detaches chooses h = chooses conn on refl h
  keeps s (Shut conn text) new detaches chooses h = changes (with_last (err_line text)) conn s.clients h
  keeps s (Detach conn) new detaches chooses h = detaches conn refl h
  keeps s (Take conn count) new detaches chooses h = changes (without_first count) conn s.clients h
  keeps s (Begin job) new detaches chooses h = walk_has s job (filter (is_due job) s.subs) (first_step s.clients) h
  keeps s (Claim index won) new detaches chooses h = go s.hand (candidate_of s s.hand index) won
    where
      go : (hand : Option Job) (u : Option Subscription) (b : Bool) → Q (after_claim s hand u b).clients
      go None u b = h
      go (Some job) None b = h
      go (Some job) (Some u) true =
          changes (with_entry (owed_entry s.shard s.clients job u.key.queue u)) u.conn s.clients h
      go (Some job) (Some u) false = h
  keeps s End new detaches chooses h = go s.hand
    where
      go : (hand : Option Job) → Q (done_with s hand).clients
      go None = h
      go (Some job) = h
  keeps s (DropJob waiting) new detaches chooses h = go (option_or s.hand waiting)
    where
      go : (hand : Option Job) → Q (done_with s hand).clients
      go None = h
      go (Some job) = h
  keeps s Drain new detaches chooses h = h
  keeps s Collect new detaches chooses h = h

keeps_each : (P : Client → Type 0)
    → ((change : Backlog → Backlog) (x : Client) → P x → P (with_outbox change x))
    → ((on : Bool) (x : Client) → P x → P (with_headers on x))
    → (s : State) (e : Event)
    → (e ≡ Attach → P (new_client s.next_conn))
    → Each P s.clients
    → Each P (shard_after s e).clients
keeps_each P stays chooses s e new h =
    keeps (Each P) (changed_each P stays) s e
    (λ is. each_append P s.clients (new_client s.next_conn ∷ []) h (each_one P (new_client s.next_conn) (new is)))
    (λ k is x. detached_each P k s.clients x) (λ k on is x. chosen_each P on (chooses on) k s.clients x) h

pub limits_kept : (s : State) (e : Event) → Each HasLimits s.clients → Each HasLimits (shard_after s e).clients
limits_kept s e h =
    keeps_each HasLimits (λ change x l. record { entries = l.entries; bytes = l.bytes })
    (λ on x l. record { entries = l.entries; bytes = l.bytes }) s e (λ is. record { entries = refl; bytes = refl }) h

pub limits_stay : LimitsStay
limits_stay = record {
  start = λ shard shards x i. absurd i;
  step = by;
}
  where
    by : (old : State) (event : Event) (outcome : Result Answer ShardFault) (new : State)
        → IsStep old event outcome new
        → Each HasLimits old.clients
        → Each HasLimits new.clients
    by old event (Ok answer) new step h =
        subst (λ (s : State). Each HasLimits s.clients) (sym step.after) (limits_kept old event h)
    by old event (Err why) new step h = subst (λ (s : State). Each HasLimits s.clients) (sym step.same) h

-- ---- numbers

later_own : (s : State) → IsOwn s s.next_conn → IsOwn s (s.next_conn + s.shards)
later_own s own =
    let some = own.some in
    record {
      some = omega arith;
      place =
          ap (λ n. n % s.shards) (before s.next_conn s.shards own.some)
          ∙ add-mod_right (s.next_conn - 1) s.shards
          ∙ own.place;
    }
  where
    before : (n k : ℕ) → 1 ≤ n → (n + k) - 1 ≡ (n - 1) + k
    before n k le = omega arith

own_as : (s t : State) → t.shard ≡ s.shard → t.shards ≡ s.shards → (n : ℕ) → IsOwn s n → IsOwn t n
own_as s t shard shards n own = record {
  some = own.some;
  place = ap (λ k. (n - 1) % k) shards ∙ own.place ∙ ap (λ k. k - 1) (sym shard);
}

pub first_numbers : (shard shards : ℕ) → 1 ≤ shard → shard ≤ shards → HasOwnNumbers (new_shard shard shards)
first_numbers shard shards some few = record {
  shards = omega arith;
  next = record { some = some; place = below (shard - 1) shards (omega arith) };
  all = λ x i. absurd i;
  rising = tt;
  below = λ x i. absurd i;
}
  where
    below : (n k : ℕ) → n < k → n % k ≡ n
    below n k lt = sym (ap (λ m. m % k) (none n k)) ∙ mod-mul-add 0 k n lt
      where
        none : (n k : ℕ) → 0 * k + n ≡ n
        none n k = omega arith

-- the numbers in order of attaching

abbrev Rise : Client → Client → Type 0
Rise older newer = older.number < newer.number

-- a connection keeps its number, whatever waits for it
in_changed : (change : Backlog → Backlog) (k : ℕ) (xs : List Client) (y : Client)
    → In y (clients_with_change change k xs)
    → (x : Client) × In x xs × (y.number ≡ x.number)
in_changed change k xs y i =
    changed_each (λ z. (x : Client) × In x xs × (z.number ≡ x.number)) (λ change z h. h) change k xs
    (λ x j. (x, j, refl)) y i

changed_rise : (change : Backlog → Backlog) (k : ℕ) (xs : List Client)
    → Pairs Rise xs
    → Pairs Rise (clients_with_change change k xs)
changed_rise change k [] h = h
changed_rise change k (x ∷ xs) h = go (changed_rise change k xs h.1) (has_number k x)
  where
    go : Pairs Rise (clients_with_change change k xs)
        → (b : Bool)
        → Pairs Rise (cond b (with_outbox change x ∷ xs) (x ∷ clients_with_change change k xs))
    go below true = ((λ y i. h.0 y i), h.1)
    go below false = (
      (λ y i.
          let was = in_changed change k xs y i in
          let lt : x.number < was.0.number = h.0 was.0 was.1 in
          let same : y.number ≡ was.0.number = was.2 in
          omega arith),
      below,
    )

chosen_rise : (on : Bool) (k : ℕ) (xs : List Client) → Pairs Rise xs → Pairs Rise (clients_with_headers on k xs)
chosen_rise on k [] h = h
chosen_rise on k (x ∷ xs) h = go (chosen_rise on k xs h.1) (has_number k x)
  where
    above : (y : Client) → In y (clients_with_headers on k xs) → Rise x y
    above = chosen_each (Rise x) on (λ z lt. lt) k xs h.0

    go : Pairs Rise (clients_with_headers on k xs)
        → (b : Bool)
        → Pairs Rise (cond b (with_headers on x ∷ xs) (x ∷ clients_with_headers on k xs))
    go below true = ((λ y i. h.0 y i), h.1)
    go below false = (above, below)

rising_kept : (s : State) (e : Event)
    → Each (λ client. client.number < s.next_conn) s.clients
    → Pairs Rise s.clients
    → Pairs Rise (shard_after s e).clients
rising_kept s e below h =
    keeps (Pairs Rise) changed_rise s e
    (λ is.
    pairs_append Rise s.clients (new_client s.next_conn ∷ []) h ((λ y i. absurd i), tt)
    (λ x y i j. each_one (λ (z : Client). x.number < z.number) (new_client s.next_conn) (below x i) y j))
    (λ k is p. pairs_filter Rise (λ client. not (has_number k client)) s.clients p)
    (λ k on is p. chosen_rise on k s.clients p) h

-- numbers go on
next_above : (s : State) (e : Event) → s.next_conn ≤ (shard_after s e).next_conn
next_above s e =
    ⊎_elim (λ (g : (shard_after s e).next_conn ≡ s.next_conn). omega arith)
    (λ (g : (shard_after s e).next_conn ≡ s.next_conn + s.shards). omega arith) (fixed s e).next

below_kept : (s : State) (e : Event)
    → 1 ≤ s.shards
    → Each (λ client. client.number < s.next_conn) s.clients
    → Each (λ client. client.number < (shard_after s e).next_conn) (shard_after s e).clients
below_kept s e some h =
    keeps_each (λ (client : Client). client.number < (shard_after s e).next_conn) (λ change x lt. lt) (λ on x lt. lt) s
    e (λ is. subst (λ (f : Event). s.next_conn < (shard_after s f).next_conn) (sym is) (attached_above s some))
    (λ x i. let lt : x.number < s.next_conn = h x i in let le = next_above s e in omega arith)
  where
    attached_above : (s : State) → 1 ≤ s.shards → s.next_conn < s.next_conn + s.shards
    attached_above s some = omega arith

pub numbers_kept : (s : State) (e : Event) → HasOwnNumbers s → HasOwnNumbers (shard_after s e)
numbers_kept s e h =
    let f = fixed s e in
    record {
      shards = subst (λ k. 1 ≤ k) (sym f.shards) h.shards;
      next =
          own_as s (shard_after s e) f.shard f.shards (shard_after s e).next_conn
          (⊎_elim (λ (g : (shard_after s e).next_conn ≡ s.next_conn). subst (IsOwn s) (sym g) h.next)
          (λ (g : (shard_after s e).next_conn ≡ s.next_conn + s.shards). subst (IsOwn s) (sym g) (later_own s h.next))
          f.next);
      all = λ x i.
          own_as s (shard_after s e) f.shard f.shards x.number
          (keeps_each (λ (c : Client). IsOwn s c.number) (λ change c own. own) (λ on c own. own) s e (λ is. h.next)
          h.all x i);
      rising = rising_kept s e h.below h.rising;
      below = below_kept s e h.shards h.below;
    }

pub numbers_tell_shards : NumbersTellShards
numbers_tell_shards = record { start = first_numbers; step = by }
  where
    by : (old : State) (event : Event) (outcome : Result Answer ShardFault) (new : State)
        → IsStep old event outcome new
        → HasOwnNumbers old
        → HasOwnNumbers new
    by old event (Ok answer) new step h = subst HasOwnNumbers (sym step.after) (numbers_kept old event h)
    by old event (Err why) new step h = subst HasOwnNumbers (sym step.same) h
