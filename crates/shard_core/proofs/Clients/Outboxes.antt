-- What waits for each connection after an event.
use Rattle.std.proofs.Common.{◌≡◌, ◌≢◌, ◌⊎◌, ℕ, zero, suc, Bool, true, false, true≢false, cond, nat_eq, not, ◌||◌, List, [], ◌∷◌, ◌++◌, map, drop, Option, Some, None, is_some, refl, sym, ap, ◌∙◌, subst, inl, inr, ⊎_elim}
use Rattle.std.specs.Prelude.{filter, slice_get}
use Rattle.std.specs.List.{list_any}
use Rattle.std.specs.Option.{option_map, option_or}
use Rattle.std.proofs.lemmas.Option.{none-some}
use Rattle.list_laws.proofs.Tests.{eq_true, eq_false, true_eq, false_eq, no_end}
use Rattle.list_laws.proofs.Changes.{append_nil, append_assoc, map_append, filter_append}
use Rattle.client_frames.specs.ErrTexts.{err_line}
use Rattle.client_frames.specs.Frames.{reply_line}
use Rattle.outbox.specs.Views.{Written, Backlog, with_entry, with_last, without_first, reply_entry}
use Rattle.sub_table.specs.declared.Subscription.{Subscription}
use Rattle.subj.specs.declared.jobs.Job.{Job}
use Rattle.shard_core.specs.declared.calls.Placed.{Placed}
use Rattle.shard_core.specs.declared.faults.ShardFault.{ShardFault}
use Rattle.shard_core.specs.Shards.{State, Client, has_number, client_at, takes_events, is_open, takes_headers, with_outbox, with_headers, clients_with_change, clients_with_headers, without_client, fits, entries_of, waits_for}
use Rattle.shard_core.specs.Owed.{Walk, walk, whole_walk, is_due, first_step, walk_after_put, walk_with_entry, walk_with_shut, owed_entry, owed_placed, slow_consumer, candidate_of, candidate_named, after_claim}
use Rattle.shard_core.specs.ShardEvents.{Event, Attach, Subscribe, Unsubscribe, Reply, SetHeaders, Shut, Detach, Take, Begin, Claim, End, DropJob, Drain, Collect}
use Rattle.shard_core.specs.ShardSteps.{sub_called, new_client, new_sub, after_subscribe, ended_now, after_unsubscribe, answer_fits, was_shut, done_with, shard_refusal, shard_after}
use Rattle.shard_core.specs.Puts.{put_line, put_by, put_by_claim, entries_for, kept_of, ArePut}
use Rattle.shard_core.proofs.Steps.LawEvents.{candidate_is}

-- ---- one connection changes

pub changed_here : (change : Backlog → Backlog) (k : ℕ) (xs : List Client)
    → client_at k (clients_with_change change k xs) ≡ option_map (with_outbox change) (client_at k xs)
changed_here change k [] = refl
changed_here change k (x ∷ xs) = go (changed_here change k xs) (has_number k x) refl
  where
    go : client_at k (clients_with_change change k xs) ≡ option_map (with_outbox change) (client_at k xs)
        → (b : Bool)
        → has_number k x ≡ b
        → client_at k (cond b (with_outbox change x ∷ xs) (x ∷ clients_with_change change k xs))
        ≡ option_map (with_outbox change) (cond b (Some x) (client_at k xs))
    go below true e = ap (λ t. cond t (Some (with_outbox change x)) (client_at k xs)) e
    go below false e = ap (λ t. cond t (Some x) (client_at k (clients_with_change change k xs))) e ∙ below

pub changed_there : (change : Backlog → Backlog) (k j : ℕ) (xs : List Client)
    → k ≢ j
    → client_at k (clients_with_change change j xs) ≡ client_at k xs
changed_there change k j [] apart = refl
changed_there change k j (x ∷ xs) apart = go (changed_there change k j xs apart) (has_number j x) refl
  where
    go : client_at k (clients_with_change change j xs) ≡ client_at k xs
        → (b : Bool)
        → has_number j x ≡ b
        → client_at k (cond b (with_outbox change x ∷ xs) (x ∷ clients_with_change change j xs)) ≡ client_at k (x ∷ xs)
    go below true e =
        let no : nat_eq x.number k ≡ false = false_eq x.number k (λ g. apart (sym g ∙ eq_true x.number j e)) in
        ap (λ t. cond t (Some (with_outbox change x)) (client_at k xs)) no
        ∙ sym (ap (λ t. cond t (Some x) (client_at k xs)) no)
    go below false e = ap (λ t. cond (nat_eq x.number k) (Some x) t) below

pub gone : (j : ℕ) (ys : List Client) → client_at j (without_client j ys) ≡ None
gone j [] = refl
gone j (y ∷ ys) = by (gone j ys) (nat_eq y.number j) refl
  where
    by : client_at j (without_client j ys) ≡ None
        → (b : Bool)
        → nat_eq y.number j ≡ b
        → client_at j (cond (not b) (y ∷ without_client j ys) (without_client j ys)) ≡ None
    by below true e = below
    by below false e = ap (λ t. cond t (Some y) (client_at j (without_client j ys))) e ∙ below

pub stays : (k j : ℕ) → k ≢ j → (ys : List Client) → client_at k (without_client j ys) ≡ client_at k ys
stays k j apart [] = refl
stays k j apart (y ∷ ys) = by (stays k j apart ys) (nat_eq y.number j) refl
  where
    by : client_at k (without_client j ys) ≡ client_at k ys
        → (b : Bool)
        → nat_eq y.number j ≡ b
        → client_at k (cond (not b) (y ∷ without_client j ys) (without_client j ys)) ≡ client_at k (y ∷ ys)
    by below true e =
        below
        ∙ sym
        (ap (λ t. cond t (Some y) (client_at k ys)) (false_eq y.number k (λ g. apart (sym g ∙ eq_true y.number j e))))
    by below false e = ap (λ t. cond (nat_eq y.number k) (Some y) t) below

attached_at : (k j : ℕ) (xs : List Client) → waits_for k (xs ++ new_client j ∷ []) ≡ waits_for k xs
attached_at k j [] = go (nat_eq j k)
  where
    go : (b : Bool) → entries_of (cond b (Some (new_client j)) None) ≡ []
    go true = refl
    go false = refl
attached_at k j (x ∷ xs) = go (attached_at k j xs) (nat_eq x.number k)
  where
    go : waits_for k (xs ++ new_client j ∷ []) ≡ waits_for k xs
        → (b : Bool)
        → entries_of (cond b (Some x) (client_at k (xs ++ new_client j ∷ [])))
        ≡ entries_of (cond b (Some x) (client_at k xs))
    go below true = refl
    go below false = below

-- what does not depend on the option
pub chosen_same : {A : Type 0} (see : Option Client → A)
    → ((on : Bool) (x : Client) → see (Some (with_headers on x)) ≡ see (Some x))
    → (on : Bool) (k j : ℕ) (xs : List Client)
    → see (client_at k (clients_with_headers on j xs)) ≡ see (client_at k xs)
chosen_same see same on k j [] = refl
chosen_same see same on k j (x ∷ xs) = by (has_number j x) (chosen_same see same on k j xs)
  where
    changed : (d : Bool)
        → see (cond d (Some (with_headers on x)) (client_at k xs)) ≡ see (cond d (Some x) (client_at k xs))
    changed true = same on x
    changed false = refl

    left : see (client_at k (clients_with_headers on j xs)) ≡ see (client_at k xs)
        → (d : Bool)
        → see (cond d (Some x) (client_at k (clients_with_headers on j xs))) ≡ see (cond d (Some x) (client_at k xs))
    left below true = refl
    left below false = below

    by : (b : Bool)
        → see (client_at k (clients_with_headers on j xs)) ≡ see (client_at k xs)
        → see (client_at k (cond b (with_headers on x ∷ xs) (x ∷ clients_with_headers on j xs)))
        ≡ see (client_at k (x ∷ xs))
    by true below = changed (has_number k x)
    by false below = left below (has_number k x)

-- ---- what is put for one connection

pub entries_append : (k : ℕ) (xs ys : List Placed) → entries_for k (xs ++ ys) ≡ entries_for k xs ++ entries_for k ys
entries_append k xs ys =
    ap (map (λ (put : Placed). put.entry)) (filter_append (λ (put : Placed). nat_eq put.conn k) xs ys)
    ∙ map_append (λ (put : Placed). put.entry) (filter (λ (put : Placed). nat_eq put.conn k) xs)
    (filter (λ (put : Placed). nat_eq put.conn k) ys)

pub entries_here : (k : ℕ) (headers : Bool) (entry : Written)
    → entries_for k (record { conn = k; entry = entry; headers = headers } ∷ []) ≡ entry ∷ []
entries_here k headers entry =
    ap (λ t. map (λ (put : Placed). put.entry) (cond t (record { conn = k; entry = entry; headers = headers } ∷ []) []))
    (true_eq k k refl)

pub entries_there : (k j : ℕ) (headers : Bool) (entry : Written)
    → k ≢ j
    → entries_for k (record { conn = j; entry = entry; headers = headers } ∷ []) ≡ []
entries_there k j headers entry apart =
    ap (λ t. map (λ (put : Placed). put.entry) (cond t (record { conn = j; entry = entry; headers = headers } ∷ []) []))
    (false_eq j k (λ e. apart (sym e)))

pub open_there : (k : ℕ) (xs : List Client) → is_open k xs ≡ true → is_some (client_at k xs) ≡ true
open_there k xs e = go (client_at k xs) e
  where
    go : (x : Option Client) → takes_events x ≡ true → is_some x ≡ true
    go None e = absurd (true≢false (sym e))
    go (Some x) e = refl

pub fits_there : (k : ℕ) (xs : List Client) (entry : Written)
    → fits (client_at k xs) entry ≡ true
    → is_some (client_at k xs) ≡ true
fits_there k xs entry e = go (client_at k xs) e
  where
    go : (x : Option Client) → fits x entry ≡ true → is_some x ≡ true
    go None e = absurd (true≢false (sym e))
    go (Some x) e = refl

-- an entry is put behind all that waits for connection j
put_at : (change : Backlog → Backlog) (headers : Bool) (entry : Written)
    → ((backlog : Backlog) → (change backlog).entries ≡ backlog.entries ++ entry ∷ [])
    → (j : ℕ) (xs : List Client)
    → is_some (client_at j xs) ≡ true
    → (k : ℕ)
    → waits_for k (clients_with_change change j xs)
    ≡ waits_for k xs ++ entries_for k (record { conn = j; entry = entry; headers = headers } ∷ [])
put_at change headers entry puts j xs there k = go (nat_eq k j) refl
  where
    by : (x : Option Client)
        → is_some x ≡ true
        → entries_of (option_map (with_outbox change) x) ≡ entries_of x ++ entry ∷ []
    by None e = absurd (true≢false (sym e))
    by (Some x) e = puts x.outbox

    here : waits_for j (clients_with_change change j xs)
        ≡ waits_for j xs ++ entries_for j (record { conn = j; entry = entry; headers = headers } ∷ [])
    here =
        ap entries_of (changed_here change j xs)
        ∙ by (client_at j xs) there
        ∙ sym (ap (λ t. waits_for j xs ++ t) (entries_here j headers entry))

    go : (b : Bool)
        → nat_eq k j ≡ b
        → waits_for k (clients_with_change change j xs)
        ≡ waits_for k xs ++ entries_for k (record { conn = j; entry = entry; headers = headers } ∷ [])
    go true e =
        subst (λ m.
        waits_for m (clients_with_change change j xs)
        ≡ waits_for m xs ++ entries_for m (record { conn = j; entry = entry; headers = headers } ∷ []))
        (sym (eq_true k j e)) here
    go false e =
        ap entries_of (changed_there change k j xs (eq_false k j e))
        ∙ sym (append_nil (waits_for k xs))
        ∙ sym (ap (λ t. waits_for k xs ++ t) (entries_there k j headers entry (eq_false k j e)))

-- whether a connection takes events after a change
pub stays_open : (entry : Written) (k j : ℕ) (xs : List Client)
    → is_open k (clients_with_change (with_entry entry) j xs) ≡ is_open k xs
stays_open entry k j xs = go (nat_eq k j) refl
  where
    by : (x : Option Client) → takes_events (option_map (with_outbox (with_entry entry)) x) ≡ takes_events x
    by None = refl
    by (Some x) = refl

    go : (b : Bool) → nat_eq k j ≡ b → is_open k (clients_with_change (with_entry entry) j xs) ≡ is_open k xs
    go true e =
        subst (λ m. is_open m (clients_with_change (with_entry entry) j xs) ≡ is_open m xs) (sym (eq_true k j e))
        (ap takes_events (changed_here (with_entry entry) j xs) ∙ by (client_at j xs))
    go false e = ap takes_events (changed_there (with_entry entry) k j xs (eq_false k j e))

pub shuts : (line : List ℕ) (j : ℕ) (xs : List Client) → is_open j (clients_with_change (with_last line) j xs) ≡ false
shuts line j xs = ap takes_events (changed_here (with_last line) j xs) ∙ by (client_at j xs)
  where
    by : (x : Option Client) → takes_events (option_map (with_outbox (with_last line)) x) ≡ false
    by None = refl
    by (Some x) = refl

pub stays_shut : (line : List ℕ) (k j : ℕ) (xs : List Client)
    → is_open k xs ≡ false
    → is_open k (clients_with_change (with_last line) j xs) ≡ false
stays_shut line k j xs was = go (nat_eq k j) refl
  where
    go : (b : Bool) → nat_eq k j ≡ b → is_open k (clients_with_change (with_last line) j xs) ≡ false
    go true e =
        subst (λ m. is_open m (clients_with_change (with_last line) j xs) ≡ false) (sym (eq_true k j e))
        (shuts line j xs)
    go false e = ap takes_events (changed_there (with_last line) k j xs (eq_false k j e)) ∙ was

-- ---- the walk of Begin

-- what the walk has put for connection k so far; a connection that it shut takes no more
pub record HasPut (s : State) (job : Job) (k : ℕ) (w : Walk) : Type 0 where
  pub is : waits_for k w.clients
      ≡ waits_for k s.clients
      ++ (entries_for k (map (owed_placed s.shard s.clients job None) w.given)
      ++ entries_for k (map (put_line slow_consumer) w.shut))
  pub closed : list_any (nat_eq k) w.shut ≡ true → is_open k w.clients ≡ false

-- a connection that was not shut got no last line
no_line : (k : ℕ) (shut : List ℕ)
    → list_any (nat_eq k) shut ≡ false
    → entries_for k (map (put_line slow_consumer) shut) ≡ []
no_line k [] e = refl
no_line k (j ∷ shut) e = go (nat_eq k j) refl (no_line k shut)
  where
    go : (b : Bool)
        → nat_eq k j ≡ b
        → (list_any (nat_eq k) shut ≡ false → entries_for k (map (put_line slow_consumer) shut) ≡ [])
        → entries_for k (map (put_line slow_consumer) (j ∷ shut)) ≡ []
    go true f below = absurd (true≢false (sym (ap (λ t. t || list_any (nat_eq k) shut) f) ∙ e))
    go false f below =
        entries_append k (put_line slow_consumer j ∷ []) (map (put_line slow_consumer) shut)
        ∙ ap (λ t. t ++ entries_for k (map (put_line slow_consumer) shut)) (entries_there k j false _ (eq_false k j f))
        ∙ below (sym (ap (λ t. t || list_any (nat_eq k) shut) f) ∙ e)

any_append : (k : ℕ) (xs : List ℕ) (j : ℕ)
    → list_any (nat_eq k) (xs ++ j ∷ []) ≡ true
    → (list_any (nat_eq k) xs ≡ true) ⊎ (k ≡ j)
any_append k [] j e = go (nat_eq k j) refl e
  where
    go : (b : Bool) → nat_eq k j ≡ b → (b || false) ≡ true → (false ≡ true) ⊎ (k ≡ j)
    go true f g = inr (eq_true k j f)
    go false f g = absurd (true≢false (sym g))
any_append k (x ∷ xs) j e = go (nat_eq k x) (any_append k xs j) e
  where
    go : (b : Bool)
        → (list_any (nat_eq k) (xs ++ j ∷ []) ≡ true → (list_any (nat_eq k) xs ≡ true) ⊎ (k ≡ j))
        → (b || list_any (nat_eq k) (xs ++ j ∷ [])) ≡ true
        → ((b || list_any (nat_eq k) xs) ≡ true) ⊎ (k ≡ j)
    go true below f = inl refl
    go false below f = below f

-- an entry more for an open connection stands before the last lines, as it has none
given_more : (s : State) (job : Job) (k : ℕ) (u : Subscription) (w : Walk)
    → is_open u.conn w.clients ≡ true
    → HasPut s job k w
    → (entries_for k (map (owed_placed s.shard s.clients job None) w.given)
    ++ entries_for k (map (put_line slow_consumer) w.shut))
    ++ entries_for k (owed_placed s.shard s.clients job None u ∷ [])
    ≡ entries_for k (map (owed_placed s.shard s.clients job None) (w.given ++ u ∷ []))
    ++ entries_for k (map (put_line slow_consumer) w.shut)
given_more s job k u w opened h = go (nat_eq k u.conn) refl
  where
    given : List Written
    given = entries_for k (map (owed_placed s.shard s.clients job None) w.given)

    lines : List Written
    lines = entries_for k (map (put_line slow_consumer) w.shut)

    put : List Placed
    put = owed_placed s.shard s.clients job None u ∷ []

    both : entries_for k (map (owed_placed s.shard s.clients job None) (w.given ++ u ∷ [])) ≡ given ++ entries_for k put
    both =
        ap (entries_for k) (map_append (owed_placed s.shard s.clients job None) w.given (u ∷ []))
        ∙ entries_append k (map (owed_placed s.shard s.clients job None) w.given) put

    no_last : k ≡ u.conn → lines ≡ []
    no_last e = by (list_any (nat_eq k) w.shut) refl
      where
        by : (b : Bool) → list_any (nat_eq k) w.shut ≡ b → entries_for k (map (put_line slow_consumer) w.shut) ≡ []
        by true f = absurd (true≢false (sym opened ∙ sym (ap (λ m. is_open m w.clients) e) ∙ h.closed f))
        by false f = no_line k w.shut f

    go : (b : Bool)
        → nat_eq k u.conn ≡ b
        → (given ++ lines) ++ entries_for k put
        ≡ entries_for k (map (owed_placed s.shard s.clients job None) (w.given ++ u ∷ [])) ++ lines
    go true e =
        let none = no_last (eq_true k u.conn e) in
        ap (λ t. (given ++ t) ++ entries_for k put) none
        ∙ ap (λ t. t ++ entries_for k put) (append_nil given)
        ∙ sym (append_nil (given ++ entries_for k put))
        ∙ sym (ap (λ t. (given ++ entries_for k put) ++ t) none)
        ∙ sym (ap (λ t. t ++ lines) both)
    go false e =
        let none : entries_for k put ≡ [] =
        entries_there k u.conn (takes_headers u.conn s.clients) _ (eq_false k u.conn e) in
        ap (λ t. (given ++ lines) ++ t) none
        ∙ append_nil (given ++ lines)
        ∙ sym (ap (λ t. t ++ lines) (append_nil given))
        ∙ sym (ap (λ t. (given ++ t) ++ lines) none)
        ∙ sym (ap (λ t. t ++ lines) both)

put_more : (s : State) (job : Job) (k : ℕ) (w : Walk) (u : Subscription)
    → HasPut s job k w
    → HasPut s job k (walk_after_put s job w u)
put_more s job k w u h =
    go (is_open u.conn w.clients) (fits (client_at u.conn w.clients) (owed_entry s.shard s.clients job None u)) refl
    refl
  where
    go : (o r : Bool)
        → is_open u.conn w.clients ≡ o
        → fits (client_at u.conn w.clients) (owed_entry s.shard s.clients job None u) ≡ r
        → HasPut s job k (cond o
        (cond r (walk_with_entry (owed_entry s.shard s.clients job None u) u w) (walk_with_shut s.subs u.conn w)) w)
    go false r e f = h
    go true true e f = record {
      is =
          put_at (with_entry (owed_entry s.shard s.clients job None u)) (takes_headers u.conn s.clients)
          (owed_entry s.shard s.clients job None u) (λ backlog. refl) u.conn w.clients (open_there u.conn w.clients e) k
          ∙ ap (λ t. t ++ entries_for k (owed_placed s.shard s.clients job None u ∷ [])) h.is
          ∙ append_assoc (waits_for k s.clients) _ (entries_for k (owed_placed s.shard s.clients job None u ∷ []))
          ∙ ap (λ t. waits_for k s.clients ++ t) (given_more s job k u w e h);
      closed = λ i. stays_open (owed_entry s.shard s.clients job None u) k u.conn w.clients ∙ h.closed i;
    }
    go true false e f = record {
      is =
          put_at (with_last slow_consumer) false (reply_entry slow_consumer) (λ backlog. refl) u.conn w.clients
          (open_there u.conn w.clients e) k
          ∙ ap (λ t. t ++ entries_for k (put_line slow_consumer u.conn ∷ [])) h.is
          ∙ append_assoc (waits_for k s.clients) _ (entries_for k (put_line slow_consumer u.conn ∷ []))
          ∙ ap (λ t. waits_for k s.clients ++ t)
          (append_assoc (entries_for k (map (owed_placed s.shard s.clients job None) w.given))
          (entries_for k (map (put_line slow_consumer) w.shut)) (entries_for k (put_line slow_consumer u.conn ∷ []))
          ∙ ap (λ t. entries_for k (map (owed_placed s.shard s.clients job None) w.given) ++ t)
          (sym (ap (entries_for k) (map_append (put_line slow_consumer) w.shut (u.conn ∷ []))
          ∙ entries_append k (map (put_line slow_consumer) w.shut) (put_line slow_consumer u.conn ∷ []))));
      closed = λ i.
          ⊎_elim
          (λ (was : list_any (nat_eq k) w.shut ≡ true). stays_shut slow_consumer k u.conn w.clients (h.closed was))
          (λ (same : k ≡ u.conn).
          subst (λ m. is_open m (clients_with_change (with_last slow_consumer) u.conn w.clients) ≡ false) (sym same)
          (shuts slow_consumer u.conn w.clients))
          (any_append k w.shut u.conn i);
    }

walk_puts : (s : State) (job : Job) (k : ℕ) (due : List Subscription) (w : Walk)
    → HasPut s job k w
    → HasPut s job k (walk s job due w)
walk_puts s job k [] w h = h
walk_puts s job k (u ∷ due) w h = walk_puts s job k due (walk_after_put s job w u) (put_more s job k w u h)

-- ---- each event

open_conn : (b : Bool) (why : ShardFault) → (cond b None (Some why)) ≡ None → b ≡ true
open_conn b why e = no_end b why e

quiet : (k : ℕ) (xs : List Client) → waits_for k xs ≡ waits_for k xs ++ []
quiet k xs = sym (append_nil (waits_for k xs))

done_puts : (s : State) (job : Option Job) (k : ℕ) → waits_for k (done_with s job).clients ≡ waits_for k s.clients ++ []
done_puts s None k = quiet k s.clients
done_puts s (Some job) k = quiet k s.clients

-- what waits for a connection after each event
puts : (s : State) (e : Event)
    → shard_refusal s e ≡ None
    → (k : ℕ)
    → waits_for k (shard_after s e).clients ≡ kept_of e k (waits_for k s.clients) ++ entries_for k (put_by s e)
puts s Attach cause k = attached_at k s.next_conn s.clients ∙ quiet k s.clients
puts s (Subscribe conn key sid) cause k = go (sub_called conn sid s.subs)
  where
    go : (u : Option Subscription)
        → waits_for k (after_subscribe s (new_sub s conn key sid) u).clients ≡ waits_for k s.clients ++ []
    go None = quiet k s.clients
    go (Some u) = quiet k s.clients
puts s (Unsubscribe conn sid max) cause k = go (sub_called conn sid s.subs)
  where
    at : (u : Subscription) (b : Bool) (x y : State)
        → x.clients ≡ s.clients
        → y.clients ≡ s.clients
        → waits_for k (cond b x y).clients ≡ waits_for k s.clients ++ []
    at u true x y e f = ap (waits_for k) e ∙ quiet k s.clients
    at u false x y e f = ap (waits_for k) f ∙ quiet k s.clients

    go : (u : Option Subscription) → waits_for k (after_unsubscribe s max u).clients ≡ waits_for k s.clients ++ []
    go None = quiet k s.clients
    go (Some u) = at u (ended_now max u) _ _ refl refl
puts s (Reply conn frame) cause k = go (answer_fits s conn (reply_line frame))
  where
    there : is_some (client_at conn s.clients) ≡ true
    there = open_there conn s.clients (no_end (is_open conn s.clients) _ cause)

    go : (b : Bool)
        → waits_for k (cond b
        (record s { clients = clients_with_change (with_entry (reply_entry (reply_line frame))) conn s.clients })
        (was_shut s conn slow_consumer)).clients
        ≡ waits_for k s.clients
        ++ entries_for k (cond b (put_line (reply_line frame) conn ∷ []) (put_line slow_consumer conn ∷ []))
    go true =
        put_at (with_entry (reply_entry (reply_line frame))) false (reply_entry (reply_line frame)) (λ backlog. refl)
        conn s.clients there k
    go false =
        put_at (with_last slow_consumer) false (reply_entry slow_consumer) (λ backlog. refl) conn s.clients there k
puts s (SetHeaders conn on) cause k = chosen_same entries_of (λ on client. refl) on k conn s.clients ∙ quiet k s.clients
puts s (Shut conn text) cause k =
    put_at (with_last (err_line text)) false (reply_entry (err_line text)) (λ backlog. refl) conn s.clients
    (open_there conn s.clients (no_end (is_open conn s.clients) _ cause)) k
puts s (Detach conn) cause k = go (nat_eq conn k) refl
  where
    go : (b : Bool)
        → nat_eq conn k ≡ b
        → waits_for k (without_client conn s.clients) ≡ cond b [] (waits_for k s.clients) ++ []
    go true e =
        subst (λ m. waits_for m (without_client conn s.clients) ≡ []) (eq_true conn k e)
        (ap entries_of (gone conn s.clients))
    go false e = ap entries_of (stays k conn (λ f. eq_false conn k e (sym f)) s.clients) ∙ quiet k s.clients
puts s (Take conn count) cause k = go (nat_eq conn k) refl
  where
    by : (x : Option Client) → entries_of (option_map (with_outbox (without_first count)) x) ≡ drop count (entries_of x)
    by None = nil count
      where
        nil : (m : ℕ) → [] ≡ drop {A = Written} m []
        nil zero = refl
        nil (suc m) = refl
    by (Some x) = refl

    go : (b : Bool)
        → nat_eq conn k ≡ b
        → waits_for k (clients_with_change (without_first count) conn s.clients)
        ≡ cond b (drop count (waits_for k s.clients)) (waits_for k s.clients) ++ []
    go true e =
        subst (λ m.
        waits_for m (clients_with_change (without_first count) conn s.clients)
        ≡ drop count (waits_for m s.clients) ++ [])
        (eq_true conn k e)
        (ap entries_of (changed_here (without_first count) conn s.clients) ∙ by (client_at conn s.clients)
        ∙ sym (append_nil (drop count (waits_for conn s.clients))))
    go false e =
        ap entries_of (changed_there (without_first count) k conn s.clients (λ f. eq_false conn k e (sym f)))
        ∙ quiet k s.clients
puts s (Begin job) cause k =
    h.is
    ∙ ap (λ t. waits_for k s.clients ++ t)
    (sym (entries_append k (map (owed_placed s.shard s.clients job None) (whole_walk s job).given)
    (map (put_line slow_consumer) (whole_walk s job).shut)))
  where
    h : HasPut s job k (whole_walk s job)
    h =
        walk_puts s job k (filter (is_due job) s.subs) (first_step s.clients)
        (record { is = quiet k s.clients; closed = λ e. absurd (true≢false (sym e)) })
puts s (Claim index won) cause k = go s.hand (candidate_of s s.hand index) refl
  where
    by : (job : Job) (u : Subscription)
        → candidate_of s (Some job) index ≡ Some u
        → (b : Bool)
        → waits_for k (after_claim s (Some job) (Some u) b).clients
        ≡ waits_for k s.clients ++ entries_for k (put_by_claim s (Some job) (Some u) b)
    by job u is false = quiet k s.clients
    by job u is true =
        put_at (with_entry (owed_entry s.shard s.clients job u.key.queue u)) (takes_headers u.conn s.clients)
        (owed_entry s.shard s.clients job u.key.queue u) (λ backlog. refl) u.conn s.clients
        (named (slice_get job.queues index) is) k
      where
        named : (name : Option (List ℕ))
            → candidate_named s job name ≡ Some u
            → is_some (client_at u.conn s.clients) ≡ true
        named None e = absurd (none-some u e)
        named (Some name) e =
            fits_there u.conn s.clients (owed_entry s.shard s.clients job (Some name) u) (candidate_is s job name u e).3

    go : (hand : Option Job) (u : Option Subscription)
        → candidate_of s hand index ≡ u
        → waits_for k (after_claim s hand u won).clients
        ≡ waits_for k s.clients ++ entries_for k (put_by_claim s hand u won)
    go None u is = quiet k s.clients
    go (Some job) None is = quiet k s.clients
    go (Some job) (Some u) is = by job u is won
puts s End cause k = done_puts s s.hand k
puts s (DropJob waiting) cause k = done_puts s (option_or s.hand waiting) k
puts s Drain cause k = quiet k s.clients
puts s Collect cause k = quiet k s.clients

pub are_put : (s : State) (e : Event) (k : ℕ) → ArePut s e k
are_put s e k = record { entries = λ cause. puts s e cause k }
