-- Connections that go or are shut, and what a walk gives as far as there is room.
use Rattle.std.proofs.Common.{◌≡◌, ◌≢◌, ◌⊎◌, ℕ, Bool, true, false, true≢false, cond, not, nat_eq, List, [], ◌∷◌, ◌++◌, map, Option, Some, None, refl, sym, ap, ◌∙◌, subst, inl, inr, ⊎_elim}
use Rattle.std.specs.Prelude.{filter}
use Rattle.std.specs.Option.{option_map, option_or}
use Rattle.list_laws.specs.Lists.{In, Each}
use Rattle.list_laws.proofs.Lists.{in_append, in_left, in_right}
use Rattle.list_laws.proofs.Changes.{append_nil, append_assoc, map_append}
use Rattle.list_laws.proofs.Tests.{eq_true, eq_false, no_end}
use Rattle.client_frames.specs.ErrTexts.{err_line}
use Rattle.client_frames.specs.Frames.{reply_line}
use Rattle.outbox.specs.Views.{Written, with_entry, with_entries, with_last, without_first, reply_entry}
use Rattle.sub_table.specs.declared.Subscription.{Subscription}
use Rattle.subj.specs.declared.jobs.Job.{Job}
use Rattle.shard_core.specs.Shards.{State, Client, client_at, takes_events, is_open, takes_headers, with_outbox, clients_with_change, fits}
use Rattle.shard_core.specs.Owed.{Walk, walk, whole_walk, first_step, walk_after_put, walk_with_entry, walk_with_shut, slow_consumer, owed_entry, owed_placed, is_due, candidate_of, after_claim}
use Rattle.shard_core.specs.Puts.{entries_for}
use Rattle.shard_core.specs.ShardEvents.{Event, Attach, Subscribe, Unsubscribe, Reply, SetHeaders, Shut, Detach, Take, Begin, Claim, End, DropJob, Drain, Collect}
use Rattle.shard_core.specs.ShardSteps.{sub_called, new_client, new_sub, after_subscribe, ended_now, after_unsubscribe, answer_fits, was_shut, done_with, shard_refusal, shard_after, shut_by}
use Rattle.shard_core.specs.Causes.{Leaves, with_given, IsDetached, ConnectionsLeave, GivesAll, RoomDecides}
use Rattle.shard_core.proofs.Steps.LawEvents.{walk_gives}
use Rattle.shard_core.proofs.Clients.Outboxes.{changed_here, changed_there, chosen_same, gone, stays, entries_append, entries_here, entries_there, stays_open, stays_shut, shuts}

-- ---- whether a connection takes events

pub still_open : (line : List ℕ) (j k : ℕ) (xs : List Client)
    → is_open k (clients_with_change (with_last line) j xs) ≡ true
    → (is_open k xs ≡ true) × (k ≢ j)
still_open line j k xs o = (
  by (is_open k xs) refl,
  λ same.
      absurd
      (true≢false (sym o ∙ ap (λ n. is_open n (clients_with_change (with_last line) j xs)) same ∙ shuts line j xs)),
)
  where
    by : (b : Bool) → is_open k xs ≡ b → is_open k xs ≡ true
    by true e = e
    by false e = absurd (true≢false (sym o ∙ stays_shut line k j xs e))

pub open_there : (line : List ℕ) (j k : ℕ) (xs : List Client)
    → k ≢ j
    → is_open k (clients_with_change (with_last line) j xs) ≡ is_open k xs
open_there line j k xs apart = ap takes_events (changed_there (with_last line) k j xs apart)

pub takes_open : (count k j : ℕ) (xs : List Client)
    → is_open k (clients_with_change (without_first count) j xs) ≡ is_open k xs
takes_open count k j xs = go (nat_eq k j) refl
  where
    by : (x : Option Client) → takes_events (option_map (with_outbox (without_first count)) x) ≡ takes_events x
    by None = refl
    by (Some x) = refl

    go : (b : Bool) → nat_eq k j ≡ b → is_open k (clients_with_change (without_first count) j xs) ≡ is_open k xs
    go true e =
        subst (λ m. is_open m (clients_with_change (without_first count) j xs) ≡ is_open m xs) (sym (eq_true k j e))
        (ap takes_events (changed_here (without_first count) j xs) ∙ by (client_at j xs))
    go false e = ap takes_events (changed_there (without_first count) k j xs (eq_false k j e))

pub attached_open : (k j : ℕ) (xs : List Client) → is_open k xs ≡ true → is_open k (xs ++ new_client j ∷ []) ≡ true
attached_open k j [] e = absurd (true≢false (sym e))
attached_open k j (x ∷ xs) e = go (nat_eq x.number k) (attached_open k j xs) e
  where
    go : (b : Bool)
        → (is_open k xs ≡ true → is_open k (xs ++ new_client j ∷ []) ≡ true)
        → takes_events (cond b (Some x) (client_at k xs)) ≡ true
        → takes_events (cond b (Some x) (client_at k (xs ++ new_client j ∷ []))) ≡ true
    go true more f = f
    go false more f = more f

-- ---- a walk shuts just those that it says

pub record Shows (s : State) (w : Walk) : Type 0 where
  pub shut_was : (k : ℕ) → In k w.shut → (is_open k s.clients ≡ true) × (is_open k w.clients ≡ false)
  pub shut_is : (k : ℕ) → is_open k s.clients ≡ true → is_open k w.clients ≡ false → In k w.shut
  pub was : (k : ℕ) → is_open k w.clients ≡ true → is_open k s.clients ≡ true

pub first_shows : (s : State) → Shows s (first_step s.clients)
first_shows s = record {
  shut_was = λ k i. absurd i;
  shut_is = λ k o c. absurd (true≢false (sym o ∙ c));
  was = λ k o. o;
}

pub give_shows : (s : State) (entry : Written) (u : Subscription) (w : Walk)
    → Shows s w
    → Shows s (walk_with_entry entry u w)
give_shows s entry u w h = record {
  shut_was = λ k i. let x = h.shut_was k i in (x.0, stays_open entry k u.conn w.clients ∙ x.1);
  shut_is = λ k o c. h.shut_is k o (sym (stays_open entry k u.conn w.clients) ∙ c);
  was = λ k o. h.was k (sym (stays_open entry k u.conn w.clients) ∙ o);
}

shut_shows : (s : State) (u : Subscription) (w : Walk)
    → is_open u.conn w.clients ≡ true
    → Shows s w
    → Shows s (walk_with_shut s.subs u.conn w)
shut_shows s u w opened h = record {
  shut_was = λ k i.
      ⊎_elim (λ j. let x = h.shut_was k j in (x.0, stays_shut slow_consumer k u.conn w.clients x.1))
      (λ j.
      ⊎_elim (λ (e : k ≡ u.conn).
      subst (λ m.
      (is_open m s.clients ≡ true)
      × (is_open m (clients_with_change (with_last slow_consumer) u.conn w.clients) ≡ false))
      (sym e) (h.was u.conn opened, shuts slow_consumer u.conn w.clients))
      (λ f. absurd f) j)
      (in_append k w.shut (u.conn ∷ []) i);
  shut_is = λ k o c. go k o c (nat_eq k u.conn) refl;
  was = λ k o. h.was k (still_open slow_consumer u.conn k w.clients o).0;
}
  where
    go : (k : ℕ)
        → is_open k s.clients ≡ true
        → is_open k (clients_with_change (with_last slow_consumer) u.conn w.clients) ≡ false
        → (b : Bool)
        → nat_eq k u.conn ≡ b
        → In k (w.shut ++ u.conn ∷ [])
    go k o c true e = in_right k w.shut (u.conn ∷ []) (inl (eq_true k u.conn e))
    go k o c false e =
        in_left k w.shut (u.conn ∷ [])
        (h.shut_is k o (sym (open_there slow_consumer u.conn k w.clients (eq_false k u.conn e)) ∙ c))

-- what holds of a walk after each of its ways holds after a step of it
pub each_way : (P : Walk → Type 0) (s : State) (job : Job) (w : Walk) (u : Subscription)
    → P w
    → (is_open u.conn w.clients ≡ true
    → fits (client_at u.conn w.clients) (owed_entry s.shard s.clients job None u) ≡ true
    → P (walk_with_entry (owed_entry s.shard s.clients job None u) u w))
    → (is_open u.conn w.clients ≡ true
    → fits (client_at u.conn w.clients) (owed_entry s.shard s.clients job None u) ≡ false
    → P (walk_with_shut s.subs u.conn w))
    → P (walk_after_put s job w u)
each_way P s job w u same gives shuts =
    go (is_open u.conn w.clients) (fits (client_at u.conn w.clients) (owed_entry s.shard s.clients job None u)) refl
    refl
  where
    go : (o r : Bool)
        → is_open u.conn w.clients ≡ o
        → fits (client_at u.conn w.clients) (owed_entry s.shard s.clients job None u) ≡ r
        → P (cond o
        (cond r (walk_with_entry (owed_entry s.shard s.clients job None u) u w) (walk_with_shut s.subs u.conn w)) w)
    go false r e f = same
    go true true e f = gives e f
    go true false e f = shuts e f

pub walk_shows : (s : State) (job : Job) (due : List Subscription) (w : Walk) → Shows s w → Shows s (walk s job due w)
walk_shows s job [] w h = h
walk_shows s job (u ∷ due) w h =
    walk_shows s job due (walk_after_put s job w u)
    (each_way (Shows s) s job w u h (λ e f. give_shows s (owed_entry s.shard s.clients job None u) u w h)
    (λ e f. shut_shows s u w e h))

pub walked_shows : (s : State) (job : Job) → Shows s (whole_walk s job)
walked_shows s job = walk_shows s job (filter (is_due job) s.subs) (first_step s.clients) (first_shows s)

-- ---- for want of room

abbrev Lacks : State → Job → List Subscription → List Subscription → ℕ → Type 0
Lacks s job due given k =
    (u : Subscription)
    × In u due
    × (u.conn ≡ k)
    × (fits (with_given s job given k) (owed_entry s.shard s.clients job None u) ≡ false)

record Fills (s : State) (job : Job) (due : List Subscription) (w : Walk) : Type 0 where
  same : (k : ℕ) → is_open k w.clients ≡ true → client_at k w.clients ≡ with_given s job w.given k
  lack : (k : ℕ) → In k w.shut → (is_open k w.clients ≡ false) × Lacks s job due w.given k

nothing_behind : (x : Option Client) → x ≡ option_map (with_outbox (with_entries [])) x
nothing_behind None = refl
nothing_behind (Some x) =
    λ i. Some (record x { outbox = record x.outbox { entries = sym (append_nil x.outbox.entries) i } })

one_behind : (entries : List Written) (entry : Written) (x : Option Client)
    → option_map (with_outbox (with_entry entry)) (option_map (with_outbox (with_entries entries)) x)
    ≡ option_map (with_outbox (with_entries (entries ++ entry ∷ []))) x
one_behind entries entry None = refl
one_behind entries entry (Some x) =
    λ i. Some (record x { outbox = record x.outbox { entries = append_assoc x.outbox.entries entries (entry ∷ []) i } })

entries_more : (s : State) (job : Job) (k : ℕ) (given : List Subscription) (u : Subscription)
    → entries_for k (map (owed_placed s.shard s.clients job None) (given ++ u ∷ []))
    ≡ entries_for k (map (owed_placed s.shard s.clients job None) given)
    ++ entries_for k (owed_placed s.shard s.clients job None u ∷ [])
entries_more s job k given u =
    ap (entries_for k) (map_append (owed_placed s.shard s.clients job None) given (u ∷ []))
    ∙ entries_append k (map (owed_placed s.shard s.clients job None) given)
    (owed_placed s.shard s.clients job None u ∷ [])

given_here : (s : State) (job : Job) (given : List Subscription) (u : Subscription)
    → option_map (with_outbox (with_entry (owed_entry s.shard s.clients job None u))) (with_given s job given u.conn)
    ≡ with_given s job (given ++ u ∷ []) u.conn
given_here s job given u =
    one_behind (entries_for u.conn (map (owed_placed s.shard s.clients job None) given))
    (owed_entry s.shard s.clients job None u) (client_at u.conn s.clients)
    ∙ ap (λ t. option_map (with_outbox (with_entries t)) (client_at u.conn s.clients))
    (sym (entries_more s job u.conn given u
    ∙ ap (λ t. entries_for u.conn (map (owed_placed s.shard s.clients job None) given) ++ t)
    (entries_here u.conn (takes_headers u.conn s.clients) (owed_entry s.shard s.clients job None u))))

given_there : (s : State) (job : Job) (given : List Subscription) (u : Subscription) (k : ℕ)
    → k ≢ u.conn
    → with_given s job given k ≡ with_given s job (given ++ u ∷ []) k
given_there s job given u k apart =
    ap (λ t. option_map (with_outbox (with_entries t)) (client_at k s.clients))
    (sym (entries_more s job k given u
    ∙ ap (λ t. entries_for k (map (owed_placed s.shard s.clients job None) given) ++ t)
    (entries_there k u.conn (takes_headers u.conn s.clients) (owed_entry s.shard s.clients job None u) apart)
    ∙ append_nil (entries_for k (map (owed_placed s.shard s.clients job None) given))))

give_fills : (s : State) (job : Job) (due : List Subscription) (u : Subscription) (w : Walk)
    → is_open u.conn w.clients ≡ true
    → Fills s job due w
    → Fills s job due (walk_with_entry (owed_entry s.shard s.clients job None u) u w)
give_fills s job due u w opened h = record {
  same = λ k o.
      here k (sym (stays_open (owed_entry s.shard s.clients job None u) k u.conn w.clients) ∙ o) (nat_eq k u.conn) refl;
  lack = λ k i.
      let x = h.lack k i in (
        stays_open (owed_entry s.shard s.clients job None u) k u.conn w.clients ∙ x.0,
        (
          x.1.0,
          x.1.1,
          x.1.2,
          ap (λ t. fits t (owed_entry s.shard s.clients job None x.1.0))
              (sym (given_there s job w.given u k (apart k x.0))) ∙ x.1.3,
        ),
      );
}
  where
    apart : (k : ℕ) → is_open k w.clients ≡ false → k ≢ u.conn
    apart k c e = true≢false (sym opened ∙ sym (ap (λ m. is_open m w.clients) e) ∙ c)

    here : (k : ℕ)
        → is_open k w.clients ≡ true
        → (b : Bool)
        → nat_eq k u.conn ≡ b
        → client_at k (clients_with_change (with_entry (owed_entry s.shard s.clients job None u)) u.conn w.clients)
        ≡ with_given s job (w.given ++ u ∷ []) k
    here k o true e =
        subst (λ m.
        client_at m (clients_with_change (with_entry (owed_entry s.shard s.clients job None u)) u.conn w.clients)
        ≡ with_given s job (w.given ++ u ∷ []) m)
        (sym (eq_true k u.conn e))
        (changed_here (with_entry (owed_entry s.shard s.clients job None u)) u.conn w.clients
        ∙ ap (option_map (with_outbox (with_entry (owed_entry s.shard s.clients job None u)))) (h.same u.conn opened)
        ∙ given_here s job w.given u)
    here k o false e =
        changed_there (with_entry (owed_entry s.shard s.clients job None u)) k u.conn w.clients (eq_false k u.conn e)
        ∙ h.same k o
        ∙ given_there s job w.given u k (eq_false k u.conn e)

shut_fills : (s : State) (job : Job) (due : List Subscription) (u : Subscription) (w : Walk)
    → In u due
    → is_open u.conn w.clients ≡ true
    → fits (client_at u.conn w.clients) (owed_entry s.shard s.clients job None u) ≡ false
    → Fills s job due w
    → Fills s job due (walk_with_shut s.subs u.conn w)
shut_fills s job due u w here opened full h = record {
  same = λ k o.
      let x = still_open slow_consumer u.conn k w.clients o in
      changed_there (with_last slow_consumer) k u.conn w.clients x.1 ∙ h.same k x.0;
  lack = λ k i.
      ⊎_elim (λ j. let x = h.lack k j in (stays_shut slow_consumer k u.conn w.clients x.0, x.1))
      (λ j.
      ⊎_elim (λ (e : k ≡ u.conn).
      subst (λ m.
      (is_open m (clients_with_change (with_last slow_consumer) u.conn w.clients) ≡ false) × Lacks s job due w.given m)
      (sym e) (
        shuts slow_consumer u.conn w.clients,
        (u, here, refl, ap (λ t. fits t (owed_entry s.shard s.clients job None u)) (sym (h.same u.conn opened)) ∙ full),
      ))
      (λ f. absurd f) j)
      (in_append k w.shut (u.conn ∷ []) i);
}

walk_fills : (s : State) (job : Job) (all due : List Subscription) (w : Walk)
    → Each (λ u. In u all) due
    → Fills s job all w
    → Fills s job all (walk s job due w)
walk_fills s job all [] w among h = h
walk_fills s job all (u ∷ due) w among h =
    walk_fills s job all due (walk_after_put s job w u) (λ v i. among v (inr i))
    (each_way (Fills s job all) s job w u h (λ e f. give_fills s job all u w e h)
    (λ e f. shut_fills s job all u w (among u (inl refl)) e f h))

walked_fills : (s : State) (job : Job) → Fills s job (filter (is_due job) s.subs) (whole_walk s job)
walked_fills s job =
    walk_fills s job (filter (is_due job) s.subs) (filter (is_due job) s.subs) (first_step s.clients) (λ u i. i)
    (record { same = λ k o. nothing_behind (client_at k s.clients); lack = λ k i. absurd i })

-- ---- each message that is owed is given, or its connection is shut

walk_shut : (s : State) (job : Job) (k : ℕ) (due : List Subscription) (w : Walk)
    → is_open k w.clients ≡ false
    → is_open k (walk s job due w).clients ≡ false
walk_shut s job k [] w c = c
walk_shut s job k (u ∷ due) w c =
    walk_shut s job k due (walk_after_put s job w u)
    (each_way (λ (v : Walk). is_open k v.clients ≡ false) s job w u c
    (λ e f. stays_open (owed_entry s.shard s.clients job None u) k u.conn w.clients ∙ c)
    (λ e f. stays_shut slow_consumer k u.conn w.clients c))

walk_all : (s : State) (job : Job) (due : List Subscription) (w : Walk) (u : Subscription)
    → In u due
    → In u (walk s job due w).given ⊎ (is_open u.conn (walk s job due w).clients ≡ false)
walk_all s job [] w u i = absurd i
walk_all s job (v ∷ due) w u i =
    ⊎_elim (λ (e : u ≡ v).
    subst (λ x.
    In x (walk s job due (walk_after_put s job w v)).given
    ⊎ (is_open x.conn (walk s job due (walk_after_put s job w v)).clients ≡ false))
    (sym e)
    (⊎_elim (λ j.
    inl (subst (In v) (sym (walk_gives s job due (walk_after_put s job w v)).given)
    (in_left v (walk_after_put s job w v).given (walk_gives s job due (walk_after_put s job w v)).new j)))
    (λ c. inr (walk_shut s job v.conn due (walk_after_put s job w v) c)) here))
    (λ j. walk_all s job due (walk_after_put s job w v) u j) i
  where
    here : In v (walk_after_put s job w v).given ⊎ (is_open v.conn (walk_after_put s job w v).clients ≡ false)
    here =
        go (is_open v.conn w.clients) (fits (client_at v.conn w.clients) (owed_entry s.shard s.clients job None v)) refl
      where
        go : (o r : Bool)
            → is_open v.conn w.clients ≡ o
            → In v (cond o
            (cond r (walk_with_entry (owed_entry s.shard s.clients job None v) v w) (walk_with_shut s.subs v.conn w))
            w).given
            ⊎ (is_open v.conn (cond o
            (cond r (walk_with_entry (owed_entry s.shard s.clients job None v) v w) (walk_with_shut s.subs v.conn w))
            w).clients ≡ false)
        go false r e = inr e
        go true true e = inl (in_right v w.given (v ∷ []) (inl refl))
        go true false e = inr (shuts slow_consumer v.conn w.clients)

gives_all : (s : State) (job : Job) → GivesAll s job
gives_all s job = record {
  all = λ u i o.
      ⊎_elim (λ j. inl j) (λ c. inr ((walked_shows s job).shut_is u.conn o c))
      (walk_all s job (filter (is_due job) s.subs) (first_step s.clients) u i);
}

-- ---- each event

-- no connection goes
pub nobody_leaves : (s after : State)
    → ((k : ℕ) → is_open k s.clients ≡ true → is_open k after.clients ≡ true)
    → (k : ℕ)
    → Leaves s after k
    → ⊥
nobody_leaves s after stays k l = true≢false (sym (stays k l.0) ∙ l.1)

quiet : (s : State) (e : Event)
    → ((k : ℕ) → is_open k s.clients ≡ true → is_open k (shard_after s e).clients ≡ true)
    → ((k : ℕ) → IsDetached e k → ⊥)
    → shut_by s e ≡ []
    → ConnectionsLeave s e
quiet s e stays not none = record {
  left = λ k. (
    λ l. absurd (nobody_leaves s (shard_after s e) stays k l),
    λ x. absurd (⊎_elim (λ d. not k d) (λ i. subst (In k) none i) x.1),
  );
  shut = λ k i. absurd (subst (In k) none i);
}

same_open : (old new : List Client) → new ≡ old → (k : ℕ) → is_open k old ≡ true → is_open k new ≡ true
same_open old new e k o = ap (is_open k) e ∙ o

subscribed_clients : (s : State) (sub : Subscription) (o : Option Subscription)
    → (after_subscribe s sub o).clients ≡ s.clients
subscribed_clients s sub None = refl
subscribed_clients s sub (Some same) = refl

unsubscribed_clients : (s : State) (max : Option ℕ) (o : Option Subscription)
    → (after_unsubscribe s max o).clients ≡ s.clients
unsubscribed_clients s max None = refl
unsubscribed_clients s max (Some sub) = go (ended_now max sub) _ _ refl refl
  where
    go : (b : Bool) (x y : State) → x.clients ≡ s.clients → y.clients ≡ s.clients → (cond b x y).clients ≡ s.clients
    go true x y e f = e
    go false x y e f = f

done_clients : (s : State) (o : Option Job) → (done_with s o).clients ≡ s.clients
done_clients s None = refl
done_clients s (Some job) = refl

claimed_open : (s : State) (hand : Option Job) (o : Option Subscription) (won : Bool) (k : ℕ)
    → is_open k s.clients ≡ true
    → is_open k (after_claim s hand o won).clients ≡ true
claimed_open s None o won k e = e
claimed_open s (Some job) None won k e = e
claimed_open s (Some job) (Some u) true k e =
    stays_open (owed_entry s.shard s.clients job u.key.queue u) k u.conn s.clients ∙ e
claimed_open s (Some job) (Some u) false k e = e

-- which connections take events after an event that takes or gives but shuts none
pub stays_after : (s : State) (e : Event) (k : ℕ)
    → is_open k s.clients ≡ true
    → (IsDetached e k → ⊥)
    → (In k (shut_by s e) → ⊥)
    → is_open k (shard_after s e).clients ≡ true
stays_after s Attach k o not none = attached_open k s.next_conn s.clients o
stays_after s (Subscribe conn key sid) k o not none =
    same_open s.clients _ (subscribed_clients s (new_sub s conn key sid) (sub_called conn sid s.subs)) k o
stays_after s (Unsubscribe conn sid max) k o not none =
    same_open s.clients _ (unsubscribed_clients s max (sub_called conn sid s.subs)) k o
stays_after s (Reply conn frame) k o not none = go (answer_fits s conn (reply_line frame)) none
  where
    go : (b : Bool)
        → (In k (cond b [] (conn ∷ [])) → ⊥)
        → is_open k (cond b
        (record s { clients = clients_with_change (with_entry (reply_entry (reply_line frame))) conn s.clients })
        (was_shut s conn slow_consumer)).clients ≡ true
    go true out = stays_open (reply_entry (reply_line frame)) k conn s.clients ∙ o
    go false out = open_there slow_consumer conn k s.clients (λ e. out (inl e)) ∙ o
stays_after s (SetHeaders conn on) k o not none = chosen_same takes_events (λ on client. refl) on k conn s.clients ∙ o
stays_after s (Shut conn text) k o not none = open_there (err_line text) conn k s.clients (λ e. none (inl e)) ∙ o
stays_after s (Detach conn) k o not none = ap takes_events (stays k conn not s.clients) ∙ o
stays_after s (Take conn count) k o not none = takes_open count k conn s.clients ∙ o
stays_after s (Begin job) k o not none = go (is_open k (whole_walk s job).clients) refl
  where
    go : (b : Bool) → is_open k (whole_walk s job).clients ≡ b → is_open k (whole_walk s job).clients ≡ true
    go true e = e
    go false e = absurd (none ((walked_shows s job).shut_is k o e))
stays_after s (Claim index won) k o not none = claimed_open s s.hand (candidate_of s s.hand index) won k o
stays_after s End k o not none = same_open s.clients _ (done_clients s s.hand) k o
stays_after s (DropJob waiting) k o not none = same_open s.clients _ (done_clients s (option_or s.hand waiting)) k o
stays_after s Drain k o not none = o
stays_after s Collect k o not none = o

leave : (s : State) (e : Event) → shard_refusal s e ≡ None → ConnectionsLeave s e
leave s Attach cause = quiet s Attach (λ k o. stays_after s Attach k o (λ x. x) (λ x. x)) (λ k x. x) refl
leave s (Subscribe conn key sid) cause =
    quiet s (Subscribe conn key sid) (λ k o. stays_after s (Subscribe conn key sid) k o (λ x. x) (λ x. x)) (λ k x. x)
    refl
leave s (Unsubscribe conn sid max) cause =
    quiet s (Unsubscribe conn sid max) (λ k o. stays_after s (Unsubscribe conn sid max) k o (λ x. x) (λ x. x))
    (λ k x. x) refl
leave s (Reply conn frame) cause = go (answer_fits s conn (reply_line frame)) refl
  where
    opened : is_open conn s.clients ≡ true
    opened = no_end (is_open conn s.clients) _ cause

    go : (b : Bool) → answer_fits s conn (reply_line frame) ≡ b → ConnectionsLeave s (Reply conn frame)
    go true e =
        quiet s (Reply conn frame)
        (λ k o. stays_after s (Reply conn frame) k o (λ x. x) (λ i. subst (λ b. In k (cond b [] (conn ∷ []))) e i))
        (λ k x. x) (ap (λ b. cond b [] (conn ∷ [])) e)
    go false e = record {
      left = λ k. (
        λ l. (l.0, by k l (nat_eq k conn) refl),
        λ x. (x.0, ⊎_elim (λ d. absurd d) (λ i. shut k (subst (λ b. In k (cond b [] (conn ∷ []))) e i)) x.1),
      );
      shut = λ k i. inr (⊎_elim (λ f. (f, e)) (λ f. absurd f) (subst (λ b. In k (cond b [] (conn ∷ []))) e i));
    }
      where
        shut : (k : ℕ) → In k (conn ∷ []) → is_open k (shard_after s (Reply conn frame)).clients ≡ false
        shut k (inl f) =
            ap (λ b.
            is_open k (cond b
            (record s { clients = clients_with_change (with_entry (reply_entry (reply_line frame))) conn s.clients })
            (was_shut s conn slow_consumer)).clients)
            e
            ∙ subst (λ m. is_open m (clients_with_change (with_last slow_consumer) conn s.clients) ≡ false) (sym f)
            (shuts slow_consumer conn s.clients)
        shut k (inr f) = absurd f

        by : (k : ℕ)
            → Leaves s (shard_after s (Reply conn frame)) k
            → (b : Bool)
            → nat_eq k conn ≡ b
            → IsDetached (Reply conn frame) k ⊎ In k (shut_by s (Reply conn frame))
        by k l true f = inr (subst (λ b. In k (cond b [] (conn ∷ []))) (sym e) (inl (eq_true k conn f)))
        by k l false f =
            absurd (true≢false (sym (stays_after s (Reply conn frame) k l.0 (λ x. x)
            (λ i. ⊎_elim (λ g. eq_false k conn f g) (λ g. g) (subst (λ b. In k (cond b [] (conn ∷ []))) e i))) ∙ l.1))
leave s (SetHeaders conn on) cause =
    quiet s (SetHeaders conn on) (λ k o. stays_after s (SetHeaders conn on) k o (λ x. x) (λ x. x)) (λ k x. x) refl
leave s (Shut conn text) cause = record {
  left = λ k. (
    λ l. (l.0, by k l (nat_eq k conn) refl),
    λ x. (
      x.0,
      ⊎_elim (λ d. absurd d)
          (λ i.
          ⊎_elim (λ (f : k ≡ conn).
          subst (λ m. is_open m (clients_with_change (with_last (err_line text)) conn s.clients) ≡ false) (sym f)
          (shuts (err_line text) conn s.clients))
          (λ f. absurd f) i)
          x.1,
    ),
  );
  shut = λ k i. inl (⊎_elim (λ f. f) (λ f. absurd f) i);
}
  where
    by : (k : ℕ)
        → Leaves s (shard_after s (Shut conn text)) k
        → (b : Bool)
        → nat_eq k conn ≡ b
        → IsDetached (Shut conn text) k ⊎ In k (conn ∷ [])
    by k l true f = inr (inl (eq_true k conn f))
    by k l false f =
        absurd (true≢false
        (sym (stays_after s (Shut conn text) k l.0 (λ x. x) (λ i. ⊎_elim (λ g. eq_false k conn f g) (λ g. g) i)) ∙ l.1))
leave s (Detach conn) cause = record {
  left = λ k. (
    λ l. (l.0, by k l (nat_eq k conn) refl),
    λ x. (
      x.0,
      ⊎_elim (λ (d : k ≡ conn).
          subst (λ m. is_open m (shard_after s (Detach conn)).clients ≡ false) (sym d)
          (ap takes_events (gone conn s.clients)))
          (λ i. absurd i) x.1,
    ),
  );
  shut = λ k i. absurd i;
}
  where
    by : (k : ℕ) → Leaves s (shard_after s (Detach conn)) k → (b : Bool) → nat_eq k conn ≡ b → (k ≡ conn) ⊎ In k []
    by k l true f = inl (eq_true k conn f)
    by k l false f = absurd (true≢false (sym (stays_after s (Detach conn) k l.0 (eq_false k conn f) (λ i. i)) ∙ l.1))
leave s (Take conn count) cause =
    quiet s (Take conn count) (λ k o. stays_after s (Take conn count) k o (λ x. x) (λ x. x)) (λ k x. x) refl
leave s (Begin job) cause = record {
  left = λ k. (
    λ l. (l.0, inr ((walked_shows s job).shut_is k l.0 l.1)),
    λ x. (x.0, ⊎_elim (λ d. absurd d) (λ i. ((walked_shows s job).shut_was k i).1) x.1),
  );
  shut = λ k i. inr ((walked_fills s job).lack k i).1;
}
leave s (Claim index won) cause =
    quiet s (Claim index won) (λ k o. stays_after s (Claim index won) k o (λ x. x) (λ x. x)) (λ k x. x) refl
leave s End cause = quiet s End (λ k o. stays_after s End k o (λ x. x) (λ x. x)) (λ k x. x) refl
leave s (DropJob waiting) cause =
    quiet s (DropJob waiting) (λ k o. stays_after s (DropJob waiting) k o (λ x. x) (λ x. x)) (λ k x. x) refl
leave s Drain cause = quiet s Drain (λ k o. stays_after s Drain k o (λ x. x) (λ x. x)) (λ k x. x) refl
leave s Collect cause = quiet s Collect (λ k o. stays_after s Collect k o (λ x. x) (λ x. x)) (λ k x. x) refl

pub room_decides : RoomDecides
room_decides = record { leave = leave; all = gives_all }
