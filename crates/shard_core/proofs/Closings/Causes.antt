-- Why subscriptions close, and what every shard keeps of those that are open.
use Rattle.std.proofs.Common.{◌≡◌, ◌≢◌, ◌⊎◌, ℕ, suc, ◌+◌, ◌≤◌, ◌&&◌, Bool, true, false, true≢false, cond, not, nat_eq, nat_le, List, [], ◌∷◌, ◌++◌, map, length, Option, Some, None, refl, sym, ap, ◌∙◌, subst, inl, inr, ⊎_elim, arith}
use Rattle.std.specs.Prelude.{filter, slice_get}
use Rattle.std.specs.List.{list_any}
use Rattle.std.specs.Str.{bytes_eq}
use Rattle.std.proofs.lemmas.Bool.Decides.{nat_tests}
use Rattle.std.proofs.lemmas.Option.{none-some, same_Some}
use Rattle.std.proofs.lemmas.Slice.Eq.{bytes_eq-Decides}
use Rattle.list_laws.specs.Lists.{In, Each}
use Rattle.list_laws.proofs.Lists.{in_append, in_left, in_right, in_map, in_read, each_append, each_one, pairs_cases}
use Rattle.list_laws.proofs.Changes.{in_filter, filter_in, in_mapped}
use Rattle.list_laws.proofs.Tests.{eq_true, eq_false, true_eq, false_eq, le_true, and_true, not_true, has_in, in_has, same_bytes}
use Rattle.client_frames.specs.Frames.{reply_line}
use Rattle.outbox.specs.Views.{Written, with_last}
use Rattle.sub_table.specs.Subscriptions.{is_of, is_called, has_serial, serial_of, with_max}
use Rattle.sub_table.specs.declared.Subscription.{Subscription}
use Rattle.subj.specs.declared.jobs.Job.{Job}
use Rattle.shard_core.specs.Shards.{State, is_open, clients_with_change}
use Rattle.shard_core.specs.Closings.{serials_of, is_left, left_of, without_subs}
use Rattle.shard_core.specs.Owed.{Walk, walk, whole_walk, first_step, walk_after_put, walk_with_entry, walk_with_shut, slow_consumer, owed_entry, reaches, ended_by, is_due, sub_with_count, candidate_of, candidate_named, is_candidate}
use Rattle.shard_core.specs.Opened.{AreRising, AreApart}
use Rattle.shard_core.specs.ShardEvents.{Event, Unsubscribe, Reply, Shut, Detach, Begin, Claim}
use Rattle.shard_core.specs.ShardSteps.{sub_called, ended_now, after_unsubscribe, ended_by_unsubscribe, ended_by_reply, shard_after}
use Rattle.shard_core.specs.AsLaw.{given_by}
use Rattle.shard_core.specs.Causes.{AreHeld, max_after, sub_after}
use Rattle.shard_core.proofs.Closings.Closed.{counted_serials, max_serials}
use Rattle.shard_core.proofs.Closings.Ended.{distinct}
use Rattle.shard_core.proofs.Clients.Outboxes.{stays_open, stays_shut, shuts}
use Rattle.shard_core.proofs.Closings.Leaving.{open_there, each_way}

-- ---- one of its serial

pub one : (subs : List Subscription)
    → AreRising subs
    → (u v : Subscription)
    → In u subs
    → In v subs
    → u.serial ≡ v.serial
    → u ≡ v
one subs rising u v i j e =
    cases (pairs_cases (λ (a b : Subscription). a.serial ≢ b.serial) subs (distinct subs rising) u v i j)
  where
    cases : (u ≡ v) ⊎ ((u.serial ≢ v.serial) ⊎ (v.serial ≢ u.serial)) → u ≡ v
    cases (inl is) = is
    cases (inr (inl apart)) = absurd (apart e)
    cases (inr (inr apart)) = absurd (apart (sym e))

pub le_is : (n m : ℕ) → n ≤ m → nat_le n m ≡ true
le_is n m le = grind (arith, nat_tests)

pub reached : (max : Option ℕ) (n : ℕ) → reaches max n ≡ true → (m : ℕ) × (max ≡ Some m) × (m ≤ n)
reached None n e = absurd (true≢false (sym e))
reached (Some m) n e = (m, refl, le_true m n e)

reaching : (max : Option ℕ) (n m : ℕ) → max ≡ Some m → m ≤ n → reaches max n ≡ true
reaching max n m e le = ap (λ o. reaches o n) e ∙ le_is m n le

by_reach : (u : Subscription) (k : ℕ) → In k (ended_by u) → (k ≡ u.serial) × (reaches u.max (u.delivered + 1) ≡ true)
by_reach u k i = go (reaches u.max (u.delivered + 1)) refl i
  where
    go : (b : Bool)
        → reaches u.max (u.delivered + 1) ≡ b
        → In k (cond b (u.serial ∷ []) [])
        → (k ≡ u.serial) × (reaches u.max (u.delivered + 1) ≡ true)
    go true e (inl f) = (f, e)
    go true e (inr f) = absurd f
    go false e f = absurd f

reach_in : (u : Subscription) → reaches u.max (u.delivered + 1) ≡ true → In u.serial (ended_by u)
reach_in u e = subst (λ b. In u.serial (cond b (u.serial ∷ []) [])) (sym e) (inl refl)

-- ---- what a walk closes

abbrev pub Spends : Subscription → List Subscription → Type 0
Spends u given = (m : ℕ) × (u.max ≡ Some m) × (m ≤ u.delivered + 1) × In u given

pub record Told (s : State) (w : Walk) : Type 0 where
  pub ended_open : Each (λ k. In k (serials_of s.subs)) w.ended
  pub shut_ends : (u : Subscription)
      → In u s.subs
      → is_open u.conn s.clients ≡ true
      → is_open u.conn w.clients ≡ false
      → In u.serial w.ended
  pub ended_why : (u : Subscription)
      → In u s.subs
      → In u.serial w.ended
      → (is_open u.conn w.clients ≡ false) ⊎ Spends u w.given
  pub given_ends : (u : Subscription)
      → In u w.given
      → (m : ℕ)
      → u.max ≡ Some m
      → m ≤ u.delivered + 1
      → In u.serial w.ended
  pub given_some : Each (λ u. In u s.subs) w.given

pub first_told : (s : State) → Told s (first_step s.clients)
first_told s = record {
  ended_open = λ k i. absurd i;
  shut_ends = λ u i o c. absurd (true≢false (sym o ∙ c));
  ended_why = λ u i j. absurd j;
  given_ends = λ u i. absurd i;
  given_some = λ u i. absurd i;
}

pub give_told : (s : State) (entry : Written) (u : Subscription) (w : Walk) → AreRising s.subs → In u s.subs → Told s w
    → Told s (walk_with_entry entry u w)
give_told s entry u w rising here h = record {
  ended_open =
      each_append (λ k. In k (serials_of s.subs)) w.ended (ended_by u) h.ended_open
      (λ k i. subst (λ m. In m (serials_of s.subs)) (sym (by_reach u k i).0) (in_mapped serial_of s.subs u here));
  shut_ends = λ v i o c.
      in_left v.serial w.ended (ended_by u) (h.shut_ends v i o (sym (stays_open entry v.conn u.conn w.clients) ∙ c));
  ended_why = λ v i j. ⊎_elim (old v i) (new v i) (in_append v.serial w.ended (ended_by u) j);
  given_ends = λ v i m e le.
      ⊎_elim (λ j. in_left v.serial w.ended (ended_by u) (h.given_ends v j m e le))
      (λ j.
      ⊎_elim (λ (f : v ≡ u).
      in_right v.serial w.ended (ended_by u)
      (subst (λ (x : Subscription). In v.serial (ended_by x)) f (reach_in v (reaching v.max (v.delivered + 1) m e le))))
      (λ f. absurd f) j)
      (in_append v w.given (u ∷ []) i);
  given_some = each_append (λ v. In v s.subs) w.given (u ∷ []) h.given_some (each_one (λ v. In v s.subs) u here);
}
  where
    old : (v : Subscription)
        → In v s.subs
        → In v.serial w.ended
        → (is_open v.conn (clients_with_change
        (λ backlog. record { entries = backlog.entries ++ entry ∷ []; shut = backlog.shut }) u.conn w.clients) ≡ false)
        ⊎ Spends v (w.given ++ u ∷ [])
    old v i j =
        ⊎_elim (λ c. inl (stays_open entry v.conn u.conn w.clients ∙ c))
        (λ (x : Spends v w.given). inr (x.0, x.1, x.2, in_left v w.given (u ∷ []) x.3)) (h.ended_why v i j)

    new : (v : Subscription)
        → In v s.subs
        → In v.serial (ended_by u)
        → (is_open v.conn (clients_with_change
        (λ backlog. record { entries = backlog.entries ++ entry ∷ []; shut = backlog.shut }) u.conn w.clients) ≡ false)
        ⊎ Spends v (w.given ++ u ∷ [])
    new v i j =
        let x = by_reach u v.serial j in
        let r = reached u.max (u.delivered + 1) x.1 in
        inr (subst (λ (y : Subscription). Spends y (w.given ++ u ∷ [])) (sym (one s.subs rising v u i here x.0))
        (r.0, r.1, r.2, in_right u w.given (u ∷ []) (inl refl)))

pub left_is : (conn : ℕ) (ended : List ℕ) (subs : List Subscription) (k : ℕ)
    → In k (left_of conn ended subs)
    → (u : Subscription) × In u subs × (k ≡ u.serial) × (u.conn ≡ conn)
left_is conn ended subs k i =
    let m = in_map serial_of (filter (λ (sub : Subscription). is_of conn sub && is_left ended sub) subs) k i in
    let f = in_filter (λ (sub : Subscription). is_of conn sub && is_left ended sub) subs m.0 m.1 in
    (m.0, f.0, m.2, eq_true m.0.conn conn (and_true (is_of conn m.0) (is_left ended m.0) f.1).0)

pub left_in : (ended : List ℕ) (subs : List Subscription) (u : Subscription)
    → In u subs
    → list_any (nat_eq u.serial) ended ≡ false
    → In u.serial (left_of u.conn ended subs)
left_in ended subs u i e =
    in_mapped serial_of (filter (λ (sub : Subscription). is_of u.conn sub && is_left ended sub) subs) u
    (filter_in (λ (sub : Subscription). is_of u.conn sub && is_left ended sub) subs u i
    (λ j. true_eq u.conn u.conn refl j && not (e j)))

shut_told : (s : State) (u : Subscription) (w : Walk)
    → AreRising s.subs
    → Told s w
    → Told s (walk_with_shut s.subs u.conn w)
shut_told s u w rising h = record {
  ended_open =
      each_append (λ k. In k (serials_of s.subs)) w.ended (left_of u.conn w.ended s.subs) h.ended_open (λ k i.
      let x = left_is u.conn w.ended s.subs k i in
      subst (λ m. In m (serials_of s.subs)) (sym x.2) (in_mapped serial_of s.subs x.0 x.1));
  shut_ends = λ v i o c. closes v i o c (nat_eq v.conn u.conn) refl (list_any (nat_eq v.serial) w.ended) refl;
  ended_why = λ v i j.
      ⊎_elim
      (λ old. ⊎_elim (λ c. inl (stays_shut slow_consumer v.conn u.conn w.clients c)) (λ x. inr x) (h.ended_why v i old))
      (λ new.
      inl (let x = left_is u.conn w.ended s.subs v.serial new in
      subst (λ m. is_open m (clients_with_change (with_last slow_consumer) u.conn w.clients) ≡ false)
      (sym (ap (λ (y : Subscription). y.conn) (one s.subs rising v x.0 i x.1 x.2) ∙ x.3))
      (shuts slow_consumer u.conn w.clients)))
      (in_append v.serial w.ended (left_of u.conn w.ended s.subs) j);
  given_ends = λ v i m e le. in_left v.serial w.ended (left_of u.conn w.ended s.subs) (h.given_ends v i m e le);
  given_some = h.given_some;
}
  where
    closes : (v : Subscription)
        → In v s.subs
        → is_open v.conn s.clients ≡ true
        → is_open v.conn (clients_with_change (with_last slow_consumer) u.conn w.clients) ≡ false
        → (b : Bool)
        → nat_eq v.conn u.conn ≡ b
        → (d : Bool)
        → list_any (nat_eq v.serial) w.ended ≡ d
        → In v.serial (w.ended ++ left_of u.conn w.ended s.subs)
    closes v i o c b e true f = in_left v.serial w.ended (left_of u.conn w.ended s.subs) (has_in v.serial w.ended f)
    closes v i o c true e false f =
        in_right v.serial w.ended (left_of u.conn w.ended s.subs)
        (subst (λ m. In v.serial (left_of m w.ended s.subs)) (eq_true v.conn u.conn e) (left_in w.ended s.subs v i f))
    closes v i o c false e false f =
        in_left v.serial w.ended (left_of u.conn w.ended s.subs)
        (h.shut_ends v i o (sym (open_there slow_consumer u.conn v.conn w.clients (eq_false v.conn u.conn e)) ∙ c))

walk_told : (s : State) (job : Job) (due : List Subscription) (w : Walk)
    → AreRising s.subs
    → Each (λ u. In u s.subs) due
    → Told s w
    → Told s (walk s job due w)
walk_told s job [] w rising among h = h
walk_told s job (u ∷ due) w rising among h =
    walk_told s job due (walk_after_put s job w u) rising (λ v i. among v (inr i))
    (each_way (Told s) s job w u h
    (λ e f. give_told s (owed_entry s.shard s.clients job None u) u w rising (among u (inl refl)) h)
    (λ e f. shut_told s u w rising h))

pub walked_told : (s : State) (job : Job) → AreRising s.subs → Told s (whole_walk s job)
walked_told s job rising =
    walk_told s job (filter (is_due job) s.subs) (first_step s.clients) rising
    (λ u i. (in_filter (is_due job) s.subs u i).0) (first_told s)

pub candidate_open : (s : State) (hand : Option Job) (index : ℕ) (u : Subscription)
    → candidate_of s hand index ≡ Some u
    → In u s.subs
candidate_open s None index u e = absurd (none-some u e)
candidate_open s (Some job) index u e = go (slice_get job.queues index) e
  where
    go : (name : Option (List ℕ)) → candidate_named s job name ≡ Some u → In u s.subs
    go None f = absurd (none-some u f)
    go (Some name) f = (in_filter (is_candidate s job name) s.subs u (in_read _ _ u f)).0

-- ---- how many messages are for one

pub none_for : (k : ℕ) (given : List Subscription)
    → (In k (serials_of given) → ⊥)
    → length (filter (has_serial k) given) ≡ 0
none_for k [] out = refl
none_for k (u ∷ given) out =
    ap (λ b. length (cond b (u ∷ filter (has_serial k) given) (filter (has_serial k) given)))
    (false_eq u.serial k (λ e. out (inl (sym e))))
    ∙ none_for k given (λ i. out (inr i))

pub one_for : (k : ℕ) (given : List Subscription)
    → AreApart (serials_of given)
    → In k (serials_of given)
    → length (filter (has_serial k) given) ≡ 1
one_for k [] apart i = absurd i
one_for k (u ∷ given) apart (inl e) =
    ap (λ b. length (cond b (u ∷ filter (has_serial k) given) (filter (has_serial k) given)))
    (true_eq u.serial k (sym e))
    ∙ ap suc (none_for k given (λ i. apart.0 k i (sym e)))
one_for k (u ∷ given) apart (inr i) =
    ap (λ b. length (cond b (u ∷ filter (has_serial k) given) (filter (has_serial k) given)))
    (false_eq u.serial k (apart.0 k i))
    ∙ one_for k given apart.1 i

counted_is : (given : List Subscription) (u : Subscription)
    → AreApart (serials_of given)
    → sub_with_count (serials_of given) u
    ≡ record u { delivered = u.delivered + length (filter (has_serial u.serial) given) }
counted_is given u apart = go (list_any (nat_eq u.serial) (serials_of given)) refl
  where
    go : (b : Bool)
        → list_any (nat_eq u.serial) (serials_of given) ≡ b
        → (cond b (record u { delivered = u.delivered + 1 }) u)
        ≡ record u { delivered = u.delivered + length (filter (has_serial u.serial) given) }
    go true e = λ i. record u {
      delivered = u.delivered + sym (one_for u.serial given apart (has_in u.serial (serials_of given) e)) i;
    }
    go false e = λ i. record u {
      delivered =
          (sym (more u.delivered)
          ∙ ap (λ n. u.delivered + n)
          (sym (none_for u.serial given (λ j. true≢false (sym (in_has u.serial (serials_of given) j) ∙ e)))))
          i;
    }
      where
        more : (n : ℕ) → n + 0 ≡ n
        more n = omega arith

-- ---- what is open after an event that opens nothing

abbrev pub ended_by_claim : Option Job → Option Subscription → Bool → List ℕ
ended_by_claim None sub won = []
ended_by_claim (Some job) None won = []
ended_by_claim (Some job) (Some sub) true = ended_by sub
ended_by_claim (Some job) (Some sub) false = []

abbrev pub serials_ended : State → Event → List ℕ
serials_ended s (Unsubscribe conn sid max) = ended_by_unsubscribe max (sub_called conn sid s.subs)
serials_ended s (Reply conn frame) = ended_by_reply s conn (reply_line frame)
serials_ended s (Shut conn text) = left_of conn [] s.subs
serials_ended s (Detach conn) = left_of conn [] s.subs
serials_ended s (Begin job) = (whole_walk s job).ended
serials_ended s (Claim index won) = ended_by_claim s.hand (candidate_of s s.hand index) won
serials_ended s other = []

pub record Becomes (s : State) (e : Event) : Type 0 where
  pub us : List Subscription
  pub same : serials_of us ≡ serials_of s.subs
  pub after : (shard_after s e).subs ≡ filter (is_left (serials_ended s e)) us
  pub olds : Each (λ new. (old : Subscription) × In old s.subs × (new ≡ sub_after s e old))
      (filter (is_left (serials_ended s e)) us)
  pub some : Each (λ k. In k (serials_of s.subs)) (serials_ended s e)

pub none_left : (us : List Subscription) → us ≡ filter (is_left []) us
none_left [] = refl
none_left (u ∷ us) = ap (λ t. u ∷ t) (none_left us)

no_more : (n : ℕ) → n ≡ n + 0
no_more n = omega arith

pub same_on : (s : State) (e : Event) (u : Subscription)
    → given_by s e ≡ []
    → max_after e u ≡ u.max
    → u ≡ sub_after s e u
same_on s e u none max = λ i. record u {
  delivered = (no_more u.delivered ∙ ap (λ t. u.delivered + length (filter (has_serial u.serial) t)) (sym none)) i;
  max = sym max i;
}

pub closing : (s : State) (e : Event)
    → (shard_after s e).subs ≡ filter (is_left (serials_ended s e)) s.subs
    → Each (λ k. In k (serials_of s.subs)) (serials_ended s e)
    → given_by s e ≡ []
    → ((u : Subscription) → In u s.subs → is_left (serials_ended s e) u ≡ true → max_after e u ≡ u.max)
    → Becomes s e
closing s e after some given max = record {
  us = s.subs;
  same = refl;
  after = after;
  olds = λ u i.
      let f = in_filter (is_left (serials_ended s e)) s.subs u i in (u, f.0, same_on s e u given (max u f.0 f.1));
  some = some;
}

pub quiet : (s : State) (e : Event)
    → (shard_after s e).subs ≡ s.subs
    → serials_ended s e ≡ []
    → given_by s e ≡ []
    → ((u : Subscription) → In u s.subs → max_after e u ≡ u.max)
    → Becomes s e
quiet s e same none given max =
    closing s e (same ∙ none_left s.subs ∙ ap (λ t. filter (is_left t) s.subs) (sym none))
    (λ k i. absurd (subst (In k) none i)) given (λ u i l. max u i)

pub all_left : (conn : ℕ) (subs : List Subscription) → Each (λ k. In k (serials_of subs)) (left_of conn [] subs)
all_left conn subs k i =
    let x = left_is conn [] subs k i in subst (λ m. In m (serials_of subs)) (sym x.2) (in_mapped serial_of subs x.0 x.1)

pub giving : (s : State) (e : Event) (w : Walk)
    → (shard_after s e).subs ≡ filter (is_left w.ended) (map (sub_with_count (serials_of w.given)) s.subs)
    → serials_ended s e ≡ w.ended
    → given_by s e ≡ w.given
    → ((u : Subscription) → max_after e u ≡ u.max)
    → AreApart (serials_of w.given)
    → Told s w
    → Becomes s e
giving s e w after ended given max apart h = record {
  us = map (sub_with_count (serials_of w.given)) s.subs;
  same = counted_serials (serials_of w.given) s.subs;
  olds = λ new i.
      let m = in_map (sub_with_count (serials_of w.given)) s.subs new
      (in_filter (is_left (serials_ended s e)) (map (sub_with_count (serials_of w.given)) s.subs) new i).0 in (
        m.0,
        m.1,
        m.2 ∙ counted_is w.given m.0 apart ∙ (λ j. record m.0 {
          delivered = m.0.delivered + length (filter (has_serial m.0.serial) (sym given j));
          max = sym (max m.0) j;
        }),
      );
  after = after ∙ ap (λ t. filter (is_left t) (map (sub_with_count (serials_of w.given)) s.subs)) (sym ended);
  some = subst (Each (λ k. In k (serials_of s.subs))) (sym ended) h.ended_open;
}

-- the one that a connection calls by an id

pub called_is : (conn : ℕ) (sid : List ℕ) (subs : List Subscription) (u : Subscription)
    → sub_called conn sid subs ≡ Some u
    → In u subs × (is_called conn sid u ≡ true)
called_is conn sid [] u e = absurd (none-some u e)
called_is conn sid (x ∷ xs) u e = go (is_called conn sid x) refl (called_is conn sid xs u) e
  where
    go : (b : Bool)
        → is_called conn sid x ≡ b
        → (sub_called conn sid xs ≡ Some u → In u xs × (is_called conn sid u ≡ true))
        → cond b (Some x) (sub_called conn sid xs) ≡ Some u
        → In u (x ∷ xs) × (is_called conn sid u ≡ true)
    go true f more g = (inl (sym (same_Some x u g)), ap (is_called conn sid) (sym (same_Some x u g)) ∙ f)
    go false f more g = let m = more g in (inr m.0, m.1)

pub not_called : (conn : ℕ) (sid : List ℕ) (subs : List Subscription)
    → sub_called conn sid subs ≡ None
    → (u : Subscription)
    → In u subs
    → is_called conn sid u ≡ false
not_called conn sid [] e u i = absurd i
not_called conn sid (x ∷ xs) e u i = go (is_called conn sid x) refl (not_called conn sid xs) e i
  where
    go : (b : Bool)
        → is_called conn sid x ≡ b
        → (sub_called conn sid xs ≡ None → (u : Subscription) → In u xs → is_called conn sid u ≡ false)
        → cond b (Some x) (sub_called conn sid xs) ≡ None
        → (u ≡ x) ⊎ In u xs
        → is_called conn sid u ≡ false
    go true f more g j = absurd (none-some x (sym g))
    go false f more g (inl same) = ap (is_called conn sid) same ∙ f
    go false f more g (inr j) = more g u j

pub call : (conn : ℕ) (sid : List ℕ) (u : Subscription) → is_called conn sid u ≡ true → (u.conn ≡ conn) × (u.sid ≡ sid)
call conn sid u e =
    let b = and_true (is_of conn u) (bytes_eq u.sid sid) e in (eq_true u.conn conn b.0, same_bytes u.sid sid b.1)

pub call_is : (conn : ℕ) (sid : List ℕ) (u : Subscription) → u.conn ≡ conn → u.sid ≡ sid → is_called conn sid u ≡ true
call_is conn sid u e f = λ i. true_eq u.conn conn e i && bytes_same u.sid sid f i
  where
    bytes_same : (a b : List ℕ) → a ≡ b → bytes_eq a b ≡ true
    bytes_same a b e = (bytes_eq-Decides a b).1 e

pub one_called : (s : State)
    → AreHeld s
    → (conn : ℕ) (sid : List ℕ) (u v : Subscription)
    → In u s.subs
    → In v s.subs
    → is_called conn sid u ≡ true
    → is_called conn sid v ≡ true
    → u ≡ v
one_called s held conn sid u v i j e f =
    let a = call conn sid u e in
    let b = call conn sid v f in
    cases (pairs_cases (λ (x y : Subscription). x.conn ≡ y.conn → x.sid ≢ y.sid) s.subs held.called u v i j)
    (a.0 ∙ sym b.0) (a.1 ∙ sym b.1)
  where
    cases : (u ≡ v) ⊎ ((u.conn ≡ v.conn → u.sid ≢ v.sid) ⊎ (v.conn ≡ u.conn → v.sid ≢ u.sid))
        → u.conn ≡ v.conn
        → u.sid ≡ v.sid
        → u ≡ v
    cases (inl is) c d = is
    cases (inr (inl apart)) c d = absurd (apart c d)
    cases (inr (inr apart)) c d = absurd (apart (sym c) (sym d))

-- a maximum that is noted

in_max : (k : ℕ) (max : Option ℕ) (subs : List Subscription)
    → AreRising subs
    → (new : Subscription)
    → In new (with_max k max subs)
    → (old : Subscription) × In old subs
    × (((old.serial ≡ k) × (new ≡ record old { max = max })) ⊎ ((old.serial ≢ k) × (new ≡ old)))
in_max k max [] rising new i = absurd i
in_max k max (x ∷ xs) rising new i = go (has_serial k x) refl (in_max k max xs rising.1 new) i
  where
    go : (b : Bool)
        → has_serial k x ≡ b
        → (In new (with_max k max xs)
        → (old : Subscription) × In old xs
        × (((old.serial ≡ k) × (new ≡ record old { max = max })) ⊎ ((old.serial ≢ k) × (new ≡ old))))
        → In new (cond b (record x { max = max } ∷ xs) (x ∷ with_max k max xs))
        → (old : Subscription) × In old (x ∷ xs)
        × (((old.serial ≡ k) × (new ≡ record old { max = max })) ⊎ ((old.serial ≢ k) × (new ≡ old)))
    go true e more (inl f) = (x, inl refl, inl (eq_true x.serial k e, f))
    go true e more (inr j) = (
      new,
      inr j,
      inr (
        λ f.
            let lt = rising.0 new.serial (in_mapped serial_of xs new j) in
            let is = eq_true x.serial k e in
            absurd (omega arith),
        refl,
      ),
    )
    go false e more (inl f) = (x, inl refl, inr (eq_false x.serial k e, f))
    go false e more (inr j) = let m = more j in (m.0, inr m.1, m.2)

pub unsubscribes : (s : State)
    → AreHeld s
    → (conn : ℕ) (sid : List ℕ) (max : Option ℕ) (o : Option Subscription)
    → sub_called conn sid s.subs ≡ o
    → Becomes s (Unsubscribe conn sid max)
unsubscribes s held conn sid max None is =
    quiet s (Unsubscribe conn sid max) (ap (λ o. (after_unsubscribe s max o).subs) is)
    (ap (ended_by_unsubscribe max) is) refl (λ u i. ap (λ b. cond b max u.max) (not_called conn sid s.subs is u i))
unsubscribes s held conn sid max (Some u) is = go (ended_now max u) refl
  where
    here : In u s.subs × (is_called conn sid u ≡ true)
    here = called_is conn sid s.subs u is

    not_it : (v : Subscription) → In v s.subs → v.serial ≢ u.serial → is_called conn sid v ≡ false
    not_it v i apart = by (is_called conn sid v) refl
      where
        by : (b : Bool) → is_called conn sid v ≡ b → is_called conn sid v ≡ false
        by true e =
            absurd (apart (ap (λ (x : Subscription). x.serial) (one_called s held conn sid v u i here.0 e here.1)))
        by false e = e

    other : (v : Subscription) → In v s.subs → v.serial ≢ u.serial → max_after (Unsubscribe conn sid max) v ≡ v.max
    other v i apart = ap (λ b. cond b max v.max) (not_it v i apart)

    go : (b : Bool) → ended_now max u ≡ b → Becomes s (Unsubscribe conn sid max)
    go true e =
        let ends : serials_ended s (Unsubscribe conn sid max) ≡ u.serial ∷ [] =
        ap (ended_by_unsubscribe max) is ∙ ap (λ b. cond b (u.serial ∷ []) []) e in
        closing s (Unsubscribe conn sid max)
        (ap (λ o. (after_unsubscribe s max o).subs) is
        ∙ ap (λ b. (cond b (without_subs (u.serial ∷ []) s) (record s { subs = with_max u.serial max s.subs })).subs) e
        ∙ ap (λ t. filter (is_left t) s.subs) (sym ends))
        (λ k i.
        ⊎_elim (λ f. subst (λ m. In m (serials_of s.subs)) (sym f) (in_mapped serial_of s.subs u here.0))
        (λ f. absurd f) (subst (In k) ends i))
        refl (λ v i l.
        other v i (λ f.
        true≢false (sym (in_has v.serial (u.serial ∷ []) (inl f))
        ∙ not_true (list_any (nat_eq v.serial) (u.serial ∷ [])) (ap (λ t. is_left t v) (sym ends) ∙ l))))
    go false e =
        let ends : serials_ended s (Unsubscribe conn sid max) ≡ [] =
        ap (ended_by_unsubscribe max) is ∙ ap (λ b. cond b (u.serial ∷ []) []) e in
        record {
          us = with_max u.serial max s.subs;
          same = max_serials u.serial max s.subs;
          after =
              ap (λ o. (after_unsubscribe s max o).subs) is
              ∙ ap
              (λ b. (cond b (without_subs (u.serial ∷ []) s) (record s { subs = with_max u.serial max s.subs })).subs) e
              ∙ none_left (with_max u.serial max s.subs)
              ∙ ap (λ t. filter (is_left t) (with_max u.serial max s.subs)) (sym ends);
          olds = λ new i.
              let m = in_max u.serial max s.subs held.rising new
              (in_filter (is_left (serials_ended s (Unsubscribe conn sid max))) (with_max u.serial max s.subs) new
              i).0 in (
                m.0,
                m.1,
                ⊎_elim (λ (f : (m.0.serial ≡ u.serial) × (new ≡ record m.0 { max = max })).
                    let it : is_called conn sid m.0 ≡ true =
                    ap (is_called conn sid) (one s.subs held.rising m.0 u m.1 here.0 f.0) ∙ here.1 in
                    f.1
                    ∙ (λ j. record m.0 {
                      delivered = no_more m.0.delivered j;
                      max = sym (ap (λ b. cond b max m.0.max) it) j;
                    }))
                    (λ (f : (m.0.serial ≢ u.serial) × (new ≡ m.0)).
                    f.1 ∙ same_on s (Unsubscribe conn sid max) m.0 refl (other m.0 m.1 f.0))
                    m.2,
              );
          some = λ k i. absurd (subst (In k) ends i);
        }
