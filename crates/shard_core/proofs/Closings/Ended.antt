-- What a walk gives and closes: each subscription at most once.
use Rattle.std.proofs.Common.{◌≡◌, ◌≢◌, ℕ, ◌+◌, ◌<◌, ◌&&◌, Bool, true, false, not, cond, true≢false, List, [], ◌∷◌, filter, nat_eq, None, refl, sym, ap, ◌∙◌, subst, inl, inr, arith}
use Rattle.std.specs.Prelude.{◌⊎◌}
use Rattle.std.specs.List.{list_any}
use Rattle.list_laws.specs.Lists.{In, Each, Pairs}
use Rattle.list_laws.proofs.Lists.{in_append, in_map, pairs_append, pairs_cases, pairs_weaker, pairs_map}
use Rattle.list_laws.proofs.Changes.{in_filter, pairs_filter, pairs_map_back, pairs_sub}
use Rattle.list_laws.proofs.Tests.{eq_true, and_true, in_has}
use Rattle.outbox.specs.Views.{with_last}
use Rattle.sub_table.specs.Subscriptions.{is_of, serial_of}
use Rattle.sub_table.specs.declared.Subscription.{Subscription}
use Rattle.subj.specs.declared.jobs.Job.{Job}
use Rattle.shard_core.specs.Shards.{State, client_at, is_open, clients_with_change, fits}
use Rattle.shard_core.specs.Closings.{serials_of, is_left, left_of}
use Rattle.shard_core.specs.Opened.{AreRising, AreApart}
use Rattle.shard_core.specs.Owed.{Walk, walk, whole_walk, first_step, walk_with_entry, walk_with_shut, slow_consumer, owed_entry, reaches, ended_by, is_due}
use Rattle.shard_core.proofs.Steps.LawEvents.{walk_gives}
use Rattle.shard_core.proofs.Clients.Outboxes.{stays_open, stays_shut, shuts}
use Rattle.shard_core.proofs.Closings.Serials.{apart_among}

-- subscriptions of one serial are one
abbrev pub AreDistinct : List Subscription → Type 0
AreDistinct subs = Pairs (λ (u v : Subscription). u.serial ≢ v.serial) subs

pub distinct : (subs : List Subscription) → AreRising subs → AreDistinct subs
distinct subs rising =
    pairs_weaker (λ (u v : Subscription). u.serial < v.serial) (λ (u v : Subscription). u.serial ≢ v.serial) subs
    (λ u v _ _ lt same. absurd (omega (arith, lt, same))) (pairs_map_back (λ (j k : ℕ). j < k) serial_of subs rising)

-- none closed twice, and none of those still to come on a connection that is open
record IsFresh (rest : List Subscription) (w : Walk) : Type 0 where
  apart : AreApart w.ended
  fresh : (u : Subscription) → In u rest → is_open u.conn w.clients ≡ true → In u.serial w.ended → ⊥

in_ended_by : (sub : Subscription) (k : ℕ) → In k (ended_by sub) → k ≡ sub.serial
in_ended_by sub k there = by (reaches sub.max (sub.delivered + 1)) there where
  by : (b : Bool) → In k (cond b (sub.serial ∷ []) []) → k ≡ sub.serial
  by true (inl e) = e
  by true (inr i) = absurd i
  by false i = absurd i

one_apart : (sub : Subscription) → AreApart (ended_by sub)
one_apart sub = by (reaches sub.max (sub.delivered + 1)) where
  by : (b : Bool) → AreApart (cond b (sub.serial ∷ []) [])
  by true = ((λ k i. absurd i), tt)
  by false = tt

in_left_of : (conn : ℕ) (ended : List ℕ) (subs : List Subscription) (k : ℕ)
    → In k (left_of conn ended subs)
    → (sub : Subscription) × In sub subs × (k ≡ sub.serial) × (sub.conn ≡ conn) × (list_any (nat_eq k) ended ≡ false)
in_left_of conn ended subs k there =
    let m = in_map serial_of (filter (λ (sub : Subscription). is_of conn sub && is_left ended sub) subs) k there in
    let f = in_filter (λ (sub : Subscription). is_of conn sub && is_left ended sub) subs m.0 m.1 in
    let both = and_true (is_of conn m.0) (is_left ended m.0) f.1 in (
      m.0,
      f.0,
      m.2,
      eq_true m.0.conn conn both.0,
      ap (λ n. list_any (nat_eq n) ended) m.2 ∙ unless (list_any (nat_eq m.0.serial) ended) both.1,
    )
  where
    unless : (b : Bool) → not b ≡ true → b ≡ false
    unless true e = absurd (true≢false (sym e))
    unless false e = refl

given_fresh : (s : State) (job : Job) (u : Subscription) (rest : List Subscription) (w : Walk)
    → Each (λ v. u.serial ≢ v.serial) rest
    → is_open u.conn w.clients ≡ true
    → IsFresh (u ∷ rest) w
    → IsFresh rest (walk_with_entry (owed_entry s.shard s.clients job None u) u w)
given_fresh s job u rest w apart opened h = record {
  apart =
      pairs_append (λ (j k : ℕ). j ≢ k) w.ended (ended_by u) h.apart (one_apart u)
      (λ j k i l e. h.fresh u (inl refl) opened (subst (λ n. In n w.ended) (e ∙ in_ended_by u k l) i));
  fresh = λ v i o there.
      by v i (sym (stays_open (owed_entry s.shard s.clients job None u) v.conn u.conn w.clients) ∙ o)
      (in_append v.serial w.ended (ended_by u) there);
}
  where
    by : (v : Subscription)
        → In v rest
        → is_open v.conn w.clients ≡ true
        → In v.serial w.ended ⊎ In v.serial (ended_by u)
        → ⊥
    by v i o (inl there) = h.fresh v (inr i) o there
    by v i o (inr there) = apart v i (sym (in_ended_by u v.serial there))

-- a connection that is open behind a shut of another was open, and is another
still_open : (j k : ℕ) (w : Walk)
    → is_open k (clients_with_change (with_last slow_consumer) j w.clients) ≡ true
    → (is_open k w.clients ≡ true) × (k ≢ j)
still_open j k w o = (
  by (is_open k w.clients) refl,
  λ same.
      absurd (true≢false (sym o ∙ ap (λ n. is_open n (clients_with_change (with_last slow_consumer) j w.clients)) same
      ∙ shuts slow_consumer j w.clients)),
)
  where
    by : (b : Bool) → is_open k w.clients ≡ b → is_open k w.clients ≡ true
    by true e = e
    by false e = absurd (true≢false (sym o ∙ stays_shut slow_consumer k j w.clients e))

shut_fresh : (s : State) (u : Subscription) (rest : List Subscription) (w : Walk)
    → AreRising s.subs
    → Each (λ v. In v s.subs) rest
    → IsFresh (u ∷ rest) w
    → IsFresh rest (walk_with_shut s.subs u.conn w)
shut_fresh s u rest w rising among h = record {
  apart =
      pairs_append (λ (j k : ℕ). j ≢ k) w.ended (left_of u.conn w.ended s.subs) h.apart
      (apart_among (λ (sub : Subscription). is_of u.conn sub && is_left w.ended sub) s.subs rising) (λ j k i l e.
      absurd (true≢false
      (sym (in_has j w.ended i) ∙ ap (λ n. list_any (nat_eq n) w.ended) e ∙ (in_left_of u.conn w.ended s.subs k l).4)));
  fresh = λ v i o there.
      by v i (still_open u.conn v.conn w o) (in_append v.serial w.ended (left_of u.conn w.ended s.subs) there);
}
  where
    same : (v sub : Subscription) → In v s.subs → In sub s.subs → v.serial ≡ sub.serial → v ≡ sub
    same v sub i l e =
        cases (pairs_cases (λ (a b : Subscription). a.serial ≢ b.serial) s.subs (distinct s.subs rising) v sub i l)
      where
        cases : (v ≡ sub) ⊎ ((v.serial ≢ sub.serial) ⊎ (sub.serial ≢ v.serial)) → v ≡ sub
        cases (inl is) = is
        cases (inr (inl apart)) = absurd (apart e)
        cases (inr (inr apart)) = absurd (apart (sym e))

    by : (v : Subscription)
        → In v rest
        → (is_open v.conn w.clients ≡ true) × (v.conn ≢ u.conn)
        → In v.serial w.ended ⊎ In v.serial (left_of u.conn w.ended s.subs)
        → ⊥
    by v i o (inl there) = h.fresh v (inr i) o.0 there
    by v i o (inr there) =
        let it = in_left_of u.conn w.ended s.subs v.serial there in
        o.1 (ap (λ (x : Subscription). x.conn) (same v it.0 (among v i) it.1 it.2) ∙ it.3)

less_fresh : (u : Subscription) (rest : List Subscription) (w : Walk) → IsFresh (u ∷ rest) w → IsFresh rest w
less_fresh u rest w h = record { apart = h.apart; fresh = λ v i o there. h.fresh v (inr i) o there }

walk_fresh : (s : State) (job : Job) (due : List Subscription) (w : Walk)
    → AreRising s.subs
    → Each (λ v. In v s.subs) due
    → AreDistinct due
    → IsFresh due w
    → IsFresh [] (walk s job due w)
walk_fresh s job [] w rising among apart h = h
walk_fresh s job (u ∷ due) w rising among apart h =
    by (is_open u.conn w.clients) (fits (client_at u.conn w.clients) (owed_entry s.shard s.clients job None u)) refl
    (λ v g. walk_fresh s job due v rising (λ x i. among x (inr i)) apart.1 g)
  where
    by : (o r : Bool)
        → is_open u.conn w.clients ≡ o
        → ((v : Walk) → IsFresh due v → IsFresh [] (walk s job due v))
        → IsFresh [] (walk s job due (cond o
        (cond r (walk_with_entry (owed_entry s.shard s.clients job None u) u w) (walk_with_shut s.subs u.conn w)) w))
    by false r e more = more w (less_fresh u due w h)
    by true true e more =
        more (walk_with_entry (owed_entry s.shard s.clients job None u) u w) (given_fresh s job u due w apart.0 e h)
    by true false e more =
        more (walk_with_shut s.subs u.conn w) (shut_fresh s u due w rising (λ x i. among x (inr i)) h)

due_among : (job : Job) (subs : List Subscription) → Each (λ v. In v subs) (filter (is_due job) subs)
due_among job subs v i = (in_filter (is_due job) subs v i).0

pub ended_apart : (s : State) (job : Job) → AreRising s.subs → AreApart (whole_walk s job).ended
ended_apart s job rising =
    (walk_fresh s job (filter (is_due job) s.subs) (first_step s.clients) rising (due_among job s.subs)
    (pairs_filter (λ (u v : Subscription). u.serial ≢ v.serial) (is_due job) s.subs (distinct s.subs rising))
    (record { apart = tt; fresh = λ v i o there. absurd there })).apart

pub given_apart : (s : State) (job : Job) → AreRising s.subs → AreApart (serials_of (whole_walk s job).given)
given_apart s job rising =
    let gave = walk_gives s job (filter (is_due job) s.subs) (first_step s.clients) in
    let new : AreDistinct gave.new = pairs_sub (λ (u v : Subscription). u.serial ≢ v.serial) gave.new
    (filter (is_due job) s.subs) gave.some
    (pairs_filter (λ (u v : Subscription). u.serial ≢ v.serial) (is_due job) s.subs (distinct s.subs rising)) in
    subst (λ l. AreApart (serials_of l)) (sym gave.given) (pairs_map (λ (j k : ℕ). j ≢ k) serial_of gave.new new)
