-- Serials of open subscriptions rise, and so none stands twice.
use Rattle.std.proofs.Common.{◌≡◌, ◌≢◌, ℕ, ◌<◌, Bool, true, false, cond, List, [], ◌∷◌, filter, Option, Some, None, refl, sym, ap, ◌∙◌, subst, inl, inr, arith}
use Rattle.std.specs.Prelude.{find, option_map}
use Rattle.list_laws.specs.Lists.{In}
use Rattle.list_laws.proofs.Lists.{pairs_map, pairs_weaker}
use Rattle.list_laws.proofs.Tests.{true_eq, false_eq}
use Rattle.list_laws.proofs.Changes.{pairs_filter, pairs_map_back}
use Rattle.sub_table.specs.Subscriptions.{is_called, has_serial, serial_called, serial_of}
use Rattle.sub_table.specs.declared.Subscription.{Subscription}
use Rattle.shard_core.specs.Closings.{serials_of}
use Rattle.shard_core.specs.ShardSteps.{sub_called}
use Rattle.shard_core.specs.Opened.{AreRising, AreApart}

none_some : {A : Type 0} (x : A) → None ≡ Some x → ⊥
none_some x e = absurd (cc)

-- no serial stands twice among those of some
pub apart_among : (p : Subscription → Bool) (subs : List Subscription)
    → AreRising subs
    → AreApart (serials_of (filter p subs))
apart_among p subs rising =
    pairs_map (λ (j k : ℕ). j ≢ k) serial_of (filter p subs)
    (pairs_filter (λ (u v : Subscription). u.serial ≢ v.serial) p subs
    (pairs_weaker (λ (u v : Subscription). u.serial < v.serial) (λ (u v : Subscription). u.serial ≢ v.serial) subs
    (λ u v _ _ lt same. absurd (omega (arith, lt, same))) (pairs_map_back (λ (j k : ℕ). j < k) serial_of subs rising)))

-- ---- what a connection calls by an id, found by its serial

by_serial : (p : Subscription → Bool) (subs : List Subscription) (sub : Subscription)
    → AreRising subs
    → find p subs ≡ Some sub
    → (find (has_serial sub.serial) subs ≡ Some sub) × In sub.serial (serials_of subs)
by_serial p [] sub rising e = absurd (none_some sub e)
by_serial p (u ∷ us) sub rising e = by (p u) e (by_serial p us sub rising.1) where
  by : (b : Bool)
      → cond b (Some u) (find p us) ≡ Some sub
      → (find p us ≡ Some sub → (find (has_serial sub.serial) us ≡ Some sub) × In sub.serial (serials_of us))
      → (find (has_serial sub.serial) (u ∷ us) ≡ Some sub) × In sub.serial (u.serial ∷ serials_of us)
  by true is more =
      let same : u ≡ sub = cc in (
        subst (λ (v : Subscription). find (has_serial v.serial) (u ∷ us) ≡ Some v) same
            (ap (λ b. cond b (Some u) (find (has_serial u.serial) us)) (true_eq u.serial u.serial refl)),
        inl (sym (ap (λ (v : Subscription). v.serial) same)),
      )
  by false is more =
      let it = more is in
      let lt : u.serial < sub.serial = rising.0 sub.serial it.1 in (
        ap (λ b. cond b (Some u) (find (has_serial sub.serial) us))
            (false_eq u.serial sub.serial (λ same. absurd (omega (arith, lt, same)))) ∙ it.0,
        inr it.1,
      )

pub called_by_serial : (conn : ℕ) (sid : List ℕ) (subs : List Subscription) (serial : ℕ)
    → AreRising subs
    → serial_called conn sid subs ≡ Some serial
    → sub_called conn sid subs ≡ find (has_serial serial) subs
called_by_serial conn sid subs serial rising is = by (find (is_called conn sid) subs) refl is where
  by : (o : Option Subscription)
      → find (is_called conn sid) subs ≡ o
      → option_map serial_of o ≡ Some serial
      → find (is_called conn sid) subs ≡ find (has_serial serial) subs
  by None e told = absurd (none_some serial told)
  by (Some sub) e told =
      let same : sub.serial ≡ serial = cc in
      e ∙ sym ((by_serial (is_called conn sid) subs sub rising e).0) ∙ ap (λ k. find (has_serial k) subs) same
