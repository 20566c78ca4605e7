-- Which of two completed sessions with a peer is the better one (profile).
use Rattle.std.specs.Prelude.{ℕ, Bool, ◌&&◌, ◌||◌, nat_eq, nat_lt, List, [], ◌∷◌, Option, Some, None, if◌then◌else◌}

-- a completed session: the place of the peer and its incarnation, the place of the server that
-- dialed, and the serial of the dial there
pub record Offer : Type 0 where
  pub peer : ℕ
  pub inc : ℕ
  pub dialer : ℕ
  pub serial : ℕ

-- the greater incarnation of the peer, then the dialer with the smaller place, then the greater
-- serial; of equal ones none is better
abbrev pub is_better : Offer → Offer → Bool
is_better new old =
    nat_lt old.inc new.inc
    || (nat_eq old.inc new.inc
    && (nat_lt new.dialer old.dialer
    || (nat_eq new.dialer old.dialer && nat_lt old.serial new.serial)))

abbrev pub better_of : Offer → Offer → Offer
better_of new old = if is_better new old then new else old

abbrev pub better_of_kept : Offer → Option Offer → Option Offer
better_of_kept new None = Some new
better_of_kept new (Some old) = Some (better_of new old)

-- the best of those offered one after the other, where one may be kept before; of equals the
-- earlier stays
abbrev pub best_after : Option Offer → List Offer → Option Offer
best_after kept [] = kept
best_after kept (new ∷ later) = best_after (better_of_kept new kept) later
