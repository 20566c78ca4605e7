-- The sessions of a server as its callers see them (profile; INFO and CONNECT: NATS documentation,
-- "Cluster Protocol").
use Rattle.std.specs.Prelude.{ℕ, Bool, false, ◌&&◌, nat_eq, List, [], find, Option, Some, None}
use Rattle.std.specs.List.{list_any}
use Rattle.std.specs.Option.{option_and_then, option_map}
use Rattle.route_session.specs.Best.{Offer}

-- a session that stands: its number; of a dialed one the place of the server dialed, and the serial
-- of the dial; and what was offered once it is completed, which is then the kept one of its peer
pub record Session : Type 0 where
  pub number : ℕ
  pub dialed : Option ℕ
  pub serial : ℕ
  pub kept : Option Offer

-- how many sessions there were, how many of them were dialed, and those that stand, in order of
-- their numbers
pub record State : Type 0 where
  pub numbers : ℕ
  pub dials : ℕ
  pub standing : List Session

abbrev pub no_sessions : State
no_sessions = record { numbers = 0; dials = 0; standing = [] }

abbrev pub session_at : ℕ → List Session → Option Session
session_at number standing = find (λ session. nat_eq session.number number) standing

abbrev pub is_of_peer : ℕ → Option Offer → Bool
is_of_peer q None = false
is_of_peer q (Some offer) = nat_eq offer.peer q

-- the kept session of the peer at this place
abbrev pub kept_for : ℕ → List Session → Option Session
kept_for q standing = find (λ session. is_of_peer q session.kept) standing

abbrev pub offer_kept : ℕ → List Session → Option Offer
offer_kept q standing = option_and_then (λ session. session.kept) (kept_for q standing)

abbrev pub number_kept : ℕ → List Session → Option ℕ
number_kept q standing = option_map (λ session. session.number) (kept_for q standing)

-- the place of the peer whose kept session this is
abbrev pub peer_of_session : ℕ → List Session → Option ℕ
peer_of_session number standing =
    option_map (λ offer. offer.peer)
    (option_and_then (λ session. session.kept) (session_at number standing))

-- a session with this incarnation of the peer at this place is kept
abbrev pub is_kept_at : ℕ → ℕ → Option Offer → Bool
is_kept_at q inc None = false
is_kept_at q inc (Some offer) = nat_eq offer.peer q && nat_eq offer.inc inc

abbrev pub has_session : ℕ → ℕ → List Session → Bool
has_session q inc standing = list_any (λ session. is_kept_at q inc session.kept) standing
