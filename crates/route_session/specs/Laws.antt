-- What is kept, and that two ends keep the same.
use Rattle.std.specs.Prelude.{◌≡◌, ◌↔◌, ℕ, true, false, List, [], ◌∷◌, ◌++◌, map, Option, Some, None, MatchOption}
use Rattle.std.specs.List.{AllByRecursion}
use Rattle.list_laws.specs.Lists.{In}
use Rattle.subj.specs.Servers.{ServerIdentity}
use Rattle.route_values.specs.Records.{Info, Connect}
use Rattle.route_session.specs.declared.faults.SessionFault.TheVariants.{Duplicate}
use Rattle.route_session.specs.Best.{Offer, is_better, better_of_kept, best_after}
use Rattle.route_session.specs.State.{State, Session, session_at, offer_kept}
use Rattle.route_session.specs.Steps.{info_offer, connect_offer, session_refusal, session_after}
use Rattle.route_session.specs.Events.{Event, OnInfo, OnConnect}

-- ---- one end

-- of the session kept for the peer, if there is one, and the new one the better stays: the new one
-- where it is not refused, and the kept one where it is a duplicate
pub record BestStays (server : ServerIdentity) (s : State) (e : Event) (offer : Offer) :
    Type 0 where
  pub taken : session_refusal server s e ≡ None
      → offer_kept offer.peer (session_after server s e).standing
      ≡ better_of_kept offer (offer_kept offer.peer s.standing)
  pub refused : (kept : ℕ)
      → session_refusal server s e ≡ Some (Duplicate kept)
      → offer_kept offer.peer s.standing ≡ better_of_kept offer (offer_kept offer.peer s.standing)

abbrev pub InfoKeepsBest : Type 0
InfoKeepsBest =
    (server : ServerIdentity) (s : State) (number : ℕ) (info : Info) (least : ℕ) (session : Session)
    → session_at number s.standing ≡ Some session
    → BestStays server s (OnInfo number info least) (info_offer server session info)

abbrev pub ConnectKeepsBest : Type 0
ConnectKeepsBest =
    (server : ServerIdentity) (s : State) (number : ℕ) (connect : Connect) (least : ℕ)
    (session : Session)
    → session_at number s.standing ≡ Some session
    → BestStays server s (OnConnect number connect least) (connect_offer server connect)

-- ---- the best of those offered

-- it is one of them, better than each before it, and none behind it is better: the best, and of
-- equal ones the first
pub record IsFirstBest (best : Offer) (offers : List Offer) : Type 0 where
  pub before : List Offer
  pub behind : List Offer
  pub among : offers ≡ before ++ best ∷ behind
  pub over : AllByRecursion (λ offer. is_better best offer ≡ true) before
  pub under : AllByRecursion (λ offer. is_better offer best ≡ false) behind

-- where some are offered, this one is kept
abbrev pub BestIsKept : Type 0
BestIsKept =
    (offers : List Offer)
    → MatchOption (best_after None offers) (offers ≡ []) (λ best. IsFirstBest best offers)

-- ---- two ends

-- a session of the two: the place of the one that dialed, and the serial of the dial there
abbrev pub Dial : Type 0
Dial = ℕ × ℕ

-- what it is to an end whose peer stands at this place with this incarnation
abbrev pub offer_of : ℕ → ℕ → Dial → Offer
offer_of peer inc dial = record { peer = peer; inc = inc; dialer = dial.0; serial = dial.1 }

abbrev pub dial_kept : Option Offer → Option Dial
dial_kept None = None
dial_kept (Some offer) = Some (offer.dialer, offer.serial)

-- the dial that an end keeps of those offered to it one after the other, all of one incarnation of
-- its peer
abbrev pub kept_after_dials : ℕ → ℕ → List Dial → Option Dial
kept_after_dials peer inc dials = dial_kept (best_after None (map (offer_of peer inc) dials))

-- two ends to which the same dials were offered, in any orders and any number of times, keep the
-- same one
abbrev pub EndsAgree : Type 0
EndsAgree =
    (here there here_inc there_inc : ℕ) (dials others : List Dial)
    → ((dial : Dial) → In dial dials ↔ In dial others)
    → kept_after_dials there there_inc dials ≡ kept_after_dials here here_inc others
