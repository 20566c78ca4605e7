-- The sessions over their runs: which one is kept, of all that were offered since the last one was
-- cut.
use Rattle.std.specs.Prelude.{◌≡◌, ℕ, Bool, true, false, nat_eq, List, [], ◌∷◌, ◌++◌, Option, Some, None, option_map, if◌then◌else◌}
use Rattle.subj.specs.Servers.{ServerIdentity}
use Rattle.route_session.specs.declared.faults.SessionFault.{SessionFault}
use Rattle.route_session.specs.declared.faults.SessionFault.TheVariants.{Duplicate}
use Rattle.route_session.specs.Best.{Offer, best_after}
use Rattle.route_session.specs.State.{State, no_sessions, session_at, offer_kept, number_kept}
use Rattle.route_session.specs.Steps.{info_offer, connect_offer, session_refusal, session_after}
use Rattle.route_session.specs.Events.{Event, OnInfo, OnConnect, Cut}

-- ---- events one after the other: what is refused leaves all as it was

abbrev pub next_of : State → State → Option SessionFault → State
next_of old new None = new
next_of old new (Some why) = old

abbrev pub next : ServerIdentity → State → Event → State
next server s e = next_of s (session_after server s e) (session_refusal server s e)

abbrev pub after_run : ServerIdentity → State → List Event → State
after_run server s [] = s
after_run server s (e ∷ es) = after_run server (next server s e) es

-- ---- what was offered for the peer at this place

-- it was judged: kept, or refused as a duplicate of the kept one
abbrev pub is_judged : Option SessionFault → Bool
is_judged None = true
is_judged (Some (Duplicate kept)) = true
is_judged (Some other) = false

abbrev pub offer_of : ServerIdentity → State → Event → Option Offer
offer_of server s (OnInfo number info least) =
    option_map (λ session. info_offer server session info) (session_at number s.standing)
offer_of server s (OnConnect number connect least) =
    option_map (λ session. connect_offer server connect) (session_at number s.standing)
offer_of server s other = None

abbrev pub of_peer : ℕ → Option Offer → List Offer
of_peer q None = []
of_peer q (Some offer) = if nat_eq offer.peer q then offer ∷ [] else []

abbrev pub offers_at : ℕ → ServerIdentity → State → Event → List Offer
offers_at q server s e =
    if is_judged (session_refusal server s e) then of_peer q (offer_of server s e) else []

-- the kept session of the peer is cut
abbrev pub is_number : ℕ → Option ℕ → Bool
is_number number None = false
is_number number (Some kept) = nat_eq kept number

abbrev pub cuts : ℕ → State → Event → Bool
cuts q s (Cut number) = is_number number (number_kept q s.standing)
cuts q s other = false

-- what was offered since the last one that was kept was cut
abbrev pub offers_since : ℕ → ServerIdentity → State → List Event → List Offer → List Offer
offers_since q server s [] offers = offers
offers_since q server s (e ∷ es) offers =
    offers_since q server (next server s e) es
    (if cuts q s e then [] else offers ++ offers_at q server s e)

-- of every run from the start, and each peer: what is kept is the best of that
abbrev pub BestStaysKept : Type 0
BestStaysKept =
    (server : ServerIdentity) (q : ℕ) (events : List Event)
    → offer_kept q (after_run server no_sessions events).standing
    ≡ best_after None (offers_since q server no_sessions events [])
