-- What an INFO and a CONNECT offer, and why they are refused, as the code tests it.
use Rattle.std.proofs.Common.{◌≡◌, ℕ, ◌≤◌, Bool, true, false, not, ◌&&◌, nat_eq, nat_lt, nat_le, cond, List, length, Option, Some, None, Result, Ok, Err, refl, sym, ap, ◌∙◌, subst, arith}
use Rattle.std.specs.Prelude.{position, is_some, IfSome, ⊤}
use Rattle.std.specs.Option.{option_map}
use Rattle.std.specs.Str.{bytes_eq}
use Rattle.std.specs.Bool.{then_some}
use Rattle.std.proofs.lemmas.Bool.Decides.{nat_tests}
use Rattle.std.proofs.lemmas.Option.{none-some, same_Some}
use Rattle.subj.specs.Servers.{ServerIdentity, place, is_peer}
use Rattle.route_values.specs.Records.{Info, is_serial}
use Rattle.list_laws.proofs.Tests.{true_eq}
use Rattle.subj.specs.declared.limits.TheConstants.{MAX_COUNTER}
use Rattle.subj.specs.Answers.{IsDecided}
use Rattle.route_session.specs.declared.faults.SessionFault.{SessionFault}
use Rattle.route_session.specs.declared.faults.SessionFault.TheVariants.{WrongName, OldIncarnation, UnknownSession}
use Rattle.route_session.specs.Best.{Offer}
use Rattle.route_session.specs.State.{State, Session, session_at, kept_for}
use Rattle.route_session.specs.Steps.{duplicate_fault, info_fault, info_refusal, info_offer, after_completion, after_info, serial_of}
use Rattle.route_session.specs.Events.{OnInfo}
use Rattle.route_session.specs.Calls.{Served, refusal, IsSession, AreSessions, is_dial, is_of_a_peer, peer_of, not_completed, open_session, IsInfoOffer}
use Rattle.route_session.proofs.BestStays.{same_number}
use Rattle.route_session.proofs.Sound.{found}

-- ---- the peer of a name

past : (a b : ℕ) → cond (nat_lt a b) (Some a) None ≡ None → nat_lt a b ≡ false
past a b e = grind (arith, nat_tests)

within : (a b i : ℕ) → cond (nat_lt a b) (Some a) None ≡ Some i → a ≡ i
within a b i e = grind (arith, nat_tests)

pub nobody : (server : ServerIdentity) (name : List ℕ)
    → position (λ other. bytes_eq other name) server.names ≡ None
    → peer_of server name ≡ None
nobody server name e =
    go (nat_lt (place server name) (length server.names)) (past (place server name) (length server.names) e)
    (not (nat_eq (place server name) server.me))
  where
    go : (b : Bool) → b ≡ false → (a : Bool) → cond (a && b) (Some (place server name)) None ≡ None
    go b e true = ap (λ t. cond t (Some (place server name)) None) e
    go b e false = refl

pub at_place : (server : ServerIdentity) (name : List ℕ) (q : ℕ)
    → position (λ other. bytes_eq other name) server.names ≡ Some q
    → then_some (is_peer server q) q ≡ peer_of server name
at_place server name q e =
    go (is_peer server q)
    ∙ ap (λ p. cond (is_peer server p) (Some p) None) (sym (within (place server name) (length server.names) q e))
  where
    go : (b : Bool) → then_some b q ≡ cond b (Some q) None
    go true = refl
    go false = refl

record IsPeerOf (server : ServerIdentity) (name : List ℕ) (q : ℕ) : Type 0 where
  same : place server name ≡ q
  peer : is_peer server q ≡ true

peer_is : (server : ServerIdentity) (name : List ℕ) (q : ℕ) → peer_of server name ≡ Some q → IsPeerOf server name q
peer_is server name q e = go (is_peer server (place server name)) refl e
  where
    go : (b : Bool)
        → is_peer server (place server name) ≡ b
        → cond b (Some (place server name)) None ≡ Some q
        → IsPeerOf server name q
    go true f e =
        let same = same_Some (place server name) q e in
        record { same = same; peer = ap (is_peer server) (sym same) ∙ f }
    go false f e = absurd (none-some q e)

-- ---- a session that is not completed

record IsOpen (number : ℕ) (standing : List Session) (session : Session) : Type 0 where
  there : session_at number standing ≡ Some session
  new : is_some session.kept ≡ false

opened : (number : ℕ) (standing : List Session) (session : Session)
    → open_session number standing ≡ Some session
    → IsOpen number standing session
opened number standing session e = go (session_at number standing) refl e
  where
    at : (b : Bool) (x : Session)
        → is_some x.kept ≡ b
        → session_at number standing ≡ Some x
        → cond b None (Some x) ≡ Some session
        → IsOpen number standing session
    at true x f there e = absurd (none-some session e)
    at false x f there e =
        let same = same_Some x session e in
        record { there = there ∙ ap Some same; new = ap (λ (y : Session). is_some y.kept) (sym same) ∙ f }

    go : (o : Option Session)
        → session_at number standing ≡ o
        → not_completed o ≡ Some session
        → IsOpen number standing session
    go None there e = absurd (none-some session e)
    go (Some x) there e = at (is_some x.kept) x refl there e

-- of one that is found, the serial is that of a dial
pub dial_found : (server : ServerIdentity) (s : State) (number : ℕ) (session : Session)
    → AreSessions server s
    → session_at number s.standing ≡ Some session
    → is_dial MAX_COUNTER session.serial session.dialed ≡ true
dial_found server s number session is at =
    go session.dialed
    (found (IsSession server s.numbers s.dials) (λ x. nat_eq x.number number) s.standing session is.each at).dial
  where
    fits : (serial dials : ℕ)
        → (nat_le 1 serial && nat_le serial dials) ≡ true
        → dials ≤ MAX_COUNTER
        → is_serial serial ≡ true
    fits serial dials e most = grind (arith, nat_tests)

    go : (o : Option ℕ) → is_dial s.dials session.serial o ≡ true → is_dial MAX_COUNTER session.serial o ≡ true
    go None e = refl
    go (Some q) e = let a = is.numbers in let b = is.dials in fits session.serial s.dials e (omega arith)

-- the peer of one that is found is a peer
pub peer_found : (server : ServerIdentity) (s : State) (number : ℕ) (session : Session)
    → AreSessions server s
    → session_at number s.standing ≡ Some session
    → IfSome (option_map (λ (offer : Offer). offer.peer) session.kept) (λ q. is_peer server q ≡ true)
peer_found server s number session is at =
    go session.kept
    (found (IsSession server s.numbers s.dials) (λ x. nat_eq x.number number) s.standing session is.each at).peer
  where
    go : (o : Option Offer)
        → is_of_a_peer server o ≡ true
        → IfSome (option_map (λ (offer : Offer). offer.peer) o) (λ q. is_peer server q ≡ true)
    go None e = tt
    go (Some offer) e = e

-- ---- an INFO

-- that a kept session alone may be against it
record InfoFits (s : Served) (number : ℕ) (info : Info) (least : ℕ) (session : Session) (q : ℕ) : Type 0 where
  there : open_session number s.state.standing ≡ Some session
  dialed : session.dialed ≡ Some q
  name : peer_of s.server info.server_name ≡ Some q
  inc : least ≤ info.inc

abbrev offered : Served → Info → Session → ℕ → Offer
offered s info session q = record { peer = q; inc = info.inc; dialer = s.server.me; serial = session.serial }

info_judged : (s : Served) (number : ℕ) (info : Info) (least : ℕ) (session : Session) (q : ℕ)
    → InfoFits s number info least session q
    → refusal s (OnInfo number info least) ≡ duplicate_fault (offered s info session q) (kept_for q s.state.standing)
info_judged s number info least session q fits =
    let at = opened number s.state.standing session fits.there in
    let peer = peer_is s.server info.server_name q fits.name in
    let end = duplicate_fault (info_offer s.server session info) (kept_for q s.state.standing) in
    let named : (nat_eq (place s.server info.server_name) q && is_peer s.server q) ≡ true =
    both (nat_eq (place s.server info.server_name) q) (is_peer s.server q)
    (true_eq (place s.server info.server_name) q peer.same) peer.peer in
    ap (λ o. info_refusal s.server s.state o info least) at.there
    ∙ ap (λ b. cond b (Some UnknownSession) (info_fault s.server s.state session info least session.dialed)) at.new
    ∙ ap (info_fault s.server s.state session info least) fits.dialed
    ∙ ap (λ b. cond (not b) (Some WrongName) (cond (nat_lt info.inc least) (Some OldIncarnation) end)) named
    ∙ ap (λ b. cond b (Some OldIncarnation) end) (not_below info.inc least fits.inc)
    ∙ ap (λ p.
    duplicate_fault (record { peer = p; inc = info.inc; dialer = s.server.me; serial = session.serial })
    (kept_for q s.state.standing))
    peer.same
  where
    both : (a b : Bool) → a ≡ true → b ≡ true → (a && b) ≡ true
    both a b e f = ap (λ t. t && b) e ∙ f

    not_below : (a b : ℕ) → b ≤ a → nat_lt a b ≡ false
    not_below a b le = grind (arith, nat_tests)

is_info_offer : (s : Served) (number : ℕ) (info : Info) (least : ℕ) (session : Session) (q : ℕ)
    → InfoFits s number info least session q
    → is_dial MAX_COUNTER session.serial session.dialed ≡ true
    → IsInfoOffer s number info (offered s info session q)
is_info_offer s number info least session q fits dial =
    let at = opened number s.state.standing session fits.there in
    let peer = peer_is s.server info.server_name q fits.name in
    record {
      peer = peer.peer;
      serial = ap (is_dial MAX_COUNTER session.serial) (sym fits.dialed) ∙ dial;
      dial = ap serial_of (sym at.there);
      name = sym peer.same;
      after =
          ap (λ p.
          after_completion number (record { peer = p; inc = info.inc; dialer = s.server.me; serial = session.serial })
          s.state)
          (sym peer.same)
          ∙ ap (λ n. after_completion n (info_offer s.server session info) s.state)
          (sym (same_number number s.state.standing session at.there))
          ∙ ap (after_info s.server s.state info) (sym at.there);
    }

-- and then it is judged by that
pub info_decided : (s : Served) (number : ℕ) (info : Info) (least : ℕ) (session : Session) (q : ℕ) (offer : Offer)
    (result : Result Offer SessionFault)
    → open_session number s.state.standing ≡ Some session
    → is_dial MAX_COUNTER session.serial session.dialed ≡ true
    → session.dialed ≡ Some q
    → peer_of s.server info.server_name ≡ Some q
    → least ≤ info.inc
    → offer ≡ offered s info session q
    → IsDecided (duplicate_fault offer (kept_for offer.peer s.state.standing)) (λ kept. kept ≡ offer) ⊤ result
    → IsDecided (refusal s (OnInfo number info least)) (λ (kept : Offer). IsInfoOffer s number info kept) ⊤ result
info_decided s number info least session q offer result there dial dialed name inc same is =
    let fits : InfoFits s number info least session q = record {
      there = there;
      dialed = dialed;
      name = name;
      inc = inc;
    } in
    let judged : refusal s (OnInfo number info least) ≡ duplicate_fault offer (kept_for offer.peer s.state.standing) =
    info_judged s number info least session q fits
    ∙ ap (λ (x : Offer). duplicate_fault x (kept_for x.peer s.state.standing)) (sym same) in
    go result judged (is_info_offer s number info least session q fits dial) is
  where
    go : (r : Result Offer SessionFault)
        → refusal s (OnInfo number info least) ≡ duplicate_fault offer (kept_for offer.peer s.state.standing)
        → IsInfoOffer s number info (offered s info session q)
        → IsDecided (duplicate_fault offer (kept_for offer.peer s.state.standing)) (λ kept. kept ≡ offer) ⊤ r
        → IsDecided (refusal s (OnInfo number info least)) (λ (kept : Offer). IsInfoOffer s number info kept) ⊤ r
    go (Ok kept) judged taken is = (judged ∙ is.0, subst (IsInfoOffer s number info) (sym (is.1 ∙ same)) taken)
    go (Err why) judged taken is = (judged ∙ is.0, tt)
