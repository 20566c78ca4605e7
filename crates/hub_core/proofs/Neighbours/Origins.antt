-- Why a frame of a peer is refused, and what is kept where it is not.
use Rattle.std.proofs.Common.{◌≡◌, ℕ, ◌+◌, ◌<◌, ◌≤◌, Bool, true, false, cond, nat_lt, nat_le, List, length, get_or, Option, Some, None, refl, sym, ap, ◌∙◌, subst, arith}
use Rattle.std.specs.Prelude.{slice_get, slice_set, if◌then◌else◌, Result, Ok, Err}
use Rattle.std.specs.Option.{option_or}
use Rattle.std.proofs.lemmas.Bool.Decides.{nat_tests}
use Rattle.std.proofs.lemmas.List.{set-get_or}
use Rattle.std.proofs.lemmas.Option.{slice_get-get_or, same_Some, cond_some, none-some}
use Rattle.list_laws.proofs.Tests.{no_cause, le_false}
use Rattle.subj.specs.declared.limits.TheConstants.{MAX_COUNTER}
use Rattle.subj.specs.Answers.{IsAnswered}
use Rattle.subj.specs.declared.failures.Failure.{Failure}
use Rattle.subj.specs.declared.failures.Failure.TheVariants.{Refused, OutOfMemory}
use Rattle.subj.specs.Numbers.{next_turn}
use Rattle.subj.specs.Servers.{ServerIdentity, place, is_peer}
use Rattle.route_values.specs.declared.bodies.Body.{Body}
use Rattle.route_values.specs.declared.bodies.Body.TheVariants.{Plus, Minus, Snapshot, Msg}
use Rattle.route_values.specs.Frames.{Frame}
use Rattle.hub_core.specs.declared.faults.HubFault.{HubFault}
use Rattle.hub_core.specs.declared.faults.HubFault.TheVariants.{StaleOrigin, Late, Spent}
use Rattle.hub_core.specs.State.{State, Peer, peer_in_life, changed_at}
use Rattle.hub_core.specs.Publishing.{busy_fault}
use Rattle.hub_core.specs.Receiving.{message_fault, body_fault, origin_fault, receive_refusal, told_by, has_message, after_receive}
use Rattle.hub_core.specs.Calls.{interest_fault}
use Rattle.hub_core.specs.Events.{Receive}
use Rattle.hub_core.specs.Hubs.{Hub, IsKept}
use Rattle.hub_core.proofs.Neighbours.Changed.{changed_is}
use Rattle.hub_core.proofs.Steps.Kept.{kept_after, peer_within}
use Rattle.hub_core.proofs.Steps.Receives.{FromPeer, from_peer}
use Rattle.hub_core.proofs.Steps.Rooms.{or_none}

not_below : (a b : ℕ) → b ≤ a → nat_lt a b ≡ false
not_below a b le = grind (arith, nat_tests)

at_most : (a b : ℕ) → a ≤ b → nat_le a b ≡ true
at_most a b le = grind (arith, nat_tests)

above : (a b : ℕ) → b < a → nat_le a b ≡ false
above a b lt = grind (arith, nat_tests)

-- what is said, apart from the frame that says it
news_are : (server : ServerIdentity) (hub : State) (base : Peer) (number : ℕ) (finished : List ℕ) (body : Body)
    → has_message body ≡ false
    → body_fault server hub base number finished body ≡ interest_fault base.heard number body
news_are server hub base number finished (Plus weighted) e = refl
news_are server hub base number finished (Minus key) e = refl
news_are server hub base number finished (Snapshot keys) e = refl
news_are server hub base number finished (Msg content queues) e = cc

message_is : (server : ServerIdentity) (hub : State) (base : Peer) (number : ℕ) (finished : List ℕ) (body : Body)
    → has_message body ≡ true
    → body_fault server hub base number finished body ≡ message_fault server hub base number finished
message_is server hub base number finished (Plus weighted) e = cc
message_is server hub base number finished (Minus key) e = cc
message_is server hub base number finished (Snapshot keys) e = cc
message_is server hub base number finished (Msg content queues) e = refl

abbrev turn_refusal : ServerIdentity → State → List ℕ → Option HubFault
turn_refusal server hub finished =
    option_or (busy_fault server hub finished) (if nat_le MAX_COUNTER hub.issued then Some Spent else None)

module _ (server : ServerIdentity) (hub : State) (finished : List ℕ) (frame : Frame) (q : ℕ) (x : Peer)
    (within : q < length hub.peers) (at : x ≡ get_or hub.peers q x) (fresh : x.seen ≤ frame.inc) where
  by_body : origin_fault server hub finished frame (slice_get hub.peers q)
      ≡ body_fault server hub (peer_in_life x frame.inc) frame.number finished frame.body
  by_body =
      ap (origin_fault server hub finished frame)
      (slice_get-get_or hub.peers q x within ∙ ap (λ (p : Peer). let o : Option Peer = Some p in o) (sym at))
      ∙ ap (λ (b : Bool).
      if b then Some StaleOrigin else body_fault server hub (peer_in_life x frame.inc) frame.number finished frame.body)
      (not_below frame.inc x.seen fresh)

  pub of_news : has_message frame.body ≡ false
      → interest_fault (peer_in_life x frame.inc).heard frame.number frame.body
      ≡ origin_fault server hub finished frame (slice_get hub.peers q)
  of_news e = sym (by_body ∙ news_are server hub (peer_in_life x frame.inc) frame.number finished frame.body e)

  pub of_late : has_message frame.body ≡ true
      → frame.number ≤ (peer_in_life x frame.inc).mark
      → Some Late ≡ origin_fault server hub finished frame (slice_get hub.peers q)
  of_late e late =
      sym (by_body ∙ message_is server hub (peer_in_life x frame.inc) frame.number finished frame.body e
      ∙ ap (λ (b : Bool). if b then Some Late else turn_refusal server hub finished)
      (at_most frame.number (peer_in_life x frame.inc).mark late))

  pub of_turn : has_message frame.body ≡ true
      → (peer_in_life x frame.inc).mark < frame.number
      → turn_refusal server hub finished ≡ origin_fault server hub finished frame (slice_get hub.peers q)
  of_turn e later =
      sym (by_body ∙ message_is server hub (peer_in_life x frame.inc) frame.number finished frame.body e
      ∙ ap (λ (b : Bool). if b then Some Late else turn_refusal server hub finished)
      (above frame.number (peer_in_life x frame.inc).mark later))

-- ---- a frame that is taken

module _ (old : Hub) (finished : List ℕ) (frame : Frame) (kept : IsKept old)
    (cause : receive_refusal old.server old.state finished frame ≡ None) where
  from : FromPeer old.server old.state finished frame
  from = from_peer old.server kept.listed old.state finished frame cause

  pub origin_is : is_peer old.server (place old.server frame.from) ≡ true
  origin_is = from.is

  pub origin_within : place old.server frame.from < length old.state.peers
  origin_within = peer_within old (place old.server frame.from) kept from.is

  -- of a message there is a turn
  pub has_turn : has_message frame.body ≡ true → old.state.issued < MAX_COUNTER
  has_turn e =
      let none =
      sym (message_is old.server old.state (peer_in_life from.peer frame.inc) frame.number finished frame.body e)
      ∙ from.none in
      let f = no_cause (nat_le frame.number (peer_in_life from.peer frame.inc).mark) Late
      (turn_refusal old.server old.state finished) none in
      let g = or_none (busy_fault old.server old.state finished)
      (if nat_le MAX_COUNTER old.state.issued then Some Spent else None) f.1 in
      le_false MAX_COUNTER old.state.issued (no_cause (nat_le MAX_COUNTER old.state.issued) Spent None g.1).0

  -- and of news no cause
  pub news_heard : (q : ℕ) (x : Peer)
      → q ≡ place old.server frame.from
      → x ≡ get_or old.state.peers q x
      → has_message frame.body ≡ false
      → interest_fault (peer_in_life x frame.inc).heard frame.number frame.body ≡ None
  news_heard q x q_is at e =
      let within : q < length old.state.peers = subst (λ n. n < length old.state.peers) (sym q_is) origin_within in
      let same : from.peer ≡ x = same_Some from.peer x
      (sym from.at ∙ ap (slice_get old.state.peers) (sym q_is) ∙ slice_get-get_or old.state.peers q x within
      ∙ ap (λ (p : Peer). let o : Option Peer = Some p in o) (sym at)) in
      ap (λ (p : Peer). interest_fault (peer_in_life p frame.inc).heard frame.number frame.body) (sym same)
      ∙ sym (news_are old.server old.state (peer_in_life from.peer frame.inc) frame.number finished frame.body e)
      ∙ from.none

  module _ (found : Option ℕ) (q : ℕ) (x new : Peer)
      (look :
      found ≡ (if is_peer old.server (place old.server frame.from) then Some (place old.server frame.from) else None))
      (there : found ≡ Some q) (at : x ≡ get_or old.state.peers q x)
      (told : new ≡ told_by frame.body frame.number (peer_in_life x frame.inc)) where
    q_is : q ≡ place old.server frame.from
    q_is =
        sym (cond_some (is_peer old.server (place old.server frame.from)) (place old.server frame.from) q
        (sym look ∙ there)).1

    pub found_within : q < length old.state.peers
    found_within = subst (λ n. n < length old.state.peers) (sym q_is) origin_within

    peers_are : slice_set old.state.peers q new
        ≡ changed_at (λ (peer : Peer). told_by frame.body frame.number (peer_in_life peer frame.inc))
        (place old.server frame.from) old.state.peers
    peers_are =
        changed_is (λ (peer : Peer). told_by frame.body frame.number (peer_in_life peer frame.inc)) old.state.peers q x
        new found_within at told
        ∙ ap (λ n.
        changed_at (λ (peer : Peer). told_by frame.body frame.number (peer_in_life peer frame.inc)) n old.state.peers)
        q_is

    abbrev pub later : ℕ → State
    later issued = record old.state { issued = issued; peers = slice_set old.state.peers q new }

    pub received_is : (issued : ℕ)
        → issued ≡ (if has_message frame.body then old.state.issued + 1 else old.state.issued)
        → later issued ≡ after_receive old.server old.state frame
    received_is issued turn =
        ap (λ (n : ℕ). later n) turn
        ∙ ap (λ (peers : List Peer). record old.state {
          issued = (if has_message frame.body then old.state.issued + 1 else old.state.issued);
          peers = peers;
        })
        peers_are

    pub received_kept : (issued : ℕ)
        → issued ≡ (if has_message frame.body then old.state.issued + 1 else old.state.issued)
        → IsKept (record { server = old.server; state = later issued })
    received_kept issued turn =
        kept_after old.server old.state (Receive frame finished) (later issued) kept tt (received_is issued turn)
        kept.published kept.changed

-- ---- the turn of a message

next_is : (b : Bool) (x y : ℕ) → cond b None (Some x) ≡ Some y → x ≡ y
next_is true x y e = cc
next_is false x y e = same_Some x y e

pub turn_is : (issued turn : ℕ) (next : Option ℕ) (body : Body)
    → has_message body ≡ true
    → next ≡ next_turn issued
    → next ≡ Some turn
    → turn ≡ (if has_message body then issued + 1 else issued)
turn_is issued turn next body e made is =
    sym (next_is (nat_lt MAX_COUNTER (issued + 1)) (issued + 1) turn (sym made ∙ is))
    ∙ sym (ap (λ (b : Bool). if b then issued + 1 else issued) e)

pub no_turn : (issued : ℕ) (body : Body)
    → has_message body ≡ false
    → issued ≡ (if has_message body then issued + 1 else issued)
no_turn issued body e = sym (ap (λ (b : Bool). if b then issued + 1 else issued) e)

-- ---- news are heard, or memory is wanting

module _ (old : Hub) (finished : List ℕ) (frame : Frame) (kept : IsKept old)
    (cause : receive_refusal old.server old.state finished frame ≡ None) (found : Option ℕ) (q : ℕ) (x new : Peer)
    (look :
    found ≡ (if is_peer old.server (place old.server frame.from) then Some (place old.server frame.from) else None))
    (there : found ≡ Some q) (at : x ≡ get_or old.state.peers q x) (news : has_message frame.body ≡ false) where
  its_place : q ≡ place old.server frame.from
  its_place =
      sym (cond_some (is_peer old.server (place old.server frame.from)) (place old.server frame.from) q
      (sym look ∙ there)).1

  abbrev pub changed : State
  changed = record old.state { peers = slice_set old.state.peers q new }

  same : new ≡ x → slice_set old.state.peers q new ≡ old.state.peers
  same e = ap (slice_set old.state.peers q) (e ∙ at) ∙ set-get_or old.state.peers q x

  none : interest_fault (peer_in_life x frame.inc).heard frame.number frame.body ≡ None
  none = news_heard old finished frame kept cause q x its_place at news

  pub heard_kept : (r : Result (Unit {0}) (Failure HubFault))
      → IsAnswered (interest_fault (peer_in_life x frame.inc).heard frame.number frame.body)
      (λ _. new ≡ told_by frame.body frame.number (peer_in_life x frame.inc)) (new ≡ x) r
      → IsKept (record { server = old.server; state = changed })
  heard_kept (Ok done) e =
      received_kept old finished frame kept cause found q x new look there at e.1 old.state.issued
      (no_turn old.state.issued frame.body news)
  heard_kept (Err OutOfMemory) e =
      subst (λ (peers : List Peer). IsKept (record { server = old.server; state = record old.state { peers = peers } }))
      (sym (same e.1)) kept
  heard_kept (Err (Refused why)) e = absurd (none-some why (sym none ∙ e.0))

  pub heard_done : (r : Result (Unit {0}) (Failure HubFault))
      → IsAnswered (interest_fault (peer_in_life x frame.inc).heard frame.number frame.body)
      (λ _. new ≡ told_by frame.body frame.number (peer_in_life x frame.inc)) (new ≡ x) r
      → IsAnswered {R = HubFault} {T = Unit {0}} None
      (λ _.
      record { server = old.server; state = changed } ≡ record old { state = after_receive old.server old.state frame })
      (record { server = old.server; state = changed } ≡ old) r
  heard_done (Ok done) e = (
    refl,
    ap (λ (state : State). record old { state = state })
        (received_is old finished frame kept cause found q x new look there at e.1 old.state.issued
        (no_turn old.state.issued frame.body news)),
  )
  heard_done (Err OutOfMemory) e = (
    refl,
    ap (λ (peers : List Peer). record old { state = record old.state { peers = peers } }) (same e.1),
  )
  heard_done (Err (Refused why)) e = absurd (none-some why (sym none ∙ e.0))
