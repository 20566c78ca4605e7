-- What a look at the unread bytes answers, and that more bytes do not change a piece or a fault.
use Rattle.std.proofs.Common.{◌≡◌, ℕ, ◌+◌, ◌<◌, ◌≤◌, Bool, true, false, List, ◌++◌, length, take, drop, min, nat_le, if◌then◌else◌, ◌⊎◌, Option, Some, None, is_none, Result, Ok, Err, refl, sym, ap, ◌∙◌, subst, arith, inl, inr}
use Rattle.std.specs.Prelude.{IfOk, IfSome}
use Rattle.std.proofs.lemmas.Bool.{le-leb, lt-leb, le-ltb, lt-ltb, cases_lt}
use Rattle.std.proofs.lemmas.List.{length-take, length-take-le, length-drop, length-append, take-append-le, drop-append-le}
use Rattle.wire_cut.specs.declared.faults.CutFault.{CutFault}
use Rattle.wire_cut.specs.declared.faults.CutFault.TheVariants.{LineTooLong, NoCrLfAfterPayload}
use Rattle.wire_cut.specs.Cut.{Answer, CutterState, StreamPiece, first_cr_lf, begins_with_cr_lf, cr_lf_at, line, payload, cut_of, after_feed, after_next, cut_line, cut_line_at, cut_long_line, cut_payload, cut_payload_at, bytes_of, is_line, piece_length, IsUnfinished, IsWithinUnread}
use Rattle.wire_cut.specs.declared.piece.Piece.{Piece}
use Rattle.wire_cut.specs.Shown.{next_answer, stream_piece}
use Rattle.wire_cut.specs.Search.{HasCrLfAt, HasNoCrLf}
use Rattle.wire_cut.proofs.SearchLemmas.{first_cr_lf-found, first_cr_lf-none, first_cr_lf-Some, first_cr_lf-None, HasCrLfAt-take, HasCrLfAt-whole, HasCrLfAt-append, HasCrLfAt-front_part}

-- ---- a search within the reach of the longest line

module _ (line_max : ℕ) (unread : List ℕ) (reach : ℕ) (is_reach : reach ≡ min (length unread) (line_max + 2)) where
  pub found_within : (i : ℕ) → first_cr_lf (take reach unread) ≡ Some i → (i ≤ line_max) × (i + 2 ≤ length unread)
  found_within i found =
      let at = (first_cr_lf-Some (take reach unread) i found).0 in
      (omega (arith, at.within, length-take reach unread), omega (arith, at.within, length-take reach unread))

  pub first_in_reach : (i : ℕ) → first_cr_lf (take reach unread) ≡ Some i → first_cr_lf unread ≡ Some i
  first_in_reach i found =
      let parts = first_cr_lf-Some (take reach unread) i found in
      first_cr_lf-found unread i (HasCrLfAt-whole unread reach i parts.0) (λ k h at.
      parts.1 k h (HasCrLfAt-take unread reach k (omega (arith, parts.0.within, length-take reach unread)) at))

  pub cut_line-found : (i : ℕ)
      → first_cr_lf (take reach unread) ≡ Some i
      → cut_line line_max unread ≡ Ok (Some (line (take i unread)))
  cut_line-found i found = rw (first_in_reach i found, le-leb i line_max (found_within i found).0) refl

  none_in_reach : first_cr_lf (take reach unread) ≡ None → (k : ℕ) → k + 2 ≤ reach → HasCrLfAt unread k → ⊥
  none_in_reach none k h at = first_cr_lf-None (take reach unread) none k (HasCrLfAt-take unread reach k h at)

  pub none_searched : first_cr_lf (take reach unread) ≡ None → HasNoCrLf unread reach
  none_searched none = none_in_reach none

  pub cut_line-long : first_cr_lf (take reach unread) ≡ None
      → reach ≡ line_max + 2
      → cut_line line_max unread ≡ Err LineTooLong
  cut_line-long none all = at_answer (first_cr_lf unread) refl
    where
      long : cut_long_line line_max unread ≡ Err LineTooLong
      long = rw (le-leb (line_max + 2) (length unread) (omega arith)) refl

      at_answer : (r : Option ℕ) → first_cr_lf unread ≡ r → cut_line_at line_max unread r ≡ Err LineTooLong
      at_answer None is = long
      at_answer (Some i) is = elim (cases_lt line_max i) [
        | inl past ↦ (rw (lt-leb i line_max past) long)
        | inr within ↦ (absurd (none_in_reach none i (omega arith) (first_cr_lf-Some unread i is).0))
      ]

  pub cut_line-short : first_cr_lf (take reach unread) ≡ None
      → (reach ≡ line_max + 2 → ⊥)
      → cut_line line_max unread ≡ Ok None
  cut_line-short none not_all =
      let all : reach ≡ length unread = omega arith in
      let nowhere : first_cr_lf unread ≡ None =
      first_cr_lf-none unread (λ k at. none_in_reach none k (omega (arith, at.within)) at) in
      rw (nowhere, lt-leb (line_max + 2) (length unread) (omega arith)) refl

-- ---- the state after a line

module _ (s : CutterState) (no_fault : s.fault ≡ None) (awaits_line : s.expected ≡ None) where
  cut_of-awaits_line : cut_of s ≡ cut_line s.line_max s.unread
  cut_of-awaits_line = rw (no_fault, awaits_line) refl

  pub next_is_line : (i : ℕ)
      → i + 2 ≤ length s.unread
      → cut_line s.line_max s.unread ≡ Ok (Some (line (take i s.unread)))
      → (cut_of s ≡ Ok (Some (line (take i s.unread))))
      × (after_next s ≡ record s { unread = drop (i + 2) s.unread; expected = None; after_line = true })
  next_is_line i within is =
      let cut : cut_of s ≡ Ok (Some (line (take i s.unread))) = cut_of-awaits_line ∙ is in
      (cut, rw (cut, length-take-le i s.unread (omega arith)) refl)

  pub next_is_too_long : cut_line s.line_max s.unread ≡ Err LineTooLong
      → (cut_of s ≡ Err LineTooLong) × (after_next s ≡ record s { fault = Some LineTooLong })
  next_is_too_long is = let cut : cut_of s ≡ Err LineTooLong = cut_of-awaits_line ∙ is in (cut, rw cut refl)

  pub next_is_none : cut_line s.line_max s.unread ≡ Ok None → (cut_of s ≡ Ok None) × (after_next s ≡ s)
  next_is_none is = let cut : cut_of s ≡ Ok None = cut_of-awaits_line ∙ is in (cut, rw cut refl)

-- ---- where more bytes are needed

short_line : (line_max : ℕ) (unread : List ℕ) → cut_long_line line_max unread ≡ Ok None → length unread < line_max + 2
short_line line_max unread is = by_order (cases_lt (length unread) (line_max + 2))
  where
    by_order : (length unread < line_max + 2) ⊎ (line_max + 2 ≤ length unread) → length unread < line_max + 2
    by_order (inl short) = short
    by_order (inr full) = absurd (let cut = rw (le-leb (line_max + 2) (length unread) full) at is in cc)

line_awaited : (line_max : ℕ) (unread : List ℕ) (r : Option ℕ)
    → cut_line_at line_max unread r ≡ Ok None
    → length unread < line_max + 2
line_awaited line_max unread None is = short_line line_max unread is
line_awaited line_max unread (Some i) is = by_order (cases_lt line_max i)
  where
    by_order : (line_max < i) ⊎ (i ≤ line_max) → length unread < line_max + 2
    by_order (inl past) = short_line line_max unread (rw (lt-leb i line_max past) at is)
    by_order (inr within) = absurd (let cut = rw (le-leb i line_max within) at is in cc)

is_judged : (size : ℕ) (unread : List ℕ) (is : Bool) → cut_payload_at size unread (Some is) ≡ Ok None → ⊥
is_judged size unread true is =
    let same : Some (payload (take size unread)) ≡ (let r : Option StreamPiece = None in r) = cc in cc
is_judged size unread false is = cc

payload_awaited : (size : ℕ) (unread : List ℕ) → cut_payload size unread ≡ Ok None → length unread < size + 2
payload_awaited size unread is = by_order (cases_lt (length unread) (size + 2))
  where
    by_order : (length unread < size + 2) ⊎ (size + 2 ≤ length unread) → length unread < size + 2
    by_order (inl short) = short
    by_order (inr full) =
        absurd (is_judged size unread (begins_with_cr_lf (drop size unread))
        (rw (le-ltb (length unread) (size + 2) full) at is))

unfinished_by : (s : CutterState) (fault : Option CutFault) (expected : Option ℕ)
    → s.fault ≡ fault
    → s.expected ≡ expected
    → cut_of s ≡ Ok None
    → IsUnfinished expected s
unfinished_by s (Some fault) expected faulty expects is = absurd (let cut : cut_of s ≡ Err fault = rw faulty refl in cc)
unfinished_by s None None faulty expects is =
    let cut : cut_of s ≡ cut_line s.line_max s.unread = rw (faulty, expects) refl in
    line_awaited s.line_max s.unread (first_cr_lf s.unread) (sym cut ∙ is)
unfinished_by s None (Some size) faulty expects is =
    let cut : cut_of s ≡ cut_payload size s.unread = rw (faulty, expects) refl in
    payload_awaited size s.unread (sym cut ∙ is)

pub unfinished : (s : CutterState) → cut_of s ≡ Ok None → IsUnfinished s.expected s
unfinished s is = unfinished_by s s.fault s.expected refl refl is

-- ---- what a piece and a fault say of the bytes

-- a line that was cut
record CutsLine (line_max : ℕ) (unread : List ℕ) (piece : StreamPiece) : Type 0 where
  size : ℕ
  first : first_cr_lf unread ≡ Some size
  within : size ≤ line_max
  is : piece ≡ line (take size unread)

no_piece : (b : Bool) (fault : CutFault) (piece : StreamPiece)
    → (let answer : Answer = if b then Err fault else Ok None in answer) ≡ Ok (Some piece)
    → ⊥
no_piece true fault piece is = cc
no_piece false fault piece is = let same : (let r : Option StreamPiece = None in r) ≡ Some piece = cc in cc

cuts_line : (line_max : ℕ) (unread : List ℕ) (piece : StreamPiece) (r : Option ℕ)
    → first_cr_lf unread ≡ r
    → cut_line_at line_max unread r ≡ Ok (Some piece)
    → CutsLine line_max unread piece
cuts_line line_max unread piece None first is =
    absurd (no_piece (nat_le (line_max + 2) (length unread)) LineTooLong piece is)
cuts_line line_max unread piece (Some i) first is = by_order (cases_lt line_max i)
  where
    by_order : (line_max < i) ⊎ (i ≤ line_max) → CutsLine line_max unread piece
    by_order (inl past) =
        absurd (no_piece (nat_le (line_max + 2) (length unread)) LineTooLong piece (rw (lt-leb i line_max past) at is))
    by_order (inr within) =
        let cut = rw (le-leb i line_max within) at is in
        record {
          size = i;
          first = first;
          within = within;
          is = sym (let same : Some (line (take i unread)) ≡ Some piece = cc in cc);
        }

-- a line that is too long
record IsLong (line_max : ℕ) (unread : List ℕ) : Type 0 where
  full : line_max + 2 ≤ length unread
  none : (k : ℕ) → k ≤ line_max → HasCrLfAt unread k → ⊥

long_bytes : (line_max : ℕ) (unread : List ℕ) (fault : CutFault)
    → cut_long_line line_max unread ≡ Err fault
    → (fault ≡ LineTooLong) × (line_max + 2 ≤ length unread)
long_bytes line_max unread fault is = by_order (cases_lt (length unread) (line_max + 2))
  where
    by_order : (length unread < line_max + 2) ⊎ (line_max + 2 ≤ length unread)
        → (fault ≡ LineTooLong) × (line_max + 2 ≤ length unread)
    by_order (inl short) = absurd (let cut = rw (lt-leb (line_max + 2) (length unread) short) at is in cc)
    by_order (inr full) = (let cut = rw (le-leb (line_max + 2) (length unread) full) at is in cc, full)

is_long : (line_max : ℕ) (unread : List ℕ) (fault : CutFault) (r : Option ℕ)
    → first_cr_lf unread ≡ r
    → cut_line_at line_max unread r ≡ Err fault
    → (fault ≡ LineTooLong) × IsLong line_max unread
is_long line_max unread fault None first is =
    let parts = long_bytes line_max unread fault is in
    (parts.0, record { full = parts.1; none = λ k h at. first_cr_lf-None unread first k at })
is_long line_max unread fault (Some i) first is = by_order (cases_lt line_max i)
  where
    by_order : (line_max < i) ⊎ (i ≤ line_max) → (fault ≡ LineTooLong) × IsLong line_max unread
    by_order (inl past) =
        let parts = long_bytes line_max unread fault (rw (lt-leb i line_max past) at is) in
        (parts.0, record { full = parts.1; none = λ k h at. (first_cr_lf-Some unread i first).1 k (omega arith) at })
    by_order (inr within) = absurd (let cut = rw (le-leb i line_max within) at is in cc)

-- whether CR LF stands behind a payload is told only where both bytes are there
told_behind : (unread : List ℕ) (size : ℕ) (is : Bool)
    → cr_lf_at unread size ≡ Some is
    → (size + 2 ≤ length unread) × (begins_with_cr_lf (drop size unread) ≡ is)
told_behind unread size is told = by_order (cases_lt (length unread) (size + 2))
  where
    by_order : (length unread < size + 2) ⊎ (size + 2 ≤ length unread)
        → (size + 2 ≤ length unread) × (begins_with_cr_lf (drop size unread) ≡ is)
    by_order (inl short) = absurd (let cut = rw (lt-ltb (length unread) (size + 2) short) at told in cc)
    by_order (inr full) = (full, (let cut = rw (le-ltb (length unread) (size + 2) full) at told in cc))

cuts_payload : (size : ℕ) (unread : List ℕ) (piece : StreamPiece) (r : Option Bool)
    → cut_payload_at size unread r ≡ Ok (Some piece)
    → (r ≡ Some true) × (piece ≡ payload (take size unread))
cuts_payload size unread piece None is =
    absurd (let same : (let r : Option StreamPiece = None in r) ≡ Some piece = cc in cc)
cuts_payload size unread piece (Some true) is = (
  refl,
  (let same : Some (payload (take size unread)) ≡ Some piece = cc in cc),
)
cuts_payload size unread piece (Some false) is = absurd cc

lacks_cr_lf : (size : ℕ) (unread : List ℕ) (fault : CutFault) (r : Option Bool)
    → cut_payload_at size unread r ≡ Err fault
    → (r ≡ Some false) × (fault ≡ NoCrLfAfterPayload)
lacks_cr_lf size unread fault None is = absurd cc
lacks_cr_lf size unread fault (Some true) is = absurd cc
lacks_cr_lf size unread fault (Some false) is = (refl, cc)

-- ---- more bytes

first_cr_lf-append : (unread more : List ℕ) (i : ℕ)
    → first_cr_lf unread ≡ Some i
    → first_cr_lf (unread ++ more) ≡ Some i
first_cr_lf-append unread more i first =
    let parts = first_cr_lf-Some unread i first in
    first_cr_lf-found (unread ++ more) i (HasCrLfAt-append unread more i parts.0)
    (λ k h at. parts.1 k h (HasCrLfAt-front_part unread more k (omega (arith, parts.0.within)) at))

cut_line-append : (line_max : ℕ) (unread more : List ℕ) (piece : StreamPiece)
    → cut_line line_max unread ≡ Ok (Some piece)
    → cut_line line_max (unread ++ more) ≡ Ok (Some piece)
cut_line-append line_max unread more piece is =
    let cut = cuts_line line_max unread piece (first_cr_lf unread) refl is in
    let within = (first_cr_lf-Some unread cut.size cut.first).0.within in
    rw (
      first_cr_lf-append unread more cut.size cut.first,
      le-leb cut.size line_max cut.within,
      take-append-le cut.size unread more (omega arith),
    )
    (ap (λ p. Ok (Some p)) (sym cut.is))

cut_long-append : (line_max : ℕ) (unread more : List ℕ)
    → IsLong line_max unread
    → (r : Option ℕ)
    → first_cr_lf (unread ++ more) ≡ r
    → cut_line_at line_max (unread ++ more) r ≡ Err LineTooLong
cut_long-append line_max unread more long r first = by_place r first
  where
    too_long : cut_long_line line_max (unread ++ more) ≡ Err LineTooLong
    too_long =
        rw (le-leb (line_max + 2) (length (unread ++ more)) (omega (arith, long.full, length-append unread more))) refl

    by_place : (r : Option ℕ)
        → first_cr_lf (unread ++ more) ≡ r
        → cut_line_at line_max (unread ++ more) r ≡ Err LineTooLong
    by_place None first = too_long
    by_place (Some i) first = elim (cases_lt line_max i) [
      | inl past ↦ (rw (lt-leb i line_max past) too_long)
      | inr within ↦
          (absurd (long.none i within
          (HasCrLfAt-front_part unread more i (omega (arith, long.full))
          (first_cr_lf-Some (unread ++ more) i first).0)))
    ]

cr_lf_at-append : (unread more : List ℕ) (size : ℕ) (is : Bool)
    → cr_lf_at unread size ≡ Some is
    → cr_lf_at (unread ++ more) size ≡ Some is
cr_lf_at-append unread more size is told =
    let parts = told_behind unread size is told in
    let here : take 2 (drop size unread ++ more) ≡ take 2 (drop size unread) =
    take-append-le 2 (drop size unread) more (omega (arith, length-drop size unread)) in
    let longer : size + 2 ≤ length (unread ++ more) = omega (arith, length-append unread more) in
    rw (le-ltb (length (unread ++ more)) (size + 2) longer, drop-append-le size unread more (omega arith), here)
    (ap (λ b. Some b) parts.1)

-- a piece and its CR LF stand in the unread bytes
pub cut_of-piece_length : (s : CutterState) (piece : StreamPiece) → cut_of s ≡ Ok (Some piece) → IsWithinUnread piece s
cut_of-piece_length s piece is = by_state s.fault s.expected refl refl
  where
    by_state : (f : Option CutFault) (e : Option ℕ) → s.fault ≡ f → s.expected ≡ e → IsWithinUnread piece s
    by_state (Some fault) e told awaits = absurd (let cut = rw told at is in cc)
    by_state None None told awaits =
        let cut = cuts_line s.line_max s.unread piece (first_cr_lf s.unread) refl (rw (told, awaits) at is) in
        let at = (first_cr_lf-Some s.unread cut.size cut.first).0 in
        rw cut.is (omega (arith, at.within, length-take cut.size s.unread))
    by_state None (Some size) told awaits =
        let cut = cuts_payload size s.unread piece (cr_lf_at s.unread size) (rw (told, awaits) at is) in
        let full = (told_behind s.unread size true cut.0).0 in
        rw cut.1 (omega (arith, full, length-take size s.unread))

-- a piece is a line just where no payload is expected
cut_of-kind : (s : CutterState) (piece : StreamPiece) → cut_of s ≡ Ok (Some piece) → is_line piece ≡ is_none s.expected
cut_of-kind s piece is = by_state s.fault s.expected refl refl
  where
    by_state : (f : Option CutFault) (e : Option ℕ) → s.fault ≡ f → s.expected ≡ e → is_line piece ≡ is_none s.expected
    by_state (Some fault) e told awaits = absurd (let cut = rw told at is in cc)
    by_state None None told awaits =
        let cut = cuts_line s.line_max s.unread piece (first_cr_lf s.unread) refl (rw (told, awaits) at is) in
        rw (awaits, cut.is) refl
    by_state None (Some size) told awaits =
        let cut = cuts_payload size s.unread piece (cr_lf_at s.unread size) (rw (told, awaits) at is) in
        rw (awaits, cut.1) refl

-- what is left behind a piece of this length
pub after_piece : (s : CutterState) (size : ℕ)
    → piece_length (cut_of s) ≡ Some size
    → (size + 2 ≤ length s.unread)
    × (after_next s ≡ record s { unread = drop (size + 2) s.unread; expected = None; after_line = is_none s.expected })
after_piece s size is = by_answer (cut_of s) refl
  where
    by_answer : (answer : Answer)
        → cut_of s ≡ answer
        → (size + 2 ≤ length s.unread)
        × (after_next s
        ≡ record s { unread = drop (size + 2) s.unread; expected = None; after_line = is_none s.expected })
    by_answer (Ok None) cut = absurd (let none = rw cut at is in cc)
    by_answer (Ok (Some piece)) cut =
        let same : length (bytes_of piece) ≡ size = (let both = rw cut at is in cc) in (
          subst (λ n. n + 2 ≤ length s.unread) same (cut_of-piece_length s piece cut),
          rw (cut, cut_of-kind s piece cut, same) refl,
        )
    by_answer (Err fault) cut = absurd (let none = rw cut at is in cc)

-- the same of what `next` answers
pub given_within : (answer : Result (Option Piece) CutFault) (s : CutterState)
    → next_answer answer ≡ cut_of s
    → IfOk answer (λ given. IfSome given (λ piece. IsWithinUnread (stream_piece piece) s))
given_within (Ok None) s is = tt
given_within (Ok (Some piece)) s is = cut_of-piece_length s (stream_piece piece) (sym is)
given_within (Err fault) s is = tt

-- more bytes do not change a piece
pub cut_of-fed_piece : (s : CutterState) (piece : StreamPiece) (more : List ℕ)
    → cut_of s ≡ Ok (Some piece)
    → cut_of (after_feed s more) ≡ Ok (Some piece)
cut_of-fed_piece s piece more is = by_state s.fault s.expected refl refl
  where
    by_state : (f : Option CutFault) (e : Option ℕ)
        → s.fault ≡ f
        → s.expected ≡ e
        → cut_of (after_feed s more) ≡ Ok (Some piece)
    by_state (Some fault) e told awaits = absurd (let cut = rw told at is in cc)
    by_state None None told awaits =
        rw (told, awaits) (cut_line-append s.line_max s.unread more piece (rw (told, awaits) at is))
    by_state None (Some size) told awaits =
        let cut = cuts_payload size s.unread piece (cr_lf_at s.unread size) (rw (told, awaits) at is) in
        let full = (told_behind s.unread size true cut.0).0 in
        rw (
          told,
          awaits,
          cr_lf_at-append s.unread more size true cut.0,
          take-append-le size s.unread more (omega arith),
          cut.1,
        )
        refl

-- nor a fault
pub cut_of-fed_fault : (s : CutterState) (fault : CutFault) (more : List ℕ)
    → cut_of s ≡ Err fault
    → cut_of (after_feed s more) ≡ Err fault
cut_of-fed_fault s fault more is = by_state s.fault s.expected refl refl
  where
    by_state : (f : Option CutFault) (e : Option ℕ)
        → s.fault ≡ f
        → s.expected ≡ e
        → cut_of (after_feed s more) ≡ Err fault
    by_state (Some was) e told awaits = rw told (rw told at is)
    by_state None None told awaits =
        let long = is_long s.line_max s.unread fault (first_cr_lf s.unread) refl (rw (told, awaits) at is) in
        rw (told, awaits, long.0)
        (cut_long-append s.line_max s.unread more long.1 (first_cr_lf (s.unread ++ more)) refl)
    by_state None (Some size) told awaits =
        let lacks = lacks_cr_lf size s.unread fault (cr_lf_at s.unread size) (rw (told, awaits) at is) in
        rw (told, awaits, cr_lf_at-append s.unread more size false lacks.0, lacks.1) refl
