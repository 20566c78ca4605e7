-- A stream is read alike however its bytes come.
use Rattle.std.proofs.Common.{◌≡◌, ℕ, zero, suc, ◌+◌, ◌<◌, ◌≤◌, false, List, [], ◌∷◌, ◌++◌, length, drop, Option, Some, None, Ok, Err, refl, ap, sym, ◌∙◌, subst, arith, append_assoc, append-nil, length-append, length-drop}
use Rattle.std.proofs.lemmas.List.{drop-append-le}
use Rattle.std.specs.List.{concat}
use Rattle.wire_cut.specs.declared.faults.CutFault.{CutFault}
use Rattle.wire_cut.specs.Cut.{Answer, CutterState, StreamPiece, bytes_of, cut_next, cut_unless, cut_of, after_answer, after_next, after_refusal, after_expect, expect_fault, after_feed}
use Rattle.wire_cut.specs.Reading.{Told, going_on, ending, Grammar, Found, nothing, something, the_end, size_fault, finding_next, finding_before, finding_by, cut_awaited, finding, Reading, with_items, last_reading, reading_after, reading_within, reading_of, continuation, read_on, read_parts, ReadsInParts, reading_by_look, ReadsByLooks, WaitsForMore, StandsAt, told_of, FollowsGrammar, ExpectsAgain, ExpectsWhenFed}
use Rattle.wire_cut.proofs.CutLemmas.{cut_of-piece_length, cut_of-fed_piece, cut_of-fed_fault}

-- ---- a look at the bytes as a cutter's

abbrev awaiting : {A I : Type 0} → Grammar A I → A → List ℕ → CutterState
awaiting g awaited bytes = record {
  unread = bytes;
  expected = g.size awaited;
  after_line = false;
  fault = None;
  line_max = g.line_max;
  payload_max = g.payload_max;
}

piece_stands : {A I : Type 0} (g : Grammar A I) (awaited : A) (bytes more : List ℕ) (piece : StreamPiece)
    → cut_awaited g awaited bytes ≡ Ok (Some piece)
    → cut_awaited g awaited (bytes ++ more) ≡ Ok (Some piece)
piece_stands g awaited bytes more piece is = cut_of-fed_piece (awaiting g awaited bytes) piece more is

fault_stands : {A I : Type 0} (g : Grammar A I) (awaited : A) (bytes more : List ℕ) (fault : CutFault)
    → cut_awaited g awaited bytes ≡ Err fault
    → cut_awaited g awaited (bytes ++ more) ≡ Err fault
fault_stands g awaited bytes more fault is = cut_of-fed_fault (awaiting g awaited bytes) fault more is

-- ---- what a look finds, also with more bytes

pub data Look {A I : Type 0} (g : Grammar A I) (awaited : A) (bytes : List ℕ) : Type 0 where
  lacks : finding g awaited bytes ≡ nothing → Look g awaited bytes
  goes : (items : List I) (next : A) (behind : List ℕ)
      → finding g awaited bytes ≡ something items next behind
      → length behind < length bytes
      → ((more : List ℕ) → finding g awaited (bytes ++ more) ≡ something items next (behind ++ more))
      → Look g awaited bytes
  ends : (items : List I)
      → finding g awaited bytes ≡ the_end items
      → ((more : List ℕ) → finding g awaited (bytes ++ more) ≡ the_end items)
      → Look g awaited bytes

look_before : {A I : Type 0} (g : Grammar A I) (awaited : A) (bytes : List ℕ) (piece : StreamPiece)
    → cut_awaited g awaited bytes ≡ Ok (Some piece)
    → (told : Told A I)
    → g.told awaited (bytes_of piece) ≡ told
    → Look g awaited bytes
look_before g awaited bytes piece is (ending items) tells =
    let n = length (bytes_of piece) + 2 in
    ends items (ap (finding_by g awaited bytes) is ∙ ap (finding_before g (drop n bytes)) tells) (λ more.
    ap (finding_by g awaited (bytes ++ more)) (piece_stands g awaited bytes more piece is)
    ∙ ap (finding_before g (drop n (bytes ++ more))) tells)
look_before g awaited bytes piece is (going_on items next) tells = by_size (size_fault g.payload_max (g.size next)) refl
  where
    by_size : (fault : Option CutFault) → size_fault g.payload_max (g.size next) ≡ fault → Look g awaited bytes
    by_size None fits =
        let n = length (bytes_of piece) + 2 in
        let within : n ≤ length bytes = cut_of-piece_length (awaiting g awaited bytes) piece is in
        goes items next (drop n bytes)
        (ap (finding_by g awaited bytes) is ∙ ap (finding_before g (drop n bytes)) tells
        ∙ ap (finding_next g items next (drop n bytes)) fits)
        (omega (arith, length-drop n bytes)) (λ more.
        ap (finding_by g awaited (bytes ++ more)) (piece_stands g awaited bytes more piece is)
        ∙ ap (finding_before g (drop n (bytes ++ more))) tells
        ∙ ap (finding_next g items next (drop n (bytes ++ more))) fits
        ∙ ap (something items next) (drop-append-le n bytes more within))
    by_size (Some fault) above =
        let n = length (bytes_of piece) + 2 in
        ends (items ++ g.unreadable fault ∷ [])
        (ap (finding_by g awaited bytes) is ∙ ap (finding_before g (drop n bytes)) tells
        ∙ ap (finding_next g items next (drop n bytes)) above)
        (λ more.
        ap (finding_by g awaited (bytes ++ more)) (piece_stands g awaited bytes more piece is)
        ∙ ap (finding_before g (drop n (bytes ++ more))) tells
        ∙ ap (finding_next g items next (drop n (bytes ++ more))) above)

look_at : {A I : Type 0} (g : Grammar A I) (awaited : A) (bytes : List ℕ) (answer : Answer)
    → cut_awaited g awaited bytes ≡ answer
    → Look g awaited bytes
look_at g awaited bytes (Ok None) is = lacks (ap (finding_by g awaited bytes) is)
look_at g awaited bytes (Ok (Some piece)) is =
    look_before g awaited bytes piece is (g.told awaited (bytes_of piece)) refl
look_at g awaited bytes (Err fault) is =
    ends (g.unreadable fault ∷ []) (ap (finding_by g awaited bytes) is)
    (λ more. ap (finding_by g awaited (bytes ++ more)) (fault_stands g awaited bytes more fault is))

pub look : {A I : Type 0} (g : Grammar A I) (awaited : A) (bytes : List ℕ) → Look g awaited bytes
look g awaited bytes = look_at g awaited bytes (cut_awaited g awaited bytes) refl

-- ---- the number of looks

one_look : {A I : Type 0} (g : Grammar A I) (n : ℕ) (awaited : A) (bytes : List ℕ) (f : Found A I)
    → finding g awaited bytes ≡ f
    → reading_within g (suc n) awaited bytes ≡ reading_after (reading_within g n) awaited bytes f
unfolding reading_within
one_look g n awaited bytes f is = ap (reading_after (reading_within g n) awaited bytes) is

-- more looks than bytes change nothing
enough_by : {A I : Type 0} (g : Grammar A I) (n m : ℕ) (awaited : A) (bytes : List ℕ)
    → ((next : A) (behind : List ℕ) → length behind < length bytes
    → reading_within g n next behind ≡ reading_within g m next behind)
    → Look g awaited bytes
    → reading_within g (suc n) awaited bytes ≡ reading_within g (suc m) awaited bytes
enough_by g n m awaited bytes later (lacks is) =
    one_look g n awaited bytes nothing is ∙ sym (one_look g m awaited bytes nothing is)
enough_by g n m awaited bytes later (goes items next behind is shorter more) =
    one_look g n awaited bytes _ is
    ∙ ap (with_items items) (later next behind shorter)
    ∙ sym (one_look g m awaited bytes _ is)
enough_by g n m awaited bytes later (ends items is more) =
    one_look g n awaited bytes _ is ∙ sym (one_look g m awaited bytes _ is)

enough : {A I : Type 0} (g : Grammar A I) (n m : ℕ) (awaited : A) (bytes : List ℕ)
    → length bytes < n
    → length bytes < m
    → reading_within g n awaited bytes ≡ reading_within g m awaited bytes
enough g zero m awaited bytes l k = absurd (omega arith)
enough g (suc n) zero awaited bytes l k = absurd (omega arith)
enough g (suc n) (suc m) awaited bytes l k =
    enough_by g n m awaited bytes (λ next behind shorter. enough g n m next behind (omega arith) (omega arith))
    (look g awaited bytes)

from : {A I : Type 0} (g : Grammar A I) (n : ℕ) (awaited : A) (bytes : List ℕ)
    → length bytes < n
    → reading_within g n awaited bytes ≡ reading_of g awaited bytes
from g n awaited bytes l = enough g n (suc (length bytes)) awaited bytes l (omega arith)

pub waits_for_more : {A I : Type 0} (g : Grammar A I) → WaitsForMore g
waits_for_more g awaited bytes is = one_look g (length bytes) awaited bytes nothing is

-- ---- reading look by look

-- one look, and the reading of what is left
pub reading_of-look : {A I : Type 0} (g : Grammar A I) (awaited : A) (bytes : List ℕ)
    → reading_of g awaited bytes ≡ reading_after (reading_of g) awaited bytes (finding g awaited bytes)
reading_of-look g awaited bytes = by_look (look g awaited bytes) where
  by_look : Look g awaited bytes
      → reading_of g awaited bytes ≡ reading_after (reading_of g) awaited bytes (finding g awaited bytes)
  by_look (lacks is) =
      one_look g (length bytes) awaited bytes nothing is ∙ sym (ap (reading_after (reading_of g) awaited bytes) is)
  by_look (goes items next behind is shorter later) =
      one_look g (length bytes) awaited bytes _ is ∙ ap (with_items items) (from g (length bytes) next behind shorter)
      ∙ sym (ap (reading_after (reading_of g) awaited bytes) is)
  by_look (ends items is later) =
      one_look g (length bytes) awaited bytes _ is ∙ sym (ap (reading_after (reading_of g) awaited bytes) is)

pub with_items-twice : {A I : Type 0} (front items : List I) (r : Reading A I)
    → with_items front (with_items items r) ≡ with_items (front ++ items) r
with_items-twice front items r = ap (λ all. record r { items = all }) (sym (append_assoc front items r.items))

with_items-ended : {A I : Type 0} (items : List I)
    → with_items {Item = I} items (last_reading {Awaited = A} []) ≡ last_reading items
with_items-ended items = ap (λ all. last_reading all) (append-nil items)

pub reads_by_looks : {A I : Type 0} (g : Grammar A I) → ReadsByLooks g
reads_by_looks g awaited bytes more = by_look (look g awaited bytes) where
  by_look : Look g awaited bytes
      → reading_of g awaited (bytes ++ more) ≡ reading_by_look g awaited bytes more (finding g awaited bytes)
  by_look (lacks is) = sym (ap (reading_by_look g awaited bytes more) is)
  by_look (goes items next behind is shorter later) =
      one_look g (length (bytes ++ more)) awaited (bytes ++ more) _ (later more)
      ∙ ap (with_items items)
      (from g (length (bytes ++ more)) next (behind ++ more)
      (omega (arith, length-append bytes more, length-append behind more)))
      ∙ sym (ap (reading_by_look g awaited bytes more) is)
  by_look (ends items is later) =
      one_look g (length (bytes ++ more)) awaited (bytes ++ more) _ (later more)
      ∙ sym (ap (reading_by_look g awaited bytes more) is)

-- ---- reading in parts

in_two_by : {A I : Type 0} (g : Grammar A I) (n : ℕ) (awaited : A) (front behind : List ℕ)
    → ((next : A) (rest : List ℕ) → length rest < length front
    → read_on g (reading_within g n next rest) behind ≡ reading_of g next (rest ++ behind))
    → Look g awaited front
    → read_on g (reading_within g (suc n) awaited front) behind ≡ reading_of g awaited (front ++ behind)
in_two_by g n awaited front behind later (lacks is) =
    ap (λ r. read_on g r behind) (one_look g n awaited front nothing is)
in_two_by g n awaited front behind later (goes items next rest is shorter more) =
    ap (λ r. read_on g r behind) (one_look g n awaited front _ is)
    ∙ sym (with_items-twice items (reading_within g n next rest).items
    (continuation g (reading_within g n next rest).end behind))
    ∙ ap (with_items items)
    (later next rest shorter
    ∙ sym (from g (length (front ++ behind)) next (rest ++ behind)
    (omega (arith, length-append front behind, length-append rest behind))))
    ∙ sym (one_look g (length (front ++ behind)) awaited (front ++ behind) _ (more behind))
in_two_by g n awaited front behind later (ends items is more) =
    ap (λ r. read_on g r behind) (one_look g n awaited front _ is)
    ∙ with_items-ended items
    ∙ sym (one_look g (length (front ++ behind)) awaited (front ++ behind) _ (more behind))

in_two : {A I : Type 0} (g : Grammar A I) (n : ℕ) (awaited : A) (front behind : List ℕ)
    → length front < n
    → read_on g (reading_within g n awaited front) behind ≡ reading_of g awaited (front ++ behind)
in_two g zero awaited front behind l = absurd (omega arith)
in_two g (suc n) awaited front behind l =
    in_two_by g n awaited front behind (λ next rest shorter. in_two g n next rest behind (omega arith))
    (look g awaited front)

-- in one part and in two
pub reads_on : {A I : Type 0} (g : Grammar A I) (awaited : A) (front behind : List ℕ)
    → read_on g (reading_of g awaited front) behind ≡ reading_of g awaited (front ++ behind)
reads_on g awaited front behind = in_two g (suc (length front)) awaited front behind (omega arith)

in_parts : {A I : Type 0} (g : Grammar A I) (awaited : A) (front : List ℕ) (parts : List (List ℕ))
    → read_parts g (reading_of g awaited front) parts ≡ reading_of g awaited (front ++ concat parts)
in_parts g awaited front [] = ap (reading_of g awaited) (sym (append-nil front))
in_parts g awaited front (part ∷ parts) =
    ap (λ r. read_parts g r parts) (reads_on g awaited front part) ∙ in_parts g awaited (front ++ part) parts
    ∙ ap (reading_of g awaited) (append_assoc front part (concat parts))

pub reads_in_parts : {A I : Type 0} (g : Grammar A I) → ReadsInParts g
reads_in_parts g awaited parts = in_parts g awaited [] parts

-- ---- a cutter that reads by a grammar

pub cuts_alike : {A I : Type 0} (g : Grammar A I) (awaited : A) (s : CutterState)
    → StandsAt g awaited s
    → cut_of s ≡ cut_awaited g awaited s.unread
cuts_alike g awaited s at =
    ap (λ f. cut_unless f s) at.fault
    ∙ ap (λ e. cut_next s.line_max e s.unread) at.expected
    ∙ ap (λ n. cut_next n (g.size awaited) s.unread) at.line_max

-- what is found of a piece
record Finds {A I : Type 0} (g : Grammar A I) (awaited next : A) (s : CutterState) (behind : List ℕ) : Type 0 where
  piece : StreamPiece
  cut : cut_of s ≡ Ok (Some piece)
  fits : size_fault g.payload_max (g.size next) ≡ None
  rest : behind ≡ drop (length (bytes_of piece) + 2) s.unread

finds_by_fault : {A I : Type 0} (g : Grammar A I) (items all : List I) (then next : A) (bytes behind : List ℕ)
    (fault : Option CutFault)
    → finding_next g all then bytes fault ≡ something items next behind
    → (fault ≡ None) × (then ≡ next) × (behind ≡ bytes)
finds_by_fault g items all then next bytes behind None is = (refl, cc is, cc is)
finds_by_fault g items all then next bytes behind (Some fault) is = absurd (cc is)

finds_by : {A I : Type 0} (g : Grammar A I) (awaited next : A) (s : CutterState) (items : List I) (behind : List ℕ)
    (answer : Answer)
    → cut_of s ≡ answer
    → finding_by g awaited s.unread answer ≡ something items next behind
    → Finds g awaited next s behind
finds_by g awaited next s items behind (Ok None) cut is = absurd (cc is)
finds_by g awaited next s items behind (Err fault) cut is = absurd (cc is)
finds_by {A = A} {I = I} g awaited next s items behind (Ok (Some piece)) cut is =
    by_told (g.told awaited (bytes_of piece)) is
  where
    rest : List ℕ
    rest = drop (length (bytes_of piece) + 2) s.unread

    by_told : (told : Told A I)
        → finding_before g rest told ≡ something items next behind
        → Finds g awaited next s behind
    by_told (ending all) says = absurd (cc says)
    by_told (going_on all then) says =
        let parts = finds_by_fault g items all then next rest behind (size_fault g.payload_max (g.size then)) says in
        record {
          piece = piece;
          cut = cut;
          fits = subst (λ a. size_fault g.payload_max (g.size a) ≡ None) parts.1 parts.0;
          rest = parts.2;
        }

finds : {A I : Type 0} (g : Grammar A I) (awaited next : A) (s : CutterState) (items : List I) (behind : List ℕ)
    → StandsAt g awaited s
    → finding g awaited s.unread ≡ something items next behind
    → Finds g awaited next s behind
finds g awaited next s items behind at is =
    finds_by g awaited next s items behind (cut_of s) refl
    (ap (finding_by g awaited s.unread) (cuts_alike g awaited s at) ∙ is)

-- ---- the cutter behind a piece, and behind an announcement

after_piece : (s : CutterState) (piece : StreamPiece)
    → cut_of s ≡ Ok (Some piece)
    → after_next s ≡ after_answer s (Ok (Some piece))
after_piece s piece cut = ap (after_answer s) cut

expects : (s : CutterState) (size : ℕ)
    → expect_fault s.fault s.payload_max size ≡ None
    → after_expect s size ≡ record s { expected = Some size }
expects s size fits = ap (after_refusal s size) fits

pub expects_again : ExpectsAgain
expects_again s first second one other =
    ap (λ t. after_expect t second) (expects s first one)
    ∙ expects (record s { expected = Some first }) second other
    ∙ sym (expects s second other)

fed_refusal : (s : CutterState) (size : ℕ) (bytes : List ℕ) (fault : Option CutFault)
    → after_refusal (after_feed s bytes) size fault ≡ after_feed (after_refusal s size fault) bytes
fed_refusal s size bytes None = refl
fed_refusal s size bytes (Some fault) = refl

pub expects_when_fed : ExpectsWhenFed
expects_when_fed s size bytes = fed_refusal s size bytes (expect_fault s.fault s.payload_max size)

abbrev behind_piece : CutterState → StreamPiece → CutterState
behind_piece s piece = after_answer s (Ok (Some piece))

record StandsBehind {A I : Type 0} (g : Grammar A I) (next : A) (rest : List ℕ) (s : CutterState) : Type 0 where
  there : StandsAt g next s
  unread : s.unread ≡ rest

stands_by_size : {A I : Type 0} (g : Grammar A I) (awaited next : A) (s : CutterState) (piece : StreamPiece)
    → StandsAt g awaited s
    → (size : Option ℕ)
    → g.size next ≡ size
    → size_fault g.payload_max size ≡ None
    → StandsBehind g next (drop (length (bytes_of piece) + 2) s.unread) (told_of (behind_piece s piece) size)
stands_by_size g awaited next s piece at None is fits = record {
  there = record { expected = sym is; fault = at.fault; line_max = at.line_max; payload_max = at.payload_max };
  unread = refl;
}
stands_by_size g awaited next s piece at (Some size) is fits =
    let allowed : expect_fault s.fault s.payload_max size ≡ None =
    ap (λ f. expect_fault f s.payload_max size) at.fault ∙ ap (λ n. expect_fault None n size) at.payload_max ∙ fits in
    let e : told_of (behind_piece s piece) (Some size) ≡ record (behind_piece s piece) { expected = Some size } =
    expects (behind_piece s piece) size allowed in
    subst (StandsBehind g next (drop (length (bytes_of piece) + 2) s.unread)) (sym e) (record {
      there = record { expected = sym is; fault = at.fault; line_max = at.line_max; payload_max = at.payload_max };
      unread = refl;
    })

stands_behind : {A I : Type 0} (g : Grammar A I) (awaited next : A) (s : CutterState) (items : List I) (behind : List ℕ)
    → StandsAt g awaited s
    → finding g awaited s.unread ≡ something items next behind
    → StandsBehind g next behind (told_of (after_next s) (g.size next))
stands_behind g awaited next s items behind at is =
    let it = finds g awaited next s items behind at is in
    let there = stands_by_size g awaited next s it.piece at (g.size next) refl it.fits in
    subst (λ t. StandsBehind g next behind (told_of t (g.size next))) (sym (after_piece s it.piece it.cut))
    (record { there = there.there; unread = there.unread ∙ sym it.rest })

pub follows_grammar : {A I : Type 0} (g : Grammar A I) → FollowsGrammar g
follows_grammar g = record {
  cuts = cuts_alike g;
  goes_on = λ awaited next s items behind at is. (stands_behind g awaited next s items behind at is).there;
  behind = λ awaited next s items behind at is. (stands_behind g awaited next s items behind at is).unread;
  fed = λ awaited s bytes at. record {
    expected = at.expected;
    fault = at.fault;
    line_max = at.line_max;
    payload_max = at.payload_max;
  };
}
