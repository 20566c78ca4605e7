-- Bytes that are cut into lines, and lines that are gathered.
use Rattle.std.proofs.Common.{◌≡◌, ℕ, ◌+◌, ◌-◌, ◌≤◌, Bool, true, false, not, cond, List, [], ◌∷◌, length, take, drop, Option, Some, None, Result, Ok, Err, refl, ap, sym, ◌∙◌, arith, length-drop}
use Rattle.std.specs.Prelude.{position}
use Rattle.std.specs.List.{slice_split, onto_first, position_or_len}
use Rattle.std.proofs.lemmas.List.{take_all}
use Rattle.std.proofs.lemmas.List.Splits.{slice_split_first}
use Rattle.std.proofs.lemmas.List.Sums.{prefix_len-le-length}
use Rattle.list_laws.proofs.Positions.{not_below, below}
use Rattle.audit_log.specs.declared.faults.LogFault.{LogFault}
use Rattle.audit_log.specs.Logs.{Log, go_on, is_line_end, lines_behind, lines_of, with_line, with_lines}

-- ---- bytes that are cut

-- a list without an element that passes is one piece
one_piece : {X : Type 0} (p : X → Bool) (xs : List X) → length xs ≤ position_or_len p xs → slice_split p xs ≡ xs ∷ []
one_piece p [] past = refl
one_piece p (x ∷ xs) past =
    elim (p x) as (λ b.
    length (x ∷ xs) ≤ cond (not b) (1 + position_or_len p xs) 0
    → cond b ([] ∷ slice_split p xs) (onto_first x (slice_split p xs)) ≡ (x ∷ xs) ∷ []) [
      | true ↦ λ le. absurd (omega arith)
      | false ↦ λ le. ap (onto_first x) (one_piece p xs (omega arith))
    ] past

pub one_line : (bytes : List ℕ) → position is_line_end bytes ≡ None → lines_of bytes ≡ bytes ∷ []
one_line bytes none = one_piece is_line_end bytes (not_below (position_or_len is_line_end bytes) (length bytes) none)

pub line_and_rest : (bytes : List ℕ) (end : ℕ)
    → position is_line_end bytes ≡ Some end
    → lines_of bytes ≡ take end bytes ∷ lines_of (take (length bytes - (end + 1)) (drop (end + 1) bytes))
line_and_rest bytes end found =
    let at = below (position_or_len is_line_end bytes) (length bytes) end found in
    slice_split_first is_line_end bytes 0 at.0
    ∙ ap (λ n. take n bytes ∷ lines_of (drop (n + 1) bytes)) at.1
    ∙ ap (λ rest. take end bytes ∷ lines_of rest)
    (sym (take_all (length bytes - (end + 1)) (drop (end + 1) bytes) (omega (arith, length-drop (end + 1) bytes))))

-- where no element passes, the first place is behind all
pub past_all : {X : Type 0} (p : X → Bool) (xs : List X) → position p xs ≡ None → length xs ≡ position_or_len p xs
past_all p xs none =
    let above = not_below (position_or_len p xs) (length xs) none in
    let within : position_or_len p xs ≤ length xs = prefix_len-le-length _ xs in
    omega arith

-- ---- lines that are gathered

pub one_more : (log new : Log) (bytes line : List ℕ) (behind : Option (List ℕ))
    → lines_of bytes ≡ line ∷ lines_behind behind
    → with_line log line ≡ Ok new
    → with_lines log (lines_of bytes) ≡ with_lines new (lines_behind behind)
one_more log new bytes line behind cut is =
    ap (with_lines log) cut ∙ ap (λ r. go_on r (λ log. with_lines log (lines_behind behind))) is

pub one_refused : (log : Log) (bytes line : List ℕ) (behind : Option (List ℕ)) (fault : LogFault)
    → lines_of bytes ≡ line ∷ lines_behind behind
    → with_line log line ≡ Err fault
    → with_lines log (lines_of bytes) ≡ Err fault
one_refused log bytes line behind fault cut is =
    ap (with_lines log) cut ∙ ap (λ r. go_on r (λ log. with_lines log (lines_behind behind))) is
