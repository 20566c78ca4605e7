-- The cutter's answers as contracts see them, and what it is once the bytes that it lent are no
-- longer borrowed.
use Rattle.std.specs.Prelude.{◌≡◌, Option, None, Some, Result, Ok, Err}
use Rattle.std.specs.Borrow.{MutBor, Fml}
use Rattle.std.specs.Io.BufRead.{Rests}
use Rattle.wire_cut.specs.Cut.{Answer, CutterState, StreamPiece, line, payload, after_next}
use Rattle.wire_cut.specs.declared.faults.CutFault.{CutFault}
use Rattle.wire_cut.specs.declared.piece.Piece.{Piece}
use Rattle.wire_cut.specs.declared.piece.Piece.TheVariants.{Line, Payload}
use Rattle.wire_cut.specs.contracts.cutter.Cutter.{the_row}

-- a piece with the bytes that it borrows
abbrev pub stream_piece : Piece → StreamPiece
stream_piece (Line bytes) = line bytes.now
stream_piece (Payload bytes) = payload bytes.now

-- what `next` answered
abbrev pub next_answer : Result (Option Piece) CutFault → Answer
next_answer (Ok None) = Ok None
next_answer (Ok (Some piece)) = Ok (Some (stream_piece piece))
next_answer (Err fault) = Err fault

-- the cutter is the one after `next`
abbrev pub LeavesNext : MutBor CutterState → Fml
LeavesNext cutter = Rests the_row cutter (λ new. new ≡ after_next cutter.now)
