-- The line of a publication that was read last.
use Rattle.std.specs.Prelude.{◌≡◌, ℕ, ◌<◌, ◌≤◌, List, length, slice_range, None, Ok}
use Rattle.client_frames.specs.declared.client_line.ClientLine.TheVariants.{Pub}
use Rattle.client_frames.specs.declared.client_line.PubHead.{PubHead}
use Rattle.client_frames.specs.declared.last_line.TheConstants.{SUBJECT_AT}
use Rattle.client_frames.specs.Lines.{line_meaning}

-- without a reply and without a header block
abbrev pub plain_head : List ℕ → ℕ → PubHead
plain_head subject size = record { subject = subject; reply = None; headers = None; size = size }

-- a line that is noted has its subject up to this place, and so many bytes follow it
pub record IsNoted (line : List ℕ) (subject_end size : ℕ) : Type 0 where
  pub within : 0 < subject_end → (SUBJECT_AT ≤ subject_end) × (subject_end ≤ length line)
  pub means : 0 < subject_end
      → line_meaning line ≡ Ok (Pub (plain_head (slice_range line SUBJECT_AT subject_end) size))
