-- Laws of route spelling.
use Rattle.std.specs.Prelude.{◌≡◌, ◌≤◌, ℕ, List, ◌++◌, length, Option, Some, None, Ok, [], option_map, unwrap_or}
use Rattle.subj.specs.declared.limits.TheConstants.{ROUTE_LINE, MAX_SNAPSHOT}
use Rattle.wire_cut.specs.Cut as cut
use Rattle.route_values.specs.declared.frames.RouteFrame.{RouteFrame}
use Rattle.route_values.specs.Snapshots.{line_end}
use Rattle.route_values.specs.Valid.{IsRouteFrame}
use Rattle.route_frames.specs.Canonical.{canonical_line, canonical_payload, frame_bytes}
use Rattle.route_frames.specs.Decoding.{size_meaning, frame_meaning}
use Rattle.route_frames.specs.Spelling.{Spells}
use Rattle.route_frames.specs.Refusals.{Announces}

-- ---- what is spelt is what is read: the relation of route spelling and the computed meaning of
-- bytes are one

abbrev pub SpeltIsRead : Type 0
SpeltIsRead =
    (frame : RouteFrame) (line payload : List ℕ)
    → Spells frame line payload
    → frame_meaning line payload ≡ Ok frame

abbrev pub ReadIsSpelt : Type 0
ReadIsSpelt =
    (frame : RouteFrame) (line payload : List ℕ)
    → frame_meaning line payload ≡ Ok frame
    → Spells frame line payload

abbrev pub AnnouncedIsTold : Type 0
AnnouncedIsTold =
    (line : List ℕ) (size : Option ℕ) → Announces line size → size_meaning line ≡ Ok size

abbrev pub ToldIsAnnounced : Type 0
ToldIsAnnounced =
    (line : List ℕ) (size : Option ℕ) → size_meaning line ≡ Ok size → Announces line size

-- a line and a payload spell one frame at most, and a line announces one size
abbrev pub SpellsOneFrame : Type 0
SpellsOneFrame =
    (one other : RouteFrame) (line payload : List ℕ)
    → Spells one line payload
    → Spells other line payload
    → one ≡ other

abbrev pub AnnouncesOneSize : Type 0
AnnouncesOneSize =
    (line : List ℕ) (one other : Option ℕ) → Announces line one → Announces line other → one ≡ other

-- ---- what is written is cut again from a stream, whatever follows it

-- a canonical line is within its limit, and holds no CR LF
pub record IsLine (text : List ℕ) : Type 0 where
  pub short : length text ≤ ROUTE_LINE
  pub whole : cut.first_cr_lf text ≡ None

abbrev pub AreLines : Type 0
AreLines = (frame : RouteFrame) → IsRouteFrame frame → IsLine (canonical_line frame)

-- so it is cut at the CR LF behind it
abbrev pub IsCutAgain : Type 0
IsCutAgain =
    (frame : RouteFrame) (rest : List ℕ)
    → IsRouteFrame frame
    → cut.cut_line ROUTE_LINE (canonical_line frame ++ (line_end ++ rest))
    ≡ Ok (Some (cut.line (canonical_line frame)))

-- a payload is within its limit
abbrev pub IsShort : Option (List ℕ) → Type 0
IsShort None = Unit {0}
IsShort (Some bytes) = length bytes ≤ MAX_SNAPSHOT

abbrev pub ArePayloads : Type 0
ArePayloads = (frame : RouteFrame) → IsRouteFrame frame → IsShort (canonical_payload frame)

-- and is cut by the size that was announced
abbrev pub IsPayloadCutAgain : Type 0
IsPayloadCutAgain =
    (bytes rest : List ℕ)
    → cut.cut_payload (length bytes) (bytes ++ (line_end ++ rest)) ≡ Ok (Some (cut.payload bytes))

-- ---- what is written is read again

-- the line of a frame tells the size of the payload behind it, where there is one
abbrev pub IsAnnouncedAgain : Type 0
IsAnnouncedAgain =
    (frame : RouteFrame)
    → IsRouteFrame frame
    → size_meaning (canonical_line frame)
    ≡ Ok (option_map (λ payload. length payload) (canonical_payload frame))

-- the canonical spelling of a frame means that frame
abbrev pub IsReadAgain : Type 0
IsReadAgain =
    (frame : RouteFrame)
    → IsRouteFrame frame
    → frame_meaning (canonical_line frame) (unwrap_or (canonical_payload frame) []) ≡ Ok frame

-- and spells it
abbrev pub CanonicalIsSpelt : Type 0
CanonicalIsSpelt =
    (frame : RouteFrame)
    → IsRouteFrame frame
    → Spells frame (canonical_line frame) (unwrap_or (canonical_payload frame) [])

-- no canonical spelling begins that of another frame
abbrev pub BeginsNoOther : Type 0
BeginsNoOther =
    (one other : RouteFrame) (rest more : List ℕ)
    → IsRouteFrame one
    → IsRouteFrame other
    → frame_bytes one ++ rest ≡ frame_bytes other ++ more
    → one ≡ other
