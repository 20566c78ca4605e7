-- What is written of a frame of a route is cut again, and read as that frame.
use Rattle.std.specs.Prelude.{option_map}
use Rattle.std.proofs.Common.{length, refl, ap, arith, Ok, unwrap_or, ◌≡◌, ◌∙◌, []}
use Rattle.route_values.specs.declared.bodies.Body.{Body}
use Rattle.route_values.specs.declared.bodies.Body.TheVariants.{Plus, Minus, Snapshot, Msg}
use Rattle.route_values.specs.declared.frames.RouteFrame.{RouteFrame}
use Rattle.route_values.specs.declared.frames.RouteFrame.TheVariants.{Info, Connect, Numbered}
use Rattle.route_values.specs.Snapshots.{snapshot_text}
use Rattle.route_values.specs.Valid.{IsBody, IsRouteFrame}
use Rattle.route_frames.specs.Canonical.{canonical_line, body_payload, canonical_payload}
use Rattle.route_frames.specs.Laws.{IsShort, AreLines, ArePayloads, IsCutAgain, IsAnnouncedAgain, IsReadAgain}
use Rattle.route_frames.proofs.Cuts.Frames.{IsShortLine, none_is, line_cut, line_short}
use Rattle.route_frames.proofs.Canonical.Numbered.{snapshot_fits}
use Rattle.route_frames.specs.Spelling.{body_announces, announces}
use Rattle.route_frames.proofs.Canonical.Frames.{canonical_is_spelt}
use Rattle.route_frames.proofs.Meaning.Whole.{spelt_is_read, announced_is_told}
use Rattle.route_frames.proofs.Canonical.Greetings.{plain_without_cr, info_text, connect_text}

-- ---- lines and payloads are short

lines : (frame : RouteFrame) → IsRouteFrame frame → IsShortLine (canonical_line frame)
lines (Info info) is =
    let text = info_text info is in
    let short = text.short in
    record { plain = plain_without_cr (canonical_line (Info info)) text.plain; short = omega arith }
lines (Connect connect) is =
    let text = connect_text connect is in
    let short = text.short in
    record { plain = plain_without_cr (canonical_line (Connect connect)) text.plain; short = omega arith }
lines (Numbered frame) is = line_short frame is

pub are_lines : AreLines
are_lines frame is =
    let text = lines frame is in record { short = text.short; whole = none_is (canonical_line frame) text.plain }

pub is_cut_again : IsCutAgain
is_cut_again frame rest is = let text = lines frame is in line_cut (canonical_line frame) rest text.plain text.short

payload_short : (body : Body) → IsBody body → IsShort (body_payload body)
payload_short (Plus weighted) is = tt
payload_short (Minus key) is = tt
payload_short (Snapshot keys) is = snapshot_fits (length (snapshot_text keys)) _ is.ordered
payload_short (Msg message queues) is = let short = is.body in omega arith

pub are_payloads : ArePayloads
are_payloads (Info info) is = tt
are_payloads (Connect connect) is = tt
are_payloads (Numbered frame) is = payload_short frame.body is.body

-- ---- a line and its payload are read as the frame that they spell

body_announced : (body : Body)
    → body_announces body (unwrap_or (body_payload body) [])
    ≡ option_map (λ payload. length payload) (body_payload body)
body_announced (Plus weighted) = refl
body_announced (Minus key) = refl
body_announced (Snapshot keys) = refl
body_announced (Msg message queues) = refl

announced : (frame : RouteFrame)
    → announces frame (unwrap_or (canonical_payload frame) [])
    ≡ option_map (λ payload. length payload) (canonical_payload frame)
announced (Info info) = refl
announced (Connect connect) = refl
announced (Numbered frame) = body_announced frame.body

pub is_announced_again : IsAnnouncedAgain
is_announced_again frame is =
    let spelt = canonical_is_spelt frame is in
    announced_is_told (canonical_line frame) (announces frame (unwrap_or (canonical_payload frame) []))
    (frame, spelt.in_line)
    ∙ ap (λ size. Ok size) (announced frame)

pub is_read_again : IsReadAgain
is_read_again frame is =
    spelt_is_read frame (canonical_line frame) (unwrap_or (canonical_payload frame) []) (canonical_is_spelt frame is)
