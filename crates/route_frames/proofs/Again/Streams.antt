-- What is written of frames is read again, however it comes in parts.
use Rattle.std.proofs.Common.{◌≡◌, ℕ, ◌≤◌, cond, List, [], ◌∷◌, ◌++◌, length, refl, ap, ◌∙◌, append_assoc, Option, Some, None, Ok}
use Rattle.std.specs.Prelude.{map, option_map, unwrap_or}
use Rattle.std.specs.List.{flat_map}
use Rattle.std.proofs.Math.Seq.{drop-append-add}
use Rattle.std.proofs.lemmas.Bool.{le-ltb}
use Rattle.subj.specs.declared.limits.TheConstants.{ROUTE_LINE, MAX_SNAPSHOT}
use Rattle.wire_cut.specs.declared.faults.CutFault.TheVariants.{PayloadTooLong}
use Rattle.wire_cut.specs.Cut.{line, payload, cut_line, cut_payload}
use Rattle.wire_cut.specs.Reading.{Found, something, finding_next, finding_before, finding_by, finding, with_items, reading_after, reading_of}
use Rattle.wire_cut.proofs.ReadingLemmas.{reading_of-look, reads_in_parts, with_items-twice}
use Rattle.route_values.specs.declared.frames.RouteFrame.{RouteFrame}
use Rattle.route_values.specs.Snapshots.{line_end}
use Rattle.route_values.specs.Valid.{IsRouteFrame, AreRouteFrames}
use Rattle.route_frames.specs.Decoding.{frame_meaning, size_meaning}
use Rattle.line_fields.specs.LineEnd.{payload_bytes}
use Rattle.route_frames.specs.Canonical.{canonical_line, canonical_payload, frame_bytes}
use Rattle.route_frames.specs.Laws.{IsAnnouncedAgain, IsReadAgain, IsCutAgain, IsShort, ArePayloads, IsPayloadCutAgain}
use Rattle.route_frames.specs.InStream.{RouteItem, came, Awaited, a_line, payload_of, frame_told, line_told, route_grammar, AreReadInAnyParts}

-- ---- one look

read_by_look : (awaited : Awaited) (bytes : List ℕ) (f : Found Awaited RouteItem)
    → finding route_grammar awaited bytes ≡ f
    → reading_of route_grammar awaited bytes ≡ reading_after (reading_of route_grammar) awaited bytes f
read_by_look awaited bytes f is =
    reading_of-look route_grammar awaited bytes ∙ ap (reading_after (reading_of route_grammar) awaited bytes) is

line_found : (text behind : List ℕ)
    → cut_line ROUTE_LINE (text ++ (line_end ++ behind)) ≡ Ok (Some (line text))
    → finding route_grammar a_line (text ++ (line_end ++ behind))
    ≡ finding_before route_grammar behind (line_told text (size_meaning text))
line_found text behind is =
    ap (finding_by route_grammar a_line (text ++ (line_end ++ behind))) is
    ∙ ap (λ bytes. finding_before route_grammar bytes (line_told text (size_meaning text)))
    (drop-append-add text (line_end ++ behind) 2)

payload_found : (text bytes behind : List ℕ)
    → cut_payload (length bytes) (bytes ++ (line_end ++ behind)) ≡ Ok (Some (payload bytes))
    → finding route_grammar (payload_of text (length bytes)) (bytes ++ (line_end ++ behind))
    ≡ finding_before route_grammar behind (frame_told (frame_meaning text bytes))
payload_found text bytes behind is =
    ap (finding_by route_grammar (payload_of text (length bytes)) (bytes ++ (line_end ++ behind))) is
    ∙ ap (λ rest. finding_before route_grammar rest (frame_told (frame_meaning text bytes)))
    (drop-append-add bytes (line_end ++ behind) 2)

-- ---- one frame, and all

-- the payload of a size within the limit is awaited
awaited_next : (text behind : List ℕ) (size : ℕ)
    → size ≤ MAX_SNAPSHOT
    → finding_before route_grammar behind (line_told text (Ok (Some size))) ≡ something [] (payload_of text size) behind
awaited_next text behind size within =
    ap (λ above. finding_next route_grammar [] (payload_of text size) behind (cond above (Some PayloadTooLong) None))
    (le-ltb MAX_SNAPSHOT size within)

frame_read : (text : List ℕ) (behind : Option (List ℕ)) (frame : RouteFrame) (rest : List ℕ)
    → IsPayloadCutAgain
    → ((more : List ℕ) → cut_line ROUTE_LINE (text ++ (line_end ++ more)) ≡ Ok (Some (line text)))
    → size_meaning text ≡ Ok (option_map (λ bytes. length bytes) behind)
    → IsShort behind
    → frame_meaning text (unwrap_or behind []) ≡ Ok frame
    → reading_of route_grammar a_line (text ++ (line_end ++ (payload_bytes behind ++ rest)))
    ≡ with_items (came frame ∷ []) (reading_of route_grammar a_line rest)
frame_read text None frame rest payload_cut line_cut says short means =
    read_by_look a_line (text ++ (line_end ++ rest)) _
    (line_found text rest (line_cut rest) ∙ ap (λ size. finding_before route_grammar rest (line_told text size)) says
    ∙ ap (λ meaning. finding_before route_grammar rest (frame_told meaning)) means)
frame_read text (Some bytes) frame rest payload_cut line_cut says short means =
    let behind : List ℕ = bytes ++ (line_end ++ rest) in
    ap (λ all. reading_of route_grammar a_line (text ++ (line_end ++ all))) (append_assoc bytes line_end rest)
    ∙ read_by_look a_line (text ++ (line_end ++ behind)) (something [] (payload_of text (length bytes)) behind)
    (line_found text behind (line_cut behind)
    ∙ ap (λ size. finding_before route_grammar behind (line_told text size)) says
    ∙ awaited_next text behind (length bytes) short)
    ∙ read_by_look (payload_of text (length bytes)) behind (something (came frame ∷ []) a_line rest)
    (payload_found text bytes rest (payload_cut bytes rest)
    ∙ ap (λ meaning. finding_before route_grammar rest (frame_told meaning)) means)

bytes_behind : (text behind rest : List ℕ)
    → (text ++ (line_end ++ behind)) ++ rest ≡ text ++ (line_end ++ (behind ++ rest))
bytes_behind text behind rest = append_assoc text (line_end ++ behind) rest

module _ (read : IsReadAgain) (cut : IsCutAgain) (announced : IsAnnouncedAgain) (payloads : ArePayloads)
    (payload_cut : IsPayloadCutAgain) where
  one_read : (frame : RouteFrame) (rest : List ℕ)
      → IsRouteFrame frame
      → reading_of route_grammar a_line (frame_bytes frame ++ rest)
      ≡ with_items (came frame ∷ []) (reading_of route_grammar a_line rest)
  one_read frame rest is =
      ap (reading_of route_grammar a_line)
      (bytes_behind (canonical_line frame) (payload_bytes (canonical_payload frame)) rest)
      ∙ frame_read (canonical_line frame) (canonical_payload frame) frame rest payload_cut (λ more. cut frame more is)
      (announced frame is) (payloads frame is) (read frame is)

  all_read : (frames : List RouteFrame) (rest : List ℕ)
      → AreRouteFrames frames
      → reading_of route_grammar a_line (flat_map frame_bytes frames ++ rest)
      ≡ with_items (map came frames) (reading_of route_grammar a_line rest)
  all_read [] rest are = refl
  all_read (frame ∷ frames) rest are =
      ap (reading_of route_grammar a_line) (append_assoc (frame_bytes frame) (flat_map frame_bytes frames) rest)
      ∙ one_read frame (flat_map frame_bytes frames ++ rest) are.0
      ∙ ap (with_items (came frame ∷ [])) (all_read frames rest are.1)
      ∙ with_items-twice (came frame ∷ []) (map came frames) (reading_of route_grammar a_line rest)

  pub read_in_any_parts : AreReadInAnyParts
  read_in_any_parts frames rest parts are is =
      reads_in_parts route_grammar a_line parts ∙ ap (reading_of route_grammar a_line) is ∙ all_read frames rest are
