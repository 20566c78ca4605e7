-- No canonical spelling of a frame begins that of another.
use Rattle.std.proofs.Common.{◌≡◌, ℕ, List, [], ◌∷◌, ◌++◌, length, take, drop, refl, ap, sym, ◌∙◌, append_assoc, Option, Some, None, Ok}
use Rattle.std.specs.Prelude.{option_map, unwrap_or}
use Rattle.wire_cut.specs.Cut.{Answer, line, cut_line}
use Rattle.subj.specs.declared.limits.TheConstants.{ROUTE_LINE}
use Rattle.route_values.specs.declared.frames.RouteFrame.{RouteFrame}
use Rattle.route_values.specs.Snapshots.{line_end}
use Rattle.route_frames.specs.Meaning.{Meaning}
use Rattle.route_frames.specs.Decoding.{size_meaning, frame_meaning}
use Rattle.line_fields.specs.LineEnd.{payload_bytes}
use Rattle.route_frames.specs.Canonical.{canonical_line, canonical_payload, frame_bytes}
use Rattle.route_frames.specs.Laws.{BeginsNoOther}
use Rattle.route_frames.proofs.Cuts.Behind.{drop_front}
use Rattle.route_frames.proofs.Cuts.Spaces.{take_front}
use Rattle.route_frames.proofs.Again.Routes.{is_cut_again, is_announced_again, is_read_again}

abbrev behind_line : RouteFrame → List ℕ → List ℕ
behind_line frame rest = payload_bytes (canonical_payload frame) ++ rest

shape : (frame : RouteFrame) (rest : List ℕ)
    → frame_bytes frame ++ rest ≡ canonical_line frame ++ (line_end ++ behind_line frame rest)
shape frame rest = append_assoc (canonical_line frame) (line_end ++ payload_bytes (canonical_payload frame)) rest

-- ---- what is cut or read of the same bytes is the same

same_line : (one other : List ℕ) (cut : Answer)
    → cut ≡ Ok (Some (line one))
    → cut ≡ Ok (Some (line other))
    → one ≡ other
same_line one other cut is is_too = cc

same_meaning : {A : Type 0} (one other : A) (meaning : Meaning A) → meaning ≡ Ok one → meaning ≡ Ok other → one ≡ other
same_meaning one other meaning is is_too = cc

same_behind : (x y z w : ℕ) (one other : List ℕ) → x ∷ y ∷ one ≡ z ∷ w ∷ other → one ≡ other
same_behind x y z w one other is = cc

some_length : (a b : ℕ) → Some a ≡ Some b → a ≡ b
some_length a b is = cc

same_payload : (one other : Option (List ℕ)) (rest more : List ℕ)
    → option_map (λ bytes. length bytes) one ≡ option_map (λ bytes. length bytes) other
    → payload_bytes one ++ rest ≡ payload_bytes other ++ more
    → one ≡ other
same_payload None None rest more sizes is = refl
same_payload None (Some bytes) rest more sizes is = absurd (cc)
same_payload (Some bytes) None rest more sizes is = absurd (cc)
same_payload (Some bytes) (Some others) rest more sizes is =
    let len = some_length (length bytes) (length others) sizes in
    let whole : bytes ++ (line_end ++ rest) ≡ others ++ (line_end ++ more) =
    sym (append_assoc bytes line_end rest) ∙ is ∙ append_assoc others line_end more in
    ap (λ b. Some b)
    (sym (take_front bytes (line_end ++ rest)) ∙ ap (take (length bytes)) whole
    ∙ ap (λ n. take n (others ++ (line_end ++ more))) len ∙ take_front others (line_end ++ more))

-- ---- so the lines are the same, then the payloads, then the frames

pub begins_no_other : BeginsNoOther
begins_no_other one other rest more is is_too same =
    let whole : canonical_line one ++ (line_end ++ behind_line one rest)
    ≡ canonical_line other ++ (line_end ++ behind_line other more) = sym (shape one rest) ∙ same ∙ shape other more in
    let lines : canonical_line one ≡ canonical_line other = same_line (canonical_line one) (canonical_line other)
    (cut_line ROUTE_LINE (canonical_line one ++ (line_end ++ behind_line one rest)))
    (is_cut_again one (behind_line one rest) is)
    (ap (cut_line ROUTE_LINE) whole ∙ is_cut_again other (behind_line other more) is_too) in
    let tails : line_end ++ behind_line one rest ≡ line_end ++ behind_line other more =
    sym (drop_front (canonical_line one) (line_end ++ behind_line one rest))
    ∙ ap (drop (length (canonical_line one))) whole
    ∙ ap (λ line. drop (length line) (canonical_line other ++ (line_end ++ behind_line other more))) lines
    ∙ drop_front (canonical_line other) (line_end ++ behind_line other more) in
    let sizes = same_meaning (option_map (λ payload. length payload) (canonical_payload one))
    (option_map (λ payload. length payload) (canonical_payload other)) (size_meaning (canonical_line one))
    (is_announced_again one is) (ap size_meaning lines ∙ is_announced_again other is_too) in
    let payloads = same_payload (canonical_payload one) (canonical_payload other) rest more sizes
    (same_behind 13 10 13 10 (behind_line one rest) (behind_line other more) tails) in
    same_meaning one other (frame_meaning (canonical_line one) (unwrap_or (canonical_payload one) []))
    (is_read_again one is)
    (ap (λ text. frame_meaning text (unwrap_or (canonical_payload one) [])) lines
    ∙ ap (λ payload. frame_meaning (canonical_line other) (unwrap_or payload [])) payloads ∙ is_read_again other is_too)
