-- A header block and its payload, joined and split again.
use Rattle.std.proofs.Common.{◌≡◌, ℕ, List, ◌++◌, length, take, drop, Option, Some, None, ap, ◌∙◌}
use Rattle.std.specs.Prelude.{if◌then◌else◌}
use Rattle.std.proofs.Math.Seq.{take-append_seam, drop-append_seam}
use Rattle.subj.specs.Messages.{Body, is_block, split_body}

-- with this block and this payload, where the block is one
abbrev body_if : List ℕ → List ℕ → Option Body
body_if block payload = if is_block block then Some (record { headers = Some block; payload = payload }) else None

pub joined_splits : (block payload : List ℕ)
    → split_body (block ++ payload) (length block)
    ≡ (if is_block block then Some (record { headers = Some block; payload = payload }) else None)
joined_splits block payload =
    ap (λ front. body_if front (drop (length block) (block ++ payload))) (take-append_seam block payload)
    ∙ ap (body_if block) (drop-append_seam block payload)
