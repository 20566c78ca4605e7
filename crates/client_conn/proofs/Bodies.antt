-- What stands behind the line of a publication.
use Rattle.std.proofs.Common.{◌≡◌, ℕ, List, length, take, drop, Option, Some, None, ap, sym, ◌∙◌}
use Rattle.std.specs.Prelude.{min, if◌then◌else◌}
use Rattle.std.proofs.lemmas.List.{take_min, drop_min}
use Rattle.subj.specs.Messages.{Body, is_block, split_body}
use Rattle.client_conn.specs.Items.{body_in}

abbrev body_at : List ℕ → List ℕ → Option Body
body_at block payload = if is_block block then Some (record { headers = Some block; payload = payload }) else None

-- a header block ends where the bytes do
pub body_split : (headers : Option ℕ) (size : ℕ) (bytes : List ℕ) (n : ℕ)
    → headers ≡ Some size
    → n ≡ min size (length bytes)
    → split_body bytes n ≡ body_in headers bytes
body_split headers size bytes n are is =
    ap (split_body bytes) is
    ∙ ap (λ block. body_at block (drop (min size (length bytes)) bytes)) (take_min size bytes)
    ∙ ap (body_at (take size bytes)) (drop_min size bytes)
    ∙ ap (λ h. body_in h bytes) (sym are)
