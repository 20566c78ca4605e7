-- The content of a publication.
use Rattle.std.specs.Prelude.{ℕ, Bool, true, ◌&&◌, nat_eq, nat_le, List, [], ◌++◌, length, take, drop, codes, Option, Some, None, if◌then◌else◌}
use Rattle.std.specs.List.{starts_with}
use Rattle.subj.specs.declared.limits.TheConstants.{MAX_PAYLOAD}

-- NATS documentation, "Client Protocol": what `PUB` and `HPUB` publish; `MSG` delivers it without
-- the headers
pub record Content : Type 0 where
  pub subject : List ℕ
  pub reply : Option (List ℕ)
  -- the header block; no more is asked of it than how it begins (profile)
  pub headers : Option (List ℕ)
  pub payload : List ℕ

-- ---- header blocks

-- NATS documentation, "Client Protocol", `HPUB`: the version that a header block begins with
abbrev pub header_start : List ℕ
header_start = codes "NATS/1.0"

abbrev pub is_block : List ℕ → Bool
is_block block = starts_with nat_eq block header_start

abbrev pub are_headers : Option (List ℕ) → Bool
are_headers None = true
are_headers (Some block) = is_block block

abbrev pub block_bytes : Option (List ℕ) → List ℕ
block_bytes None = []
block_bytes (Some block) = block

-- ---- NATS documentation, "Client Protocol", `PUB` and `HPUB`: behind the line stands the payload,
-- behind the header block where there is one

pub record Body : Type 0 where
  pub headers : Option (List ℕ)
  pub payload : List ℕ

abbrev pub body_bytes : Option (List ℕ) → List ℕ → List ℕ
body_bytes headers payload = block_bytes headers ++ payload

abbrev pub body_of : Content → List ℕ
body_of content = body_bytes content.headers content.payload

-- a block is one, and within the limit with the payload behind it (profile)
abbrev pub is_body : Option (List ℕ) → List ℕ → Bool
is_body headers payload =
    are_headers headers && nat_le (length (body_bytes headers payload)) MAX_PAYLOAD

abbrev pub new_body : Option (List ℕ) → List ℕ → Option Body
new_body headers payload =
    if is_body headers payload then Some (record { headers = headers; payload = payload }) else None

-- what stands behind a line of `HPUB`, which says how many bytes the block has
abbrev pub split_body : List ℕ → ℕ → Option Body
split_body whole size =
    if is_block (take size whole)
    then Some (record { headers = Some (take size whole); payload = drop size whole })
    else None

abbrev pub content_of : List ℕ → Option (List ℕ) → Option (List ℕ) → List ℕ → Option Content
content_of subject reply headers payload =
    if is_body headers payload
    then Some (record { subject = subject; reply = reply; headers = headers; payload = payload })
    else None
