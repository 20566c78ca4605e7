-- HMAC-SHA256: RFC 2104 over the hash of FIPS 180-4. A key and a message are lists of bytes.
use Rattle.std.specs.Prelude.{ℕ, ◌-◌, nat_lt, List, ◌++◌, length, map, replicate, bit_xor, if◌then◌else◌}
use Rattle.sha2.specs.Sha256.{sha256}
use Rattle.peer_proof.specs.declared.secret.TheConstants.{BLOCK, INNER_PAD, OUTER_PAD}

-- step 1: zeros are appended to the key up to the length of a block
abbrev pub zeros_behind : List ℕ → List ℕ
zeros_behind key = key ++ replicate (BLOCK - length key) 0

-- section 3: a key that is longer than a block is hashed first
abbrev pub key_block : List ℕ → List ℕ
key_block key = if nat_lt BLOCK (length key) then zeros_behind (sha256 key) else zeros_behind key

-- steps 2 and 5
abbrev pub masked : ℕ → List ℕ → List ℕ
masked mask block = map (λ byte. bit_xor byte mask) block

-- steps 5 to 7: the outer digest, of what the inner one was made of
abbrev pub outer_digest : List ℕ → List ℕ → List ℕ
outer_digest block inner = sha256 (masked OUTER_PAD block ++ sha256 inner)

-- steps 2 to 7, of a key with this block
abbrev pub hmac_of_block : List ℕ → List ℕ → List ℕ
hmac_of_block block message = outer_digest block (masked INNER_PAD block ++ message)

abbrev pub hmac : List ℕ → List ℕ → List ℕ
hmac key message = hmac_of_block (key_block key) message
