-- Masked blocks, byte by byte.
use Rattle.std.proofs.Common.{◌≡◌, ◌≢◌, ℕ, ◌<◌, ◌+◌, List, length, map, sym, ap, ◌∙◌, refl, arith, get_or, get_or-set_other, get_or-set_same, below_more}
use Rattle.std.specs.Prelude.{bit_xor, slice_set}
use Rattle.std.proofs.lemmas.List.{get_or-map, length-map, length-set}
use Rattle.std.proofs.lemmas.Grind.{same_number_lists}
use Rattle.peer_proof.specs.Hmac.{masked}

-- the first so many bytes are masked
pub record IsMasked (bytes block : List ℕ) (mask count : ℕ) : Type 0 where
  pub whole : length bytes ≡ 64
  pub each : (k : ℕ) → k < count → get_or bytes k 0 ≡ bit_xor (get_or block k 0) mask

pub masked_more : (bytes block : List ℕ) (mask count : ℕ) → count < 64 → IsMasked bytes block mask count →
    IsMasked (slice_set bytes count (bit_xor (get_or block count 0) mask)) block mask (count + 1)
masked_more bytes block mask count below is =
    let within : count < length bytes = omega (arith, below, is.whole) in record {
      whole = length-set bytes count (bit_xor (get_or block count 0) mask) ∙ is.whole;
      each = below_more _ _
          (λ k h. let ne : k ≢ count = omega (arith, h) in rw get_or-set_other (is.each k h))
          (rw get_or-set_same refl);
    }

pub all_masked : (bytes block : List ℕ) (mask : ℕ)
    → length block ≡ 64
    → IsMasked bytes block mask 64
    → bytes ≡ masked mask block
all_masked bytes block mask size is =
    let mask_byte : ℕ → ℕ = λ byte. bit_xor byte mask in
    same_number_lists bytes (map mask_byte block) (is.whole ∙ sym (length-map block mask_byte ∙ size))
    (λ k below.
    let within : k < length block = omega (arith, below, is.whole, size) in
    is.each k (omega (arith, below, is.whole)) ∙ sym (get_or-map mask_byte block k 0 0 within))
