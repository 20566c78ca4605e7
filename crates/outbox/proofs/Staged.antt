-- What an outbox's fields keep, and how it is seen, where an entry is put behind.
use Rattle.std.specs.Prelude.{Result, Ok, Err, OnErr, OnOk, is_err, Some, None}
use Rattle.std.proofs.Common.{◌≡◌, ℕ, ◌+◌, ◌-◌, ◌*◌, ◌/◌, ◌<◌, ◌≤◌, min, Bool, true, false, not, ◌&&◌, nat_lt, nat_le, List, [], ◌∷◌, ◌++◌, length, take, refl, sym, ap, ◌∙◌, arith, length-append}
use Rattle.std.proofs.Math.Nat.{div-mul-le_self, mul-le-mul_right}
use Rattle.std.proofs.lemmas.Bool.Decides.{nat_tests}
use Rattle.std.proofs.lemmas.List.{take-append-le, take_all}
use Rattle.std.proofs.lemmas.List.Sums.{sum_by-append}
use Rattle.outbox.specs.Bytes.{bytes_of, line_end}
use Rattle.outbox.specs.Sound.{IsSound, HasLastLine}
use Rattle.outbox.specs.Views.{Written, Waiting, HasRoomForEach, size_of}

-- what there is room for: no last line, and so many bytes more
pub room_left : (shut : Bool) (count most_count size len most : ℕ)
    → (not shut && (nat_lt count most_count && nat_le (size + len) most)) ≡ true
    → (shut ≡ false) × (size + len ≤ most)
room_left true count most_count size len most is = absurd (cc)
room_left false count most_count size len most is = (refl, grind (arith, nat_tests))

sizes_within : (size bytes most all whole : ℕ)
    → bytes ≡ size → bytes ≤ most → all ≤ whole → whole ≤ most - bytes → size + all ≤ most
sizes_within size bytes most all whole is fit few small = omega (arith, is, fit, few, small)

pub least_of : (n a b : ℕ) → n ≡ min a b → (n ≤ a) × (n ≤ b)
least_of n a b is = (omega (arith, is), omega (arith, is))

-- and for several entries, of as many bytes at most
pub room_for_each : (entries : List Written) (count len max_entries max_bytes bytes : ℕ) (closing : Bool)
    → closing ≡ false
    → bytes ≡ size_of entries
    → bytes ≤ max_bytes
    → 0 < count
    → count ≤ max_entries - length entries
    → count ≤ (max_bytes - bytes) / len
    → HasRoomForEach count len max_entries max_bytes (record { entries = entries; shut = closing })
room_for_each entries count len max_entries max_bytes bytes closing unshut counted fit some few small =
    let whole = (max_bytes - bytes) / len in record {
      not_shut = unshut;
      few = omega (arith, few, some);
      small =
          sizes_within (size_of entries) bytes max_bytes (count * len) (whole * len) counted fit
          (mul-le-mul_right len small) (div-mul-le_self (max_bytes - bytes) len);
    }

pub reply_size : (line : List ℕ) → length (bytes_of line None) ≡ length line + 2
reply_size line =
    let end = length-append line line_end in
    let all = length-append (line ++ line_end) [] in
    omega (arith, end, all)

pub message_size : (line payload : List ℕ) → length (bytes_of line (Some payload)) ≡ length line + length payload + 4
message_size line payload =
    let end = length-append line line_end in
    let behind = length-append payload line_end in
    let all = length-append (line ++ line_end) (payload ++ line_end) in
    omega (arith, end, behind, all)

-- entries within the limits are put behind, and their bytes are counted
pub sound_with_all : (entries next more : List Written) (capacity places shown shown_bytes bytes count most : ℕ)
    (shut closing : Bool)
    → IsSound entries capacity shown shown_bytes bytes shut closing most
    → closing ≡ false
    → size_of entries + size_of more ≤ most
    → next ≡ entries ++ more
    → length next + 1 ≤ places
    → count ≡ bytes + size_of more
    → IsSound next places shown shown_bytes count shut closing most
sound_with_all entries next more capacity places shown shown_bytes bytes count most shut closing sound unshut room put
    place counts =
    let within = sound.within in
    let counted : bytes ≡ size_of entries = sound.counted unshut in
    let size : length next ≡ length entries + length more = ap length put ∙ length-append entries more in
    let all : size_of next ≡ size_of entries + size_of more =
    ap size_of put ∙ sum_by-append (λ (e : Written). length e.bytes) entries more in
    let first : take shown next ≡ take shown entries = ap (take shown) put ∙ take-append-le shown entries more within in
    record {
      within = omega (arith, within, size);
      counted = λ e. omega (arith, counted, all, counts);
      shown_counted = λ e. sound.shown_counted e ∙ sym (ap size_of first);
      still_shut = sound.still_shut;
      bytes_fit = omega (arith, counted, room, counts);
      shown_fit = sound.shown_fit;
      places = λ e. place;
      shown_places = λ e. omega (arith, within, size, place);
    }

size_alone : (entry : Written) → size_of (entry ∷ []) ≡ length entry.bytes
size_alone entry = omega arith

-- and one
pub sound_with : (entries next : List Written) (entry : Written)
    (capacity places shown shown_bytes bytes count most : ℕ) (shut closing : Bool)
    → IsSound entries capacity shown shown_bytes bytes shut closing most
    → closing ≡ false
    → size_of entries + length entry.bytes ≤ most
    → next ≡ entries ++ entry ∷ []
    → length next + 1 ≤ places
    → count ≡ bytes + length entry.bytes
    → IsSound next places shown shown_bytes count shut closing most
sound_with entries next entry capacity places shown shown_bytes bytes count most shut closing sound unshut room put
    place more =
    let size = size_alone entry in
    sound_with_all entries next (entry ∷ []) capacity places shown shown_bytes bytes count most shut closing sound
    unshut (omega (arith, room, size)) put place (omega (arith, more, size))

-- the same entries, with as many places or more
pub sound_still : (entries same : List Written) (capacity places shown shown_bytes bytes most : ℕ) (shut closing : Bool)
    → IsSound entries capacity shown shown_bytes bytes shut closing most
    → same ≡ entries
    → capacity ≤ places
    → IsSound same places shown shown_bytes bytes shut closing most
sound_still entries same capacity places shown shown_bytes bytes most shut closing sound is more =
    let size : length same ≡ length entries = ap length is in
    record {
      within = let within = sound.within in omega (arith, within, size);
      counted = λ e. sound.counted e ∙ sym (ap size_of is);
      shown_counted = λ e. sound.shown_counted e ∙ sym (ap (λ l. size_of (take shown l)) is);
      still_shut = sound.still_shut;
      bytes_fit = sound.bytes_fit;
      shown_fit = sound.shown_fit;
      places = λ e. let was = sound.places e in omega (arith, was, size, more);
      shown_places = λ e. let was = sound.shown_places e in omega (arith, was, more);
    }

abbrev pub seen_as : ℕ → List Written → Bool → Bool → ℕ → ℕ → Waiting
seen_as shown entries shut closing max_entries max_bytes = record {
  shown = record { entries = take shown entries; shut = shut };
  next = record { entries = entries; shut = closing };
  max_entries = max_entries;
  max_bytes = max_bytes;
}

pub seen_still : (entries same : List Written) (shown max_entries max_bytes : ℕ) (shut closing : Bool)
    → same ≡ entries
    → seen_as shown same shut closing max_entries max_bytes ≡ seen_as shown entries shut closing max_entries max_bytes
seen_still entries same shown max_entries max_bytes shut closing is =
    ap (λ l. seen_as shown l shut closing max_entries max_bytes) is

-- what waits is the same, and these are behind
pub seen_with_all : (entries next more : List Written) (shown max_entries max_bytes : ℕ) (shut closing : Bool)
    → shown ≤ length entries
    → next ≡ entries ++ more
    → ◌≡◌ {A = Waiting} (seen_as shown next shut closing max_entries max_bytes) (record {
      shown = record { entries = take shown entries; shut = shut };
      next = record { entries = entries ++ more; shut = closing };
      max_entries = max_entries;
      max_bytes = max_bytes;
    })
seen_with_all entries next more shown max_entries max_bytes shut closing within put =
    ap (λ (l : List Written). seen_as shown l shut closing max_entries max_bytes) put
    ∙ ap (λ (l : List Written). record {
      shown = record { entries = l; shut = shut };
      next = record { entries = entries ++ more; shut = closing };
      max_entries = max_entries;
      max_bytes = max_bytes;
    })
    (take-append-le shown entries more within)

-- and one
pub seen_with : (entries next : List Written) (entry : Written) (shown max_entries max_bytes : ℕ) (shut closing : Bool)
    → shown ≤ length entries
    → next ≡ entries ++ entry ∷ []
    → ◌≡◌ {A = Waiting} (seen_as shown next shut closing max_entries max_bytes) (record {
      shown = record { entries = take shown entries; shut = shut };
      next = record { entries = entries ++ entry ∷ []; shut = closing };
      max_entries = max_entries;
      max_bytes = max_bytes;
    })
seen_with entries next entry shown max_entries max_bytes shut closing within put =
    seen_with_all entries next (entry ∷ []) shown max_entries max_bytes shut closing within put

-- what holds where it was done
pub ok_of : {T E P : Type 0} (r : Result T E) → is_err r ≡ false → OnOk r P → P
ok_of (Ok x) is p = p
ok_of (Err e) is p = absurd (cc)

-- a failure leaves it so
pub left_after : {T E P : Type 0} (r : Result T E) → P → OnErr r P
left_after (Ok x) p = tt
left_after (Err e) p = p

-- ---- the last line

pub sound_shut : (entries : List Written) (places shown shown_bytes bytes most : ℕ)
    → shown ≤ length entries
    → shown_bytes ≤ most
    → bytes ≤ most
    → IsSound entries places shown shown_bytes bytes true true most
sound_shut entries places shown shown_bytes bytes most within shown_fit fit = record {
  within = within;
  counted = λ e. absurd (cc);
  shown_counted = λ e. absurd (cc);
  still_shut = λ e. absurd (cc);
  bytes_fit = fit;
  shown_fit = shown_fit;
  places = λ e. absurd (cc);
  shown_places = λ e. absurd (cc);
}

pub last_line_used : (line : List ℕ) (capacity : ℕ) → HasLastLine true line capacity
last_line_used line capacity = record { room = λ e. absurd (cc); empty = λ e. absurd (cc) }

-- where nothing is staged, it is behind all that waits
pub seen_last : (entries next : List Written) (entry : Written) (shown count max_entries max_bytes : ℕ)
    → next ≡ entries ++ entry ∷ []
    → count ≡ length next
    → take shown entries ≡ entries
    → ◌≡◌ {A = Waiting} (seen_as count next true true max_entries max_bytes) (record {
      shown = record { entries = take shown entries ++ entry ∷ []; shut = true };
      next = record { entries = entries ++ entry ∷ []; shut = true };
      max_entries = max_entries;
      max_bytes = max_bytes;
    })
seen_last entries next entry shown count max_entries max_bytes put all settled =
    let whole : take count next ≡ next = take_all count next (omega (arith, all)) in
    ap (λ (l : List Written). record {
      shown = record { entries = l; shut = true };
      next = record { entries = next; shut = true };
      max_entries = max_entries;
      max_bytes = max_bytes;
    })
    whole
    ∙ ap (λ (l : List Written). record {
      shown = record { entries = l; shut = true };
      next = record { entries = l; shut = true };
      max_entries = max_entries;
      max_bytes = max_bytes;
    })
    put
    ∙ ap (λ (l : List Written). record {
      shown = record { entries = l ++ entry ∷ []; shut = true };
      next = record { entries = entries ++ entry ∷ []; shut = true };
      max_entries = max_entries;
      max_bytes = max_bytes;
    })
    (sym settled)
