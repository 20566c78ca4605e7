-- An entry and an outbox as other crates see them.
use Rattle.std.specs.Prelude.{◌≡◌, ◌≤◌, ℕ, ◌+◌, ◌*◌, ◌/◌, Bool, true, false, not, ◌&&◌, ◌||◌, nat_lt, nat_le, List, [], ◌∷◌, ◌++◌, length, drop, sum_by, flat_map}
use Rattle.outbox.specs.declared.entries.Tag.{Tag}
use Rattle.outbox.specs.declared.entries.Tag.TheVariants.{Reply, Msg}
use Rattle.outbox.specs.declared.entries.Mode.{Mode}
use Rattle.subj.specs.declared.identities.PubId.{PubId}
use Rattle.subj.specs.declared.identities.SubId.{SubId}
use Rattle.outbox.specs.Bytes.{bytes_of}
use Rattle.outbox.specs.declared.outbox.TheConstants.{LAST_LINE_TEXT}
use Rattle.std.specs.Prelude.{Some, None}
use Rattle.std.specs.Prelude.{map}
use Rattle.outbox.specs.declared.entries.Mode.TheVariants.{Plain}

-- an entry: what it is, and all its bytes
pub record Written : Type 0 where
  pub tag : Tag
  pub bytes : List ℕ

-- an answer, or a last line
abbrev pub reply_entry : List ℕ → Written
reply_entry line = record { tag = Reply; bytes = bytes_of line None }

-- a message of these bytes, which are all it has
abbrev pub spelt_entry : PubId → SubId → Mode → List ℕ → Written
spelt_entry id sub mode bytes = record { tag = Msg id sub mode; bytes = bytes }

abbrev pub message_entry : PubId → SubId → Mode → List ℕ → List ℕ → Written
message_entry id sub mode line payload = spelt_entry id sub mode (bytes_of line (Some payload))

-- the entries that wait, in order, and whether the last line was put (profile)
pub record Backlog : Type 0 where
  pub entries : List Written
  pub shut : Bool

-- what waits; what will wait once all that was staged is shown; the limits
pub record Waiting : Type 0 where
  pub shown : Backlog
  pub next : Backlog
  pub max_entries : ℕ
  pub max_bytes : ℕ

abbrev pub empty_backlog : Backlog
empty_backlog = record { entries = []; shut = false }

abbrev pub empty_outbox : ℕ → ℕ → Waiting
empty_outbox max_entries max_bytes = record {
  shown = empty_backlog;
  next = empty_backlog;
  max_entries = max_entries;
  max_bytes = max_bytes;
}

abbrev pub size_of : List Written → ℕ
size_of entries = sum_by (λ entry. length entry.bytes) entries

-- the bytes of all the entries, in order
abbrev pub bytes_of_all : List Written → List ℕ
bytes_of_all entries = flat_map (λ entry. entry.bytes) entries

-- an entry of this many bytes may be put: not behind the last line, and within both limits
-- (profile)
abbrev pub has_room : ℕ → ℕ → ℕ → Backlog → Bool
has_room max_entries max_bytes len backlog =
    not backlog.shut
    && (nat_lt (length backlog.entries) max_entries
    && nat_le (size_of backlog.entries + len) max_bytes)

-- half of the entries that may wait do, or there is no room for half of the bytes that may, as
-- behind a last line
abbrev pub is_half_full : ℕ → ℕ → Backlog → Bool
is_half_full max_entries max_bytes backlog =
    nat_le (max_entries / 2) (length backlog.entries)
    || not (has_room max_entries max_bytes (max_bytes / 2) backlog)

abbrev pub with_entry : Written → Backlog → Backlog
with_entry entry backlog = record { entries = backlog.entries ++ entry ∷ []; shut = backlog.shut }

-- entries are put one behind another, in one piece
abbrev pub with_entries : List Written → Backlog → Backlog
with_entries entries backlog =
    record { entries = backlog.entries ++ entries; shut = backlog.shut }

-- all of these may be put: not behind the last line, and within both limits (profile)
abbrev pub has_room_for_all : ℕ → ℕ → List Written → Backlog → Bool
has_room_for_all max_entries max_bytes entries backlog =
    not backlog.shut
    && (nat_le (length backlog.entries + length entries) max_entries
    && nat_le (size_of backlog.entries + size_of entries) max_bytes)

-- each of so many, of at most so many bytes, may be put behind the others: not behind the last
-- line, and within both limits (profile)
pub record HasRoomForEach (count len max_entries max_bytes : ℕ) (backlog : Backlog) : Type 0 where
  pub not_shut : backlog.shut ≡ false
  pub few : length backlog.entries + count ≤ max_entries
  pub small : size_of backlog.entries + count * len ≤ max_bytes

-- what a message of a run has of its own: its publication, and its bytes behind the id of a
-- subscription
pub record Tail : Type 0 where
  pub id : PubId
  pub bytes : List ℕ

-- how many bytes they have together
abbrev pub tail_bytes : List Tail → ℕ
tail_bytes tails = sum_by (λ tail. length tail.bytes) tails

-- the head before each of these
abbrev pub run_text : List ℕ → List Tail → List ℕ
run_text head tails = flat_map (λ tail. head ++ tail.bytes) tails

-- a message of each of these to one plain subscription, whose id ends the head
abbrev pub message_run : SubId → List ℕ → List Tail → List Written
message_run sub head tails = map (λ tail. spelt_entry tail.id sub Plain (head ++ tail.bytes)) tails

-- the last line goes beyond both limits (profile)
abbrev pub with_last : List ℕ → Backlog → Backlog
with_last line backlog = record { entries = backlog.entries ++ reply_entry line ∷ []; shut = true }

abbrev pub without_first : ℕ → Backlog → Backlog
without_first count backlog = record { entries = drop count backlog.entries; shut = backlog.shut }

-- a last line may be put: not behind another, and no longer than the room that is kept for it
abbrev pub takes_last : List ℕ → Backlog → Bool
takes_last line backlog = not backlog.shut && nat_le (length line) LAST_LINE_TEXT

-- what was staged is dropped, and what waits changes
abbrev pub on_shown : (Backlog → Backlog) → Waiting → Waiting
on_shown change box = record box { shown = change box.shown; next = change box.shown }

-- nothing is staged
abbrev pub on_both : (Backlog → Backlog) → Waiting → Waiting
on_both change box = record box { shown = change box.shown; next = change box.next }
