-- How entries are kept: small ones as bytes one behind another, larger ones and last lines as they
-- came.
use Rattle.std.specs.Prelude.{ℕ, ◌+◌, Bool, true, false, List, [], ◌∷◌, map, take, drop, slice_index_or}
use Rattle.subj.specs.declared.identities.SubId.{SubId}
use Rattle.outbox.specs.Views.{Written}
use Rattle.outbox.specs.declared.kept.Kept.{Kept}
use Rattle.outbox.specs.declared.kept.Kept.TheVariants.{Copied, Whole}
use Rattle.outbox.specs.declared.kept.Mark.{Mark}
use Rattle.outbox.specs.declared.kept.Mark.TheVariants.{Answer, Message, Grouped}
use Rattle.outbox.specs.declared.run_tails.TailMark.{TailMark}
use Rattle.outbox.specs.declared.entries.Tag.TheVariants.{Reply, Msg}
use Rattle.outbox.specs.declared.entries.Mode.{Mode}
use Rattle.outbox.specs.declared.entries.Mode.TheVariants.{Plain}

-- how many of the bytes are the entry's
abbrev pub copied_len : Kept → ℕ
copied_len (Copied tag len) = len
copied_len (Whole entry) = 0

abbrev pub is_whole : Kept → Bool
is_whole (Copied tag len) = false
is_whole (Whole entry) = true

-- the entry, whose bytes are the first of these where they were copied
abbrev pub written_at : Kept → List ℕ → Written
written_at (Copied tag len) bytes = record { tag = tag; bytes = take len bytes }
written_at (Whole entry) bytes = entry

abbrev pub written_in : List Kept → List ℕ → List Written
written_in [] bytes = []
written_in (kept ∷ others) bytes =
    written_at kept bytes ∷ written_in others (drop (copied_len kept) bytes)

abbrev pub copied_of : List Kept → ℕ
copied_of [] = 0
copied_of (kept ∷ others) = copied_len kept + copied_of others

-- how an entry is kept that has a mark, where the messages to members of a queue group came in this
-- mode
abbrev pub kept_of : Mode → Mark → Kept
kept_of mode (Answer len) = Copied Reply len
kept_of mode (Message id sub len) = Copied (Msg id sub Plain) len
kept_of mode (Grouped id sub len) = Copied (Msg id sub mode) len

-- how a message of a run is kept, whose head has so many bytes
abbrev pub kept_in_run : SubId → ℕ → TailMark → Kept
kept_in_run sub head_len tail = Copied (Msg tail.id sub Plain) (head_len + tail.len)

-- its mark
abbrev pub mark_in_run : SubId → ℕ → TailMark → Mark
mark_in_run sub head_len tail = Message tail.id sub (head_len + tail.len)

-- how a run is kept
abbrev pub kept_run : SubId → ℕ → List TailMark → List Kept
kept_run sub head_len tails = map (λ tail. kept_in_run sub head_len tail) tails

-- how the entry at a place is kept
abbrev pub kept_at : List Kept → ℕ → Kept
kept_at entries place = slice_index_or entries place (Copied Reply 0)

-- what is kept, in order, how many there can be without more memory where the last one owns
-- anything, for how many marks more there is room, and how many stand behind all that have marks
pub record KeptItems : Type 0 where
  pub items : List Kept
  pub places : ℕ
  pub spare : ℕ
  pub behind : ℕ

-- entries in order, and how many there can be without more memory
pub record Queued : Type 0 where
  pub entries : List Written
  pub places : ℕ
