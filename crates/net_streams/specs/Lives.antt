-- All that happens to bytes on their way to a stream: what a stream took of them does not depend on
-- when they were put there, when runs of writes were made, and how much the stream took at a time.
use Rattle.std.specs.Prelude.{◌≡◌, ℕ, Bool, true, List, [], ◌∷◌, ◌++◌, Ok, Err}
use Rattle.net_streams.specs.declared.stream.StreamFault.TheVariants.{WouldBlock, Failed}
use Rattle.net_streams.specs.Writes.{Came, Took}
use Rattle.net_streams.specs.Memory.{MemStreamState, Gave, Wrote}

pub data Happening : Type 0 where
  -- these bytes are put behind those that are unwritten
  put : List ℕ → Happening
  -- a run of writes takes these of the unwritten bytes
  taken : List ℕ → Happening
  -- a read comes to this
  read : Came → Happening

-- whether a stream has failed by a read at the latest
abbrev pub failed_by : Came → Bool → Bool
failed_by (Ok bytes) was = was
failed_by (Err WouldBlock) was = was
failed_by (Err Failed) was = true

-- From these unwritten bytes, and a stream that may have failed, all this happens, and leaves the
-- others.
abbrev pub Lives : {S : Type 0} → (S → Came → S → Type 0) → (S → Came → S → Type 0) → List ℕ → Bool
    → S → List Happening → List ℕ → Bool → S → Type 0
Lives gave wrote bytes was before [] rest failed after =
    (rest ≡ bytes) × (failed ≡ was) × (after ≡ before)
Lives gave wrote bytes was before (put more ∷ later) rest failed after =
    Lives gave wrote (bytes ++ more) was before later rest failed after
Lives {S} gave wrote bytes was before (taken front ∷ later) rest failed after =
    (left : List ℕ)
    × (now : Bool)
    × (next : S)
    × Took wrote bytes was before front left now next
    × Lives gave wrote left now next later rest failed after
Lives {S} gave wrote bytes was before (read came ∷ later) rest failed after =
    (next : S)
    × gave before came next
    × Lives gave wrote bytes (failed_by came was) next later rest failed after

-- all bytes that were put there
abbrev pub all_put : List Happening → List ℕ
all_put [] = []
all_put (put bytes ∷ later) = bytes ++ all_put later
all_put (taken bytes ∷ later) = all_put later
all_put (read came ∷ later) = all_put later

-- all bytes that the stream took
abbrev pub all_taken : List Happening → List ℕ
all_taken [] = []
all_taken (put bytes ∷ later) = all_taken later
all_taken (taken bytes ∷ later) = bytes ++ all_taken later
all_taken (read came ∷ later) = all_taken later

-- What the stream took, and behind it what is unwritten, is all that was to be written, in order.
abbrev pub KeepsOrder : {S : Type 0} → (S → Came → S → Type 0) → (S → Came → S → Type 0) → Type 0
KeepsOrder {S} gave wrote =
    (bytes : List ℕ) (was : Bool) (before : S) (life : List Happening) (rest : List ℕ)
    (failed : Bool) (after : S)
    → Lives gave wrote bytes was before life rest failed after
    → all_taken life ++ rest ≡ bytes ++ all_put life

-- Once it has failed, a stream takes nothing.
abbrev pub EndsAtFailure : {S : Type 0} → (S → Came → S → Type 0) → (S → Came → S → Type 0) → Type 0
EndsAtFailure {S} gave wrote =
    (bytes : List ℕ) (before : S) (life : List Happening) (rest : List ℕ) (failed : Bool)
    (after : S)
    → Lives gave wrote bytes true before life rest failed after
    → (all_taken life ≡ []) × (failed ≡ true)

-- What a stream in memory shows as written is, behind what was there before, just what it took.
abbrev pub HoldsWhatItTook : Type 0
HoldsWhatItTook =
    (bytes : List ℕ) (was : Bool) (before : MemStreamState) (life : List Happening) (rest : List ℕ)
    (failed : Bool) (after : MemStreamState)
    → Lives Gave Wrote bytes was before life rest failed after
    → after.written ≡ before.written ++ all_taken life
