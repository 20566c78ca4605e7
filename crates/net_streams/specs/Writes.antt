-- What a stream took and gave, call by call, and how a run of writes ends.
use Rattle.std.specs.Prelude.{◌≡◌, ℕ, ◌<◌, Bool, true, false, ◌||◌, ◌&&◌, nat_eq, nat_lt, List, [], ◌∷◌, ◌++◌, length, take, Result, Ok, Err, ◌⊎◌}
use Rattle.std.specs.List.{concat}
use Rattle.net_streams.specs.declared.stream.StreamFault.{StreamFault}
use Rattle.net_streams.specs.declared.stream.StreamFault.TheVariants.{WouldBlock, Failed}

-- ---- calls

-- what a call came to: the bytes that it took or gave, in order, or why there are none
abbrev pub Came : Type 0
Came = Result (List ℕ) StreamFault

-- a call answers how many bytes it took or gave, from the front of these
abbrev pub came_of : Result ℕ StreamFault → List ℕ → Came
came_of (Ok n) bytes = Ok (take n bytes)
came_of (Err fault) bytes = Err fault

-- the bytes that a call took or gave
abbrev pub bytes_in : Came → List ℕ
bytes_in (Ok bytes) = bytes
bytes_in (Err fault) = []

-- ---- writes

-- writes, each from the state that the one before left, took these parts, of which none is empty
abbrev pub TakeParts : {S : Type 0} → (S → Came → S → Type 0) → S → List (List ℕ) → S → Type 0
TakeParts wrote before [] after = after ≡ before
TakeParts {S} wrote before (part ∷ more) after =
    (next : S) × (0 < length part) × wrote before (Ok part) next × TakeParts wrote next more after

-- Writes took just these bytes, one behind the other: nothing else was written, nothing twice, and
-- nothing is left out.
pub record Writes {S : Type 0} (wrote : S → Came → S → Type 0) (before : S) (bytes : List ℕ)
    (after : S) : Type 0 where
  pub parts : List (List ℕ)
  pub are : concat parts ≡ bytes
  pub took : TakeParts wrote before parts after

-- A write took no byte of those that it was given: the stream has failed, or it would have to wait.
-- A stream that takes none and tells no fault has failed too.
abbrev pub TookNone : {S : Type 0} → (S → Came → S → Type 0) → Bool → S → S → Type 0
TookNone wrote true before after = wrote before (Err Failed) after ⊎ wrote before (Ok []) after
TookNone wrote false before after = wrote before (Err WouldBlock) after

-- ---- runs

-- A run of writes ends where nothing is left, or behind the first write that took none of what is
-- left.
abbrev pub EndsSo : {S : Type 0} → (S → Came → S → Type 0) → List ℕ → Bool → S → S → Type 0
EndsSo wrote rest failed there after =
    ((rest ≡ []) × (failed ≡ false) × (after ≡ there))
    ⊎ ((0 < length rest) × TookNone wrote failed there after)

-- writes took these from the front of the bytes, and left the rest
pub record TookFront {S : Type 0} (wrote : S → Came → S → Type 0) (bytes : List ℕ) (before : S)
    (taken rest : List ℕ) (failed : Bool) (after : S) : Type 0 where
  pub split : taken ++ rest ≡ bytes
  pub there : S
  pub writes : Writes wrote before taken there
  pub end : EndsSo wrote rest failed there after

-- the same of a stream that may have failed before: then no write is made
abbrev pub Took : {S : Type 0} → (S → Came → S → Type 0) → List ℕ → Bool → S → List ℕ → List ℕ
    → Bool → S → Type 0
Took wrote bytes true before taken rest failed after =
    (taken ≡ []) × (rest ≡ bytes) × (failed ≡ true) × (after ≡ before)
Took wrote bytes false before taken rest failed after =
    TookFront wrote bytes before taken rest failed after

-- A run of writes was made of these bytes, and left the rest.
abbrev pub HasWritten : {S : Type 0} → (S → Came → S → Type 0) → List ℕ → Bool → S → List ℕ → Bool
    → S → Type 0
HasWritten wrote bytes was_failed before rest failed after =
    (taken : List ℕ) × Took wrote bytes was_failed before taken rest failed after

-- ---- reads

-- one read was made, and this is what it came to; a stream that fails then has failed from there on
abbrev pub HasRead : {S E : Type 0} → (S → Came → S → Type 0) → List ℕ → Result ℕ E → Bool → S
    → Bool → S → Type 0
HasRead gave buffer (Ok n) was_failed before failed after =
    gave before (Ok (take n buffer)) after × (failed ≡ was_failed)
HasRead gave buffer (Err e) was_failed before failed after =
    (gave before (Err WouldBlock) after × (failed ≡ was_failed))
    ⊎ (gave before (Err Failed) after × (failed ≡ true))

-- whether nothing comes any more: a read of no bytes into some room says so, and it stays so
abbrev pub ended_after : {E : Type 0} → Result ℕ E → List ℕ → Bool → Bool
ended_after (Ok n) buffer was = was || (nat_eq n 0 && nat_lt 0 (length buffer))
ended_after (Err e) buffer was = was
