-- Which incarnation a start takes, and why it takes none.
use Rattle.std.specs.Prelude.{◌≡◌, ◌≢◌, ◌+◌, max, ℕ, List, Option, None, Some}
use Rattle.subj.specs.declared.limits.TheConstants.{MAX_INCARNATION}
use Rattle.incarnation_file.specs.Disk.{Content, SomeOf}
use Rattle.incarnation_file.specs.Line.{IsLine}
use Rattle.incarnation_file.specs.declared.raising.RaiseFault.{RaiseFault}
use Rattle.incarnation_file.specs.declared.raising.RaiseFault.TheVariants.{Missing, Damaged, OtherServer, Spent, Disk, OutOfMemory}

-- the incarnation of the last start, as the file tells it
abbrev pub IsLast : List ℕ → Content → Option ℕ → Type 0
IsLast server None last = last ≡ None
IsLast server (Some bytes) None = ⊥
IsLast server (Some bytes) (Some n) = IsLine server n bytes

-- one more than the last one, or the least that is given; the first is the one that is given
abbrev pub number_after : Option ℕ → Option ℕ → Option ℕ
number_after least None = least
number_after None (Some last) = Some (last + 1)
number_after (Some least) (Some last) = Some (max (last + 1) least)

abbrev pub IsNext : List ℕ → Option ℕ → Content → ℕ → Type 0
IsNext server least file n =
    (last : Option ℕ) × IsLast server file last × (number_after least last ≡ Some n)

-- there is no incarnation after the last one
abbrev pub HasNoNext : Option ℕ → Option ℕ → RaiseFault → Type 0
HasNoNext least last Missing = (last ≡ None) × (least ≡ None)
HasNoNext least last Spent = last ≡ Some MAX_INCARNATION
HasNoNext least last _ = ⊥

-- what a fault of reading the file tells of it
abbrev pub ReadTells : List ℕ → Content → RaiseFault → Type 0
ReadTells server file Damaged =
    SomeOf (λ bytes. (other : List ℕ) (n : ℕ) → IsLine other n bytes → ⊥) file
ReadTells server file (OtherServer other) =
    (other ≢ server) × SomeOf (λ bytes. (n : ℕ) × IsLine other n bytes) file
ReadTells server file (Disk _) = Unit {0}
ReadTells server file OutOfMemory = Unit {0}
ReadTells server file Missing = ⊥
ReadTells server file Spent = ⊥

-- what each fault of a start tells of the file
abbrev pub FaultTells : List ℕ → Option ℕ → Content → RaiseFault → Type 0
FaultTells server least file Missing = (file ≡ None) × (least ≡ None)
FaultTells server least file Spent = SomeOf (IsLine server MAX_INCARNATION) file
FaultTells server least file fault = ReadTells server file fault
