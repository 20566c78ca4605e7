-- One word for the contract of a call that can be refused and that takes memory.
use Rattle.std.specs.Prelude.{◌≡◌, Option, Some, None, Result, Ok, Err}
use Rattle.subj.specs.declared.failures.Failure.{Failure}
use Rattle.subj.specs.declared.failures.Failure.TheVariants.{Refused, OutOfMemory}

-- A refusal is the cause; want of memory comes only where there is no cause. Each leaves what
-- `same` says.
abbrev pub IsRefused : {R : Type 0} → Option R → Type 0 → Failure R → Type 0
IsRefused cause same (Refused why) = (cause ≡ Some why) × same
IsRefused cause same OutOfMemory = (cause ≡ None) × same

-- Done just where there is no cause, and then so; else refused by the cause.
abbrev pub IsAnswered : {R T : Type 0} → Option R → (T → Type 0) → Type 0 → Result T (Failure R)
    → Type 0
IsAnswered cause done same (Ok x) = (cause ≡ None) × done x
IsAnswered cause done same (Err why) = IsRefused cause same why

-- The same of a call that takes no memory.
abbrev pub IsDecided : {R T : Type 0} → Option R → (T → Type 0) → Type 0 → Result T R → Type 0
IsDecided cause done same (Ok x) = (cause ≡ None) × done x
IsDecided cause done same (Err why) = (cause ≡ Some why) × same

-- Nothing but want of memory kept a call from its answer.
abbrev pub IsWantOfMemory : {R : Type 0} → Failure R → Type 0
IsWantOfMemory (Refused why) = ⊥
IsWantOfMemory OutOfMemory = Unit {0}
